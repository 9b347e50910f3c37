-- A block and a spawn call under two numberings that agree on what they mention, and under one numbering after another.
use Prim.Native.Nat.{ℕ}
use mathlib.Core.Path.{◌≡◌, refl}
use mathlib.Core.List.{List, [], ◌∷◌, map, map-map}
use Rattle.model.specs.Lists.{Each}
use Rattle.model.specs.Syntax.{Transfer, Block, SpawnCall, targets, sporked_by, called_by}
use Rattle.model.proofs.Facts.{each_left, each_right}
use Rattle.numbering.specs.Renamed as Renamed
use Rattle.numbering.specs.Renamed.{Names}
use Rattle.numbering.specs.Mentions.{targets_of, spawns_of}

-- two maps that agree on a list
pub map-agrees : {A : Type 0} (f g : ℕ → A) (xs : List ℕ) → Each (λ x. f x ≡ g x) xs → map f xs ≡ map g xs
map-agrees f g [] h = refl
map-agrees f g (x ∷ xs) h = rw (h.0, map-agrees f g xs h.1)

module _ (M N : Names) where
  transfer-agrees : (T : Transfer) → Each (λ b. M.block b ≡ N.block b) (targets T) → Each (λ π. M.spawn π ≡ N.spawn π) (sporked_by T) →
      Each (λ g. M.function g ≡ N.function g) (called_by T) → Renamed.transfer M T ≡ Renamed.transfer N T
  unfolding Renamed.transfer targets sporked_by called_by
  transfer-agrees (Transfer.goto b x̄) t s c = rw t.0
  transfer-agrees (Transfer.if e b d) t s c = rw (t.0, t.1.0)
  transfer-agrees (Transfer.call g x̄ b) t s c = rw (t.0, c.0)
  transfer-agrees (Transfer.return x̄) t s c = refl
  transfer-agrees (Transfer.spork b π) t s c = rw (t.0, s.0)
  transfer-agrees (Transfer.spoin b d) t s c = rw (t.0, t.1.0)

  pub block-agrees : (B : Block) → Each (λ b. M.block b ≡ N.block b) (targets_of B) → Each (λ π. M.spawn π ≡ N.spawn π) (spawns_of B) →
      Each (λ g. M.function g ≡ N.function g) (called_by B.transfer) → Renamed.block M B ≡ Renamed.block N B
  unfolding Renamed.block Renamed.head targets_of spawns_of
  block-agrees B t s c =
      let Q : ℕ → Type 0 = λ π. M.spawn π ≡ N.spawn π in
      rw (
        map-agrees M.spawn N.spawn B.head.nesting (each_left Q B.head.nesting (sporked_by B.transfer) s),
        transfer-agrees B.transfer t (each_right Q B.head.nesting (sporked_by B.transfer) s) c,
      )

  pub spawn-agrees : (S : SpawnCall) → M.function S.function ≡ N.function S.function →
      Renamed.spawn_call M S ≡ Renamed.spawn_call N S
  unfolding Renamed.spawn_call
  spawn-agrees S e = rw e

-- M, and then N
abbrev pub then : Names → Names → Names
then M N =
    record {
      function = λ g. N.function (M.function g);
      block = λ b. N.block (M.block b);
      spawn = λ π. N.spawn (M.spawn π);
    }

module _ (M N : Names) where
  transfer-then : (T : Transfer) → Renamed.transfer N (Renamed.transfer M T) ≡ Renamed.transfer (then M N) T
  unfolding Renamed.transfer
  transfer-then (Transfer.goto b x̄) = refl
  transfer-then (Transfer.if e b d) = refl
  transfer-then (Transfer.call g x̄ b) = refl
  transfer-then (Transfer.return x̄) = refl
  transfer-then (Transfer.spork b π) = refl
  transfer-then (Transfer.spoin b d) = refl

  pub block-then : (B : Block) → Renamed.block N (Renamed.block M B) ≡ Renamed.block (then M N) B
  unfolding Renamed.block Renamed.head
  block-then B = rw (map-map N.spawn M.spawn B.head.nesting, transfer-then B.transfer)

  pub spawn-then : (S : SpawnCall) → Renamed.spawn_call N (Renamed.spawn_call M S) ≡ Renamed.spawn_call (then M N) S
  unfolding Renamed.spawn_call
  spawn-then S = refl
