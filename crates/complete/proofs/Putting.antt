-- What the writers of names, of scopes and nestings, and of copied bytes put.
use Prim.Native.Nat.{ℕ, zero, suc, ◌+◌, ◌-◌, ◌/◌, ◌%◌, ◌^◌, ◌≤◌, ◌<◌}
use mathlib.Core.Path.{◌≡◌, refl, sym, ap}
use mathlib.Core.List.{List, [], ◌∷◌, ◌++◌, append_assoc}
use native.Mathlib.Omega.{arith}
use lib.ListN.{length}
use Rattle.model.specs.Syntax.{Block, SpawnCall, Function}
use Rattle.model.specs.Read as Read
use Rattle.model.specs.Read.{Parsed}
use Rattle.model.specs.Write as Write
use Rattle.model.proofs.Undoing.{between_left, between-right, stands-inside, back, forth}
use Rattle.model.proofs.Writing.{law-arguments, law-bare, law-block_by, law-spawn_call, law-function_by}
use Rattle.code.specs.Bytes.{byte_at, past}
use Rattle.code.specs.Code.{list_end, spawn_end, statements_end, code_end, transfer_end}
use Rattle.code.proofs.Offsets.{past-in}
use Rattle.code.proofs.Decoding.{In, decodes-arguments, decodes-bare, decodes-spawn, decodes-block_by}
use Rattle.puts.specs.Puts.{Puts, stretch}
use Rattle.puts.proofs.Laws.{then, same}
use Rattle.puts.proofs.Left.{Left, less-left, none_left}
use Rattle.model.proofs.Writing.{bytes-are}
use Rattle.puts.proofs.Parts.{between-inside, stretch-is}
use Rattle.inference.specs.Filled.{Scoping, put}
use Rattle.scopings.specs.Words.{digits, scope_in}
use Rattle.scopings.specs.Changes.{level_in, names_in}
use Rattle.scopings.proofs.Changing.{digits-length}
use Rattle.complete.specs.Writes.{scoping_in, scoping_bytes, PutsBlock}

-- names: the first and the rest
digits-goes : (n i x : ℕ) → i < n → digits (n - i) x ≡ x % 256 ∷ digits (n - (i + 1)) (x / 256)
unfolding digits
digits-goes n i x h = let e : n - i ≡ suc (n - (i + 1)) = omega arith in rw e

digits-none : (n x : ℕ) → n ≤ 0 → digits n x ≡ []
unfolding digits
digits-none zero x h = refl
digits-none (suc n) x h = absurd (omega arith)

-- names one after another, from the one with index i on: they go on with the first, and end where none is left
module _ (d : List ℕ) (k : ℕ) (xs : List ℕ) (rest count i : ℕ) {m : ℕ} {d' : List ℕ} (l : Left d k xs d' m (digits (count - i) rest)) where
  pub names-on : {r : ℕ} {d'' : List ℕ} → i < count → Puts d' m (rest % 256 ∷ []) r d''
      → Left d k xs d'' r (digits (count - (i + 1)) (rest / 256))
  names-on h p = less-left (rest % 256 ∷ []) (digits (count - (i + 1)) (rest / 256)) (rw (digits-goes count i rest h) at l) p

  pub names-end : count ≤ i → Puts d k xs m d'
  names-end h = none_left (rw (digits-none (count - i) rest (omega arith)) at l)

-- a block's scope, the number of its names, and these
module _ (words : List ℕ) (b : ℕ) {d : List ℕ} {k : ℕ} where
  pub scoping-put : {scope depth n names m l r : ℕ} {d₁ d₂ d₃ : List ℕ} → scope ≡ scope_in words b → Puts d k (Write.half scope) m d₁
      → depth ≡ level_in words b % 256 → n ≡ depth - 1 → Puts d₁ m (n ∷ []) l d₂ → names ≡ names_in words b
      → Puts d₂ l (digits n names) r d₃ → Puts d k (scoping_bytes (scoping_in words b)) r d₃
  unfolding scoping_in scoping_bytes Write.arguments Write.counted
  scoping-put {depth = depth} e p f g q h u =
      let count : ℕ = level_in words b % 256 - 1 in
      let z : depth - 1 ≡ count = ap (λ (j : ℕ). j - 1) f in
      same (then p (then q u))
      (rw (bytes-are (digits count (names_in words b)), digits-length count (names_in words b), e, g, h, z))

-- a block with a scope and a nesting, in three parts
block_written : (g : Scoping) (B : Block)
    → Write.arguments B.head.parameters ++ (scoping_bytes g ++ (Write.counted Write.statement B.code ++ Write.transfer B.transfer))
    ≡ Write.block (put g B)
unfolding scoping_bytes put Write.block_by Write.head
block_written g B = sym (append_assoc (Write.arguments B.head.parameters) _ _)

-- a block of version 2 that reads at an offset: its parameters, and what is behind them
record Halves (s : List ℕ) (at : ℕ) (B : Block) : Type 0 where
  parameters : stretch s at (list_end s at) ≡ Write.arguments B.head.parameters
  rest : stretch s (list_end s at) (transfer_end s (code_end s (list_end s at)))
      ≡ Write.counted Write.statement B.code ++ Write.transfer B.transfer

module _ (s : List ℕ) (at : ℕ) where
  halves : (B : Block) (z : ℕ) → length s < 2 ^ 64 → Read.block_by Read.bare s at ≡ Parsed.ok B z → Halves s at B
  unfolding Write.block_by Write.bare Write.arguments Write.counted
  halves B z short y =
      let b = back (law-block_by law-bare) s at B z y in
      let h : at < length s = stands-inside s at _ _ b.stand in
      let i : In s at = record { within = omega arith; short = short } in
      let held = ((law-block_by law-bare).holds s at B z y).0.0.head.parameters in
      let x̄ : List ℕ = B.head.parameters in
      let behind : List ℕ = Write.counted Write.statement B.code ++ Write.transfer B.transfer in
      let left = between_left (Write.arguments x̄) behind b in
      let right = between-right (Write.arguments x̄) behind b in
      let e : at + length (Write.arguments x̄) ≡ list_end s at =
      decodes-arguments.end s at x̄ _ (forth law-arguments s at x̄ _ held left) i in
      let g : z ≡ transfer_end s (code_end s (list_end s at)) = (decodes-block_by decodes-bare).end s at B z y i in
      record {
        parameters = rw (← e) (stretch-is i.within left);
        rest = rw (← g, ← e) (stretch-is (between-inside s at _ (Write.arguments x̄) i.within left) right);
      }

  pub block-put : (g : Scoping) {code off end : ℕ} {d : List ℕ} {k m n r : ℕ} {d₁ d₂ d₃ : List ℕ} → code ≡ list_end s at
      → off ≡ statements_end s (past code 1) (byte_at s code) → end ≡ transfer_end s off → Puts d k (stretch s at code) m d₁
      → Puts d₁ m (scoping_bytes g) n d₂ → Puts d₂ n (stretch s code end) r d₃ → PutsBlock s at g d k r d₃
  unfolding code_end
  block-put g {code} {off} {end} e f h p q u =
      record {
        is = λ B z y short.
            let w = halves B z short y in
            let c : stretch s at code ≡ Write.arguments B.head.parameters = rw e w.parameters in
            let l : end ≡ transfer_end s (code_end s (list_end s at)) = rw (h, f, e) in
            let t : stretch s code end ≡ Write.counted Write.statement B.code ++ Write.transfer B.transfer = rw (l, e) w.rest in
            same (then p (then q u)) (rw (c, t) (block_written g B));
      }

-- a spawn call that reads there, and a function's four counts
pub spawn-put : (s : List ℕ) (at : ℕ) (S : SpawnCall) (k : ℕ) → length s < 2 ^ 64 → Read.spawn_call s at ≡ Parsed.ok S k
    → stretch s at (spawn_end s at) ≡ Write.spawn_call S
unfolding Write.spawn_call
spawn-put s at S k short y =
    let b = back law-spawn_call s at S k y in
    let h : at < length s = stands-inside s at _ _ b.stand in
    let e : k ≡ spawn_end s at = decodes-spawn.end s at S k y (record { within = omega arith; short = short }) in
    rw (← e) (stretch-is (omega arith) b)

abbrev pub counts_of : Function → List ℕ
counts_of F = F.signature.parameters ∷ F.signature.returns ∷ length F.blocks ∷ length F.spawns ∷ []

pub counts-put : (s : List ℕ) (at : ℕ) (F : Function) (k : ℕ) → length s < 2 ^ 64 → Read.function_by Read.bare s at ≡ Parsed.ok F k
    → stretch s at (past at 4) ≡ counts_of F
unfolding Write.function_by
counts-put s at F k short y =
    let b = back (law-function_by law-bare) s at F k y in
    let h : at < length s = stands-inside s at _ _ b.stand in
    let four = between_left (counts_of F) _ b in
    let w : at + 4 ≤ length s = between-inside s at _ (counts_of F) (omega arith) four in
    rw (past-in s at 4 short w) (stretch-is (omega arith) four)
