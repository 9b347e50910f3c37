-- What a block mentions under other numbers: the new numbers of what it mentioned.
use mathlib.Core.Path.{◌≡◌, refl, sym}
use mathlib.Core.List.{List, [], ◌∷◌, map, map-append}
use Rattle.model.specs.Lists.{Each}
use Rattle.model.specs.Syntax.{Transfer, Block, targets, sporked_by, called_by}
use Rattle.numbering.specs.Renamed as Renamed
use Rattle.numbering.specs.Renamed.{Names}
use Rattle.numbering.specs.Mentions.{targets_of, spawns_of}

-- what holds of each that g makes of a list
pub map_each : {A B : Type 0} (Q : B → Type 0) (g : A → B) (xs : List A) → Each (λ x. Q (g x)) xs → Each Q (map g xs)
map_each Q g [] h = tt
map_each Q g (x ∷ xs) h = (h.0, map_each Q g xs h.1)

-- a transfer's targets, its spawn call, its callee; a block's targets and spawn calls
module _ (N : Names) where
  renamed-targets : (T : Transfer) → targets (Renamed.transfer N T) ≡ map N.block (targets T)
  unfolding targets Renamed.transfer
  renamed-targets (Transfer.goto b x̄) = refl
  renamed-targets (Transfer.if e b c) = refl
  renamed-targets (Transfer.call g x̄ b) = refl
  renamed-targets (Transfer.return x̄) = refl
  renamed-targets (Transfer.spork b π) = refl
  renamed-targets (Transfer.spoin b c) = refl

  renamed-sporked : (T : Transfer) → sporked_by (Renamed.transfer N T) ≡ map N.spawn (sporked_by T)
  unfolding sporked_by Renamed.transfer
  renamed-sporked (Transfer.goto b x̄) = refl
  renamed-sporked (Transfer.if e b c) = refl
  renamed-sporked (Transfer.call g x̄ b) = refl
  renamed-sporked (Transfer.return x̄) = refl
  renamed-sporked (Transfer.spork b π) = refl
  renamed-sporked (Transfer.spoin b c) = refl

  pub calls-renamed : (T : Transfer) → called_by (Renamed.transfer N T) ≡ map N.function (called_by T)
  unfolding called_by Renamed.transfer
  calls-renamed (Transfer.goto b x̄) = refl
  calls-renamed (Transfer.if e b c) = refl
  calls-renamed (Transfer.call g x̄ b) = refl
  calls-renamed (Transfer.return x̄) = refl
  calls-renamed (Transfer.spork b π) = refl
  calls-renamed (Transfer.spoin b c) = refl

  pub targets-renamed : (B : Block) → targets_of (Renamed.block N B) ≡ map N.block (targets_of B)
  unfolding targets_of Renamed.block
  targets-renamed B = renamed-targets B.transfer

  pub spawns-renamed : (B : Block) → spawns_of (Renamed.block N B) ≡ map N.spawn (spawns_of B)
  unfolding spawns_of Renamed.block Renamed.head
  spawns-renamed B = rw (renamed-sporked B.transfer) (sym (map-append N.spawn B.head.nesting (sporked_by B.transfer)))
