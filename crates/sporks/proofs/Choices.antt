-- A choice on a typed pool, for all threads.
use Prim.Native.Nat.{ℕ, zero, suc}
use mathlib.Core.List.{List, [], ◌∷◌}
use lib.Dec.{ltb}
use lib.ListN.{length}
use Rattle.model.specs.Lists.{Each}
use Rattle.model.specs.Syntax.{Program}
use Rattle.model.specs.WellFormed.{WF-prog}
use Rattle.model.specs.Limits.{Limits}
use Rattle.model.specs.Pool.{Thread, Pool, most_threads}
use Rattle.model.specs.Valid.{IsThread}
use Rattle.model.specs.Rules as Rules
use Rattle.model.specs.Rules.{Result}
use Rattle.safety.proofs.Typing.{Typed, Forest}
use Rattle.sporks.proofs.Seen.{Sees, sees-behind}
use Rattle.sporks.proofs.Steps.{sees-step}
use Rattle.sporks.proofs.Promotions.{sees-promote}

module _ (P : Program) (f : Thread → List Thread → Result)
    (first : (t : Thread) (r : ℕ) (ts : List Thread) → Typed P r t → IsThread P t → Sees P (t ∷ ts) 0 (f t ts)) where
  sees-on : (p : List Thread) (rs : List ℕ) (i : ℕ) → Each (IsThread P) p → Forest P p rs → Sees P p i (Rules.on_thread f p i)
  unfolding Rules.on_thread
  sees-on [] rs i h w = tt
  sees-on (t ∷ ts) [] i h w = absurd w
  sees-on (t ∷ ts) (r ∷ rs) zero h w = first t r ts w.0 h.0
  sees-on (t ∷ ts) (r ∷ rs) (suc i) h w = sees-behind P t ts i (Rules.on_thread f ts i) (sees-on ts _ i h.1 w.1)

pub sees-choice : {P : Program} → WF-prog P → Limits P → (p : Pool) (rs : List ℕ) (kind i : ℕ) → Each (IsThread P) p → Forest P p rs →
    Sees P p i (Rules.choice P p kind i)
unfolding Rules.choice
sees-choice {P} W L p rs zero i h w = sees-on P (Rules.step P) (λ t r ts y v. sees-step W t L r ts y v) p rs i h w
sees-choice {P} W L p rs (suc zero) i h w =
    let room = ltb (length p) most_threads in
    sees-on P (Rules.promote P room) (λ t r ts y v. sees-promote P t v ts room) p rs i h w
sees-choice W L p rs (suc (suc kind)) i h w = tt
