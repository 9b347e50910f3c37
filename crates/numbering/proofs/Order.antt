-- What is kept, and in which order, in the words of S-2: a list that grew from 0 is 0 and what its members mention, in its own order,
-- each at its first mention; and its members are what is reached.
use Prim.Native.Nat.{ℕ, ◌≤◌, ◌<◌}
use mathlib.Core.Path.{◌≡◌, refl}
use mathlib.Core.Bool.{true}
use mathlib.Core.List.{List, [], ◌∷◌}
use native.Mathlib.Omega.{arith}
use lib.ListN.{length, get_elem?}
use Rattle.model.specs.Lists.{Each}
use Rattle.model.specs.Syntax.{Program}
use Rattle.model.specs.Limits.{InFunction, Limits}
use Rattle.model.proofs.Facts.{each_at}
use Rattle.numbering.specs.Mentions.{of, targets_in, Closed}
use Rattle.numbering.specs.Tidy.{member, mention, mentions, grown, kept_blocks, mentioned_in, kept_functions}
use Rattle.numbering.specs.Order.{Reached, InOrder, Ordered}
use Rattle.numbering.proofs.Lists.{each_member, member-each, at-member, begins-at}
use Rattle.numbering.proofs.Lists.{grown-begins, grown-each, grown-order, grown-closed}
use Rattle.numbering.proofs.Kept.{distinct-first, targets-inside, functions-inside}

-- 0 below m, numbers below m that lead to numbers below m, and as many steps as there can be numbers
module _ (next : ℕ → List ℕ) (m : ℕ) (inside : (x : ℕ) → x < m → Each (λ y. y < m) (next x)) (some : 0 < m) (steps : ℕ)
    (enough : m ≤ steps) where
  -- what is reached is there
  reached-kept : (x : ℕ) → Reached next x → member x (grown next steps 0 (0 ∷ [])) ≡ true
  reached-kept x Reached.first =
      at-member (grown next steps 0 (0 ∷ [])) 0 (begins-at (grown-begins next steps 0 (0 ∷ [])) 0 refl)
  reached-kept y (Reached.then x _ h k) =
      each_member (λ y. member y (grown next steps 0 (0 ∷ [])) ≡ true) (next x) y
      (grown-closed next m inside steps (0 ∷ []) distinct-first (some, tt) enough x (reached-kept x h)) k

  -- what is there is reached
  kept-reached : Each (Reached next) (grown next steps 0 (0 ∷ []))
  kept-reached =
      grown-each next (Reached next) (λ x h. member-each (Reached next) (next x) (λ y k. Reached.then x y h k)) steps 0 (0 ∷ [])
      (Reached.first, tt)

  -- in its order
  in_order : InOrder next (grown next steps 0 (0 ∷ []))
  unfolding mentions mention member
  in_order =
      record {
        order = grown-order next m inside steps 0 (0 ∷ []) distinct-first (some, tt) (omega arith);
        kept = reached-kept;
        reached = λ x k. each_member (Reached next) (grown next steps 0 (0 ∷ [])) x kept-reached k;
      }

-- the kept functions, and the kept blocks of each function
pub ordered : (P : Program) → Closed P → Limits P → Ordered P
unfolding kept_functions kept_blocks
ordered P C L =
    record {
      functions = in_order (λ f. of mentioned_in (get_elem? P f)) (length P) (functions-inside P C) C.main 16 L.few;
      blocks = λ f F e.
          in_order (targets_in F) (length F.blocks) (targets-inside P F (C.functions f F e)) (C.functions f F e).entry 32
          (each_at InFunction P f L.functions e).few_blocks;
    }
