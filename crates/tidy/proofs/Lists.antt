-- Loops over lists of kept numbers: over those of a function, and over the functions.
use Prim.Native.Nat.{ℕ, ◌+◌, ◌≤◌, ◌<◌}
use denote.Ref.{MutBor}
use mathlib.Core.Path.{◌≡◌, sym, ◌∙◌}
use mathlib.Core.List.{List, [], ◌∷◌, ◌++◌, map, map-map}
use lib.ListN.{length, get_elem?, drop, length-map}
use Rattle.model.specs.Lists.{concat}
use Rattle.model.specs.Syntax.{Function, Program}
use Rattle.model.specs.Limits.{Limits}
use Rattle.model.specs.Write as Write
use Rattle.model.proofs.Facts.{below_at}
use Rattle.code.specs.Bytes.{byte_at}
use Rattle.puts.specs.Puts.{Puts}
use Rattle.puts.proofs.Laws.{then, same}
use Rattle.numbering.specs.Mentions.{of, Closed}
use Rattle.numbering.specs.Tidy.{kept_blocks, kept_spawns, kept_functions, tidy_function, picked, tidied}
use Rattle.numbering.proofs.Lists.{each_member, at-member, picked-length}
use Rattle.numbering.proofs.Kept.{of_some, kept-functions}
use Rattle.kept.specs.declared.Kept.{Kept}
use Rattle.kept.specs.Kept.{Lists, KeepsBlocks, KeepsSpawns}
use Rattle.kept.proofs.Arrays.{lists_at, lists-from, lists-past}
use Rattle.tidy.specs.declared.Numbering.{Numbering}
use Rattle.tidy.specs.Tables.{PutsIn, PutsEach, PutsOne, PutsList, counts_of, each_spawn, each_block, PutsFunction, PutsProgram}
use Rattle.puts.proofs.Left.{Left, less-left, none_left}
use Rattle.tidy.proofs.Functions.{picked-written, function-written}

-- what is left to be put of a list, from index i on
module _ (g : ℕ → List ℕ) {d : List ℕ} {k : ℕ} {all d' : List ℕ} {m i : ℕ} {list : Kept} {xs : List ℕ} (l : Lists list xs)
    (t : Left d k all d' m (concat (map g (drop i xs)))) where
  one_less : {x r : ℕ} {d'' : List ℕ} → i < list.count → x ≡ byte_at list.order i → Puts d' m (g x) r d''
      → Left d k all d'' r (concat (map g (drop (i + 1) xs)))
  unfolding concat
  one_less {x} h e p = less-left (g x) (concat (map g (drop (i + 1) xs))) (rw (lists-from l h e) at t) p

  all-put : list.count ≤ i → Puts d k all m d'
  unfolding concat
  all-put h = none_left (rw (lists-past l h) at t)

-- what is left of what calls put
module _ (post : ℕ → MutBor (List ℕ) → ℕ → ℕ → MutBor (List ℕ) → Type 0) (list : Kept) where
  pub record ListLeft (d : List ℕ) (k : ℕ) (d' : List ℕ) (m i : ℕ) : Type 0 where
    pub is : (bytes : ℕ → List ℕ) (xs : List ℕ) → PutsOne post bytes xs → Lists list xs →
        Left d k (concat (map bytes xs)) d' m (concat (map bytes (drop i xs)))

  module _ {d : List ℕ} {k : ℕ} where
    pub list-next : {p p' : MutBor (List ℕ)} {m i x r : ℕ} → post x p m r p' → ListLeft d k p.now m i → i < list.count
        → x ≡ byte_at list.order i → ListLeft d k p'.now r (i + 1)
    list-next c t h q =
        record {
          is = λ bytes xs w l. one_less bytes l (t.is bytes xs w l) h q (w _ _ _ _ _ (at-member xs _ (lists_at l h q)) c);
        }

    pub list-end : {d' : List ℕ} {m i : ℕ} → ListLeft d k d' m i → list.count ≤ i → PutsList post list d k m d'
    list-end t h = record { is = λ bytes xs w l. all-put bytes l (t.is bytes xs w l) h }

-- a kept function: its counts, its kept spawn calls, its kept blocks
abbrev numbering : Kept → Kept → Kept → Numbering
numbering functions blocks spawns = record { functions = functions; blocks = blocks; spawns = spawns }

module _ (s places transfers : List ℕ) (functions : Kept) (f : ℕ) {blocks spawns : Kept} where
  pub function-put : {d d₁ d₂ d₃ : List ℕ} {k m n r : ℕ} → KeepsBlocks s transfers f blocks → KeepsSpawns s places transfers f blocks spawns
      → PutsIn s places f (counts_of blocks.count spawns.count) d k m d₁
      → PutsEach s places f spawns (each_spawn (numbering functions blocks spawns)) d₁ m n d₂
      → PutsEach s places f blocks (each_block (numbering functions blocks spawns)) d₂ n r d₃
      → PutsFunction s places transfers functions f d k r d₃
  function-put kb ks p q u =
      record {
        is = λ P F w v g C l h.
            let c = C.functions f F g in
            let lb = kb P F w.limits (w.short, v) g c in
            let ls = ks P F w v g c lb in
            same (then (p.is P F w g) (then (q.is P F (kept_spawns F) w g ls) (u.is P F (kept_blocks F) w g lb)))
            (function-written P C w.limits f F g h (numbering functions blocks spawns) l lb ls);
      }

-- what is written of a kept function, by its number
unfoldable pub function_bytes : Program → Function → List ℕ
function_bytes P F = Write.function (tidy_function (kept_functions P) F)

abbrev pub each_function : Program → ℕ → List ℕ
each_function P f = of (function_bytes P) (get_elem? P f)

-- the number of functions, and each of them: the tidy program
program-written : (P : Program) {n : ℕ} → Closed P → Limits P → n ≡ length (kept_functions P) →
    (n ∷ []) ++ concat (map (each_function P) (kept_functions P)) ≡ Write.program (tidied P)
unfolding function_bytes Write.program_by Write.counted tidied
program-written P C L e =
    let fs : List ℕ = kept_functions P in
    let m : length (map (tidy_function fs) (picked P fs)) ≡ length fs =
    length-map (picked P fs) (tidy_function fs) ∙ picked-length P fs (kept-functions P C L).below in
    rw (m, e, map-map Write.function (tidy_function fs) (picked P fs), picked-written (function_bytes P) P fs)

-- the kept functions, behind their number
module _ (s places transfers : List ℕ) (functions : Kept) (post : ℕ → MutBor (List ℕ) → ℕ → ℕ → MutBor (List ℕ) → Type 0)
    (put : (f : ℕ) (d : MutBor (List ℕ)) (k r : ℕ) (d' : MutBor (List ℕ)) → post f d k r d' →
    PutsFunction s places transfers functions f d.now k r d'.now) where
  pub functions-put : {d d₁ d₂ : List ℕ} {k m r : ℕ} → Puts d k (functions.count ∷ []) m d₁ → PutsList post functions d₁ m r d₂
      → PutsProgram s places transfers functions d k r d₂
  unfolding function_bytes
  functions-put p q =
      record {
        is = λ P w v C l.
            let fs : List ℕ = kept_functions P in
            let each : PutsOne post (each_function P) fs = λ f d k r d' j c.
            let (F, g) = below_at P f (each_member (λ x. x < length P) fs f (kept-functions P C w.limits).below j) in
            same ((put f d k r d' c).is P F w v g C l j) (sym (of_some (function_bytes P) (get_elem? P f) g)) in
            same (then p (q.is (each_function P) fs each l)) (program-written P C w.limits l.count);
      }
