-- A function with what is inferred of it, which the words hold; and the functions one by one.
use Prim.Native.Nat.{ℕ, zero, suc, ◌+◌, ◌-◌, ◌%◌, ◌≤◌, ◌<◌}
use mathlib.Core.Path.{◌≡◌, refl, sym, ◌∙◌, ap, subst}
use mathlib.Core.Option
use mathlib.Core.Option.{none}
use mathlib.Core.List.{List, ◌++◌, map}
use native.Mathlib.Omega.{arith}
use Rattle.std.specs.Prelude.{Some, None}
use lib.ListN.{length, get_or, get_elem?, length-map}
use Rattle.model.specs.Lists.{concat}
use Rattle.model.specs.Syntax.{Function, Program}
use Rattle.model.specs.Write as Write
use Rattle.model.proofs.Facts.{map_at}
use Rattle.model.proofs.Writing.{HeldFunction, law-bare, law-function_by}
use Rattle.code.specs.Bytes.{past}
use Rattle.places.specs.Places.{Place, FindsFunction}
use Rattle.puts.specs.Puts.{Puts, stretch}
use Rattle.puts.proofs.Laws as Puts-laws
use Rattle.puts.proofs.Laws.{then, same}
use Rattle.numbering.specs.Mentions.{of}
use Rattle.inference.specs.Filled.{Scoping, filled}
use Rattle.inference.specs.Infer.{Mark, nesting_of, marks, scopes, infer, completed_function, completed}
use Rattle.inference.proofs.Filled.{filled-length}
use Rattle.inference.proofs.Marks.{marks-length}
use Rattle.inference.proofs.Held.{inferred-holds}
use Rattle.scopings.specs.Words.{digits, mark_of, Held}
use Rattle.scopings.specs.Changes.{level_in, names_in}
use Rattle.scopings.proofs.Changing.{mark-is, digits-length}
use Rattle.infer.specs.Infers.{Infers}
use Rattle.complete.specs.Writes.{scoping_in, PutsIn, spawns_of, blocks_of, Given, PutsFunction, PutsFunctions}
use Rattle.complete.proofs.Putting.{counts_of, counts-put}
use Rattle.inference.proofs.Filled.{filled-agrees}
use Rattle.complete.proofs.Lists.{written-at, Rest, rest-next, rest_end}

-- the names of a mark, by its two numbers
nesting-is : (level names : ℕ) → nesting_of (mark_of level names) ≡ digits (level - 1) names
unfolding nesting_of mark_of digits
nesting-is zero names = refl
nesting-is (suc d) names = let e : suc d - 1 ≡ d = omega arith in rw e

-- where the words hold marks and scopes, they have these for block b
scoping-is : {words : List ℕ} {ms : List Mark} {Γs : List ℕ} → Held words ms Γs → (b : ℕ) → b < length ms
    → length (nesting_of (get_or ms b none)) ≤ 4 → scoping_in words b ≡ record {
      scope = get_or Γs b 0;
      nesting =
          nesting_of (get_or ms b none);
    }
unfolding scoping_in
scoping-is {words} {ms} {Γs} h b l few =
    let e : nesting_of (get_or ms b none) ≡ digits (level_in words b - 1) (names_in words b) =
    ap nesting_of (sym (h.marks b l) ∙ mark-is words b) ∙ nesting-is (level_in words b) (names_in words b) in
    let n = ap length e ∙ digits-length (level_in words b - 1) (names_in words b) in
    let z : level_in words b % 256 - 1 ≡ level_in words b - 1 = omega arith in
    rw (h.scopes b l, z, e)

inferred-is : {words : List ℕ} (F : Function) → HeldFunction F → Held words (marks F) (scopes F) → (b : ℕ) → b < length F.blocks
    → scoping_in words b ≡ infer F b
unfolding infer
inferred-is F k h b l = scoping-is h b (omega (arith, marks-length F)) (inferred-holds F k b).few

-- so its blocks with what the words have for them are those of the completed function
function-filled : {words : List ℕ} (F : Function) → HeldFunction F → Held words (marks F) (scopes F)
    → filled (scoping_in words) F ≡ completed_function F
unfolding completed_function
function-filled {words} F k h = filled-agrees (scoping_in words) (infer F) F (inferred-is F k h)

-- a function with any scopes and nestings: its counts, its spawn calls, its blocks
function-written : (a : ℕ → Scoping) (F : Function)
    → counts_of F ++ (spawns_of F ++ concat (map Write.block (filled a F).blocks)) ≡ Write.function (filled a F)
unfolding filled Write.function_by
function-written a F = rw (filled-length a F)

-- function f of the completed program
completed-in : (P : Program) (f : ℕ) → get_elem? (completed P) f ≡ Option.map completed_function (get_elem? P f)
unfolding completed
completed-in P f = map_at completed_function P f

pub completed-length : (P : Program) → length (completed P) ≡ length P
unfolding completed
completed-length P = length-map P completed_function

module _ (s places transfers words : List ℕ) (f : ℕ) {q : Place} (find : FindsFunction places f q) {d : List ℕ} {k : ℕ} where
  pub function-nowhere : q ≡ None → PutsFunction s places transfers f words d k k d
  unfolding of
  function-nowhere e =
      record {
        is = λ P g.
            let z : get_elem? P f ≡ none = subst (FindsFunction places f) e find s P _ g.placed in
            same Puts-laws.none (rw (completed-in P f, z));
      }

  pub function-at : {at to m n r : ℕ} {words' d₁ d₂ d₃ : List ℕ} → q ≡ Some at → Infers s places transfers f words words' → to ≡ past at 4
      → Puts d k (stretch s at to) m d₁ → PutsIn s places f spawns_of d₁ m n d₂ → PutsIn s places f (blocks_of words') d₂ n r d₃
      → PutsFunction s places transfers f words d k r d₃
  unfolding of
  function-at {at} {to} {words' = words'} e i h p u v =
      record {
        is = λ P g.
            let (F, j, t) = subst (FindsFunction places f) e find s P _ g.placed in
            let held = ((law-function_by law-bare).holds s at F t.behind t.is).0 in
            let w = i.is P F (record { placed = g.placed; ended = g.ended; there = j }) g.long in
            let c : stretch s at to ≡ counts_of F = rw h (counts-put s at F t.behind g.placed.short t.is) in
            same (then p (then (u.is P F g.placed j) (v.is P F g.placed j)))
            (rw (c, completed-in P f, j, ← function-filled F held w) (function-written (scoping_in words') F));
      }

-- the functions, from number f on
pub record FunctionsLeft (s places transfers words d : List ℕ) (k : ℕ) (d' : List ℕ) (m f : ℕ) : Type 0 where
  pub is : (P : Program) → Given s places transfers words P → Rest (map Write.function (completed P)) d k d' m f

module _ (s places transfers words : List ℕ) {d : List ℕ} {k : ℕ} where
  module _ {d' : List ℕ} {m f : ℕ} (t : FunctionsLeft s places transfers words d k d' m f) where
    pub functions-next : {r : ℕ} {words' d'' : List ℕ} → length words' ≡ length words → PutsFunction s places transfers f words' d' m r d''
        → FunctionsLeft s places transfers words d k d'' r (f + 1)
    functions-next e p =
        record {
          is = λ P g.
              rest-next (t.is P g) (rw (written-at Write.function (completed P) f)
              (p.is P (record { placed = g.placed; ended = g.ended; long = e ∙ g.long })));
        }

    pub functions-end : 16 ≤ f → PutsFunctions s places transfers words d k m d'
    functions-end h =
        record {
          is = λ P g. rest_end (t.is P g) (omega (arith, length-map (completed P) Write.function, completed-length P, g.placed.limits.few));
        }
