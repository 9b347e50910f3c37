-- Entering a block, a callee's first frame, and a child's: from what the code looked up.
use Prim.Native.Nat.{ℕ, ◌<◌}
use mathlib.Core.Path.{◌≡◌, refl, sym, ap, subst, ◌∙◌}
use mathlib.Core.Bool.{Bool, true, false, not}
use mathlib.Core.Option.{Option, none, some}
use Rattle.std.specs.Prelude.{Some, None, Result, Ok, Err}
use mathlib.Core.List.{List}
use native.Mathlib.Omega.{arith}
use borrow.Author.Tests.{eq-eqb, ne_eqb, not-true, not-false}
use lib.Dec.{eqb}
use lib.IntN.{ℤ}
use lib.ListN.{length, get_elem?, take}
use lib.Seq.{length-take-le}
use Rattle.model.specs.Lists.{Each}
use Rattle.model.specs.Syntax.{SpawnCall, Signature, Function, Block, Program}
use Rattle.model.specs.Pool.{Frame, temporaries, begin, function_of, block_in, block_of}
use Rattle.model.specs.Frames as Frames
use Rattle.model.specs.Frames.{when, look_all, bind_all, go_to, entering, enter, callee}
use Rattle.model.specs.Rules.{child}
use Rattle.model.proofs.Guarantees as Guarantees
use Rattle.places.specs.Places.{Place, Places, spawn_in, FindsFunction, FindsBlock, FindsSpawn}
use Rattle.code.specs.Bytes.{byte_at, past}
use Rattle.code.specs.Code.{most, count_at, arguments_at, head_at, block_at, spawn_at, signature_at}
use Rattle.eval.specs.Given.{optional, looked_in, filled, Looks}
use Rattle.eval.proofs.Buffers.{filled_none}
use Rattle.code.proofs.Ends.{count-le, arguments-length}
use Rattle.code.proofs.Decoding.{block-is, spawn-is, signature-is}
use Rattle.std.specs.Result.{IsErrAnd}
use Rattle.std.proofs.lemmas.Result.{err_from_is_err_and}
use Rattle.model.specs.Numbers as Numbers
use Rattle.answers.specs.declared.No.{No}
use Rattle.rules.specs.Acts.{jam, Entering, Enters, Takes, child_by, spawns_of, Spawns}

-- a refusal that is handed on
pub record Handed {A B : Type 0} (r : Result A No) (w : Result B No) : Type 0 where
  pub why : No
  pub given : w ≡ Err why
  pub is : r ≡ Err why

pub handed : {A B : Type 0} {why : No} (r : Result A No) (w : Result B No) → IsErrAnd r (λ y. y ≡ why) → w ≡ Err why → Handed r w
handed r w h e = let p = err_from_is_err_and r h in record { why = _; given = e; is = p.1 ∙ ap Err p.2 }

pub handed-jam : {A B : Type 0} {r : Result A No} {w : Result B No} → Handed r w → w ≡ jam → r ≡ jam
handed-jam {B = B} h e =
    let q : ◌≡◌ {A = Result B No} (Err h.why) jam = sym h.given ∙ e in
    let z : h.why ≡ record { 0 = Numbers.stuck } = cc in
    h.is ∙ ap Err z

-- how long the values looked up for an argument list are
pub passed_length : (s : List ℕ) (at : ℕ) (out : List ℤ) {n : ℕ} → length out ≡ most → n ≡ count_at s at → length (take n out) ≡ n
passed_length s at out {n} l e = length-take-le n out (omega (arith, count-le s at))

-- what values looked up say where the flag is down, and up
module _ (s : List ℕ) (at : ℕ) (ok : Bool) (out : List ℤ) (o : Option (List ℤ)) (e : looked_in s at ok out ≡ o) where
  pub looked-none : not ok ≡ true → o ≡ none
  looked-none h = sym e ∙ ap (λ (b : Bool). looked_in s at b out) (not-true ok h)

  pub looked-some : not ok ≡ false → o ≡ some (take (count_at s at) out)
  looked-some h = sym e ∙ ap (λ (b : Bool). looked_in s at b out) (not-false ok h)

-- entering a block by its number: the counts agree, or differ, or it is not there
module _ (s places : List ℕ) (f b n : ℕ) (place : Place) (d : FindsBlock places f b place) where
  module _ (at : ℕ) {c : ℕ} (w : place ≡ Some at) (e : c ≡ count_at s at) where
    found : (P : Program) → Places s P places → block_in (get_elem? P f) b ≡ some (block_at s at)
    found P p =
        let (B, q, t) = subst (FindsBlock places f b) w d s P _ p in
        q ∙ ap some (block-is s at B t.behind p.short t.is)

    parameters : (P : Program) → Places s P places → Each (λ x. x < temporaries) (arguments_at s at)
    unfolding block_at head_at
    parameters P p =
        let (B, q, t) = subst (FindsBlock places f b) w d s P _ p in
        subst (λ (C : Block). Each (λ x. x < temporaries) C.head.parameters) (block-is s at B t.behind p.short t.is)
        ((Guarantees.block).gives s at B t.behind t.is).head.parameters.each

    block-takes : (P : Program) → Places s P places → (m : Frame) (v̄ : List ℤ) → m.function ≡ f
        → enter P m b v̄ ≡ when (eqb c (length v̄)) (some (bind_all (go_to m b 0) (arguments_at s at) v̄))
    unfolding enter entering block_of function_of block_at head_at
    block-takes P p m v̄ h = rw (h, found P p, arguments-length s at, ← e)

    pub enters : c ≡ n → Enters s places f b n (Ok (record { block = b; count = n; parameters = at }))
    unfolding when
    enters g P p =
        Entering.arrives _ refl
        (record {
          block = refl;
          count = refl;
          parameters = record { each = parameters P p; count = sym e ∙ g };
          is = λ m v̄ h l. block-takes P p m v̄ h ∙ rw (l, eq-eqb c n g);
        })

    pub not-enters : (c ≡ n → ⊥) → Enters s places f b n jam
    unfolding when
    not-enters g P p = Entering.jams refl (λ m v̄ h l. block-takes P p m v̄ h ∙ rw (l, ne_eqb c n g))

  pub not_there : place ≡ None → Enters s places f b n jam
  unfolding enter block_of function_of
  not_there w P p = Entering.jams refl (λ m v̄ h l. rw (h, subst (FindsBlock places f b) w d s P _ p))

-- a callee: it is there, or not
module _ (s places : List ℕ) (g n : ℕ) (place : Place) (d : FindsFunction places g place) where
  pub takes_at : (at : ℕ) {c : ℕ} → place ≡ Some at → c ≡ byte_at s at → Takes s places g n (eqb c n)
  unfolding callee when signature_at
  takes_at at {c} w e =
      record {
        is = λ P p v̄ l.
            let (G, q, t) = subst (FindsFunction places g) w d s P _ p in
            let y = ap (λ (S : Signature). S.parameters) (signature-is s at G t.behind p.short t.is) ∙ sym e in
            rw (q, y, l) (go v̄ (eqb c n));
      }
    where
      go : (v̄ : List ℤ) (t : Bool) → Frames.when t (some (begin g v̄)) ≡ optional t (begin g v̄)
      go v̄ true = refl
      go v̄ false = refl

  pub takes_none : place ≡ None → Takes s places g n false
  unfolding callee
  takes_none w = record { is = λ P p v̄ l. rw (subst (FindsFunction places g) w d s P _ p) }

-- a function's spawn call, in one step
pub spawn-then : {A : Type 0} (o : Option Function) (π : ℕ) (f : SpawnCall → Option A)
    → Frames.◌>>=◌ o (λ F. Frames.◌>>=◌ (get_elem? F.spawns π) f) ≡ Frames.◌>>=◌ (spawn_in o π) f
unfolding spawn_in
spawn-then none π f = refl
spawn-then (some F) π f = refl

-- a spawned child's first frame, and what is left of its arguments
module _ (s places : List ℕ) (m : Frame) (π : ℕ) (r : Result (ℕ × ℕ) No) (place : Place) {f : ℕ} (h : f ≡ m.function)
    (d : FindsSpawn places f π place) where
  child-is : (P : Program)
      → child P m π
      ≡ Frames.◌>>=◌ (spawn_in (get_elem? P f) π) (λ S. Frames.◌>>=◌ (look_all m S.arguments) (λ v̄. callee P S.function v̄))
  unfolding child function_of
  child-is P = rw h (spawn-then (get_elem? P m.function) π _)

  no-child : (P : Program) (out : List ℤ) → r ≡ jam → child P m π ≡ none → child_by r out ≡ child P m π
  no-child P out e q = rw e (sym q)

  pub no-spawn : (out : List ℤ) → place ≡ None → r ≡ jam → Spawns s places m π out r out
  unfolding spawns_of
  no-spawn out w e P p =
      let c = subst (FindsSpawn places f π) w d s P _ p in
      record { is = no-child P out e (child-is P ∙ rw c); refused = λ y. e; left = filled_none m out ∙ rw (← h, c) }

  module _ (out₀ out : List ℤ) (at : ℕ) (ok : Bool) {l : ℕ} (w : place ≡ Some at) (e₁ : l ≡ past at 1) (e₂ : Looks m s l out₀ ok out) where
    spawn-there : (P : Program) → Places s P places → spawn_in (get_elem? P f) π ≡ some (spawn_at s at)
    spawn-there P p =
        let (S, q, i) = subst (FindsSpawn places f π) w d s P _ p in
        q ∙ ap some (spawn-is s at S i.behind p.short i.is)

    child-at : (P : Program) → Places s P places
        → child P m π ≡ Frames.◌>>=◌ (look_all m (arguments_at s l)) (λ v̄. callee P (byte_at s at) v̄)
    unfolding spawn_at
    child-at P p = child-is P ∙ rw (spawn-there P p, e₁)

    child-left : (P : Program) → Places s P places → out ≡ filled m (spawns_of (spawn_in (get_elem? P m.function) π)) out₀
    unfolding spawns_of spawn_at
    child-left P p = e₂.left ∙ rw (← h, spawn-there P p, e₁)

    pub not-looked : not ok ≡ true → r ≡ jam → Spawns s places m π out₀ r out
    not-looked t e P p =
        record {
          is = no-child P out e (child-at P p ∙ rw (looked-none s l ok out _ e₂.is t));
          refused = λ y. e;
          left = child-left P p;
        }

    module _ (there : Bool) {g n : ℕ} (t : not ok ≡ false) (z : length out ≡ most) (e₃ : g ≡ byte_at s at)
        (e₄ : n ≡ count_at s l) (k : Takes s places g n there) where
      child-of : (P : Program) → Places s P places → child P m π ≡ optional there (begin g (take n out))
      child-of P p =
          child-at P p
          ∙ rw (looked-some s l ok out _ e₂.is t, ← e₃, ← e₄) (k.is P p (take n out) (passed_length s l out z e₄))

      pub not_taken : not there ≡ true → r ≡ jam → Spawns s places m π out₀ r out
      not_taken u e P p =
          record { is = no-child P out e (child-of P p ∙ rw (not-true there u)); refused = λ y. e; left = child-left P p }

      pub spawns : not there ≡ false → r ≡ Ok (g, n) → Spawns s places m π out₀ r out
      spawns u e P p =
          let c : child P m π ≡ some (begin g (take n out)) = child-of P p ∙ rw (not-false there u) in
          record { is = rw e (sym c); refused = λ y. cc; left = child-left P p }
