-- The loops over argument lists: what one turn adds.
use Prim.Native.Nat.{ℕ, suc, ◌+◌, ◌-◌, ◌≤◌, ◌<◌}
use mathlib.Core.Path.{◌≡◌, refl, sym, ap, subst, ◌∙◌}
use mathlib.Core.Bool.{true, false}
use mathlib.Core.Option.{Option as Maybe, none, some}
use Rattle.std.specs.Prelude.{Option, Some, None}
use mathlib.Core.List.{List, [], ◌∷◌, ◌++◌, append-nil, append_assoc}
use native.Mathlib.Omega.{arith}
use native.Mathlib.Numerals.{add-one}
use mir.Val.{SFits, to_z, of_z}
use mir.Facts.{to_z-of_z}
use mir.Syntax.{w32}
use lib.IntN.{ℤ, pos}
use lib.ListN.{length, get_or, take, drop, set, length-set}
use lib.Seq.{take-suc-set, drop-cons, drop-drop, drop-set-lt, append_snoc}
use Rattle.model.specs.Lists.{Each}
use Rattle.model.specs.Pool as Pool
use Rattle.model.specs.Pool.{temporaries}
use Rattle.model.specs.Frames as Frames
use Rattle.model.specs.Frames.{look, look_all, bind, bind_all}
use Rattle.code.specs.Bytes.{byte_at, past}
use Rattle.code.specs.Code.{run, count_at, arguments_at}
use Rattle.eval.specs.Given.{operand_as, bound_part, filled, Looks}
use Rattle.code.proofs.Ends.{count-le}
use Rattle.eval.proofs.Leaves.{none_is, value-is}
use Rattle.eval.proofs.Buffers.{bound-cons, bound-none, filled_is}

-- a run, from its first byte
run-goes : (s : List ℕ) (p n i : ℕ) → i < n → run s p (n - i) ≡ byte_at s p ∷ run s (past p 1) (n - (i + 1))
unfolding run
run-goes s p n i h = let e : n - i ≡ suc (n - (i + 1)) = omega arith in rw e

run_ends : (s : List ℕ) (p n i : ℕ) → n ≤ i → run s p (n - i) ≡ []
unfolding run
run_ends s p n i h = let e : n - i ≡ 0 = omega arith in rw e

-- values before others
unfoldable pub ahead : List ℤ → Maybe (List ℤ) → Maybe (List ℤ)
ahead v̄ none = none
ahead v̄ (some w̄) = some (v̄ ++ w̄)

ahead-nil : (o : Maybe (List ℤ)) → o ≡ ahead [] o
unfolding ahead
ahead-nil none = refl
ahead-nil (some w̄) = refl

module _ (k : Pool.Frame) where
  -- a temporary that is bound, and one that is not, before others
  look-cons : (x : ℕ) (x̄ : List ℕ) (v : ℤ) (v̄ : List ℤ) → look k x ≡ some v
      → ahead v̄ (look_all k (x ∷ x̄)) ≡ ahead (v̄ ++ (v ∷ [])) (look_all k x̄)
  unfolding look_all ahead
  look-cons x x̄ v v̄ e = rw e (go (look_all k x̄))
    where
      go : (o : Maybe (List ℤ)) → ahead v̄ (Frames.◌>>=◌ o (λ w̄. some (v ∷ w̄))) ≡ ahead (v̄ ++ (v ∷ [])) o
      go none = refl
      go (some w̄) = ap some (sym (append_assoc v̄ (v ∷ []) w̄))

  look_none : (x : ℕ) (x̄ : List ℕ) (v̄ : List ℤ) → look k x ≡ none → ahead v̄ (look_all k (x ∷ x̄)) ≡ none
  unfolding look_all ahead
  look_none x x̄ v̄ e = rw e

  module _ (s : List ℕ) (p₀ n : ℕ) (out₀ : List ℤ) where
    -- what is read so far, of a list of temporaries
    pub record Read (out : List ℤ) (p i : ℕ) : Type 0 where
      pub within : i ≤ n
      pub few : n ≤ 8
      pub long : length out₀ ≡ 8
      pub room : length out ≡ length out₀
      pub is : look_all k (run s p₀ n) ≡ ahead (take i out) (look_all k (run s p (n - i)))
      pub front : bound_part k (run s p₀ n) ≡ take i out ++ bound_part k (run s p (n - i))
      pub back : drop i out ≡ drop i out₀

    pub read-starts : n ≤ 8 → length out₀ ≡ 8 → Read out₀ p₀ 0
    read-starts h l =
        let e : n - 0 ≡ n = omega arith in
        record {
          within = omega arith;
          few = h;
          long = l;
          room = refl;
          is = rw e (ahead-nil (look_all k (run s p₀ n)));
          front = rw e;
          back = refl;
        }

    pub read_goes : (out : List ℤ) (p i : ℕ) (r : Option ℤ) {x q : ℕ} {v : ℤ} → Read out p i → i < n → x ≡ byte_at s p → q ≡ past p 1
        → r ≡ operand_as (look k x) → r ≡ Some v → SFits w32 v → Read (set out i (to_z w32 (of_z w32 v))) q (i + 1)
    read_goes out p i r {v = v} h l e₁ e₂ e₃ t f =
        let some-v : look k (byte_at s p) ≡ some v = ap (look k) (sym e₁) ∙ value-is r _ e₃ t in
        let rest : List ℕ = run s (past p 1) (n - (i + 1)) in
        let first : take (i + 1) (set out i (to_z w32 (of_z w32 v))) ≡ take i out ++ (v ∷ []) =
        rw (to_z-of_z f, add-one i) (take-suc-set out i v (omega (arith, h.few, h.long, h.room)))
        in
        record {
          within = omega arith;
          few = h.few;
          long = h.long;
          room = simp length-set h.room;
          is =
              h.is
              ∙ ap (λ (x̄ : List ℕ). ahead (take i out) (look_all k x̄)) (run-goes s p n i l)
              ∙ look-cons (byte_at s p) rest v (take i out) some-v
              ∙ rw (e₂, first);
          front =
              h.front
              ∙ ap (λ (x̄ : List ℕ). take i out ++ bound_part k x̄) (run-goes s p n i l)
              ∙ ap (λ (v̄ : List ℤ). take i out ++ v̄) (bound-cons k (byte_at s p) rest v some-v)
              ∙ sym (append_snoc (take i out) v (bound_part k rest))
              ∙ rw (e₂, first);
          back =
              drop-set-lt (i + 1) out i _ (omega arith)
              ∙ sym (drop-drop 1 i out)
              ∙ ap (drop 1) h.back
              ∙ drop-drop 1 i out₀;
        }

    module _ (out : List ℤ) (p i : ℕ) (h : Read out p i) where
      read-stops : (r : Option ℤ) {x : ℕ} → i < n → x ≡ byte_at s p → r ≡ operand_as (look k x) → r ≡ None
          → (none ≡ look_all k (run s p₀ n)) × (out ≡ filled k (run s p₀ n) out₀)
      read-stops r l e₁ e₂ t =
          let none-v : look k (byte_at s p) ≡ none = ap (look k) (sym e₁) ∙ none_is r _ e₂ t in
          let rest : List ℕ = run s (past p 1) (n - (i + 1)) in (
            sym
                (h.is
                ∙ ap (λ (x̄ : List ℕ). ahead (take i out) (look_all k x̄)) (run-goes s p n i l)
                ∙ look_none (byte_at s p) rest (take i out) none-v),
            filled_is k (run s p₀ n) out₀ out i (omega (arith, h.few, h.long, h.room))
                (h.front
                ∙ ap (λ (x̄ : List ℕ). take i out ++ bound_part k x̄) (run-goes s p n i l)
                ∙ ap (λ (v̄ : List ℤ). take i out ++ v̄) (bound-none k (byte_at s p) rest none-v)
                ∙ append-nil (take i out))
                h.back,
          )

      read-ends : n ≤ i → (some (take n out) ≡ look_all k (run s p₀ n)) × (out ≡ filled k (run s p₀ n) out₀)
      unfolding look_all ahead bound_part
      read-ends l =
          let e : i ≡ n = omega (arith, h.within) in (
            sym
                (h.is
                ∙ ap (λ (x̄ : List ℕ). ahead (take i out) (look_all k x̄)) (run_ends s p n i l)
                ∙ ap some (append-nil (take i out) ∙ ap (λ (j : ℕ). take j out) e)),
            filled_is k (run s p₀ n) out₀ out i (omega (arith, h.few, h.long, h.room))
                (h.front ∙ ap (λ (x̄ : List ℕ). take i out ++ bound_part k x̄) (run_ends s p n i l) ∙ append-nil (take i out))
                h.back,
          )

-- the temporaries of an argument list are a run: what the code answers of them
pub arguments-are : (s : List ℕ) (at : ℕ) {p n : ℕ} → p ≡ past at 1 → n ≡ count_at s at → run s p n ≡ arguments_at s at
unfolding arguments_at
arguments-are s at e d = rw (e, d)

module _ (k : Pool.Frame) (s : List ℕ) (at : ℕ) {p₀ n : ℕ} {out₀ : List ℤ} (out : List ℤ) (p i : ℕ) (e : p₀ ≡ past at 1)
    (d : n ≡ count_at s at) (h : Read k s p₀ n out₀ out p i) where
  pub arguments-unbound : {x : ℕ} (r : Option ℤ) → i < n → x ≡ byte_at s p → r ≡ operand_as (look k x) → r ≡ None
      → Looks k s at out₀ false out
  arguments-unbound r l e₁ e₂ t =
      let (q, w) = read-stops k s p₀ n out₀ out p i h r l e₁ e₂ t in
      let a = arguments-are s at e d in
      record { is = q ∙ ap (look_all k) a; left = w ∙ ap (λ (x̄ : List ℕ). filled k x̄ out₀) a }

  pub arguments-bound : n ≤ i → Looks k s at out₀ true out
  arguments-bound l =
      let (q, r) = read-ends k s p₀ n out₀ out p i h l in
      let a = arguments-are s at e d in
      record {
        is = ap (λ (j : ℕ). some (take j out)) (sym d) ∙ q ∙ ap (look_all k) a;
        left = r ∙ ap (λ (x̄ : List ℕ). filled k x̄ out₀) a;
      }

pub count-bound : (s : List ℕ) (at : ℕ) {n : ℕ} → n ≡ count_at s at → n ≤ 8
count-bound s at e = rw e (count-le s at)

-- what is bound so far, of the temporaries of a list
module _ (s : List ℕ) (p₀ n : ℕ) (v̄ : List ℤ) (k₀ : Pool.Frame) where
  pub record Binding (k : Pool.Frame) (p i : ℕ) : Type 0 where
    pub within : i ≤ n
    pub each : Each (λ x. x < temporaries) (run s p (n - i))
    pub is : bind_all k₀ (run s p₀ n) v̄ ≡ bind_all k (run s p (n - i)) (drop i v̄)

  pub binding-starts : Each (λ x. x < temporaries) (run s p₀ n) → Binding k₀ p₀ 0
  binding-starts h = let z : n - 0 ≡ n = omega arith in record { within = omega arith; each = rw z h; is = rw z }

  module _ (k : Pool.Frame) (p i : ℕ) (h : Binding k p i) (l : i < n) where
    left : Each (λ x. x < temporaries) (byte_at s p ∷ run s (past p 1) (n - (i + 1)))
    left = subst (Each (λ x. x < temporaries)) (run-goes s p n i l) h.each

    pub binding-next : byte_at s p < temporaries
    binding-next = left.0

    pub binding-goes : {q : ℕ} → n ≤ length v̄ → q ≡ past p 1 → Binding (bind k (byte_at s p) (get_or v̄ i (pos 0))) q (i + 1)
    unfolding bind_all
    binding-goes m e =
        let split : drop i v̄ ≡ get_or v̄ i (pos 0) ∷ drop (i + 1) v̄ = rw (add-one i) (drop-cons v̄ i (pos 0) (omega arith)) in
        record { within = omega arith; each = rw e left.1; is = h.is ∙ rw (run-goes s p n i l, split, e) }

  pub binding-ends : (k : Pool.Frame) (p i : ℕ) → Binding k p i → n ≤ i → k ≡ bind_all k₀ (run s p₀ n) v̄
  unfolding bind_all
  binding-ends k p i h l = sym (h.is ∙ rw (run_ends s p n i l))
