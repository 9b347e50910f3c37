-- What is known where `?` leaves a function whose refusals are numbers.
use Prim.Native.Nat.{ℕ}
use mathlib.Core.Path.{◌≡◌, refl, sym, ◌∙◌, ap, subst}
use native.Mathlib.Omega.{arith}
use Rattle.std.specs.Prelude.{Option, Some, None, Result, Ok, Err}
use Rattle.std.specs.Option.{ok_or}
use Rattle.std.specs.Result.{IsErrAnd, MatchResult, result_ok}
use Rattle.std.proofs.lemmas.Result.{err_from_is_err_and}
use Rattle.answers.specs.declared.No.{No}

-- `r?`: r's error is returned
pub exits : {B E : Type 0} {y : E} (r : Result B E) → IsErrAnd r (λ x. x ≡ y) → r ≡ Err y
exits r h = let (x, e, d) = err_from_is_err_and r h in rw (e, d)

-- `o.ok_or(n)?`: there is nothing, and n is returned
pub lacks : {A B : Type 0} (o : Option A) {q : Result A No} {n y : No} (r : Result B No) → q ≡ ok_or o n → q ≡ Err y
    → IsErrAnd r (λ x. x ≡ y) → (o ≡ None) × (r ≡ Err n)
lacks {A} {B} None {q} {n} {y} r e w h =
    let d : ◌≡◌ {A = Result A No} (Err y) (Err n) = sym w ∙ e in
    let p : y ≡ n = cc in
    (refl, exits r h ∙ ap {B = Result B No} Err p)
lacks {A} {B} (Some x) {q} {n} {y} r e w h =
    let d : ◌≡◌ {A = Result A No} (Err y) (Ok x) = sym w ∙ e in
    let z : ◌≡◌ {A = ℕ} 0 1 = cc in
    absurd (omega arith)

-- and where it goes on: what was there
pub found : {A E : Type 0} {o : Option A} {q : Result A E} {x : A} → o ≡ result_ok q → q ≡ Ok x → o ≡ Some x
found e w = e ∙ ap result_ok w

-- `q.map_err(f)`: r is q, but with what f makes of the error
pub mapped : {A D E : Type 0} (q : Result A E) (r : Result A D) (Q : E → D → Type 0) {y : D}
    → MatchResult q (λ x. r ≡ Ok x) (λ e. IsErrAnd r (Q e)) → r ≡ Err y → (e : E) × (q ≡ Err e) × Q e y
mapped {A} {D} (Ok x) r Q {y} h w =
    let d : ◌≡◌ {A = Result A D} (Ok x) (Err y) = sym h ∙ w in
    let z : ◌≡◌ {A = ℕ} 0 1 = cc in
    absurd (omega arith)
mapped {A} {D} (Err e) r Q h w = (e, refl, subst (λ (o : Result A D). IsErrAnd o (Q e)) w h)
