-- `table::walked`: refusal by refusal.
use mathlib.Core.Path.{◌≡◌, refl, sym, ◌∙◌}
use native.Mathlib.Omega.{arith}
use Rattle.std.specs.Prelude.{ℕ, Result, Ok, Err}
use Rattle.std.proofs.lemmas.Result.{err_from_is_err_and}
use Rattle.answers.specs.declared.Refusal.{Refusal}
use Rattle.answers.specs.declared.Refusal.TheVariants.{Byte}
use Rattle.table.proofs.Answered.{no_size, no-version, bad-byte, left_over, all_read}
use Rattle.table.proofs.walked.Goals as goal

-- 1
pub returns-then-not-sized : goal.returns-then-not-sized
returns-then-not-sized c = no_size _ _ _ _ _ _ _ _ refl (sym c.if-not-sized.ensures)

-- 2
pub returns-then-number : goal.returns-then-number
returns-then-number c =
    no-version _ _ _ _ _ _ _ (sym c.if-not-sized.ensures) _ refl (λ e. c.if-number.true (e ∙ sym c.number.ensures))

-- 3: a byte is bad
pub returns-in_err-end : goal.returns-in_err-end
returns-in_err-end c =
    let (x, is, _) = err_from_is_err_and {Q = λ _. Unit {0}} c.program.result (grind arith) in
    let o : ◌≡◌ {A = Result (Unit {0}) Refusal} c.from_residual.result (Err (Byte x)) = grind arith in
    bad-byte _ _ _ _ _ _ _ (sym c.if-not-sized.ensures) (c.if-number.false ∙ c.number.ensures) _ x (sym is ∙ c.program.ensures.0) o

-- all was read
pub returns-then-end-s : goal.returns-then-end-s
returns-then-end-s c =
    let is : ◌≡◌ {A = Result ℕ ℕ} c.program.result (Ok c.in_ok-end.end) = grind arith in
    all_read _ _ _ _ _ _ _ (sym c.if-not-sized.ensures) (c.if-number.false ∙ c.number.ensures) _ (sym is ∙ c.program.ensures.0)
    c.if-end-s.true (rw is at c.program.ensures.1)

-- 3: bytes are left over
pub returns-else-end-s : goal.returns-else-end-s
returns-else-end-s c =
    let is : ◌≡◌ {A = Result ℕ ℕ} c.program.result (Ok c.in_ok-end.end) = grind arith in
    left_over _ _ _ _ _ _ _ (sym c.if-not-sized.ensures) (c.if-number.false ∙ c.number.ensures) _ (sym is ∙ c.program.ensures.0)
    c.if-end-s.false
