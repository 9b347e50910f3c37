-- What the macros read in the number of an answer is that answer.
use Prim.Native.Nat.{ℕ, ◌+◌, ◌*◌, ◌^◌, ◌/◌, ◌%◌, ◌≤◌, ◌<◌}
use mathlib.Core.Path.{◌≡◌, refl}
use mathlib.Core.Logic.{◌⊎◌, inl, inr}
use mathlib.Core.Bool.{true, false}
use mathlib.Core.Option.{Option, none, some}
use mathlib.Core.List.{List}
use native.Mathlib.Omega.{arith}
use lib.Dec.{eqb, leb}
use lib.IntN.{ℤ}
use lib.ListN.{length}
use Rattle.model.specs.Numbers as No
use Rattle.model.specs.Numbers.{Within}
use Rattle.model.specs.Answers.{Refusal, Answer}
use Rattle.model.proofs.Facts.{eq-eqb, ne_eqb, le-leb, lt-leb, both-and, right-false, true-false}
use Rattle.model.proofs.Numbers as Numbers
use Rattle.tokens.specs.Beats.{Beat}
use Rattle.answers.specs.Coded.{given, code_of}
use Rattle.host.specs.Macros.{is_given, value, number, place, block, function}
use Rattle.host.specs.Exports.{done, as_number, beat_number, stepper_of, counted}
use Rattle.host.specs.Laws.{placed, refusal_in, answer_in}

-- a number with bit 32, and one without
pub given_is : (v : ℕ) → v < 2 ^ 32 → is_given (given v) ≡ true
given_is v h = let e : (2 ^ 32 + v) / 2 ^ 32 % 2 ≡ 1 = omega arith in eq-eqb _ 1 e

pub given-value : (v : ℕ) → v < 2 ^ 32 → value (given v) ≡ v
given-value v h = omega arith

pub refused-is : (r : ℕ) → r < 2 ^ 32 → is_given r ≡ false
refused-is r h = ne_eqb (r / 2 ^ 32 % 2) 1 (λ e. omega arith)

pub given-in : (v : ℕ) → v < 2 ^ 32 → answer_in (given v) ≡ Answer.given v
unfolding answer_in
given-in v h = rw (given_is v h, given-value v h)

-- the numbers of refusals without a place: 1, 2, 12 to 24, and 27 to 29
pub data Bare (n : ℕ) : Type 0 where
  of_table : Within 1 2 n → Bare n
  of_call : Within 12 24 n → Bare n
  of_later : Within 27 29 n → Bare n

-- a refusal that a number has room for
abbrev pub Fits : Refusal → Type 0
Fits (Refusal.plain n) = Bare n
Fits (Refusal.byte at) = at ≤ 16384
Fits (Refusal.fault n f b) = (Within 4 11 n ⊎ Within 25 26 n) × (f < 16) × (b < 256)

pub small : (q : Refusal) → Fits q → code_of q < 2 ^ 32
small (Refusal.plain n) (Bare.of_table h) = omega arith
small (Refusal.plain n) (Bare.of_call h) = omega arith
small (Refusal.plain n) (Bare.of_later h) = omega arith
small (Refusal.byte at) h = omega arith
small (Refusal.fault n f b) (inl w, i, j) = omega arith
small (Refusal.fault n f b) (inr w, i, j) = omega arith

-- 3, 4 to 11, 25 and 26 have a place
unplaced : (n : ℕ) → Bare n → (eqb n No.form ≡ false) × (placed n ≡ false)
unfolding placed
unplaced n (Bare.of_table h) = (
  ne_eqb n No.form (λ e. omega arith),
  rw (lt-leb No.main n (omega arith), lt-leb No.unreached n (omega arith)),
)
unplaced n (Bare.of_call h) = (
  ne_eqb n No.form (λ e. omega arith),
  rw (right-false (leb No.main n) _ (lt-leb n No.nesting (omega arith)), lt-leb No.unreached n (omega arith)),
)
unplaced n (Bare.of_later h) = (
  ne_eqb n No.form (λ e. omega arith),
  rw (
    right-false (leb No.main n) _ (lt-leb n No.nesting (omega arith)),
    right-false (leb No.unreached n) _ (lt-leb n No.impossible (omega arith)),
  ),
)

is-placed : (n : ℕ) → Within 4 11 n ⊎ Within 25 26 n → (eqb n No.form ≡ false) × (placed n ≡ true)
unfolding placed
is-placed n (inl h) = (
  ne_eqb n No.form (λ e. omega arith),
  rw (both-and (leb No.main n) _ (le-leb No.main n h.0) (le-leb n No.nesting h.1)),
)
is-placed n (inr h) = (
  ne_eqb n No.form (λ e. omega arith),
  rw (
    right-false (leb No.main n) _ (lt-leb n No.nesting (omega arith)),
    both-and (leb No.unreached n) _ (le-leb No.unreached n h.0) (le-leb n No.impossible h.1),
  ),
)

module _ (r : ℕ) where
  pub plain_in : (n : ℕ) → number r ≡ n → Bare n → refusal_in r ≡ Refusal.plain n
  unfolding refusal_in
  plain_in n e h = let (p, q) = unplaced n h in rw (e, p, q)

  byte-in : (at : ℕ) → number r ≡ No.form → place r ≡ at → refusal_in r ≡ Refusal.byte at
  unfolding refusal_in
  byte-in at e p = rw (e, p)

  fault-in : (n f b : ℕ) → number r ≡ n → Within 4 11 n ⊎ Within 25 26 n → function r ≡ f → block r ≡ b →
      refusal_in r ≡ Refusal.fault n f b
  unfolding refusal_in
  fault-in n f b e h i j = let (p, q) = is-placed n h in rw (e, p, q, i, j)

pub refusal-in : (q : Refusal) → Fits q → refusal_in (code_of q) ≡ q
refusal-in (Refusal.plain n) (Bare.of_table h) = plain_in n n (omega arith) (Bare.of_table h)
refusal-in (Refusal.plain n) (Bare.of_call h) = plain_in n n (omega arith) (Bare.of_call h)
refusal-in (Refusal.plain n) (Bare.of_later h) = plain_in n n (omega arith) (Bare.of_later h)
refusal-in (Refusal.byte at) h = byte-in _ at (omega arith) (omega arith)
refusal-in (Refusal.fault n f b) (inl w, i, j) = fault-in _ n f b (omega arith) (inl w) (omega arith) (omega arith)
refusal-in (Refusal.fault n f b) (inr w, i, j) = fault-in _ n f b (omega arith) (inr w) (omega arith) (omega arith)

pub refused-in : (q : Refusal) → Fits q → answer_in (code_of q) ≡ Answer.refused q
unfolding answer_in
refused-in q h = rw (refused-is (code_of q) (small q h), refusal-in q h)

-- a code of answers: what is given has a value, and a refusal its number
pub record Code {A : Type 0} (code : Answer A → ℕ) (val : A → ℕ) : Type 0 where
  pub gives : (x : A) → code (Answer.given x) ≡ given (val x)
  pub refuses : (q : Refusal) → code (Answer.refused q) ≡ code_of q

pub done-code : Code done (λ _. 0)
unfolding done
done-code = record { gives = λ x. refl; refuses = λ q. refl }

pub number-code : Code as_number (λ rule. rule)
unfolding as_number
number-code = record { gives = λ x. refl; refuses = λ q. refl }

-- a beat's rule and promotions
abbrev pub ruled : Beat → ℕ
ruled b = b.rule + 256 * b.promotions

pub beat-code : Code beat_number ruled
unfolding beat_number
beat-code = record { gives = λ x. refl; refuses = λ q. refl }

abbrev pub thread : Option ℕ → ℕ
thread none = 8
thread (some i) = i

pub stepper-code : Code stepper_of thread
unfolding stepper_of
stepper-code = record { gives = elim [ none ↦ refl | some i ↦ refl ]; refuses = λ q. refl }

abbrev pub count : Option (List ℤ) → ℕ
count none = 255
count (some v̄) = length v̄

pub counted-code : Code counted count
unfolding counted
counted-code = record { gives = elim [ none ↦ refl | some v̄ ↦ refl ]; refuses = λ q. refl }

-- an answer's value
abbrev pub valued : {A : Type 0} → (A → ℕ) → Answer A → Answer ℕ
valued f (Answer.given x) = Answer.given (f x)
valued f (Answer.refused q) = Answer.refused q

-- an answer that gives, told by the number r; and one that refuses
pub record Gave {A : Type 0} (val : A → ℕ) (G : A → Type 0) (a : Answer A) (r : ℕ) : Type 0 where
  pub what : A
  pub is : a ≡ Answer.given what
  pub has : G what
  pub told : value r ≡ val what

pub record Refused {A : Type 0} (R : Refusal → Type 0) (a : Answer A) (r : ℕ) : Type 0 where
  pub what : Refusal
  pub is : a ≡ Answer.refused what
  pub has : R what
  pub told : r ≡ code_of what

module _ {A : Type 0} {code : Answer A → ℕ} {val : A → ℕ} (c : Code code val) (G : A → Type 0) (R : Refusal → Type 0)
    (room : (x : A) → G x → val x < 2 ^ 32) (fits : (q : Refusal) → R q → Fits q) where
  pub tells : (a : Answer A) → Numbers.Can G R a → answer_in (code a) ≡ valued val a
  tells (Answer.given x) h = rw (c.gives x) (given-in (val x) (room x h))
  tells (Answer.refused q) h = rw (c.refuses q) (refused-in q (fits q h))

  pub gave : (a : Answer A) → Numbers.Can G R a → is_given (code a) ≡ true → Gave val G a (code a)
  gave (Answer.given x) h e = record { what = x; is = refl; has = h; told = rw (c.gives x) (given-value (val x) (room x h)) }
  gave (Answer.refused q) h e =
      true-false (is_given (code (Answer.refused q))) e (rw (c.refuses q) (refused-is (code_of q) (small q (fits q h))))

  pub refused : (a : Answer A) → Numbers.Can G R a → is_given (code a) ≡ false → Refused R a (code a)
  refused (Answer.given x) h e = true-false (is_given (code (Answer.given x))) (rw (c.gives x) (given_is (val x) (room x h))) e
  refused (Answer.refused q) h e = record { what = q; is = refl; has = h; told = c.refuses q }

  -- the other way round
  pub is-given : (a : Answer A) (x : A) → Numbers.Can G R a → a ≡ Answer.given x → (is_given (code a) ≡ true) × (value (code a) ≡ val x)
  is-given a x h e = go (rw e at h)
    where
      go : G x → (is_given (code a) ≡ true) × (value (code a) ≡ val x)
      go g = rw (e, c.gives x) (given_is (val x) (room x g), given-value (val x) (room x g))
