-- What the program prints: for any bytes of its input the whole of its output, by document 01's section on the runner.
use Rattle.std.specs.Prelude.{ℕ, ◌+◌, Bool, true, false, cond, List, [], ◌∷◌, ◌++◌, map, eqb, ℤ, take, drop}
use Rattle.std.proofs.Math.Option.{Option, none, some}
use Rattle.model.specs.Numbers as No
use Rattle.model.specs.Lists.{concat}
use Rattle.model.specs.Text.{ascii, newline, decimal, spaced, part, signed_part}
use Rattle.model.specs.Syntax.{Program}
use Rattle.model.specs.Answers.{Refusal, Answer}
use Rattle.model.specs.Read.{length_field}
use Rattle.model.specs.Pool.{Pool, started}
use Rattle.model.specs.Rules.{Result, choice, main_values}
use Rattle.model.specs.Calls.{accepted}

-- the name of a choice's kind; a bad one in decimal
unfoldable pub kind_name : ℕ → List ℕ
kind_name kind = cond (eqb kind 0) (ascii "step") (cond (eqb kind 1) (ascii "promote") (decimal kind))

-- the name of a rule
unfoldable pub rule_name : ℕ → List ℕ
rule_name rule =
    cond (eqb rule No.stmt) (ascii "stmt") (cond (eqb rule No.goto) (ascii "goto")
    (cond (eqb rule No.then) (ascii "then") (cond (eqb rule No.else) (ascii "else")
    (cond (eqb rule No.call) (ascii "call") (cond (eqb rule No.return) (ascii "return")
    (cond (eqb rule No.spork) (ascii "spork") (cond (eqb rule No.unpr) (ascii "unpr")
    (cond (eqb rule No.prom) (ascii "prom") (ascii "promote")))))))))

-- a refusal: its number, and its place where it has one
unfoldable pub refusal : Refusal → List ℕ
refusal (Refusal.plain n) = ascii "refused" ++ part n
refusal (Refusal.byte at) = ascii "refused" ++ part No.form ++ part at
refusal (Refusal.fault n f b) = ascii "refused" ++ part n ++ part f ++ part b

-- what a choice answers: the rule, or its refusal
unfoldable pub answered : Result → Answer ℕ
answered (Result.made rule p) = Answer.given rule
answered (Result.refused n) = Answer.refused (Refusal.plain n)

unfoldable pub told : Answer ℕ → List ℕ
told (Answer.given rule) = rule_name rule
told (Answer.refused r) = refusal r

-- the line of a choice: index, kind, thread, and what it answers
unfoldable pub choice_line : ℕ → ℕ → ℕ → Answer ℕ → List ℕ
choice_line i kind thread a = decimal i ++ spaced (kind_name kind) ++ part thread ++ spaced (told a) ++ newline

-- the last line: main's values, or that they are open
unfoldable pub values_or_open : Option (List ℤ) → List ℕ
values_or_open none = spaced (ascii "open")
values_or_open (some v̄) = concat (map signed_part v̄)

unfoldable pub result_line : Option (List ℤ) → List ℕ
result_line v = ascii "result" ++ values_or_open v ++ newline

unfoldable pub result : Program → Pool → List ℕ
result P p = result_line (main_values P p)

-- after a choice that is made the run goes on; a refused one is the last
unfoldable pub going_on : {A : Type 0} → Result → A → (Pool → A) → A
going_on (Result.made rule p) a k = k p
going_on (Result.refused n) a k = a

-- pairs of bytes, kind and thread, put one after another from index i on: a line for each up to and with the first refusal, and the
-- last line. A lone last byte is dropped
unfoldable pub choices : Program → Pool → ℕ → List ℕ → List ℕ
choices P p i [] = result P p
choices P p i (kind ∷ []) = result P p
choices P p i (kind ∷ thread ∷ s) =
    let r = choice P p kind thread in
    choice_line i kind thread (answered r) ++ going_on r (result P p) (λ p'. choices P p' (i + 1) s)

unfoldable pub printed : Answer Program → List ℕ → List ℕ
printed (Answer.given P) s = ascii "accepted" ++ newline ++ choices P started 0 s
printed (Answer.refused r) s = refusal r ++ newline

-- the output: of as many bytes as the length field says, and then of the choices that follow
unfoldable pub output : List ℕ → List ℕ
output s = printed (accepted (take (length_field s) s)) (drop (length_field s) s)

-- whether the table is accepted and every choice made
unfoldable pub all_made : Program → Pool → List ℕ → Bool
all_made P p [] = true
all_made P p (kind ∷ []) = true
all_made P p (kind ∷ thread ∷ s) = going_on (choice P p kind thread) false (λ p'. all_made P p' s)

unfoldable pub agreed : Answer Program → List ℕ → Bool
agreed (Answer.given P) s = all_made P started s
agreed (Answer.refused r) s = false

unfoldable pub verdict : List ℕ → Bool
verdict s = agreed (accepted (take (length_field s) s)) (drop (length_field s) s)
