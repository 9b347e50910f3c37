-- How long the texts are at most: a byte says 96 bytes at most.
use Rattle.std.proofs.Common.{◌≡◌, ℕ, ◌+◌, ◌*◌, ◌≤◌, eqb, List, [], ◌∷◌, ◌++◌, map, length, ℤ, pos, negsuc, refl, arith, length-append}
use mathlib.Core.Option.{Option, none, some}
use Rattle.model.specs.Numbers as No
use Rattle.model.specs.Answers.{Refusal, Answer}
use Rattle.model.specs.Lists.{concat}
use Rattle.model.specs.Syntax.{Program}
use Rattle.model.specs.Rules.{Result, choice}
use Rattle.model.specs.Text.{ascii, newline, spaced, decimal, signed_decimal, part, signed_part}
use Rattle.model.specs.Output.{kind_name, rule_name, refusal, answered, told, choice_line, values_or_open, result_line}
use Rattle.model.specs.Calls.{accepted}
use Rattle.model.proofs.Texts.{either-most, both_most, decimal-most, part-most}
use Rattle.flow.specs.Stages.{Stage, whole, opening, next, says, said}

kind-most : (kind : ℕ) → length (kind_name kind) ≤ 20
unfolding kind_name
kind-most kind =
    either-most (eqb kind 0) _ _ 20 (omega arith) (either-most (eqb kind 1) _ _ 20 (omega arith) (decimal-most kind))

rule-most : (rule : ℕ) → length (rule_name rule) ≤ 7
unfolding rule_name
rule-most rule =
    either-most (eqb rule No.stmt) _ _ 7 (omega arith) (either-most (eqb rule No.goto) _ _ 7 (omega arith)
    (either-most (eqb rule No.then) _ _ 7 (omega arith) (either-most (eqb rule No.else) _ _ 7 (omega arith)
    (either-most (eqb rule No.call) _ _ 7 (omega arith) (either-most (eqb rule No.return) _ _ 7 (omega arith)
    (either-most (eqb rule No.spork) _ _ 7 (omega arith) (either-most (eqb rule No.unpr) _ _ 7 (omega arith)
    (either-most (eqb rule No.prom) _ _ 7 (omega arith) (omega arith)))))))))

refusal-most : (r : Refusal) → length (refusal r) ≤ 70
unfolding refusal
refusal-most (Refusal.plain n) = let h = both_most (ascii "refused") (part n) 7 21 (omega arith) (part-most n) in omega arith
refusal-most (Refusal.byte at) =
    let h = both_most (ascii "refused" ++ part No.form) (part at) 28 21
    (both_most (ascii "refused") (part No.form) 7 21 (omega arith) (part-most No.form)) (part-most at) in omega arith
refusal-most (Refusal.fault n f b) =
    both_most (ascii "refused" ++ part n ++ part f) (part b) 49 21
    (both_most (ascii "refused" ++ part n) (part f) 28 21
    (both_most (ascii "refused") (part n) 7 21 (omega arith) (part-most n)) (part-most f))
    (part-most b)

told-most : (r : Result) → length (told (answered r)) ≤ 28
unfolding told answered refusal
told-most (Result.made rule p) = let h = rule-most rule in omega arith
told-most (Result.refused n) = both_most (ascii "refused") (part n) 7 21 (omega arith) (part-most n)

line-most : (i kind thread : ℕ) (r : Result) → length (choice_line i kind thread (answered r)) ≤ 96
unfolding choice_line
line-most i kind thread r =
    let a = both_most (decimal i) (spaced (kind_name kind)) 20 21 (decimal-most i) (let h = kind-most kind in omega arith) in
    let b = both_most (decimal i ++ spaced (kind_name kind)) (part thread) 41 21 a (part-most thread) in
    let c = both_most (decimal i ++ spaced (kind_name kind) ++ part thread) (spaced (told (answered r))) 62 29 b
    (let h = told-most r in omega arith) in
    let d = both_most (decimal i ++ spaced (kind_name kind) ++ part thread ++ spaced (told (answered r))) newline 91 1 c (omega arith) in
    omega arith

opening-most : (a : Answer Program) → length (opening a) ≤ 96
unfolding opening
opening-most (Answer.given P) = omega arith
opening-most (Answer.refused r) = let h = both_most (refusal r) newline 70 1 (refusal-most r) (omega arith) in omega arith

-- a byte, and many
says-most : (st : Stage) (b : ℕ) → length (says st b) ≤ 96
unfolding says
says-most (Stage.taking s) b = either-most (whole (s ++ b ∷ [])) _ _ 96 (opening-most (accepted (s ++ b ∷ []))) (omega arith)
says-most (Stage.choosing P p i none) b = omega arith
says-most (Stage.choosing P p i (some kind)) b = line-most i kind b (choice P p kind b)
says-most (Stage.stopped P p) b = omega arith
says-most Stage.over b = omega arith

pub said-most : (st : Stage) (s : List ℕ) → length (said st s) ≤ 96 * length s
unfolding said
said-most st [] = omega arith
said-most st (b ∷ s) =
    let h = says-most st b in
    let k = said-most (next st b) s in
    let e = length-append (says st b) (said (next st b) s) in omega arith

-- the last line
values-most : (v̄ : List ℤ) → length (concat (map signed_part v̄)) ≤ 22 * length v̄
unfolding concat signed_part signed_decimal
values-most [] = omega arith
values-most (pos n ∷ v̄) =
    let h = decimal-most n in
    let k = values-most v̄ in
    let e = length-append (spaced (decimal n)) (concat (map signed_part v̄)) in omega arith
values-most (negsuc n ∷ v̄) =
    let h = decimal-most (n + 1) in
    let k = values-most v̄ in
    let e = length-append (spaced (ascii "-" ++ decimal (n + 1))) (concat (map signed_part v̄)) in omega arith

pub result-most : (v : Option (List ℤ)) → ((v̄ : List ℤ) → v ≡ some v̄ → length v̄ ≤ 4) → length (result_line v) ≤ 100
unfolding result_line values_or_open
result-most none h = omega arith
result-most (some v̄) h =
    let k = values-most v̄ in
    let n = h v̄ refl in
    let a = both_most (ascii "result") (concat (map signed_part v̄)) 6 88 (omega arith) (omega arith) in
    let b = both_most (ascii "result" ++ concat (map signed_part v̄)) newline 94 1 a (omega arith) in omega arith

pub size-most : length (refusal (Refusal.plain No.size) ++ newline) ≤ 100
size-most = let h = both_most (refusal (Refusal.plain No.size)) newline 70 1 (refusal-most (Refusal.plain No.size))
    (omega arith) in omega arith
