-- The texts of refusals and answers, part by part.
use Prim.Native.Nat.{ℕ}
use mathlib.Core.List.{List}
use Rattle.model.specs.Numbers as Numbers
use Rattle.model.specs.Text.{ascii, spaced, part}
use Rattle.model.specs.Output.{refusal, told, rule_name}
use Rattle.answers.specs.declared.No.{No}
use Rattle.answers.specs.declared.Rule.{Rule}
use Rattle.answers.specs.declared.Refusal.TheVariants.{Plain, Byte, Fault}
use Rattle.answers.specs.Answers.{refusal_of}
use Rattle.std.specs.Prelude.{Ok, Err}
use Rattle.steps.specs.Choice.{made_of}
use Rattle.puts.specs.Puts.{Puts}
use Rattle.puts.proofs.Laws.{then}

pub plain : (d d₁ d₂ : List ℕ) (at k l : ℕ) (n : No) → Puts d at (ascii "refused") k d₁ → Puts d₁ k (part n.0) l d₂
    → Puts d at (refusal (refusal_of (Plain n))) l d₂
unfolding refusal
plain d d₁ d₂ at k l n p q = then p q

pub byte : (d d₁ d₂ d₃ : List ℕ) (at k l m : ℕ) (n : ℕ) → Puts d at (ascii "refused") k d₁ → Puts d₁ k (part Numbers.form) l d₂
    → Puts d₂ l (part n) m d₃ → Puts d at (refusal (refusal_of (Byte n))) m d₃
unfolding refusal
byte d d₁ d₂ d₃ at k l m n p q r = then (then p q) r

pub fault : (d d₁ d₂ d₃ d₄ : List ℕ) (at k l m o : ℕ) (n : No) (f b : ℕ) → Puts d at (ascii "refused") k d₁ → Puts d₁ k (part n.0) l d₂
    → Puts d₂ l (part f) m d₃ → Puts d₃ m (part b) o d₄ → Puts d at (refusal (refusal_of (Fault n f b))) o d₄
unfolding refusal
fault d d₁ d₂ d₃ d₄ at k l m o n f b p q r s = then (then (then p q) r) s

pub made : (d d₁ : List ℕ) (at k : ℕ) (rule : Rule) → Puts d at (spaced (rule_name rule.0)) k d₁
    → Puts d at (spaced (told (made_of (Ok rule)))) k d₁
unfolding told
made d d₁ at k rule p = p

pub refused : (d d₁ d₂ : List ℕ) (at k l : ℕ) (n : No) → Puts d at (ascii " refused") k d₁ → Puts d₁ k (part n.0) l d₂
    → Puts d at (spaced (told (made_of (Err n)))) l d₂
unfolding told refusal
refused d d₁ d₂ at k l n p q = then p q

pub ruleset refusals = (plain, byte, fault)

pub ruleset answers = (made, refused)
