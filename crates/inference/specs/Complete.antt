-- The completion of a table of version 2: S-4 of document 02.
use Rattle.std.specs.Prelude.{ℕ, ◌+◌, Bool, ◌&&◌, cond, List, [], ◌∷◌, ◌++◌, leb, eqb, length, drop, replicate}
use Rattle.std.proofs.Math.Option.{Option, none, some}
use Rattle.model.specs.Numbers as No
use Rattle.model.specs.Answers.{Refusal, Answer, with}
use Rattle.model.specs.Lists.{pad}
use Rattle.model.specs.Syntax.{Function, Program}
use Rattle.model.specs.Read.{read_brief}
use Rattle.model.specs.Check.{judge, nowhere}
use Rattle.model.specs.Write as Write
use Rattle.inference.specs.Infer.{Mark, marks, completed}

-- how many words are lent as scratch, at least; and how many bytes as output
abbrev pub scratch_words : ℕ
scratch_words = 1024

abbrev pub output_bytes : ℕ
output_bytes = 16384

unfoldable pub enough : List ℕ → List ℕ → Bool
enough out words = leb scratch_words (length words) && eqb (length out) output_bytes

-- 25: the lowest block without a mark, numbered from b on; and that of the lowest function with one, numbered from f on
unfoldable pub unmarked : ℕ → List Mark → Option ℕ
unmarked b [] = none
unmarked b (none ∷ ms) = some b
unmarked b (some ρ ∷ ms) = unmarked (b + 1) ms

unfoldable pub reached_or : ℕ → Option ℕ → Answer (Unit {0}) → Answer (Unit {0})
reached_or f none a = a
reached_or f (some b) a = Answer.refused (Refusal.fault No.unreached f b)

unfoldable pub reached : ℕ → List Function → Answer (Unit {0})
reached f [] = Answer.given tt
reached f (F ∷ F̄) = reached_or f (unmarked 0 (marks F)) (reached (f + 1) F̄)

-- 26: the function of the first fault of what is inferred, whichever the fault is
unfoldable pub impossible : Refusal → Refusal
impossible (Refusal.plain n) = Refusal.plain n
impossible (Refusal.byte at) = Refusal.byte at
impossible (Refusal.fault n f b) = Refusal.fault No.impossible f nowhere

unfoldable pub possible : Answer (Unit {0}) → Answer (Unit {0})
possible (Answer.given u) = Answer.given u
possible (Answer.refused r) = Answer.refused (impossible r)

-- 25, then 26, or the completed program
unfoldable pub inferred : Program → Answer Program
inferred P = with (reached 0 P) λ _. with (possible (judge (completed P))) λ _. Answer.given (completed P)

-- an answer, and the lent output and scratch afterwards
pub record Completed : Type 0 where
  pub answer : Answer ℕ
  pub out : List ℕ
  pub words : List ℕ

-- the words lent as scratch end as 0; those behind them stay
unfoldable pub cleared : List ℕ → List ℕ
cleared words = replicate scratch_words 0 ++ drop scratch_words words

-- a table is written with 0 behind it; its length is given
unfoldable pub finish : List ℕ → List ℕ → Answer Program → Completed
finish out words (Answer.given P) =
    record {
      answer = Answer.given (length (Write.table P));
      out = pad output_bytes 0 (Write.table P);
      words = cleared words;
    }
finish out words (Answer.refused r) = record { answer = Answer.refused r; out = out; words = cleared words }

-- 24, or what is inferred
unfoldable pub lend : List ℕ → List ℕ → Answer Program → Completed
lend out words (Answer.given P) =
    cond (enough out words) (finish out words (inferred P))
    (record { answer = Answer.refused (Refusal.plain No.lent); out = out; words = words })
lend out words (Answer.refused r) = record { answer = Answer.refused r; out = out; words = words }

-- complete: 1 to 3, then 24, then 25, then 26, or the table's length
unfoldable pub complete : List ℕ → List ℕ → List ℕ → Completed
complete s out words = lend out words (read_brief s)
