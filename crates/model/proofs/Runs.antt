-- The ten marked runs of document 01, a run for each of its numbers, and the places where scripts go wrong: one table, and
-- one statement about it, proved by computation.
use Prim.Native.Nat.{ℕ, ◌+◌, ◌-◌}
use mathlib.Core.Path.{◌≡◌, refl}
use mathlib.Core.Option.{Option, none, some}
use mathlib.Core.List.{List, [], ◌∷◌, ◌++◌, map}
use lib.IntN.{ℤ, pos, negsuc}
use lib.ListN.{replicate, set, take, drop}
use Rattle.model.specs.Numbers as No
use Rattle.model.specs.Answers as Answers
use Rattle.model.specs.Lists as Lists
use Rattle.model.specs.Values as Values
use Rattle.model.specs.Sets as Sets
use Rattle.model.specs.Syntax as Syntax
use Rattle.model.specs.Read as Read
use Rattle.model.specs.Tests as Tests
use Rattle.model.specs.WellFormed as WellFormed
use Rattle.model.specs.Check as Check
use Rattle.model.specs.Pool as Pool
use Rattle.model.specs.Frames as Frames
use Rattle.model.specs.Rules as Rules
use Rattle.model.specs.Calls as Calls
use Rattle.model.specs.Answers.{Refusal, Answer}
use Rattle.model.specs.Lists.{Each}
use Rattle.model.specs.Pool.{most_work, most_tokens, work_at, tokens_at, pool_words, thread_start}
use Rattle.model.specs.Calls.{Choice, check, start, choose, schedule, values, which}

-- every definition that a run computes with
unfoldable pub all : Type 0
unfolding Answers.number_of Answers.with Lists.all Lists.equal Lists.unsnoc Lists.pad Lists.concat Values.low Values.fits Values.worked Values.plus
    Values.minus Values.less Sets.has Sets.with Sets.with_all Sets.within Sets.below Syntax.uses_atom Syntax.uses Read.next Read.byte
    Read.many Read.counted Read.pick Read.name Read.half Read.word Read.temporary Read.arguments Read.value Read.variable Read.atom
    Read.unary Read.binary Read.expression Read.statement Read.goto Read.if Read.call Read.return Read.spork Read.spoin Read.transfer
    Read.head Read.block_by Read.spawn_call Read.function_by Read.program_by Read.or_zero Read.length_field Read.sized_as Read.whole Read.read_as
    Read.read Tests.or Tests.of_given Tests.of_each Tests.fault WellFormed.env Check.bound Check.takes Check.nests Check.scoped Check.transfer
    Check.code Check.fresh Check.nested Check.is_entry Check.block Check.spawn Check.of_blocks Check.of_functions Check.of_main Check.tests
    Check.at Check.first_fault Check.judge Pool.begin Pool.words_of_frame Pool.thread_head Pool.words_of_thread Pool.words_of Pool.runs Pool.word_at
    Pool.count_at Pool.frame_of Pool.thread_of Pool.pool_of Pool.same_words Pool.function_of Pool.block_in Pool.block_of Pool.blank Pool.in_block
    Pool.in_function Pool.is_frame Pool.is_older Pool.settled Pool.ordered Pool.is_purse Pool.is_thread Pool.children Pool.trees Pool.is_pool
    Pool.are_pool Pool.started Frames.when Frames.look Frames.look_all Frames.eval_atom Frames.eval Frames.bind Frames.bind_all Frames.go_to
    Frames.deque Frames.entering Frames.enter Frames.callee Rules.by Rules.acts Rules.carry Rules.assign Rules.stmt Rules.goto Rules.branch Rules.if Rules.call
    Rules.return Rules.spork Rules.closing Rules.spoin Rules.transfer Rules.coming Rules.act Rules.returned Rules.ended Rules.on_top
    Rules.popping Rules.joining Rules.joins Rules.apply Rules.step Rules.promote_in Rules.or_else Rules.oldest Rules.child Rules.spawned
    Rules.promoting Rules.promote Rules.behind Rules.on_thread Rules.choice Rules.main_values Calls.check Calls.measured Calls.valid
    Calls.lent Calls.lent_words Calls.starting Calls.start Calls.made Calls.chosen Calls.choose Calls.go_on Calls.run Calls.stopped
    Calls.reported Calls.scheduled Calls.schedule Calls.values Calls.lowest Calls.is_made Calls.first Calls.which
all = Unit {0}

-- the answers to choices put one after another, each with the words as the one before left them; and then main's values
pub record Played : Type 0 where
  pub answers : List (Answer ℕ)
  pub result : Answer (Option (List ℤ))

abbrev first : Answer ℕ → Played → Played
first a p = record { answers = a ∷ p.answers; result = p.result }

abbrev pub play : List ℕ → List ℤ → List Choice → Played
play s ws [] = record { answers = []; result = values s ws }
play s ws (c ∷ cs) =
    let d = choose s ws c.kind c.thread in
    first d.answer (play s d.after cs)

abbrev pub blank : List ℤ
blank = replicate pool_words (pos 0)

abbrev pub begun : List ℕ → List ℤ
begun s = (start s blank).after

-- a row of the table: a table checked; choices put from the start on, with their answers and main's values; a choice put with
-- given words
pub data Row : Type 0 where
  checked : List ℕ → Answer (Unit {0}) → Row
  played : List ℕ → List Choice → List (Answer ℕ) → Option (List ℤ) → Row
  put : List ℕ → List ℤ → Choice → Answer ℕ → Row

abbrev Right : Row → Type 0
Right (Row.checked s a) = check s ≡ a
Right (Row.played s cs as' v) = play s (begun s) cs ≡ record { answers = as'; result = Answer.given v }
Right (Row.put s ws c a) = (choose s ws c.kind c.thread).answer ≡ a

abbrev step : ℕ → Choice
step i = record { kind = 0; thread = i }

abbrev promote : ℕ → Choice
promote i = record { kind = 1; thread = i }

abbrev makes : ℕ → Answer ℕ
makes rule = Answer.given rule

abbrev refuses : ℕ → Answer ℕ
refuses n = Answer.refused (Refusal.plain n)

abbrev plain : ℕ → Answer (Unit {0})
plain n = Answer.refused (Refusal.plain n)

abbrev at : ℕ → ℕ → ℕ → Answer (Unit {0})
at n f b = Answer.refused (Refusal.fault n f b)

abbrev pub A : List ℕ
A =
    0x00 ∷ 0x00 ∷ 0x00 ∷ 0x1E ∷ 0x01 ∷ 0x01 ∷ 0x00 ∷ 0x01 ∷ 0x01 ∷ 0x00 ∷ 0x00 ∷ 0x00 ∷ 0x00 ∷ 0x00 ∷ 0x01 ∷ 0x00 ∷ 0x02 ∷ 0x00 ∷ 0x00
    ∷ 0x00 ∷
    0x00 ∷ 0x02 ∷ 0x00 ∷ 0x00 ∷ 0x00 ∷ 0x00 ∷ 0x03 ∷ 0x03 ∷ 0x01 ∷ 0x00 ∷ []

-- main sporks to block 1, spawning function 1, which returns 7; block 1 spoins to block 2, which returns 1, or to block 3, which returns
-- its parameter
abbrev pub B : List ℕ
B =
    0x00 ∷ 0x00 ∷ 0x00 ∷ 0x48 ∷ 0x01 ∷ 0x02 ∷ 0x00 ∷ 0x01 ∷ 0x04 ∷ 0x01 ∷ 0x01 ∷ 0x00 ∷ 0x00 ∷ 0x00 ∷ 0x00 ∷ 0x00 ∷ 0x00 ∷ 0x04 ∷ 0x01
    ∷ 0x00 ∷
    0x00 ∷ 0x00 ∷ 0x00 ∷ 0x01 ∷ 0x00 ∷ 0x00 ∷ 0x05 ∷ 0x02 ∷ 0x03 ∷ 0x00 ∷ 0x00 ∷ 0x00 ∷ 0x00 ∷ 0x01 ∷ 0x00 ∷ 0x00 ∷ 0x00 ∷ 0x00 ∷ 0x00
    ∷ 0x00 ∷
    0x01 ∷ 0x03 ∷ 0x01 ∷ 0x00 ∷ 0x01 ∷ 0x00 ∷ 0x00 ∷ 0x00 ∷ 0x00 ∷ 0x00 ∷ 0x03 ∷ 0x01 ∷ 0x00 ∷ 0x00 ∷ 0x01 ∷ 0x01 ∷ 0x00 ∷ 0x00 ∷ 0x00
    ∷ 0x00 ∷
    0x00 ∷ 0x01 ∷ 0x00 ∷ 0x00 ∷ 0x00 ∷ 0x00 ∷ 0x00 ∷ 0x00 ∷ 0x07 ∷ 0x03 ∷ 0x01 ∷ 0x00 ∷ []

-- blocks 2 and 3 take temporaries 4 and 5; block 2 hands them over the other way round
abbrev pub swapped : List ℕ
swapped =
    0x00 ∷ 0x00 ∷ 0x00 ∷ 0x45 ∷ 0x01 ∷ 0x01 ∷ 0x00 ∷ 0x02 ∷ 0x04 ∷ 0x00 ∷ 0x00 ∷ 0x00 ∷ 0x00 ∷ 0x00 ∷ 0x02 ∷ 0x00 ∷ 0x00 ∷ 0x00 ∷ 0x00
    ∷ 0x00 ∷
    0x00 ∷ 0x01 ∷ 0x01 ∷ 0x00 ∷ 0x00 ∷ 0x00 ∷ 0x00 ∷ 0x00 ∷ 0x02 ∷ 0x00 ∷ 0x01 ∷ 0x02 ∷ 0x00 ∷ 0x01 ∷ 0x02 ∷ 0x02 ∷ 0x03 ∷ 0x00 ∷ 0x00
    ∷ 0x00 ∷
    0x00 ∷ 0x00 ∷ 0x02 ∷ 0x02 ∷ 0x02 ∷ 0x03 ∷ 0x02 ∷ 0x04 ∷ 0x05 ∷ 0x00 ∷ 0x00 ∷ 0x00 ∷ 0x00 ∷ 0x00 ∷ 0x03 ∷ 0x02 ∷ 0x05 ∷ 0x04 ∷ 0x02
    ∷ 0x04 ∷
    0x05 ∷ 0x00 ∷ 0x00 ∷ 0x00 ∷ 0x00 ∷ 0x03 ∷ 0x02 ∷ 0x04 ∷ 0x05 ∷ []

abbrev pub sum : List ℕ
sum =
    0x00 ∷ 0x00 ∷ 0x00 ∷ 0x1E ∷ 0x01 ∷ 0x01 ∷ 0x00 ∷ 0x01 ∷ 0x01 ∷ 0x00 ∷ 0x00 ∷ 0x00 ∷ 0x00 ∷ 0x00 ∷ 0x01 ∷ 0x00 ∷ 0x02 ∷ 0x00 ∷ 0x7F
    ∷ 0xFF ∷
    0xFF ∷ 0xFF ∷ 0x00 ∷ 0x00 ∷ 0x00 ∷ 0x00 ∷ 0x01 ∷ 0x03 ∷ 0x01 ∷ 0x00 ∷ []

-- B, but block 1 sets temporary 0 and returns it
abbrev unjoined : List ℕ
unjoined =
    0x00 ∷ 0x00 ∷ 0x00 ∷ 0x4F ∷ 0x01 ∷ 0x02 ∷ 0x00 ∷ 0x01 ∷ 0x04 ∷ 0x01 ∷ 0x01 ∷ 0x00 ∷ 0x00 ∷ 0x00 ∷ 0x00 ∷ 0x00 ∷ 0x00 ∷ 0x04 ∷ 0x01
    ∷ 0x00 ∷
    0x00 ∷ 0x00 ∷ 0x00 ∷ 0x01 ∷ 0x00 ∷ 0x01 ∷ 0x00 ∷ 0x00 ∷ 0x00 ∷ 0x00 ∷ 0x00 ∷ 0x00 ∷ 0x01 ∷ 0x03 ∷ 0x01 ∷ 0x00 ∷ 0x00 ∷ 0x00 ∷ 0x00
    ∷ 0x00 ∷
    0x01 ∷ 0x00 ∷ 0x00 ∷ 0x00 ∷ 0x00 ∷ 0x00 ∷ 0x00 ∷ 0x01 ∷ 0x03 ∷ 0x01 ∷ 0x00 ∷ 0x01 ∷ 0x00 ∷ 0x00 ∷ 0x00 ∷ 0x00 ∷ 0x00 ∷ 0x03 ∷ 0x01
    ∷ 0x00 ∷
    0x00 ∷ 0x01 ∷ 0x01 ∷ 0x00 ∷ 0x00 ∷ 0x00 ∷ 0x00 ∷ 0x00 ∷ 0x01 ∷ 0x00 ∷ 0x00 ∷ 0x00 ∷ 0x00 ∷ 0x00 ∷ 0x00 ∷ 0x07 ∷ 0x03 ∷ 0x01 ∷ 0x00 ∷ []

-- main calls itself
abbrev pub recursive : List ℕ
recursive =
    0x00 ∷ 0x00 ∷ 0x00 ∷ 0x1A ∷ 0x01 ∷ 0x01 ∷ 0x00 ∷ 0x00 ∷ 0x02 ∷ 0x00 ∷ 0x00 ∷ 0x00 ∷ 0x00 ∷ 0x00 ∷ 0x00 ∷ 0x02 ∷ 0x00 ∷ 0x00 ∷ 0x01
    ∷ 0x00 ∷
    0x00 ∷ 0x00 ∷ 0x00 ∷ 0x00 ∷ 0x03 ∷ 0x00 ∷ []

-- A with a byte more
abbrev longer : List ℕ
longer =
    0x00 ∷ 0x00 ∷ 0x00 ∷ 0x1F ∷ 0x01 ∷ 0x01 ∷ 0x00 ∷ 0x01 ∷ 0x01 ∷ 0x00 ∷ 0x00 ∷ 0x00 ∷ 0x00 ∷ 0x00 ∷ 0x01 ∷ 0x00 ∷ 0x02 ∷ 0x00 ∷ 0x00
    ∷ 0x00 ∷
    0x00 ∷ 0x02 ∷ 0x00 ∷ 0x00 ∷ 0x00 ∷ 0x00 ∷ 0x03 ∷ 0x03 ∷ 0x01 ∷ 0x00 ∷ 0x00 ∷ []

-- A without its last byte
abbrev shorter : List ℕ
shorter =
    0x00 ∷ 0x00 ∷ 0x00 ∷ 0x1D ∷ 0x01 ∷ 0x01 ∷ 0x00 ∷ 0x01 ∷ 0x01 ∷ 0x00 ∷ 0x00 ∷ 0x00 ∷ 0x00 ∷ 0x00 ∷ 0x01 ∷ 0x00 ∷ 0x02 ∷ 0x00 ∷ 0x00
    ∷ 0x00 ∷
    0x00 ∷ 0x02 ∷ 0x00 ∷ 0x00 ∷ 0x00 ∷ 0x00 ∷ 0x03 ∷ 0x03 ∷ 0x01 ∷ []

-- A ends in goto 4
abbrev far : List ℕ
far =
    0x00 ∷ 0x00 ∷ 0x00 ∷ 0x1E ∷ 0x01 ∷ 0x01 ∷ 0x00 ∷ 0x01 ∷ 0x01 ∷ 0x00 ∷ 0x00 ∷ 0x00 ∷ 0x00 ∷ 0x00 ∷ 0x01 ∷ 0x00 ∷ 0x02 ∷ 0x00 ∷ 0x00
    ∷ 0x00 ∷
    0x00 ∷ 0x02 ∷ 0x00 ∷ 0x00 ∷ 0x00 ∷ 0x00 ∷ 0x03 ∷ 0x00 ∷ 0x04 ∷ 0x00 ∷ []

-- A with its statement twice
abbrev repeated : List ℕ
repeated =
    0x00 ∷ 0x00 ∷ 0x00 ∷ 0x2A ∷ 0x01 ∷ 0x01 ∷ 0x00 ∷ 0x01 ∷ 0x01 ∷ 0x00 ∷ 0x00 ∷ 0x00 ∷ 0x00 ∷ 0x00 ∷ 0x02 ∷ 0x00 ∷ 0x02 ∷ 0x00 ∷ 0x00
    ∷ 0x00 ∷
    0x00 ∷ 0x02 ∷ 0x00 ∷ 0x00 ∷ 0x00 ∷ 0x00 ∷ 0x03 ∷ 0x00 ∷ 0x02 ∷ 0x00 ∷ 0x00 ∷ 0x00 ∷ 0x00 ∷ 0x02 ∷ 0x00 ∷ 0x00 ∷ 0x00 ∷ 0x00 ∷ 0x03
    ∷ 0x03 ∷
    0x01 ∷ 0x00 ∷ []

-- A returns 0, 0
abbrev pair : List ℕ
pair =
    0x00 ∷ 0x00 ∷ 0x00 ∷ 0x1F ∷ 0x01 ∷ 0x01 ∷ 0x00 ∷ 0x01 ∷ 0x01 ∷ 0x00 ∷ 0x00 ∷ 0x00 ∷ 0x00 ∷ 0x00 ∷ 0x01 ∷ 0x00 ∷ 0x02 ∷ 0x00 ∷ 0x00
    ∷ 0x00 ∷
    0x00 ∷ 0x02 ∷ 0x00 ∷ 0x00 ∷ 0x00 ∷ 0x00 ∷ 0x03 ∷ 0x03 ∷ 0x02 ∷ 0x00 ∷ 0x00 ∷ []

-- A goes to a block with scope 0002
abbrev scoped : List ℕ
scoped =
    0x00 ∷ 0x00 ∷ 0x00 ∷ 0x26 ∷ 0x01 ∷ 0x01 ∷ 0x00 ∷ 0x01 ∷ 0x02 ∷ 0x00 ∷ 0x00 ∷ 0x00 ∷ 0x00 ∷ 0x00 ∷ 0x01 ∷ 0x00 ∷ 0x02 ∷ 0x00 ∷ 0x00
    ∷ 0x00 ∷
    0x00 ∷ 0x02 ∷ 0x00 ∷ 0x00 ∷ 0x00 ∷ 0x00 ∷ 0x03 ∷ 0x00 ∷ 0x01 ∷ 0x00 ∷ 0x00 ∷ 0x00 ∷ 0x02 ∷ 0x00 ∷ 0x00 ∷ 0x03 ∷ 0x01 ∷ 0x01 ∷ []

-- main opens four calls and calls function 1, which opens four more
abbrev pub full : List ℕ
full =
    0x00 ∷ 0x00 ∷ 0x00 ∷ 0xD8 ∷ 0x01 ∷ 0x03 ∷ 0x00 ∷ 0x00 ∷ 0x0A ∷ 0x01 ∷ 0x02 ∷ 0x00 ∷ 0x00 ∷ 0x00 ∷ 0x00 ∷ 0x00 ∷ 0x00 ∷ 0x04 ∷ 0x01
    ∷ 0x00 ∷
    0x00 ∷ 0x00 ∷ 0x00 ∷ 0x01 ∷ 0x00 ∷ 0x00 ∷ 0x04 ∷ 0x02 ∷ 0x00 ∷ 0x00 ∷ 0x00 ∷ 0x00 ∷ 0x02 ∷ 0x00 ∷ 0x00 ∷ 0x00 ∷ 0x04 ∷ 0x03 ∷ 0x00
    ∷ 0x00 ∷
    0x00 ∷ 0x00 ∷ 0x03 ∷ 0x00 ∷ 0x00 ∷ 0x00 ∷ 0x00 ∷ 0x04 ∷ 0x04 ∷ 0x00 ∷ 0x00 ∷ 0x00 ∷ 0x00 ∷ 0x04 ∷ 0x00 ∷ 0x00 ∷ 0x00 ∷ 0x00 ∷ 0x00
    ∷ 0x02 ∷
    0x01 ∷ 0x00 ∷ 0x05 ∷ 0x00 ∷ 0x00 ∷ 0x00 ∷ 0x04 ∷ 0x00 ∷ 0x00 ∷ 0x00 ∷ 0x00 ∷ 0x00 ∷ 0x05 ∷ 0x06 ∷ 0x06 ∷ 0x00 ∷ 0x00 ∷ 0x00 ∷ 0x03
    ∷ 0x00 ∷
    0x00 ∷ 0x00 ∷ 0x00 ∷ 0x05 ∷ 0x07 ∷ 0x07 ∷ 0x00 ∷ 0x00 ∷ 0x00 ∷ 0x02 ∷ 0x00 ∷ 0x00 ∷ 0x00 ∷ 0x05 ∷ 0x08 ∷ 0x08 ∷ 0x00 ∷ 0x00 ∷ 0x00
    ∷ 0x01 ∷
    0x00 ∷ 0x00 ∷ 0x05 ∷ 0x09 ∷ 0x09 ∷ 0x00 ∷ 0x00 ∷ 0x00 ∷ 0x00 ∷ 0x00 ∷ 0x03 ∷ 0x00 ∷ 0x00 ∷ 0x00 ∷ 0x09 ∷ 0x01 ∷ 0x02 ∷ 0x00 ∷ 0x00
    ∷ 0x00 ∷
    0x00 ∷ 0x00 ∷ 0x00 ∷ 0x04 ∷ 0x01 ∷ 0x00 ∷ 0x00 ∷ 0x00 ∷ 0x00 ∷ 0x01 ∷ 0x00 ∷ 0x00 ∷ 0x04 ∷ 0x02 ∷ 0x00 ∷ 0x00 ∷ 0x00 ∷ 0x00 ∷ 0x02
    ∷ 0x00 ∷
    0x00 ∷ 0x00 ∷ 0x04 ∷ 0x03 ∷ 0x00 ∷ 0x00 ∷ 0x00 ∷ 0x00 ∷ 0x03 ∷ 0x00 ∷ 0x00 ∷ 0x00 ∷ 0x00 ∷ 0x04 ∷ 0x04 ∷ 0x00 ∷ 0x00 ∷ 0x00 ∷ 0x00
    ∷ 0x04 ∷
    0x00 ∷ 0x00 ∷ 0x00 ∷ 0x00 ∷ 0x00 ∷ 0x05 ∷ 0x05 ∷ 0x05 ∷ 0x00 ∷ 0x00 ∷ 0x00 ∷ 0x03 ∷ 0x00 ∷ 0x00 ∷ 0x00 ∷ 0x00 ∷ 0x05 ∷ 0x06 ∷ 0x06
    ∷ 0x00 ∷
    0x00 ∷ 0x00 ∷ 0x02 ∷ 0x00 ∷ 0x00 ∷ 0x00 ∷ 0x05 ∷ 0x07 ∷ 0x07 ∷ 0x00 ∷ 0x00 ∷ 0x00 ∷ 0x01 ∷ 0x00 ∷ 0x00 ∷ 0x05 ∷ 0x08 ∷ 0x08 ∷ 0x00
    ∷ 0x00 ∷
    0x00 ∷ 0x00 ∷ 0x00 ∷ 0x03 ∷ 0x00 ∷ 0x00 ∷ 0x00 ∷ 0x01 ∷ 0x00 ∷ 0x00 ∷ 0x00 ∷ 0x00 ∷ 0x00 ∷ 0x00 ∷ 0x03 ∷ 0x00 ∷ []

-- `full`, but function 1 has a second spawn call, with an argument that is never bound, which it opens last
abbrev crowded : List ℕ
crowded = set (set (set (take 118 full ++ 0x02 ∷ 0x01 ∷ 0x05 ∷ drop 118 full) 3 0xDB) 115 0x02) 158 0x01

-- main returns -5
abbrev negated : List ℕ
negated =
    0x00 ∷ 0x00 ∷ 0x00 ∷ 0x19 ∷ 0x01 ∷ 0x01 ∷ 0x00 ∷ 0x01 ∷ 0x01 ∷ 0x00 ∷ 0x00 ∷ 0x00 ∷ 0x00 ∷ 0x00 ∷ 0x01 ∷ 0x00 ∷ 0x01 ∷ 0x00 ∷ 0x00
    ∷ 0x00 ∷
    0x00 ∷ 0x05 ∷ 0x03 ∷ 0x01 ∷ 0x00 ∷ []

-- a spawn call with an argument that is never bound
abbrev pub unfed : List ℕ
unfed =
    0x00 ∷ 0x00 ∷ 0x00 ∷ 0x30 ∷ 0x01 ∷ 0x02 ∷ 0x00 ∷ 0x00 ∷ 0x03 ∷ 0x01 ∷ 0x01 ∷ 0x01 ∷ 0x05 ∷ 0x00 ∷ 0x00 ∷ 0x00 ∷ 0x00 ∷ 0x00 ∷ 0x04
    ∷ 0x01 ∷
    0x00 ∷ 0x00 ∷ 0x00 ∷ 0x00 ∷ 0x01 ∷ 0x00 ∷ 0x00 ∷ 0x05 ∷ 0x02 ∷ 0x02 ∷ 0x00 ∷ 0x00 ∷ 0x00 ∷ 0x00 ∷ 0x00 ∷ 0x03 ∷ 0x00 ∷ 0x01 ∷ 0x00
    ∷ 0x01 ∷
    0x00 ∷ 0x00 ∷ 0x00 ∷ 0x01 ∷ 0x00 ∷ 0x00 ∷ 0x03 ∷ 0x00 ∷ []

-- main sporks function 2, which begins with a goto, and calls function 1, which sporks function 3, which begins with a statement
abbrev outer : List ℕ
outer =
    0x00 ∷ 0x00 ∷ 0x00 ∷ 0x9F ∷ 0x01 ∷ 0x04 ∷ 0x00 ∷ 0x02 ∷ 0x05 ∷ 0x01 ∷ 0x02 ∷ 0x00 ∷ 0x00 ∷ 0x00 ∷ 0x00 ∷ 0x00 ∷ 0x00 ∷ 0x04 ∷ 0x01
    ∷ 0x00 ∷
    0x00 ∷ 0x00 ∷ 0x00 ∷ 0x01 ∷ 0x00 ∷ 0x00 ∷ 0x02 ∷ 0x01 ∷ 0x00 ∷ 0x02 ∷ 0x01 ∷ 0x00 ∷ 0x00 ∷ 0x00 ∷ 0x01 ∷ 0x00 ∷ 0x00 ∷ 0x05 ∷ 0x03
    ∷ 0x04 ∷
    0x00 ∷ 0x00 ∷ 0x01 ∷ 0x00 ∷ 0x01 ∷ 0x01 ∷ 0x00 ∷ 0x00 ∷ 0x00 ∷ 0x00 ∷ 0x00 ∷ 0x00 ∷ 0x03 ∷ 0x02 ∷ 0x00 ∷ 0x01 ∷ 0x01 ∷ 0x01 ∷ 0x00
    ∷ 0x01 ∷
    0x00 ∷ 0x00 ∷ 0x03 ∷ 0x02 ∷ 0x00 ∷ 0x01 ∷ 0x00 ∷ 0x01 ∷ 0x04 ∷ 0x01 ∷ 0x03 ∷ 0x00 ∷ 0x00 ∷ 0x00 ∷ 0x00 ∷ 0x00 ∷ 0x00 ∷ 0x04 ∷ 0x01
    ∷ 0x00 ∷
    0x00 ∷ 0x00 ∷ 0x00 ∷ 0x01 ∷ 0x00 ∷ 0x00 ∷ 0x05 ∷ 0x02 ∷ 0x03 ∷ 0x00 ∷ 0x00 ∷ 0x00 ∷ 0x00 ∷ 0x01 ∷ 0x00 ∷ 0x00 ∷ 0x00 ∷ 0x00 ∷ 0x00
    ∷ 0x00 ∷
    0x01 ∷ 0x03 ∷ 0x01 ∷ 0x00 ∷ 0x01 ∷ 0x00 ∷ 0x00 ∷ 0x00 ∷ 0x00 ∷ 0x00 ∷ 0x03 ∷ 0x01 ∷ 0x00 ∷ 0x00 ∷ 0x01 ∷ 0x02 ∷ 0x00 ∷ 0x00 ∷ 0x00
    ∷ 0x00 ∷
    0x00 ∷ 0x00 ∷ 0x00 ∷ 0x01 ∷ 0x00 ∷ 0x00 ∷ 0x00 ∷ 0x00 ∷ 0x00 ∷ 0x01 ∷ 0x00 ∷ 0x00 ∷ 0x00 ∷ 0x00 ∷ 0x00 ∷ 0x00 ∷ 0x0A ∷ 0x03 ∷ 0x01
    ∷ 0x00 ∷
    0x00 ∷ 0x01 ∷ 0x01 ∷ 0x00 ∷ 0x00 ∷ 0x00 ∷ 0x00 ∷ 0x00 ∷ 0x01 ∷ 0x00 ∷ 0x00 ∷ 0x00 ∷ 0x00 ∷ 0x00 ∷ 0x00 ∷ 0x14 ∷ 0x03 ∷ 0x01 ∷ 0x00 ∷ []

-- main sporks function 1, which begins with a goto, and within that function 2, which begins with a statement
abbrev inner : List ℕ
inner =
    0x00 ∷ 0x00 ∷ 0x00 ∷ 0x8B ∷ 0x01 ∷ 0x03 ∷ 0x00 ∷ 0x02 ∷ 0x07 ∷ 0x02 ∷ 0x01 ∷ 0x00 ∷ 0x02 ∷ 0x00 ∷ 0x00 ∷ 0x00 ∷ 0x00 ∷ 0x00 ∷ 0x00
    ∷ 0x04 ∷
    0x01 ∷ 0x00 ∷ 0x00 ∷ 0x00 ∷ 0x00 ∷ 0x01 ∷ 0x00 ∷ 0x00 ∷ 0x04 ∷ 0x02 ∷ 0x01 ∷ 0x00 ∷ 0x00 ∷ 0x00 ∷ 0x02 ∷ 0x00 ∷ 0x01 ∷ 0x00 ∷ 0x05
    ∷ 0x03 ∷
    0x04 ∷ 0x00 ∷ 0x00 ∷ 0x00 ∷ 0x01 ∷ 0x00 ∷ 0x01 ∷ 0x00 ∷ 0x00 ∷ 0x00 ∷ 0x00 ∷ 0x00 ∷ 0x00 ∷ 0x01 ∷ 0x05 ∷ 0x05 ∷ 0x06 ∷ 0x01 ∷ 0x00
    ∷ 0x00 ∷
    0x00 ∷ 0x01 ∷ 0x00 ∷ 0x00 ∷ 0x05 ∷ 0x05 ∷ 0x06 ∷ 0x00 ∷ 0x00 ∷ 0x01 ∷ 0x00 ∷ 0x01 ∷ 0x01 ∷ 0x00 ∷ 0x00 ∷ 0x00 ∷ 0x00 ∷ 0x00 ∷ 0x01
    ∷ 0x03 ∷
    0x02 ∷ 0x00 ∷ 0x01 ∷ 0x01 ∷ 0x01 ∷ 0x00 ∷ 0x01 ∷ 0x00 ∷ 0x00 ∷ 0x03 ∷ 0x02 ∷ 0x00 ∷ 0x01 ∷ 0x00 ∷ 0x01 ∷ 0x02 ∷ 0x00 ∷ 0x00 ∷ 0x00
    ∷ 0x00 ∷
    0x00 ∷ 0x00 ∷ 0x00 ∷ 0x01 ∷ 0x00 ∷ 0x00 ∷ 0x00 ∷ 0x00 ∷ 0x00 ∷ 0x01 ∷ 0x00 ∷ 0x00 ∷ 0x00 ∷ 0x00 ∷ 0x00 ∷ 0x00 ∷ 0x0A ∷ 0x03 ∷ 0x01
    ∷ 0x00 ∷
    0x00 ∷ 0x01 ∷ 0x01 ∷ 0x00 ∷ 0x00 ∷ 0x00 ∷ 0x00 ∷ 0x00 ∷ 0x01 ∷ 0x00 ∷ 0x00 ∷ 0x00 ∷ 0x00 ∷ 0x00 ∷ 0x00 ∷ 0x14 ∷ 0x03 ∷ 0x01 ∷ 0x00 ∷ []

-- A with a block behind it that returns an unbound temporary
abbrev unreached : List ℕ
unreached =
    0x00 ∷ 0x00 ∷ 0x00 ∷ 0x26 ∷ 0x01 ∷ 0x01 ∷ 0x00 ∷ 0x01 ∷ 0x02 ∷ 0x00 ∷ 0x00 ∷ 0x00 ∷ 0x00 ∷ 0x00 ∷ 0x01 ∷ 0x00 ∷ 0x02 ∷ 0x00 ∷ 0x00
    ∷ 0x00 ∷
    0x00 ∷ 0x02 ∷ 0x00 ∷ 0x00 ∷ 0x00 ∷ 0x00 ∷ 0x03 ∷ 0x03 ∷ 0x01 ∷ 0x00 ∷ 0x00 ∷ 0x00 ∷ 0x00 ∷ 0x00 ∷ 0x00 ∷ 0x03 ∷ 0x01 ∷ 0x01 ∷ []

-- a block with parameters 2 and 2
abbrev same : List ℕ
same =
    0x00 ∷ 0x00 ∷ 0x00 ∷ 0x2C ∷ 0x01 ∷ 0x01 ∷ 0x00 ∷ 0x01 ∷ 0x02 ∷ 0x00 ∷ 0x00 ∷ 0x00 ∷ 0x00 ∷ 0x00 ∷ 0x02 ∷ 0x00 ∷ 0x00 ∷ 0x00 ∷ 0x00
    ∷ 0x00 ∷
    0x00 ∷ 0x01 ∷ 0x01 ∷ 0x00 ∷ 0x00 ∷ 0x00 ∷ 0x00 ∷ 0x00 ∷ 0x02 ∷ 0x00 ∷ 0x01 ∷ 0x02 ∷ 0x00 ∷ 0x01 ∷ 0x02 ∷ 0x02 ∷ 0x02 ∷ 0x00 ∷ 0x00
    ∷ 0x00 ∷
    0x00 ∷ 0x03 ∷ 0x01 ∷ 0x02 ∷ []

-- function 1 of n is 1 where n < 1, and else twice itself at n - 1, once by a call and once by a spork
abbrev pub tree : List ℕ
tree =
    0x00 ∷ 0x00 ∷ 0x00 ∷ 0x98 ∷ 0x01 ∷ 0x02 ∷ 0x00 ∷ 0x01 ∷ 0x02 ∷ 0x00 ∷ 0x00 ∷ 0x00 ∷ 0x00 ∷ 0x00 ∷ 0x01 ∷ 0x00 ∷ 0x00 ∷ 0x00 ∷ 0x00
    ∷ 0x00 ∷
    0x00 ∷ 0x02 ∷ 0x02 ∷ 0x01 ∷ 0x01 ∷ 0x00 ∷ 0x01 ∷ 0x01 ∷ 0x01 ∷ 0x00 ∷ 0x01 ∷ 0x00 ∷ 0x00 ∷ 0x03 ∷ 0x01 ∷ 0x01 ∷ 0x01 ∷ 0x01 ∷ 0x08
    ∷ 0x01 ∷
    0x01 ∷ 0x01 ∷ 0x01 ∷ 0x00 ∷ 0x00 ∷ 0x01 ∷ 0x00 ∷ 0x00 ∷ 0x01 ∷ 0x03 ∷ 0x01 ∷ 0x00 ∷ 0x00 ∷ 0x00 ∷ 0x00 ∷ 0x00 ∷ 0x01 ∷ 0x01 ∷ 0x02
    ∷ 0x00 ∷
    0x00 ∷ 0x01 ∷ 0x00 ∷ 0x01 ∷ 0x01 ∷ 0x00 ∷ 0x00 ∷ 0x00 ∷ 0x00 ∷ 0x00 ∷ 0x01 ∷ 0x03 ∷ 0x01 ∷ 0x01 ∷ 0x00 ∷ 0x00 ∷ 0x01 ∷ 0x00 ∷ 0x01
    ∷ 0x01 ∷
    0x02 ∷ 0x01 ∷ 0x00 ∷ 0x00 ∷ 0xFF ∷ 0xFF ∷ 0xFF ∷ 0xFF ∷ 0x04 ∷ 0x03 ∷ 0x00 ∷ 0x00 ∷ 0x00 ∷ 0x02 ∷ 0x01 ∷ 0x00 ∷ 0x00 ∷ 0x02 ∷ 0x01
    ∷ 0x01 ∷
    0x01 ∷ 0x04 ∷ 0x01 ∷ 0x02 ∷ 0x00 ∷ 0x02 ∷ 0x01 ∷ 0x00 ∷ 0x00 ∷ 0x05 ∷ 0x05 ∷ 0x07 ∷ 0x00 ∷ 0x00 ∷ 0x06 ∷ 0x00 ∷ 0x00 ∷ 0x02 ∷ 0x01
    ∷ 0x01 ∷
    0x01 ∷ 0x06 ∷ 0x01 ∷ 0x03 ∷ 0x00 ∷ 0x04 ∷ 0x00 ∷ 0x01 ∷ 0x04 ∷ 0x02 ∷ 0x01 ∷ 0x02 ∷ 0x01 ∷ 0x03 ∷ 0x03 ∷ 0x01 ∷ 0x04 ∷ 0x01 ∷ 0x03
    ∷ 0x00 ∷
    0x04 ∷ 0x00 ∷ 0x01 ∷ 0x04 ∷ 0x02 ∷ 0x01 ∷ 0x02 ∷ 0x01 ∷ 0x03 ∷ 0x03 ∷ 0x01 ∷ 0x04 ∷ []

-- block 1 has this head of six bytes; spawn call 1 has the argument 0
abbrev headed : List ℕ → List ℕ
headed H =
    0x00 ∷ 0x00 ∷ 0x00 ∷ 0x2B ∷ 0x01 ∷ 0x02 ∷ 0x00 ∷ 0x00 ∷ 0x02 ∷ 0x02 ∷ 0x00 ∷ 0x00 ∷ 0x01 ∷ 0x01 ∷ 0x00 ∷ 0x00 ∷ 0x00 ∷ 0x00 ∷ 0x00
    ∷ 0x00 ∷
    0x03 ∷ 0x00 ∷
    (H ++
    (0x00 ∷ 0x05 ∷ 0x00 ∷ 0x00 ∷ 0x01 ∷ 0x00 ∷ 0x01 ∷ 0x00 ∷ 0x00 ∷ 0x00 ∷ 0x01 ∷ 0x00 ∷ 0x00 ∷ 0x03 ∷ 0x00 ∷ []))

-- block 1 is nested under a and b, where spawn call 1 has an argument outside the scope, and 2 is missing
abbrev nest : ℕ → ℕ → List ℕ
nest a b = headed (0x00 ∷ 0x00 ∷ 0x00 ∷ 0x02 ∷ a ∷ b ∷ [])

-- block 1 is nested under spawn call 1, whose argument is the block's own parameter, and not in its scope
abbrev nested_parameter : List ℕ
nested_parameter = headed (0x01 ∷ 0x00 ∷ 0x00 ∷ 0x00 ∷ 0x01 ∷ 0x01 ∷ [])

abbrev rows : List Row
rows =
    -- the ten marked runs: A; B unpromoted, and promoted
    Row.played A (step 0 ∷ step 0 ∷ []) (makes No.stmt ∷ refuses No.ended ∷ []) (some (pos 5 ∷ [])) ∷
    Row.played B (step 0 ∷ step 0 ∷ step 0 ∷ []) (makes No.spork ∷ makes No.unpr ∷ makes No.stmt ∷ []) (some (pos 1 ∷ [])) ∷
    Row.played B (step 0 ∷ promote 0 ∷ step 1 ∷ step 0 ∷ []) (makes No.spork ∷ makes No.promote ∷ makes No.stmt ∷ makes No.prom ∷ [])
    (some (pos 7 ∷ [])) ∷
    -- goto with swapped arguments; 2147483647 + 1; rows 5, 11, 17, 18, 19
    Row.played swapped (step 0 ∷ step 0 ∷ step 0 ∷ step 0 ∷ step 0 ∷ [])
    (makes No.stmt ∷ makes No.stmt ∷ makes No.goto ∷ makes No.goto ∷ makes No.goto ∷ []) (some (pos 2 ∷ pos 1 ∷ [])) ∷
    Row.played sum (step 0 ∷ []) (refuses No.overflow ∷ []) none ∷
    Row.checked (set A 12 1) (at No.entry 0 0) ∷
    Row.checked unjoined (at No.nesting 0 1) ∷
    Row.played B (step 0 ∷ promote 0 ∷ step 0 ∷ []) (makes No.spork ∷ makes No.promote ∷ refuses No.waits ∷ []) (none) ∷
    Row.played recursive (step 0 ∷ step 0 ∷ step 0 ∷ step 0 ∷ step 0 ∷ step 0 ∷ step 0 ∷ step 0 ∷ [])
    (makes No.call ∷ makes No.call ∷ makes No.call ∷ makes No.call ∷ makes No.call ∷ makes No.call ∷ makes No.call ∷ refuses No.frames
    ∷ []) (none) ∷
    Row.played (set A 29 1) (step 0 ∷ step 0 ∷ []) (makes No.stmt ∷ refuses No.stuck ∷ []) none ∷
    -- accepted tables
    Row.checked A (Answer.given tt) ∷
    Row.checked B (Answer.given tt) ∷
    Row.checked swapped (Answer.given tt) ∷
    Row.checked full (Answer.given tt) ∷
    Row.checked outer (Answer.given tt) ∷
    Row.checked inner (Answer.given tt) ∷
    Row.checked tree (Answer.given tt) ∷
    -- rows 1 to 4 and 6 to 10; a byte left over, and a missing one
    Row.checked [] (plain No.size) ∷
    Row.checked (set A 4 9) (plain No.version) ∷
    Row.checked (set A 5 0) (Answer.refused (Refusal.byte 5)) ∷
    Row.checked longer (Answer.refused (Refusal.byte 30)) ∷
    Row.checked shorter (Answer.refused (Refusal.byte 29)) ∷
    Row.checked (set A 6 1) (at No.main 0 Check.nowhere) ∷
    Row.checked far (at No.missing 0 0) ∷
    Row.checked repeated (at No.twice 0 0) ∷
    Row.checked (set A 29 1) (at No.unbound 0 0) ∷
    Row.checked pair (at No.count 0 0) ∷
    Row.checked scoped (at No.scope 0 0) ∷
    -- rows 12 and 13: no words, all 0, and a stray word behind a good pool; 14, 15, 16, 20
    Row.put A [] (step 0) (refuses No.words) ∷
    Row.put A blank (step 0) (refuses No.pool) ∷
    Row.put A (set (begun A) (pool_words - 1) (pos 1)) (step 0) (refuses No.pool) ∷
    Row.played A (record { kind = 2; thread = 9 } ∷ step 1 ∷ promote 0 ∷ step 0 ∷ step 0 ∷ step 0 ∷ [])
    (refuses No.kind ∷ refuses No.thread ∷ refuses No.promoted ∷ makes No.stmt ∷ refuses No.ended ∷ refuses No.ended ∷ [])
    (some (pos 5 ∷ [])) ∷
    -- row 21: a full pool, and 20 in it; a promotion's needs unmet
    Row.played full
    (step 0 ∷ step 0 ∷ step 0 ∷ step 0 ∷ step 0 ∷ step 0 ∷ step 0 ∷ step 0 ∷ step 0 ∷ promote 0 ∷ promote 0 ∷ promote 0 ∷ promote 0
    ∷ promote 0 ∷ promote 0 ∷ promote 0 ∷ promote 0 ∷ promote 1 ∷ [])
    (makes No.spork ∷ makes No.spork ∷ makes No.spork ∷ makes No.spork ∷ makes No.call ∷ makes No.spork ∷ makes No.spork
    ∷ makes No.spork ∷ makes No.spork ∷ makes No.promote ∷ makes No.promote ∷ makes No.promote ∷ makes No.promote ∷ makes No.promote
    ∷ makes No.promote ∷ makes No.promote ∷ refuses No.threads ∷ refuses No.promoted ∷ []) (none) ∷
    Row.played unfed (step 0 ∷ promote 0 ∷ []) (makes No.spork ∷ refuses No.stuck ∷ []) none ∷
    -- where scripts go wrong: the oldest call over all frames is promoted, and the first of a frame; the newest child is joined
    Row.played outer (step 0 ∷ step 0 ∷ step 0 ∷ promote 0 ∷ step 1 ∷ promote 0 ∷ step 1 ∷ step 2 ∷ step 0 ∷ step 0 ∷ step 0 ∷ [])
    (makes No.spork ∷ makes No.call ∷ makes No.spork ∷ makes No.promote ∷ makes No.goto ∷ makes No.promote ∷ makes No.stmt
    ∷ makes No.stmt ∷ makes No.prom ∷ makes No.return ∷ makes No.prom ∷ []) (some (pos 20 ∷ pos 10 ∷ [])) ∷
    Row.played inner (step 0 ∷ step 0 ∷ promote 0 ∷ step 1 ∷ promote 0 ∷ step 1 ∷ step 2 ∷ step 0 ∷ step 0 ∷ [])
    (makes No.spork ∷ makes No.spork ∷ makes No.promote ∷ makes No.goto ∷ makes No.promote ∷ makes No.stmt ∷ makes No.stmt
    ∷ makes No.prom ∷ makes No.prom ∷ []) (some (pos 20 ∷ pos 10 ∷ [])) ∷
    -- a bad block that nothing reaches; a nesting's entries, one by one, and not among the parameters; a repeated parameter keeps the last
    Row.checked unreached (at No.unbound 0 1) ∷
    Row.checked (nest 1 2) (at No.scope 0 1) ∷
    Row.checked (nest 2 1) (at No.missing 0 1) ∷
    Row.checked nested_parameter (at No.scope 0 1) ∷
    Row.played same (step 0 ∷ step 0 ∷ step 0 ∷ []) (makes No.stmt ∷ makes No.stmt ∷ makes No.goto ∷ []) (some (pos 2 ∷ [])) ∷
    -- a recursive program, with promotions by a thread and by its child
    Row.played tree
    (step 0 ∷ step 0 ∷ step 0 ∷ step 0 ∷ step 0 ∷ promote 0 ∷ step 0 ∷ step 0 ∷ step 1 ∷ step 1 ∷ step 1 ∷ step 0 ∷ step 0 ∷ promote 0
    ∷ step 0 ∷ promote 2 ∷ step 2 ∷ step 0 ∷ step 0 ∷ step 1 ∷ step 0 ∷ step 2 ∷ step 1 ∷ step 0 ∷ step 0 ∷ step 0 ∷ step 2 ∷ step 1
    ∷ step 1 ∷ step 2 ∷ step 1 ∷ step 1 ∷ step 0 ∷ step 0 ∷ step 0 ∷ [])
    (makes No.stmt ∷ makes No.call ∷ makes No.else ∷ makes No.stmt ∷ makes No.spork ∷ makes No.promote ∷ makes No.call ∷ makes No.else
    ∷ makes No.else ∷ makes No.stmt ∷ makes No.spork ∷ makes No.stmt ∷ makes No.spork ∷ makes No.promote ∷ makes No.call
    ∷ makes No.promote ∷ makes No.call ∷ makes No.then ∷ makes No.stmt ∷ makes No.then ∷ makes No.return ∷ makes No.then
    ∷ makes No.stmt ∷ makes No.prom ∷ makes No.stmt ∷ makes No.return ∷ makes No.then ∷ makes No.stmt ∷ makes No.return ∷ makes No.stmt
    ∷ makes No.prom ∷ makes No.stmt ∷ makes No.prom ∷ makes No.stmt ∷ makes No.return ∷ []) (some (pos 4 ∷ [])) ∷
    -- two faults at once, and what comes first: 5 before 7, 9 before 11; 21 before 19
    Row.checked (set repeated 12 1) (at No.entry 0 0) ∷
    Row.checked (set unjoined 7 2) (at No.count 0 1) ∷
    Row.played crowded
    (step 0 ∷ step 0 ∷ step 0 ∷ step 0 ∷ step 0 ∷ step 0 ∷ step 0 ∷ step 0 ∷ step 0 ∷ promote 0 ∷ promote 0 ∷ promote 0 ∷ promote 0
    ∷ promote 0 ∷ promote 0 ∷ promote 0 ∷ promote 0 ∷ [])
    (makes No.spork ∷ makes No.spork ∷ makes No.spork ∷ makes No.spork ∷ makes No.call ∷ makes No.spork ∷ makes No.spork
    ∷ makes No.spork ∷ makes No.spork ∷ makes No.promote ∷ makes No.promote ∷ makes No.promote ∷ makes No.promote ∷ makes No.promote
    ∷ makes No.promote ∷ makes No.promote ∷ refuses No.threads ∷ []) (none) ∷
    -- negations: of 5, and of the least value, which overflows
    Row.played negated (step 0 ∷ []) (makes No.stmt ∷ []) (some (negsuc 4 ∷ [])) ∷
    Row.played (set (set negated 18 0x80) 21 0x00) (step 0 ∷ []) (refuses No.overflow ∷ []) none ∷
    []

-- every row is right
pub right : Each Right rows
unfolding all
right = (
  refl,
  (
    refl,
    (
      refl,
      (
        refl,
        (
          refl,
          (
            refl,
            (
              refl,
              (
                refl,
                (
                  refl,
                  (
                    refl,
                    (
                      refl,
                      (
                        refl,
                        (
                          refl,
                          (
                            refl,
                            (
                              refl,
                              (
                                refl,
                                (
                                  refl,
                                  (
                                    refl,
                                    (
                                      refl,
                                      (
                                        refl,
                                        (
                                          refl,
                                          (
                                            refl,
                                            (
                                              refl,
                                              (
                                                refl,
                                                (
                                                  refl,
                                                  (
                                                    refl,
                                                    (
                                                      refl,
                                                      (
                                                        refl,
                                                        (
                                                          refl,
                                                          (
                                                            refl,
                                                            (
                                                              refl,
                                                              (
                                                                refl,
                                                                (
                                                                  refl,
                                                                  (
                                                                    refl,
                                                                    (
                                                                      refl,
                                                                      (
                                                                        refl,
                                                                        (
                                                                          refl,
                                                                          (
                                                                            refl,
                                                                            (
                                                                              refl,
                                                                              (
                                                                                refl,
                                                                                (
                                                                                  refl,
                                                                                  (
                                                                                    refl,
                                                                                    (
                                                                                      refl,
                                                                                      (
                                                                                        refl,
                                                                                        (
                                                                                          refl,
                                                                                          (
                                                                                            refl,
                                                                                            (refl, tt),
                                                                                          ),
                                                                                        ),
                                                                                      ),
                                                                                    ),
                                                                                  ),
                                                                                ),
                                                                              ),
                                                                            ),
                                                                          ),
                                                                        ),
                                                                      ),
                                                                    ),
                                                                  ),
                                                                ),
                                                              ),
                                                            ),
                                                          ),
                                                        ),
                                                      ),
                                                    ),
                                                  ),
                                                ),
                                              ),
                                            ),
                                          ),
                                        ),
                                      ),
                                    ),
                                  ),
                                ),
                              ),
                            ),
                          ),
                        ),
                      ),
                    ),
                  ),
                ),
              ),
            ),
          ),
        ),
      ),
    ),
  ),
)

-- 13 by a thread's work and tokens: the greatest of each is one of a pool, one more is not, nor is a negative word, nor anything but 0
-- in a thread that is not used
abbrev purse : ℕ → ℕ → ℤ → List ℤ
purse i at w = set (begun A) (thread_start i + at) w

abbrev pub purses : List Row
purses =
    Row.put A (purse 0 work_at (pos most_work)) (step 0) (makes No.stmt) ∷
    Row.put A (purse 0 work_at (pos (most_work + 1))) (step 0) (refuses No.pool) ∷
    Row.put A (purse 0 work_at (negsuc 0)) (step 0) (refuses No.pool) ∷
    Row.put A (purse 0 tokens_at (pos most_tokens)) (step 0) (makes No.stmt) ∷
    Row.put A (purse 0 tokens_at (pos (most_tokens + 1))) (step 0) (refuses No.pool) ∷
    Row.put A (purse 0 tokens_at (negsuc 0)) (step 0) (refuses No.pool) ∷
    Row.put A (purse 1 work_at (pos 1)) (step 0) (refuses No.pool) ∷
    Row.put A (purse 1 tokens_at (pos 1)) (step 0) (refuses No.pool) ∷
    []

pub purses-right : Each Right purses
unfolding all
purses-right = (refl, (refl, (refl, (refl, (refl, (refl, (refl, (refl, tt))))))))

-- which thread can step: the table, the pool's length and the pool are judged in this order; of two that can it is the lower; it is
-- thread 1 where 0 waits, and none where 0 has ended
pub record Asked : Type 0 where
  pub table : List ℕ
  pub words : List ℤ
  pub answer : Answer (Option ℕ)

abbrev asked : List ℕ → List ℤ → Answer (Option ℕ) → Asked
asked s ws a = record { table = s; words = ws; answer = a }

abbrev left : List ℕ → List Choice → List ℤ
left s cs = (schedule s (begun s) cs).after

abbrev pub questions : List Asked
questions =
    asked [] [] (Answer.refused (Refusal.plain No.size)) ∷
    asked B [] (Answer.refused (Refusal.plain No.words)) ∷
    asked B blank (Answer.refused (Refusal.plain No.pool)) ∷
    asked B (begun B) (Answer.given (some 0)) ∷
    asked tree (left tree (step 0 ∷ step 0 ∷ step 0 ∷ step 0 ∷ step 0 ∷ promote 0 ∷ [])) (Answer.given (some 0)) ∷
    asked B (left B (step 0 ∷ promote 0 ∷ [])) (Answer.given (some 1)) ∷
    asked A (left A (step 0 ∷ [])) (Answer.given none) ∷
    []

pub questions-right : map (λ q. which q.table q.words) questions ≡ map (λ q. q.answer) questions
unfolding all
questions-right = refl
