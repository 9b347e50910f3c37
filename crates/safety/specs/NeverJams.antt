-- Demand 3, on bytes and words. A comment quotes the words of document 01, or of a request of document 02, that a definition renders.
use Rattle.std.specs.Prelude.{ℕ, ◌+◌, ◌≤◌, ◌≡◌, ◌≢◌, ◌⊎◌, cond, List, [], ◌∷◌, ◌++◌, map, ℤ, length}
use Rattle.std.proofs.Math.Option.{none, some}
use Rattle.std.proofs.Math.ListN.{get_elem?}
use Rattle.model.specs.Numbers as No
use Rattle.model.specs.Answers.{Refusal, Answer, number_of}
use Rattle.model.specs.Lists.{Each}
use Rattle.model.specs.Sets.{◌∈◌}
use Rattle.model.specs.Syntax.{Transfer, Block, Function, Program}
use Rattle.model.specs.Pool.{Frame, Thread, pool_words, block_of}
use Rattle.model.specs.Calls as Calls
use Rattle.model.specs.Calls.{Choice, Lent, lent, check, read}
use Rattle.tokens.specs.Beats as Beats
use Rattle.tokens.specs.Beats.{is_pace, promoted_from}

-- what may be put: a choice of any kind number and any thread number, a schedule, a beat of any thread number with any N and C, a run of
-- such beats, and the two questions
pub data Call : Type 0 where
  choose : ℕ → ℕ → Call
  schedule : List Choice → Call
  beat : ℕ → ℕ → ℕ → Call
  run : ℕ → ℕ → List ℕ → Call
  which : Call
  values : Call

-- the words as a call leaves them. "The questions write nothing"
abbrev pub left : List ℕ → List ℤ → Call → List ℤ
left s ws (Call.choose kind thread) = (Calls.choose s ws kind thread).after
left s ws (Call.schedule cs) = (Calls.schedule s ws cs).after
left s ws (Call.beat thread N C) = (Beats.beat s ws thread N C).after
left s ws (Call.run N C threads) = (Beats.run s ws N C threads).after
left s ws Call.which = ws
left s ws Call.values = ws

-- "with the accepted table and the pool as the choice before it left it"
unfoldable pub finally : List ℕ → List ℤ → List Call → List ℤ
finally s ws [] = ws
finally s ws (c ∷ cs) = finally s (left s ws c) cs

-- a choice that was put, made or refused, and the words that it was put with
pub record Put : Type 0 where
  pub words : List ℤ
  pub kind : ℕ
  pub thread : ℕ

-- "a schedule counts as its choices in order, up to and with the first refused"
unfoldable pub while_given : {A : Type 0} → Answer A → List Put → List Put
while_given (Answer.given a) ps = ps
while_given (Answer.refused r) ps = []

unfoldable pub of_schedule : List ℕ → List ℤ → List Choice → List Put
of_schedule s ws [] = []
of_schedule s ws (c ∷ cs) =
    record { words = ws; kind = c.kind; thread = c.thread } ∷
    while_given (Calls.choose s ws c.kind c.thread).answer (of_schedule s (Calls.choose s ws c.kind c.thread).after cs)

-- "a beat counts as its step and then the promotions it makes". One with an N or C that there is not (27) puts no step
unfoldable pub of_beat : List ℕ → List ℤ → ℕ → ℕ → ℕ → List Put
of_beat s ws thread N C =
    cond (is_pace N C)
    (record { words = ws; kind = 0; thread = thread } ∷
    map (λ w. record { words = w; kind = 1; thread = thread }) (promoted_from s ws thread N C))
    []

-- a run counts as its beats in order, up to and with the first refused, as a schedule does
unfoldable pub of_run : List ℕ → List ℤ → ℕ → ℕ → List ℕ → List Put
of_run s ws N C [] = []
of_run s ws N C (i ∷ is) =
    of_beat s ws i N C ++ while_given (Beats.beat s ws i N C).answer (of_run s (Beats.beat s ws i N C).after N C is)

unfoldable pub of_call : List ℕ → List ℤ → Call → List Put
of_call s ws (Call.choose kind thread) = record { words = ws; kind = kind; thread = thread } ∷ []
of_call s ws (Call.schedule cs) = of_schedule s ws cs
of_call s ws (Call.beat thread N C) = of_beat s ws thread N C
of_call s ws (Call.run N C threads) = of_run s ws N C threads
of_call s ws Call.which = []
of_call s ws Call.values = []

-- every choice in the list, made or refused
unfoldable pub choices : List ℕ → List ℤ → List Call → List Put
choices s ws [] = []
choices s ws (c ∷ cs) = of_call s ws c ++ choices s (left s ws c) cs

-- no choice is answered "stuck" (19), for a step and for a promotion alike; nor 1 to 3, 12 or 13
unfoldable pub Answered : List ℕ → Put → Type 0
Answered s p =
    (r : Refusal) → (Calls.choose s p.words p.kind p.thread).answer ≡ Answer.refused r →
    (No.kind ≤ number_of r) × (number_of r ≢ No.stuck)

-- a frame is at the transfer T: its block's statements are done
pub record At (P : Program) (k : Frame) (T : Transfer) : Type 0 where
  pub block : Block
  pub there : block_of P k k.block ≡ some block
  pub done : get_elem? block.code k.done ≡ none
  pub is : block.transfer ≡ T

-- "a step put to a thread that is at a promoted spoin and whose newest child is ended, whatever the answer". The newest child
-- stands directly behind its parent; ended is one frame, at a return, nothing open, its temporaries bound
pub record Join (s : List ℕ) (p : Put) : Type 0 where
  pub step : p.kind ≡ 0
  pub lends : Lent
  pub pool : lent s p.words ≡ Answer.given lends
  pub parent : Thread
  pub child : Thread
  pub parent_there : get_elem? lends.pool p.thread ≡ some parent
  pub child_there : get_elem? lends.pool (p.thread + 1) ≡ some child
  pub unpromoted : ℕ
  pub promoted : ℕ
  pub at_spoin : At lends.table parent.newest (Transfer.spoin unpromoted promoted)
  pub some_open : parent.newest.calls ≢ []
  pub all_promoted : parent.newest.promoted ≡ length parent.newest.calls
  pub arguments : List ℕ
  pub one_frame : child.older ≡ []
  pub at_return : At lends.table child.newest (Transfer.return arguments)
  pub nothing_open : child.newest.calls ≡ []
  pub bound : Each (λ x. x ∈ child.newest.bound) arguments

-- "it brings the arguments of the return at which that child stands, and the block behind it is the promoted block of the
-- parent's spoin, which takes as many values as it has parameters in the table"
pub record Fits {s : List ℕ} {p : Put} (j : Join s p) : Type 0 where
  pub block : Block
  pub there : block_of j.lends.table j.parent.newest j.promoted ≡ some block
  pub takes : length block.head.parameters ≡ length j.arguments

abbrev pub Joined : List ℕ → Put → Type 0
Joined s p = (j : Join s p) → Fits j

-- "main's values are given, as many as the table declares for function 0"
pub record Returned (s : List ℕ) (ws : List ℤ) : Type 0 where
  pub result : List ℤ
  pub given : Calls.values s ws ≡ Answer.given (some result)
  pub table : Program
  pub reads : read s ≡ Answer.given table
  pub main : Function
  pub first : get_elem? table 0 ≡ some main
  pub declared : length result ≡ main.signature.returns

-- "a step of it, put next, makes one of rules 1 to 9"
pub record CanStep (s : List ℕ) (ws : List ℤ) : Type 0 where
  pub thread : ℕ
  pub rule : ℕ
  pub makes : (Calls.choose s ws 0 thread).answer ≡ Answer.given rule
  pub ordinary : (No.stmt ≤ rule) × (rule ≤ No.prom)

-- "a step of it, put next, gets 18"
pub record OutOfFrames (s : List ℕ) (ws : List ℤ) : Type 0 where
  pub thread : ℕ
  pub gets : (Calls.choose s ws 0 thread).answer ≡ Answer.refused (Refusal.plain No.frames)

-- "a thread whose next expression overflows": a step of it, put next, gets 29
pub record Overflows (s : List ℕ) (ws : List ℤ) : Type 0 where
  pub thread : ℕ
  pub gets : (Calls.choose s ws 0 thread).answer ≡ Answer.refused (Refusal.plain No.overflow)

-- some thread can step, or is out of frames, or overflows
abbrev pub Moves : List ℕ → List ℤ → Type 0
Moves s ws = CanStep s ws ⊎ (OutOfFrames s ws ⊎ Overflows s ws)

abbrev pub Stands : List ℕ → List ℤ → Type 0
Stands s ws = Returned s ws ⊎ Moves s ws

-- the claim, about the whole list of calls put from the words ws on
pub record Safe (s : List ℕ) (ws : List ℤ) (cs : List Call) : Type 0 where
  pub answered : Each (Answered s) (choices s ws cs)
  pub joined : Each (Joined s) (choices s ws cs)
  pub stands : Stands s (finally s ws cs)

-- demand 3: for every table that the check accepts, every 1,689 words lent to the start, and every list of calls after it
pub record NeverJams (s : List ℕ) (ws : List ℤ) : Type 0 where
  pub starts : (Calls.start s ws).answer ≡ Answer.given tt
  pub safe : (cs : List Call) → Safe s (Calls.start s ws).after cs

abbrev pub Demand3 : Type 0
Demand3 = (s : List ℕ) (ws : List ℤ) → check s ≡ Answer.given tt → length ws ≡ pool_words → NeverJams s ws
