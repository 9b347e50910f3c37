-- What the code decides and answers, in the model's terms, and the contracts: for every program that the places belong to, and
-- every valid pool that the words hold.
use Rattle.std.specs.Prelude.{ℕ, ◌-◌, ◌≤◌, ◌<◌, ◌≡◌, Bool, true, List, [], ◌∷◌, ◌++◌, ltb, ℤ, length, take, Some, None, Ok, Err}
use Rattle.std.specs.Prelude.{Option as Optional, Result as Outcome}
use Rattle.std.proofs.Math.Option.{Option, none, some}
use Rattle.std.proofs.Math.ListN.{get_elem?}
use Rattle.model.specs.Lists.{Each}
use Rattle.model.specs.Syntax.{Program}
use Rattle.model.specs.Answers.{Refusal, Answer}
use Rattle.model.specs.Pool.{Frame, Thread, Pool, most_frames, most_threads, start_of, frames, words_of, is_pool, are_pool}
use Rattle.model.specs.Rules.{Act, Result, act, ended, promote, choice}
use Rattle.model.specs.Rules as Rules
use Rattle.model.specs.Numbers as Numbers
use Rattle.model.specs.Calls.{Called, made, can_step, first}
use Rattle.model.specs.Valid.{IsPool}
use Rattle.places.specs.Places.{Places}
use Rattle.pool.specs.Held.{Held, ThreadAt, FrameAt}
use Rattle.answers.specs.declared.No.{No}
use Rattle.answers.specs.declared.Rule.{Rule}
use Rattle.eval.specs.declared.Values.{Values}
use Rattle.eval.specs.Given.{looked_as, filled}
use Rattle.code.specs.Code.{most}
use Rattle.rules.specs.declared.Entry.{Entry}
use Rattle.rules.specs.Acts.{arrived, closed, Parameters, next_of, returns_of, given_by, few_by}
use Rattle.steps.specs.declared.Unpromoted.{Unpromoted}
use Rattle.steps.specs.Decision.{Decision, Decides, before}

-- the frame below the newest; the newest, where there is none
abbrev pub caller_in : Frame → List Frame → Frame
caller_in k [] = k
caller_in k (l ∷ K) = l

abbrev pub caller_of : Thread → Frame
caller_of t = caller_in t.newest t.older

-- the answer to a choice: the rule by which it was made, or its refusal by document 01's number
abbrev pub Made : Type 0
Made = Outcome Rule No

abbrev pub by_rule : ℕ → Made
by_rule rule = Ok (record { 0 = rule })

abbrev pub refused : ℕ → Made
refused n = Err (record { 0 = n })

abbrev pub made_of : Made → Answer ℕ
made_of (Ok rule) = Answer.given rule.0
made_of (Err n) = Answer.refused (Refusal.plain n.0)

-- what is known: the places are the program's, the words hold a valid pool of it, and t is thread i
pub record Known (s places : List ℕ) (ws : List ℤ) (i : ℕ) (P : Program) (a : Pool) (t : Thread) (b : Pool) : Type 0 where
  pub table : Places s P places
  pub thread : ThreadAt ws i a t b
  pub valid : IsPool P (a ++ t ∷ b)

-- the values of thread i, if it is ended
abbrev pub Ends : List ℕ → List ℕ → List ℤ → ℕ → Optional Values → Type 0
Ends s places ws i r = (P : Program) (a : Pool) (t : Thread) (b : Pool) → Known s places ws i P a t b → r ≡ looked_as (ended P t)

-- the temporaries that thread t returns: those of its one frame; with older frames it is not ended
abbrev pub of_one : List Frame → List ℕ → List ℕ
of_one [] x̄ = x̄
of_one (k ∷ K) x̄ = []

abbrev pub ends_with : Program → Thread → List ℕ
ends_with P t = of_one t.older (returns_of t.newest (next_of P t.newest))

-- what a thread gives, with its values in a buffer, and what is left there
pub record Brought (P : Program) (t : Thread) (out : List ℤ) (r : Optional ℕ) (out' : List ℤ) : Type 0 where
  pub is : given_by r out' ≡ ended P t
  pub few : few_by r
  pub left : out' ≡ filled t.newest (ends_with P t) out

abbrev pub Brings : List ℕ → List ℕ → List ℤ → ℕ → List ℤ → Optional ℕ → List ℤ → Type 0
Brings s places ws i out r out' =
    (P : Program) (a : Pool) (t : Thread) (b : Pool) → Known s places ws i P a t b → Brought P t out r out'

-- a call of thread t: there is room for one more frame, or it is refused for its frames
abbrev pub CalledBy : Outcome (Unit {0}) No → Thread → Type 0
CalledBy (Ok _) t = length (frames t) < most_frames
CalledBy (Err n) t = (n.0 ≡ Numbers.frames) × (most_frames ≤ length (frames t))

abbrev pub Calls : List ℤ → ℕ → Outcome (Unit {0}) No → Type 0
Calls ws i r = (a : Pool) (t : Thread) (b : Pool) → ThreadAt ws i a t b → CalledBy r t

-- the step of thread t is decided, as by d: the frame k goes on at the block that is entered, and something is there to go for it; or
-- the step is refused
pub record GoesOn (P : Program) (s : List ℕ) (t : Thread) (b : Pool) (d : Frame → Decision) (k : Frame) (there : ℕ) (out : List ℤ)
    (e : Entry) : Type 0 where
  pub is : Decides P t b (d (arrived s e out k))
  pub parameters : Parameters s e.parameters e.count
  pub goes : 0 < there

abbrev pub Decided : Program → List ℕ → Thread → Pool → (Frame → Decision) → Frame → ℕ → List ℤ → Outcome Entry No → Type 0
Decided P s t b d k there out (Ok e) = GoesOn P s t b d k there out e
Decided P s t b d k there out (Err n) = Decides P t b (Decision.refuse n.0)

-- thread i: its newest frame returns n values, to its caller; it waits at a promoted spoin, for the thread directly behind
abbrev pub Returns : List ℕ → List ℕ → List ℤ → ℕ → ℕ → Outcome Entry No → Type 0
Returns s places ws i n r =
    (P : Program) (a : Pool) (t : Thread) (b : Pool) → Known s places ws i P a t b → (out : List ℤ) → length out ≡ most → n ≤ most
    → act P t.newest ≡ Act.pop (take n out) → Decided P s t b Decision.pop (caller_of t) (length t.older) out r

-- what is left in the buffer by the thread directly behind, whose values a join looks at
abbrev pub left_by_first : Program → Pool → List ℤ → List ℤ
left_by_first P [] out = out
left_by_first P (u ∷ b) out = filled u.newest (ends_with P u) out

-- the newest frame with the call closed that is joined
abbrev pub joined_of : Thread → Frame
joined_of t = closed t.newest (t.newest.promoted - 1)

pub record Joined (P : Program) (s : List ℕ) (t : Thread) (b : Pool) (out : List ℤ) (r : Outcome Entry No) (out' : List ℤ) : Type 0 where
  pub decided : Decided P s t b Decision.join (joined_of t) (length b) out' r
  pub left : out' ≡ left_by_first P b out

abbrev pub Joins : List ℕ → List ℕ → List ℤ → ℕ → ℕ → ℕ → List ℤ → Outcome Entry No → List ℤ → Type 0
Joins s places ws i f c out r out' =
    (P : Program) (a : Pool) (t : Thread) (b : Pool) → Known s places ws i P a t b → f ≡ t.newest.function
    → act P t.newest ≡ Act.join (joined_of t) c → Joined P s t b out r out'

-- a step tried: whether it makes a rule, and the words after it
pub record Tried (P : Program) (p : Pool) (ws : List ℤ) (i : ℕ) (r : Bool) (ws' : List ℤ) : Type 0 where
  pub goes : r ≡ can_step P p i
  pub left : ws' ≡ (made ws (choice P p 0 i)).after

abbrev pub Tries : List ℕ → List ℕ → List ℤ → ℕ → Bool → List ℤ → Type 0
Tries s places ws i r ws' =
    (P : Program) (p : Pool) → Places s P places → ws ≡ words_of p → is_pool P p ≡ true → Tried P p ws i r ws'

-- the thread that was found, or none
abbrev pub Stepper : Type 0
Stepper = Optional ℕ

abbrev pub found_by : Stepper → Option ℕ
found_by (Some i) = some i
found_by None = none

abbrev pub FindsStepper : List ℕ → List ℕ → List ℤ → Stepper → Type 0
FindsStepper s places ws r =
    (P : Program) (p : Pool) → Places s P places → ws ≡ words_of p → is_pool P p ≡ true → found_by r ≡ first P p

-- the words after a step of this thread; where there is none, the words
abbrev pub after_step : Program → Pool → List ℤ → Option ℕ → List ℤ
after_step P p ws (some i) = (made ws (choice P p 0 i)).after
after_step P p ws none = ws

-- the first thread that can step was found, and has stepped
pub record First (P : Program) (p : Pool) (ws : List ℤ) (r : Stepper) (ws' : List ℤ) : Type 0 where
  pub found : found_by r ≡ first P p
  pub left : ws' ≡ after_step P p ws (first P p)

abbrev pub FindsFirst : List ℕ → List ℕ → List ℤ → Stepper → List ℤ → Type 0
FindsFirst s places ws r ws' =
    (P : Program) (p : Pool) → Places s P places → ws ≡ words_of p → is_pool P p ≡ true → First P p ws r ws'

-- what a choice leaves: its answer, and the words of what it made, or the same words
abbrev pub Comes : List ℤ → Result → Made → List ℤ → Type 0
Comes ws (Result.made rule p) r ws' = (r ≡ by_rule rule) × Held ws' p
Comes ws (Result.refused n) r ws' = (r ≡ refused n) × (ws' ≡ ws)

-- a step of thread i
abbrev pub Steps : List ℕ → List ℕ → List ℤ → ℕ → Made → List ℤ → Type 0
Steps s places ws i r ws' =
    (P : Program) (a : Pool) (t : Thread) (b : Pool) → Known s places ws i P a t b → Comes ws (before a (Rules.step P t b)) r ws'

-- a frame with nothing unpromoted
abbrev pub Done : Frame → Type 0
Done k = length k.calls ≤ k.promoted

-- the oldest frame of thread i that holds an unpromoted call, at the place k, and the call
pub record Holder (i : ℕ) (t : Thread) (k π : ℕ) : Type 0 where
  pub number : ℕ
  pub frame : Frame
  pub newer : List Frame
  pub older : List Frame
  pub place : k ≡ start_of i number
  pub at : FrameAt t number newer frame older
  pub done : Each Done older
  pub call : get_elem? frame.calls frame.promoted ≡ some π

abbrev pub HolderOf : ℕ → Thread → Optional Unpromoted → Type 0
HolderOf i t (Some o) = Holder i t o.at o.call
HolderOf i t None = Each Done (frames t)

abbrev pub FindsOldest : List ℤ → ℕ → Optional Unpromoted → Type 0
FindsOldest ws i r =
    (s places : List ℕ) (P : Program) (a : Pool) (t : Thread) (b : Pool) → Known s places ws i P a t b → HolderOf i t r

abbrev pub Promotes : List ℕ → List ℕ → List ℤ → ℕ → Made → List ℤ → Type 0
Promotes s places ws i r ws' =
    (P : Program) (a : Pool) (t : Thread) (b : Pool) → Known s places ws i P a t b
    → Comes ws (before a (promote P (ltb (length (a ++ t ∷ b)) most_threads) t b)) r ws'

-- a choice: the answer and the words are those of the model's choice, and the words are a pool of the table
pub record Chose (P : Program) (p : Pool) (ws : List ℤ) (kind thread : ℕ) (r : Made) (ws' : List ℤ) : Type 0 where
  pub called : ◌≡◌ {A = Called ℕ} (record { answer = made_of r; after = ws' }) (made ws (choice P p kind thread))
  pub valid : are_pool P ws' ≡ true

abbrev pub Chooses : List ℕ → List ℕ → List ℤ → ℕ → ℕ → Made → List ℤ → Type 0
Chooses s places ws kind thread r ws' =
    (P : Program) (p : Pool) → Places s P places → ws ≡ words_of p → is_pool P p ≡ true → Chose P p ws kind thread r ws'
