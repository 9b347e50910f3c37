-- What a child began with, in the terms of the exported functions: a host that puts choices one by one to mezdaulk_choose, and keeps
-- the numbers that they answer, knows which of them sporked each open call; and in the words that it lent to that one it finds the
-- values that the call's child begins with. Every session is such choices, work and tokens aside, and the number of a beat tells what
-- its choices answer.
use Rattle.std.specs.Prelude.{ℕ, zero, suc, ◌+◌, ◌-◌, ◌≡◌, true, cond, List, [], ◌∷◌, ◌++◌, map, ℤ, pos, length, get_or, take, drop, replicate}
use Rattle.std.proofs.Math.Option.{some}
use Rattle.std.proofs.Math.ListN.{get_elem?}
use Rattle.model.specs.Numbers as No
use Rattle.model.specs.Answers.{Answer}
use Rattle.model.specs.Lists.{Each}
use Rattle.model.specs.Sets.{◌∈◌}
use Rattle.model.specs.Syntax.{Transfer, SpawnCall, Function, Program}
use Rattle.model.specs.Pool.{Frame, frame_words, start_of, frame_of, function_of, begin}
use Rattle.model.specs.Calls.{Choice, read}
use Rattle.safety.specs.NeverJams.{At}
use Rattle.safety.specs.InTurn.{Aside}
use Rattle.sporks.specs.Openers.{Reply, opener}
use Rattle.host.specs.Macros.{is_given, value, rule, promotions, pool_words, step, promote}
use Rattle.host.specs.CallContracts.{Check, Start, Choose, Schedule}
use Rattle.host.specs.Laws.{answer_in}
use Rattle.host.specs.Sessions.{Call, Session}
use Rattle.host.specs.Roomy.{frame_count}
use Rattle.host.specs.Tokens.{sum}

-- a choice put to mezdaulk_choose: the words lent, its kind and thread, and the number answered
pub record Put : Type 0 where
  pub words : List ℤ
  pub kind : ℕ
  pub thread : ℕ
  pub number : ℕ

-- choices one after another, from the words ws up to the words ws': the first is lent words that ws may come to, and each next one words
-- that those left by the one before may come to
abbrev pub LogBy : (List ℤ → List ℤ → Type 0) → List ℕ → List ℤ → List Put → List ℤ → Type 0
LogBy R s ws [] ws' = R ws ws'
LogBy R s ws (p ∷ ps) ws' =
    R ws p.words × ((between : List ℤ) × Choose s p.words p.kind p.thread p.number between × LogBy R s between ps ws')

-- between them work and tokens may change, and nothing else
abbrev pub Log : List ℕ → List ℤ → List Put → List ℤ → Type 0
Log s ws ps ws' = LogBy (Aside s) s ws ps ws'

-- between them nothing changes
abbrev pub Exactly : List ℕ → List ℤ → List Put → List ℤ → Type 0
Exactly s ws ps ws' = LogBy ◌≡◌ s ws ps ws'

-- what a host sees of a choice
abbrev pub seen : Put → Reply
seen p = record { thread = p.thread; answer = answer_in p.number }

-- what the 26 words of frame j of thread i stand for, oldest frame first; the newest frame; the promoted calls of the first n frames
abbrev pub frame_at : List ℤ → ℕ → ℕ → Frame
frame_at ws i j = frame_of (take frame_words (drop (start_of i j) ws))

abbrev pub newest_at : List ℤ → ℕ → Frame
newest_at ws i = frame_at ws i (frame_count ws i - 1)

unfoldable pub promoted_in : List ℤ → ℕ → ℕ → ℕ
promoted_in ws i zero = 0
promoted_in ws i (suc n) = promoted_in ws i n + (frame_at ws i n).promoted

-- after the choices ps the promotion p was given, and left the words ws. The choice that sporked the call is the opener of the oldest call
-- that was not promoted. It was given rule 7, where the newest frame of its thread was at a spork; and the child, directly behind its
-- parent, has one frame, at the entry of the function that the spawn call names, with the values that the call's arguments had in that
-- newest frame, in the words that were lent to the spork
pub record Began (P : Program) (ps : List Put) (p : Put) (ws : List ℤ) : Type 0 where
  pub number : ℕ
  pub numbered : opener (map seen ps) p.thread (promoted_in p.words p.thread (frame_count p.words p.thread)) ≡ some number
  pub spork : Put
  pub there : get_elem? ps number ≡ some spork
  pub given : is_given spork.number ≡ true
  pub made : value spork.number ≡ No.spork
  pub body : ℕ
  pub call : ℕ
  pub at_spork : At P (newest_at spork.words spork.thread) (Transfer.spork body call)
  pub function : Function
  pub function_there : function_of P (newest_at spork.words spork.thread) ≡ some function
  pub spawn : SpawnCall
  pub spawn_there : get_elem? function.spawns call ≡ some spawn
  pub bound : Each (λ x. x ∈ (newest_at spork.words spork.thread).bound) spawn.arguments
  pub alone : frame_count ws (p.thread + 1) ≡ 1
  pub begun : frame_at ws (p.thread + 1) 0 ≡
      begin spawn.function (map (λ x. get_or (newest_at spork.words spork.thread).values x (pos 0)) spawn.arguments)

-- for every table that mezdaulk_check answered as given, every pool's length of words lent to mezdaulk_start, all choices after it, and
-- a promotion that comes next
abbrev pub Children : Type 0
Children =
    (s : List ℕ) (P : Program) (c : ℕ) → Check s c → is_given c ≡ true → read s ≡ Answer.given P →
    (ws : List ℤ) → length ws ≡ pool_words → (r : ℕ) (started : List ℤ) → Start s ws r started →
    (ps : List Put) (w : List ℤ) → Log s started ps w →
    (p : Put) (w' : List ℤ) → p.words ≡ w → Choose s w p.kind p.thread p.number w' →
    is_given p.number ≡ true → value p.number ≡ No.promote → Began P ps p w'

-- a choice as a schedule has it
abbrev pub as_choice : Put → Choice
as_choice p = record { kind = p.kind; thread = p.thread }

-- a schedule as choices put one by one: as many as it made, in its order, all of them given, and they leave the same words
pub record Singly (s : List ℕ) (ws : List ℤ) (cs : List Choice) (made : ℕ) (ws' : List ℤ) : Type 0 where
  pub puts : List Put
  pub log : Exactly s ws puts ws'
  pub are : map as_choice puts ≡ take made cs
  pub given : Each (λ p. is_given p.number ≡ true) puts

-- for all bytes, words and choices
abbrev pub OneByOne : Type 0
OneByOne =
    (s : List ℕ) (ws : List ℤ) (cs : List Choice) (r made : ℕ) (ws' : List ℤ) → Schedule s ws cs r made ws' →
    Singly s ws cs made ws'

-- a choice and its answer
pub record Turn : Type 0 where
  pub choice : Choice
  pub answer : Answer ℕ

abbrev pub turn_of : Put → Turn
turn_of p = record { choice = as_choice p; answer = answer_in p.number }

-- a beat that was given the number r, as choices: its step, which made its rule, and then its promotions
abbrev pub of_beat : ℕ → ℕ → List Turn
of_beat thread r =
    record { choice = record { kind = step; thread = thread }; answer = Answer.given (rule r) } ∷
    replicate (promotions r) (record { choice = record { kind = promote; thread = thread }; answer = Answer.given No.promote })

-- beats of these threads, each with its number
abbrev pub of_beats : List ℕ → List ℕ → List Turn
of_beats [] rs = []
of_beats (i ∷ is) [] = []
of_beats (i ∷ is) (r ∷ rs) = of_beat i r ++ of_beats is rs

-- so every session is choices put one by one: those put to mezdaulk_choose; as many of each schedule as it made, all of them given; the
-- step of each beat that was given and then its promotions; and as many beats of each run as it made steps, with as many promotions
abbrev pub CountsAs : Call → List Turn → Type 0
CountsAs (Call.choose kind thread r) ts = ts ≡ record { choice = record { kind = kind; thread = thread }; answer = answer_in r } ∷ []
CountsAs (Call.schedule ds r made) ts =
    (map (λ t. t.choice) ts ≡ take made ds) × Each (λ t. (rule : ℕ) × (t.answer ≡ Answer.given rule)) ts
CountsAs (Call.beat thread n c r) ts = ts ≡ cond (is_given r) (of_beat thread r) []
CountsAs (Call.run n c threads r steps made) ts =
    (rs : List ℕ) × (length rs ≡ steps) × (sum (map promotions rs) ≡ made) × (ts ≡ of_beats (take steps threads) rs)
CountsAs (Call.which r) ts = ts ≡ []
CountsAs (Call.values vs r vs') ts = ts ≡ []

abbrev pub CountAs : List Call → List Turn → Type 0
CountAs [] ts = ts ≡ []
CountAs (c ∷ cs) ts = (us vs : List Turn) × CountsAs c us × CountAs cs vs × (ts ≡ us ++ vs)

-- a call that is no beat and no run
abbrev pub Plain : Call → Type 0
Plain (Call.choose kind thread r) = Unit {0}
Plain (Call.schedule ds r made) = Unit {0}
Plain (Call.beat thread n c r) = ⊥
Plain (Call.run n c threads r steps made) = ⊥
Plain (Call.which r) = Unit {0}
Plain (Call.values vs r vs') = Unit {0}

pub record Logged (s : List ℕ) (ws : List ℤ) (cs : List Call) (ws' : List ℤ) : Type 0 where
  pub puts : List Put
  pub log : Log s ws puts ws'
  pub are : CountAs cs (map turn_of puts)
  pub plain : Each Plain cs → Exactly s ws puts ws'

abbrev pub EverySession : Type 0
EverySession = (s : List ℕ) (ws : List ℤ) (cs : List Call) (ws' : List ℤ) → Session s ws cs ws' → Logged s ws cs ws'
