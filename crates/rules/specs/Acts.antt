-- What the code's acts stand for, and the contracts of the rules: the program that the places belong to comes in only there. The
-- frame m is the one that stands in the words; the values that an act passes on are the first of a buffer.
use Rattle.std.specs.Prelude.{ℕ, ◌+◌, ◌-◌, ◌<◌, ◌≤◌, ◌≡◌, Bool, cond, List, [], ◌∷◌, ◌++◌, ℤ, pos, length, take}
use Rattle.std.specs.Prelude.{Option as Optional, Some, None, Result, Ok, Err}
use Rattle.std.proofs.Math.Option.{Option, none, some}
use Rattle.std.proofs.Math.ListN.{get_elem?}
use Rattle.model.specs.Numbers as Numbers
use Rattle.model.specs.Lists.{Each, equal}
use Rattle.model.specs.Limits.{InStatement}
use Rattle.model.specs.Values.{same}
use Rattle.model.specs.Syntax.{Statement, Transfer, Head, SpawnCall, Block, Program}
use Rattle.model.specs.Pool.{Frame, temporaries, most_calls, begin, block_of}
use Rattle.model.specs.Frames.{◌>>=◌, eval, go_to, bind, bind_all, deque, callee, enter}
use Rattle.model.specs.Rules as Rules
use Rattle.places.specs.Places.{Places, spawn_in}
use Rattle.code.specs.Bytes.{byte_at}
use Rattle.eval.specs.declared.Evaluated.{Evaluated}
use Rattle.eval.specs.Given.{optional, evaluated_as, filled}
use Rattle.code.specs.Code.{most, count_at, arguments_at, expression_at, if_at, return_at, transfer_at, code_at, coded}
use Rattle.answers.specs.declared.No.{No}
use Rattle.rules.specs.declared.Entry.{Entry}
use Rattle.rules.specs.declared.Action.{Action}
use Rattle.rules.specs.declared.Action.TheVariants.{Bind, Enter, Open, Close, Push, Pop, Join}

-- a refusal by its number, and that of a frame to which no rule applies
abbrev pub refusing : {A : Type 0} → ℕ → Result A No
refusing n = Err (record { 0 = n })

abbrev pub jam : {A : Type 0} → Result A No
jam = refusing Numbers.stuck

-- a frame at the head of a block that is entered, with the values of the buffer for the parameters that stand there
abbrev pub arrived : List ℕ → Entry → List ℤ → Frame → Frame
arrived s e out m = bind_all (go_to m e.block 0) (arguments_at s e.parameters) (take e.count out)

-- a frame with its last call closed, and so many promoted
abbrev pub closed : Frame → ℕ → Frame
closed m promoted = deque m (take (length m.calls - 1) m.calls) promoted

-- the act, of the frame m
abbrev pub act_by : List ℕ → Frame → Action → List ℤ → Rules.Act
act_by s m (Bind x v) out = Rules.Act.stay Numbers.stmt (go_to (bind m x v) m.block (m.done + 1))
act_by s m (Enter rule e) out = Rules.Act.stay rule.0 (arrived s e out m)
act_by s m (Open π b) out = Rules.Act.stay Numbers.spork (go_to (deque m (m.calls ++ (π ∷ [])) m.promoted) b 0)
act_by s m (Close b) out = Rules.Act.stay Numbers.unpr (go_to (closed m m.promoted) b 0)
act_by s m (Push g n b) out = Rules.Act.push (go_to m b 0) (begin g (take n out))
act_by s m (Pop n) out = Rules.Act.pop (take n out)
act_by s m (Join c) out = Rules.Act.join (closed m (m.promoted - 1)) c

abbrev pub act_of : List ℕ → Frame → Result Action No → List ℤ → Rules.Act
act_of s m (Ok a) out = act_by s m a out
act_of s m (Err n) out = Rules.Act.refuse n.0

-- the parameters at an offset are temporaries, so many
pub record Parameters (s : List ℕ) (at n : ℕ) : Type 0 where
  pub each : Each (λ x. x < temporaries) (arguments_at s at)
  pub count : count_at s at ≡ n

-- what holds besides, so that the act can be done in the words
abbrev pub sound_by : List ℕ → Frame → Action → Type 0
sound_by s m (Bind x v) = (x < temporaries) × (m.done < 255)
sound_by s m (Enter rule e) = Parameters s e.parameters e.count
sound_by s m (Open π b) = length m.calls < most_calls
sound_by s m (Close b) = 0 < length m.calls
sound_by s m (Push g n b) = Unit {0}
sound_by s m (Pop n) = n ≤ most
sound_by s m (Join c) = (0 < length m.calls) × (0 < m.promoted)

abbrev pub sound_of : List ℕ → Frame → Result Action No → Type 0
sound_of s m (Ok a) = sound_by s m a
sound_of s m (Err n) = Unit {0}

-- the code's act r, with the buffer, is the act t of the frame m
pub record Is (s : List ℕ) (m : Frame) (out : List ℤ) (r : Result Action No) (t : Rules.Act) : Type 0 where
  pub act : act_of s m r out ≡ t
  pub sound : sound_of s m r

-- the transfer of block B, and of its own block, that comes next in the frame m: all statements are done
abbrev pub transfer_by : Block → Option Statement → Option Transfer
transfer_by B (some s) = none
transfer_by B none = some B.transfer

unfoldable pub next_in : Frame → Block → Option Transfer
next_in m B = transfer_by B (get_elem? B.code m.done)

unfoldable pub next_of : Program → Frame → Option Transfer
next_of P m = do
  B ← block_of P m m.block
  next_in m B

-- the temporaries whose values are passed on: x̄ of goto b(x̄), call g(x̄) ▷ b and return(x̄)
unfoldable pub arguments_of : Option Transfer → List ℕ
arguments_of none = []
arguments_of (some (Transfer.goto b x̄)) = x̄
arguments_of (some (Transfer.if e b c)) = []
arguments_of (some (Transfer.call g x̄ b)) = x̄
arguments_of (some (Transfer.return x̄)) = x̄
arguments_of (some (Transfer.spork b π)) = []
arguments_of (some (Transfer.spoin b c)) = []

-- those that the frame m returns: x̄ of return(x̄) alone, with nothing open
unfoldable pub returns_of : Frame → Option Transfer → List ℕ
returns_of m none = []
returns_of m (some (Transfer.goto b x̄)) = []
returns_of m (some (Transfer.if e b c)) = []
returns_of m (some (Transfer.call g x̄ b)) = []
returns_of m (some (Transfer.return x̄)) = cond (equal m.calls []) x̄ []
returns_of m (some (Transfer.spork b π)) = []
returns_of m (some (Transfer.spoin b c)) = []

-- those of a spawn call g(x̄), if it is there
unfoldable pub spawns_of : Option SpawnCall → List ℕ
spawns_of none = []
spawns_of (some S) = S.arguments

-- the code's act r is the act t of the frame m, and the values of x̄ are left in the buffer
pub record Passes (s : List ℕ) (m : Frame) (x̄ : List ℕ) (out : List ℤ) (r : Result Action No) (out' : List ℤ) (t : Rules.Act) : Type 0 where
  pub is : Is s m out' r t
  pub left : out' ≡ filled m x̄ out

-- block b of function f is entered with n values: the code answers the block, the number and the place of the parameters, or the
-- block is not there or takes another number
pub record Arrives (s : List ℕ) (P : Program) (f b n : ℕ) (e : Entry) : Type 0 where
  pub block : e.block ≡ b
  pub count : e.count ≡ n
  pub parameters : Parameters s e.parameters n
  pub is : (m : Frame) (v̄ : List ℤ) → m.function ≡ f → length v̄ ≡ n →
      enter P m b v̄ ≡ some (bind_all (go_to m b 0) (arguments_at s e.parameters) v̄)

pub data Entering (s : List ℕ) (P : Program) (f b n : ℕ) (r : Result Entry No) : Type 0 where
  arrives : (e : Entry) → r ≡ Ok e → Arrives s P f b n e → Entering s P f b n r
  jams : r ≡ jam → ((m : Frame) (v̄ : List ℤ) → m.function ≡ f → length v̄ ≡ n → enter P m b v̄ ≡ none) → Entering s P f b n r

abbrev pub Enters : List ℕ → List ℕ → ℕ → ℕ → ℕ → Result Entry No → Type 0
Enters s places f b n r = (P : Program) → Places s P places → Entering s P f b n r

-- function g is there and takes n values
pub record Takes (s places : List ℕ) (g n : ℕ) (r : Bool) : Type 0 where
  pub is : (P : Program) → Places s P places → (v̄ : List ℤ) → length v̄ ≡ n → callee P g v̄ ≡ optional r (begin g v̄)

-- a spawned child's first frame, of a function with so many values
abbrev pub child_by : Result (ℕ × ℕ) No → List ℤ → Option Frame
child_by (Ok c) out = some (begin c.0 (take c.1 out))
child_by (Err n) out = none

-- spawn call π of the frame m: the child's first frame, or the act of a frame to which no rule applies; and its arguments are
-- left in the buffer
pub record Child (P : Program) (m : Frame) (π : ℕ) (out : List ℤ) (r : Result (ℕ × ℕ) No) (out' : List ℤ) : Type 0 where
  pub is : child_by r out' ≡ Rules.child P m π
  pub refused : Rules.child P m π ≡ none → r ≡ jam
  pub left : out' ≡ filled m (spawns_of (spawn_in (get_elem? P m.function) π)) out

abbrev pub Spawns : List ℕ → List ℕ → Frame → ℕ → List ℤ → Result (ℕ × ℕ) No → List ℤ → Type 0
Spawns s places m π out r out' = (P : Program) → Places s P places → Child P m π out r out'

-- the rules: r is what the frame m does at the transfer T, and what is passed on is left in the buffer
pub record Transfers (s places : List ℕ) (m : Frame) (T : Transfer) (out : List ℤ) (r : Result Action No) (out' : List ℤ) : Type 0 where
  pub is : (P : Program) → Places s P places → Passes s m (arguments_of (some T)) out r out' (Rules.transfer P m T)

-- a return looks at no place
abbrev pub Returns : List ℕ → Frame → ℕ → List ℤ → Result Action No → List ℤ → Type 0
Returns s m at out r out' = (places : List ℕ) → Transfers s places m (return_at s at) out r out'

-- where nothing is passed on, whatever the buffer holds
pub record Moves (s places : List ℕ) (m : Frame) (T : Transfer) (r : Result Action No) : Type 0 where
  pub is : (out : List ℤ) → Transfers s places m T out r out

-- then and else: block b or block c, by the value
pub record Branches (s places : List ℕ) (m : Frame) (b c : ℕ) (v : ℤ) (r : Result Action No) : Type 0 where
  pub is : (P : Program) → Places s P places → (out : List ℤ) → Is s m out r (Rules.branch P m b c (same v (pos 0)))

-- a statement of a target, or an if where there is none, whose expression at an offset came to v
pub record Valued (target : Optional ℕ) (s places : List ℕ) (m : Frame) (at : ℕ) (v : Evaluated) (r : Result Action No) : Type 0 where
  pub stmt : v ≡ evaluated_as (eval m (expression_at s at)) → (x : ℕ) → target ≡ Some x → x < temporaries → m.done < 255 →
      (out : List ℤ) → Is s m out r (Rules.stmt m (record { target = x; source = expression_at s at }))
  pub if : v ≡ evaluated_as (eval m (expression_at s at)) → target ≡ None → Moves s places m (if_at s at) r

-- the transfer at an offset, which is no if
pub record NoIf (s places : List ℕ) (m : Frame) (at : ℕ) (out : List ℤ) (r : Result Action No) (out' : List ℤ) : Type 0 where
  pub is : (byte_at s at ≡ 1 → ⊥) → Transfers s places m (transfer_at s at) out r out'

-- what comes next by the code at an offset
pub record Comes (s places : List ℕ) (m : Frame) (at : ℕ) (out : List ℤ) (r : Result Action No) (out' : List ℤ) : Type 0 where
  pub is : (P : Program) → Places s P places → (H : Head) → Each InStatement (code_at s at) →
      Passes s m (arguments_of (next_in m (coded H s at))) out r out' (Rules.coming P m (coded H s at) (get_elem? (code_at s at) m.done))

-- the act of a frame
abbrev pub Acts : List ℕ → List ℕ → Frame → List ℤ → Result Action No → List ℤ → Type 0
Acts s places m out r out' =
    (P : Program) → Places s P places → Passes s m (arguments_of (next_of P m)) out r out' (Rules.act P m)

-- the values that a frame returns, in the buffer, of which there are no more than 8; or none
abbrev pub given_by : Optional ℕ → List ℤ → Option (List ℤ)
given_by (Some n) out = some (take n out)
given_by None out = none

abbrev pub few_by : Optional ℕ → Type 0
few_by (Some n) = n ≤ most
few_by None = Unit {0}

-- what the frame m returns by the code at an offset, and what it returns
pub record Ending (s : List ℕ) (m : Frame) (at : ℕ) (out : List ℤ) (r : Optional ℕ) (out' : List ℤ) : Type 0 where
  pub few : few_by r
  pub is : (P : Program) (H : Head) →
      given_by r out' ≡ Rules.returned [] (Rules.coming P m (coded H s at) (get_elem? (code_at s at) m.done))
  pub left : (H : Head) → out' ≡ filled m (returns_of m (next_in m (coded H s at))) out

pub record Giving (s places : List ℕ) (m : Frame) (out : List ℤ) (r : Optional ℕ) (out' : List ℤ) : Type 0 where
  pub few : few_by r
  pub is : (P : Program) → Places s P places → given_by r out' ≡ Rules.returned [] (Rules.act P m)
  pub left : (P : Program) → Places s P places → out' ≡ filled m (returns_of m (next_of P m)) out
