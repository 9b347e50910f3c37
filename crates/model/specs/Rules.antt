-- Figure 3: the ten rules, for any table that reads; what ends a thread; the refusals 14 to 21 and 29.
use Rattle.std.specs.Prelude.{ℕ, zero, suc, ◌+◌, ◌-◌, Bool, true, false, cond, List, [], ◌∷◌, ◌++◌, ltb, ℤ, pos, length}
use Rattle.std.proofs.Math.Option.{Option, none, some, map}
use Rattle.std.proofs.Math.ListN.{get_elem?}
use Rattle.model.specs.Numbers as No
use Rattle.model.specs.Lists.{unsnoc, equal}
use Rattle.model.specs.Values.{Worked, same}
use Rattle.model.specs.Syntax.{Expression, Statement, Transfer, Block, Program}
use Rattle.model.specs.Pool.{Frame, Thread, Pool, most_calls, most_frames, most_threads, frames, born, restacked, function_of, block_of}
use Rattle.model.specs.Frames.{◌>>=◌, when, look_all, eval, bind, go_to, deque, enter, callee}

-- what the newest frame does next: it refuses; it goes on by a rule; it calls, and both frames are given; it returns
-- values; it waits at a promoted spoin, and the frame is given with its last call closed and the block behind the join
pub data Act : Type 0 where
  refuse : ℕ → Act
  stay : ℕ → Frame → Act
  push : Frame → Frame → Act
  pop : List ℤ → Act
  join : Frame → ℕ → Act

-- a rule whose needs are met, or stuck
unfoldable pub by : ℕ → Option Frame → Act
by rule none = Act.refuse No.stuck
by rule (some k) = Act.stay rule k

unfoldable pub acts : Option Act → Act
acts none = Act.refuse No.stuck
acts (some a) = a

-- an expression's value is carried on; its overflow is named, and nothing else is looked at
unfoldable pub carry : Worked → (ℤ → Act) → Act
carry (Worked.value v) a = a v
carry Worked.overflow a = Act.refuse No.overflow

-- stmt: X ⊢ e ⇓ v; K·⟨f, ρ, X⟩ ◇ x ← e; C ↦ K·⟨f, ρ, X[x ↪ v]⟩ ◇ C
unfoldable pub assign : Frame → ℕ → ℤ → Act
assign k x v = Act.stay No.stmt (go_to (bind k x v) k.block (k.done + 1))

unfoldable pub stmt : Frame → Statement → Act
stmt k s = acts do
  w ← eval k s.source
  some (carry w (assign k s.target))

-- goto: K·⟨f, ρ, X⟩ ◇ goto b(x̄) ↦ K·⟨f, ρ, X[ȳ ↪ X(x̄)]⟩ ◇ C, where block b(ȳ){C} ∈ f
unfoldable pub goto : Program → Frame → ℕ → List ℕ → Act
goto P k b x̄ = by No.goto do
  v̄ ← look_all k x̄
  enter P k b v̄

-- then, else: K·⟨f, ρ, X⟩ ◇ if(e, b, c) ↦ K·⟨f, ρ, X⟩ ◇ C at b where e's value is not 0, at c where it is
unfoldable pub branch : Program → Frame → ℕ → ℕ → Bool → Act
branch P k b c true = by No.else (enter P k c [])
branch P k b c false = by No.then (enter P k b [])

unfoldable pub if : Program → Frame → Expression → ℕ → ℕ → Act
if P k e b c = acts do
  w ← eval k e
  some (carry w λ v. branch P k b c (same v (pos 0)))

-- call: K·⟨f, ρ, X⟩ ◇ call g(x̄) ▷ b ↦ K·⟨f, ρ, X, b⟩·⟨g, ∅, [ȳ ↪ X(x̄)]⟩ ◇ C at g's entry; b is there
unfoldable pub call : Program → Frame → ℕ → List ℕ → ℕ → Act
call P k g x̄ b = acts do
  v̄ ← look_all k x̄
  l ← callee P g v̄
  B ← block_of P k b
  some (Act.push (go_to k b 0) l)

-- return, with nothing open: ⟨g, ∅, Y⟩ ◇ return(ȳ) brings Y(ȳ)
unfoldable pub return : Frame → List ℕ → Act
return k x̄ = acts do
  v̄ ← look_all k x̄
  when (equal k.calls []) (some (Act.pop v̄))

-- spork: K·⟨f, π̄ : ῡ, X⟩ ◇ spork(b ‖ π) ↦ K·⟨f, π̄ : ῡ·π, X⟩ ◇ C at b; π is there, and under four are open
unfoldable pub spork : Program → Frame → ℕ → ℕ → Act
spork P k b π = by No.spork do
  F ← function_of P k
  S ← get_elem? F.spawns π
  when (ltb (length k.calls) most_calls) (enter P (deque k (k.calls ++ (π ∷ [])) k.promoted) b [])

-- unpr: K·⟨f, π̄ : ῡ·π, X⟩ ◇ spoin(b, c) ↦ K·⟨f, π̄ : ῡ, X⟩ ◇ C at b. The last call is promoted where all of the frame's are;
-- then K·⟨f, π̄·π : ∅, X⟩ ◇ spoin(b, c) waits for its child
unfoldable pub closing : Program → Frame → ℕ → ℕ → List ℕ → Bool → Act
closing P k b c ρ true = by No.unpr (enter P (deque k ρ k.promoted) b [])
closing P k b c ρ false = Act.join (deque k ρ (k.promoted - 1)) c

unfoldable pub spoin : Program → Frame → ℕ → ℕ → Act
spoin P k b c = acts do
  I ← unsnoc k.calls
  some (closing P k b c I.front (ltb k.promoted (length k.calls)))

unfoldable pub transfer : Program → Frame → Transfer → Act
transfer P k (Transfer.goto b x̄) = goto P k b x̄
transfer P k (Transfer.if e b c) = if P k e b c
transfer P k (Transfer.call g x̄ b) = call P k g x̄ b
transfer P k (Transfer.return x̄) = return k x̄
transfer P k (Transfer.spork b π) = spork P k b π
transfer P k (Transfer.spoin b c) = spoin P k b c

-- the statement that comes next, or the transfer
unfoldable pub coming : Program → Frame → Block → Option Statement → Act
coming P k B (some s) = stmt k s
coming P k B none = transfer P k B.transfer

unfoldable pub act : Program → Frame → Act
act P k = acts do
  B ← block_of P k k.block
  some (coming P k B (get_elem? B.code k.done))

-- an ended thread's values: it has one frame, at a return, with nothing open and its temporaries bound
unfoldable pub returned : List Frame → Act → Option (List ℤ)
returned [] (Act.refuse n) = none
returned [] (Act.stay rule k) = none
returned [] (Act.push k l) = none
returned [] (Act.pop v̄) = some v̄
returned [] (Act.join k c) = none
returned (k ∷ K) a = none

unfoldable pub ended : Program → Thread → Option (List ℤ)
ended P t = returned t.older (act P t.newest)

-- what a choice makes of a thread and the threads behind it, or its refusal
pub data Result : Type 0 where
  made : ℕ → List Thread → Result
  refused : ℕ → Result

-- the thread t with the frame k over K, where the rule's needs are met
unfoldable pub on_top : ℕ → Thread → List Frame → List Thread → Option Frame → Result
on_top rule t K ts none = Result.refused No.stuck
on_top rule t K ts (some k) = Result.made rule (restacked t (k ∷ K) ∷ ts)

-- return: K·⟨f, ρ, X, b⟩·⟨g, ∅, Y⟩ ◇ return(ȳ) ↦ K·⟨f, ρ, X[x̄ ↪ Y(ȳ)]⟩ ◇ C at b(x̄); with no caller the thread is ended
unfoldable pub popping : Program → Thread → List Frame → List Thread → List ℤ → Result
popping P t [] ts v̄ = Result.refused No.ended
popping P t (k ∷ K) ts v̄ = on_top No.return t K ts (enter P k k.block v̄)

-- prom: K·⟨f, π̄·π : ∅, X⟩ ◇ spoin(b, c) ∧ ⟨g, ∅, Y⟩ ◇ return(ȳ) ↦ K·⟨f, π̄ : ∅, X[x̄ ↪ Y(ȳ)]⟩ ◇ C at c(x̄). The newest child
-- stands directly behind its parent, and goes
unfoldable pub joining : Program → Thread → Frame → ℕ → List Thread → Option (List ℤ) → Result
joining P t k c ts none = Result.refused No.waits
joining P t k c ts (some v̄) = on_top No.prom t t.older ts (enter P k c v̄)

unfoldable pub joins : Program → Thread → Frame → ℕ → List Thread → Result
joins P t k c [] = Result.refused No.waits
joins P t k c (u ∷ ts) = joining P t k c ts (ended P u)

-- an ordinary step of a thread: rules 1 to 9
unfoldable pub apply : Program → Thread → List Thread → Act → Result
apply P t ts (Act.refuse n) = Result.refused n
apply P t ts (Act.stay rule k) = Result.made rule (restacked t (k ∷ t.older) ∷ ts)
apply P t ts (Act.push k l) =
    cond (ltb (length (frames t)) most_frames)
    (Result.made No.call (restacked t (l ∷ k ∷ t.older) ∷ ts))
    (Result.refused No.frames)
apply P t ts (Act.pop v̄) = popping P t t.older ts v̄
apply P t ts (Act.join k c) = joins P t k c ts

unfoldable pub step : Program → Thread → List Thread → Result
step P t ts = apply P t ts (act P t.newest)

-- the oldest unpromoted call over frames that come newest first: the frame that holds it, its number, and the frames with it
-- promoted
pub record Promotion : Type 0 where
  pub holder : Frame
  pub call : ℕ
  pub frames : List Frame

unfoldable pub promote_in : Frame → List Frame → Option Promotion
promote_in k K = do
  π ← get_elem? k.calls k.promoted
  some (record { holder = k; call = π; frames = deque k k.calls (k.promoted + 1) ∷ K })

abbrev pub above : Frame → Promotion → Promotion
above k p = record { holder = p.holder; call = p.call; frames = k ∷ p.frames }

unfoldable pub or_else : {A : Type 0} → Option A → Option A → Option A
or_else none o = o
or_else (some a) o = some a

unfoldable pub oldest : List Frame → Option Promotion
oldest [] = none
oldest (k ∷ K) = or_else (map (above k) (oldest K)) (promote_in k K)

-- the child's first frame: the call's function, with the arguments read from the frame that holds the call
unfoldable pub child : Program → Frame → ℕ → Option Frame
child P k π = do
  F ← function_of P k
  S ← get_elem? F.spawns π
  v̄ ← look_all k S.arguments
  callee P S.function v̄

-- promote: K·⟨f, π̄ : π·ῡ, X⟩·K' ◇ C ↦ K·⟨f, π̄·π : ῡ, X⟩·K' ◇ C ∧ ⟨g, ∅, [ȳ ↪ X(x̄)]⟩ ◇ C', where π is g(x̄). The child stands
-- directly behind its parent
unfoldable pub spawned : Thread → List Thread → Option Frame → Result
spawned t ts none = Result.refused No.stuck
spawned t ts (some k) = Result.made No.promote (t ∷ born k ∷ ts)

unfoldable pub promoting : Program → Bool → Thread → List Thread → Option Promotion → Result
promoting P room t ts none = Result.refused No.promoted
promoting P false t ts (some p) = Result.refused No.threads
promoting P true t ts (some p) = spawned (restacked t p.frames) ts (child P p.holder p.call)

unfoldable pub promote : Program → Bool → Thread → List Thread → Result
promote P room t ts = promoting P room t ts (oldest (frames t))

-- cong: thread i of the pool, and the threads behind it
unfoldable pub behind : Thread → Result → Result
behind t (Result.made rule ts) = Result.made rule (t ∷ ts)
behind t (Result.refused n) = Result.refused n

unfoldable pub on_thread : (Thread → List Thread → Result) → Pool → ℕ → Result
on_thread f [] i = Result.refused No.thread
on_thread f (t ∷ ts) zero = f t ts
on_thread f (t ∷ ts) (suc i) = behind t (on_thread f ts i)

-- one choice: a kind (0 step, 1 promote) and a thread
unfoldable pub choice : Program → Pool → ℕ → ℕ → Result
choice P p zero i = on_thread (step P) p i
choice P p (suc zero) i = on_thread (promote P (ltb (length p) most_threads)) p i
choice P p (suc (suc kind)) i = Result.refused No.kind

-- main's values: given exactly when thread 0 is ended
unfoldable pub main_values : Program → Pool → Option (List ℤ)
main_values P [] = none
main_values P (t ∷ ts) = ended P t
