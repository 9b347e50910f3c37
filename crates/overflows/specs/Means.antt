-- What 29 says, in the request's words: what working out an expression gives over document 001's integers, which have no end; that a step
-- gets 29 exactly where a thread's next expression overflows; and the progress guarantee in these words.
use Rattle.std.specs.Prelude.{ℕ, ◌≡◌, ◌⊎◌, List, ℤ, pos, negsuc, ◌+ℤ◌, neg_ℤ, length, ◌≤ℤ◌, ◌<ℤ◌}
use Rattle.std.proofs.Math.Option.{none, some}
use Rattle.std.proofs.Math.ListN.{get_elem?}
use Rattle.model.specs.Numbers as No
use Rattle.model.specs.Answers.{Refusal, Answer}
use Rattle.model.specs.Lists.{Each}
use Rattle.model.specs.Values.{Worked}
use Rattle.model.specs.Sets.{◌∈◌}
use Rattle.model.specs.Syntax.{Atom, Expression, Statement, Transfer, Block, Program, uses}
use Rattle.model.specs.Pool.{Frame, Thread, pool_words, block_of}
use Rattle.model.specs.Frames.{eval_atom, eval}
use Rattle.model.specs.Calls as Calls
use Rattle.model.specs.Calls.{Lent, lent, check}
use Rattle.safety.specs.NeverJams.{Call, finally, Returned, CanStep, OutOfFrames}

-- a number that fits in 32 bits
abbrev pub Fits : ℤ → Type 0
Fits z = (negsuc 2147483647 ≤ℤ z) × (z ≤ℤ pos 2147483647)

-- an operand has the value v
abbrev pub Is : Frame → Atom → ℤ → Type 0
Is k m v = eval_atom k m ≡ some v

-- X ⊢ e ⇓ v over all integers, where a sum and a negation fit in 32 bits
pub data Gives (k : Frame) (v : ℤ) : Expression → Type 0 where
  atom : {m : Atom} → Is k m v → Gives k v (Expression.atom m)
  minus : {m : Atom} {u : ℤ} → Is k m u → v ≡ neg_ℤ u → Fits v → Gives k v (Expression.minus m)
  plus : {m n : Atom} {u w : ℤ} → Is k m u → Is k n w → v ≡ u +ℤ w → Fits v → Gives k v (Expression.plus m n)
  less : {m n : Atom} {u w : ℤ} → Is k m u → Is k n w → u <ℤ w → v ≡ pos 1 → Gives k v (Expression.less m n)
  not_less : {m n : Atom} {u w : ℤ} → Is k m u → Is k n w → w ≤ℤ u → v ≡ pos 0 → Gives k v (Expression.less m n)

-- "a sum or negation that doesn't fit in 32 bits", "with its operands bound"
pub data Overflow (k : Frame) : Expression → Type 0 where
  minus : {m : Atom} {u : ℤ} → Is k m u → ¬ Fits (neg_ℤ u) → Overflow k (Expression.minus m)
  plus : {m n : Atom} {u w : ℤ} → Is k m u → Is k n w → ¬ Fits (u +ℤ w) → Overflow k (Expression.plus m n)

-- all temporaries of an expression are bound
abbrev pub Bound : Frame → Expression → Type 0
Bound k e = Each (λ x. x ∈ k.bound) (uses e)

-- "working out an expression now gives a value or an overflow": each exactly where it is so, and neither where an operand is not bound
pub record Works (k : Frame) (e : Expression) : Type 0 where
  pub value : (v : ℤ) → eval k e ≡ some (Worked.value v) → Gives k v e
  pub valued : (v : ℤ) → Gives k v e → eval k e ≡ some (Worked.value v)
  pub overflow : eval k e ≡ some Worked.overflow → Overflow k e
  pub overflowed : Overflow k e → eval k e ≡ some Worked.overflow
  pub nothing : eval k e ≡ none → ¬ Bound k e
  pub unbound : ¬ Bound k e → eval k e ≡ none

abbrev pub Working : Type 0
Working = (k : Frame) (e : Expression) → Works k e

-- the expression that a frame works out next: that of the statement that comes next, or that of an if whose statements are done
pub data Next (P : Program) (k : Frame) (e : Expression) : Type 0 where
  statement : (B : Block) (S : Statement) → block_of P k k.block ≡ some B → get_elem? B.code k.done ≡ some S →
      S.source ≡ e → Next P k e
  if : (B : Block) (b c : ℕ) → block_of P k k.block ≡ some B → get_elem? B.code k.done ≡ none →
      B.transfer ≡ Transfer.if e b c → Next P k e

-- "a thread whose next expression overflows": thread i of the pool that the words are. Nothing is asked of the if's blocks
pub record Overflowing (s : List ℕ) (ws : List ℤ) (i : ℕ) : Type 0 where
  pub lends : Lent
  pub pool : lent s ws ≡ Answer.given lends
  pub thread : Thread
  pub there : get_elem? lends.pool i ≡ some thread
  pub expression : Expression
  pub next : Next lends.table thread.newest expression
  pub overflows : Overflow thread.newest expression

-- "such a step gets 29": for all bytes and words, any kind and any thread number, a choice gets 29 exactly where it is such a step, and
-- changes nothing
pub record Named (s : List ℕ) (ws : List ℤ) (kind i : ℕ) : Type 0 where
  pub only : (Calls.choose s ws kind i).answer ≡ Answer.refused (Refusal.plain No.overflow) → (kind ≡ 0) × Overflowing s ws i
  pub always : kind ≡ 0 → Overflowing s ws i → (Calls.choose s ws kind i).answer ≡ Answer.refused (Refusal.plain No.overflow)
  pub kept : kind ≡ 0 → Overflowing s ws i → (Calls.choose s ws kind i).after ≡ ws

abbrev pub Naming : Type 0
Naming = (s : List ℕ) (ws : List ℤ) (kind i : ℕ) → Named s ws kind i

-- the progress guarantee in these words: for every table that the check accepts, every 1,689 words lent to the start, and every list of
-- calls after it
abbrev pub Progress : Type 0
Progress =
    (s : List ℕ) (ws : List ℤ) → check s ≡ Answer.given tt → length ws ≡ pool_words → (cs : List Call) →
    let w = finally s (Calls.start s ws).after cs in
    Returned s w ⊎ (CanStep s w ⊎ (OutOfFrames s w ⊎ ((i : ℕ) × Overflowing s w i)))
