-- What a choice leaves of the open calls of all threads, and what a promotion gives: as types, for a thread and for those behind it.
use Prim.Native.Nat.{ℕ, suc, ◌+◌}
use mathlib.Core.Path.{◌≡◌, ap}
use mathlib.Core.Option.{none, some}
use mathlib.Core.List.{List, [], ◌∷◌, map}
use native.Mathlib.Omega.{arith}
use lib.IntN.{ℤ}
use lib.ListN.{length, get_elem?}
use Rattle.model.specs.Numbers as No
use Rattle.model.specs.Syntax.{SpawnCall, Function, Program}
use Rattle.model.specs.Pool.{Frame, Thread, Pool, frames, begin, children}
use Rattle.model.specs.Rules as Rules
use Rattle.model.specs.Rules.{Result}
use Rattle.sporks.specs.Openers.{turn, on_list}
use Rattle.sporks.specs.Handed.{arguments_of, OpenCall, standing, open_in}
use Rattle.sporks.proofs.Acts.{AtSpork}

-- the first frame of the child of call π, open in the frame k
pub record ChildOf (P : Program) (k : Frame) (π : ℕ) (l : Frame) : Type 0 where
  pub function : Function
  pub function_there : get_elem? P k.function ≡ some function
  pub spawn : SpawnCall
  pub spawn_there : get_elem? function.spawns π ≡ some spawn
  pub values : List ℤ
  pub have : arguments_of P k π ≡ some values
  pub callee : Function
  pub callee_there : get_elem? P spawn.function ≡ some callee
  pub takes : length values ≡ callee.signature.parameters
  pub begun : l ≡ begin spawn.function values

-- the open calls of each thread
abbrev pub in_pool : Program → Pool → List (List OpenCall)
in_pool P p = map (open_in P) p

-- thread i is at a spork of the call o
pub record Sporks (P : Program) (p : Pool) (i : ℕ) (o : OpenCall) : Type 0 where
  pub thread : Thread
  pub there : get_elem? p i ≡ some thread
  pub spork : AtSpork P thread.newest o

-- thread i promotes its call: what stands there before and after
pub record Gives (P : Program) (p : Pool) (i : ℕ) (p' : Pool) : Type 0 where
  pub parent : Thread
  pub there : get_elem? p i ≡ some parent
  pub holder : Frame
  pub call : ℕ
  pub oldest : get_elem? (open_in P parent) (children (frames parent)) ≡ some (standing P holder call)
  pub parent_after : Thread
  pub parent_there : get_elem? p' i ≡ some parent_after
  pub one_more : children (frames parent_after) ≡ children (frames parent) + 1
  pub child : Thread
  pub child_there : get_elem? p' (i + 1) ≡ some child
  pub one_frame : child.older ≡ []
  pub begins : ChildOf P holder call child.newest

-- a choice of thread i made the rule, and of the pool p the pool p'
pub record Seen (P : Program) (p : Pool) (i rule : ℕ) (p' : Pool) : Type 0 where
  pub call : OpenCall
  pub sporks : rule ≡ No.spork → Sporks P p i call
  pub after : in_pool P p' ≡ on_list (turn call rule) i (in_pool P p)
  pub gives : rule ≡ No.promote → Gives P p i p'

abbrev pub Sees : Program → Pool → ℕ → Result → Type 0
Sees P p i (Result.made rule p') = Seen P p i rule p'
Sees P p i (Result.refused n) = Unit {0}

-- no call at all
pub nowhere : OpenCall
nowhere = record { function = 0; call = 0; arguments = none }

gives-behind : (P : Program) (t : Thread) {ts : List Thread} {i : ℕ} {ts' : List Thread} → Gives P ts i ts' →
    Gives P (t ∷ ts) (suc i) (t ∷ ts')
gives-behind P t {i = i} {ts'} g =
    let e : suc i + 1 ≡ suc (i + 1) = omega arith in
    record {
      parent = g.parent;
      there = g.there;
      holder = g.holder;
      call = g.call;
      oldest = g.oldest;
      parent_after = g.parent_after;
      parent_there = g.parent_there;
      one_more = g.one_more;
      child = g.child;
      child_there = rw e g.child_there;
      one_frame = g.one_frame;
      begins = g.begins;
    }

-- a choice of a thread behind the first
seen-behind : (P : Program) (t : Thread) {ts : List Thread} {i : ℕ} {rule : ℕ} {ts' : List Thread} → Seen P ts i rule ts' →
    Seen P (t ∷ ts) (suc i) rule (t ∷ ts')
unfolding on_list
seen-behind P t h =
    record {
      call = h.call;
      sporks = λ e. let s = h.sporks e in record { thread = s.thread; there = s.there; spork = s.spork };
      gives = λ e. gives-behind P t (h.gives e);
      after = ap (λ (xss : List (List OpenCall)). open_in P t ∷ xss) h.after;
    }

pub sees-behind : (P : Program) (t : Thread) (ts : List Thread) (i : ℕ) (x : Result) → Sees P ts i x →
    Sees P (t ∷ ts) (suc i) (Rules.behind t x)
unfolding Rules.behind
sees-behind P t ts i (Result.made rule ts') h = seen-behind P t h
sees-behind P t ts i (Result.refused n) h = tt
