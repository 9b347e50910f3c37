-- S-5 of document 02: a child's arguments are those of the spork. On bytes and words.
use Rattle.std.specs.Prelude.{ℕ, ◌+◌, ◌≡◌, List, [], ◌∷◌, ◌++◌, map, ℤ, length, take}
use Rattle.std.proofs.Math.Option.{Option, some}
use Rattle.std.proofs.Math.ListN.{get_elem?}
use Rattle.model.specs.Numbers as No
use Rattle.model.specs.Answers.{Answer}
use Rattle.model.specs.Syntax.{Transfer, SpawnCall, Function, Program}
use Rattle.model.specs.Pool.{Frame, Thread, Pool, pool_words, frames, begin, function_of, children}
use Rattle.model.specs.Frames.{◌>>=◌, look_all}
use Rattle.model.specs.Calls as Calls
use Rattle.model.specs.Calls.{Lent, lent, check}
use Rattle.safety.specs.NeverJams.{Call, Put, choices, finally, At}
use Rattle.sporks.specs.Openers.{Reply, openers, opener}

-- a choice that was put, as its caller sees it
abbrev pub reply_to : List ℕ → Put → Reply
reply_to s p = record { thread = p.thread; answer = (Calls.choose s p.words p.kind p.thread).answer }

abbrev pub replies : List ℕ → List Put → List Reply
replies s ps = map (reply_to s) ps

-- X(x̄), where spawn call π of the frame's function is g(x̄)
unfoldable pub arguments_of : Program → Frame → ℕ → Option (List ℤ)
arguments_of P k π = do
  F ← function_of P k
  S ← get_elem? F.spawns π
  look_all k S.arguments

-- an open call as it stands in a frame: the frame's function, the number of the spawn call, and the values that its arguments have
-- there
pub record OpenCall : Type 0 where
  pub function : ℕ
  pub call : ℕ
  pub arguments : Option (List ℤ)

unfoldable pub standing : Program → Frame → ℕ → OpenCall
standing P k π = record { function = k.function; call = π; arguments = arguments_of P k π }

-- the open calls of frames that come newest first: oldest call first
unfoldable pub open_calls : Program → List Frame → List OpenCall
open_calls P [] = []
open_calls P (k ∷ K) = open_calls P K ++ map (standing P k) k.calls

abbrev pub open_in : Program → Thread → List OpenCall
open_in P t = open_calls P (frames t)

-- choice m of ps is a spork of the call o: it made rule 7, in a thread whose newest frame was at a spork, and o is the call of that
-- spork as it stood in that frame, in the pool that the step was put with
pub record Sporked (s : List ℕ) (ps : List Put) (m : ℕ) (o : OpenCall) : Type 0 where
  pub put : Put
  pub numbered : get_elem? ps m ≡ some put
  pub made : (reply_to s put).answer ≡ Answer.given No.spork
  pub lends : Lent
  pub pool : lent s put.words ≡ Answer.given lends
  pub thread : Thread
  pub there : get_elem? lends.pool put.thread ≡ some thread
  pub body : ℕ
  pub call : ℕ
  pub at_spork : At lends.table thread.newest (Transfer.spork body call)
  pub values : List ℤ
  pub had : arguments_of lends.table thread.newest call ≡ some values
  pub is : o ≡ record { function = thread.newest.function; call = call; arguments = some values }

-- R of each two that stand at the same place of two lists, which are equally long
abbrev pub Paired : {A B : Type 0} → (A → B → Type 0) → List A → List B → Type 0
Paired R [] [] = Unit {0}
Paired R [] (y ∷ ys) = ⊥
Paired R (x ∷ xs) [] = ⊥
Paired R (x ∷ xs) (y ∷ ys) = R x y × Paired R xs ys

-- after the choices ps, which left the words ws, work and tokens aside: they are a pool of the table, in which every open call of every
-- thread has for its arguments the values that they had at its spork
pub record Kept (s : List ℕ) (ps : List Put) (ws : List ℤ) : Type 0 where
  pub lends : Lent
  pub pool : lent s ws ≡ Answer.given lends
  pub same : Paired (Paired (Sporked s ps)) (openers (replies s ps)) (map (open_in lends.table) lends.pool)

-- after the choices ps the promotion p is made. The call promoted is the oldest that is not: in the list of its thread it stands behind
-- those that are, of which each is one child. In the pool left one more is promoted, and the child stands directly behind its parent:
-- one frame, at the entry of the function that the call names, with its parameters bound, and no other temporary, to the values that the
-- call's arguments had at its spork
pub record Hands (s : List ℕ) (ps : List Put) (p : Put) : Type 0 where
  pub lends : Lent
  pub pool : lent s p.words ≡ Answer.given lends
  pub parent : Thread
  pub there : get_elem? lends.pool p.thread ≡ some parent
  pub call : OpenCall
  pub oldest : get_elem? (open_in lends.table parent) (children (frames parent)) ≡ some call
  pub number : ℕ
  pub numbered : opener (replies s ps) p.thread (children (frames parent)) ≡ some number
  pub spork : Sporked s ps number call
  pub function : Function
  pub function_there : get_elem? lends.table call.function ≡ some function
  pub spawn : SpawnCall
  pub spawn_there : get_elem? function.spawns call.call ≡ some spawn
  pub callee : Function
  pub callee_there : get_elem? lends.table spawn.function ≡ some callee
  pub takes : length spork.values ≡ callee.signature.parameters
  pub after : Pool
  pub left : lent s (Calls.choose s p.words p.kind p.thread).after ≡
      Answer.given (record { table = lends.table; pool = after })
  pub parent_after : Thread
  pub parent_there : get_elem? after p.thread ≡ some parent_after
  pub one_more : children (frames parent_after) ≡ children (frames parent) + 1
  pub child : Thread
  pub child_there : get_elem? after (p.thread + 1) ≡ some child
  pub one_frame : child.older ≡ []
  pub begun : child.newest ≡ begin spawn.function spork.values

-- the claim, about the whole list of calls put from the words ws on: of each promotion made in it, by a single choice or within a
-- schedule, a beat or a run; and of the open calls, in the words that each choice is put with and in those left
pub record Handed (s : List ℕ) (ws : List ℤ) (cs : List Call) : Type 0 where
  pub promotions : (m : ℕ) (p : Put) → get_elem? (choices s ws cs) m ≡ some p → (reply_to s p).answer ≡ Answer.given No.promote →
      Hands s (take m (choices s ws cs)) p
  pub ever : (m : ℕ) (p : Put) → get_elem? (choices s ws cs) m ≡ some p → Kept s (take m (choices s ws cs)) p.words
  pub after : Kept s (choices s ws cs) (finally s ws cs)

-- for every table that the check accepts, every 1,689 words lent to the start, and every list of calls after it
abbrev pub Arguments : Type 0
Arguments =
    (s : List ℕ) (ws : List ℤ) → check s ≡ Answer.given tt → length ws ≡ pool_words →
    (cs : List Call) → Handed s (Calls.start s ws).after cs
