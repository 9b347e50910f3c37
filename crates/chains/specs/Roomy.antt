-- What a table's depth says of its started pools, on bytes and words: where it is at most 8, 18 is never met, so the clause on frames
-- drops out of demand 3. And what is so without a depth: a thread's frames are a chain of calls.
use Rattle.std.specs.Prelude.{ℕ, ◌≤◌, ◌<◌, ◌≡◌, ◌≢◌, ◌⊎◌, List, [], ◌∷◌, ℤ, length}
use Rattle.model.specs.Numbers as No
use Rattle.model.specs.Answers.{Refusal, Answer, number_of}
use Rattle.model.specs.Lists.{Each}
use Rattle.model.specs.Syntax.{Program}
use Rattle.model.specs.Pool.{Frame, most_frames, pool_words, frames}
use Rattle.model.specs.Calls as Calls
use Rattle.model.specs.Calls.{Lent, lent, read}
use Rattle.safety.specs.NeverJams.{Call, Put, choices, finally, Returned, CanStep, Overflows}
use Rattle.chains.specs.Chains.{Needs}
use Rattle.chains.specs.Depth.{depth}

-- the choice is not answered 18
unfoldable pub NotFull : List ℕ → Put → Type 0
NotFull s p =
    (r : Refusal) → (Calls.choose s p.words p.kind p.thread).answer ≡ Answer.refused r → number_of r ≢ No.frames

-- the words are a pool of the table in which no thread has more than d frames
pub record Few (s : List ℕ) (d : ℕ) (ws : List ℤ) : Type 0 where
  pub lends : Lent
  pub pool : lent s ws ≡ Answer.given lends
  pub few : Each (λ t. length (frames t) ≤ d) lends.pool

-- the claim, about the whole list of calls put from the words ws on: no thread ever has more than d frames, in the words that each
-- choice is put with and in those left; and where d is at most 8, no choice is answered 18, and main has returned, or some thread can
-- step or overflows
pub record Roomy (s : List ℕ) (d : ℕ) (ws : List ℤ) (cs : List Call) : Type 0 where
  pub ever : Each (λ p. Few s d p.words) (choices s ws cs)
  pub after : Few s d (finally s ws cs)
  pub answered : d ≤ most_frames → Each (NotFull s) (choices s ws cs)
  pub stands : d ≤ most_frames → Returned s (finally s ws cs) ⊎ (CanStep s (finally s ws cs) ⊎ Overflows s (finally s ws cs))

-- for every table with a depth, every 1,689 words lent to the start, and every list of calls after it
pub record NeverFull (s : List ℕ) (d : ℕ) (ws : List ℤ) : Type 0 where
  pub starts : (Calls.start s ws).answer ≡ Answer.given tt
  pub roomy : (cs : List Call) → Roomy s d (Calls.start s ws).after cs

abbrev pub Depth : Type 0
Depth = (s : List ℕ) (d : ℕ) (ws : List ℤ) → depth s ≡ Answer.given d → length ws ≡ pool_words → NeverFull s d ws

-- the function of the oldest frame, where g is the newest one's and K are the others, newest first
abbrev pub oldest_function : ℕ → List Frame → ℕ
oldest_function g [] = g
oldest_function g (k ∷ K) = oldest_function k.function K

-- the words are a pool of the table in which each thread has as many frames as some chain from the function of its oldest frame
-- needs: so never more than the longest chain from that function
pub record Chained (s : List ℕ) (ws : List ℤ) : Type 0 where
  pub lends : Lent
  pub pool : lent s ws ≡ Answer.given lends
  pub each : Each (λ t. Needs lends.table (oldest_function t.newest.function t.older) (length (frames t))) lends.pool

-- some chain needs more frames than a thread can have
pub record Deeper (P : Program) : Type 0 where
  pub first : ℕ
  pub there : first < length P
  pub frames : ℕ
  pub needs : Needs P first frames
  pub more : most_frames < frames

-- the choice is answered 18 only where that is so
unfoldable pub Full : List ℕ → Program → Put → Type 0
Full s P p =
    (r : Refusal) → (Calls.choose s p.words p.kind p.thread).answer ≡ Answer.refused r → number_of r ≡ No.frames → Deeper P

-- the claim, about the whole list of calls put from the words ws on
pub record Follows (s : List ℕ) (P : Program) (ws : List ℤ) (cs : List Call) : Type 0 where
  pub ever : Each (λ p. Chained s p.words) (choices s ws cs)
  pub after : Chained s (finally s ws cs)
  pub answered : Each (Full s P) (choices s ws cs)

-- for every table that reads, accepted or not, every 1,689 words lent to the start, and every list of calls after it
abbrev pub AnyTable : Type 0
AnyTable =
    (s : List ℕ) (P : Program) (ws : List ℤ) → read s ≡ Answer.given P → length ws ≡ pool_words → (cs : List Call) →
    Follows s P (Calls.start s ws).after cs
