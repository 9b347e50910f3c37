-- The theorem on started pools, proved, and what follows from it.
use Prim.Native.Nat.{ℕ, ◌≤◌}
use mathlib.Core.Path.{◌≡◌, refl}
use mathlib.Core.Logic.{◌⊎◌, inl, inr}
use mathlib.Core.List.{List}
use lib.IntN.{ℤ}
use lib.ListN.{length}
use Rattle.model.specs.Numbers as No
use Rattle.model.specs.Answers.{Refusal, Answer, number_of}
use Rattle.model.specs.Lists.{Each}
use Rattle.model.specs.Syntax.{Program}
use Rattle.model.specs.Pool.{most_frames, pool_words}
use Rattle.model.specs.Calls as Calls
use Rattle.model.specs.Calls.{read, check}
use Rattle.model.proofs.Accepted.{check-wf}
use Rattle.tokens.specs.Purses.{Repursed}
use Rattle.safety.specs.NeverJams.{Call, of_call, Returned, CanStep, OutOfFrames, Overflows, Moves, Stands}
use Rattle.safety.proofs.Schedules.{finally-kept, call-each, calls-each}
use Rattle.safety.proofs.Theorem.{demand3, now, waiting-moves}
use Rattle.chains.specs.Chains.{Deepest}
use Rattle.chains.specs.Depth.{depth}
use Rattle.chains.specs.Roomy.{NotFull, Few, Roomy, Chained, Full, Depth, AnyTable}
use Rattle.chains.proofs.Means.{depth-means}
use Rattle.chains.proofs.Words.{Held, held_start, held_after, held-aside, held-chained, held-full, held-few, held-room}

-- every choice keeps linked words so, and another purse too
kept : (s : List ℕ) (ws : List ℤ) → Held s ws → (kind i : ℕ) → Held s (Calls.choose s ws kind i).after
kept s ws g = held_after g

aside : (s : List ℕ) (ws ws' : List ℤ) → Repursed s ws ws' → Held s ws → Held s ws'
aside s ws ws' r g = held-aside g r

-- of any table that reads, a thread's frames are a chain of calls
pub frames-follow : AnyTable
frames-follow s P ws r n cs =
    let g = held_start s P ws r n in
    record {
      ever = calls-each s (Held s) (kept s) (aside s) (λ p. Chained s p.words) (λ _ g _ _. held-chained g) cs g;
      after = held-chained (finally-kept s (Held s) (kept s) (aside s) cs g);
      answered = calls-each s (Held s) (kept s) (aside s) (Full s P) (λ _ g kind i. held-full g P r kind i) cs g;
    }

-- a table with a depth
module _ (s : List ℕ) (d : ℕ) (e : depth s ≡ Answer.given d) where
  accepted : check s ≡ Answer.given tt
  accepted = depth-means.only s d e

  deep : (P : Program) → read s ≡ Answer.given P → Deepest P d
  deep P r = (depth-means.accepted s P accepted r).deep d e

  -- its words that calls leave after the start
  module _ (ws : List ℤ) (n : length ws ≡ pool_words) where
    held-started : Held s (Calls.start s ws).after
    held-started = let r = check-wf s accepted in held_start s r.0 ws r.1 n

    module _ (cs : List Call) where
      held-now : Held s (now s ws cs)
      held-now = finally-kept s (Held s) (kept s) (aside s) cs held-started

      -- no thread has more frames than the depth
      pub now-few : Few s d (now s ws cs)
      now-few = held-few held-now d deep

      module _ (l : d ≤ most_frames) where
        -- no choice of a call put next is answered 18
        pub now-room : (c : Call) → Each (NotFull s) (of_call s (now s ws cs) c)
        now-room c = call-each s (Held s) (kept s) (aside s) (NotFull s) (λ _ g kind i. held-room g d deep l kind i) c held-now

        not_full : OutOfFrames s (now s ws cs) → ⊥
        unfolding NotFull number_of
        not_full o = held-room held-now d deep l 0 o.thread (Refusal.plain No.frames) o.gets refl

        roomy-moves : Moves s (now s ws cs) → CanStep s (now s ws cs) ⊎ Overflows s (now s ws cs)
        roomy-moves (inl c) = inl c
        roomy-moves (inr (inl o)) = absurd (not_full o)
        roomy-moves (inr (inr v)) = inr v

        -- main has returned, or some thread can step or overflows
        pub now-stands : Returned s (now s ws cs) ⊎ (CanStep s (now s ws cs) ⊎ Overflows s (now s ws cs))
        now-stands = go ((demand3 s ws accepted n).safe cs).stands
          where
            go : Stands s (now s ws cs) → Returned s (now s ws cs) ⊎ (CanStep s (now s ws cs) ⊎ Overflows s (now s ws cs))
            go (inl r) = inl r
            go (inr m) = inr (roomy-moves m)

        -- where the step of a thread waits (17), some thread can step or overflows
        pub waiting-steps : (i : ℕ) → (Calls.choose s (now s ws cs) 0 i).answer ≡ Answer.refused (Refusal.plain No.waits) →
            CanStep s (now s ws cs) ⊎ Overflows s (now s ws cs)
        waiting-steps i w = roomy-moves (waiting-moves s ws accepted n cs i w)

-- no table of depth 8 or less ever runs out of frames
pub never-full : Depth
never-full s d ws e n = record { starts = (demand3 s ws (accepted s d e) n).starts; roomy = roomy }
  where
    g : Held s (Calls.start s ws).after
    g = held-started s d e ws n

    roomy : (cs : List Call) → Roomy s d (Calls.start s ws).after cs
    roomy cs =
        record {
          ever = calls-each s (Held s) (kept s) (aside s) (λ p. Few s d p.words) (λ _ g _ _. held-few g d (deep s d e)) cs g;
          after = now-few s d e ws n cs;
          answered = λ l. calls-each s (Held s) (kept s) (aside s) (NotFull s) (λ _ g kind i. held-room g d (deep s d e) l kind i) cs g;
          stands = λ l. now-stands s d e ws n cs l;
        }
