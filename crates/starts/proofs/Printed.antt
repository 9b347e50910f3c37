-- What is printed: thread by thread, in order, and how long it is.
use Prim.Native.Nat.{ℕ, ◌*◌, ◌≤◌}
use native.Mathlib.Omega.{arith}
use mathlib.Core.Path.{◌≡◌, refl, sym}
use mathlib.Core.List.{List}
use lib.Dec.{lit≤}
use lib.ListN.{length, take}
use lib.Seq.{length-take-le}
use Rattle.model.specs.Lists.{concat}
use Rattle.model.specs.Text.{decimal, decimal_in}
use Rattle.model.specs.Pool.{most_threads, most_frames, start_of}
use Rattle.puts.specs.Puts.{Puts}
use Rattle.puts.proofs.Laws.{front, first}
use Rattle.starts.specs.Starts.{in_turn, starts, line, printed}

abbrev pub of_thread : ℕ → List ℕ
of_thread i = in_turn most_frames (λ j. line (start_of i j))

pub by-threads : in_turn most_threads of_thread ≡ printed
unfolding in_turn starts printed concat decimal decimal_in
by-threads = refl

-- a line has four digits at most, and its end
pub fits : length printed ≤ most_threads * most_frames * 5
unfolding in_turn starts printed concat decimal decimal_in
fits = lit≤ tt

-- put into bytes that have room for it, it is the first of them
pub record Holds (r : ℕ) (d : List ℕ) : Type 0 where
  pub within : r ≤ length d
  pub long : r ≡ length (take r d)
  pub is : take r d ≡ printed

pub holds : {d : List ℕ} {r : ℕ} {d' : List ℕ} → Puts d 0 printed r d' → length d ≡ most_threads * most_frames * 5 → Holds r d'
holds {d} {r} {d'} p e =
    let s = front p (omega arith) (omega (arith, fits)) in
    let w : r ≤ length d' = omega (arith, s.ends, s.long, fits) in
    record { within = w; long = sym (length-take-le r d' w); is = first p (omega arith) (omega (arith, s.long)) }
