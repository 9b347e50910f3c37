-- What the words at a place say of a frame's spawn calls and values.
use Prim.Native.Nat.{ℕ, zero, suc, ◌+◌, ◌%◌, min, ◌≤◌, ◌<◌}
use mathlib.Core.Path.{◌≡◌, refl, sym, ap, ◌∙◌}
use mathlib.Core.Option.{some}
use mathlib.Core.List.{List, [], ◌∷◌}
use native.Mathlib.Nat.{add-zero}
use native.Mathlib.Omega.{arith}
use lib.IntN.{ℤ, pos}
use lib.ListN.{length, get_or, get_elem?, drop, length-take}
use lib.Seq.{get_or-take, get_or-drop}
use mir.Syntax.{w32}
use mir.Val.{SFits, to_z, of_z}
use mir.Facts.{to_z-of_z}
use Rattle.model.specs.Pool.{most_calls, temporaries, opened_at, calls_at, values_at}
use Rattle.pool.specs.Held.{bits_at, bytes_from}
use Rattle.pool.specs.InPlace.{frame_at}

-- an element, by its index and with a default
pub element : {A : Type 0} (xs : List A) (i : ℕ) (d : A) → i < length xs → get_elem? xs i ≡ some (get_or xs i d)
element [] i d h = absurd (omega arith)
element (x ∷ xs) zero d h = refl
element (x ∷ xs) (suc i) d h = element xs i d (omega arith)

byte-from : (ws : List ℤ) (at n : ℕ) → n < most_calls → get_or (bytes_from ws at) n 0 ≡ bits_at ws (at + n) % 256
byte-from ws at zero h = ap (λ (i : ℕ). bits_at ws i % 256) (sym (add-zero at))
byte-from ws at (suc zero) h = refl
byte-from ws at (suc (suc zero)) h = refl
byte-from ws at (suc (suc (suc zero))) h = refl
byte-from ws at (suc (suc (suc (suc n)))) h = absurd (omega arith)

module _ (ws : List ℤ) (at : ℕ) where
  -- open calls: no more than a frame has room for
  calls-length : length (frame_at ws at).calls ≡ min (bits_at ws (at + opened_at) % 256) most_calls
  unfolding frame_at
  calls-length = length-take (bits_at ws (at + opened_at) % 256) (bytes_from ws (at + calls_at))

  pub calls-le : length (frame_at ws at).calls ≤ most_calls
  calls-le = omega (arith, calls-length)

  pub calls-open : {n r : ℕ} → n ≡ bits_at ws (at + opened_at) % 256 → r ≡ min n most_calls → r ≡ length (frame_at ws at).calls
  calls-open e h = omega (arith, calls-length)

  -- an open call
  pub call_at : (n : ℕ) {r : ℕ} → n < length (frame_at ws at).calls → r ≡ bits_at ws (at + calls_at + n) % 256
      → get_elem? (frame_at ws at).calls n ≡ some r
  unfolding frame_at
  call_at n h e =
      let m : n < min (bits_at ws (at + opened_at) % 256) most_calls = omega (arith, calls-length) in
      element (frame_at ws at).calls n 0 h
      ∙ ap some
      (get_or-take (bits_at ws (at + opened_at) % 256) (bytes_from ws (at + calls_at)) n 0 (omega arith)
      ∙ byte-from ws (at + calls_at) n (omega arith)
      ∙ sym e)

  -- a temporary's value, and the sizes of what a frame holds
  pub value-at : (x : ℕ) → x < temporaries → SFits w32 (get_or ws (at + values_at + x) (pos 0))
      → to_z w32 (of_z w32 (get_or ws (at + values_at + x) (pos 0))) ≡ get_or (frame_at ws at).values x (pos 0)
  unfolding frame_at
  value-at x h f =
      to_z-of_z f ∙ sym (get_or-take temporaries (drop (at + values_at) ws) x (pos 0) h ∙ get_or-drop (at + values_at) ws x (pos 0))

  pub bound-lt : (frame_at ws at).bound < 65536
  unfolding frame_at
  bound-lt = omega arith
