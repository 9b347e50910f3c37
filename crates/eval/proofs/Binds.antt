-- The loop that binds the temporaries of an argument list in the frame at a place: what one turn adds.
use Prim.Native.Nat.{ℕ, ◌+◌, ◌≤◌, ◌<◌}
use mathlib.Core.Path.{◌≡◌, sym, subst, ◌∙◌}
use mathlib.Core.List.{List}
use native.Mathlib.Omega.{arith}
use mir.Val.{SFits, to_z, of_z}
use mir.Facts.{to_z-of_z}
use mir.Syntax.{w32}
use lib.IntN.{ℤ, pos}
use lib.ListN.{length, get_or, take, length-take}
use lib.Seq.{get_or-take}
use Rattle.model.specs.Lists.{Each}
use Rattle.model.specs.Pool.{Frame, temporaries, frame_words}
use Rattle.model.specs.Frames.{bind, bind_all}
use Rattle.pool.specs.InPlace.{FrameHeld, Became}
use Rattle.pool.proofs.InPlace.{held-became, became-held, became-then}
use Rattle.code.specs.Bytes.{byte_at, past}
use Rattle.code.specs.Code.{run, count_at, arguments_at}
use Rattle.eval.specs.Given.{Binds, BindsAll}
use Rattle.eval.proofs.Lists.{Binding, binding-starts, binding-next, binding-goes, binding-ends, arguments-are}

module _ (s : List ℕ) (p₀ n : ℕ) (v̄ ws₀ : List ℤ) (k : ℕ) where
  -- the words have become those of a frame with the temporaries so far bound
  pub record Bound (m : Frame) (ws : List ℤ) (p i : ℕ) : Type 0 where
    pub frame : Frame
    pub became : Became ws₀ k frame ws
    pub binding : Binding s p₀ n (take n v̄) m frame p i

  pub record BindingAt (ws : List ℤ) (p i : ℕ) : Type 0 where
    pub within : i ≤ n
    pub few : n ≤ length v̄
    pub room : k + frame_words ≤ length ws₀
    pub is : (m : Frame) → FrameHeld ws₀ k m → Each (λ x. x < temporaries) (run s p₀ n) → Bound m ws p i

  pub binds-starts : n ≤ length v̄ → k + frame_words ≤ length ws₀ → BindingAt ws₀ p₀ 0
  binds-starts l r =
      record {
        within = omega arith;
        few = l;
        room = r;
        is = λ m h g. record { frame = m; became = held-became h; binding = binding-starts s p₀ n (take n v̄) m g };
      }

  pub binds-goes : {ws ws' : List ℤ} {p i x q : ℕ} → BindingAt ws p i → i < n → x ≡ byte_at s p → q ≡ past p 1
      → SFits w32 (get_or v̄ i (pos 0)) → Binds ws k x (to_z w32 (of_z w32 (get_or v̄ i (pos 0)))) ws' → BindingAt ws' q (i + 1)
  binds-goes {ws} {ws'} {p} {i} {x} {q} h l e₁ e₂ f b =
      record { within = omega arith; few = h.few; room = h.room; is = λ m o g. go m (h.is m o g) }
    where
      go : (m : Frame) → Bound m ws p i → Bound m ws' q (i + 1)
      go m u =
          let w : get_or (take n v̄) i (pos 0) ≡ to_z w32 (of_z w32 (get_or v̄ i (pos 0))) =
          get_or-take n v̄ i (pos 0) l ∙ sym (to_z-of_z f) in
          let o : FrameHeld ws k u.frame = became-held h.room u.became in
          let y : x < temporaries = omega (arith, binding-next s p₀ n (take n v̄) m u.frame p i u.binding l) in
          let v : ℤ = get_or (take n v̄) i (pos 0) in
          let z : bind u.frame x (to_z w32 (of_z w32 (get_or v̄ i (pos 0)))) ≡ bind u.frame (byte_at s p) v = rw (e₁, w) in
          record {
            frame = bind u.frame (byte_at s p) v;
            became = subst (λ (r : Frame). Became ws₀ k r ws') z (became-then h.room u.became (b.bound y u.frame o));
            binding = binding-goes s p₀ n (take n v̄) m u.frame p i u.binding l (omega (arith, length-take n v̄, h.few)) e₂;
          }

  pub binds-ends : {ws : List ℤ} {p i : ℕ} → BindingAt ws p i → n ≤ i → (m : Frame) → FrameHeld ws₀ k m
      → Each (λ x. x < temporaries) (run s p₀ n) → Became ws₀ k (bind_all m (run s p₀ n) (take n v̄)) ws
  binds-ends {ws} {p} {i} h l m o g =
      let u = h.is m o g in
      subst (λ (r : Frame). Became ws₀ k r ws) (binding-ends s p₀ n (take n v̄) m u.frame p i u.binding l) u.became

-- all of them bound
pub arguments-taken : (s : List ℕ) (at : ℕ) {p₀ n : ℕ} {v̄ ws₀ ws : List ℤ} {k p i : ℕ} → p₀ ≡ past at 1 → n ≡ count_at s at
    → BindingAt s p₀ n v̄ ws₀ k ws p i → n ≤ i → BindsAll s at ws₀ k v̄ ws
arguments-taken s at {p₀} {n} {v̄} {ws₀} {ws} {k} {p} {i} e d h l m o g =
    let a : run s p₀ n ≡ arguments_at s at = arguments-are s at e d in
    rw (← a, ← d) (binds-ends s p₀ n v̄ ws₀ k h l m o (rw a g))
