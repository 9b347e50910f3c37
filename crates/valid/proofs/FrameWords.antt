-- Words that are a frame of a table: what is looked at, word by word, against the definition.
use Prim.Native.Nat.{ℕ, ◌+◌, ◌-◌, ◌^◌, ◌≤◌, ◌<◌}
use mathlib.Core.Path.{◌≡◌, refl, sym, ◌∙◌, ap}
use mathlib.Core.Bool.{Bool, true, false, not}
use mathlib.Core.Option.{Option, none, some}
use mathlib.Core.List.{List, [], ◌∷◌, ◌++◌, map, append_assoc}
use native.Mathlib.Nat.{min-eq_left}
use native.Mathlib.Omega.{arith}
use lib.IntN.{ℤ, pos}
use lib.ListN.{length, get_or, get_elem?, take, drop, replicate, length-map, length-take, length-drop, length-replicate, take-append-drop}
use lib.Seq.{take_all, drop-cons, drop-drop}
use Rattle.model.specs.Lists.{all, Each, pad}
use Rattle.model.specs.Values.{number}
use Rattle.model.specs.Syntax.{Block, Function, Program}
use Rattle.model.specs.Limits.{InFunction, InBlock, Limits}
use Rattle.model.specs.Pool.{Frame, temporaries, most_calls, function_at, block_at, done_at, bound_at, opened_at, promoted_at}
use Rattle.model.specs.Pool.{calls_at, values_at}
use Rattle.model.specs.Pool.{frame_words, words_of_frame, word_at, count_at, frame_of, same_words, function_of, block_in, blank}
use Rattle.model.proofs.Facts.{true-false, and_left, and_right, both-and, each_at, at-below, below_at, leb-true, le-leb, not-true}
use Rattle.model.proofs.Facts.{not-false}
use Rattle.model.specs.Valid.{IsFrame, FrameFits}
use Rattle.model.proofs.Valid.{frame-facts, facts-frame, blank-facts, facts-blank}
use Rattle.model.proofs.Words.{same-words, same-words-refl}
use Rattle.places.specs.Places.{spawn_in}
use Rattle.valid.specs.Judged.{beyond, plain, num, is_zero, good_frame, reaches, there, is_call}
use Rattle.valid.proofs.Bools.{same_test, fails, split, zeros-all, all-zeros, small, small-number, plain_of}

-- the frame that words stand for is of the layout's sizes
pub frame-fits : (w : List ℤ) → length w ≡ frame_words → FrameFits (frame_of w)
unfolding frame_of count_at
frame-fits w l =
    record {
      calls = simp (length-map, length-take) (omega arith);
      values = simp (length-take, length-drop) (omega arith);
    }

-- what is looked at
pub record FrameTests (P : Program) (w : List ℤ) : Type 0 where
  pub few : num w opened_at ≤ most_calls
  pub promoted : num w promoted_at ≤ num w opened_at
  pub bound : num w bound_at < 2 ^ temporaries
  pub stands : reaches (num w done_at) (block_in (get_elem? P (num w function_at)) (num w block_at)) ≡ true
  pub calls : all (is_call P (num w function_at)) (take (num w opened_at) (drop calls_at w)) ≡ true
  pub zeros : all is_zero (take (most_calls - num w opened_at) (drop (calls_at + num w opened_at) w)) ≡ true
  pub blanks : blank (num w bound_at) 0 (take temporaries (drop values_at w)) ≡ true

-- calls that are there
calls-there : (P : Program) (f : ℕ) {F : Function} → get_elem? P f ≡ some F → (cs : List ℕ) → Each (λ π. π < length F.spawns) cs
    → all (is_call P f) (map pos cs) ≡ true
unfolding all is_call there spawn_in plain
calls-there P f e [] h = refl
calls-there P f {F} e (π ∷ cs) h =
    both-and (there (spawn_in (get_elem? P f) π)) _ (rw (e, (below_at F.spawns π h.0).1)) (calls-there P f e cs h.1)

pub record Calls (F : Function) (ws : List ℤ) : Type 0 where
  pub plain : map pos (map number ws) ≡ ws
  pub each : Each (λ π. π < length F.spawns) (map number ws)

there-calls : (P : Program) (f : ℕ) {F : Function} → get_elem? P f ≡ some F → length F.spawns ≤ 8 → (ws : List ℤ)
    → all (is_call P f) ws ≡ true → Calls F ws
unfolding all is_call there spawn_in
there-calls P f e few [] h = record { plain = refl; each = tt }
there-calls P f {F} e few (w ∷ ws) h =
    let r = there-calls P f e few ws (and_right (is_call P f w) _ h) in
    let b : plain w < length F.spawns = found (get_elem? F.spawns (plain w)) refl in
    let p : w ≡ pos (plain w) = small w (omega arith) in
    let q : number w ≡ plain w = small-number w (omega arith) in
    record {
      plain = rw (q, ← p, r.plain);
      each = (rw q b, r.each);
    }
  where
    found : (o : Option _) → get_elem? F.spawns (plain w) ≡ o → plain w < length F.spawns
    found none q =
        true-false false (sym (ap there (ap (λ (x : Option Function). spawn_in x (plain w)) e ∙ q)) ∙ and_left (is_call P f w) _ h) refl
    found (some a) q = at-below F.spawns (plain w) q

-- a block that is there
pub record Stood (P : Program) (f b d : ℕ) : Type 0 where
  pub function : Function
  pub found : get_elem? P f ≡ some function
  pub block : Block
  pub there : get_elem? function.blocks b ≡ some block
  pub done : d ≤ length block.code

reached : (P : Program) (f b done : ℕ) → reaches done (block_in (get_elem? P f) b) ≡ true → Stood P f b done
unfolding reaches block_in
reached P f b done e = go (get_elem? P f) refl e
  where
    inside : (F : Function) → get_elem? P f ≡ some F → (o : Option Block) → get_elem? F.blocks b ≡ o → reaches done o ≡ true
        → Stood P f b done
    inside F p none q e = true-false false e refl
    inside F p (some B) q e = record { function = F; found = p; block = B; there = q; done = leb-true done (length B.code) e }

    go : (o : Option Function) → get_elem? P f ≡ o → reaches done (block_in o b) ≡ true → Stood P f b done
    go none p e = true-false false e refl
    go (some F) p e = inside F p (get_elem? F.blocks b) refl e

-- six words and the rest; and the rest by its parts
module _ (w : List ℤ) (l : length w ≡ frame_words) where
  six : w ≡
      get_or w function_at (pos 0) ∷ get_or w block_at (pos 0) ∷ get_or w done_at (pos 0) ∷ get_or w bound_at (pos 0) ∷
      get_or w opened_at (pos 0) ∷ get_or w promoted_at (pos 0) ∷ drop calls_at w
  six =
      let d = drop-cons {A = ℤ} in
      d w function_at (pos 0) (omega arith) ∙ ap (λ (r : List ℤ). get_or w function_at (pos 0) ∷ r)
      (d w block_at (pos 0) (omega arith) ∙ ap (λ (r : List ℤ). get_or w block_at (pos 0) ∷ r)
      (d w done_at (pos 0) (omega arith) ∙ ap (λ (r : List ℤ). get_or w done_at (pos 0) ∷ r)
      (d w bound_at (pos 0) (omega arith) ∙ ap (λ (r : List ℤ). get_or w bound_at (pos 0) ∷ r)
      (d w opened_at (pos 0) (omega arith) ∙ ap (λ (r : List ℤ). get_or w opened_at (pos 0) ∷ r)
      (d w promoted_at (pos 0) (omega arith))))))

  parts : (n : ℕ) → n ≤ most_calls
      → take n (drop calls_at w) ++ (take (most_calls - n) (drop (calls_at + n) w) ++ take temporaries (drop values_at w)) ≡ drop calls_at w
  parts n h =
      let a : calls_at + n + (most_calls - n) ≡ values_at = omega arith in
      let b : take temporaries (drop values_at w) ≡ drop (most_calls - n) (drop (calls_at + n) w) =
      take_all temporaries (drop values_at w) (simp length-drop (omega arith)) ∙ ap (λ (i : ℕ). drop i w) (sym a)
      ∙ sym (drop-drop (most_calls - n) (calls_at + n) w) in
      rw (b, take-append-drop (most_calls - n) (drop (calls_at + n) w), ← drop-drop n calls_at w) (take-append-drop n (drop calls_at w))

-- three numbers of a frame that is written back as it was
pub record Numbered (w : List ℤ) : Type 0 where
  pub done : num w done_at ≡ (frame_of w).done
  pub calls : num w opened_at ≡ length (frame_of w).calls
  pub promoted : num w promoted_at ≡ (frame_of w).promoted

pub numbered : (w : List ℤ) → words_of_frame (frame_of w) ≡ w → Numbered w
unfolding words_of_frame frame_of word_at count_at
numbered w e =
    record {
      done = plain_of (ap (λ (r : List ℤ). get_or r done_at (pos 0)) e);
      calls = plain_of (ap (λ (r : List ℤ). get_or r opened_at (pos 0)) e);
      promoted = plain_of (ap (λ (r : List ℤ). get_or r promoted_at (pos 0)) e);
    }

pub good-same : (P : Program) (w : List ℤ) → good_frame P w ≡ true → words_of_frame (frame_of w) ≡ w
unfolding good_frame
good-same P w e = same-words (words_of_frame (frame_of w)) w (and_left (same_words (words_of_frame (frame_of w)) w) _ e)

pub good-frame : (P : Program) (w : List ℤ) → good_frame P w ≡ true → IsFrame P (frame_of w)
unfolding good_frame
good-frame P w e = frame-facts P (frame_of w) (and_right (same_words (words_of_frame (frame_of w)) w) _ e)

pub frame-good : (P : Program) (w : List ℤ) → words_of_frame (frame_of w) ≡ w → IsFrame P (frame_of w) → good_frame P w ≡ true
unfolding good_frame
frame-good P w e h =
    both-and (same_words (words_of_frame (frame_of w)) w) _
    (rw e (same-words-refl w))
    (facts-frame P (frame_of w) h)

module _ (P : Program) (w : List ℤ) (l : length w ≡ frame_words) where
  frame-tests : words_of_frame (frame_of w) ≡ w → IsFrame P (frame_of w) → FrameTests P w
  unfolding words_of_frame frame_of word_at count_at pad function_of reaches block_in plain
  frame-tests e h =
      let k : Frame = frame_of w in
      let cs : List ℤ = map pos k.calls in
      let e₀ : num w function_at ≡ k.function = plain_of (ap (λ (r : List ℤ). get_or r function_at (pos 0)) e) in
      let e₁ : num w block_at ≡ k.block = plain_of (ap (λ (r : List ℤ). get_or r block_at (pos 0)) e) in
      let m = numbered w e in
      let e₃ : num w bound_at ≡ k.bound = plain_of (ap (λ (r : List ℤ). get_or r bound_at (pos 0)) e) in
      let e₄ : num w opened_at ≡ length k.calls = m.calls in
      let few : length k.calls ≤ most_calls = h.few in
      let n : length cs ≡ num w opened_at = length-map k.calls pos ∙ sym e₄ in
      let s =
      split cs (replicate (most_calls - length cs) (pos 0) ++ k.values) (drop calls_at w) (num w opened_at) n
      (sym (append_assoc cs (replicate (most_calls - length cs) (pos 0)) k.values) ∙ ap (drop calls_at) e)
      in
      let z =
      split (replicate (most_calls - length cs) (pos 0)) k.values (drop (num w opened_at) (drop calls_at w)) (most_calls - num w opened_at)
      (length-replicate _ _ ∙ ap (λ (m : ℕ). most_calls - m) n) s.back
      in
      record {
        few = omega arith;
        promoted = rw (m.promoted, e₄) h.promoted;
        bound = rw e₃ h.bound;
        stands =
            rw (m.done, e₁, e₀, h.stands.found, h.stands.there)
            (le-leb k.done (length h.stands.block.code) h.stands.done);
        calls = rw (← s.front, e₀) (calls-there P k.function h.stands.found k.calls h.stands.calls);
        zeros = rw (← drop-drop (num w opened_at) calls_at w, ← z.front) (zeros-all (most_calls - length cs));
        blanks = rw e₃ (facts-blank k.bound k.values h.blanks);
      }

  module _ (limits : Limits P) (h : FrameTests P w) where
    stood : Stood P (num w function_at) (num w block_at) (num w done_at)
    stood = reached P (num w function_at) (num w block_at) (num w done_at) h.stands

    inside : InFunction stood.function
    inside = each_at InFunction P (num w function_at) limits.functions stood.found

    -- the six words are the numbers
    record Numbers : Type 0 where
      pub function : num w function_at < beyond
      pub block : num w block_at < beyond
      pub done : num w done_at < beyond
      pub bound : num w bound_at < beyond
      pub calls : num w opened_at < beyond
      pub promoted : num w promoted_at < beyond

    numbers : Numbers
    numbers =
        let a = at-below P (num w function_at) stood.found in
        let b = at-below stood.function.blocks (num w block_at) stood.there in
        let c : length stood.block.code ≤ 32 =
        (each_at InBlock stood.function.blocks (num w block_at) inside.blocks stood.there).few
        in
        record {
          function = omega (arith, limits.few);
          block = omega (arith, inside.few_blocks);
          done = omega (arith, stood.done);
          bound = omega (arith, h.bound);
          calls = omega (arith, h.few);
          promoted = omega (arith, h.few, h.promoted);
        }

    slots : List ℤ
    slots = take (num w opened_at) (drop calls_at w)

    called : Calls stood.function slots
    unfolding slots
    called = there-calls P (num w function_at) stood.found inside.few_spawns slots h.calls

    slots_length : length slots ≡ num w opened_at
    unfolding slots
    slots_length = simp (length-take, length-drop) (omega (arith, h.few))

    calls_are : (frame_of w).calls ≡ map number slots
    unfolding frame_of count_at word_at slots
    calls_are = rw (small-number (get_or w opened_at (pos 0)) numbers.calls, min-eq_left h.few)

    calls-length : length (frame_of w).calls ≡ num w opened_at
    calls-length = ap length calls_are ∙ length-map slots number ∙ slots_length

    back : (i : ℕ) → num w i < beyond → pos (number (get_or w i (pos 0))) ≡ get_or w i (pos 0)
    back i q = ap pos (small-number (get_or w i (pos 0)) q) ∙ sym (small (get_or w i (pos 0)) q)

    behind : take (most_calls - num w opened_at) (drop (calls_at + num w opened_at) w) ≡ replicate (most_calls - num w opened_at) (pos 0)
    behind =
        let z : List ℤ = take (most_calls - num w opened_at) (drop (calls_at + num w opened_at) w) in
        let n : length z ≡ most_calls - num w opened_at = simp (length-take, length-drop) (omega (arith, h.few)) in
        all-zeros z h.zeros ∙ ap (λ (m : ℕ). replicate m (pos 0)) n

    rest : pad most_calls (pos 0) (map pos (frame_of w).calls) ++ take temporaries (drop values_at w) ≡ drop calls_at w
    unfolding pad slots
    rest =
        let c : map pos (frame_of w).calls ≡ slots = ap (map pos) calls_are ∙ called.plain in
        let n : length slots ≡ num w opened_at = slots_length in
        rw (c, n, ← behind, append_assoc) (parts w l (num w opened_at) h.few)

    written : words_of_frame (frame_of w) ≡ w
    unfolding words_of_frame frame_of word_at count_at
    written =
        (λ i.
        back function_at numbers.function i ∷ back block_at numbers.block i ∷ back done_at numbers.done i ∷
        back bound_at numbers.bound i ∷
        (ap pos calls-length ∙ sym (small (get_or w opened_at (pos 0)) numbers.calls)) i ∷
        back promoted_at numbers.promoted i ∷ rest i) ∙
        sym (six w l)

    -- the six numbers are the frame's
    number_is : (i : ℕ) → num w i < beyond → word_at w i ≡ num w i
    unfolding word_at
    number_is i q = small-number (get_or w i (pos 0)) q

    framed : IsFrame P (frame_of w)
    unfolding frame_of function_of
    framed =
        let k : Frame = frame_of w in
        let e₀ : k.function ≡ num w function_at = number_is function_at numbers.function in
        let e₁ : k.block ≡ num w block_at = number_is block_at numbers.block in
        let e₂ : k.done ≡ num w done_at = number_is done_at numbers.done in
        let e₃ : k.bound ≡ num w bound_at = number_is bound_at numbers.bound in
        let e₅ : k.promoted ≡ num w promoted_at = number_is promoted_at numbers.promoted in
        record {
          stands =
              record {
                function = stood.function;
                found = ap (get_elem? P) e₀ ∙ stood.found;
                block = stood.block;
                there = ap (get_elem? stood.function.blocks) e₁ ∙ stood.there;
                done = rw e₂ stood.done;
                calls = rw calls_are called.each;
              };
          bound = rw e₃ h.bound;
          few = rw calls-length h.few;
          promoted = rw (e₅, calls-length) h.promoted;
          sized = (frame-fits w l).values;
          blanks = blank-facts k.bound k.values (rw e₃ h.blanks);
        }

  -- good_frame, as facts, and the other way round
  pub good-tests : good_frame P w ≡ true → FrameTests P w
  good-tests e = frame-tests (good-same P w e) (good-frame P w e)

  pub tests-good : Limits P → FrameTests P w → good_frame P w ≡ true
  tests-good limits h = frame-good P w (written limits h) (framed limits h)

-- what code that looks at the words answers: a test that fails, and all of them
module _ (P : Program) (w : List ℤ) (l : length w ≡ frame_words) where
  pub not-frame : (FrameTests P w → ⊥) → false ≡ good_frame P w
  not-frame h = sym (fails (good_frame P w) (λ e. h (good-tests P w l e)))

  pub not-placed : (f b d : ℕ) (r : Bool) → f ≡ num w function_at → b ≡ num w block_at → d ≡ num w done_at
      → r ≡ reaches d (block_in (get_elem? P f) b)
      → not r ≡ true → false ≡ good_frame P w
  not-placed f b d r e₀ e₁ e₂ e n =
      not-frame (λ t. true-false r (e ∙ rw (e₀, e₁, e₂) t.stands) (not-true r n))

  calls-shape : (f n : ℕ) → f ≡ num w function_at → n ≡ num w opened_at
      → all (is_call P f) (take (calls_at + n - calls_at) (drop calls_at w))
      ≡ all (is_call P (num w function_at)) (take (num w opened_at) (drop calls_at w))
  calls-shape f n e₀ e₄ =
      let m : calls_at + n - 6 ≡ n = omega arith in
      rw (m, e₀, e₄)

  zeros-shape : (n : ℕ) → n ≡ num w opened_at
      → all is_zero (take (values_at - (calls_at + n)) (drop (calls_at + n) w))
      ≡ all is_zero (take (most_calls - num w opened_at) (drop (calls_at + num w opened_at) w))
  zeros-shape n e₄ =
      let m : values_at - (calls_at + n) ≡ most_calls - n = omega arith in
      rw (m, e₄)

  pub not-calls : (f n : ℕ) (r : Bool) → f ≡ num w function_at → n ≡ num w opened_at
      → r ≡ all (is_call P f) (take (calls_at + n - calls_at) (drop calls_at w))
      → not r ≡ true → false ≡ good_frame P w
  not-calls f n r e₀ e₄ e z = not-frame (λ t. true-false r (e ∙ calls-shape f n e₀ e₄ ∙ t.calls) (not-true r z))

  pub not_zeros : (n : ℕ) (r : Bool) → n ≡ num w opened_at → r ≡ all is_zero (take (values_at - (calls_at + n)) (drop (calls_at + n) w))
      → not r ≡ true → false ≡ good_frame P w
  not_zeros n r e₄ e z = not-frame (λ t. true-false r (e ∙ zeros-shape n e₄ ∙ t.zeros) (not-true r z))

  pub record Looked (f b d Γ n p : ℕ) (r₁ r₂ r₃ r₄ : Bool) : Type 0 where
    pub function : f ≡ num w function_at
    pub block : b ≡ num w block_at
    pub done : d ≡ num w done_at
    pub bound : Γ ≡ num w bound_at
    pub calls : n ≡ num w opened_at
    pub promoted : p ≡ num w promoted_at
    pub few : n ≤ most_calls
    pub order : p ≤ n
    pub set : Γ ≤ 65535
    pub stands : r₁ ≡ reaches d (block_in (get_elem? P f) b)
    pub placed : not r₁ ≡ false
    pub slots : r₂ ≡ all (is_call P f) (take (calls_at + n - calls_at) (drop calls_at w))
    pub called : not r₂ ≡ false
    pub behind : r₃ ≡ all is_zero (take (values_at - (calls_at + n)) (drop (calls_at + n) w))
    pub zeros : not r₃ ≡ false
    pub blanks : r₄ ≡ blank Γ 0 (take temporaries (drop values_at w))

  pub all-looked : Limits P → (f b d Γ n p : ℕ) (r₁ r₂ r₃ r₄ : Bool) → Looked f b d Γ n p r₁ r₂ r₃ r₄ → r₄ ≡ good_frame P w
  all-looked limits f b d Γ n p r₁ r₂ r₃ r₄ h =
      h.blanks ∙ ap (λ (Δ : ℕ). blank Δ 0 (take temporaries (drop values_at w))) h.bound ∙
      same_test (blank (num w bound_at) 0 (take temporaries (drop values_at w))) (good_frame P w)
      (λ e.
      tests-good P w l limits
      (record {
        few = omega (arith, h.few, h.calls);
        promoted = omega (arith, h.order, h.calls, h.promoted);
        bound = omega (arith, h.set, h.bound);
        stands = rw (← h.function, ← h.block, ← h.done) (sym h.stands ∙ not-false r₁ h.placed);
        calls = sym (calls-shape f n h.function h.calls) ∙ sym h.slots ∙ not-false r₂ h.called;
        zeros = sym (zeros-shape n h.calls) ∙ sym h.behind ∙ not-false r₃ h.zeros;
        blanks = e;
      }))
      (λ e. (good-tests P w l e).blanks)
