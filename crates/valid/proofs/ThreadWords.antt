-- Words that are a thread of a table: what is looked at, frame by frame, against the definition.
use Prim.Native.Nat.{ℕ, zero, suc, ◌*◌, ◌≤◌, ◌<◌}
use mathlib.Core.Path.{◌≡◌, refl, sym, ◌∙◌, ap, subst}
use mathlib.Core.Bool.{Bool, true, false, ◌&&◌, ◌||◌}
use mathlib.Core.List.{List, [], ◌∷◌, ◌++◌, map, reverse, reverse-reverse}
use native.Mathlib.Nat.{min-eq_left}
use native.Mathlib.Omega.{arith}
use lib.Dec.{eqb}
use lib.IntN.{ℤ, pos}
use lib.ListN.{length, get_or, take, drop, length-drop, take-append-drop}
use Rattle.model.specs.Lists.{all, Each, pad, concat}
use Rattle.model.specs.Syntax.{Program}
use Rattle.model.specs.Pool.{Frame, Thread, most_frames, most_work, most_tokens, done_at, opened_at, promoted_at, frame_words}
use Rattle.model.specs.Pool.{frame_count_at}
use Rattle.model.specs.Pool.{work_at, tokens_at, frames_at, thread_words, frames, born, endowed, restacked, begin, words_of_frame}
use Rattle.model.specs.Pool.{thread_head, words_of_thread, runs, word_at, count_at, frame_of, purse_of, thread_of, same_words, children}
use Rattle.model.proofs.Facts.{and_left, and_right, both-and, right-false, or_right, each_map, eqb-true, eqb-false, eq-eqb, ne_eqb}
use Rattle.model.specs.Valid.{IsOlder, Settled, Ordered, IsPurse, IsThread, FrameFits, ThreadFits}
use Rattle.model.proofs.Valid.{thread-facts, facts-thread, Upright, restacked-frames, restacked-purse, thread-upright}
use Rattle.model.proofs.Words.{each-reverse, frame-length, head-length, thread-count, thread-work, thread-tokens, thread-length, same-words}
use Rattle.model.proofs.Words.{same-words-refl, empty-fits, born-fits}
use Rattle.valid.specs.Judged.{num, is_zero, good_frame, good_thread, lasts, fine, promotions}
use Rattle.valid.proofs.Bools.{split, small, small-number, written-number, plain_of}
use Rattle.valid.proofs.FrameWords.{numbered, good-same, good-frame, frame-good, frame-fits}
use Rattle.valid.proofs.Runs.{Same, again, length_back, lasts-reverse, runs-lasts, lasts-runs, runs-long, padded-runs, runs-padded}

-- frames behind the newest, as facts
pub record Older (P : Program) (free : Bool) (ws : List (List ℤ)) : Type 0 where
  pub same : Each (Same words_of_frame frame_of) ws
  pub older : Each (IsOlder P) (map frame_of ws)
  pub settled : free ≡ false → Each Settled (map frame_of ws)
  pub order : Ordered (map frame_of ws)

some-promoted : (w : List ℤ) → Same words_of_frame frame_of w → eqb (num w promoted_at) 0 ≡ false → 0 < (frame_of w).promoted
some-promoted w s q =
    let e = (numbered w s).promoted in
    let n = eqb-false (num w promoted_at) 0 q in
    pos-of-ne (frame_of w).promoted (λ z. n (e ∙ z))
  where
    pos-of-ne : (m : ℕ) → (m ≡ 0 → ⊥) → 0 < m
    pos-of-ne zero f = absurd (f refl)
    pos-of-ne (suc m) f = omega arith

module _ (P : Program) where
  fine-older : (free : Bool) (ws : List (List ℤ)) → fine P false free ws ≡ true → Older P free ws
  unfolding fine
  fine-older free [] e = record { same = tt; older = tt; settled = λ _. tt; order = tt }
  fine-older free (w ∷ ws) e =
      let a : Bool = good_frame P w in
      let b : Bool = eqb (num w done_at) 0 in
      let c : Bool = free || eqb (num w promoted_at) (num w opened_at) in
      let e₃ : (a && b && c) ≡ true = and_left (a && b && c) _ e in
      let e₂ : (a && b) ≡ true = and_left (a && b) _ e₃ in
      let good : a ≡ true = and_left a _ e₂ in
      let s = good-same P w good in
      let n = numbered w s in
      let r = fine-older (free && eqb (num w promoted_at) 0) ws (and_right (a && b && c) _ e) in
      record {
        same = (s, r.same);
        older = (record { frame = good-frame P w good; fresh = sym n.done ∙ eqb-true (num w done_at) 0 (and_right a _ e₂) }, r.older);
        settled = λ f. (
          sym n.promoted ∙ eqb-true (num w promoted_at) (num w opened_at) (or_right free _ f (and_right (a && b) _ e₃)) ∙ n.calls,
          r.settled (rw f refl),
        );
        order = (λ h. r.settled (right-false free _ (ne_eqb (num w promoted_at) 0 (λ z. omega (arith, n.promoted)))), r.order);
      }

  older-fine : (free : Bool) (ws : List (List ℤ)) → Older P free ws → fine P false free ws ≡ true
  unfolding fine
  older-fine free [] h = refl
  older-fine free (w ∷ ws) h =
      let n = numbered w h.same.0 in
      let a : good_frame P w ≡ true = frame-good P w h.same.0 h.older.0.frame in
      let b : eqb (num w done_at) 0 ≡ true = eq-eqb (num w done_at) 0 (n.done ∙ h.older.0.fresh) in
      let c : (free || eqb (num w promoted_at) (num w opened_at)) ≡ true = settled free refl in
      rw (a, b, c)
      (older-fine (free && eqb (num w promoted_at) 0) ws
      (record { same = h.same.1; older = h.older.1; settled = rest free refl; order = h.order.1 }))
    where
      settled : (f : Bool) → free ≡ f → (f || eqb (num w promoted_at) (num w opened_at)) ≡ true
      settled true p = refl
      settled false p =
          let n = numbered w h.same.0 in
          eq-eqb (num w promoted_at) (num w opened_at) (n.promoted ∙ (h.settled p).0 ∙ sym n.calls)

      rest : (f : Bool) → free ≡ f → (f && eqb (num w promoted_at) 0) ≡ false → Each Settled (map frame_of ws)
      rest true p q = h.order.0 (some-promoted w h.same.0 q)
      rest false p q = (h.settled p).1

-- all frames of a thread
module _ (P : Program) where
  fine-upright : (w : List ℤ) (ws : List (List ℤ)) → fine P true true (w ∷ ws) ≡ true
      → Each (Same words_of_frame frame_of) (w ∷ ws) × Upright P (map frame_of (w ∷ ws))
  unfolding fine
  fine-upright w ws e =
      let a : Bool = good_frame P w in
      let good : a ≡ true = and_left a _ (and_left (a && true) _ (and_left (a && true && true) _ e)) in
      let s = good-same P w good in
      let n = numbered w s in
      let r = fine-older P (eqb (num w promoted_at) 0) ws (and_right (a && true && true) _ e) in
      let settled : 0 < (frame_of w).promoted → Each Settled (map frame_of ws) =
      λ h. r.settled (ne_eqb (num w promoted_at) 0 (λ z. omega (arith, n.promoted)))
      in
      ((s, r.same), (good-frame P w good, r.older, (settled, r.order)))

  upright-fine : (w : List ℤ) (ws : List (List ℤ)) → Each (Same words_of_frame frame_of) (w ∷ ws) → Upright P (map frame_of (w ∷ ws))
      → fine P true true (w ∷ ws) ≡ true
  unfolding fine
  upright-fine w ws s u =
      rw (frame-good P w s.0 u.0)
      (older-fine P (eqb (num w promoted_at) 0) ws (record { same = s.1; older = u.1; settled = rest; order = u.2.1 }))
    where
      rest : eqb (num w promoted_at) 0 ≡ false → Each Settled (map frame_of ws)
      rest q = u.2.0 (some-promoted w s.0 q)

-- the promoted calls
same-promotions : (ws : List (List ℤ)) → Each (Same words_of_frame frame_of) ws → promotions ws ≡ children (map frame_of ws)
unfolding promotions children
same-promotions [] h = refl
same-promotions (w ∷ ws) h = rw ((numbered w h.0).promoted, same-promotions ws h.1)

-- the thread that words stand for, whatever they hold
restacked-fits : (t : Thread) (K : List Frame) → ThreadFits t → length K ≤ most_frames → Each FrameFits K → ThreadFits (restacked t K)
restacked-fits t [] g h f = g
restacked-fits t (k ∷ K) g h f = record { few = h; each = f }

each-mapped : {A : Type 0} (Q : A → Type 0) (f : List ℤ → A) (ws : List (List ℤ)) → Each (λ w. Q (f w)) ws → Each Q (map f ws)
each-mapped Q f [] h = tt
each-mapped Q f (w ∷ ws) h = (h.0, each-mapped Q f ws h.1)

frame-sized : (w : List ℤ) → length w ≡ frame_words → length (words_of_frame (frame_of w)) ≡ frame_words
frame-sized w l = frame-length (frame-fits w l)

abbrev count : List ℤ → ℕ
count t = count_at most_frames t frame_count_at

module _ (t : List ℤ) (l : length t ≡ thread_words) where
  count-few : count t ≤ most_frames
  unfolding count_at
  count-few = omega arith

  body-long : length (drop frames_at t) ≡ most_frames * frame_words
  body-long = simp length-drop (omega arith)

  abbrev read : List Frame
  read = reverse (map frame_of (runs frame_words (count t) (drop frames_at t)))

  read_fits : Each FrameFits read
  read_fits =
      let ws : List (List ℤ) = runs frame_words (count t) (drop frames_at t) in
      let long = runs-long frame_words (count t) (drop frames_at t) (omega (arith, count-few, body-long)) in
      each-reverse FrameFits (map frame_of ws) (each-mapped FrameFits frame_of ws (each_map (λ w h. frame-fits w h) ws long))

  pub thread-fits : ThreadFits (thread_of t)
  unfolding thread_of
  thread-fits =
      let n = length_back frame_words (count t) frame_of (drop frames_at t) in
      let b = born-fits empty-fits in
      let f =
      restacked-fits (endowed (born (begin 0 [])) (purse_of t)) read (record { few = b.few; each = b.each })
      (omega (arith, count-few, n)) read_fits
      in
      record { few = f.few; each = f.each }

  pub thread-sized : length (words_of_thread (thread_of t)) ≡ thread_words
  thread-sized = thread-length thread-fits

-- good_thread, by its two parts
module _ (P : Program) where
  pub good-thread-same : (t : List ℤ) → good_thread P t ≡ true → words_of_thread (thread_of t) ≡ t
  unfolding good_thread
  good-thread-same t e = same-words (words_of_thread (thread_of t)) t (and_left (same_words (words_of_thread (thread_of t)) t) _ e)

  pub good-thread : (t : List ℤ) → good_thread P t ≡ true → IsThread P (thread_of t)
  unfolding good_thread
  good-thread t e = thread-facts P (thread_of t) (and_right (same_words (words_of_thread (thread_of t)) t) _ e)

  pub thread-good : (t : List ℤ) → words_of_thread (thread_of t) ≡ t → IsThread P (thread_of t) → good_thread P t ≡ true
  unfolding good_thread
  thread-good t e h =
      both-and (same_words (words_of_thread (thread_of t)) t) _ (rw e (same-words-refl t)) (facts-thread P (thread_of t) h)

-- what is looked at
pub record ThreadTests (P : Program) (t : List ℤ) : Type 0 where
  pub some : 1 ≤ num t frame_count_at
  pub few : num t frame_count_at ≤ most_frames
  pub behind : all is_zero (drop (num t frame_count_at * frame_words) (drop frames_at t)) ≡ true
  pub frames : fine P true true (lasts frame_words (num t frame_count_at) (drop frames_at t)) ≡ true
  pub work : num t work_at ≤ most_work
  pub tokens : num t tokens_at ≤ most_tokens

module _ (t : List ℤ) (n : ℕ) (e : count t ≡ n) (some : 1 ≤ n) where
  frames-run : frames (thread_of t) ≡ reverse (map frame_of (runs frame_words n (drop frames_at t)))
  unfolding thread_of
  frames-run =
      let K : List Frame = reverse (map frame_of (runs frame_words n (drop frames_at t))) in
      let long : length K ≡ n = length_back frame_words n frame_of (drop frames_at t) in
      rw e (restacked-frames _ K (omega arith))

  frames-are : frames (thread_of t) ≡ map frame_of (lasts frame_words n (drop frames_at t))
  frames-are = frames-run ∙ lasts-reverse frame_words frame_of n (drop frames_at t)

  frames-long : length (frames (thread_of t)) ≡ n
  frames-long = ap length frames-run ∙ length_back frame_words n frame_of (drop frames_at t)

  words_are : words_of_thread (thread_of t) ≡
      thread_head (thread_of t) ++ pad (most_frames * frame_words) (pos 0) (again words_of_frame frame_of frame_words n (drop frames_at t))
  unfolding words_of_thread
  words_are =
      let K : List Frame = map frame_of (runs frame_words n (drop frames_at t)) in
      ap (λ (K : List Frame). thread_head (thread_of t) ++ pad (most_frames * frame_words) (pos 0) (concat (map words_of_frame K)))
      (ap reverse frames-run ∙ reverse-reverse K)

-- with no frames the words stand for a thread of one
no_frames : (t : List ℤ) → count t ≡ 0 → length (frames (thread_of t)) ≡ 1
unfolding thread_of runs
no_frames t e = rw e

-- the purse
purse-is : (t : List ℤ) → (thread_of t).purse ≡ purse_of t
unfolding thread_of
purse-is t =
    restacked-purse (endowed (born (begin 0 [])) (purse_of t)) (reverse (map frame_of (runs frame_words (count t) (drop frames_at t))))

-- what stands before the frames is written back as it was
front : (t : List ℤ) → frames_at ≤ length t
    → take frames_at t ≡ get_or t frame_count_at (pos 0) ∷ get_or t work_at (pos 0) ∷ get_or t tokens_at (pos 0) ∷ []
front [] h = absurd (omega arith)
front (a ∷ []) h = absurd (omega arith)
front (a ∷ b ∷ []) h = absurd (omega arith)
front (a ∷ b ∷ c ∷ t) h = refl

head-written : (t : List ℤ) → length t ≡ thread_words → length (frames (thread_of t)) ≡ num t frame_count_at
    → num t frame_count_at ≤ most_frames
    → num t work_at ≤ most_work → num t tokens_at ≤ most_tokens → thread_head (thread_of t) ≡ take frames_at t
unfolding thread_head word_at
head-written t l e few w k =
    let c : pos (length (frames (thread_of t))) ≡ get_or t frame_count_at (pos 0) =
    ap pos e ∙ sym (small (get_or t frame_count_at (pos 0)) (omega arith))
    in
    let worked = written-number (get_or t work_at (pos 0)) (omega arith) in
    let held = written-number (get_or t tokens_at (pos 0)) (omega arith) in
    let e = purse-is t in
    (λ i. c i ∷ pos (e i).work ∷ pos (e i).tokens ∷ []) ∙ (λ i. get_or t frame_count_at (pos 0) ∷ worked i ∷ held i ∷ [])
    ∙ sym (front t (omega arith))

module _ (P : Program) (t : List ℤ) (l : length t ≡ thread_words) where
  thread-tests : words_of_thread (thread_of t) ≡ t → IsThread P (thread_of t) → ThreadTests P t
  unfolding lasts count_at word_at
  thread-tests e h = go (count t) refl
    where
      counted : num t frame_count_at ≡ length (frames (thread_of t))
      counted = plain_of (sym (thread-count (thread_of t)) ∙ ap (λ (r : List ℤ). get_or r frame_count_at (pos 0)) e)

      go : (n : ℕ) → count t ≡ n → ThreadTests P t
      go zero q =
          let c : num t frame_count_at ≡ 1 = counted ∙ no_frames t q in
          absurd (omega (arith, small-number (get_or t frame_count_at (pos 0)) (omega arith)))
      go (suc m) q =
          let c : num t frame_count_at ≡ suc m = counted ∙ frames-long t (suc m) q (omega arith) in
          let few : suc m ≤ most_frames = omega (arith, count-few t l) in
          let w =
          split (thread_head (thread_of t)) _ t frames_at (head-length (thread_of t)) (sym (words_are t (suc m) q (omega arith)) ∙ e) in
          let r =
          padded-runs frame_words words_of_frame frame_of frame-sized most_frames (suc m) (drop frames_at t) few (body-long t l) w.back
          in
          let each = runs-lasts frame_words (Same words_of_frame frame_of) (suc m) (drop frames_at t) r.each in
          let u = subst (Upright P) (frames-are t (suc m) q (omega arith)) (thread-upright P h) in
          record {
            some = omega arith;
            few = omega arith;
            behind = rw c r.behind;
            frames = rw c (upright-fine P _ _ each u);
            work =
                rw (plain_of (sym (thread-work (thread_of t)) ∙ ap (λ (r : List ℤ). get_or r work_at (pos 0)) e)) h.purse.work;
            tokens =
                rw (plain_of (sym (thread-tokens (thread_of t)) ∙ ap (λ (r : List ℤ). get_or r tokens_at (pos 0)) e)) h.purse.tokens;
          }

  module _ (h : ThreadTests P t) where
    counted : count t ≡ num t frame_count_at
    unfolding count_at word_at
    counted = rw (small-number (get_or t frame_count_at (pos 0)) (omega (arith, h.few)), min-eq_left h.few)

    upright : (n : ℕ) → 1 ≤ n → fine P true true (lasts frame_words n (drop frames_at t)) ≡ true
        → Each (Same words_of_frame frame_of) (lasts frame_words n (drop frames_at t))
        × Upright P (map frame_of (lasts frame_words n (drop frames_at t)))
    unfolding lasts
    upright zero some e = absurd (omega arith)
    upright (suc n) some e = fine-upright P _ _ e

    pub child-count : promotions (lasts frame_words (num t frame_count_at) (drop frames_at t)) ≡ children (frames (thread_of t))
    child-count =
        same-promotions (lasts frame_words (num t frame_count_at) (drop frames_at t)) (upright (num t frame_count_at) h.some h.frames).0 ∙
        ap children (sym (frames-are t (num t frame_count_at) counted h.some))

    thread-words : words_of_thread (thread_of t) ≡ t
    thread-words =
        let n : ℕ = num t frame_count_at in
        let body : List ℤ = drop frames_at t in
        let s = lasts-runs frame_words (Same words_of_frame frame_of) n body (upright n h.some h.frames).0 in
        let r =
        runs-padded frame_words words_of_frame frame_of frame-sized most_frames n body h.few (body-long t l)
        (record { each = s; behind = h.behind })
        in
        let c = head-written t l (frames-long t n counted h.some) h.few h.work h.tokens in
        words_are t n counted h.some ∙ (λ i. c i ++ r i) ∙ take-append-drop frames_at t

    thread-is : IsThread P (thread_of t)
    unfolding word_at
    thread-is =
        let u =
        subst (Upright P) (sym (frames-are t (num t frame_count_at) counted h.some))
        (upright (num t frame_count_at) h.some h.frames).1
        in
        let n = frames-long t (num t frame_count_at) counted h.some in
        record { few = omega (arith, h.few); newest = u.0; older = u.1; order = u.2; purse = subst IsPurse (sym (purse-is t)) own }
      where
        own : IsPurse (purse_of t)
        own =
            record {
              work = rw (small-number (get_or t work_at (pos 0)) (omega (arith, h.work))) h.work;
              tokens = rw (small-number (get_or t tokens_at (pos 0)) (omega (arith, h.tokens))) h.tokens;
            }

  -- good_thread, as facts, and the other way round
  pub good-thread-tests : good_thread P t ≡ true → ThreadTests P t
  good-thread-tests e = thread-tests (good-thread-same P t e) (good-thread P t e)

  pub tests-good-thread : ThreadTests P t → good_thread P t ≡ true
  tests-good-thread h = thread-good P t (thread-words h) (thread-is h)
