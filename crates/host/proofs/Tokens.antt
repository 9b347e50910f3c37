-- Heartbeat tokens in the terms of the exported functions, from the theorems on bytes and words and the laws of the exports.
use Prim.Native.Nat.{ℕ, zero, suc, ◌+◌, ◌-◌, ◌≤◌, ◌<◌}
use mathlib.Core.Path.{◌≡◌, refl, sym, ◌∙◌, ap}
use mathlib.Core.Logic.{◌⊎◌, inl, inr}
use mathlib.Core.Bool.{Bool, true, false, cond}
use mathlib.Core.Option.{Option, none, some}
use mathlib.Core.List.{List, [], ◌∷◌, ◌++◌, map, map-map}
use native.Mathlib.Numerals.{add-one}
use native.Mathlib.Omega.{arith}
use lib.Dec.{eqb, leb, lit≤}
use lib.Arith.{lt_of_le-ne}
use lib.IntN.{ℤ}
use lib.ListN.{get_or, take, drop, get_or-map}
use Rattle.model.specs.Numbers as No
use Rattle.model.specs.Answers.{Refusal, Answer}
use Rattle.model.specs.Pool.{Purse, Pool, work_at, tokens_at, empty}
use Rattle.model.specs.Calls as Calls
use Rattle.model.specs.Calls.{Called, Lent, lent}
use Rattle.model.proofs.Facts.{leb-true, leb-false, eqb-true, eqb-false}
use Rattle.model.proofs.Valid.{pool-facts}
use Rattle.model.proofs.Words.{thread-work, thread-tokens, lent-given, pool-fits}
use Rattle.tokens.specs.Purses.{purse_in, purse_at}
use Rattle.tokens.specs.Beats as Beats
use Rattle.tokens.specs.Beats.{Beat, lent_at}
use Rattle.tokens.specs.Means.{purses, surviving}
use Rattle.tokens.proofs.Words.{lent-at-given, run_lent, run-refused, onward, run-onward}
use Rattle.tokens.proofs.Survivors.{survivors}
use Rattle.tokens.proofs.Exhausts.{exhausts}
use Rattle.tokens.proofs.Bound as Tokens
use Rattle.host.specs.Macros.{is_given, value, promote}
use Rattle.host.specs.Exports.{beat_number, Gives}
use Rattle.host.specs.CallContracts.{Choose}
use Rattle.host.specs.Tokens.{work, tokens, was, Keeps, Leaves, Exhausts, sum, AsBeats, BeatByBeat, Bound}
use Rattle.host.proofs.Macros.{given-read, read-refused, done-read}
use Rattle.host.proofs.Beats.{beat-leaves, beat-read, beat-gave, beat-law}
use Rattle.host.proofs.Laws.{start-law, choose-law}
use Rattle.host.proofs.Counts.{head_at}

-- the purse of thread j; the empty one where there is no such thread
abbrev purse : List Purse → ℕ → Purse
purse es j = get_or es j empty

-- its words
record PurseIn (w : List ℤ) (j : ℕ) (e : Purse) : Type 0 where
  work : work w j ≡ e.work
  tokens : tokens w j ≡ e.tokens

lent-purse : (s : List ℕ) (w : List ℤ) (l : Lent) → lent s w ≡ Answer.given l → (j : ℕ) → PurseIn w j (purse (purses l.pool) j)
lent-purse s w l e j =
    let v = lent-given s w l e in
    let p = l.pool in
    let f = (pool-fits (pool-facts l.table p v.valid)).each in
    rw (← v.words)
    (record {
      work = head_at work_at (lit≤ tt) (λ t. t.purse.work) thread-work p j f ∙ of (λ e. e.work) p;
      tokens = head_at tokens_at (lit≤ tt) (λ t. t.purse.tokens) thread-tokens p j f ∙ of (λ e. e.tokens) p;
    })
  where
    of : (f : Purse → ℕ) (p : Pool) → get_or (map (λ t. f t.purse) p) j (f empty) ≡ f (purse (purses p) j)
    of f p = ap (λ ns. get_or ns j (f empty)) (sym (map-map f (λ t. t.purse) p)) ∙ get_or-map f (purses p) j empty

-- without the purse at n, those in front of it stay, and those behind it move up
gone-front : (n j : ℕ) (es : List Purse) → j < n → purse (take n es ++ drop (suc n) es) j ≡ purse es j
gone-front zero j es l = absurd (omega arith)
gone-front (suc n) j [] l = refl
gone-front (suc n) zero (e ∷ es) l = refl
gone-front (suc n) (suc j) (e ∷ es) l = gone-front n j es (omega arith)

gone-behind : (n j : ℕ) (es : List Purse) → n ≤ j → purse (take n es ++ drop (suc n) es) j ≡ purse es (suc j)
gone-behind zero j [] l = refl
gone-behind zero j (e ∷ es) l = refl
gone-behind (suc n) j [] l = refl
gone-behind (suc n) zero (e ∷ es) l = absurd (omega arith)
gone-behind (suc n) (suc j) (e ∷ es) l = gone-behind n j es (omega arith)

-- with an empty one at n, those in front of it stay, and those behind it move down
come-front : (n j : ℕ) (es : List Purse) → j < n → purse (take n es ++ (empty ∷ drop n es)) j ≡ purse es j
come-front zero j es l = absurd (omega arith)
come-front (suc n) zero [] l = refl
come-front (suc n) (suc j) [] l = refl
come-front (suc n) zero (e ∷ es) l = refl
come-front (suc n) (suc j) (e ∷ es) l = come-front n j es (omega arith)

come-here : (n : ℕ) (es : List Purse) → purse (take n es ++ (empty ∷ drop n es)) n ≡ empty
come-here zero es = refl
come-here (suc n) [] = refl
come-here (suc n) (e ∷ es) = come-here n es

come-behind : (n j : ℕ) (es : List Purse) → n ≤ j → purse (take n es ++ (empty ∷ drop n es)) (suc j) ≡ purse es j
come-behind zero j es l = refl
come-behind (suc n) j [] l = refl
come-behind (suc n) zero (e ∷ es) l = absurd (omega arith)
come-behind (suc n) (suc j) (e ∷ es) l = come-behind n j es (omega arith)

-- the purse e was that of a thread, or there was none
abbrev WasIn : List Purse → Purse → Option ℕ → Type 0
WasIn es e none = e ≡ empty
WasIn es e (some k) = e ≡ purse es k

was-in : (rule i j : ℕ) (es : List Purse) → WasIn es (purse (surviving rule i es) j) (was rule i j)
unfolding was surviving
was-in rule i j es = go (eqb rule No.prom) (eqb rule No.promote) (leb j i) refl (eqb j (i + 1)) refl
  where
    n : i + 2 ≡ suc (i + 1)
    n = omega arith

    go : (b c d : Bool) → leb j i ≡ d → (f : Bool) → eqb j (i + 1) ≡ f →
        WasIn es (purse (cond b (take (i + 1) es ++ drop (i + 2) es) (cond c (take (i + 1) es ++ (empty ∷ drop (i + 1) es)) es)) j)
        (cond b (some (cond d j (j + 1))) (cond c (cond d (some j) (cond f none (some (j - 1)))) (some j)))
    go true c true p f q = rw n (gone-front (i + 1) j es (omega (arith, leb-true j i p)))
    go true c false p f q =
        let m : j + 1 ≡ suc j = omega arith in
        rw (n, m) (gone-behind (i + 1) j es (omega (arith, leb-false j i p)))
    go false true true p f q = come-front (i + 1) j es (omega (arith, leb-true j i p))
    go false true false p true q = rw (eqb-true j (i + 1) q) (come-here (i + 1) es)
    go false true false p false q =
        let b : i + 1 ≤ j = omega (arith, leb-false j i p) in
        let l : i + 1 < j = lt_of_le-ne b (λ e. eqb-false j (i + 1) q (sym e)) in
        let m : j ≡ suc (j - 1) = omega (arith, l) in
        ap (purse (take (i + 1) es ++ (empty ∷ drop (i + 1) es))) m ∙ come-behind (i + 1) (j - 1) es (omega (arith, l))
    go false false d p f q = refl

-- plain choices leave the purses of the threads that stay
pub exports-leave : Leaves
exports-leave s ws kind i r ws' m g j =
    let S = survivors s ws kind i (value r) (sym (choose-law s ws kind i r ws' m).answers ∙ given-read r g) in
    let b = lent-purse s ws S.before S.lends in
    let a = lent-purse s ws' S.after (ap (lent s) m.words ∙ S.left) j in
    let h : WasIn (purses S.before.pool) (purse (purses S.after.pool) j) (was (value r) i j) =
    rw S.survive (was-in (value r) i j (purses S.before.pool))
    in
    go (was (value r) i j) (purses S.before.pool) b a h
  where
    go : (o : Option ℕ) (es : List Purse) → ((k : ℕ) → PurseIn ws k (purse es k)) → {e : Purse} → PurseIn ws' j e → WasIn es e o →
        Keeps ws ws' j o
    go none es b a h = (a.work ∙ ap (λ (e : Purse). e.work) h, a.tokens ∙ ap (λ (e : Purse). e.tokens) h)
    go (some k) es b a h = (
      a.work ∙ ap (λ (e : Purse). e.work) h ∙ sym (b k).work,
      a.tokens ∙ ap (λ (e : Purse). e.tokens) h ∙ sym (b k).tokens,
    )

-- a beat promotes as long as it can pay
purse-at : (p : Pool) (i : ℕ) → purse (purses p) i ≡ purse_at p i
unfolding purse_in
purse-at [] i = refl
purse-at (t ∷ ts) zero = refl
purse-at (t ∷ ts) (suc i) = purse-at ts i

pub exports-exhaust : Exhausts
exports-exhaust s ws thread n c r ws' m g =
    let (b, e) = beat-gave s ws thread n c r ws' m g in
    let E = exhausts s ws thread n c b e in
    let a = lent-purse s ws' E.lends (ap (lent s) m.words ∙ E.pool) thread in
    go E.exhausted (a.tokens ∙ ap (λ (e : Purse). e.tokens) (purse-at E.lends.pool thread))
  where
    go : {k : ℕ} → (k ≡ 0) ⊎ ((q : Refusal) × ((Calls.choose s (Beats.beat s ws thread n c).after 1 thread).answer ≡ Answer.refused q)) →
        tokens ws' thread ≡ k → (tokens ws' thread ≡ 0) ⊎ ((q : ℕ) (w : List ℤ) → Choose s ws' promote thread q w → is_given q ≡ false)
    go (inl z) a = inl (a ∙ z)
    go (inr (x, e)) a = inr λ q w k.
        let f = (choose-law s ws' promote thread q w k).answers in
        (read-refused q (f ∙ ap (λ v. (Calls.choose s v 1 thread).answer) m.words ∙ e)).0

-- a run is its beats, put one by one
beat-by-beat : (s : List ℕ) (n c : ℕ) (is : List ℕ) (ws : List ℤ) →
    let d = Beats.run s ws n c is in AsBeats s ws n c is d.steps d.promotions d.after
unfolding Beats.runs Beats.reported sum
beat-by-beat s n c [] ws = go (lent_at s ws n c) refl
  where
    go : (a : Answer Lent) → lent_at s ws n c ≡ a →
        let d = Beats.run s ws n c [] in AsBeats s ws n c [] d.steps d.promotions d.after
    go (Answer.given l) e =
        let k = lent-at-given s ws n c l e in
        rw (run_lent s ws n c [] l k.lends k.pace)
        (record { numbers = []; beats = sym (lent-given s ws l k.lends).words; counted = refl; promoted = refl })
    go (Answer.refused q) e = rw (run-refused s ws n c [] q e) (record { numbers = []; beats = refl; counted = refl; promoted = refl })
beat-by-beat s n c (i ∷ is) ws = rw (run-onward s ws n c i is) (go d.answer refl (beat-by-beat s n c is d.after))
  where
    d : Called Beat
    d = Beats.beat s ws i n c

    go : (a : Answer Beat) → d.answer ≡ a →
        let r = Beats.run s d.after n c is in AsBeats s d.after n c is r.steps r.promotions r.after →
        let t = onward a d.after (λ w. Beats.run s w n c is) in AsBeats s ws n c (i ∷ is) t.steps t.promotions t.after
    go (Answer.given b) e h =
        let r : ℕ = beat_number d.answer in
        let m : Gives beat_number d r d.after = record { number = refl; words = refl } in
        let (y, k) = beat-read r ((beat-law s ws i n c r d.after m).answers ∙ e) in
        record {
          numbers = r ∷ h.numbers;
          beats = rw (add-one (Beats.run s d.after n c is).steps) (y, (d.after, m, h.beats));
          counted = omega (arith, h.counted);
          promoted = omega (arith, h.promoted, k);
        }
    go (Answer.refused q) e h = record { numbers = []; beats = sym (beat-leaves s ws i n c e); counted = refl; promoted = refl }

pub exports-beat-by-beat : BeatByBeat
exports-beat-by-beat s ws n c threads r steps made ws' m =
    let first : steps ≡ (Beats.run s ws n c threads).steps = ap (λ l. get_or l 0 0) m.counts in
    let second : made ≡ (Beats.run s ws n c threads).promotions = ap (λ l. get_or l 1 0) m.counts in
    rw (first, second, m.words) (beat-by-beat s n c threads ws)

-- promotions times N never exceed C times steps
pub exports-bound : Bound
exports-bound s ws r started st g n c threads q steps promotions ws' m =
    let a = done-read r _ (start-law s ws r started st).answers g in
    let first : steps ≡ (Beats.run s started n c threads).steps = ap (λ l. get_or l 0 0) m.counts in
    let second : promotions ≡ (Beats.run s started n c threads).promotions = ap (λ l. get_or l 1 0) m.counts in
    rw (first, second, st.words) (Tokens.bound s ws a n c threads)
