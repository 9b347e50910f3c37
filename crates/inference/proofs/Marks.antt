-- Laws of the marks: they are those of the blocks that are reached, a table can hold them, and where any nestings pass the rules, these
-- are they. And the lowest block without a mark.
use Prim.Native.Nat.{ℕ, zero, suc, ◌+◌, ◌≤◌, ◌<◌}
use mathlib.Core.Path.{◌≡◌, refl, sym, ◌∙◌, ap, subst}
use mathlib.Core.Logic.{◌⊎◌, inl, inr}
use mathlib.Core.Bool.{Bool, true, false, cond}
use mathlib.Core.Option.{Option, none, some}
use mathlib.Core.List.{List, [], ◌∷◌, ◌++◌}
use native.Mathlib.Omega.{arith}
use lib.Dec.{ltb}
use lib.ListN.{length, get_or, get_elem?, replicate, length-set, length-replicate, length-append}
use lib.Seq.{get_or-set_same}
use Rattle.model.specs.Lists.{Each, Snoc, unsnoc}
use Rattle.model.specs.Syntax.{Transfer, Head, Block, Function, Program, targets}
use Rattle.model.specs.Write.{Name, HoldsTransfer, HoldsBlock, HoldsFunction}
use Rattle.model.specs.WellFormed.{env, head_of, WF-cont, WF-transfer, WF-block, WF-fun}
use Rattle.model.proofs.Facts.{true-false, none-some, some-injective, map-some, each_map, each_append, each_left, each_at, at-below}
use Rattle.model.proofs.Facts.{same_at, unsnoc-some, unsnoc-snoc, ltb-true, lt-ltb}
use Rattle.model.proofs.Accepted.{code-transfer}
use Rattle.numbering.specs.Mentions.{of, targets_of, targets_in}
use Rattle.numbering.specs.Tidy.{member}
use Rattle.numbering.specs.Order as Order
use Rattle.numbering.proofs.Kept.{of_some}
use Rattle.numbering.proofs.Lists.{each_member, member-each}
use Rattle.inference.specs.Filled.{Scoping, Holds, put, filled}
use Rattle.inference.specs.Infer.{Mark, upward, sweep, at, opened, front, closed, under, first, mark, mark_all, leads, lead}
use Rattle.inference.specs.Infer.{entered, marks}
use Rattle.inference.specs.Complete.{unmarked}
use Rattle.inference.specs.Means.{Reached}
use Rattle.inference.proofs.Rounds.{Climbs, sweep-climbs, sweep-keep, rounds-keep, swept-fixed, upward-ends}
use Rattle.inference.proofs.Filled.{filled-block, block-filled}

-- block b has a mark
abbrev pub Has : List Mark → ℕ → Type 0
Has ms b = (ρ : List ℕ) × (get_or ms b none ≡ some ρ)

-- how many blocks have one
marked : List Mark → ℕ
marked [] = 0
marked (none ∷ ms) = marked ms
marked (some ρ ∷ ms) = suc (marked ms)

marked-few : (ms : List Mark) → marked ms ≤ length ms
unfolding marked
marked-few [] = omega arith
marked-few (none ∷ ms) = let h : marked ms ≤ length ms = marked-few ms in omega arith
marked-few (some ρ ∷ ms) = let h : marked ms ≤ length ms = marked-few ms in omega arith

marked-most : (n : ℕ) (ms : List Mark) → length ms ≡ n → marked ms ≤ n
marked-most n ms e = subst (λ (m : ℕ). marked ms ≤ m) e (marked-few ms)

-- one mark changes nothing, or there is one more
mark-climbs : (ρ : List ℕ) (ms : List Mark) (b : ℕ) → (mark ρ ms b ≡ ms) ⊎ (marked ms < marked (mark ρ ms b))
unfolding mark first marked
mark-climbs ρ [] b = inl refl
mark-climbs ρ (none ∷ ms) zero = inr (omega arith)
mark-climbs ρ (some σ ∷ ms) zero = inl refl
mark-climbs ρ (none ∷ ms) (suc b) = go (mark-climbs ρ ms b)
  where
    go : (mark ρ ms b ≡ ms) ⊎ (marked ms < marked (mark ρ ms b)) →
        (none ∷ mark ρ ms b ≡ none ∷ ms) ⊎ (marked ms < marked (mark ρ ms b))
    go (inl e) = inl (ap (λ (l : List Mark). none ∷ l) e)
    go (inr l) = inr l
mark-climbs ρ (some σ ∷ ms) (suc b) = go (mark-climbs ρ ms b)
  where
    go : (mark ρ ms b ≡ ms) ⊎ (marked ms < marked (mark ρ ms b)) →
        (some σ ∷ mark ρ ms b ≡ some σ ∷ ms) ⊎ (suc (marked ms) < suc (marked (mark ρ ms b)))
    go (inl e) = inl (ap (λ (l : List Mark). some σ ∷ l) e)
    go (inr l) = inr (omega arith)

-- marks of one nesting for several blocks are a sweep
marking : List ℕ → ℕ → List Mark → List Mark
marking ρ b ms = mark ρ ms b

mark_all-sweep : (ρ : List ℕ) (ms : List Mark) (bs : List ℕ) → mark_all ρ ms bs ≡ sweep (marking ρ) bs ms
unfolding mark_all sweep marking
mark_all-sweep ρ ms [] = refl
mark_all-sweep ρ ms (b ∷ bs) = mark_all-sweep ρ (mark ρ ms b) bs

mark-length : (ρ : List ℕ) (ms : List Mark) (b : ℕ) → length (mark ρ ms b) ≡ length ms
unfolding mark
mark-length ρ ms b = length-set ms b (first (get_or ms b none) ρ)

marking-climbs : (ρ : List ℕ) (n : ℕ) → Climbs (marking ρ) (λ ms. length ms ≡ n) marked n
unfolding marking
marking-climbs ρ n =
    record {
      keeps = λ b ms e. mark-length ρ ms b ∙ e;
      climbs = λ b ms e. mark-climbs ρ ms b;
      most = marked-most n;
    }

-- what a block with a mark leads to: the marks of its targets
lead-some : (F : Function) (b : ℕ) (ms : List Mark) (B : Block) (ρ : List ℕ) → get_elem? F.blocks b ≡ some B → get_or ms b none ≡ some ρ →
    lead F b ms ≡ sweep (marking (under ρ B.transfer)) (targets B.transfer) ms
unfolding lead at leads
lead-some F b ms B ρ e d = rw (e, d) (mark_all-sweep (under ρ B.transfer) ms (targets B.transfer))

-- a law of what a block leads to, from its cases: nothing, where it is missing or has no mark; else those marks
lead-cases : (F : Function) (b : ℕ) (ms : List Mark) (Q : List Mark → Type 0) → Q ms →
    ((B : Block) (ρ : List ℕ) → get_elem? F.blocks b ≡ some B → get_or ms b none ≡ some ρ →
    Q (sweep (marking (under ρ B.transfer)) (targets B.transfer) ms)) → Q (lead F b ms)
unfolding lead at leads
lead-cases F b ms Q stays on = go (get_elem? F.blocks b) (get_or ms b none) refl refl
  where
    go : (o : Option Block) (m : Mark) → get_elem? F.blocks b ≡ o → get_or ms b none ≡ m → Q (lead F b ms)
    go none m e d = rw e stays
    go (some B) none e d = rw (e, d) stays
    go (some B) (some ρ) e d = rw (lead-some F b ms B ρ e d) (on B ρ e d)

lead-keeps : (F : Function) (n b : ℕ) (ms : List Mark) → length ms ≡ n → length (lead F b ms) ≡ n
lead-keeps F n b ms e =
    lead-cases F b ms (λ l. length l ≡ n) e
    (λ B ρ _ _. sweep-keep (marking (under ρ B.transfer)) (λ l. length l ≡ n) (marking-climbs (under ρ B.transfer) n).keeps
    (targets B.transfer) ms e)

lead-climbs : (F : Function) (n : ℕ) → Climbs (lead F) (λ ms. length ms ≡ n) marked n
lead-climbs F n =
    record {
      keeps = lead-keeps F n;
      climbs = λ b ms e.
          lead-cases F b ms (λ l. (l ≡ ms) ⊎ (marked ms < marked l)) (inl refl)
          (λ B ρ _ _. sweep-climbs (marking-climbs (under ρ B.transfer) n) (targets B.transfer) ms e);
      most = marked-most n;
    }

-- at first there are as many, and the entry's alone
entered-length : (n : ℕ) → length (entered n) ≡ n
unfolding entered
entered-length n = length-set (replicate n none) 0 (some []) ∙ length-replicate n none

entered_at : (n b : ℕ) {ρ : List ℕ} → get_or (entered n) b none ≡ some ρ → (b ≡ 0) × (ρ ≡ [])
unfolding entered
entered_at zero b e = none-some e
entered_at (suc n) zero e = (refl, sym (some-injective e))
entered_at (suc n) (suc b) {ρ} e = none-some (sym (same_at n b none) ∙ e)

entered-first : (n : ℕ) → 0 < n → get_or (entered n) 0 none ≡ some []
unfolding entered
entered-first zero h = absurd (omega arith)
entered-first (suc n) h = refl

-- one for each block
pub marks-length : (F : Function) → length (marks F) ≡ length F.blocks
unfolding marks
marks-length F =
    rounds-keep (lead F) (λ ms. length ms ≡ length F.blocks) (lead-keeps F (length F.blocks))
    (upward 0 (length F.blocks)) (length F.blocks) (entered (length F.blocks)) (entered-length (length F.blocks))

-- at the end no block leads to anything new
pub marks-steady : (F : Function) (b : ℕ) → b < length F.blocks → lead F b (marks F) ≡ marks F
unfolding marks
marks-steady F b h =
    upward-ends (lead-climbs F (length F.blocks)) (length F.blocks) (entered (length F.blocks))
    (entered-length (length F.blocks)) b h

-- a mark stays, and any other is of the block that is marked
mark-stays : (ρ : List ℕ) (ms : List Mark) (c b : ℕ) {σ : List ℕ} → get_or ms b none ≡ some σ → get_or (mark ρ ms c) b none ≡ some σ
unfolding mark first
mark-stays ρ [] c b e = e
mark-stays ρ (none ∷ ms) zero zero e = none-some e
mark-stays ρ (some τ ∷ ms) zero zero e = e
mark-stays ρ (m ∷ ms) zero (suc b) e = e
mark-stays ρ (m ∷ ms) (suc c) zero e = e
mark-stays ρ (m ∷ ms) (suc c) (suc b) e = mark-stays ρ ms c b e

mark-at : (ρ : List ℕ) (ms : List Mark) (c b : ℕ) {σ : List ℕ} → get_or (mark ρ ms c) b none ≡ some σ →
    (get_or ms b none ≡ some σ) ⊎ ((b ≡ c) × (σ ≡ ρ))
unfolding mark first
mark-at ρ [] c b e = none-some e
mark-at ρ (none ∷ ms) zero zero e = inr (refl, sym (some-injective e))
mark-at ρ (some τ ∷ ms) zero zero e = inl e
mark-at ρ (m ∷ ms) zero (suc b) e = inl e
mark-at ρ (m ∷ ms) (suc c) zero e = inl e
mark-at ρ (m ∷ ms) (suc c) (suc b) {σ} e = go (mark-at ρ ms c b e)
  where
    go : (get_or ms b none ≡ some σ) ⊎ ((b ≡ c) × (σ ≡ ρ)) → (get_or ms b none ≡ some σ) ⊎ ((suc b ≡ suc c) × (σ ≡ ρ))
    go (inl p) = inl p
    go (inr p) = inr (ap suc p.0, p.1)

-- a block that a mark changes nothing of has one
mark-has : (ρ : List ℕ) (ms : List Mark) (b : ℕ) → b < length ms → mark ρ ms b ≡ ms → Has ms b
unfolding mark first
mark-has ρ ms b h e =
    go (get_or ms b none) refl (sym (get_or-set_same ms b (first (get_or ms b none) ρ) none h) ∙ ap (λ (l : List Mark). get_or l b none) e)
  where
    go : (m : Mark) → get_or ms b none ≡ m → first (get_or ms b none) ρ ≡ get_or ms b none → Has ms b
    go none d p = none-some (sym (subst (λ (m : Mark). first m ρ ≡ m) d p))
    go (some σ) d p = (σ, d)

-- what holds of every mark: of the entry's, and where it holds of a block's, of those that it gives its targets
module _ (J : ℕ → List ℕ → Type 0) where
  Every : List Mark → Type 0
  Every ms = (b : ℕ) (ρ : List ℕ) → get_or ms b none ≡ some ρ → J b ρ

  mark-keeps : (ρ : List ℕ) (ms : List Mark) (c : ℕ) → J c ρ → Every ms → Every (mark ρ ms c)
  unfolding Every
  mark-keeps ρ ms c j h b σ e = go (mark-at ρ ms c b e)
    where
      go : (get_or ms b none ≡ some σ) ⊎ ((b ≡ c) × (σ ≡ ρ)) → J b σ
      go (inl p) = h b σ p
      go (inr p) = rw (p.0, p.1) j

  mark_all-keeps : (ρ : List ℕ) (cs : List ℕ) (ms : List Mark) → Each (λ c. J c ρ) cs → Every ms → Every (sweep (marking ρ) cs ms)
  unfolding sweep marking
  mark_all-keeps ρ [] ms js h = h
  mark_all-keeps ρ (c ∷ cs) ms js h = mark_all-keeps ρ cs (mark ρ ms c) js.1 (mark-keeps ρ ms c js.0 h)

  pub marks-keep : (F : Function) → J 0 [] →
      ((b : ℕ) (ρ : List ℕ) (B : Block) → J b ρ → get_elem? F.blocks b ≡ some B →
      Each (λ c. J c (under ρ B.transfer)) (targets B.transfer)) →
      (b : ℕ) (ρ : List ℕ) → get_or (marks F) b none ≡ some ρ → J b ρ
  unfolding marks Every
  marks-keep F enters on =
      rounds-keep (lead F) Every
      (λ b ms h.
      lead-cases F b ms Every h
      (λ B ρ e d. mark_all-keeps (under ρ B.transfer) (targets B.transfer) ms (on b ρ B (h b ρ d) e) h))
      (upward 0 (length F.blocks)) (length F.blocks) (entered (length F.blocks))
      (λ b ρ e. let p : (b ≡ 0) × (ρ ≡ []) = entered_at (length F.blocks) b e in rw (p.0, p.1) enters)

-- what block b of a function leads to
targets-in : (F : Function) (b : ℕ) (B : Block) → get_elem? F.blocks b ≡ some B → targets_in F b ≡ targets B.transfer
unfolding targets_of
targets-in F b B e = of_some targets_of (get_elem? F.blocks b) e

-- what is marked is reached
pub marks-reached : (F : Function) (b : ℕ) (ρ : List ℕ) → get_or (marks F) b none ≡ some ρ → Reached F b
marks-reached F =
    marks-keep (λ b ρ. Reached F b) F Order.Reached.first
    (λ b ρ B r e. member-each (Reached F) (targets B.transfer) (λ c m. Order.Reached.then b c r (rw (targets-in F b B e) m)))

-- the entry is marked, with no nesting
pub marks-entry : (F : Function) → 0 < length F.blocks → get_or (marks F) 0 none ≡ some []
unfolding marks marking
marks-entry F h =
    rounds-keep (lead F) (λ ms. get_or ms 0 none ≡ some [])
    (λ b ms e.
    lead-cases F b ms (λ l. get_or l 0 none ≡ some []) e
    (λ B ρ _ _.
    sweep-keep (marking (under ρ B.transfer)) (λ l. get_or l 0 none ≡ some []) (λ c l. mark-stays (under ρ B.transfer) l c 0)
    (targets B.transfer) ms e))
    (upward 0 (length F.blocks)) (length F.blocks) (entered (length F.blocks)) (entered-first (length F.blocks) h)

-- the targets of a block that is marked are marked, where they are there
pub marks-lead : (F : Function) (b : ℕ) (B : Block) (ρ : List ℕ) → get_elem? F.blocks b ≡ some B → get_or (marks F) b none ≡ some ρ →
    Each (λ c. c < length F.blocks → Has (marks F) c) (targets B.transfer)
unfolding marking
marks-lead F b B ρ e d =
    each_map (λ c s h. mark-has (under ρ B.transfer) (marks F) c (rw (marks-length F) h) s) (targets B.transfer)
    (swept-fixed (marking-climbs (under ρ B.transfer) (length F.blocks)) (targets B.transfer) (marks F) (marks-length F)
    (sym (lead-some F b (marks F) B ρ e d) ∙ marks-steady F b (at-below F.blocks b e)))

-- what is reached is marked
pub reached-marks : (F : Function) (b : ℕ) → 0 < length F.blocks → b < length F.blocks → Reached F b → Has (marks F) b
unfolding of member
reached-marks F b entry inside Order.Reached.first = ([], marks-entry F entry)
reached-marks F b entry inside (Order.Reached.then x _ r m) = go (get_elem? F.blocks x) refl (λ h. reached-marks F x entry h r)
  where
    go : (o : Option Block) → get_elem? F.blocks x ≡ o → (x < length F.blocks → Has (marks F) x) → Has (marks F) b
    go none e on = true-false (member b (targets_in F x)) m (rw e)
    go (some B) e on =
        let (ρ, d) = on (at-below F.blocks x e) in
        each_member (λ c. c < length F.blocks → Has (marks F) c) (targets B.transfer) b (marks-lead F x B ρ e d)
        (rw (← (targets-in F x B e)) m) inside

-- a nesting with one more, where there are fewer than four; and with one less, where it has a last
pub opened-few : (ρ : List ℕ) (π : ℕ) → length ρ < 4 → opened ρ π ≡ ρ ++ (π ∷ [])
unfolding opened
opened-few ρ π h = rw (lt-ltb (length ρ) 4 h)

pub closed-last : (ρ : List ℕ) (π : ℕ) → closed (ρ ++ (π ∷ [])) ≡ ρ
unfolding closed front
closed-last ρ π = rw (unsnoc-snoc ρ π)

-- a nesting that a table can hold
abbrev Held : List ℕ → Type 0
Held ρ = (length ρ ≤ 4) × Each Name ρ

opened-held : (ρ : List ℕ) (π : ℕ) → Name π → Held ρ → Held (opened ρ π)
unfolding opened
opened-held ρ π p h = go (ltb (length ρ) 4) refl
  where
    go : (t : Bool) → ltb (length ρ) 4 ≡ t → Held (cond t (ρ ++ (π ∷ [])) ρ)
    go true e =
        let l : length ρ < 4 = ltb-true (length ρ) 4 e in
        let s : length (ρ ++ (π ∷ [])) ≡ length ρ + 1 = length-append ρ (π ∷ []) in
        (omega arith, each_append Name ρ (π ∷ []) h.1 (p, tt))
    go false e = h

closed-held : (ρ : List ℕ) → Held ρ → Held (closed ρ)
unfolding closed front
closed-held ρ h = go (unsnoc ρ) refl
  where
    go : (o : Option (Snoc ℕ)) → unsnoc ρ ≡ o → Held (front o)
    go none e = (omega arith, tt)
    go (some I) e =
        let i : ρ ≡ I.front ++ (I.last ∷ []) = unsnoc-some ρ I e in
        let s : length (I.front ++ (I.last ∷ [])) ≡ length I.front + 1 = length-append I.front (I.last ∷ []) in
        let l : length ρ ≡ length (I.front ++ (I.last ∷ [])) = ap (λ (l : List ℕ). length l) i in
        let f : length ρ ≤ 4 = h.0 in
        (omega arith, each_left Name I.front (I.last ∷ []) (subst (λ (l : List ℕ). Each Name l) i h.1))

under-held : (ρ : List ℕ) (T : Transfer) → HoldsTransfer T → Held ρ → Held (under ρ T)
unfolding under HoldsTransfer
under-held ρ (Transfer.goto b x̄) t h = h
under-held ρ (Transfer.if e b c) t h = h
under-held ρ (Transfer.call g x̄ b) t h = h
under-held ρ (Transfer.return x̄) t h = h
under-held ρ (Transfer.spork b π) t h = opened-held ρ π t.1 h
under-held ρ (Transfer.spoin b c) t h = closed-held ρ h

-- a table can hold every mark
pub marks-held : (F : Function) → HoldsFunction F → (b : ℕ) (ρ : List ℕ) → get_or (marks F) b none ≡ some ρ → (length ρ ≤ 4) × Each Name ρ
marks-held F H =
    marks-keep (λ b ρ. Held ρ) F (omega arith, tt)
    (λ b ρ B h e.
    member-each (λ c. Held (under ρ B.transfer)) (targets B.transfer)
    (λ c m. under-held ρ B.transfer (each_at HoldsBlock F.blocks b H.blocks e).transfer h))

-- scopes and nestings that pass the rules
module _ (P : Program) (F : Function) (a : ℕ → Scoping) (holds : (b : ℕ) → b < length F.blocks → Holds (a b))
    (W : WF-fun P (filled a F)) where
  -- a target is there, and its nesting is what is asked of it
  cont-nesting : {Γ : ℕ} {ρ : List ℕ} {b r : ℕ} → WF-cont (env P (filled a F)) Γ ρ b r → (b < length F.blocks) × ((a b).nesting ≡ ρ)
  unfolding env put
  cont-nesting {b = b} k =
      let (C, e, d) = map-some head_of (get_elem? (filled a F).blocks b) k.there in
      let (B, f, g) = block-filled a F b C e in
      (at-below F.blocks b f, ap (λ (D : Block). D.head.nesting) g ∙ ap (λ (H : Head). H.nesting) d ∙ k.nests)

  -- that of a transfer's targets
  under-passing : (Γ : ℕ) (ρ : List ℕ) (T : Transfer) → WF-transfer (env P (filled a F)) Γ ρ T →
      Each (λ c. (a c).nesting ≡ under ρ T) (targets T)
  unfolding WF-transfer targets under
  under-passing Γ ρ (Transfer.goto b x̄) w = ((cont-nesting w.1).1, tt)
  under-passing Γ ρ (Transfer.if e b c) w = ((cont-nesting w.1).1, ((cont-nesting w.2).1, tt))
  under-passing Γ ρ (Transfer.call g x̄ b) w = ((cont-nesting w.1.1).1, tt)
  under-passing Γ ρ (Transfer.return x̄) w = tt
  under-passing Γ ρ (Transfer.spork b π) w =
      let (i, e) = cont-nesting w.1 in
      let l : length (a b).nesting ≡ length (ρ ++ (π ∷ [])) = ap (λ (l : List ℕ). length l) e in
      let s : length (ρ ++ (π ∷ [])) ≡ length ρ + 1 = length-append ρ (π ∷ []) in
      let f : length (a b).nesting ≤ 4 = (holds b i).few in
      (e ∙ sym (opened-few ρ π (omega arith)), tt)
  under-passing Γ ρ (Transfer.spoin b c) w =
      let I = w.0 in
      let s : I.front ≡ closed ρ = sym (ap closed I.is ∙ closed-last I.front I.last) in
      ((cont-nesting w.1).1 ∙ s, ((cont-nesting w.2).1 ∙ s, tt))

  -- where any pass, their nestings are the marks
  pub marks-passing : (b : ℕ) (ρ : List ℕ) → get_or (marks F) b none ≡ some ρ → (a b).nesting ≡ ρ
  unfolding put
  marks-passing =
      marks-keep (λ b ρ. (a b).nesting ≡ ρ) F
      (let (B, e, d) = block-filled a F 0 W.entry W.first in ap (λ (D : Block). D.head.nesting) d ∙ W.enters.nesting)
      (λ b ρ B e f.
      let w : WF-block (env P (filled a F)) (put (a b) B) =
      each_at (WF-block (env P (filled a F))) (filled a F).blocks b W.blocks (filled-block a F b B f) in
      let (Δ, t) = code-transfer (env P (filled a F)) _ (a b).nesting B.code B.transfer w.code in
      subst (λ (σ : List ℕ). Each (λ c. (a c).nesting ≡ under σ B.transfer) (targets B.transfer)) e
      (under-passing Δ (a b).nesting B.transfer t))

-- the lowest block without a mark, where numbers begin at k
none_from : (k : ℕ) (ms : List Mark) → unmarked k ms ≡ none → (b : ℕ) → b < length ms → Has ms b
unfolding unmarked
none_from k [] e b h = absurd (omega arith)
none_from k (none ∷ ms) e b h = none-some (sym e)
none_from k (some ρ ∷ ms) e zero h = (ρ, refl)
none_from k (some ρ ∷ ms) e (suc b) h = none_from (k + 1) ms e b (omega arith)

-- it is at this index, which has none, and every lower one has
record Lowest (k : ℕ) (ms : List Mark) (b : ℕ) : Type 0 where
  pub index : ℕ
  pub is : b ≡ k + index
  pub inside : index < length ms
  pub lacks : get_or ms index none ≡ none
  pub below : (c : ℕ) → c < index → Has ms c

some-from : (k : ℕ) (ms : List Mark) (b : ℕ) → unmarked k ms ≡ some b → Lowest k ms b
unfolding unmarked
some-from k [] b e = none-some e
some-from k (none ∷ ms) b e =
    record {
      index = 0;
      is = let p : k ≡ b = some-injective e in omega arith;
      inside = omega arith;
      lacks = refl;
      below = λ c h. absurd (omega arith);
    }
some-from k (some ρ ∷ ms) b e =
    let L : Lowest (k + 1) ms b = some-from (k + 1) ms b e in
    record {
      index = suc L.index;
      is = let p : b ≡ k + 1 + L.index = L.is in omega arith;
      inside = let p : L.index < length ms = L.inside in omega arith;
      lacks = L.lacks;
      below = below L;
    }
  where
    below : (L : Lowest (k + 1) ms b) (c : ℕ) → c < suc L.index → Has (some ρ ∷ ms) c
    below L zero h = (ρ, refl)
    below L (suc c) h = L.below c (omega arith)

pub unmarked-none : (ms : List Mark) → unmarked 0 ms ≡ none → (b : ℕ) → b < length ms → Has ms b
unmarked-none ms = none_from 0 ms

pub unmarked-some : (ms : List Mark) (b : ℕ) → unmarked 0 ms ≡ some b →
    (b < length ms) × (get_or ms b none ≡ none) × ((c : ℕ) → c < b → Has ms c)
unmarked-some ms b e =
    let L : Lowest 0 ms b = some-from 0 ms b e in
    let p : L.index ≡ b = let q : b ≡ 0 + L.index = L.is in omega arith in
    subst (λ (i : ℕ). (i < length ms) × (get_or ms i none ≡ none) × ((c : ℕ) → c < i → Has ms c)) p (L.inside, L.lacks, L.below)
