-- Lists of a thread and of its children: what is put, and which trees are left.
use Prim.Native.Nat.{ℕ, zero, suc, ◌+◌, ◌-◌, ◌<◌, ◌≤◌}
use native.Mathlib.Omega.{arith}
use mathlib.Core.Path.{◌≡◌, refl, sym, ap, subst, ◌∙◌}
use mathlib.Core.Bool.{Bool, true, false}
use mathlib.Core.Option.{some}
use mathlib.Core.List.{List, ◌∷◌, ◌++◌}
use lib.Dec.{leb}
use lib.IntN.{ℤ}
use lib.ListN.{length, length-append, get_elem?, drop}
use Rattle.model.specs.Lists.{Each}
use Rattle.model.specs.Pool.{Thread, Pool, frames, children}
use Rattle.model.proofs.Facts.{each_right, at_second, leb-true, leb-false}
use Rattle.pool.specs.Frame.{Small}
use Rattle.pool.specs.Held.{Held, ThreadAt}
use Rattle.pool.specs.Edits.{threads_in}
use Rattle.pool.proofs.Pools.{Split, split}
use Rattle.pool.proofs.Steps.{threads-counted}
use Rattle.puts.specs.Puts.{Puts}
use Rattle.puts.proofs.Laws.{none, then, same}
use Rattle.views.specs.Lines.{line}
use Rattle.views.specs.Listing.{Tree, Forest, first, behind, grown, thread_lines, child_lines}
use Rattle.views.proofs.Grown.{grown-there, grown-past}
use Rattle.listing.specs.declared.Viewer.{Viewer}
use Rattle.listing.specs.declared.Listed.{Listed}
use Rattle.listing.specs.Shown.{viewer_of, Holds, IsThread, CountsChildren, PutsLine, ListsThread, ListsChildren}

-- thread i of a pool that the words hold
module _ {ws : List ℤ} {p : Pool} (h : Holds ws p) where
  split-held : {i : ℕ} (s : Split p i) → ThreadAt ws i s.before s.item s.behind
  split-held s = record { held = subst (Held ws) s.is h.held; place = s.place }

  split-thread : {i : ℕ} (s : Split p i) → IsThread ws i s.item
  split-thread s =
      record {
        before = s.before;
        behind = s.behind;
        thread = split-held s;
        small = (each_right (λ t. Each Small (frames t)) s.before (s.item ∷ s.behind)
            (subst (Each (λ t. Each Small (frames t))) s.is h.small)).0;
      }

  split_at : {i : ℕ} (s : Split p i) → get_elem? p i ≡ some s.item
  split_at {i} s =
      let n : i ≡ length s.before + 0 = omega (arith, s.place) in
      ap (λ (l : Pool). get_elem? l i) s.is
      ∙ ap (get_elem? (s.before ++ s.item ∷ s.behind)) n
      ∙ at_second s.before (s.item ∷ s.behind) 0

  pub counted : threads_in ws ≡ length p
  counted =
      let s = split p 0 h.some in
      omega (arith, threads-counted (split-held s), ap length s.is, length-append s.before (s.item ∷ s.behind))

  -- the first of the trees from thread i on
  pub record There (i : ℕ) : Type 0 where
    pub thread : Thread
    pub known : IsThread ws i thread
    pub grows :
        let n = children (frames thread) in
        let g = grown (i + 1) (drop (i + 1) p) in
        grown i (drop i p) ≡ Forest.more (Tree.node i thread (first n g)) (behind n g)

  pub there : (i : ℕ) → i < length p → There i
  there i l = let s = split p i l in record { thread = s.item; known = split-thread s; grows = grown-there i p (split_at s) }

-- a forest that has a tree has its own, and is not none
no-tree : {A : Type 0} {T : Tree} {f : Forest} → Forest.none ≡ Forest.more T f → A
no-tree e = let z : ◌≡◌ {A = ℕ} 0 1 = cc in absurd (omega arith)

same-trees : {T S : Tree} {f g : Forest} → Forest.more T f ≡ Forest.more S g → (T ≡ S) × (f ≡ g)
same-trees e = (cc, cc)

-- where no tree is left
first-none : (n : ℕ) → first n Forest.none ≡ Forest.none
unfolding first
first-none zero = refl
first-none (suc n) = refl

behind-none : (n : ℕ) → behind n Forest.none ≡ Forest.none
unfolding behind
behind-none zero = refl
behind-none (suc n) = refl

-- the children of a thread: none, none that is there, and one more
module _ (who : Viewer) (ws : List ℤ) (i d : ℕ) {out : List ℕ} {at : ℕ} where
  pub no-child : {n : ℕ} → n ≡ 0 → ListsChildren who ws i n d out at (record { at = at; next = i }) out
  unfolding first behind thread_lines
  no-child e p h = rw e (none, refl)

  pub past_all : (n : ℕ) {m : ℕ} → m ≡ threads_in ws → m ≤ i → ListsChildren who ws i n d out at (record { at = at; next = i }) out
  unfolding thread_lines
  past_all n e l p h =
      let g : grown i (drop i p) ≡ Forest.none = grown-past i p (omega (arith, counted h)) in
      rw (g, first-none n, behind-none n) (none, refl)

  -- with the trees that are there
  grown-child : (n : ℕ) {k r : ℕ} {out₁ out₂ : List ℕ} (T : Tree) (f g b : Forest)
      → Puts out at (thread_lines T (viewer_of who) d) k out₁ → g ≡ f
      → Puts out₁ k (child_lines (first n g) (viewer_of who) d) r out₂ → b ≡ behind n g
      → Puts out at (child_lines (first (suc n) (Forest.more T f)) (viewer_of who) d) r out₂ × (b ≡ behind (suc n) (Forest.more T f))
  unfolding first behind thread_lines
  grown-child n T f g b x e y z = (then x (rw e at y), rw e at z)

  pub one-child : (n : ℕ) {m : ℕ} (l r : Listed) {out₁ out₂ : List ℕ} → ¬ n ≡ 0 → m ≡ threads_in ws → i < m
      → ListsThread who ws i d out at l out₁ → ListsChildren who ws l.next (n - 1) d out₁ l.at r out₂
      → ListsChildren who ws i n d out at r out₂
  one-child zero l r z e k L C p h = absurd (z refl)
  one-child (suc n) l r {out₁} {out₂} z e k L C p h =
      let t = there h i (omega (arith, counted h)) in
      let x = L p h _ _ t.grows in
      let m : suc n - 1 ≡ n = omega arith in
      let y = subst (λ (j : ℕ). ListsChildren who ws l.next j d out₁ l.at r out₂) m C p h in
      rw t.grows (grown-child n _ _ _ _ x.0 x.1 y.0 y.1)

-- a thread: its line, and then those of its children
module _ (who : Viewer) (ws : List ℤ) (i d : ℕ) {out : List ℕ} {at : ℕ} where
  grown-thread : {k r : ℕ} {out₁ out₂ : List ℕ} (t : Thread) (c : Forest) → Puts out at (line (viewer_of who) d i t) k out₁
      → Puts out₁ k (child_lines c (viewer_of who) (d + 1)) r out₂ → Puts out at (thread_lines (Tree.node i t c) (viewer_of who) d) r out₂
  unfolding thread_lines
  grown-thread t c x y = then x y

  pub one-thread : {k n : ℕ} (r : Listed) {out₁ out₂ : List ℕ} → PutsLine who ws i d out at k out₁ → CountsChildren ws i n
      → ListsChildren who ws (i + 1) n (d + 1) out₁ k r out₂ → ListsThread who ws i d out at r out₂
  one-thread {k} {n} r {out₁} {out₂} a c C p h T f e = go (leb (length p) i) refl
    where
      go : (b : Bool) → leb (length p) i ≡ b → Puts out at (thread_lines T (viewer_of who) d) r.at out₂ × (grown r.next (drop r.next p) ≡ f)
      go true l = no-tree (sym (grown-past i p (leb-true _ _ l)) ∙ e)
      go false l =
          let t = there h i (leb-false _ _ l) in
          let m : n ≡ children (frames t.thread) = c t.thread t.known in
          let x = grown-thread t.thread _ (a t.thread t.known) (C p h).0 in
          let g : Forest = grown (i + 1) (drop (i + 1) p) in
          let z = same-trees (sym t.grows ∙ e) in (
            same x (ap (λ (S : Tree). thread_lines S (viewer_of who) d) (ap (λ (j : ℕ). Tree.node i t.thread (first j g)) m ∙ z.0)),
            (C p h).1 ∙ ap (λ (j : ℕ). behind j g) m ∙ z.1,
          )
