-- Working on a typed frame: its temporaries have values, it enters each block that it opens, and a callee begins typed.
use Prim.Native.Nat.{ℕ, suc}
use mathlib.Core.Path.{◌≡◌, refl, sym, ◌∙◌, ap, subst}
use mathlib.Core.Option.{some}
use mathlib.Core.List.{List, [], ◌∷◌}
use native.Mathlib.Omega.{arith}
use lib.IntN.{ℤ, pos}
use lib.ListN.{length, get_or, get_elem?}
use Rattle.model.specs.Lists.{Each}
use Rattle.model.specs.Values as Values
use Rattle.model.specs.Values.{Worked}
use Rattle.model.specs.Sets.{with_all, below, ◌∈◌}
use Rattle.model.specs.Syntax.{Atom, Expression, Head, Block, Signature, Function, Program, uses_atom, uses}
use Rattle.model.specs.WellFormed.{env, head_of, signature_of, Callee, WF-cont, WF-block, WF-fun, WF-prog}
use Rattle.model.specs.Pool.{Frame, begin, function_of, block_in, block_of}
use Rattle.model.specs.Frames.{when, look, look_all, eval_atom, eval, bind, bind_all, go_to, entering, enter, callee}
use Rattle.model.proofs.Facts.{map-some, each_at, each_left, each_right, eq-eqb}
use Rattle.model.proofs.Sets.{Part, part-refl, part-trans, part-within, part-with_all, part-all}
use Rattle.safety.proofs.Typing.{Opens, Runs, owed, own}

-- the values of bound temporaries
abbrev Bound : Frame → List ℕ → Type 0
Bound k x̄ = Each (λ x. x ∈ k.bound) x̄

pub look-bound : (k : Frame) (x : ℕ) → x ∈ k.bound → look k x ≡ some (get_or k.values x (pos 0))
unfolding look when
look-bound k x h = rw h

pub record Looked (k : Frame) (x̄ : List ℕ) : Type 0 where
  pub values : List ℤ
  pub is : look_all k x̄ ≡ some values
  pub many : length values ≡ length x̄

pub looked : (k : Frame) (x̄ : List ℕ) → Bound k x̄ → Looked k x̄
unfolding look_all
looked k [] h = record { values = []; is = refl; many = refl }
looked k (x ∷ x̄) h =
    let r = looked k x̄ h.1 in
    record {
      values = get_or k.values x (pos 0) ∷ r.values;
      is = rw (look-bound k x h.0, r.is);
      many = ap suc r.many;
    }

pub atom-bound : (k : Frame) (m : Atom) → Bound k (uses_atom m) → (v : ℤ) × (eval_atom k m ≡ some v)
unfolding uses_atom eval_atom
atom-bound k (Atom.value v) h = (v, refl)
atom-bound k (Atom.temporary x) h = (get_or k.values x (pos 0), look-bound k x h.0)

pub eval-bound : (k : Frame) (e : Expression) → Bound k (uses e) → (w : Worked) × (eval k e ≡ some w)
unfolding uses eval
eval-bound k (Expression.atom m) h =
    let r = atom-bound k m h in
    (Worked.value r.0, rw r.1)
eval-bound k (Expression.minus m) h =
    let r = atom-bound k m h in
    (Values.minus r.0, rw r.1)
eval-bound k (Expression.plus m n) h =
    let r = atom-bound k m (each_left _ (uses_atom m) (uses_atom n) h) in
    let s = atom-bound k n (each_right _ (uses_atom m) (uses_atom n) h) in
    (Values.plus r.0 s.0, rw (r.1, s.1))
eval-bound k (Expression.less m n) h =
    let r = atom-bound k m (each_left _ (uses_atom m) (uses_atom n) h) in
    let s = atom-bound k n (each_right _ (uses_atom m) (uses_atom n) h) in
    (Worked.value (Values.less r.0 s.0), rw (r.1, s.1))

-- the frame somewhere else in its function, with other temporaries
abbrev pub moved : Frame → ℕ → ℕ → ℕ → List ℤ → Frame
moved k b n Γ v̄ =
    record {
      function = k.function;
      block = b;
      done = n;
      bound = Γ;
      calls = k.calls;
      promoted = k.promoted;
      values = v̄;
    }

bound_all : (k : Frame) (ȳ : List ℕ) (v̄ : List ℤ) → length ȳ ≡ length v̄ →
    (w̄ : List ℤ) × (bind_all k ȳ v̄ ≡ moved k k.block k.done (with_all k.bound ȳ) w̄)
unfolding bind_all bind with_all
bound_all k [] v̄ e = (k.values, refl)
bound_all k (y ∷ ȳ) [] e = absurd (omega (arith, e))
bound_all k (y ∷ ȳ) (v ∷ v̄) e = bound_all (bind k y v) ȳ v̄ (omega (arith, e))

-- what a frame opens it opens with more bound, and wherever it stands
abbrev pub reopen : {P : Program} {F : Function} {k : Frame} {b r : ℕ} (k' : Frame) → k.function ≡ k'.function →
    k.calls ≡ k'.calls → Part k.bound k'.bound → Opens P F k b r → Opens P F k' b r
reopen k' f c p o =
    record {
      function = rw (← f) o.function;
      block = o.block;
      there = o.there;
      takes = o.takes;
      nests = o.nests ∙ c;
      scoped = part-trans o.scoped p;
    }

-- a target of a transfer is open to the frame
pub cont-opens : {P : Program} {F : Function} {Γ b r : ℕ} {ρ : List ℕ} (k : Frame) → get_elem? P k.function ≡ some F →
    Part Γ k.bound → ρ ≡ k.calls → WF-cont (env P F) Γ ρ b r → Opens P F k b r
unfolding env
cont-opens {P} {F} {Γ} {b} k f p e c =
    let B = map-some head_of (get_elem? F.blocks b) c.there in
    record {
      function = f;
      block = B.0;
      there = B.1;
      takes = ap (λ (H : Head). length H.parameters) B.2 ∙ c.takes;
      nests = ap (λ (H : Head). H.nesting) B.2 ∙ c.nests ∙ e;
      scoped = part-trans (subst (λ (H : Head). Part H.scope Γ) (sym B.2) (part-within c.scoped)) p;
    }

pub block-of : (P : Program) {F : Function} {B : Block} (k : Frame) (b : ℕ) → get_elem? P k.function ≡ some F →
    get_elem? F.blocks b ≡ some B → block_of P k b ≡ some B
unfolding block_of block_in function_of
block-of P k b f e = rw f e

module _ {P : Program} (W : WF-prog P) where
  pub wf-fun : {F : Function} (g : ℕ) → get_elem? P g ≡ some F → WF-fun P F
  wf-fun g e = each_at (WF-fun P) P g W.functions e

  pub wf-block : {F : Function} {B : Block} (g b : ℕ) → get_elem? P g ≡ some F → get_elem? F.blocks b ≡ some B →
      WF-block (env P F) B
  wf-block {F} g b f e = each_at (WF-block (env P F)) F.blocks b (wf-fun g f).blocks e

  -- a frame at the head of a block that it opens, with the block's parameters bound
  at_head : {F : Function} {k : Frame} {r : ℕ} (o : Opens P F k k.block r) → k.done ≡ 0 →
      Part (with_all o.block.head.scope o.block.head.parameters) k.bound → Runs P F k
  at_head {F} {k} {r} o d p =
      let B = o.block in
      let Γ = with_all B.head.scope B.head.parameters in
      let w = wf-block k.function k.block o.function o.there in
      record {
        takes = r;
        opens = o;
        scope = Γ;
        bound = p;
        within = part-all B.head.scope B.head.parameters;
        code = rw (d, ← o.nests) w.code;
      }

  pub record Entered (F : Function) (k : Frame) (b : ℕ) (v̄ : List ℤ) : Type 0 where
    pub bound : ℕ
    pub values : List ℤ
    pub is : enter P k b v̄ ≡ some (moved k b 0 bound values)
    pub runs : Runs P F (moved k b 0 bound values)

  pub enters : {F : Function} {k : Frame} {b r : ℕ} (v̄ : List ℤ) → Opens P F k b r → length v̄ ≡ r → Entered F k b v̄
  unfolding enter entering when go_to
  enters {F} {k} {b} {r} v̄ o e =
      let x̄ = o.block.head.parameters in
      let n : length x̄ ≡ length v̄ = o.takes ∙ sym e in
      let w = bound_all (go_to k b 0) x̄ v̄ n in
      let o' : Opens P F (moved k b 0 (with_all k.bound x̄) w.0) b r =
      reopen _ refl refl (part-all k.bound x̄) o in
      record {
        bound = with_all k.bound x̄;
        values = w.0;
        is = rw (block-of P k b o.function o.there, eq-eqb _ _ n, w.1);
        runs = at_head o' refl (part-with_all x̄ o.scoped);
      }

  -- a callee's first frame
  pub record Begun (G : Function) (g : ℕ) (v̄ : List ℤ) : Type 0 where
    pub is : callee P g v̄ ≡ some (begin g v̄)
    pub runs : Runs P G (begin g v̄)
    pub owes : own P (begin g v̄) ≡ []

  pub begins : {G : Function} (g : ℕ) (v̄ : List ℤ) → get_elem? P g ≡ some G → length v̄ ≡ G.signature.parameters → Begun G g v̄
  unfolding callee when begin owed with_all
  begins {G} g v̄ e n =
      let f = wf-fun g e in
      let s : f.entry.head.scope ≡ below (length v̄) = f.enters.scope ∙ ap below (sym n) in
      let o : Opens P G (begin g v̄) 0 0 =
      record {
        function = e;
        block = f.entry;
        there = f.first;
        takes = ap length f.enters.parameters;
        nests = f.enters.nesting;
        scoped = rw s (part-refl _);
      }
      in
      record {
        is = rw (e, eq-eqb _ _ (sym n));
        runs = at_head o refl (rw f.enters.parameters (rw s (part-refl _)));
        owes = refl;
      }

  -- the callee of a rule, which has this signature
  pub record AsCallee (S : Signature) (g : ℕ) (v̄ : List ℤ) : Type 0 where
    pub function : Function
    pub there : get_elem? P g ≡ some function
    pub signed : function.signature ≡ S
    pub begun : Begun function g v̄

  pub callee-begins : (F : Function) {g n : ℕ} (v̄ : List ℤ) (C : Callee (env P F) g n) → length v̄ ≡ n →
      AsCallee C.signature g v̄
  unfolding env
  callee-begins F {g} v̄ C e =
      let G = map-some signature_of (get_elem? P g) C.there in
      let n : length v̄ ≡ G.0.signature.parameters = e ∙ C.takes ∙ ap (λ (S : Signature). S.parameters) (sym G.2) in
      record { function = G.0; there = G.1; signed = G.2; begun = begins g v̄ G.1 n }
