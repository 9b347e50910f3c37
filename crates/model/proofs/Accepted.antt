-- The check accepts exactly the well-formed programs of figure 4: for each part of a program the tests' facts are the rule's
-- premises, both ways.
use Prim.Native.Nat.{ℕ, ◌+◌}
use mathlib.Core.Path.{◌≡◌, refl, ap}
use mathlib.Core.Bool.{true, not, ◌&&◌, ◌||◌}
use mathlib.Core.Option.{Option, none, some}
use mathlib.Core.List.{List, [], ◌∷◌, ◌++◌}
use native.Mathlib.Omega.{arith}
use lib.Dec.{eqb}
use lib.ListN.{get_elem?}
use Rattle.model.specs.Answers as Answers
use Rattle.model.specs.Answers.{Refusal, Answer}
use Rattle.model.specs.Lists.{Each, equal, unsnoc}
use Rattle.model.specs.Sets.{has, with, below, ◌∈◌}
use Rattle.model.specs.Syntax.{Statement, Transfer, Head, Block, SpawnCall, Function, Program}
use Rattle.model.specs.Tests.{Tests, fault}
use Rattle.model.specs.WellFormed.{Env, env, WF-cont, WF-transfer, WF-code, Fresh, Nested, WF-block, WF-spawn, WF-entry, WF-fun}
use Rattle.model.specs.WellFormed.{WF-prog}
use Rattle.model.specs.Check as Check
use Rattle.model.specs.Check.{Placed, at, first_fault, judge}
use Rattle.model.specs.Calls.{read, check, accepted}
use Rattle.model.specs.Limits.{InFunction, Limits}
use Rattle.model.proofs.Facts.{eqb-true, eq-eqb, ne_eqb, not-true, false-not, and_left, and_right, both-and, left_or, right_or}
use Rattle.model.proofs.Facts.{all-each, each_all, each_map, equal-same, same-equal, unsnoc-some, unsnoc-snoc, below_at}
use Rattle.model.proofs.Facts.{refused-given, none-some, some-injective}
use Rattle.model.proofs.Holds.{Holds, sound, complete}
use Rattle.model.proofs.Guarantees.{read-limits}

-- a target: there, and its three facts as tests
cont : {E : Env} {Γ : ℕ} {ρ : List ℕ} {b r : ℕ} (H : Head) → E.block b ≡ some H → Holds (Check.takes H r) → Holds (Check.nests H ρ)
    → Holds (Check.scoped H Γ) → WF-cont E Γ ρ b r
unfolding Check.takes Check.nests Check.scoped
cont H e t n s = record { head = H; there = e; takes = eqb-true _ _ t; nests = equal-same _ _ n; scoped = s }

module _ {E : Env} {Γ : ℕ} {ρ : List ℕ} {b r : ℕ} (K : WF-cont E Γ ρ b r) where
  takes : Holds (Check.takes K.head r)
  unfolding Check.takes
  takes = eq-eqb _ _ K.takes

  nests : Holds (Check.nests K.head ρ)
  unfolding Check.nests
  nests = same-equal _ _ K.nests

  scoped : Holds (Check.scoped K.head Γ)
  unfolding Check.scoped
  scoped = K.scoped

bound : (Γ : ℕ) (x̄ : List ℕ) → Holds (Check.bound Γ x̄) → Each (λ x. x ∈ Γ) x̄
unfolding Check.bound
bound Γ x̄ h = all-each (has Γ) x̄ h

bound-back : (Γ : ℕ) (x̄ : List ℕ) → Each (λ x. x ∈ Γ) x̄ → Holds (Check.bound Γ x̄)
unfolding Check.bound
bound-back Γ x̄ h = each_all (has Γ) x̄ h

-- transfers
pub transfer : (E : Env) (Γ : ℕ) (ρ : List ℕ) (T : Transfer) → Holds (Check.transfer E Γ ρ T) → WF-transfer E Γ ρ T
unfolding Check.transfer WF-transfer
transfer E Γ ρ (Transfer.goto b x̄) h =
    let (B, there, (t, (n, s))) = h.1 in
    (bound Γ x̄ h.0, cont B there t n s)
transfer E Γ ρ (Transfer.if e b c) h =
    let (B, there_b, (C, there_c, (t_b, (t_c, (n_b, (n_c, (s_b, s_c))))))) = h.1 in
    (bound Γ _ h.0, cont B there_b t_b n_b s_b, cont C there_c t_c n_c s_c)
transfer E Γ ρ (Transfer.call g x̄ b) h =
    let (G, there_g, (B, there, (count, (t, (n, s))))) = h.1 in
    (bound Γ x̄ h.0, (record { signature = G; there = there_g; takes = eqb-true _ _ count }, cont B there t n s))
transfer E Γ ρ (Transfer.return x̄) h = (bound Γ x̄ h.0, eqb-true _ _ h.1.0, equal-same _ _ h.1.1)
transfer E Γ ρ (Transfer.spork b π) h =
    let (B, there, (S, there_s, (t, (n, s)))) = h in
    (record { call = S; there = there_s }, cont B there t n s)
transfer E Γ ρ (Transfer.spoin b c) h =
    let (B, there_b, (C, there_c, (I, is, (S, there_s, (G, there_g, (t_b, (t_c, (n_b, (n_c, (s_b, s_c)))))))))) = h in (
      record {
        front = I.front;
        last = I.last;
        is = unsnoc-some ρ I is;
        spawned = record { call = S; there = there_s };
        callee = G;
        there = there_g;
      },
      cont B there_b t_b n_b s_b,
      cont C there_c t_c n_c s_c,
    )

pub transfer-back : (E : Env) (Γ : ℕ) (ρ : List ℕ) (T : Transfer) → WF-transfer E Γ ρ T → Holds (Check.transfer E Γ ρ T)
unfolding Check.transfer WF-transfer
transfer-back E Γ ρ (Transfer.goto b x̄) (h, B) = (bound-back Γ x̄ h, (B.head, B.there, (takes B, (nests B, scoped B))))
transfer-back E Γ ρ (Transfer.if e b c) (h, B, C) =
    (bound-back Γ _ h, (B.head, B.there, (C.head, C.there, (takes B, (takes C, (nests B, (nests C, (scoped B, scoped C))))))))
transfer-back E Γ ρ (Transfer.call g x̄ b) (h, (G, B)) =
    (bound-back Γ x̄ h, (G.signature, G.there, (B.head, B.there, (eq-eqb _ _ G.takes, (takes B, (nests B, scoped B))))))
transfer-back E Γ ρ (Transfer.return x̄) (h, r, n) = (bound-back Γ x̄ h, (eq-eqb _ _ r, same-equal _ _ n))
transfer-back E Γ ρ (Transfer.spork b π) (S, B) = (B.head, B.there, (S.call, S.there, (takes B, (nests B, scoped B))))
transfer-back E Γ ρ (Transfer.spoin b c) (I, B, C) =
    let is : unsnoc ρ ≡ some (record { front = I.front; last = I.last }) = rw I.is (unsnoc-snoc I.front I.last) in (
      B.head,
      B.there,
      (
        C.head,
        C.there,
        (
          record { front = I.front; last = I.last },
          is,
          (I.spawned.call, I.spawned.there, (I.callee, I.there, (takes B, (takes C, (nests B, (nests C, (scoped B, scoped C))))))),
        ),
      ),
    )

-- statements, and then the transfer
pub code : (E : Env) (Γ : ℕ) (ρ : List ℕ) (C : List Statement) (T : Transfer) → Holds (Check.code E Γ ρ C T) → WF-code E Γ ρ C T
unfolding Check.code WF-code
code E Γ ρ [] T h = transfer E Γ ρ T h
code E Γ ρ (s ∷ C) T (b, (n, h)) = (bound Γ _ b, not-true _ n, code E (with Γ s.target) ρ C T h)

pub code-back : (E : Env) (Γ : ℕ) (ρ : List ℕ) (C : List Statement) (T : Transfer) → WF-code E Γ ρ C T → Holds (Check.code E Γ ρ C T)
unfolding Check.code WF-code
code-back E Γ ρ [] T h = transfer-back E Γ ρ T h
code-back E Γ ρ (s ∷ C) T (b, n, h) = (bound-back Γ _ b, (false-not _ n, code-back E (with Γ s.target) ρ C T h))

-- a block's head
pub fresh : (Γ : ℕ) (x̄ : List ℕ) → Holds (Check.fresh Γ x̄) → Fresh Γ x̄
unfolding Check.fresh Fresh
fresh Γ [] h = tt
fresh Γ (x ∷ x̄) (n, h) = (not-true _ n, fresh (with Γ x) x̄ h)

pub fresh-back : (Γ : ℕ) (x̄ : List ℕ) → Fresh Γ x̄ → Holds (Check.fresh Γ x̄)
unfolding Check.fresh Fresh
fresh-back Γ [] h = tt
fresh-back Γ (x ∷ x̄) (n, h) = (false-not _ n, fresh-back (with Γ x) x̄ h)

pub nested : (E : Env) (Γ π : ℕ) → Holds (Check.nested E Γ π) → Nested E Γ π
unfolding Check.nested
nested E Γ π (S, there, h) = record { spawned = record { call = S; there = there }; bound = all-each (has Γ) _ h }

pub nested-back : (E : Env) (Γ π : ℕ) → Nested E Γ π → Holds (Check.nested E Γ π)
unfolding Check.nested
nested-back E Γ π N = (N.spawned.call, N.spawned.there, each_all (has Γ) _ N.bound)

pub entry : (n : ℕ) (H : Head) → Check.is_entry n H ≡ true → WF-entry n H
unfolding Check.is_entry
entry n H e =
    record {
      parameters = equal-same _ _ (and_left _ (eqb H.scope (below n)) (and_left _ (equal H.nesting []) e));
      scope = eqb-true _ _ (and_right (equal H.parameters []) _ (and_left _ (equal H.nesting []) e));
      nesting = equal-same _ _ (and_right (equal H.parameters [] && eqb H.scope (below n)) _ e);
    }

pub entry-back : (n : ℕ) (H : Head) → WF-entry n H → Check.is_entry n H ≡ true
unfolding Check.is_entry
entry-back n H h =
    both-and (equal H.parameters [] && eqb H.scope (below n)) _
    (both-and (equal H.parameters []) _ (same-equal _ _ h.parameters) (eq-eqb _ _ h.scope))
    (same-equal _ _ h.nesting)

-- a block; the entry's facts are asked of block 0 only
pub block : (E : Env) (b : ℕ) (B : Block) → Holds (Check.block E b B) → WF-block E B
unfolding Check.block
block E b B (_, (f, (n, c))) = record {
  fresh = fresh _ _ f;
  nested = each_map (nested E B.head.scope) B.head.nesting n;
  code = code E _ _ _ _ c;
}

pub block_back : (E : Env) (b : ℕ) (B : Block) → (not (eqb b 0) || Check.is_entry E.own.parameters B.head) ≡ true → WF-block E B
    → Holds (Check.block E b B)
unfolding Check.block
block_back E b B e h = (
  e,
  (
    fresh-back _ _ h.fresh,
    (each_map (nested-back E B.head.scope) B.head.nesting h.nested, code-back E _ _ _ _ h.code),
  ),
)

pub spawn : (E : Env) (S : SpawnCall) → Holds (Check.spawn E S) → WF-spawn E S
unfolding Check.spawn
spawn E S (G, there, h) = record { signature = G; there = there; takes = eqb-true _ _ h }

pub spawn-back : (E : Env) (S : SpawnCall) → WF-spawn E S → Holds (Check.spawn E S)
unfolding Check.spawn
spawn-back E S h = (h.signature, h.there, eq-eqb _ _ h.takes)

-- tests with their places: none fails exactly where all hold
abbrev AllHold : List Placed → Type 0
AllHold [] = Unit {0}
AllHold (p ∷ ps) = Holds p.tests × AllHold ps

hold-left : (ps qs : List Placed) → AllHold (ps ++ qs) → AllHold ps
hold-left [] qs h = tt
hold-left (p ∷ ps) qs (h, hs) = (h, hold-left ps qs hs)

hold-right : (ps qs : List Placed) → AllHold (ps ++ qs) → AllHold qs
hold-right [] qs h = h
hold-right (p ∷ ps) qs (h, hs) = hold-right ps qs hs

hold-append : (ps qs : List Placed) → AllHold ps → AllHold qs → AllHold (ps ++ qs)
hold-append [] qs h g = g
hold-append (p ∷ ps) qs (h, hs) g = (h, hold-append ps qs hs g)

first-sound : (ps : List Placed) → first_fault ps ≡ Answer.given tt → AllHold ps
unfolding first_fault at
first-sound [] e = tt
first-sound (p ∷ ps) e = go (fault p.tests) refl e (first-sound ps)
  where
    go : (o : Option ℕ) → fault p.tests ≡ o → at p o (first_fault ps) ≡ Answer.given tt → (first_fault ps ≡ Answer.given tt → AllHold ps)
        → Holds p.tests × AllHold ps
    go none q e ih = (sound p.tests q, ih e)
    go (some n) q e ih = refused-given e

first-complete : (ps : List Placed) → AllHold ps → first_fault ps ≡ Answer.given tt
unfolding first_fault at
first-complete [] h = refl
first-complete (p ∷ ps) (h, hs) = rw (complete p.tests h) (first-complete ps hs)

-- a function's blocks from block b on, and all of them
blocks : (E : Env) (f b : ℕ) (B̄ : List Block) → AllHold (Check.of_blocks E f b B̄) → Each (WF-block E) B̄
unfolding Check.of_blocks
blocks E f b [] h = tt
blocks E f b (B ∷ B̄) (h, hs) = (block E b B h, blocks E f (b + 1) B̄ hs)

first_entry : (E : Env) (f : ℕ) (B̄ : List Block) (B : Block) → get_elem? B̄ 0 ≡ some B → AllHold (Check.of_blocks E f 0 B̄)
    → WF-entry E.own.parameters B.head
unfolding Check.of_blocks Check.block
first_entry E f [] B e h = none-some e
first_entry E f (C ∷ B̄) B e ((h, _), hs) = entry _ _ (rw (some-injective e) at h)

later : (E : Env) (f b : ℕ) (B̄ : List Block) → Each (WF-block E) B̄ → AllHold (Check.of_blocks E f (b + 1) B̄)
unfolding Check.of_blocks
later E f b [] h = tt
later E f b (B ∷ B̄) (h, hs) =
    (block_back E (b + 1) B (left_or _ _ (false-not _ (ne_eqb (b + 1) 0 (λ e. omega arith)))) h, later E f (b + 1) B̄ hs)

blocks-back : (E : Env) (f : ℕ) (B̄ : List Block) (B : Block) → get_elem? B̄ 0 ≡ some B → WF-entry E.own.parameters B.head
    → Each (WF-block E) B̄ → AllHold (Check.of_blocks E f 0 B̄)
unfolding Check.of_blocks
blocks-back E f [] B e n h = tt
blocks-back E f (C ∷ B̄) B e n (h, hs) =
    let i : Check.is_entry E.own.parameters C.head ≡ true = rw (some-injective e) (entry-back _ _ n) in
    (block_back E 0 C (right_or (not (eqb 0 0)) _ i) h, later E f 0 B̄ hs)

-- the tests of function f: none fails exactly where it is well formed
abbrev pub of_function : Program → ℕ → Function → List Placed
of_function P f F =
    record { function = f; block = Check.nowhere; tests = Tests.each (Check.spawn (env P F)) F.spawns } ∷
    Check.of_blocks (env P F) f 0 F.blocks

function-wf : (P : Program) (f : ℕ) (F : Function) → InFunction F → AllHold (of_function P f F) → WF-fun P F
unfolding env
function-wf P f F l (s, bs) =
    let (B, first) = below_at F.blocks 0 l.some_block in
    record {
      spawns = each_map (spawn (env P F)) F.spawns s;
      entry = B;
      first = first;
      enters = first_entry (env P F) f F.blocks B first bs;
      blocks = blocks (env P F) f 0 F.blocks bs;
    }

wf-function : (P : Program) (f : ℕ) (F : Function) → WF-fun P F → AllHold (of_function P f F)
unfolding env
wf-function P f F w = (
  each_map (spawn-back (env P F)) F.spawns w.spawns,
  blocks-back (env P F) f F.blocks w.entry w.first w.enters w.blocks,
)

pub function-accepted : (P : Program) (f : ℕ) (F : Function) → InFunction F → first_fault (of_function P f F) ≡ Answer.given tt → WF-fun P F
function-accepted P f F l e = function-wf P f F l (first-sound (of_function P f F) e)

pub accepted-function : (P : Program) (f : ℕ) (F : Function) → WF-fun P F → first_fault (of_function P f F) ≡ Answer.given tt
accepted-function P f F w = first-complete (of_function P f F) (wf-function P f F w)

functions : (P : Program) (f : ℕ) (F̄ : List Function) → Each InFunction F̄ → AllHold (Check.of_functions P f F̄) → Each (WF-fun P) F̄
unfolding Check.of_functions
functions P f [] l h = tt
functions P f (F ∷ F̄) (l, ls) h = (
  function-wf P f F l (hold-left (of_function P f F) (Check.of_functions P (f + 1) F̄) h),
  functions P (f + 1) F̄ ls (hold-right (of_function P f F) (Check.of_functions P (f + 1) F̄) h),
)

functions-back : (P : Program) (f : ℕ) (F̄ : List Function) → Each (WF-fun P) F̄ → AllHold (Check.of_functions P f F̄)
unfolding Check.of_functions
functions-back P f [] h = tt
functions-back P f (F ∷ F̄) (w, ws) =
    hold-append (of_function P f F) (Check.of_functions P (f + 1) F̄) (wf-function P f F w) (functions-back P (f + 1) F̄ ws)

-- a program, and a table
pub accepted-wf : (P : Program) → Limits P → judge P ≡ Answer.given tt → WF-prog P
unfolding judge Check.tests Check.of_main
accepted-wf P L e =
    let (m, h) = first-sound (Check.tests P) e in
    let (F, first) = below_at P 0 L.some in
    record { main = F; first = first; starts = eqb-true _ _ (rw first at m); functions = functions P 0 P L.functions h }

pub wf-accepted : (P : Program) → WF-prog P → judge P ≡ Answer.given tt
unfolding judge Check.tests Check.of_main
wf-accepted P W = first-complete (Check.tests P) (rw W.first (eq-eqb _ _ W.starts), functions-back P 0 P W.functions)

pub check-wf : (s : List ℕ) → check s ≡ Answer.given tt → (P : Program) × (read s ≡ Answer.given P) × WF-prog P
unfolding check Answers.with
check-wf s e = go (read s) refl e
  where
    go : (a : Answer Program) → read s ≡ a → Answers.with a judge ≡ Answer.given tt → (P : Program) × (read s ≡ Answer.given P) × WF-prog P
    go (Answer.given P) q e = (P, q, accepted-wf P (read-limits s P q) e)
    go (Answer.refused r) q e = refused-given e

pub wf-check : (s : List ℕ) (P : Program) → read s ≡ Answer.given P → WF-prog P → check s ≡ Answer.given tt
unfolding check Answers.with
wf-check s P e W = rw e (wf-accepted P W)

-- the program of a table that the check accepts
pub record Accepts (t : List ℕ) : Type 0 where
  pub program : Program
  pub reads : read t ≡ Answer.given program
  pub is : accepted t ≡ Answer.given program

pub accepts : (t : List ℕ) → check t ≡ Answer.given tt → Accepts t
unfolding check accepted Answers.with
accepts t e = go (read t) refl e
  where
    go : (a : Answer Program) → read t ≡ a → Answers.with a judge ≡ Answer.given tt → Accepts t
    go (Answer.given P) q j = record { program = P; reads = q; is = rw (q, j) refl }
    go (Answer.refused x) q j = refused-given j

pub refuses : (t : List ℕ) (x : Refusal) → check t ≡ Answer.refused x → accepted t ≡ Answer.refused x
unfolding check accepted Answers.with
refuses t x e = go (read t) refl e
  where
    go : (a : Answer Program) → read t ≡ a → Answers.with a judge ≡ Answer.refused x → accepted t ≡ Answer.refused x
    go (Answer.given P) q j = rw (q, j) refl
    go (Answer.refused y) q j = let z : y ≡ x = cc in rw q (ap Answer.refused z)

-- the transfer of well-formed code is well formed where the code ends
pub code-transfer : (E : Env) (Γ : ℕ) (ρ : List ℕ) (C : List Statement) (T : Transfer) → WF-code E Γ ρ C T → (Δ : ℕ) × WF-transfer E Δ ρ T
unfolding WF-code
code-transfer E Γ ρ [] T w = (Γ, w)
code-transfer E Γ ρ (s ∷ C) T w = code-transfer E (with Γ s.target) ρ C T w.2
