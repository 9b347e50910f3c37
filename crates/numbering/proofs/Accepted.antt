-- Where everything of Q is a kept thing of P, Q is well formed if P is: so the check accepts its tables too.
use Prim.Native.Nat.{ℕ}
use mathlib.Core.Path.{◌≡◌, sym, ◌∙◌, ap, subst}
use mathlib.Core.Option
use mathlib.Core.Option.{Option, some}
use mathlib.Core.List.{List, [], ◌∷◌, map, map-append}
use lib.ListN.{get_elem?}
use Rattle.model.specs.Answers.{Answer}
use Rattle.model.specs.Lists.{Each}
use Rattle.model.specs.Sets.{with}
use Rattle.model.specs.Syntax.{Statement, Transfer, Head, Block, SpawnCall, Signature, Function, Program, targets, sporked_by, called_by}
use Rattle.model.specs.WellFormed.{Env, env, head_of, signature_of, WF-cont, Callee, Spawned, Innermost, WF-transfer, WF-code}
use Rattle.model.specs.WellFormed.{Nested, WF-block, WF-spawn, WF-entry, WF-fun, WF-prog}
use Rattle.model.specs.Calls.{read, check}
use Rattle.model.proofs.Facts.{some-injective, given-injective, each_left, each_right, each_at, at_each}
use Rattle.model.proofs.Accepted.{check-wf, wf-check}
use Rattle.numbering.specs.Renamed as Renamed
use Rattle.numbering.specs.Mentions.{targets_of, spawns_of}
use Rattle.numbering.specs.Renumbers.{Numbering, names, FunctionKept, BlockKept, SpawnKept, Copied, Copies, Renumbers, Onto}

-- what a spawn call's new number finds
record SpawnFound (R : Numbering) (f : ℕ) (D : Env) (π : ℕ) (S : SpawnCall) : Type 0 where
  there : D.spawn (R.spawn f π) ≡ some (Renamed.spawn_call (names R f) S)
  function : FunctionKept R S.function

-- every lookup of a kept thing finds it under its new number
record Finds (R : Numbering) (f : ℕ) (E D : Env) : Type 0 where
  block : (b : ℕ) (H : Head) → BlockKept R f b → E.block b ≡ some H → D.block (R.block f b) ≡ some (Renamed.head (names R f) H)
  spawn : (π : ℕ) (S : SpawnCall) → SpawnKept R f π → E.spawn π ≡ some S → SpawnFound R f D π S
  function : (g : ℕ) (S : Signature) → FunctionKept R g → E.function g ≡ some S → D.function (R.function g) ≡ some S
  own : D.own ≡ E.own

-- what the rules ask of kept things, they have under new numbers
module _ {R : Numbering} {f : ℕ} {E D : Env} (F : Finds R f E D) where
  -- a nesting under new numbers
  abbrev ν : List ℕ → List ℕ
  ν ρ = map (R.spawn f) ρ

  -- a block that goes on, a spawn call, a callee, the innermost call of a nesting
  cont-found : {Γ : ℕ} {ρ : List ℕ} {b r : ℕ} → BlockKept R f b → WF-cont E Γ ρ b r → WF-cont D Γ (ν ρ) (R.block f b) r
  unfolding Renamed.head
  cont-found {b = b} q w =
      record {
        head = Renamed.head (names R f) w.head;
        there = F.block b w.head q w.there;
        takes = w.takes;
        nests = ap (map (R.spawn f)) w.nests;
        scoped = w.scoped;
      }

  spawned-found : {π : ℕ} → SpawnKept R f π → Spawned E π → Spawned D (R.spawn f π)
  spawned-found {π} q w =
      record { call = Renamed.spawn_call (names R f) w.call; there = (F.spawn π w.call q w.there).there }

  callee-found : {g n : ℕ} → FunctionKept R g → Callee E g n → Callee D (R.function g) n
  callee-found {g} q w = record { signature = w.signature; there = F.function g w.signature q w.there; takes = w.takes }

  innermost-found : {ρ : List ℕ} → Each (SpawnKept R f) ρ → Innermost E ρ → Innermost D (ν ρ)
  unfolding Renamed.spawn_call
  innermost-found {ρ} h I =
      let q : Each (SpawnKept R f) (I.last ∷ []) =
      each_right (SpawnKept R f) I.front (I.last ∷ []) (subst (Each (SpawnKept R f)) I.is h)
      in
      let S = F.spawn I.last I.spawned.call q.0 I.spawned.there in
      record {
        front = ν I.front;
        last = R.spawn f I.last;
        is = ap (map (R.spawn f)) I.is ∙ map-append (R.spawn f) I.front (I.last ∷ []);
        spawned = record { call = Renamed.spawn_call (names R f) I.spawned.call; there = S.there };
        callee = I.callee;
        there = F.function I.spawned.call.function I.callee S.function I.there;
      }

  -- a transfer, code, a nesting, a block
  transfer-found : (Γ : ℕ) (ρ : List ℕ) (T : Transfer) → Each (SpawnKept R f) ρ → Each (BlockKept R f) (targets T) →
      Each (SpawnKept R f) (sporked_by T) → Each (FunctionKept R) (called_by T) → WF-transfer E Γ ρ T →
      WF-transfer D Γ (ν ρ) (Renamed.transfer (names R f) T)
  unfolding WF-transfer Renamed.transfer targets sporked_by called_by callee-found innermost-found
  transfer-found Γ ρ (Transfer.goto b x̄) h q s g w = (w.0, cont-found q.0 w.1)
  transfer-found Γ ρ (Transfer.if e b c) h q s g w = (w.0, cont-found q.0 w.1, cont-found q.1.0 w.2)
  transfer-found Γ ρ (Transfer.call i x̄ b) h q s g w = (w.0, (callee-found g.0 w.1.0, cont-found q.0 w.1.1))
  transfer-found Γ ρ (Transfer.return x̄) h q s g w = (w.0, rw F.own w.1, ap (map (R.spawn f)) w.2)
  transfer-found Γ ρ (Transfer.spork b π) h q s g w =
      (spawned-found s.0 w.0, rw (← map-append (R.spawn f) ρ (π ∷ [])) (cont-found q.0 w.1))
  transfer-found Γ ρ (Transfer.spoin b c) h q s g w =
      (innermost-found h w.0, cont-found q.0 w.1, cont-found q.1.0 w.2)

  code-found : (Γ : ℕ) (ρ : List ℕ) (C : List Statement) (T : Transfer) → Each (SpawnKept R f) ρ → Each (BlockKept R f) (targets T) →
      Each (SpawnKept R f) (sporked_by T) → Each (FunctionKept R) (called_by T) → WF-code E Γ ρ C T →
      WF-code D Γ (ν ρ) C (Renamed.transfer (names R f) T)
  unfolding WF-code
  code-found Γ ρ [] T h q s g w = transfer-found Γ ρ T h q s g w
  code-found Γ ρ (x ∷ C) T h q s g w = (w.0, w.1, code-found (with Γ x.target) ρ C T h q s g w.2)

  nested-found : (Γ : ℕ) (ρ : List ℕ) → Each (SpawnKept R f) ρ → Each (Nested E Γ) ρ → Each (Nested D Γ) (ν ρ)
  unfolding Renamed.spawn_call spawned-found
  nested-found Γ [] h w = tt
  nested-found Γ (π ∷ ρ) h w =
      (record { spawned = spawned-found h.0 w.0.spawned; bound = w.0.bound }, nested-found Γ ρ h.1 w.1)

  block-found : (B : Block) → Each (BlockKept R f) (targets_of B) → Each (SpawnKept R f) (spawns_of B) →
      Each (FunctionKept R) (called_by B.transfer) → WF-block E B → WF-block D (Renamed.block (names R f) B)
  unfolding targets_of spawns_of Renamed.block Renamed.head
  block-found B q s g w =
      let ρ = B.head.nesting in
      let h = each_left (SpawnKept R f) ρ (sporked_by B.transfer) s in
      record {
        fresh = w.fresh;
        nested = nested-found B.head.scope ρ h w.nested;
        code = code-found _ ρ B.code B.transfer h q (each_right (SpawnKept R f) ρ (sporked_by B.transfer) s) g w.code;
      }

-- what is looked up, under a map, is what was found
found_map : {A B : Type 0} (h : A → B) {o : Option A} {a : A} {b : B} → o ≡ some a → Option.map h o ≡ some b → h a ≡ b
found_map h e g = some-injective (sym (ap (Option.map h) e) ∙ g)

-- function f, copied from P to Q: what is well formed in P is so in Q
module _ {R : Numbering} {P Q : Program} (c : Copies R P Q) {f : ℕ} (C : Copied R P Q f) where
  -- what function f of P looks up, function f of Q finds
  finds : Finds R f (env P C.before) (env Q C.after)
  unfolding env Renamed.block
  finds =
      record {
        block = λ b H q e.
            let B = C.blocks b q in
            rw B.new (ap (λ (H : Head). some (Renamed.head (names R f) H)) (found_map head_of B.old e));
        spawn = λ π S q e.
            let B = C.spawns π q in
            let same : B.call ≡ S = some-injective (sym B.old ∙ e) in
            record {
              there = rw (← same) B.new;
              function = rw (← same) B.function;
            };
        function = λ g S q e.
            let G = c g q in
            rw G.new (ap {B = Option Signature} some (G.signature ∙ found_map signature_of G.old e));
        own = C.signature;
      }

  -- a block, a spawn call and the entry of function f
  block-formed : (b : ℕ) → BlockKept R f b → WF-fun P C.before → (B : Block) → get_elem? C.after.blocks (R.block f b) ≡ some B →
      WF-block (env Q C.after) B
  block-formed b q W B e =
      let D = C.blocks b q in
      subst (WF-block (env Q C.after)) (some-injective (sym D.new ∙ e))
      (block-found finds D.block D.blocks D.spawns D.calls
      (each_at (WF-block (env P C.before)) C.before.blocks b W.blocks D.old))

  spawn-formed : (π : ℕ) → SpawnKept R f π → WF-fun P C.before → (S : SpawnCall) →
      get_elem? C.after.spawns (R.spawn f π) ≡ some S → WF-spawn (env Q C.after) S
  unfolding Renamed.spawn_call
  spawn-formed π q W S e =
      let D = C.spawns π q in
      subst (WF-spawn (env Q C.after)) (some-injective (sym D.new ∙ e))
      (callee-found finds D.function
      (each_at (WF-spawn (env P C.before)) C.before.spawns π W.spawns D.old))

  entry-formed : WF-fun P C.before →
      WF-entry C.after.signature.parameters (Renamed.head (names R f) (C.blocks 0 C.entry_kept).block.head)
  unfolding Renamed.head
  entry-formed W =
      let D = C.blocks 0 C.entry_kept in
      let w : WF-entry C.before.signature.parameters D.block.head =
      rw (some-injective (sym W.first ∙ D.old)) at W.enters
      in
      record {
        parameters = w.parameters;
        scope = rw C.signature w.scope;
        nesting = ap (map (R.spawn f)) w.nesting;
      }

  -- function f, where everything of Q is a kept thing of P
  function-formed : Onto R P Q → FunctionKept R f → WF-fun P C.before → WF-fun Q C.after
  unfolding Renamed.block
  function-formed o k W =
      record {
        spawns = at_each (WF-spawn (env Q C.after)) C.after.spawns λ χ S e.
            let (π, q, i) = o.spawns f k C.after C.new χ S e in
            spawn-formed π q W S (rw i e);
        entry = Renamed.block (names R f) (C.blocks 0 C.entry_kept).block;
        first = rw C.entry at (C.blocks 0 C.entry_kept).new;
        enters = entry-formed W;
        blocks = at_each (WF-block (env Q C.after)) C.after.blocks λ d B e.
            let (b, q, i) = o.blocks f k C.after C.new d B e in
            block-formed b q W B (rw i e);
      }

-- a program that is a well-formed one under other numbers is well formed
pub well-formed : (R : Numbering) (P Q : Program) → WF-prog P → Renumbers R P Q → Onto R P Q → WF-prog Q
well-formed R P Q W n o =
    let M = n.copies 0 n.main_kept in
    record {
      main = M.after;
      first = rw n.main at M.new;
      starts = ap (λ (S : Signature). S.parameters) M.signature ∙
          ap (λ (F : Function). F.signature.parameters) (some-injective (sym M.old ∙ W.first)) ∙ W.starts;
      functions = at_each (WF-fun Q) Q λ g G e.
          let (f, k, i) = o.functions g G e in
          let C = n.copies f k in
          let h : get_elem? Q (R.function f) ≡ some G = rw i e in
          subst (WF-fun Q) (some-injective (sym C.new ∙ h))
          (function-formed n.copies C o k (each_at (WF-fun P) P f W.functions C.old));
    }

-- and its tables are accepted
pub accepted : (s t : List ℕ) (P Q : Program) (R : Numbering) → read s ≡ Answer.given P → check s ≡ Answer.given tt →
    read t ≡ Answer.given Q → Renumbers R P Q → Onto R P Q → check t ≡ Answer.given tt
accepted s t P Q R r a r' n o =
    let (P', e, W) = check-wf s a in
    wf-check t Q r' (well-formed R P Q (subst WF-prog (given-injective (sym e ∙ r)) W) n o)
