-- In a well-formed program everything that is mentioned is there.
use Prim.Native.Nat.{ℕ, ◌<◌}
use mathlib.Core.Path.{◌≡◌}
use mathlib.Core.Option.{some}
use mathlib.Core.List.{List}
use lib.ListN.{length, get_elem?}
use Rattle.model.specs.Lists.{Each}
use Rattle.model.specs.Syntax.{Transfer, Head, Block, SpawnCall, Signature, Function, Program, targets, sporked_by, called_by}
use Rattle.model.specs.WellFormed.{Env, env, head_of, signature_of, WF-transfer, WF-block, WF-spawn, WF-fun, WF-prog}
use Rattle.model.proofs.Facts.{map-some, each_map, each_append, each_at, at-below}
use Rattle.model.proofs.Accepted.{code-transfer}
use Rattle.numbering.specs.Mentions.{targets_of, spawns_of, ClosedIn, Closed}

-- a block, a spawn call, a function that can be looked up
abbrev BlockThere : Env → ℕ → Type 0
BlockThere E b = (H : Head) × (E.block b ≡ some H)

abbrev SpawnThere : Env → ℕ → Type 0
SpawnThere E π = (S : SpawnCall) × (E.spawn π ≡ some S)

abbrev FunctionThere : Env → ℕ → Type 0
FunctionThere E g = (S : Signature) × (E.function g ≡ some S)

-- what a well-formed transfer mentions can be looked up
module _ (E : Env) (Γ : ℕ) (ρ : List ℕ) where
  targets-there : (T : Transfer) → WF-transfer E Γ ρ T → Each (BlockThere E) (targets T)
  unfolding WF-transfer targets
  targets-there (Transfer.goto b x̄) w = ((w.1.head, w.1.there), tt)
  targets-there (Transfer.if e b c) w = ((w.1.head, w.1.there), ((w.2.head, w.2.there), tt))
  targets-there (Transfer.call g x̄ b) w = ((w.1.1.head, w.1.1.there), tt)
  targets-there (Transfer.return x̄) w = tt
  targets-there (Transfer.spork b π) w = ((w.1.head, w.1.there), tt)
  targets-there (Transfer.spoin b c) w = ((w.1.head, w.1.there), ((w.2.head, w.2.there), tt))

  sporked-there : (T : Transfer) → WF-transfer E Γ ρ T → Each (SpawnThere E) (sporked_by T)
  unfolding WF-transfer sporked_by
  sporked-there (Transfer.goto b x̄) w = tt
  sporked-there (Transfer.if e b c) w = tt
  sporked-there (Transfer.call g x̄ b) w = tt
  sporked-there (Transfer.return x̄) w = tt
  sporked-there (Transfer.spork b π) w = ((w.0.call, w.0.there), tt)
  sporked-there (Transfer.spoin b c) w = tt

  called-there : (T : Transfer) → WF-transfer E Γ ρ T → Each (FunctionThere E) (called_by T)
  unfolding WF-transfer called_by
  called-there (Transfer.goto b x̄) w = tt
  called-there (Transfer.if e b c) w = tt
  called-there (Transfer.call g x̄ b) w = ((w.1.0.signature, w.1.0.there), tt)
  called-there (Transfer.return x̄) w = tt
  called-there (Transfer.spork b π) w = tt
  called-there (Transfer.spoin b c) w = tt

-- what can be looked up is there
module _ (P : Program) (F : Function) where
  block-below : (b : ℕ) → BlockThere (env P F) b → b < length F.blocks
  unfolding env
  block-below b (H, e) = at-below F.blocks b (map-some head_of (get_elem? F.blocks b) e).1

  spawn-below : (π : ℕ) → SpawnThere (env P F) π → π < length F.spawns
  unfolding env
  spawn-below π (S, e) = at-below F.spawns π e

  function-below : (g : ℕ) → FunctionThere (env P F) g → g < length P
  unfolding env
  function-below g (S, e) = at-below P g (map-some signature_of (get_elem? P g) e).1

-- of a well-formed function
closed_in : (P : Program) (F : Function) → WF-fun P F → ClosedIn P F
unfolding targets_of spawns_of
closed_in P F W =
    record {
      entry = at-below F.blocks 0 W.first;
      blocks = λ b B e.
          let w = formed b B e in
          let t = ends B w in
          each_map (block-below P F) (targets B.transfer) (targets-there E t.0 B.head.nesting B.transfer t.1);
      spawns = λ b B e.
          let w = formed b B e in
          let t = ends B w in
          each_append (λ π. π < length F.spawns) B.head.nesting (sporked_by B.transfer)
          (each_map (λ π n. spawn-below P F π (n.spawned.call, n.spawned.there)) B.head.nesting w.nested)
          (each_map (spawn-below P F) (sporked_by B.transfer) (sporked-there E t.0 B.head.nesting B.transfer t.1));
      calls = λ b B e.
          let w = formed b B e in
          let t = ends B w in
          each_map (function-below P F) (called_by B.transfer) (called-there E t.0 B.head.nesting B.transfer t.1);
      spawned = λ π S e.
          let w = each_at (WF-spawn E) F.spawns π W.spawns e in
          function-below P F S.function (w.signature, w.there);
    }
  where
    E : Env
    E = env P F

    formed : (b : ℕ) (B : Block) → get_elem? F.blocks b ≡ some B → WF-block (env P F) B
    formed b B e = each_at (WF-block (env P F)) F.blocks b W.blocks e

    ends : (B : Block) → WF-block (env P F) B → (Δ : ℕ) × WF-transfer (env P F) Δ B.head.nesting B.transfer
    ends B w = code-transfer (env P F) _ B.head.nesting B.code B.transfer w.code

-- of a well-formed program
pub closed : (P : Program) → WF-prog P → Closed P
closed P W =
    record {
      main = at-below P 0 W.first;
      functions = λ f F e. closed_in P F (each_at (WF-fun P) P f W.functions e);
    }
