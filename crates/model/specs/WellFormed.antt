-- Figure 4: well-formed programs, as document 01 narrows it. A rule of the figure is a type, and its premises are the parts.
use Rattle.std.specs.Prelude.{ℕ, ◌≡◌, List, [], ◌∷◌, ◌++◌, length}
use Rattle.std.proofs.Math.Option.{Option, some, map}
use Rattle.std.proofs.Math.ListN.{get_elem?}
use Rattle.model.specs.Lists.{Each}
use Rattle.model.specs.Sets.{with, with_all, below, ◌∈◌, ◌∉◌, ◌⊆◌}
use Rattle.model.specs.Syntax.{Expression, Statement, Transfer, Head, Block, SpawnCall, Signature, Function, Program, uses}

-- P; f: what a rule looks up by number, in f and in P, and f's own signature
pub record Env : Type 0 where
  pub block : ℕ → Option Head
  pub spawn : ℕ → Option SpawnCall
  pub function : ℕ → Option Signature
  pub own : Signature

abbrev pub head_of : Block → Head
head_of B = B.head

abbrev pub signature_of : Function → Signature
signature_of F = F.signature

unfoldable pub env : Program → Function → Env
env P F =
    record {
      block = λ b. map head_of (get_elem? F.blocks b);
      spawn = λ π. get_elem? F.spawns π;
      function = λ g. map signature_of (get_elem? P g);
      own = F.signature;
    }

-- Γ ⊢ e
abbrev pub WF-expr : ℕ → Expression → Type 0
WF-expr Γ e = Each (λ x. x ∈ Γ) (uses e)

-- f; Γ; ρ ⊢ b(·ʳ): a block b that takes r values, under the nesting ρ, with its scope within Γ
pub record WF-cont (E : Env) (Γ : ℕ) (ρ : List ℕ) (b r : ℕ) : Type 0 where
  pub head : Head
  pub there : E.block b ≡ some head
  pub takes : length head.parameters ≡ r
  pub nests : head.nesting ≡ ρ
  pub scoped : head.scope ⊆ Γ

-- a function g that takes n values
pub record Callee (E : Env) (g n : ℕ) : Type 0 where
  pub signature : Signature
  pub there : E.function g ≡ some signature
  pub takes : n ≡ signature.parameters

-- the spawn call numbered π
pub record Spawned (E : Env) (π : ℕ) : Type 0 where
  pub call : SpawnCall
  pub there : E.spawn π ≡ some call

-- a nesting's last spawn call, and the function that it spawns
pub record Innermost (E : Env) (ρ : List ℕ) : Type 0 where
  pub front : List ℕ
  pub last : ℕ
  pub is : ρ ≡ front ++ (last ∷ [])
  pub spawned : Spawned E last
  pub callee : Signature
  pub there : E.function spawned.call.function ≡ some callee

-- P; f; Γ; ρ ⊢ T
unfoldable pub WF-transfer : Env → ℕ → List ℕ → Transfer → Type 0
WF-transfer E Γ ρ (Transfer.goto b x̄) = Each (λ x. x ∈ Γ) x̄ × WF-cont E Γ ρ b (length x̄)
WF-transfer E Γ ρ (Transfer.if e b c) = WF-expr Γ e × WF-cont E Γ ρ b 0 × WF-cont E Γ ρ c 0
WF-transfer E Γ ρ (Transfer.call g x̄ b) =
    Each (λ x. x ∈ Γ) x̄ × ((G : Callee E g (length x̄)) × WF-cont E Γ ρ b G.signature.returns)
WF-transfer E Γ ρ (Transfer.return x̄) = Each (λ x. x ∈ Γ) x̄ × (length x̄ ≡ E.own.returns) × (ρ ≡ [])
WF-transfer E Γ ρ (Transfer.spork b π) = Spawned E π × WF-cont E Γ (ρ ++ (π ∷ [])) b 0
WF-transfer E Γ ρ (Transfer.spoin b c) =
    (I : Innermost E ρ) × WF-cont E Γ I.front b 0 × WF-cont E Γ I.front c I.callee.returns

-- P; f; Γ; ρ ⊢ C
unfoldable pub WF-code : Env → ℕ → List ℕ → List Statement → Transfer → Type 0
WF-code E Γ ρ [] T = WF-transfer E Γ ρ T
WF-code E Γ ρ (s ∷ C) T = WF-expr Γ s.source × (s.target ∉ Γ) × WF-code E (with Γ s.target) ρ C T

-- the parameters x̄ are distinct and outside Γ
unfoldable pub Fresh : ℕ → List ℕ → Type 0
Fresh Γ [] = Unit {0}
Fresh Γ (x ∷ x̄) = (x ∉ Γ) × Fresh (with Γ x) x̄

-- π is a spawn call whose arguments lie in Γ
pub record Nested (E : Env) (Γ π : ℕ) : Type 0 where
  pub spawned : Spawned E π
  pub bound : Each (λ x. x ∈ Γ) spawned.call.arguments

-- P; f ⊢ B
pub record WF-block (E : Env) (B : Block) : Type 0 where
  pub fresh : Fresh B.head.scope B.head.parameters
  pub nested : Each (Nested E B.head.scope) B.head.nesting
  pub code : WF-code E (with_all B.head.scope B.head.parameters) B.head.nesting B.code B.transfer

-- a spawn call's function exists and takes its number of arguments
abbrev pub WF-spawn : Env → SpawnCall → Type 0
WF-spawn E S = Callee E S.function (length S.arguments)

-- an entry has no parameters, a scope of its function's n parameters, and no nesting
pub record WF-entry (n : ℕ) (H : Head) : Type 0 where
  pub parameters : H.parameters ≡ []
  pub scope : H.scope ≡ below n
  pub nesting : H.nesting ≡ []

-- P ⊢ F
pub record WF-fun (P : Program) (F : Function) : Type 0 where
  pub spawns : Each (WF-spawn (env P F)) F.spawns
  pub entry : Block
  pub first : get_elem? F.blocks 0 ≡ some entry
  pub enters : WF-entry F.signature.parameters entry.head
  pub blocks : Each (WF-block (env P F)) F.blocks

-- ⊢ P
pub record WF-prog (P : Program) : Type 0 where
  pub main : Function
  pub first : get_elem? P 0 ≡ some main
  pub starts : main.signature.parameters ≡ 0
  pub functions : Each (WF-fun P) P
