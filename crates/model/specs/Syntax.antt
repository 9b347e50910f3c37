-- Figure 1: the syntax of Spork IR, with numbers for names. Section 2.3 adds to a function the number of values that it
-- returns, and to a block its scope Γ and its nesting ρ.
use Rattle.std.specs.Prelude.{ℕ, List, [], ◌∷◌, ◌++◌, ℤ}

-- m, n ::= v | x
pub data Atom : Type 0 where
  value : ℤ → Atom
  temporary : ℕ → Atom

-- e ::= m | -m | m + n | m < n
pub data Expression : Type 0 where
  atom : Atom → Expression
  minus : Atom → Expression
  plus : Atom → Atom → Expression
  less : Atom → Atom → Expression

-- x ← e
pub record Statement : Type 0 where
  pub target : ℕ
  pub source : Expression

-- T: goto b(x̄), if(e, b, b), call g(x̄) ▷ b, return(x̄), spork(b ‖ π), spoin(b, b). A spork names its spawn call by number
pub data Transfer : Type 0 where
  goto : ℕ → List ℕ → Transfer
  if : Expression → ℕ → ℕ → Transfer
  call : ℕ → List ℕ → ℕ → Transfer
  return : List ℕ → Transfer
  spork : ℕ → ℕ → Transfer
  spoin : ℕ → ℕ → Transfer

-- b(x̄), with its scope Γ and its nesting ρ, outermost first
pub record Head : Type 0 where
  pub parameters : List ℕ
  pub scope : ℕ
  pub nesting : List ℕ

-- B ::= block b(x̄) { C }, where the code C is statements and then a transfer
pub record Block : Type 0 where
  pub head : Head
  pub code : List Statement
  pub transfer : Transfer

-- a spawn call g(x̄)
pub record SpawnCall : Type 0 where
  pub function : ℕ
  pub arguments : List ℕ

-- f(x̄), by its numbers of parameters and of returned values
pub record Signature : Type 0 where
  pub parameters : ℕ
  pub returns : ℕ

-- F ::= fun f(x̄) { B̄ }, with its spawn calls. Parameter k is temporary k, and block 0 is the entry
pub record Function : Type 0 where
  pub signature : Signature
  pub spawns : List SpawnCall
  pub blocks : List Block

-- P ::= F̄. Function 0 is main
abbrev pub Program : Type 0
Program = List Function

-- the temporaries that an atom and an expression use
unfoldable pub uses_atom : Atom → List ℕ
uses_atom (Atom.value v) = []
uses_atom (Atom.temporary x) = x ∷ []

unfoldable pub uses : Expression → List ℕ
uses (Expression.atom m) = uses_atom m
uses (Expression.minus m) = uses_atom m
uses (Expression.plus m n) = uses_atom m ++ uses_atom n
uses (Expression.less m n) = uses_atom m ++ uses_atom n

-- what a transfer names, from left to right: blocks of its function; the spawn call of a spork; the function of a call
unfoldable pub targets : Transfer → List ℕ
targets (Transfer.goto b x̄) = b ∷ []
targets (Transfer.if e b c) = b ∷ c ∷ []
targets (Transfer.call g x̄ b) = b ∷ []
targets (Transfer.return x̄) = []
targets (Transfer.spork b π) = b ∷ []
targets (Transfer.spoin b c) = b ∷ c ∷ []

unfoldable pub sporked_by : Transfer → List ℕ
sporked_by (Transfer.goto b x̄) = []
sporked_by (Transfer.if e b c) = []
sporked_by (Transfer.call g x̄ b) = []
sporked_by (Transfer.return x̄) = []
sporked_by (Transfer.spork b π) = π ∷ []
sporked_by (Transfer.spoin b c) = []

unfoldable pub called_by : Transfer → List ℕ
called_by (Transfer.goto b x̄) = []
called_by (Transfer.if e b c) = []
called_by (Transfer.call g x̄ b) = g ∷ []
called_by (Transfer.return x̄) = []
called_by (Transfer.spork b π) = []
called_by (Transfer.spoin b c) = []
