-- Reading and writing undo each other: for every parser of Read the law that ties it to its writer of Write, and `inverse`.
use Prim.Native.Nat.{ℕ, zero, suc, ◌+◌, ◌*◌, ◌/◌, ◌%◌, ◌-◌, ◌^◌, ◌<◌}
use mathlib.Core.Path.{◌≡◌, refl, sym, ◌∙◌, ap}
use mathlib.Core.Bool.{Bool, true, false}
use mathlib.Core.List.{List, [], ◌∷◌, ◌++◌, map}
use native.Mathlib.Omega.{arith}
use lib.Dec.{ltb}
use lib.IntN.{ℤ, pos, negsuc}
use lib.ListN.{length, get_or}
use mir.Val.{sel}
use Rattle.model.specs.Answers.{Answer}
use Rattle.model.specs.Lists.{Each, concat}
use Rattle.model.specs.Values.{signed, low}
use Rattle.model.specs.Syntax.{Atom, Expression, Statement, Transfer, Head, Block, SpawnCall, Function, Program, uses_atom, uses}
use Rattle.model.specs.Pool.{temporaries}
use Rattle.model.specs.Limits.{Temporaries, Arguments, InStatement, InTransfer, InHead, InBlock, InSpawn, InFunction, Limits}
use Rattle.model.specs.Read as Read
use Rattle.model.specs.Read.{Parsed, Parser, counted, pick}
use Rattle.model.specs.Write as Write
use Rattle.model.specs.Write.{Name, HoldsAtom, HoldsExpression, HoldsTransfer, HoldsBlock, HoldsFunction, Holds, Inverse}
use Rattle.model.proofs.Facts.{eqb-true, ltb-false, each_map, each_both, each_append, each_left, each_right}
use Rattle.model.proofs.Guarantees.{sized-is, is-sized, Reads, reads, brief-reads, reads-back}
use Rattle.model.proofs.Undoing.{Between, between-append, between_left, between-right, between-whole, whole-between, byte-stands}
use Rattle.model.proofs.Undoing.{law-by, back, forth, law-as, Made, made, made_then, law-made, law-byte, law-many, law-numbered}
use Rattle.model.proofs.Undoing.{law-counted, Kind, kind-made, kind-none, kinds-back, kind-reads}
pub use Rattle.model.proofs.Undoing.{Stand, Law}

-- bytes are written as they are
pub bytes-are : (xs : List ℕ) → concat (map Write.byte xs) ≡ xs
unfolding concat
bytes-are [] = refl
bytes-are (x ∷ xs) = ap {B = List ℕ} (λ l. x ∷ l) (bytes-are xs)

-- a name, a temporary, numbers of two and of four bytes
pub law-name : Law Read.name Write.byte Name
unfolding Read.name
law-name = law-as (law-byte 0 255) (λ n h. h.1) (λ n h. (omega arith, h))

pub law-temporary : Law Read.temporary Write.byte (λ x. x < temporaries)
unfolding Read.temporary
law-temporary = law-as (law-byte 0 15) (λ n h. omega arith) (λ n h. (omega arith, omega arith))

pub law-half : Law Read.half Write.half (λ n. n < 65536)
unfolding Read.half Read.name Write.half
law-half =
    law-made (made_then law-name (λ a. made (λ b. a * 256 + b) law-name))
    (λ (a, b) (h, g).
    let p : (a * 256 + b) / 256 ≡ a = omega arith in
    let q : (a * 256 + b) % 256 ≡ b = omega arith in
    (rw (p, q), omega arith))
    (λ n h. ((n / 256, n % 256), omega arith, refl, (omega arith, omega arith)))

pub law-word : Law Read.word Write.word (λ n. n < 2 ^ 32)
unfolding Read.word Write.word
law-word =
    law-made (made_then law-half (λ a. made (λ b. a * 65536 + b) law-half))
    (λ (a, b) (h, g).
    let p : (a * 65536 + b) / 65536 ≡ a = omega arith in
    let q : (a * 65536 + b) % 65536 ≡ b = omega arith in
    (rw (p, q), omega arith))
    (λ n h. ((n / 65536, n % 65536), omega arith, refl, (omega arith, omega arith)))

-- an argument list
pub law-few : (most : ℕ) → Law (counted most Read.temporary) Write.arguments (Arguments most)
unfolding Write.arguments
law-few most = law-as (law-counted law-temporary most) (λ x̄ (h, b). record { each = h; few = b }) (λ x̄ h. (h.each, h.few))

pub law-arguments : Law Read.arguments Write.arguments (Arguments 8)
unfolding Read.arguments
law-arguments = law-few 8

-- values: 32 bits are the low bits of their signed reading
low-lt : (v : ℤ) → low v < 2 ^ 32
unfolding low
low-lt (pos n) = omega arith
low-lt (negsuc n) = omega arith

low_signed : (n : ℕ) → n < 2 ^ 32 → low (signed n) ≡ n
unfolding low
low_signed n h = go (ltb n (2 ^ 31)) refl
  where
    go : (b : Bool) → ltb n (2 ^ 31) ≡ b → low (sel b (pos n) (negsuc (2 ^ 32 - suc n))) ≡ n
    go true e = omega arith
    go false e = omega (arith, ltb-false n (2 ^ 31) e)

-- an atom
abbrev pub HeldAtom : Atom → Type 0
HeldAtom m = Temporaries (uses_atom m) × HoldsAtom m

made-value : Made Read.value (λ n. Atom.value (signed n)) Write.word (λ n. n < 2 ^ 32)
unfolding Read.value
made-value = made (λ n. Atom.value (signed n)) law-word

made-variable : Made Read.variable Atom.temporary Write.byte (λ x. x < temporaries)
unfolding Read.variable
made-variable = made Atom.temporary law-temporary

kind-atom : (k : ℕ) → Kind (pick Read.atoms k) Write.atom HeldAtom k
unfolding pick Write.atom HoldsAtom uses_atom
kind-atom zero = kind-made made-value (λ n h. (rw (low_signed n h), (tt, rw (low_signed n h))))
kind-atom (suc zero) = kind-made made-variable (λ x h. (refl, ((h, tt), tt)))
kind-atom (suc (suc k)) = kind-none

atom-reads : (s : List ℕ) (at : ℕ) (m : Atom) (k : ℕ) → HeldAtom m → Between s at k (Write.atom m) → Read.atom s at ≡ Parsed.ok m k
unfolding Read.atom Write.atom HoldsAtom uses_atom pick
atom-reads s at (Atom.value v) k (h, e) b =
    kind-reads Read.atoms 1 0 (omega arith) made-value s at (low v) k (low-lt v) b ∙ ap (λ (z : ℤ). Parsed.ok (Atom.value z) k) e
atom-reads s at (Atom.temporary x) k (h, e) b = kind-reads Read.atoms 1 1 (omega arith) made-variable s at x k h.0 b

pub law-atom : Law Read.atom Write.atom HeldAtom
unfolding Read.atom
law-atom = law-by (kinds-back Read.atoms 1 kind-atom) atom-reads

-- an expression
abbrev pub HeldExpression : Expression → Type 0
HeldExpression e = Temporaries (uses e) × HoldsExpression e

-- two atoms hold what their uses, one behind the other, and their values say
both-in : (m n : Atom) → HeldAtom m → HeldAtom n → Temporaries (uses_atom m ++ uses_atom n) × (HoldsAtom m × HoldsAtom n)
both-in m n (h, g) (i, j) = (each_append (λ x. x < temporaries) (uses_atom m) (uses_atom n) h i, (g, j))

in_both : (m n : Atom) → Temporaries (uses_atom m ++ uses_atom n) × (HoldsAtom m × HoldsAtom n) → HeldAtom m × HeldAtom n
in_both m n (h, (g, j)) = ((each_left _ (uses_atom m) (uses_atom n) h, g), (each_right _ (uses_atom m) (uses_atom n) h, j))

made-unary : (e : Atom → Expression) → Made (Read.unary e) e Write.atom HeldAtom
unfolding Read.unary
made-unary e = made e law-atom

made-binary : (e : Atom → Atom → Expression)
    → Made (Read.binary e) (λ (c : Atom × Atom). e c.0 c.1) (λ c. Write.atom c.0 ++ Write.atom c.1)
    (λ c. HeldAtom c.0 × HeldAtom c.1)
unfolding Read.binary
made-binary e = made_then law-atom (λ m. made (e m) law-atom)

kind-expression : (k : ℕ) → Kind (pick Read.expressions k) Write.expression HeldExpression k
unfolding pick Write.expression HoldsExpression uses
kind-expression zero = kind-made (made-unary Expression.atom) (λ m h. (refl, h))
kind-expression (suc zero) = kind-made (made-unary Expression.minus) (λ m h. (refl, h))
kind-expression (suc (suc zero)) = kind-made (made-binary Expression.plus) (λ (m, n) (h, g). (refl, both-in m n h g))
kind-expression (suc (suc (suc zero))) = kind-made (made-binary Expression.less) (λ (m, n) (h, g). (refl, both-in m n h g))
kind-expression (suc (suc (suc (suc k)))) = kind-none

expression-reads : (s : List ℕ) (at : ℕ) (e : Expression) (k : ℕ) → HeldExpression e → Between s at k (Write.expression e)
    → Read.expression s at ≡ Parsed.ok e k
unfolding Read.expression Write.expression HoldsExpression uses pick
expression-reads s at (Expression.atom m) k h b =
    kind-reads Read.expressions 3 0 (omega arith) (made-unary Expression.atom) s at m k h b
expression-reads s at (Expression.minus m) k h b =
    kind-reads Read.expressions 3 1 (omega arith) (made-unary Expression.minus) s at m k h b
expression-reads s at (Expression.plus m n) k h b =
    kind-reads Read.expressions 3 2 (omega arith) (made-binary Expression.plus) s at (m, n) k (in_both m n h) b
expression-reads s at (Expression.less m n) k h b =
    kind-reads Read.expressions 3 3 (omega arith) (made-binary Expression.less) s at (m, n) k (in_both m n h) b

pub law-expression : Law Read.expression Write.expression HeldExpression
unfolding Read.expression
law-expression = law-by (kinds-back Read.expressions 3 kind-expression) expression-reads

-- a statement
abbrev pub HeldStatement : Statement → Type 0
HeldStatement s = InStatement s × HoldsExpression s.source

pub law-statement : Law Read.statement Write.statement HeldStatement
unfolding Read.statement Write.statement
law-statement =
    law-made (made_then law-temporary (λ x. made (λ e. record { target = x; source = e }) law-expression))
    (λ (x, e) (h, (g, i)). (refl, (record { target = h; source = g }, i)))
    (λ s (h, g). ((s.target, s.source), refl, refl, (h.target, (h.source, g))))

-- a transfer
abbrev pub HeldTransfer : Transfer → Type 0
HeldTransfer T = InTransfer T × HoldsTransfer T

-- by its kinds: what is read behind each
made-goto : Made Read.goto (λ (c : ℕ × List ℕ). Transfer.goto c.0 c.1) (λ c. c.0 ∷ Write.arguments c.1)
    (λ c. Name c.0 × Arguments 8 c.1)
unfolding Read.goto
made-goto = made_then law-name (λ b. made (Transfer.goto b) law-arguments)

made-if : Made Read.if (λ (c : Expression × (ℕ × ℕ)). Transfer.if c.0 c.1.0 c.1.1)
    (λ c. Write.expression c.0 ++ (c.1.0 ∷ c.1.1 ∷ [])) (λ c. HeldExpression c.0 × (Name c.1.0 × Name c.1.1))
unfolding Read.if
made-if = made_then law-expression (λ e. made_then law-name (λ b. made (Transfer.if e b) law-name))

made-call : Made Read.call (λ (c : ℕ × (List ℕ × ℕ)). Transfer.call c.0 c.1.0 c.1.1)
    (λ c. c.0 ∷ Write.arguments c.1.0 ++ (c.1.1 ∷ [])) (λ c. Name c.0 × (Arguments 8 c.1.0 × Name c.1.1))
unfolding Read.call
made-call = made_then law-name (λ g. made_then law-arguments (λ x̄. made (Transfer.call g x̄) law-name))

made-return : Made Read.return Transfer.return Write.arguments (Arguments 4)
unfolding Read.return
made-return = made Transfer.return (law-few 4)

-- two names, and what is made of them
made-names : (T : ℕ → ℕ → Transfer)
    → Made (Read.◌>>=◌ Read.name (λ b. Read.◌>>=◌ Read.name (λ c. Read.pure (T b c)))) (λ (c : ℕ × ℕ). T c.0 c.1)
    (λ c. c.0 ∷ c.1 ∷ []) (λ c. Name c.0 × Name c.1)
made-names T = made_then law-name (λ b. made (T b) law-name)

made-spork : Made Read.spork (λ (c : ℕ × ℕ). Transfer.spork c.0 c.1) (λ c. c.0 ∷ c.1 ∷ []) (λ c. Name c.0 × Name c.1)
unfolding Read.spork
made-spork = made-names Transfer.spork

made-spoin : Made Read.spoin (λ (c : ℕ × ℕ). Transfer.spoin c.0 c.1) (λ c. c.0 ∷ c.1 ∷ []) (λ c. Name c.0 × Name c.1)
unfolding Read.spoin
made-spoin = made-names Transfer.spoin

-- every kind in turn, and every transfer by its kind
kind-transfer : (k : ℕ) → Kind (pick Read.transfers k) Write.transfer HeldTransfer k
unfolding pick Write.transfer HoldsTransfer InTransfer
kind-transfer zero = kind-made made-goto (λ (b, x̄) (h, g). (refl, (g, h)))
kind-transfer (suc zero) = kind-made made-if (λ (e, bs) ((h, i), (g, j)). (refl, (h, (i, g, j))))
kind-transfer (suc (suc zero)) = kind-made made-call (λ c (h, (g, i)). (refl, (g, (h, i))))
kind-transfer (suc (suc (suc zero))) = kind-made made-return (λ x̄ h. (refl, (h, tt)))
kind-transfer (suc (suc (suc (suc zero)))) = kind-made made-spork (λ c h. (refl, (tt, h)))
kind-transfer (suc (suc (suc (suc (suc zero))))) = kind-made made-spoin (λ c h. (refl, (tt, h)))
kind-transfer (suc (suc (suc (suc (suc (suc k)))))) = kind-none

transfer-reads : (s : List ℕ) (at : ℕ) (T : Transfer) (k : ℕ) → HeldTransfer T → Between s at k (Write.transfer T)
    → Read.transfer s at ≡ Parsed.ok T k
unfolding Read.transfer Write.transfer HoldsTransfer InTransfer pick
transfer-reads s at (Transfer.goto b x̄) k (h, g) i = kind-reads Read.transfers 5 0 (omega arith) made-goto s at (b, x̄) k (g, h) i
transfer-reads s at (Transfer.if e b c) k (h, (g, m, n)) i =
    kind-reads Read.transfers 5 1 (omega arith) made-if s at (e, (b, c)) k ((h, g), (m, n)) i
transfer-reads s at (Transfer.call g x̄ b) k (h, (m, n)) i =
    kind-reads Read.transfers 5 2 (omega arith) made-call s at (g, (x̄, b)) k (m, (h, n)) i
transfer-reads s at (Transfer.return x̄) k (h, g) i = kind-reads Read.transfers 5 3 (omega arith) made-return s at x̄ k h i
transfer-reads s at (Transfer.spork b π) k (h, g) i = kind-reads Read.transfers 5 4 (omega arith) made-spork s at (b, π) k g i
transfer-reads s at (Transfer.spoin b c) k (h, g) i = kind-reads Read.transfers 5 5 (omega arith) made-spoin s at (b, c) k g i

pub law-transfer : Law Read.transfer Write.transfer HeldTransfer
unfolding Read.transfer
law-transfer = law-by (kinds-back Read.transfers 5 kind-transfer) transfer-reads

-- a block's head
abbrev pub HeldHead : Head → Type 0
HeldHead H = InHead H × Each Name H.nesting

pub law-head : Law Read.head Write.head HeldHead
unfolding Read.head Write.head Write.arguments
law-head =
    law-made
    (made_then law-arguments
    (λ x̄. made_then law-half (λ Γ. made (λ ρ. record { parameters = x̄; scope = Γ; nesting = ρ }) (law-counted law-name 4))))
    (λ c (h, (g, (i, j))). (refl, (record { parameters = h; scope = g; nesting = j }, i)))
    (λ H (h, g). ((H.parameters, (H.scope, H.nesting)), refl, refl, (h.parameters, (h.scope, (g, h.nesting)))))

-- as version 2 has it: no scope and no nesting
abbrev pub Bare : Head → Type 0
Bare H = (H.scope ≡ 0) × (H.nesting ≡ [])

pub law-bare : Law Read.bare Write.bare (λ H. HeldHead H × Bare H)
unfolding Read.bare Write.bare
law-bare =
    law-made (made (λ x̄. record { parameters = x̄; scope = 0; nesting = [] }) law-arguments)
    (λ x̄ h. (refl, ((record { parameters = h; scope = omega arith; nesting = omega arith }, tt), (refl, refl))))
    (λ H ((h, n), (e, d)).
    let Γ = sym e in let ρ = sym d in
    (H.parameters, (λ i. record { parameters = H.parameters; scope = Γ i; nesting = ρ i }), refl, h.parameters))

-- a block
abbrev pub HeldBlock : Block → Type 0
HeldBlock B = InBlock B × HoldsBlock B

-- by any head, of which K holds
module _ {p : Parser Head} {w : Head → List ℕ} {K : Head → Type 0} (l : Law p w (λ H. HeldHead H × K H)) where
  abbrev Besides : Block → Type 0
  Besides B = K B.head

  pub law-block_by : Law (Read.block_by p) (Write.block_by w) (λ B. HeldBlock B × Besides B)
  unfolding Read.block_by Write.block_by
  law-block_by =
      law-made
      (made_then l
      (λ h. made_then (law-counted law-statement 32) (λ c. made (λ t. record { head = h; code = c; transfer = t }) law-transfer)))
      (λ (H, (c, T)) (((h, n), q), ((i, few), (t, u))). (
        refl,
        (
          (
            record { head = h; few = few; code = each_map (λ s (h : HeldStatement s). h.0) c i; transfer = t },
            record { nesting = n; code = each_map (λ s (h : HeldStatement s). h.1) c i; transfer = u },
          ),
          q,
        ),
      ))
      (λ B ((h, g), q). (
        (B.head, (B.code, B.transfer)),
        refl,
        refl,
        (
          ((h.head, g.nesting), q),
          (
            (each_both InStatement (λ s. HoldsExpression s.source) B.code h.code g.code, h.few),
            (h.transfer, g.transfer),
          ),
        ),
      ))

-- a spawn call
abbrev pub HeldSpawn : SpawnCall → Type 0
HeldSpawn S = InSpawn S × Name S.function

pub law-spawn_call : Law Read.spawn_call Write.spawn_call HeldSpawn
unfolding Read.spawn_call Write.spawn_call
law-spawn_call =
    law-made (made_then law-name (λ g. made (λ x̄. record { function = g; arguments = x̄ }) law-arguments))
    (λ c (h, g). (refl, (g, h))) (λ S (h, g). ((S.function, S.arguments), refl, refl, (g, h)))

-- a function
abbrev pub HeldFunction : Function → Type 0
HeldFunction F = InFunction F × HoldsFunction F

module _ {p : Parser Head} {w : Head → List ℕ} {K : Head → Type 0} (l : Law p w (λ H. HeldHead H × K H)) where
  -- K of each block's head
  abbrev pub Within : Function → Type 0
  Within F = Each (λ B. K B.head) F.blocks

  pub law-function_by : Law (Read.function_by p) (Write.function_by w) (λ F. HeldFunction F × Within F)
  unfolding Read.function_by Write.function_by
  law-function_by =
      law-made
      (made_then (law-byte 0 8)
      (λ n. made_then (law-byte 0 4)
      (λ r. made_then (law-byte 1 32)
      (λ b. made_then (law-byte 0 8)
      (λ c. made_then (law-many law-spawn_call c)
      (λ π̄. made (λ B̄. record { signature = record { parameters = n; returns = r }; spawns = π̄; blocks = B̄ })
      (law-many (law-block_by l) b)))))))
      (λ (n, (r, (b, (c, (π̄, B̄))))) (p, (q, (u, (v, ((h, e), (g, d)))))). (
        rw (d, e),
        (
          (
            record {
              parameters = p.1;
              returns = q.1;
              few_spawns = omega arith;
              spawns = each_map (λ S (h : HeldSpawn S). h.0) π̄ h;
              some_block = omega arith;
              few_blocks = omega arith;
              blocks = each_map (λ B (h : HeldBlock B × K B.head). h.0.0) B̄ g;
            },
            record {
              spawns = each_map (λ S (h : HeldSpawn S). h.1) π̄ h;
              blocks = each_map (λ B (h : HeldBlock B × K B.head). h.0.1) B̄ g;
            },
          ),
          each_map (λ B (h : HeldBlock B × K B.head). h.1) B̄ g,
        ),
      ))
      (λ F ((h, g), q). (
        (F.signature.parameters, (F.signature.returns, (length F.blocks, (length F.spawns, (F.spawns, F.blocks))))),
        refl,
        refl,
        (
          (omega arith, h.parameters),
          (
            (omega arith, h.returns),
            (
              (h.some_block, h.few_blocks),
              (
                (omega arith, h.few_spawns),
                (
                  (each_both InSpawn (λ S. Name S.function) F.spawns h.spawns g.spawns, refl),
                  (
                    each_both HeldBlock (λ B. K B.head) F.blocks
                        (each_both InBlock HoldsBlock F.blocks h.blocks g.blocks) q,
                    refl,
                  ),
                ),
              ),
            ),
          ),
        ),
      ))

-- a program
abbrev pub HeldProgram : Program → Type 0
HeldProgram P = Limits P × Each HoldsFunction P

module _ {p : Parser Head} {w : Head → List ℕ} {K : Head → Type 0} (l : Law p w (λ H. HeldHead H × K H)) where
  pub law-program_by : Law (Read.program_by p) (Write.program_by w) (λ P. HeldProgram P × Each (λ F. Each (λ B. K B.head) F.blocks) P)
  unfolding Read.program_by Write.program_by
  law-program_by =
      law-as (law-numbered (law-function_by l) 1 16)
      (λ P (h, (a, b)). (
        (
          record { some = a; few = b; functions = each_map (λ F (h : HeldFunction F × Each (λ B. K B.head) F.blocks). h.0.0) P h },
          each_map (λ F (h : HeldFunction F × Each (λ B. K B.head) F.blocks). h.0.1) P h,
        ),
        each_map (λ F (h : HeldFunction F × Each (λ B. K B.head) F.blocks). h.1) P h,
      ))
      (λ P ((h, g), q). (
        each_both HeldFunction (λ F. Each (λ B. K B.head) F.blocks) P (each_both InFunction HoldsFunction P h.functions g) q,
        (h.some, h.few),
      ))

-- version 1: of its heads nothing is held besides
law-full : Law Read.head Write.head (λ H. HeldHead H × Unit {0})
law-full = law-as law-head (λ H h. (h, tt)) (λ H h. h.0)

none-besides : {A : Type 0} (xs : List A) → Each (λ x. Unit {0}) xs
none-besides [] = tt
none-besides (x ∷ xs) = (tt, none-besides xs)

pub law-block : Law Read.block Write.block HeldBlock
law-block = law-as (law-block_by law-full) (λ B h. h.0) (λ B h. (h, tt))

pub law-function : Law Read.function Write.function HeldFunction
law-function = law-as (law-function_by law-full) (λ F h. h.0) (λ F h. (h, none-besides F.blocks))

each_none : (P : Program) → Each (λ F. Each (λ B. Unit {0}) F.blocks) P
each_none [] = tt
each_none (F ∷ P) = (none-besides F.blocks, each_none P)

pub law-program : Law Read.program Write.program HeldProgram
law-program = law-as (law-program_by law-full) (λ P h. h.0) (λ P h. (h, each_none P))

-- version 2
pub law-brief : Law (Read.program_by Read.bare) (Write.program_by Write.bare)
    (λ P. HeldProgram P × Each (λ F. Each (λ B. Bare B.head) F.blocks) P)
law-brief = law-program_by law-bare

-- a length field that is not 0 is the word at the start, and the other way round
field-stands : (s : List ℕ) (n : ℕ) → Read.length_field s ≡ n → 0 < n → Between s 0 4 (Write.word n)
unfolding Read.length_field Read.or_zero Write.word Write.half
field-stands s n e h = go (Read.word s 0) refl e
  where
    go : (o : Parsed ℕ) → Read.word s 0 ≡ o → Read.or_zero o ≡ n → Between s 0 4 (Write.word n)
    go (Parsed.ok m k) f e = let b = back law-word s 0 m k f in rw (← e, ← b.end) b
    go (Parsed.bad place) f e = absurd (omega arith)

stands-field : (s : List ℕ) (n k : ℕ) → n < 2 ^ 32 → Between s 0 k (Write.word n) → Read.length_field s ≡ n
unfolding Read.length_field Read.or_zero
stands-field s n k h b = ap Read.or_zero (forth law-word s 0 n k h b)

-- the table's length is its program's, and 5 bytes more
pub table-length : (P : Program) → length (Write.table P) ≡ 5 + length (Write.program P)
unfolding Write.table Write.word Write.half
table-length P = omega arith

-- what reads is written so, and what is written so reads
written : (s : List ℕ) (P : Program) → Reads s P → (Write.table P ≡ s) × Holds P
unfolding Write.table
written s P r =
    let z = sized-is s (Read.length_field s) r.sized in
    let b = back law-program s 5 P (length s) r.program in
    let (limits, functions) = law-program.holds s 5 P (length s) r.program in
    let n : length s ≡ length (Write.program P) + 5 = omega (arith, b.end) in
    let version : Between s 4 5 (1 ∷ []) = byte-stands s 4 1 5 (omega (arith, z.least)) (eqb-true (get_or s 4 0) 1 r.version) refl in
    let field : Between s 0 4 (Write.word (length s)) = field-stands s (length s) z.is (omega (arith, z.least)) in (
      ap (λ (k : ℕ). Write.word k ++ (1 ∷ Write.program P)) (sym n) ∙ whole-between s _ (between-append field (between-append version b)),
      record { limits = limits; functions = functions; short = omega (arith, table-length P, z.most) },
    )

read-written : (P : Program) → Holds P → Reads (Write.table P) P
unfolding Write.table Write.word Write.half Write.program_by Write.counted
read-written P h =
    let s : List ℕ = Write.table P in
    let n : ℕ = length (Write.program P) + 5 in
    let l : length s ≡ 5 + length (Write.program P) = table-length P in
    let all : Between s 0 (length s) (Write.word n ++ (1 ∷ Write.program P)) = between-whole s in
    let behind : Between s 4 (length s) ((1 ∷ []) ++ Write.program P) = between-right (Write.word n) _ all in
    let field = stands-field s n 4 (omega (arith, h.short)) (between_left (Write.word n) _ all) in
    record {
      sized = is-sized s _ (record { least = omega arith; most = h.short; is = field ∙ omega arith });
      version = refl;
      program = forth law-program s 5 P (length s) (h.limits, h.functions) (between-right (1 ∷ []) (Write.program P) behind);
    }

pub inverse : Inverse
inverse =
    record {
      written = λ s P e. written s P (reads s P e);
      reads = λ P h. reads-back (Write.table P) P (read-written P h);
    }

-- a table of version 2 is its functions, and 5 bytes before them
pub brief-written : (s : List ℕ) (P : Program) → Read.read_brief s ≡ Answer.given P
    → (length s ≡ 5 + length (Write.program_by Write.bare P)) × HeldProgram P × Each (λ F. Each (λ B. Bare B.head) F.blocks) P
brief-written s P e =
    let r = brief-reads s P e in
    let b = back law-brief s 5 P (length s) r.program in
    let (held, bare) = law-brief.holds s 5 P (length s) r.program in
    (b.end, held, bare)
