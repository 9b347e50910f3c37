-- Every table that reads keeps to the limits: one law a combinator says what a parser's values have in common, and one a part of
-- the table follows its rule.
use Prim.Native.Nat.{ℕ, zero, suc, ◌+◌, ◌*◌, ◌^◌, ◌≤◌, ◌<◌}
use mathlib.Core.Path.{◌≡◌, refl, ap, subst}
use mathlib.Core.Bool.{Bool, true, false, ◌&&◌, cond}
use mathlib.Core.List.{List, [], ◌∷◌, ◌++◌}
use native.Mathlib.Omega.{arith}
use lib.Dec.{leb, eqb}
use lib.ListN.{length, get_or}
use Rattle.model.specs.Answers.{Refusal, Answer}
use Rattle.model.specs.Lists.{Each}
use Rattle.model.specs.Syntax.{Atom, Expression, Transfer, Head, Program, uses_atom, uses}
use Rattle.model.specs.Read as Read
use Rattle.model.specs.Read.{Parsed, Parser, Version, byte, many, counted, pick, read}
use Rattle.model.specs.Values.{signed}
use Rattle.model.specs.Pool.{temporaries}
use Rattle.model.specs.Limits.{Temporaries, Arguments, InStatement, InTransfer, InHead, InBlock, InSpawn, InFunction, Limits}
use Rattle.model.proofs.Facts.{refused-given, and_left, and_right, both-and, leb-true, le-leb, eqb-true, eq-eqb, each_append}
use Rattle.model.proofs.Reading.{bad-ok, ok-value, next-ok, byte-ok}

-- p gives only values with Q
pub record Gives {A : Type 0} (p : Parser A) (Q : A → Type 0) : Type 0 where
  pub gives : (s : List ℕ) (at : ℕ) (a : A) (k : ℕ) → p s at ≡ Parsed.ok a k → Q a

module _ {A : Type 0} where
  pub gives-pure : {Q : A → Type 0} (a : A) → Q a → Gives (Read.pure a) Q
  gives-pure {Q} a h = record { gives = λ s at b k e. subst Q (ok-value e) h }

  pub gives_more : {p : Parser A} {Q R : A → Type 0} → Gives p Q → ((a : A) → Q a → R a) → Gives p R
  gives_more h f = record { gives = λ s at a k e. f a (h.gives s at a k e) }

  pub gives_then : {B : Type 0} {p : Parser A} {f : A → Parser B} {Q : A → Type 0} {R : B → Type 0} → Gives p Q
      → ((a : A) → Q a → Gives (f a) R) → Gives (Read.◌>>=◌ p f) R
  gives_then {B} {p} {f} h g =
      record {
        gives = λ s at b k e.
            let t = next-ok (p s at) (λ a j. f a s j) e in
            (g t.value (h.gives s at _ _ t.first)).gives s t.between b k t.then;
      }

module _ {A : Type 0} where
  pub gives-many : {p : Parser A} {Q : A → Type 0} → Gives p Q → (n : ℕ) → Gives (many p n) (λ xs. Each Q xs × (length xs ≡ n))
  unfolding many
  gives-many h zero = gives-pure [] (tt, refl)
  gives-many h (suc n) = gives_then h λ x q. gives_then (gives-many h n) λ xs r. gives-pure (x ∷ xs) ((q, r.0), ap suc r.1)

pub gives-byte : (lo hi : ℕ) → Gives (byte lo hi) (λ n. (lo ≤ n) × (n ≤ hi))
gives-byte lo hi = record { gives = λ s at n k e. let b = byte-ok lo hi s at n k e in (b.low, b.high) }

module _ {A : Type 0} where
  pub gives-counted : {p : Parser A} {Q : A → Type 0} (most : ℕ) → Gives p Q → Gives (counted most p) (λ xs. Each Q xs × (length xs ≤ most))
  unfolding counted
  gives-counted most h = gives_then (gives-byte 0 most) λ n b. gives_more (gives-many h n) λ xs r. (r.0, omega arith)

  pub gives-pick : (Q : A → Type 0) (ps : List (Parser A)) (k : ℕ) → Each (λ p. Gives p Q) ps → Gives (pick ps k) Q
  unfolding pick
  gives-pick Q [] k h = record { gives = λ s at a j e. bad-ok e }
  gives-pick Q (p ∷ ps) zero (h, hs) = h
  gives-pick Q (p ∷ ps) (suc k) (h, hs) = gives-pick Q ps k hs

-- the parts of a table
pub temporary : Gives Read.temporary (λ x. x < temporaries)
unfolding Read.temporary
temporary = gives_more (gives-byte 0 15) λ x b. omega arith

pub name : Gives Read.name (λ n. n < 256)
unfolding Read.name
name = gives_more (gives-byte 0 255) λ x b. omega arith

pub half : Gives Read.half (λ n. n < 65536)
unfolding Read.half
half = gives_then (gives-byte 0 255) λ a p. gives_then (gives-byte 0 255) λ b q. gives-pure (a * 256 + b) (omega arith)

pub word : Gives Read.word (λ n. n < 2 ^ 32)
unfolding Read.word
word = gives_then half λ a p. gives_then half λ b q. gives-pure (a * 65536 + b) (omega arith)

pub few : (most : ℕ) → Gives (counted most Read.temporary) (Arguments most)
few most = gives_more (gives-counted most temporary) λ x̄ h. record { each = h.0; few = h.1 }

pub arguments : Gives Read.arguments (Arguments 8)
unfolding Read.arguments
arguments = few 8

pub atom : Gives Read.atom (λ m. Temporaries (uses_atom m))
unfolding Read.atom Read.value Read.variable uses_atom
atom =
    gives_then (gives-byte 0 1) λ k _. gives-pick _ Read.atoms k (
      gives_then word (λ n _. gives-pure (Atom.value (signed n)) tt),
      (gives_then temporary (λ x h. gives-pure (Atom.temporary x) (h, tt)), tt),
    )

both : (m n : Atom) → Temporaries (uses_atom m) → Temporaries (uses_atom n) → Temporaries (uses_atom m ++ uses_atom n)
both m n h g = each_append (λ x. x < temporaries) (uses_atom m) (uses_atom n) h g

pub expression : Gives Read.expression (λ e. Temporaries (uses e))
unfolding Read.expression Read.unary Read.binary uses
expression =
    gives_then (gives-byte 0 3) λ k _. gives-pick _ _ k (
      gives_then atom (λ m h. gives-pure (Expression.atom m) h),
      (
        gives_then atom (λ m h. gives-pure (Expression.minus m) h),
        (
          gives_then atom (λ m h. gives_then atom (λ n g. gives-pure (Expression.plus m n) (both m n h g))),
          (gives_then atom (λ m h. gives_then atom (λ n g. gives-pure (Expression.less m n) (both m n h g))), tt),
        ),
      ),
    )

pub statement : Gives Read.statement InStatement
unfolding Read.statement
statement =
    gives_then temporary λ x h. gives_then expression λ e g. gives-pure (record { target = x; source = e })
    (record { target = h; source = g })

pub transfer : Gives Read.transfer InTransfer
unfolding Read.transfer Read.goto Read.if Read.call Read.return Read.spork Read.spoin InTransfer
transfer =
    gives_then (gives-byte 0 5) λ k _. gives-pick _ _ k (
      gives_then name (λ b _. gives_then arguments (λ x̄ h. gives-pure (Transfer.goto b x̄) h)),
      (
        gives_then expression (λ e h. gives_then name (λ b _. gives_then name (λ c _. gives-pure (Transfer.if e b c) h))),
        (
          gives_then name (λ g _. gives_then arguments (λ x̄ h. gives_then name (λ b _. gives-pure (Transfer.call g x̄ b) h))),
          (
            gives_then (few 4) (λ x̄ h. gives-pure (Transfer.return x̄) h),
            (
              gives_then name (λ b _. gives_then name (λ π _. gives-pure (Transfer.spork b π) tt)),
              (gives_then name (λ b _. gives_then name (λ c _. gives-pure (Transfer.spoin b c) tt)), tt),
            ),
          ),
        ),
      ),
    )

pub head : Gives Read.head InHead
unfolding Read.head
head =
    gives_then arguments λ x̄ p. gives_then half λ Γ q. gives_then (gives-counted 4 name) λ ρ r.
    gives-pure (record { parameters = x̄; scope = Γ; nesting = ρ }) (record { parameters = p; scope = q; nesting = r.1 })

-- a block, a function and a program, by any head that keeps to its limits
pub block_by : {p : Parser Head} → Gives p InHead → Gives (Read.block_by p) InBlock
unfolding Read.block_by
block_by g =
    gives_then g λ h p. gives_then (gives-counted 32 statement) λ c q. gives_then transfer λ t r.
    gives-pure (record { head = h; code = c; transfer = t }) (record { head = p; few = q.1; code = q.0; transfer = r })

pub spawn_call : Gives Read.spawn_call InSpawn
unfolding Read.spawn_call
spawn_call = gives_then name λ g _. gives_then arguments λ x̄ h. gives-pure (record { function = g; arguments = x̄ }) h

pub function_by : {p : Parser Head} → Gives p InHead → Gives (Read.function_by p) InFunction
unfolding Read.function_by
function_by i =
    gives_then (gives-byte 0 8) λ n p. gives_then (gives-byte 0 4) λ r q.
    gives_then (gives-byte 1 32) λ b bs. gives_then (gives-byte 0 8) λ c cs.
    gives_then (gives-many spawn_call c) λ π̄ h. gives_then (gives-many (block_by i) b) λ B̄ g.
    gives-pure (record { signature = record { parameters = n; returns = r }; spawns = π̄; blocks = B̄ })
    (record {
      parameters = p.1;
      returns = q.1;
      few_spawns = omega arith;
      spawns = h.0;
      some_block = omega arith;
      few_blocks = omega arith;
      blocks = g.0;
    })

pub program_by : {p : Parser Head} → Gives p InHead → Gives (Read.program_by p) Limits
unfolding Read.program_by
program_by i =
    gives_then (gives-byte 1 16) λ n b. gives_more (gives-many (function_by i) n) λ P h.
    record { some = omega arith; few = omega arith; functions = h.0 }

pub bare : Gives Read.bare InHead
unfolding Read.bare
bare =
    gives_then arguments λ x̄ p.
    gives-pure (record { parameters = x̄; scope = 0; nesting = [] }) (record { parameters = p; scope = omega arith; nesting = omega arith })

pub block : Gives Read.block InBlock
block = block_by head

pub function : Gives Read.function InFunction
function = function_by head

pub program : Gives Read.program Limits
program = program_by head

-- a table of the right size for a version, as the test has it and as facts
pub record Sized (v : Version) (s : List ℕ) (field : ℕ) : Type 0 where
  pub least : 6 ≤ length s
  pub most : length s ≤ v.most
  pub is : field ≡ length s

pub sized-is : {v : Version} (s : List ℕ) (n : ℕ) → Read.sized_as v s n ≡ true → Sized v s n
unfolding Read.sized_as
sized-is {v} s n e =
    let a = leb 6 (length s) in let b = leb (length s) v.most in let c = eqb n (length s) in
    let both = and_left (a && b) c e in
    record {
      least = leb-true 6 (length s) (and_left a b both);
      most = leb-true (length s) v.most (and_right a b both);
      is = eqb-true n (length s) (and_right (a && b) c e);
    }

pub is-sized : {v : Version} (s : List ℕ) (n : ℕ) → Sized v s n → Read.sized_as v s n ≡ true
unfolding Read.sized_as
is-sized {v} s n h =
    both-and _ (eqb n (length s))
    (both-and _ (leb (length s) v.most) (le-leb 6 (length s) h.least) (le-leb (length s) v.most h.most))
    (eq-eqb n (length s) h.is)

-- what reads has its sizes and version, and is a program that ends where the table ends
pub record ReadsAs (v : Version) (s : List ℕ) (P : Program) : Type 0 where
  pub sized : Read.sized_as v s (Read.length_field s) ≡ true
  pub version : eqb (get_or s 4 0) v.number ≡ true
  pub program : Read.program_by v.head s 5 ≡ Parsed.ok P (length s)

abbrev pub Reads : List ℕ → Program → Type 0
Reads s P = ReadsAs Read.full s P

cond-given : {A : Type 0} (b : Bool) (x : Answer A) (r : Refusal) {a : A} → cond b x (Answer.refused r) ≡ Answer.given a
    → (b ≡ true) × (x ≡ Answer.given a)
cond-given true x r e = (refl, e)
cond-given false x r e = refused-given e

whole-given : (s : List ℕ) (o : Parsed Program) (P : Program) → Read.whole s o ≡ Answer.given P → o ≡ Parsed.ok P (length s)
unfolding Read.whole
whole-given s (Parsed.bad place) P e = refused-given e
whole-given s (Parsed.ok Q at) P e =
    let (ends, q) = cond-given (eqb at (length s)) _ _ e in
    let n : at ≡ length s = eqb-true at (length s) ends in
    cc

reads_as : (v : Version) (s : List ℕ) (P : Program) → Read.read_as v s 5 (Read.length_field s) (get_or s 4 0) ≡ Answer.given P → ReadsAs v s P
unfolding Read.read_as
reads_as v s P e =
    let (sized, e₁) = cond-given (Read.sized_as v s (Read.length_field s)) _ _ e in
    let (version, e₂) = cond-given (eqb (get_or s 4 0) v.number) _ _ e₁ in
    record { sized = sized; version = version; program = whole-given s (Read.program_by v.head s 5) P e₂ }

pub reads : (s : List ℕ) (P : Program) → read s ≡ Answer.given P → Reads s P
unfolding Read.read
reads s P e = reads_as Read.full s P e

pub brief-reads : (s : List ℕ) (P : Program) → Read.read_brief s ≡ Answer.given P → ReadsAs Read.brief s P
unfolding Read.read_brief
brief-reads s P e = reads_as Read.brief s P e

pub reads-back : (s : List ℕ) (P : Program) → Reads s P → read s ≡ Answer.given P
unfolding Read.read Read.read_as Read.whole
reads-back s P r = rw (r.sized, r.version, r.program, eq-eqb (length s) (length s) refl)

pub read-limits : (s : List ℕ) (P : Program) → read s ≡ Answer.given P → Limits P
read-limits s P e = program.gives s 5 P (length s) (reads s P e).program

pub brief-limits : (s : List ℕ) (P : Program) → Read.read_brief s ≡ Answer.given P → Limits P
brief-limits s P e = (program_by bare).gives s 5 P (length s) (brief-reads s P e).program
