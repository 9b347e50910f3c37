-- Which numbers a call can give, for all bytes, words and choices: the refusals with their places, and what is given.
use Prim.Native.Nat.{ℕ, zero, suc, ◌+◌, ◌≤◌, ◌<◌}
use mathlib.Core.Path.{◌≡◌, refl, sym, ◌∙◌, ap}
use mathlib.Core.Logic.{◌⊎◌, inl, inr, ◌≢◌}
use mathlib.Core.Bool.{Bool, true, false, ◌&&◌, cond}
use mathlib.Core.Option.{Option, none, some}
use mathlib.Core.List.{List, [], ◌∷◌, ◌++◌}
use native.Mathlib.Nat.{zero-add}
use native.Mathlib.Numerals.{add-one}
use native.Mathlib.Omega.{arith}
use lib.Dec.{eqb, leb, ltb}
use lib.IntN.{ℤ, pos}
use lib.ListN.{length, get_or, get_elem?}
use Rattle.model.specs.Numbers as No
use Rattle.model.specs.Numbers.{Within, RuleOf, StepRefusal, RefusalOf}
use Rattle.model.specs.Answers.{Refusal, Answer, with}
use Rattle.model.specs.Lists.{Each, equal, unsnoc}
use Rattle.model.specs.Sets
use Rattle.model.specs.Values.{same}
use Rattle.model.specs.Syntax.{Statement, Transfer, Head, Block, Function, Program}
use Rattle.model.specs.Read as Read
use Rattle.model.specs.Read.{Parsed, Parser, Version, ◌>>=◌, byte, many, counted, pick, read}
use Rattle.model.specs.Tests.{Tests, or, of_given, of_each, fault}
use Rattle.model.specs.WellFormed.{Env, env}
use Rattle.model.specs.Check as Check
use Rattle.model.specs.Check.{Placed, nowhere, at, first_fault, judge}
use Rattle.model.specs.Limits.{InTransfer, InBlock, InFunction, Limits}
use Rattle.model.specs.Pool
use Rattle.model.specs.Pool.{Frame, Thread, Pool, most_frames, most_threads, pool_words, frames, restacked, block_in, block_of, function_of}
use Rattle.model.specs.Pool.{are_pool, pool_of}
use Rattle.model.specs.Frames.{look, look_all, eval, deque, enter, callee}
use Rattle.model.specs.Rules
use Rattle.model.specs.Rules.{Act, by, acts, act, Result, choice, main_values}
use Rattle.model.specs.Calls
use Rattle.model.specs.Calls.{Lent, lent, check, Choice, can_step, first}
use Rattle.model.proofs.Facts.{refused-given, none-some, and_left, and_right, leb-true, ltb-true, each_at, at-below}
use Rattle.model.proofs.Reading.{next-ok, byte-ok, many-item, many-length, ok-offset}
use Rattle.model.proofs.Guarantees
use Rattle.model.proofs.Guarantees.{Gives, gives-pure, gives_then, gives-byte, gives-many, sized-is, reads, brief-reads, read-limits}
use Rattle.model.proofs.Valid.{pool-facts}
use Rattle.model.proofs.Words.{lent-given, lent-words}
use Rattle.model.proofs.Kept.{OnSome, on-bind, on-is, on-when, on-carry, choose-lent}
use Rattle.model.proofs.Lowest.{Found, lowest-found}
use Rattle.model.proofs.Schedules.{run-kept}

-- a range, from its test
pub tested : (lo hi n : ℕ) → (leb lo n && leb n hi) ≡ true → Within lo hi n
tested lo hi n e = (leb-true lo n (and_left _ (leb n hi) e), leb-true n hi (and_right (leb lo n) _ e))

-- what an answer can be: what is given has G, and a refusal has R
abbrev pub Can : {A : Type 0} → (A → Type 0) → (Refusal → Type 0) → Answer A → Type 0
Can G R (Answer.given a) = G a
Can G R (Answer.refused q) = R q

-- nothing is said of what is given
abbrev pub Any : {A : Type 0} → A → Type 0
Any a = Unit {0}

module _ {A B : Type 0} (H : B → Type 0) {R S : Refusal → Type 0} where
  can-with : (a : Answer A) (k : A → Answer B) → Can Any R a → ((q : Refusal) → R q → S q) →
      ((x : A) → a ≡ Answer.given x → Can H S (k x)) → Can H S (with a k)
  unfolding with
  can-with (Answer.given x) k h f g = g x refl
  can-with (Answer.refused q) k h f g = f q h

-- reading never leaves the table: where it ends, and the place of a bad byte, are offsets up to its length
abbrev Stays : {A : Type 0} → List ℕ → Parsed A → Type 0
Stays s (Parsed.ok a k) = k ≤ length s
Stays s (Parsed.bad place) = place ≤ length s

record Inside {A : Type 0} (p : Parser A) : Type 0 where
  stays : (s : List ℕ) (k : ℕ) → k ≤ length s → Stays s (p s k)

module _ {A : Type 0} where
  inside-pure : (a : A) → Inside (Read.pure a)
  inside-pure a = record { stays = λ s k h. h }

  inside-then : {B : Type 0} {p : Parser A} {f : A → Parser B} → Inside p → ((a : A) → Inside (f a)) → Inside (Read.◌>>=◌ p f)
  unfolding Read.next
  inside-then {B} {p} {f} h g = record { stays = λ s k l. go s (p s k) (h.stays s k l) }
    where
      go : (s : List ℕ) (o : Parsed A) → Stays s o → Stays s (Read.next o (λ a j. f a s j))
      go s (Parsed.ok a j) l = (g a).stays s j l
      go s (Parsed.bad place) l = l

  inside-pick : (ps : List (Parser A)) (k : ℕ) → Each Inside ps → Inside (pick ps k)
  unfolding pick
  inside-pick [] k h = record { stays = λ s k l. l }
  inside-pick (p ∷ ps) zero h = h.0
  inside-pick (p ∷ ps) (suc k) h = inside-pick ps k h.1

inside-byte : (lo hi : ℕ) → Inside (byte lo hi)
unfolding byte
inside-byte lo hi = record { stays = λ s k l. go s k (ltb k (length s)) (leb lo (get_or s k 0) && leb (get_or s k 0) hi) refl }
  where
    go : (s : List ℕ) (k : ℕ) (b c : Bool) → ltb k (length s) ≡ b →
        Stays s (cond b (cond c (Parsed.ok (get_or s k 0) (k + 1)) (Parsed.bad k)) (Parsed.bad (length s)))
    go s k true true e = omega (arith, ltb-true k (length s) e)
    go s k true false e = omega (arith, ltb-true k (length s) e)
    go s k false c e = omega arith

module _ {A : Type 0} {p : Parser A} (h : Inside p) where
  inside-many : (n : ℕ) → Inside (many p n)
  unfolding many
  inside-many zero = inside-pure []
  inside-many (suc n) = inside-then h λ x. inside-then (inside-many n) λ xs. inside-pure (x ∷ xs)

  inside-counted : (most : ℕ) → Inside (counted most p)
  unfolding counted
  inside-counted most = inside-then (inside-byte 0 most) inside-many

inside-temporary : Inside Read.temporary
unfolding Read.temporary
inside-temporary = inside-byte 0 15

inside-name : Inside Read.name
unfolding Read.name
inside-name = inside-byte 0 255

inside-arguments : Inside Read.arguments
unfolding Read.arguments
inside-arguments = inside-counted inside-temporary 8

inside-half : Inside Read.half
unfolding Read.half
inside-half = inside-then (inside-byte 0 255) λ a. inside-then (inside-byte 0 255) λ b. inside-pure _

inside-atom : Inside Read.atom
unfolding Read.atom Read.value Read.word Read.variable
inside-atom =
    inside-then (inside-byte 0 1) λ k. inside-pick _ k (
      inside-then (inside-then inside-half λ a. inside-then inside-half λ b. inside-pure _) (λ n. inside-pure _),
      (inside-then inside-temporary (λ x. inside-pure _), tt),
    )

inside-expression : Inside Read.expression
unfolding Read.expression Read.unary Read.binary
inside-expression =
    inside-then (inside-byte 0 3) λ k. inside-pick _ k (
      inside-then inside-atom (λ m. inside-pure _),
      (
        inside-then inside-atom (λ m. inside-pure _),
        (
          inside-then inside-atom (λ m. inside-then inside-atom (λ n. inside-pure _)),
          (inside-then inside-atom (λ m. inside-then inside-atom (λ n. inside-pure _)), tt),
        ),
      ),
    )

inside-statement : Inside Read.statement
unfolding Read.statement
inside-statement = inside-then inside-temporary λ x. inside-then inside-expression λ e. inside-pure _

inside-transfer : Inside Read.transfer
unfolding Read.transfer Read.goto Read.if Read.call Read.return Read.spork Read.spoin
inside-transfer =
    inside-then (inside-byte 0 5) λ k. inside-pick _ k (
      inside-then inside-name (λ b. inside-then inside-arguments (λ x̄. inside-pure _)),
      (
        inside-then inside-expression (λ e. inside-then inside-name (λ b. inside-then inside-name (λ c. inside-pure _))),
        (
          inside-then inside-name (λ g. inside-then inside-arguments (λ x̄. inside-then inside-name (λ b. inside-pure _))),
          (
            inside-then (inside-counted inside-temporary 4) (λ x̄. inside-pure _),
            (
              inside-then inside-name (λ b. inside-then inside-name (λ π. inside-pure _)),
              (inside-then inside-name (λ b. inside-then inside-name (λ c. inside-pure _)), tt),
            ),
          ),
        ),
      ),
    )

inside-head : Inside Read.head
unfolding Read.head
inside-head =
    inside-then inside-arguments λ x̄. inside-then inside-half λ Γ. inside-then (inside-counted inside-name 4) λ ρ. inside-pure _

inside-bare : Inside Read.bare
unfolding Read.bare
inside-bare = inside-then inside-arguments λ x̄. inside-pure _

inside-spawn : Inside Read.spawn_call
unfolding Read.spawn_call
inside-spawn = inside-then inside-name λ g. inside-then inside-arguments λ x̄. inside-pure _

-- what stands above a head, whatever it is read by
module _ {p : Parser Head} (h : Inside p) where
  inside-block : Inside (Read.block_by p)
  unfolding Read.block_by
  inside-block =
      inside-then h λ h. inside-then (inside-counted inside-statement 32) λ c. inside-then inside-transfer λ t. inside-pure _

  inside-function : Inside (Read.function_by p)
  unfolding Read.function_by
  inside-function =
      inside-then (inside-byte 0 8) λ n. inside-then (inside-byte 0 4) λ r. inside-then (inside-byte 1 32) λ b.
      inside-then (inside-byte 0 8) λ c. inside-then (inside-many inside-spawn c) λ π̄. inside-then (inside-many inside-block b) λ B̄.
      inside-pure _

  inside-program : Inside (Read.program_by p)
  unfolding Read.program_by
  inside-program = inside-then (inside-byte 1 16) (inside-many inside-function)

-- a table's refusals: 1, 2, or 3 with a place in a table of the right size, or at its end
pub data OfTable (s : List ℕ) : Refusal → Type 0 where
  size : OfTable s (Refusal.plain No.size)
  version : OfTable s (Refusal.plain No.version)
  form : {place : ℕ} → place ≤ length s → Within 6 16384 (length s) → OfTable s (Refusal.byte place)

as-can : (v : Version) → v.most ≤ 16384 → Inside v.head → (s : List ℕ) →
    Can Any (OfTable s) (Read.read_as v s 5 (Read.length_field s) (get_or s 4 0))
unfolding Read.read_as Read.whole
as-can v most h s = go (Read.sized_as v s (Read.length_field s)) (eqb (get_or s 4 0) v.number) refl
  where
    ends : (o : Parsed Program) → Stays s o → Within 6 16384 (length s) → Can Any (OfTable s) (Read.whole s o)
    ends (Parsed.bad place) l w = OfTable.form l w
    ends (Parsed.ok P k) l w = left (eqb k (length s))
      where
        left : (b : Bool) → Can Any (OfTable s) (cond b (Answer.given P) (Answer.refused (Refusal.byte k)))
        left true = tt
        left false = OfTable.form l w

    go : (b c : Bool) → Read.sized_as v s (Read.length_field s) ≡ b → Can Any (OfTable s)
        (cond b
        (cond c (Read.whole s (Read.program_by v.head s 5)) (Answer.refused (Refusal.plain No.version)))
        (Answer.refused (Refusal.plain No.size)))
    go true true p =
        let S = sized-is s _ p in
        let l : 5 ≤ length s = omega (arith, S.least) in
        ends (Read.program_by v.head s 5) ((inside-program h).stays s 5 l) (S.least, omega (arith, S.most, most))
    go true false p = OfTable.version
    go false c p = OfTable.size

pub read-can : (s : List ℕ) → Can Any (OfTable s) (read s)
unfolding read
read-can s = as-can Read.full (omega arith) inside-head s

-- version 2
pub brief-can : (s : List ℕ) → Can Any (OfTable s) (Read.read_brief s)
unfolding Read.read_brief
brief-can s = as-can Read.brief (omega arith) inside-bare s

-- the header's bytes: byte 5 is the number of functions, byte 7 how many values main returns
pub record Heading (s : List ℕ) (P : Program) : Type 0 where
  pub functions : length P ≡ get_or s 5 0
  pub main : Function
  pub first : get_elem? P 0 ≡ some main
  pub returns : main.signature.returns ≡ get_or s 7 0

function-returns : (s : List ℕ) (k : ℕ) {F : Function} {j : ℕ} → Read.function s k ≡ Parsed.ok F j →
    F.signature.returns ≡ get_or s (k + 1) 0
unfolding Read.function_by
function-returns s k {F} {j} e =
    let n = next-ok (byte 0 8 s k) _ e in
    let p = byte-ok 0 8 s k n.value n.between n.first in
    let r = next-ok (byte 0 4 s n.between) _ n.then in
    let q = byte-ok 0 4 s n.between r.value r.between r.first in
    (rest n.value r.value).gives s r.between F j r.then ∙ sym q.is ∙ ap (λ (i : ℕ). get_or s i 0) p.behind
  where
    rest : (n r : ℕ) → Gives
        (do
          b ← byte 1 32
          c ← byte 0 8
          π̄ ← many Read.spawn_call c
          B̄ ← many Read.block b
          Read.pure (record { signature = record { parameters = n; returns = r }; spawns = π̄; blocks = B̄ }))
        (λ (F : Function). F.signature.returns ≡ r)
    rest n r =
        gives_then (gives-byte 1 32) λ b _. gives_then (gives-byte 0 8) λ c _. gives_then (gives-many Guarantees.spawn_call c) λ π̄ _.
        gives_then (gives-many Guarantees.block b) λ B̄ _. gives-pure _ refl

-- byte 5, whatever heads are read by
counts : (p : Parser Head) (s : List ℕ) (P : Program) {e : ℕ} → Read.program_by p s 5 ≡ Parsed.ok P e → length P ≡ get_or s 5 0
unfolding Read.program_by
counts p s P e =
    let n = next-ok (byte 1 16 s 5) _ e in
    let b = byte-ok 1 16 s 5 _ _ n.first in
    many-length (Read.function_by p) n.value s n.between n.then ∙ sym b.is

pub brief-counts : (s : List ℕ) (P : Program) → Read.read_brief s ≡ Answer.given P → length P ≡ get_or s 5 0
brief-counts s P e = counts Read.bare s P (brief-reads s P e).program

pub read-heading : (s : List ℕ) (P : Program) → read s ≡ Answer.given P → Heading s P
unfolding Read.program_by many
read-heading s P e =
    let n = next-ok (byte 1 16 s 5) _ (reads s P e).program in
    let b = byte-ok 1 16 s 5 _ _ n.first in
    let i = many-item Read.function n.value 0 s n.between n.then (omega arith) in
    let z : i.from ≡ n.between = sym (ok-offset i.before) in
    record {
      functions = counts Read.head s P (reads s P e).program;
      main = i.item;
      first = i.is;
      returns = function-returns s i.from i.here ∙ ap (λ (k : ℕ). get_or s (k + 1) 0) (z ∙ b.behind);
    }

-- every number in a tree of tests has Q; then so has the number that it gives
module _ (Q : ℕ → Type 0) where
  abbrev Only : Tests → Type 0
  Only Tests.fine = Unit {0}
  Only (Tests.need n b) = Q n
  Only (Tests.◌then◌ t u) = Only t × Only u
  Only (Tests.given {A} n o k) = Q n × ((a : A) → Only (k a))
  Only (Tests.each {A} t l) = (a : A) → Only (t a)

  only-or : (o p : Option ℕ) → OnSome Q o → OnSome Q p → OnSome Q (or o p)
  unfolding or
  only-or none p h g = g
  only-or (some n) p h g = h

  only-each : {A : Type 0} (f : A → Option ℕ) → ((a : A) → OnSome Q (f a)) → (l : List A) → OnSome Q (of_each f l)
  unfolding of_each
  only-each f h [] = tt
  only-each f h (a ∷ l) = only-or (f a) _ (h a) (only-each f h l)

  only-fault : (t : Tests) → Only t → OnSome Q (fault t)
  unfolding fault of_given
  only-fault Tests.fine h = tt
  only-fault (Tests.need n true) h = tt
  only-fault (Tests.need n false) h = h
  only-fault (Tests.◌then◌ t u) h = only-or (fault t) (fault u) (only-fault t h.0) (only-fault u h.1)
  only-fault (Tests.given n none k) h = h.0
  only-fault (Tests.given n (some a) k) h = only-fault (k a) (h.1 a)
  only-fault (Tests.each t l) h = only-each (λ a. fault (t a)) (λ a. only-fault (t a) (h a)) l

only-more : {Q R : ℕ → Type 0} → ((n : ℕ) → Q n → R n) → (t : Tests) → Only Q t → Only R t
only-more f Tests.fine h = tt
only-more f (Tests.need n b) h = f n h
only-more f (Tests.◌then◌ t u) h = (only-more f t h.0, only-more f u h.1)
only-more f (Tests.given n o k) h = (f n h.0, λ a. only-more f (k a) (h.1 a))
only-more f (Tests.each t l) h = λ a. only-more f (t a) (h a)

-- a block's numbers are 5 to 11
abbrev Blocks : ℕ → Type 0
Blocks n = (leb No.entry n && leb n No.nesting) ≡ true

transfer-only : (E : Env) (Γ : ℕ) (ρ : List ℕ) (T : Transfer) → Only Blocks (Check.transfer E Γ ρ T)
unfolding Check.transfer Check.bound Check.takes Check.nests Check.scoped
transfer-only E Γ ρ (Transfer.goto b x̄) = (refl, (refl, λ B. (refl, (refl, refl))))
transfer-only E Γ ρ (Transfer.if e b c) = (refl, (refl, λ B. (refl, λ C. (refl, (refl, (refl, (refl, (refl, refl))))))))
transfer-only E Γ ρ (Transfer.call g x̄ b) = (refl, (refl, λ G. (refl, λ B. (refl, (refl, (refl, refl))))))
transfer-only E Γ ρ (Transfer.return x̄) = (refl, (refl, refl))
transfer-only E Γ ρ (Transfer.spork b π) = (refl, λ B. (refl, λ S. (refl, (refl, refl))))
transfer-only E Γ ρ (Transfer.spoin b c) =
    (refl, λ B. (refl, λ C. (refl, λ I. (refl, λ S. (refl, λ G. (refl, (refl, (refl, (refl, (refl, refl))))))))))

code-only : (E : Env) (Γ : ℕ) (ρ : List ℕ) (C : List Statement) (T : Transfer) → Only Blocks (Check.code E Γ ρ C T)
unfolding Check.code Check.bound
code-only E Γ ρ [] T = transfer-only E Γ ρ T
code-only E Γ ρ (s ∷ C) T = (refl, (refl, code-only E (Sets.with Γ s.target) ρ C T))

fresh-only : (Γ : ℕ) (x̄ : List ℕ) → Only Blocks (Check.fresh Γ x̄)
unfolding Check.fresh
fresh-only Γ [] = tt
fresh-only Γ (x ∷ x̄) = (refl, fresh-only (Sets.with Γ x) x̄)

block-only : (E : Env) (b : ℕ) (B : Block) → Only Blocks (Check.block E b B)
unfolding Check.block Check.nested
block-only E b B =
    (refl, (fresh-only _ B.head.parameters, (λ π. (refl, λ S. refl), code-only E _ B.head.nesting B.code B.transfer)))

-- a program's faults: main's 4; a spawn call's 6 or 9, at a function; a block's 5 to 11, at a function and a block of it
pub data Faults (P : Program) : Refusal → Type 0 where
  main : Faults P (Refusal.fault No.main 0 nowhere)
  spawn : {n f : ℕ} → f < length P → (n ≡ No.missing) ⊎ (n ≡ No.count) → Faults P (Refusal.fault n f nowhere)
  block : {n f b : ℕ} {F : Function} → get_elem? P f ≡ some F → b < length F.blocks → Within No.entry No.nesting n →
      Faults P (Refusal.fault n f b)

-- every fault of placed tests has Q; then so has the first
module _ (Q : Refusal → Type 0) where
  abbrev In : Placed → ℕ → Type 0
  In p n = Q (Refusal.fault n p.function p.block)

  abbrev AllIn : List Placed → Type 0
  AllIn [] = Unit {0}
  AllIn (p ∷ ps) = Only (In p) p.tests × AllIn ps

  in-append : (ps qs : List Placed) → AllIn ps → AllIn qs → AllIn (ps ++ qs)
  in-append [] qs h g = g
  in-append (p ∷ ps) qs h g = (h.0, in-append ps qs h.1 g)

  first-in : (ps : List Placed) → AllIn ps → Can Any Q (first_fault ps)
  unfolding first_fault at
  first-in [] h = tt
  first-in (p ∷ ps) h = go (fault p.tests) (only-fault (In p) p.tests h.0) (first-in ps h.1)
    where
      go : (o : Option ℕ) → OnSome (In p) o → Can Any Q (first_fault ps) → Can Any Q (at p o (first_fault ps))
      go none h k = k
      go (some n) h k = h

module _ (P : Program) where
  blocks-in : (E : Env) (f b : ℕ) (B̄ : List Block) →
      ((c n : ℕ) → c < b + length B̄ → Within No.entry No.nesting n → Faults P (Refusal.fault n f c)) →
      AllIn (Faults P) (Check.of_blocks E f b B̄)
  unfolding Check.of_blocks
  blocks-in E f b [] h = tt
  blocks-in E f b (B ∷ B̄) h = (
    only-more (λ n w. h b n (omega arith) (tested No.entry No.nesting n w)) (Check.block E b B) (block-only E b B),
    blocks-in E f (b + 1) B̄ (λ c n l w. h c n (omega arith) w),
  )

  functions-in : (f : ℕ) (F̄ : List Function) → ((g i : ℕ) (F : Function) → g ≡ f + i → get_elem? F̄ i ≡ some F → get_elem? P g ≡ some F) →
      AllIn (Faults P) (Check.of_functions P f F̄)
  unfolding Check.of_functions Check.spawn
  functions-in f [] h = tt
  functions-in f (F ∷ F̄) h =
      let here : get_elem? P f ≡ some F = h f 0 F (omega arith) refl in (
        λ S. (Faults.spawn (at-below P f here) (inl refl), λ G. Faults.spawn (at-below P f here) (inr refl)),
        in-append (Faults P) (Check.of_blocks (env P F) f 0 F.blocks) (Check.of_functions P (f + 1) F̄)
            (blocks-in (env P F) f 0 F.blocks (λ c n l w. Faults.block here (omega arith) w))
            (functions-in (f + 1) F̄ (λ g i G e k. h g (suc i) G (omega arith) k)),
      )

pub judge-can : (P : Program) → Can Any (Faults P) (judge P)
unfolding judge Check.tests Check.of_main
judge-can P = first-in (Faults P) (Check.tests P) (of-main (get_elem? P 0), functions-in P 0 P (λ g i F q h. rw (q, zero-add i) h))
  where
    of-main : (o : Option Function) → Only (λ n. Faults P (Refusal.fault n 0 nowhere)) (Check.of_main o)
    of-main none = tt
    of-main (some F) = Faults.main

-- what a newest frame can do: refuse with 19 or 29, go on by one of the rules 1 to 8, return at most four values, call, or join
abbrev pub Acts : Act → Type 0
Acts (Act.refuse n) = (n ≡ No.stuck) ⊎ (n ≡ No.overflow)
Acts (Act.stay rule k) = Within No.stmt No.unpr rule
Acts (Act.push k l) = Unit {0}
Acts (Act.pop v̄) = length v̄ ≤ 4
Acts (Act.join k c) = Unit {0}

by-acts : (rule : ℕ) (o : Option Frame) → (leb No.stmt rule && leb rule No.unpr) ≡ true → Acts (by rule o)
unfolding by
by-acts rule none h = inl refl
by-acts rule (some k) h = tested No.stmt No.unpr rule h

acts-acts : (o : Option Act) → OnSome Acts o → Acts (acts o)
unfolding acts
acts-acts none h = inl refl
acts-acts (some a) h = h

look-length : (k : Frame) (x̄ : List ℕ) → OnSome (λ v̄. length v̄ ≡ length x̄) (look_all k x̄)
unfolding look_all
look-length k [] = refl
look-length k (x ∷ x̄) =
    on-bind (λ v̄. length v̄ ≡ suc (length x̄)) (look k x) _ λ v _.
    on-bind (λ v̄. length v̄ ≡ suc (length x̄)) (look_all k x̄) _ λ v̄ e.
    ap suc (on-is (λ v̄. length v̄ ≡ length x̄) (look_all k x̄) (look-length k x̄) e)

branch-acts : (P : Program) (k : Frame) (b c : ℕ) (z : Bool) → Acts (Rules.branch P k b c z)
unfolding Rules.branch
branch-acts P k b c true = by-acts No.else (enter P k c []) refl
branch-acts P k b c false = by-acts No.then (enter P k b []) refl

closing-acts : (P : Program) (k : Frame) (b c : ℕ) (ρ : List ℕ) (z : Bool) → Acts (Rules.closing P k b c ρ z)
unfolding Rules.closing
closing-acts P k b c ρ true = by-acts No.unpr (enter P (deque k ρ k.promoted) b []) refl
closing-acts P k b c ρ false = tt

transfer-acts : (P : Program) (k : Frame) (T : Transfer) → InTransfer T → Acts (Rules.transfer P k T)
unfolding Rules.transfer Rules.goto Rules.if Rules.call Rules.return Rules.spork Rules.spoin InTransfer
transfer-acts P k (Transfer.goto b x̄) h = by-acts No.goto _ refl
transfer-acts P k (Transfer.if e b c) h =
    acts-acts _ (on-bind Acts (eval k e) _ λ w _. on-carry Acts w _ (inr refl) λ v _. branch-acts P k b c (same v (pos 0)))
transfer-acts P k (Transfer.call g x̄ b) h =
    acts-acts _ (on-bind Acts (look_all k x̄) _ λ v̄ _. on-bind Acts (callee P g v̄) _ λ l _. on-bind Acts (block_of P k b) _ λ B _. tt)
transfer-acts P k (Transfer.return x̄) h =
    acts-acts _ (on-bind Acts (look_all k x̄) _ λ v̄ e. on-when Acts (equal k.calls []) _ λ _.
    omega (arith, h.few, on-is (λ v̄. length v̄ ≡ length x̄) (look_all k x̄) (look-length k x̄) e))
transfer-acts P k (Transfer.spork b π) h = by-acts No.spork _ refl
transfer-acts P k (Transfer.spoin b c) h =
    acts-acts _ (on-bind Acts (unsnoc k.calls) _ λ I _. closing-acts P k b c I.front (ltb k.promoted (length k.calls)))

module _ {P : Program} (L : Limits P) where
  block-limits : (k : Frame) (b : ℕ) {B : Block} → block_of P k b ≡ some B → InBlock B
  unfolding block_of block_in function_of
  block-limits k b {B} e = go (get_elem? P k.function) refl e
    where
      go : (o : Option Function) → get_elem? P k.function ≡ o → block_in o b ≡ some B → InBlock B
      go none q e = none-some e
      go (some F) q e = each_at InBlock F.blocks b (each_at InFunction P k.function L.functions q).blocks e

  pub act-acts : (k : Frame) → Acts (act P k)
  unfolding act Rules.coming Rules.stmt Rules.assign
  act-acts k =
      acts-acts _ (on-bind Acts (block_of P k k.block) _ λ B e. coming B (block-limits k k.block e) (get_elem? B.code k.done))
    where
      coming : (B : Block) → InBlock B → (o : Option Statement) → Acts (Rules.coming P k B o)
      coming B i none = transfer-acts P k B.transfer i.transfer
      coming B i (some x) =
          acts-acts _ (on-bind Acts (eval k x.source) _ λ w _. on-carry Acts w _ (inr refl) λ v _. tested No.stmt No.unpr No.stmt refl)

-- a choice of a thread that is made has a rule from lo to hi, and a refused one a number of N
abbrev Results : ℕ → ℕ → (ℕ → Type 0) → Result → Type 0
Results lo hi N (Result.made rule ts) = Within lo hi rule
Results lo hi N (Result.refused n) = N n

-- a step: rules 1 to 9, and 15 to 19 or 29; a promotion: rule 10, and 15 to 21
abbrev pub StepOf : Result → Type 0
StepOf x = Results No.stmt No.prom StepRefusal x

abbrev PromotionOf : Result → Type 0
PromotionOf x = Results No.promote No.promote (Within No.thread No.threads) x

refuses : (n : ℕ) → (leb No.thread n && leb n No.stuck) ≡ true → StepRefusal n
refuses n e = inl (tested No.thread No.stuck n e)

top-results : (rule : ℕ) (t : Thread) (K : List Frame) (ts : List Thread) (o : Option Frame) →
    (leb No.stmt rule && leb rule No.prom) ≡ true → StepOf (Rules.on_top rule t K ts o)
unfolding Rules.on_top
top-results rule t K ts none h = refuses No.stuck refl
top-results rule t K ts (some k) h = tested No.stmt No.prom rule h

pop-results : (P : Program) (t : Thread) (K : List Frame) (ts : List Thread) (v̄ : List ℤ) →
    StepOf (Rules.popping P t K ts v̄)
unfolding Rules.popping
pop-results P t [] ts v̄ = refuses No.ended refl
pop-results P t (k ∷ K) ts v̄ = top-results No.return t K ts (enter P k k.block v̄) refl

apply-results : (P : Program) (t : Thread) (ts : List Thread) (a : Act) → Acts a → StepOf (Rules.apply P t ts a)
unfolding Rules.apply Rules.joins Rules.joining
apply-results P t ts (Act.refuse n) (inl e) = rw e (refuses No.stuck refl)
apply-results P t ts (Act.refuse n) (inr e) = inr e
apply-results P t ts (Act.stay rule k) h = (h.0, omega (arith, h.1))
apply-results P t ts (Act.push k l) h = go (ltb (length (frames t)) most_frames)
  where
    go : (b : Bool) →
        StepOf (cond b (Result.made No.call (restacked t (l ∷ k ∷ t.older) ∷ ts)) (Result.refused No.frames))
    go true = tested No.stmt No.prom No.call refl
    go false = refuses No.frames refl
apply-results P t ts (Act.pop v̄) h = pop-results P t t.older ts v̄
apply-results P t [] (Act.join k c) h = refuses No.waits refl
apply-results P t (u ∷ ts) (Act.join k c) h = go (Rules.ended P u)
  where
    go : (o : Option (List ℤ)) → StepOf (Rules.joining P t k c ts o)
    go none = refuses No.waits refl
    go (some v̄) = top-results No.prom t t.older ts (enter P k c v̄) refl

promote-results : (P : Program) (room : Bool) (t : Thread) (ts : List Thread) → PromotionOf (Rules.promote P room t ts)
unfolding Rules.promote Rules.promoting Rules.spawned
promote-results P room t ts = go room (Rules.oldest (frames t))
  where
    made : (u : Thread) (o : Option Frame) → PromotionOf (Rules.spawned u ts o)
    made u none = tested No.thread No.threads No.stuck refl
    made u (some k) = tested No.promote No.promote No.promote refl

    go : (b : Bool) (o : Option Rules.Promotion) → PromotionOf (Rules.promoting P b t ts o)
    go b none = tested No.thread No.threads No.promoted refl
    go false (some p) = tested No.thread No.threads No.threads refl
    go true (some p) = made (restacked t p.frames) (Rules.child P p.holder p.call)

module _ (f : Thread → List Thread → Result) where
  thread-results : (lo hi : ℕ) (N : ℕ → Type 0) → N No.thread → ((t : Thread) (ts : List Thread) → Results lo hi N (f t ts)) →
      (p : Pool) (i : ℕ) → Results lo hi N (Rules.on_thread f p i)
  unfolding Rules.on_thread Rules.behind
  thread-results lo hi N l h [] i = l
  thread-results lo hi N l h (t ∷ ts) zero = h t ts
  thread-results lo hi N l h (t ∷ ts) (suc i) = go (Rules.on_thread f ts i) (thread-results lo hi N l h ts i)
    where
      go : (x : Result) → Results lo hi N x → Results lo hi N (Rules.behind t x)
      go (Result.made rule ts) h = h
      go (Result.refused n) h = h

  -- a choice that is not answered 15 has its thread in the pool
  pub thread-there : (p : Pool) (i : ℕ) → Rules.on_thread f p i ≢ Result.refused No.thread → i < length p
  unfolding Rules.on_thread Rules.behind
  thread-there [] i h = absurd (h refl)
  thread-there (t ∷ ts) zero h = omega arith
  thread-there (t ∷ ts) (suc i) h = omega (arith, thread-there ts i (λ e. h (ap (Rules.behind t) e)))

-- what a choice can make or be refused
abbrev pub ChoiceOf : ℕ → Result → Type 0
ChoiceOf kind (Result.made rule p) = RuleOf kind rule
ChoiceOf kind (Result.refused n) = RefusalOf kind n

pub step_of : (P : Program) → Limits P → (p : Pool) (i : ℕ) → StepOf (choice P p 0 i)
unfolding choice Rules.step
step_of P L p i =
    thread-results (Rules.step P) No.stmt No.prom StepRefusal (refuses No.thread refl)
    (λ t ts. apply-results P t ts _ (act-acts L t.newest)) p i

pub choice-of : (P : Program) → Limits P → (p : Pool) (kind i : ℕ) → ChoiceOf kind (choice P p kind i)
unfolding choice
choice-of P L p zero i = go (choice P p 0 i) (step_of P L p i)
  where
    go : (x : Result) → StepOf x → ChoiceOf 0 x
    go (Result.made rule q) h = inl (refl, h)
    go (Result.refused n) (inl w) = inl (omega arith, omega arith)
    go (Result.refused n) (inr e) = inr (refl, e)
choice-of P L p (suc zero) i =
    go (Rules.on_thread f p i)
    (thread-results f No.promote No.promote (Within No.thread No.threads) (omega arith, omega arith) (promote-results P _) p i)
  where
    f : Thread → List Thread → Result
    f = Rules.promote P (ltb (length p) most_threads)

    go : (x : Result) → PromotionOf x → ChoiceOf 1 x
    go (Result.made rule q) h = inr (refl, omega arith)
    go (Result.refused n) h = inl (omega arith, omega arith)
choice-of P L p (suc (suc kind)) i = inl (tested No.kind No.threads No.kind refl)

-- the refusals of the other calls: the check's; the start's, the table's and 12; those of a call on a pool, 13 too; and a choice's
pub data OfCheck (s : List ℕ) : Refusal → Type 0 where
  table : {q : Refusal} → OfTable s q → OfCheck s q
  program : {q : Refusal} {P : Program} → read s ≡ Answer.given P → Faults P q → OfCheck s q

pub data OfStart (s : List ℕ) : Refusal → Type 0 where
  table : {q : Refusal} → OfTable s q → OfStart s q
  words : OfStart s (Refusal.plain No.words)

pub data OfLent (s : List ℕ) : Refusal → Type 0 where
  start : {q : Refusal} → OfStart s q → OfLent s q
  pool : OfLent s (Refusal.plain No.pool)

pub data OfChoice (s : List ℕ) (kind : ℕ) : Refusal → Type 0 where
  lends : {q : Refusal} → OfLent s q → OfChoice s kind q
  chosen : {n : ℕ} → RefusalOf kind n → OfChoice s kind (Refusal.plain n)

module _ (s : List ℕ) where
  pub check-can : Can Any (OfCheck s) (check s)
  unfolding check
  check-can = can-with Any (read s) judge (read-can s) (λ q h. OfCheck.table h) λ P e. faults P e (judge P) (judge-can P)
    where
      faults : (P : Program) → read s ≡ Answer.given P → (a : Answer (Unit {0})) → Can Any (Faults P) a → Can Any (OfCheck s) a
      faults P e (Answer.given u) h = tt
      faults P e (Answer.refused q) h = OfCheck.program e h

module _ (s : List ℕ) (ws : List ℤ) where
  measured-can : Can Any (OfStart s) (Calls.measured ws)
  unfolding Calls.measured
  measured-can = go (eqb (length ws) pool_words)
    where
      go : (b : Bool) → Can {A = Unit {0}} Any (OfStart s) (cond b (Answer.given tt) (Answer.refused (Refusal.plain No.words)))
      go true = tt
      go false = OfStart.words

  pub start-can : Can Any (OfStart s) (Calls.start s ws).answer
  unfolding Calls.start Calls.starting Calls.lent_words
  start-can = go (Calls.lent_words s ws) (can-with Any (read s) _ (read-can s) (λ q h. OfStart.table h) λ P e. measured-can)
    where
      go : (a : Answer (Unit {0})) → Can Any (OfStart s) a → Can Any (OfStart s) (Calls.starting ws a).answer
      go (Answer.given u) h = tt
      go (Answer.refused q) h = h

  valid-can : (P : Program) → Can Any (OfLent s) (Calls.valid P ws)
  unfolding Calls.valid
  valid-can P = go (are_pool P ws)
    where
      go : (b : Bool) → Can {A = Lent} Any (OfLent s)
          (cond b (Answer.given (record { table = P; pool = pool_of ws })) (Answer.refused (Refusal.plain No.pool)))
      go true = tt
      go false = OfLent.pool

  pub lent-can : Can Any (OfLent s) (lent s ws)
  unfolding lent
  lent-can =
      can-with Any (read s) _ (read-can s) (λ q h. OfLent.start (OfStart.table h)) λ P e.
      can-with Any (Calls.measured ws) _ measured-can (λ q h. OfLent.start h) λ _ f. valid-can P

  pub choose-can : (kind i : ℕ) → Can (RuleOf kind) (OfChoice s kind) (Calls.choose s ws kind i).answer
  unfolding Calls.choose Calls.chosen Calls.made
  choose-can kind i = go (lent s ws) refl lent-can
    where
      on : (x : Result) → ChoiceOf kind x → Can (RuleOf kind) (OfChoice s kind) (Calls.made ws x).answer
      on (Result.made rule p) h = h
      on (Result.refused n) h = OfChoice.chosen h

      go : (a : Answer Lent) → lent s ws ≡ a → Can Any (OfLent s) a → Can (RuleOf kind) (OfChoice s kind) (Calls.chosen ws a kind i).answer
      go (Answer.given l) e h =
          on (choice l.table l.pool kind i)
          (choice-of l.table (read-limits s l.table (lent-given s ws l e).reads) l.pool kind i)
      go (Answer.refused q) e h = OfChoice.lends h

  -- at most four values
  pub values-can : Can (OnSome (λ v̄. length v̄ ≤ 4)) (OfLent s) (Calls.values s ws)
  unfolding Calls.values main_values Rules.ended Rules.returned
  values-can =
      can-with (OnSome (λ v̄. length v̄ ≤ 4)) (lent s ws) _ lent-can (λ q h. h) λ l e.
      main l.table (read-limits s l.table (lent-given s ws l e).reads) l.pool
    where
      ended : (K : List Frame) (a : Act) → Acts a → OnSome (λ v̄. length v̄ ≤ 4) (Rules.returned K a)
      ended [] (Act.refuse n) h = tt
      ended [] (Act.stay rule k) h = tt
      ended [] (Act.push k l) h = tt
      ended [] (Act.pop v̄) h = h
      ended [] (Act.join k c) h = tt
      ended (k ∷ K) a h = tt

      main : (P : Program) → Limits P → (p : Pool) → OnSome (λ v̄. length v̄ ≤ 4) (main_values P p)
      main P L [] = tt
      main P L (t ∷ ts) = ended t.older (act P t.newest) (act-acts L t.newest)

  -- a step that is not answered 15 is one of a thread of the pool
  pub step-there : (i : ℕ) (l : Lent) → lent s ws ≡ Answer.given l →
      (Calls.choose s ws 0 i).answer ≢ Answer.refused (Refusal.plain No.thread) → i < most_threads
  unfolding Calls.choose Calls.chosen Calls.made choice
  step-there i l e h =
      let few = (pool-facts l.table l.pool (lent-given s ws l e).valid).few in
      let there = thread-there (Rules.step l.table) l.pool i λ m. h (rw (e, m) refl) in
      omega arith

  pub steps-there : (i rule : ℕ) → (Calls.choose s ws 0 i).answer ≡ Answer.given rule → i < most_threads
  unfolding Calls.choose Calls.chosen
  steps-there i rule h = go (lent s ws) refl h
    where
      go : (a : Answer Lent) → lent s ws ≡ a → (Calls.chosen ws a 0 i).answer ≡ Answer.given rule → i < most_threads
      go (Answer.given l) e m = step-there i l e λ n. refused-given (sym n ∙ h)
      go (Answer.refused q) e m = refused-given m

  -- one of the eight threads
  pub which-can : Can (OnSome (λ i. i < most_threads)) (OfLent s) (Calls.which s ws)
  unfolding Calls.which first
  which-can =
      can-with (OnSome (λ i. i < most_threads)) (lent s ws) _ lent-can (λ q h. h) λ l e.
      there l.table l.pool (pool-facts l.table l.pool (lent-given s ws l e).valid).few
    where
      there : (P : Program) (p : Pool) → length p ≤ most_threads → OnSome (λ i. i < most_threads) (first P p)
      there P p few = go (first P p) (lowest-found (can_step P p) (length p) 0)
        where
          go : (o : Option ℕ) → Found (can_step P p) (length p) 0 o → OnSome (λ i. i < most_threads) o
          go none h = tt
          go (some i) h = omega (arith, few, h.below)

-- a list of choices: all are made; or the one behind those made is refused, by the pool that they left
abbrev RanOf : Program → List Choice → ℕ → Option ℕ → Pool → Type 0
RanOf P cs made none p = made ≡ length cs
RanOf P cs made (some n) p = (c : Choice) × (get_elem? cs made ≡ some c) × (choice P p c.kind c.thread ≡ Result.refused n)

run_of : (P : Program) (p : Pool) (cs : List Choice) → let r = Calls.run P p cs in RanOf P cs r.made r.refusal r.pool
unfolding Calls.run Calls.go_on
run_of P p [] = refl
run_of P p (c ∷ cs) = go (choice P p c.kind c.thread) refl (λ p'. run_of P p' cs)
  where
    more : (made : ℕ) (o : Option ℕ) (q : Pool) → RanOf P cs made o q → RanOf P (c ∷ cs) (made + 1) o q
    more made none q h = omega arith
    more made (some n) q h = (h.0, rw (add-one made) h.1, h.2)

    go : (x : Result) → choice P p c.kind c.thread ≡ x →
        ((p' : Pool) → let r = Calls.run P p' cs in RanOf P cs r.made r.refusal r.pool) →
        let r = Calls.go_on p x (λ p'. Calls.run P p' cs) in RanOf P (c ∷ cs) r.made r.refusal r.pool
    go (Result.made rule p') e k = let r = Calls.run P p' cs in more r.made r.refusal r.pool (k p')
    go (Result.refused n) e k = (c, refl, e)

-- the refusal of a list of choices, how many were made, and the words afterwards: nothing was made and the words ws stayed; or
-- the choice behind those made was refused, as it is by the words that they left
pub data OfSchedule (s : List ℕ) (ws : List ℤ) (cs : List Choice) : Refusal → ℕ → List ℤ → Type 0 where
  lends : {q : Refusal} → OfLent s q → OfSchedule s ws cs q 0 ws
  chosen : {n made : ℕ} {ws' : List ℤ} (c : Choice) → RefusalOf c.kind n → get_elem? cs made ≡ some c →
      (Calls.choose s ws' c.kind c.thread).answer ≡ Answer.refused (Refusal.plain n) → OfSchedule s ws cs (Refusal.plain n) made ws'

abbrev pub ScheduleCan : List ℕ → List ℤ → List Choice → Calls.Scheduled → Type 0
ScheduleCan s ws cs d = Can (λ _. d.made ≡ length cs) (λ q. OfSchedule s ws cs q d.made d.after) d.answer

pub schedule-can : (s : List ℕ) (ws : List ℤ) (cs : List Choice) → ScheduleCan s ws cs (Calls.schedule s ws cs)
unfolding Calls.schedule Calls.scheduled Calls.reported Calls.stopped Calls.made
schedule-can s ws cs = go (lent s ws) refl (lent-can s ws)
  where
    on : (P : Program) (r : Calls.Ran) → read s ≡ Answer.given P → Pool.is_pool P r.pool ≡ true →
        RanOf P cs r.made r.refusal r.pool → ScheduleCan s ws cs (Calls.reported r)
    on P r e v h = ended r.refusal h
      where
        ended : (o : Option ℕ) → RanOf P cs r.made o r.pool →
            Can {A = Unit {0}} (λ _. r.made ≡ length cs) (λ q. OfSchedule s ws cs q r.made (Pool.words_of r.pool)) (Calls.stopped o)
        ended none h = h
        ended (some n) (c, there, q) =
            let w : RefusalOf c.kind n = rw q at (choice-of P (read-limits s P e) r.pool c.kind c.thread) in
            let m = choose-lent s (Pool.words_of r.pool) c.kind c.thread (lent-words s P r.pool e v) in
            OfSchedule.chosen c w there (ap (λ (d : Calls.Called ℕ). d.answer) (m ∙ ap (Calls.made (Pool.words_of r.pool)) q))

    go : (a : Answer Lent) → lent s ws ≡ a → Can Any (OfLent s) a → ScheduleCan s ws cs (Calls.scheduled ws a cs)
    go (Answer.given l) e h =
        let g = lent-given s ws l e in
        on l.table (Calls.run l.table l.pool cs) g.reads
        (run-kept l.table (read-limits s l.table g.reads) l.pool cs g.valid)
        (run_of l.table l.pool cs)
    go (Answer.refused q) e h = OfSchedule.lends h

-- a start that is given leaves the fresh pool; a refused one, and a refused choice, leave the words
module _ (s : List ℕ) (ws : List ℤ) where
  pub start-begins : {u : Unit {0}} → (Calls.start s ws).answer ≡ Answer.given u → (Calls.start s ws).after ≡ Pool.words_of Pool.started
  unfolding Calls.start Calls.starting
  start-begins {u} e = go (Calls.lent_words s ws) e
    where
      go : (a : Answer (Unit {0})) → (Calls.starting ws a).answer ≡ Answer.given u → (Calls.starting ws a).after ≡ Pool.words_of Pool.started
      go (Answer.given v) e = refl
      go (Answer.refused q) e = refused-given e

  pub start-leaves : {q : Refusal} → (Calls.start s ws).answer ≡ Answer.refused q → (Calls.start s ws).after ≡ ws
  unfolding Calls.start Calls.starting
  start-leaves {q} e = go (Calls.lent_words s ws) e
    where
      go : (a : Answer (Unit {0})) → (Calls.starting ws a).answer ≡ Answer.refused q → (Calls.starting ws a).after ≡ ws
      go (Answer.given v) e = refused-given (sym e)
      go (Answer.refused q) e = refl

  pub choose-leaves : (kind i : ℕ) {q : Refusal} → (Calls.choose s ws kind i).answer ≡ Answer.refused q →
      (Calls.choose s ws kind i).after ≡ ws
  unfolding Calls.choose Calls.chosen Calls.made
  choose-leaves kind i {q} e = go (lent s ws) e
    where
      on : (x : Result) → (Calls.made ws x).answer ≡ Answer.refused q → (Calls.made ws x).after ≡ ws
      on (Result.made rule p) e = refused-given (sym e)
      on (Result.refused n) e = refl

      go : (a : Answer Lent) → (Calls.chosen ws a kind i).answer ≡ Answer.refused q → (Calls.chosen ws a kind i).after ≡ ws
      go (Answer.given l) e = on (choice l.table l.pool kind i) e
      go (Answer.refused q) e = refl
