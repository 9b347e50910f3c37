-- Where a table reads, what stands at an offset is what was read, and reading ends where the code says: one law a part.
use Rattle.std.proofs.Common.{◌≡◌, ℕ, zero, suc, ◌+◌, ◌^◌, ◌<◌, ◌≤◌, min, cond, eqb, List, [], ◌∷◌, length, get_or, sym, refl, ◌∙◌, arith}
use native.Mathlib.Nat.{min-eq_left}
use Rattle.model.specs.Values.{signed}
use Rattle.model.specs.Syntax.{Atom, Expression, Transfer, Head, Block, SpawnCall, Function, sporked_by, called_by}
use Rattle.model.specs.Read as Read
use Rattle.model.specs.Read.{Parsed, Parser, byte, many, counted, pick}
use Rattle.model.proofs.Reading.{bad-ok, ok-value, ok-offset, next-ok, byte-ok, many-uncons, counted-ok}
use Rattle.code.specs.Bytes.{byte_at, past, half_at, word_at, operands}
use Rattle.code.specs.Code.{run, count_at, arguments_at, list_end, atom_of, atom_at, atom_end, expression_of, second_at, expression_at}
use Rattle.code.specs.Code.{expression_end, statement_at, statement_end, statements_at, statements_end, nesting_at, head_at, bare_at, head_end}
use Rattle.code.specs.Code.{spawn_at, spawn_end, signature_at, transfer_of, transfer_at, transfer_end_of, transfer_end, code_at, code_end}
use Rattle.code.specs.Code.{coded, block_at, block_end}
use Rattle.model.proofs.Guarantees.{Gives, gives_then, gives-pure}
use Rattle.code.proofs.Offsets.{past-in}
use Rattle.code.proofs.Numbers.{half-ok, word_ok}

abbrev At : Type 0 → Type 0
At A = List ℕ → ℕ → A

-- an offset within the table, which is no longer than a machine's numbers go
pub record In (s : List ℕ) (at : ℕ) : Type 0 where
  pub within : at ≤ length s
  pub short : length s < 2 ^ 64

on : {s : List ℕ} {at k : ℕ} → In s at → k ≤ length s → In s k
on l h = record { within = h; short = l.short }

-- p gives what stands there, and ends where it is said to, within the table
pub record Decodes {A : Type 0} (p : Parser A) (here : At A) (ends : At ℕ) : Type 0 where
  pub value : (s : List ℕ) (at : ℕ) (a : A) (k : ℕ) → p s at ≡ Parsed.ok a k → In s at → a ≡ here s at
  pub end : (s : List ℕ) (at : ℕ) (a : A) (k : ℕ) → p s at ≡ Parsed.ok a k → In s at → k ≡ ends s at
  pub within : (s : List ℕ) (at : ℕ) (a : A) (k : ℕ) → p s at ≡ Parsed.ok a k → In s at → In s k

module _ {A : Type 0} where
  pub decodes-pure : (a : A) → Decodes (Read.pure a) (λ s at. a) (λ s at. at)
  decodes-pure a =
      record {
        value = λ s at b k e h. sym (ok-value e);
        end = λ s at b k e h. sym (ok-offset e);
        within = λ s at b k e h. on h (let q = ok-offset e in omega (arith, h.within));
      }

  pub decodes-never : {here : At A} {ends : At ℕ} → Decodes (λ s at. Parsed.bad at) here ends
  decodes-never =
      record {
        value = λ s at b k e h. bad-ok e;
        end = λ s at b k e h. bad-ok e;
        within = λ s at b k e h. bad-ok e;
      }

  -- a value, and what is read behind it
  pub decodes-then : {B : Type 0} {p : Parser A} {f : A → Parser B} {h : At A} {e : At ℕ} (h' : A → At B) (e' : A → At ℕ)
      → Decodes p h e → ((a : A) → Decodes (f a) (h' a) (e' a))
      → Decodes (Read.◌>>=◌ p f) (λ s at. h' (h s at) s (e s at)) (λ s at. e' (h s at) s (e s at))
  decodes-then {B} {p} {f} {h} {e} h' e' d g =
      record {
        value = λ s at b k q l.
            let t = next-ok (p s at) (λ a j. f a s j) q in
            let v : t.value ≡ h s at = d.value s at _ _ t.first l in
            let w : t.between ≡ e s at = d.end s at _ _ t.first l in
            (g t.value).value s t.between b k t.then (d.within s at _ _ t.first l) ∙ rw (v, w);
        end = λ s at b k q l.
            let t = next-ok (p s at) (λ a j. f a s j) q in
            let v : t.value ≡ h s at = d.value s at _ _ t.first l in
            let w : t.between ≡ e s at = d.end s at _ _ t.first l in
            (g t.value).end s t.between b k t.then (d.within s at _ _ t.first l) ∙ rw (v, w);
        within = λ s at b k q l.
            let t = next-ok (p s at) (λ a j. f a s j) q in
            (g t.value).within s t.between b k t.then (d.within s at _ _ t.first l);
      }

pub decodes-byte : (lo hi : ℕ) → Decodes (byte lo hi) byte_at (λ s at. past at 1)
decodes-byte lo hi =
    record {
      value = λ s at n k e l. sym (byte-ok lo hi s at n k e).is;
      end = λ s at n k e l. let b = byte-ok lo hi s at n k e in b.behind ∙ sym (past-in s at 1 l.short (omega (arith, b.inside)));
      within = λ s at n k e l. let b = byte-ok lo hi s at n k e in on l (omega (arith, b.inside, b.behind));
    }

-- numbers of two and of four bytes
pub decodes-half : Decodes Read.half half_at (λ s at. past at 2)
decodes-half =
    record {
      value = λ s at n k e l. (half-ok s at e).is;
      end = λ s at n k e l. let b = half-ok s at e in b.behind ∙ sym (past-in s at 2 l.short (omega (arith, b.behind, b.within)));
      within = λ s at n k e l. on l (half-ok s at e).within;
    }

pub decodes-word : Decodes Read.word word_at (λ s at. past at 4)
decodes-word =
    record {
      value = λ s at n k e l. (word_ok s at e).is;
      end = λ s at n k e l. let b = word_ok s at e in b.behind ∙ sym (past-in s at 4 l.short (omega (arith, b.behind, b.within)));
      within = λ s at n k e l. on l (word_ok s at e).within;
    }

-- bytes one after another, and a counted list of them
pub record Ran (s : List ℕ) (at n : ℕ) (xs : List ℕ) (k : ℕ) : Type 0 where
  pub is : xs ≡ run s at n
  pub end : k ≡ at + n
  pub within : k ≤ length s

many-run : (lo hi n : ℕ) (s : List ℕ) (at : ℕ) (xs : List ℕ) (k : ℕ) → many (byte lo hi) n s at ≡ Parsed.ok xs k → In s at → Ran s at n xs k
unfolding many run
many-run lo hi zero s at xs k e l =
    let q : at ≡ k = ok-offset e in
    record { is = sym (ok-value e); end = omega arith; within = omega (arith, l.within) }
many-run lo hi (suc n) s at xs k e l =
    let u = many-uncons (byte lo hi) n s at e in
    let b = byte-ok lo hi s at _ _ u.first in
    let r = many-run lo hi n s u.between u.rest k u.then (on l (omega (arith, b.inside, b.behind))) in
    let p : past at 1 ≡ u.between = past-in s at 1 l.short (omega (arith, b.inside)) ∙ sym b.behind in
    record {
      is = u.is ∙ rw (p, b.is, r.is);
      end = omega (arith, b.behind, r.end);
      within = r.within;
    }

pub decodes-list : (most lo hi : ℕ) → most ≤ 8 → Decodes (counted most (byte lo hi)) arguments_at list_end
unfolding arguments_at list_end count_at
decodes-list most lo hi m =
    record {
      value = λ s at xs k e l.
          let (b, t) = counted-ok most (byte lo hi) s at e in
          let r = many-run lo hi (length xs) s (at + 1) xs k t (on l (omega (arith, b.inside))) in
          let c : min (get_or s at 0) 8 ≡ length xs = min-eq_left (omega (arith, b.is, b.high)) ∙ b.is in
          r.is ∙ rw (past-in s at 1 l.short (omega (arith, b.inside)), c);
      end = λ s at xs k e l.
          let (b, t) = counted-ok most (byte lo hi) s at e in
          let r = many-run lo hi (length xs) s (at + 1) xs k t (on l (omega (arith, b.inside))) in
          r.end
          ∙ sym
          (rw (past-in s at 1 l.short (omega (arith, b.inside)), b.is)
          (past-in s (at + 1) (length xs) l.short (omega (arith, r.end, r.within))));
      within = λ s at xs k e l.
          let (b, t) = counted-ok most (byte lo hi) s at e in
          on l (many-run lo hi (length xs) s (at + 1) xs k t (on l (omega (arith, b.inside)))).within;
    }

pub decodes-arguments : Decodes Read.arguments arguments_at list_end
unfolding Read.arguments Read.temporary
decodes-arguments = decodes-list 8 0 15 (omega arith)

pub decodes-name : Decodes Read.name byte_at (λ s at. past at 1)
unfolding Read.name
decodes-name = decodes-byte 0 255

pub decodes-temporary : Decodes Read.temporary byte_at (λ s at. past at 1)
unfolding Read.temporary
decodes-temporary = decodes-byte 0 15

-- atoms and expressions, by kind
pub decodes-atom : Decodes Read.atom atom_at atom_end
unfolding Read.atom Read.value Read.variable atom_of atom_at atom_end pick
decodes-atom = decodes-then here ends (decodes-byte 0 1) kinds
  where
    here : ℕ → At Atom
    here k s at = atom_of k (signed (word_at s at)) (byte_at s at)

    ends : ℕ → At ℕ
    ends k s at = cond (eqb k 0) (past at 4) (past at 1)

    kinds : (k : ℕ) → Decodes (pick Read.atoms k) (here k) (ends k)
    kinds zero = decodes-then (λ n s at. Atom.value (signed n)) (λ n s at. at) decodes-word λ n. decodes-pure (Atom.value (signed n))
    kinds (suc zero) = decodes-then (λ x s at. Atom.temporary x) (λ x s at. at) decodes-temporary λ x. decodes-pure (Atom.temporary x)
    kinds (suc (suc k)) = decodes-never

pub decodes-expression : Decodes Read.expression expression_at expression_end
unfolding Read.expression Read.unary Read.binary expression_of operands expression_at expression_end second_at pick
decodes-expression = decodes-then here ends (decodes-byte 0 3) kinds
  where
    here : ℕ → At Expression
    here k s at = expression_of k (atom_at s at) (atom_at s (atom_end s at))

    ends : ℕ → At ℕ
    ends k s at = cond (eqb (operands k) 2) (atom_end s (atom_end s at)) (atom_end s at)

    one : (f : Atom → Expression) → Decodes (Read.unary f) (λ s at. f (atom_at s at)) (λ s at. atom_end s at)
    one f = decodes-then (λ m s at. f m) (λ m s at. at) decodes-atom λ m. decodes-pure (f m)

    two : (f : Atom → Atom → Expression)
        → Decodes (Read.binary f) (λ s at. f (atom_at s at) (atom_at s (atom_end s at))) (λ s at. atom_end s (atom_end s at))
    two f =
        decodes-then (λ m s at. f m (atom_at s at)) (λ m s at. atom_end s at) decodes-atom λ m.
        decodes-then (λ n s at. f m n) (λ n s at. at) decodes-atom λ n. decodes-pure (f m n)

    kinds : (k : ℕ) → Decodes (pick Read.expressions k) (here k) (ends k)
    kinds zero = one Expression.atom
    kinds (suc zero) = one Expression.minus
    kinds (suc (suc zero)) = two Expression.plus
    kinds (suc (suc (suc zero))) = two Expression.less
    kinds (suc (suc (suc (suc k)))) = decodes-never

pub decodes-statement : Decodes Read.statement statement_at statement_end
unfolding Read.statement statement_at statement_end
decodes-statement =
    decodes-then (λ x s at. record { target = x; source = expression_at s at }) (λ x s at. expression_end s at) decodes-temporary λ x.
    decodes-then (λ e s at. record { target = x; source = e }) (λ e s at. at) decodes-expression λ e.
    decodes-pure (record { target = x; source = e })

-- a spawn call, and a transfer by kind
pub decodes-spawn : Decodes Read.spawn_call spawn_at spawn_end
unfolding Read.spawn_call spawn_at spawn_end
decodes-spawn =
    decodes-then (λ g s at. record { function = g; arguments = arguments_at s at }) (λ g s at. list_end s at) decodes-name λ g.
    decodes-then (λ x̄ s at. record { function = g; arguments = x̄ }) (λ x̄ s at. at) decodes-arguments λ x̄.
    decodes-pure (record { function = g; arguments = x̄ })

names : (f : ℕ → ℕ → Transfer)
    → Decodes (Read.◌>>=◌ Read.name λ b. Read.◌>>=◌ Read.name λ c. Read.pure (f b c))
    (λ s at. f (byte_at s at) (byte_at s (past at 1)))
    (λ s at. past (past at 1) 1)
names f =
    decodes-then (λ b s at. f b (byte_at s at)) (λ b s at. past at 1) decodes-name λ b.
    decodes-then (λ c s at. f b c) (λ c s at. at) decodes-name λ c. decodes-pure (f b c)

decodes-kind : (k : ℕ) → Decodes (pick Read.transfers k) (transfer_of k) (transfer_end_of k)
unfolding Read.goto Read.if Read.call Read.return Read.spork Read.spoin Read.temporary spawn_end transfer_of transfer_end_of pick
decodes-kind zero =
    decodes-then (λ b s at. Transfer.goto b (arguments_at s at)) (λ b s at. list_end s at) decodes-name λ b.
    decodes-then (λ x̄ s at. Transfer.goto b x̄) (λ x̄ s at. at) decodes-arguments λ x̄. decodes-pure (Transfer.goto b x̄)
decodes-kind (suc zero) =
    decodes-then (λ e s at. Transfer.if e (byte_at s at) (byte_at s (past at 1))) (λ e s at. past (past at 1) 1) decodes-expression λ e.
    names (Transfer.if e)
decodes-kind (suc (suc zero)) =
    decodes-then (λ g s at. Transfer.call g (arguments_at s at) (byte_at s (list_end s at))) (λ g s at. past (list_end s at) 1) decodes-name
    λ g.
    decodes-then (λ x̄ s at. Transfer.call g x̄ (byte_at s at)) (λ x̄ s at. past at 1) decodes-arguments λ x̄.
    decodes-then (λ b s at. Transfer.call g x̄ b) (λ b s at. at) decodes-name λ b. decodes-pure (Transfer.call g x̄ b)
decodes-kind (suc (suc (suc zero))) =
    decodes-then (λ x̄ s at. Transfer.return x̄) (λ x̄ s at. at) (decodes-list 4 0 15 (omega arith)) λ x̄. decodes-pure (Transfer.return x̄)
decodes-kind (suc (suc (suc (suc zero)))) = names Transfer.spork
decodes-kind (suc (suc (suc (suc (suc zero))))) = names Transfer.spoin
decodes-kind (suc (suc (suc (suc (suc (suc k)))))) = decodes-never

pub decodes-transfer : Decodes Read.transfer transfer_at transfer_end
unfolding Read.transfer transfer_at transfer_end
decodes-transfer = decodes-then transfer_of transfer_end_of (decodes-byte 0 5) decodes-kind

-- statements one after another, and a block's code, with their number
pub decodes-statements : (n : ℕ) → Decodes (many Read.statement n) (λ s at. statements_at s at n) (λ s at. statements_end s at n)
unfolding many statements_at statements_end
decodes-statements zero = decodes-pure []
decodes-statements (suc n) =
    decodes-then (λ x s at. x ∷ statements_at s at n) (λ x s at. statements_end s at n) decodes-statement λ x.
    decodes-then (λ xs s at. x ∷ xs) (λ xs s at. at) (decodes-statements n) λ xs. decodes-pure (x ∷ xs)

pub decodes-code : Decodes (counted 32 Read.statement) code_at code_end
unfolding counted code_at code_end
decodes-code = decodes-then (λ n s at. statements_at s at n) (λ n s at. statements_end s at n) (decodes-byte 0 32) decodes-statements

-- a block's head
pub decodes-head : Decodes Read.head head_at head_end
unfolding Read.head Read.name head_at nesting_at head_end
decodes-head =
    decodes-then (λ x̄ s at. record { parameters = x̄; scope = half_at s at; nesting = arguments_at s (past at 2) })
    (λ x̄ s at. list_end s (past at 2)) decodes-arguments λ x̄.
    decodes-then (λ Γ s at. record { parameters = x̄; scope = Γ; nesting = arguments_at s at }) (λ Γ s at. list_end s at) decodes-half λ Γ.
    decodes-then (λ ρ s at. record { parameters = x̄; scope = Γ; nesting = ρ }) (λ ρ s at. at) (decodes-list 4 0 255 (omega arith)) λ ρ.
    decodes-pure (record { parameters = x̄; scope = Γ; nesting = ρ })

pub decodes-bare : Decodes Read.bare bare_at list_end
unfolding Read.bare bare_at
decodes-bare =
    decodes-then (λ x̄ s at. record { parameters = x̄; scope = 0; nesting = [] }) (λ x̄ s at. at) decodes-arguments λ x̄.
    decodes-pure (record { parameters = x̄; scope = 0; nesting = [] })

-- what reads begins within the table
arguments-inside : (s : List ℕ) (at : ℕ) (x̄ : List ℕ) (k : ℕ) → Read.arguments s at ≡ Parsed.ok x̄ k → at < length s
unfolding Read.arguments
arguments-inside s at x̄ k e = (counted-ok 8 Read.temporary s at e).0.inside

head-inside : (s : List ℕ) (at : ℕ) (h : Head) (k : ℕ) → Read.head s at ≡ Parsed.ok h k → at < length s
unfolding Read.head
head-inside s at h k e = let t = next-ok (Read.arguments s at) _ e in arguments-inside s at _ _ t.first

-- a block, whatever its head is read by
pub decodes-block_by : {p : Parser Head} {here : At Head} {ends : At ℕ} → Decodes p here ends
    → Decodes (Read.block_by p) (λ s at. coded (here s at) s (ends s at)) (λ s at. transfer_end s (code_end s (ends s at)))
unfolding Read.block_by
decodes-block_by d =
    decodes-then coded (λ h s at. transfer_end s (code_end s at)) d λ h.
    decodes-then (λ c s at. record { head = h; code = c; transfer = transfer_at s at }) (λ c s at. transfer_end s at) decodes-code λ c.
    decodes-then (λ t s at. record { head = h; code = c; transfer = t }) (λ t s at. at) decodes-transfer λ t.
    decodes-pure (record { head = h; code = c; transfer = t })

pub decodes-block : Decodes Read.block block_at block_end
unfolding block_at block_end
decodes-block = decodes-block_by decodes-head

pub block-is : (s : List ℕ) (at : ℕ) (B : Block) (k : ℕ) → length s < 2 ^ 64 → Read.block s at ≡ Parsed.ok B k → B ≡ block_at s at
unfolding Read.block_by
block-is s at B k short e =
    let t = next-ok (Read.head s at) _ e in
    let i = head-inside s at _ _ t.first in
    decodes-block.value s at B k e (record { within = omega arith; short = short })

-- a block whose head ends at an offset: its code stands there
pub code_is : (s : List ℕ) (at : ℕ) (B : Block) (k e : ℕ) → length s < 2 ^ 64 → Read.block s at ≡ Parsed.ok B k
    → Read.head s at ≡ Parsed.ok B.head e → B ≡ coded (head_at s at) s e
unfolding block_at
code_is s at B k e short b h =
    let i = head-inside s at _ _ h in
    let w : e ≡ head_end s at = decodes-head.end s at _ _ h (record { within = omega arith; short = short }) in
    rw w (block-is s at B k short b)

-- a spawn call, and a function's numbers of parameters and of returned values
pub spawn-is : (s : List ℕ) (at : ℕ) (S : SpawnCall) (k : ℕ) → length s < 2 ^ 64 → Read.spawn_call s at ≡ Parsed.ok S k → S ≡ spawn_at s at
unfolding Read.spawn_call Read.name
spawn-is s at S k short e =
    let t = next-ok (byte 0 255 s at) _ e in
    let b = byte-ok 0 255 s at _ _ t.first in
    decodes-spawn.value s at S k e (record { within = omega (arith, b.inside); short = short })

pub signature-is : (s : List ℕ) (at : ℕ) (F : Function) (k : ℕ) → length s < 2 ^ 64 → Read.function s at ≡ Parsed.ok F k
    → F.signature ≡ signature_at s at
unfolding Read.function_by signature_at
signature-is s at F k short e =
    let t = next-ok (byte 0 8 s at) _ e in
    let b = byte-ok 0 8 s at _ _ t.first in
    let u = next-ok (byte 0 4 s t.between) _ t.then in
    let c = byte-ok 0 4 s t.between _ _ u.first in
    let p : past at 1 ≡ t.between = past-in s at 1 short (omega (arith, b.inside)) ∙ sym b.behind in
    (rest t.value u.value).gives s u.between F k u.then ∙ rw (b.is, p, c.is)
  where
    any : {A : Type 0} {p : Parser A} → Gives p (λ a. Unit {0})
    any = record { gives = λ s at a k e. tt }

    rest : (n r : ℕ)
        → Gives {A = Function}
        (Read.◌>>=◌ (byte 1 32) λ b. Read.◌>>=◌ (byte 0 8) λ c. Read.◌>>=◌ (many Read.spawn_call c) λ π̄. Read.◌>>=◌ (many Read.block b)
        λ B̄.
        Read.pure (record { signature = record { parameters = n; returns = r }; spawns = π̄; blocks = B̄ }))
        (λ F. F.signature ≡ record { parameters = n; returns = r })
    rest n r =
        gives_then any λ b _. gives_then any λ c _. gives_then any λ π̄ _. gives_then any λ B̄ _.
        gives-pure (record { signature = record { parameters = n; returns = r }; spawns = π̄; blocks = B̄ }) refl

-- a transfer of another kind than a spork names no spawn call, and one of another kind than a call no function
pub no-spork : (kind : ℕ) (s : List ℕ) (at : ℕ) → (kind ≡ 4 → ⊥) → sporked_by (transfer_of kind s at) ≡ []
unfolding transfer_of sporked_by
no-spork zero s at h = refl
no-spork (suc zero) s at h = refl
no-spork (suc (suc zero)) s at h = refl
no-spork (suc (suc (suc zero))) s at h = refl
no-spork (suc (suc (suc (suc zero)))) s at h = absurd (h refl)
no-spork (suc (suc (suc (suc (suc kind))))) s at h = refl

pub no_call : (kind : ℕ) (s : List ℕ) (at : ℕ) → (kind ≡ 2 → ⊥) → called_by (transfer_of kind s at) ≡ []
unfolding transfer_of called_by
no_call zero s at h = refl
no_call (suc zero) s at h = refl
no_call (suc (suc zero)) s at h = absurd (h refl)
no_call (suc (suc (suc zero))) s at h = refl
no_call (suc (suc (suc (suc zero)))) s at h = refl
no_call (suc (suc (suc (suc (suc kind))))) s at h = refl
