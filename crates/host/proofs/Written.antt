-- Calls that write bytes: the number and the output, where the bytes fit and where the call is refused.
use Prim.Native.Nat.{ℕ, ◌≤◌}
use mathlib.Core.Path.{◌≡◌, ◌∙◌, ap}
use mathlib.Core.Bool.{true, false}
use mathlib.Core.List.{List, ◌++◌}
use native.Mathlib.Omega.{arith}
use lib.ListN.{length, take, drop}
use lib.Seq.{take-append_seam}
use Rattle.model.specs.Answers.{Refusal, Answer, Wrote}
use Rattle.answers.specs.Coded.{given, code_of}
use Rattle.host.specs.Macros.{is_given, value}
use Rattle.host.specs.Exports.{as_number, Writes}
use Rattle.host.specs.Laws.{answer_in}
use Rattle.host.proofs.Codes.{Fits, given-in, refused-in}
use Rattle.host.proofs.Macros.{read-given, read-refused}

-- bytes that fit
pub record Put (out t : List ℕ) (r : ℕ) (out' : List ℕ) : Type 0 where
  pub told : answer_in r ≡ Answer.given (length t)
  pub number : r ≡ given (length t)
  pub yes : is_given r ≡ true
  pub counted : value r ≡ length t
  pub is : out' ≡ t ++ drop (length t) out
  pub front : take (value r) out' ≡ t

pub was-put : {w : Wrote} (out t : List ℕ) (r : ℕ) (out' : List ℕ) → Writes w r out' → length t ≤ 16384 →
    w ≡ record { answer = Answer.given (length t); after = t ++ drop (length t) out } → Put out t r out'
unfolding as_number
was-put out t r out' m l e =
    let n : r ≡ given (length t) = m.number ∙ ap (λ (w : Wrote). as_number w.answer) e in
    let a : answer_in r ≡ Answer.given (length t) = ap answer_in n ∙ given-in (length t) (omega arith) in
    let v : value r ≡ length t = (read-given r a).1 in
    let o : out' ≡ t ++ drop (length t) out = m.bytes ∙ ap (λ (w : Wrote). w.after) e in
    record {
      told = a;
      number = n;
      yes = (read-given r a).0;
      counted = v;
      is = o;
      front = rw (v, o) (take-append_seam t (drop (length t) out));
    }

-- the number of a refusal
pub was-refused : {w : Wrote} (out : List ℕ) (q : Refusal) (r : ℕ) (out' : List ℕ) → Writes w r out' → Fits q →
    w ≡ record { answer = Answer.refused q; after = out } → (r ≡ code_of q) × (answer_in r ≡ Answer.refused q) × (is_given r ≡ false)
unfolding as_number
was-refused out q r out' m f e =
    let n : r ≡ code_of q = m.number ∙ ap (λ (w : Wrote). as_number w.answer) e in
    let a : answer_in r ≡ Answer.refused q = ap answer_in n ∙ refused-in q f in
    (n, a, (read-refused r a).0)
