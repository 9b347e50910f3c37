-- Where document 01's numbers of two and of four bytes read, they are those of the bytes there, and end behind them.
use Rattle.std.proofs.Common.{◌≡◌, ℕ, ◌+◌, ◌*◌, ◌≤◌, List, length, sym, ap, ◌∙◌, arith}
use Rattle.model.specs.Read as Read
use Rattle.model.specs.Read.{Parsed}
use Rattle.model.proofs.Reading.{next-ok, byte-ok, ok-value, ok-offset}
use Rattle.code.specs.Bytes.{byte_at, half_at, word_at}

-- a number n that reads from at to k
pub record Number (s : List ℕ) (at size n k value : ℕ) : Type 0 where
  pub is : n ≡ value
  pub behind : k ≡ at + size
  pub within : k ≤ length s

pub half-ok : (s : List ℕ) (at : ℕ) {n k : ℕ} → Read.half s at ≡ Parsed.ok n k → Number s at 2 n k (half_at s at)
unfolding Read.half half_at
half-ok s at {n} {k} e =
    let t = next-ok (Read.byte 0 255 s at) _ e in
    let u = next-ok (Read.byte 0 255 s t.between) _ t.then in
    let b = byte-ok 0 255 s at _ _ t.first in
    let c = byte-ok 0 255 s t.between _ _ u.first in
    let v : t.value * 256 + u.value ≡ n = ok-value u.then in
    let d : byte_at s (at + 1) ≡ u.value = ap (byte_at s) (sym b.behind) ∙ c.is in
    let q : u.between ≡ k = ok-offset u.then in
    record { is = omega (arith, b.is); behind = omega (arith, b.behind, c.behind); within = omega (arith, c.inside, c.behind) }

pub word_ok : (s : List ℕ) (at : ℕ) {n k : ℕ} → Read.word s at ≡ Parsed.ok n k → Number s at 4 n k (word_at s at)
unfolding Read.word word_at
word_ok s at {n} {k} e =
    let t = next-ok (Read.half s at) _ e in
    let u = next-ok (Read.half s t.between) _ t.then in
    let b = half-ok s at t.first in
    let c = half-ok s t.between u.first in
    let v : t.value * 65536 + u.value ≡ n = ok-value u.then in
    let d : half_at s t.between ≡ half_at s (at + 2) = ap (half_at s) b.behind in
    let q : u.between ≡ k = ok-offset u.then in
    record { is = omega (arith, b.is, c.is); behind = omega (arith, b.behind, c.behind); within = omega (arith, c.within) }

-- four bytes, half by half
pub halves : (s : List ℕ) (at : ℕ) {high a b low n : ℕ} → high ≡ half_at s at → a ≡ byte_at s (at + 2) → b ≡ byte_at s (at + 3)
    → low ≡ a * 256 + b → n ≡ high * 65536 + low → n ≡ word_at s at
unfolding half_at word_at
halves s at eh ea eb el en =
    let z : at + 2 + 1 ≡ at + 3 = omega arith in
    let f : byte_at s (at + 2 + 1) ≡ byte_at s (at + 3) = ap (byte_at s) z in
    omega arith
