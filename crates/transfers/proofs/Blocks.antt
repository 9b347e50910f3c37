-- The blocks of a table: where the transfer of one stands, and that behind one that is not there there are none.
use Prim.Native.Nat.{ℕ, ◌^◌, ◌≤◌, ◌<◌}
use mathlib.Core.Path.{◌≡◌, refl, sym, ◌∙◌, ap, subst}
use mathlib.Core.Option.{Option, none, some}
use mathlib.Core.List.{List}
use native.Mathlib.Omega.{arith}
use lib.ListN.{length}
use Rattle.model.specs.Syntax.{Transfer, Head, Block, Function}
use Rattle.model.specs.Read as Read
use Rattle.model.specs.Read.{Parsed, Parser, byte, counted}
use Rattle.model.specs.Pool.{block_in}
use Rattle.model.proofs.Facts.{at-past, past-at}
use Rattle.model.proofs.Reading.{ok-value, ok-offset, next-ok, byte-ok, counted-ok}
use Rattle.places.specs.Places.{Reads, CodeAt}
use Rattle.code.specs.Code.{transfer_at, code_end}
use Rattle.code.proofs.Decoding.{decodes-transfer, decodes-code}

-- a transfer begins within the table
pub transfer-inside : (s : List ℕ) (at : ℕ) (t : Transfer) (k : ℕ) → Read.transfer s at ≡ Parsed.ok t k → at < length s
unfolding Read.transfer
transfer-inside s at t k e = let u = next-ok (byte 0 5 s at) _ e in (byte-ok 0 5 s at _ _ u.first).inside

-- what reads as a transfer is what stands there
pub transfer-is : (s : List ℕ) (at : ℕ) (t : Transfer) → length s < 2 ^ 64 → Reads Read.transfer s at t → t ≡ transfer_at s at
transfer-is s at t short r =
    let i = transfer-inside s at t r.behind r.is in
    decodes-transfer.value s at t r.behind r.is (record { within = omega arith; short = short })

-- behind a block's code stands its transfer
pub transfer-reads : (p : Parser Head) (s : List ℕ) (e : ℕ) (B : Block) → length s < 2 ^ 64 → CodeAt p s e B
    → (code_end s e < length s) × Reads Read.transfer s (code_end s e) B.transfer
unfolding Read.block_by
transfer-reads p s e B short c =
    let t = next-ok (p s c.at) _ c.block.is in
    let u = next-ok (counted 32 Read.statement s t.between) _ t.then in
    let v = next-ok (Read.transfer s u.between) _ u.then in
    let i : t.between < length s = (counted-ok 32 Read.statement s t.between u.first).0.inside in
    let w : t.between ≡ e = ok-offset (sym t.first ∙ c.head) in
    let z : u.between ≡ code_end s e =
    decodes-code.end s t.between _ _ u.first (record { within = omega arith; short = short }) ∙ ap (code_end s) w in
    let q : v.value ≡ B.transfer = ap (λ (B : Block). B.transfer) (ok-value v.then) in
    subst (λ (k : ℕ). (k < length s) × Reads Read.transfer s k B.transfer) z
    (transfer-inside s u.between _ _ v.first, record { behind = v.between; is = v.first ∙ rw q })

-- behind a block that is not there there are none
pub no_more : (o : Option Function) (b b' : ℕ) → b ≤ b' → block_in o b ≡ none → block_in o b' ≡ none
unfolding block_in
no_more none b b' l e = refl
no_more (some F) b b' l e = past-at F.blocks b' (omega (arith, at-past F.blocks b e))
