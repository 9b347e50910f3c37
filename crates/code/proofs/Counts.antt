-- How many operands a kind has, as the entry of the table says.
use Rattle.std.proofs.Common.{◌≡◌, ℕ, zero, suc, min, [], ◌∷◌, get_or, refl, arith}
use Rattle.code.specs.Bytes.{operands}

pub entry : (kind : ℕ) {n : ℕ} → n ≡ min kind 3 → get_or (1 ∷ 1 ∷ 2 ∷ 2 ∷ []) n 0 ≡ operands kind
unfolding operands
entry zero e = rw e refl
entry (suc zero) e = rw e refl
entry (suc (suc zero)) e = rw e refl
entry (suc (suc (suc kind))) {n} e = let f : n ≡ 3 = omega (arith, e) in rw f refl
