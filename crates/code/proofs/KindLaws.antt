-- From the kind of a transfer to the byte that it stands for.
use Rattle.std.specs.Prelude.{◌⊎◌}
use Rattle.std.proofs.Common.{◌≡◌, ℕ, zero, suc, ◌<◌, min, List, refl, sym, ap, ◌∙◌, arith}
use mathlib.Core.Logic.{inl, inr}
use Rattle.code.specs.declared.Kind.{Kind}
use Rattle.code.specs.declared.Kind.TheVariants.{Goto, If, Call, Return, Spork, Spoin}
use Rattle.code.specs.Bytes.{byte_at, past}
use Rattle.code.specs.Code.{transfer_of, transfer_at, transfer_end_of}
use Rattle.code.specs.Kinds.{number_of}

-- a kind below the last is its byte; the last stands for 5 and all above
pub kind-low : {k j : Kind} {n : ℕ} → number_of k ≡ min n 5 → k ≡ j → number_of j < 5 → n ≡ number_of j
kind-low {k} {j} {n} e h l = let q : number_of k ≡ number_of j = ap number_of h in omega (arith, e, q, l)

pub kind-spoin : {k : Kind} {n : ℕ} → number_of k ≡ min n 5 → k ≡ Spoin → 4 < n
kind-spoin {k} {n} e h = let q : number_of k ≡ 5 = ap number_of h in omega (arith, e, q)

-- equal numbers are equal kinds
abbrev kind_of : ℕ → Kind
kind_of zero = Goto
kind_of (suc zero) = If
kind_of (suc (suc zero)) = Call
kind_of (suc (suc (suc zero))) = Return
kind_of (suc (suc (suc (suc zero)))) = Spork
kind_of (suc (suc (suc (suc (suc n))))) = Spoin

kind-back : (k : Kind) → kind_of (number_of k) ≡ k
kind-back Goto = refl
kind-back If = refl
kind-back Call = refl
kind-back Return = refl
kind-back Spork = refl
kind-back Spoin = refl

same-kind : (k j : Kind) → number_of k ≡ number_of j → k ≡ j
same-kind k j e = sym (kind-back k) ∙ ap kind_of e ∙ kind-back j

-- another kind, another byte
pub kind-other : {k j : Kind} {n : ℕ} → number_of k ≡ min n 5 → (k ≡ j → ⊥) → number_of j < 5 → n ≡ number_of j → ⊥
kind-other {k} {j} e h l z = h (same-kind k j (omega (arith, e, l, z)))

-- a kind that names two things and no more
pub names-two : {k : Kind} → (k ≡ Spork) ⊎ (k ≡ Spoin) → 3 < number_of k
names-two (inl e) = let q = ap number_of e in omega (arith, q)
names-two (inr e) = let q = ap number_of e in omega (arith, q)

-- what stands under a byte stands under its kind's number
pub end-kind : (n : ℕ) (s : List ℕ) (at : ℕ) → transfer_end_of (min n 5) s at ≡ transfer_end_of n s at
unfolding transfer_end_of
end-kind zero s at = refl
end-kind (suc zero) s at = refl
end-kind (suc (suc zero)) s at = refl
end-kind (suc (suc (suc zero))) s at = refl
end-kind (suc (suc (suc (suc zero)))) s at = refl
end-kind (suc (suc (suc (suc (suc n))))) s at = let e : min (suc (suc (suc (suc (suc n))))) 5 ≡ 5 = omega arith in rw e refl

pub transfer-kind : (n : ℕ) (s : List ℕ) (at : ℕ) → transfer_of (min n 5) s at ≡ transfer_of n s at
unfolding transfer_of
transfer-kind zero s at = refl
transfer-kind (suc zero) s at = refl
transfer-kind (suc (suc zero)) s at = refl
transfer-kind (suc (suc (suc zero))) s at = refl
transfer-kind (suc (suc (suc (suc zero)))) s at = refl
transfer-kind (suc (suc (suc (suc (suc n))))) s at = let e : min (suc (suc (suc (suc (suc n))))) 5 ≡ 5 = omega arith in rw e refl

-- the transfer at an offset, by its kind
pub by-kind : (s : List ℕ) (at : ℕ) {first : ℕ} {k j : Kind} → number_of k ≡ min (byte_at s at) 5 → first ≡ past at 1 → k ≡ j
    → transfer_at s at ≡ transfer_of (number_of j) s first
unfolding transfer_at
by-kind s at e f z = sym (transfer-kind (byte_at s at) s (past at 1)) ∙ rw (← e, z, f)
