-- Values over the first words of a buffer: those of an argument list, as far as its temporaries are bound.
use Prim.Native.Nat.{ℕ, ◌+◌, ◌≤◌}
use mathlib.Core.Path.{◌≡◌, refl, sym, ap}
use mathlib.Core.Option.{Option, none, some}
use mathlib.Core.List.{List, [], ◌∷◌}
use native.Mathlib.Omega.{arith}
use lib.IntN.{ℤ, pos}
use lib.ListN.{length, take, drop, replicate, take-append-drop}
use lib.Seq.{length-take-le, take-append_seam}
use Rattle.model.specs.Lists.{pad}
use Rattle.model.specs.Pool as Pool
use Rattle.model.specs.Frames as Frames
use Rattle.model.specs.Frames.{look, look_all}
use Rattle.model.proofs.Facts.{drop-replicate}
use Rattle.words.specs.Runs.{pasted}
use Rattle.code.specs.Code.{most}
use Rattle.eval.specs.Given.{values_as, looked_of, looked_as, and_on, bound_part, filled}

module _ (k : Pool.Frame) where
  -- the part that is bound: one more, none, and all
  pub bound-cons : (x : ℕ) (x̄ : List ℕ) (v : ℤ) → look k x ≡ some v → bound_part k (x ∷ x̄) ≡ v ∷ bound_part k x̄
  unfolding bound_part
  bound-cons x x̄ v e = rw e

  pub bound-none : (x : ℕ) (x̄ : List ℕ) → look k x ≡ none → bound_part k (x ∷ x̄) ≡ []
  unfolding bound_part
  bound-none x x̄ e = rw e

  bound-more : (x : ℕ) (x̄ : List ℕ) (v̄ : List ℤ) → ((w̄ : List ℤ) → look_all k x̄ ≡ some w̄ → bound_part k x̄ ≡ w̄)
      → look_all k (x ∷ x̄) ≡ some v̄ → bound_part k (x ∷ x̄) ≡ v̄
  unfolding look_all bound_part
  bound-more x x̄ v̄ h e = first (look k x) e
    where
      rest : (v : ℤ) (o : Option (List ℤ)) → look_all k x̄ ≡ o → Frames.◌>>=◌ o (λ w̄. some (v ∷ w̄)) ≡ some v̄ → v ∷ bound_part k x̄ ≡ v̄
      rest v none d q = cc
      rest v (some w̄) d q = rw (h w̄ d) (cc)

      first : (o : Option ℤ) → Frames.◌>>=◌ o (λ v. Frames.◌>>=◌ (look_all k x̄) (λ w̄. some (v ∷ w̄))) ≡ some v̄
          → and_on o (bound_part k x̄) ≡ v̄
      first none q = cc
      first (some v) q = rest v (look_all k x̄) refl q

  pub bound_all : (x̄ : List ℕ) (v̄ : List ℤ) → look_all k x̄ ≡ some v̄ → bound_part k x̄ ≡ v̄
  unfolding look_all bound_part
  bound_all [] v̄ e = cc
  bound_all (x ∷ x̄) v̄ e = bound-more x x̄ v̄ (bound_all x̄) e

  -- a buffer whose first words are those values
  pub filled_is : (x̄ : List ℕ) (out₀ out : List ℤ) (i : ℕ) → i ≤ length out → bound_part k x̄ ≡ take i out → drop i out ≡ drop i out₀
      → out ≡ filled k x̄ out₀
  unfolding filled pasted
  filled_is x̄ out₀ out i l e d =
      let z : 0 + length (bound_part k x̄) ≡ i = rw e (omega (arith, length-take-le i out l)) in
      sym (rw (z, e, ← d) (take-append-drop i out))

  -- with no temporaries it is as it was; an empty one has 0 behind them
  pub filled_none : (out : List ℤ) → out ≡ filled k [] out
  unfolding filled pasted bound_part
  filled_none out = refl

  pub filled-zeros : (x̄ : List ℕ) (v̄ : List ℤ) → look_all k x̄ ≡ some v̄ → filled k x̄ (replicate most (pos 0)) ≡ pad most (pos 0) v̄
  unfolding filled pasted pad
  filled-zeros x̄ v̄ e =
      let z : 0 + length v̄ ≡ length v̄ = omega arith in
      rw (bound_all x̄ v̄ e, z, drop-replicate most (length v̄) (pos 0))

-- values as the code has them, and what they say
pub looked-of : (o : Option (List ℤ)) → looked_of (looked_as o) ≡ o
unfolding looked_as values_as pad
looked-of none = refl
looked-of (some v̄) = ap some (take-append_seam v̄ _)
