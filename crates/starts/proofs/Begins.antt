-- Frames begin where the numbers say: `Begins`.
use mathlib.Core.Path.{◌≡◌, refl, sym, subst}
use mathlib.Core.Bool.{true}
use mathlib.Core.List.{List}
use lib.IntN.{ℤ}
use lib.ListN.{length}
use Rattle.model.specs.Syntax.{Program}
use Rattle.model.specs.Pool.{start_of, pool_of, are_pool}
use Rattle.model.proofs.Valid.{pool-facts}
use Rattle.model.proofs.Words.{pool-fits, valid-words, valid-pool}
use Rattle.pool.specs.Held.{Held, ThreadAt, FrameAt}
use Rattle.pool.proofs.Edits.{frame-read}
use Rattle.starts.specs.Starts.{Begins}

-- words that are a pool of a table hold it
held : (P : Program) (ws : List ℤ) → are_pool P ws ≡ true → Held ws (pool_of ws)
held P ws v =
    record { words = sym (valid-words P ws v); fits = pool-fits (pool-facts P (pool_of ws) (valid-pool P ws v)) }

pub begins : Begins
begins P ws v a t b e K₁ k K₂ f =
    let h : ThreadAt ws (length a) a t b = record { held = subst (Held ws) e (held P ws v); place = refl } in
    let g : FrameAt t (length K₂) K₁ k K₂ = record { is = f; place = refl } in
    frame-read h g (start_of (length a) (length K₂)) refl
