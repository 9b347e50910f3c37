-- What the lookup finds, from the array's entry, and where the number is out of range.
use Prim.Native.Nat.{ℕ, ◌≤◌, ◌<◌}
use mathlib.Core.Path.{refl}
use mathlib.Core.Logic.{◌⊎◌, inl, inr}
use mathlib.Core.List.{List}
use Rattle.places.specs.Layout as Layout
use Rattle.std.specs.Prelude.{None}
use Rattle.transfers.specs.Transfers.{transfer_in, FindsTransfer}

-- past the blocks of a function, or past the functions
pub transfer-past : (transfers : List ℕ) (f b : ℕ) → ((f < Layout.functions) × (Layout.blocks ≤ b)) ⊎ (Layout.functions ≤ f)
    → FindsTransfer transfers f b None
unfolding transfer_in
transfer-past transfers f b (inl (m, l)) s P t = rw (t.few_blocks f b l) refl
transfer-past transfers f b (inr l) s P t = rw (t.few_functions f b l) refl
