-- What the transfer of a block calls: it stands behind the block's statements, and its kind decides.
use Prim.Native.Nat.{ℕ, min}
use mathlib.Core.Path.{◌≡◌, subst}
use mathlib.Core.Option.{some}
use mathlib.Core.List.{List}
use native.Mathlib.Omega.{arith}
use lib.ListN.{get_elem?}
use Rattle.model.specs.Syntax.{Program, called_by}
use Rattle.model.specs.Pool.{block_in}
use Rattle.std.specs.Prelude.{Some, None}
use Rattle.places.specs.Places.{Place, Places, FindsCode}
use Rattle.code.specs.Bytes.{byte_at, past}
use Rattle.code.specs.Code.{statements_end, code_end, transfer_of, transfer_at}
use Rattle.code.specs.declared.Kind.{Kind}
use Rattle.code.specs.declared.Kind.TheVariants.{Call}
use Rattle.code.specs.Kinds.{number_of}
use Rattle.code.proofs.Decoding.{no_call, code_is}
use Rattle.code.proofs.KindLaws.{by-kind, kind-other}
use Rattle.depth.specs.Works.{calls_in, FindsCall}

module _ (s places : List ℕ) (f b : ℕ) {r : Place} (find : FindsCode places f b r) where
  pub no_block : r ≡ None → FindsCall s places f b None
  no_block e P p = rw (subst (FindsCode places f b) e find s P _ p)

  module _ {at k n end : ℕ} (e : r ≡ Some at) (e₁ : k ≡ past at 1) (e₂ : n ≡ byte_at s at) (e₃ : end ≡ statements_end s k n) where
    found : (P : Program) → Places s P places → calls_in (block_in (get_elem? P f) b) ≡ some (called_by (transfer_at s end))
    unfolding code_end
    found P p =
        let (B, q, t) = subst (FindsCode places f b) e find s P _ p in
        rw (q, code_is s t.at B t.block.behind at p.short t.block.is t.head, ← e₂, ← e₁, ← e₃)

    module _ {kind : Kind} (e₄ : number_of kind ≡ min (byte_at s end) 5) where
      pub calls : {l g : ℕ} → kind ≡ Call → l ≡ past end 1 → g ≡ byte_at s l → FindsCall s places f b (Some (Some g))
      unfolding transfer_of called_by
      calls z d h P p = rw (found P p, by-kind s end e₄ d z, ← h)

      pub calls-nothing : (kind ≡ Call → ⊥) → FindsCall s places f b (Some None)
      unfolding transfer_at
      calls-nothing z P p = rw (found P p, no_call _ s (past end 1) (kind-other e₄ z (omega arith)))
