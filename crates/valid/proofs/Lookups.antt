-- What the lookups of a frame's block and of its open spawn calls tell.
use Prim.Native.Nat.{ℕ}
use mathlib.Core.Path.{◌≡◌, subst}
use mathlib.Core.Bool.{true, false}
use mathlib.Core.List.{List}
use lib.Dec.{leb}
use lib.IntN.{ℤ}
use Rattle.model.specs.Syntax.{Program}
use Rattle.std.specs.Prelude.{Some, None}
use Rattle.places.specs.Places.{Place, Places, FindsSpawn, FindsCode}
use Rattle.code.specs.Bytes.{byte_at, past}
use Rattle.code.specs.Code.{code_at}
use Rattle.code.proofs.Ends.{statements-length}
use Rattle.code.proofs.Decoding.{code_is}
use Rattle.valid.specs.Judged.{plain, reaches, there, is_call, JudgesPlace}

-- a block, with its number of statements behind its head; and none
module _ (s places : List ℕ) (f b done : ℕ) (r : Place) (F : FindsCode places f b r) where
  pub block-there : (at : ℕ) {n : ℕ} → r ≡ Some at → n ≡ byte_at s at → JudgesPlace s places f b done (leb done n)
  unfolding reaches code_at
  block-there at {n} e c P p =
      let (B, q, t) = subst (FindsCode places f b) e F s P _ p in
      rw (
        q,
        code_is s t.at B t.block.behind at p.short t.block.is t.head,
        statements-length s (past at 1) (byte_at s at),
        c,
      )

  pub block-gone : r ≡ None → JudgesPlace s places f b done false
  unfolding reaches
  block-gone e P p = rw (subst (FindsCode places f b) e F s P _ p)

-- a spawn call, and none
module _ {s : List ℕ} {P : Program} {places : List ℕ} (h : Places s P places) where
  pub call-gone : (f n : ℕ) (w : ℤ) (r : Place) → FindsSpawn places f n r → n ≡ plain w → r ≡ None → is_call P f w ≡ false
  unfolding is_call there
  call-gone f n w r F m e = rw (← m, subst (FindsSpawn places f n) e F s P _ h)

  pub call-there : (f n at : ℕ) (w : ℤ) (r : Place) → FindsSpawn places f n r → n ≡ plain w → r ≡ Some at → is_call P f w ≡ true
  unfolding is_call there
  call-there f n at w r F m e = rw (← m, (subst (FindsSpawn places f n) e F s P _ h).1)
