-- The array while it is filled: the entries below an index are right, and the others stand for none.
use Prim.Native.Nat.{ℕ, ◌+◌, ◌*◌, ◌%◌, ◌≤◌, ◌<◌}
use mathlib.Core.Path.{◌≡◌, refl, ◌∙◌, subst}
use mathlib.Core.Bool.{Bool, true, false}
use mathlib.Core.Option.{none, some}
use mathlib.Core.List.{List}
use native.Mathlib.Nat.{mod-eq_of_lt}
use native.Mathlib.Omega.{arith}
use lib.Dec.{ltb}
use lib.ListN.{length, get_or, get_elem?, set, length-set, length-replicate, get_or-replicate}
use lib.Seq.{get_or-set_same, get_or-set_other}
use Rattle.model.specs.Syntax.{Head, Block, Program}
use Rattle.model.specs.Read as Read
use Rattle.model.specs.Read.{Parser}
use Rattle.model.specs.Pool.{block_in}
use Rattle.model.proofs.Facts.{ltb-true, ltb-false}
use Rattle.places.specs.Layout as Layout
use Rattle.std.specs.Prelude.{Some, None}
use Rattle.places.specs.Places.{PlacesBy, Entry, Reads, FindsCode}
use Rattle.places.proofs.Lookups.{code-past, code-none}
use Rattle.code.specs.Bytes.{byte_at, past}
use Rattle.code.specs.Code.{statements_end, code_end}
use Rattle.transfers.specs.Transfers.{index, len, nowhere, transfer_in, Finds}
use Rattle.transfers.proofs.Blocks.{transfer-reads, no_more}

-- an entry is that of the transfer of block b of function f
abbrev EntryOf : List ℕ → Program → ℕ → ℕ → ℕ → Type 0
EntryOf s P f b at = Entry Read.transfer s at (transfer_in (block_in (get_elem? P f) b))

-- how many offsets an entry holds
abbrev offsets : ℕ
offsets = 65536

pub record Filled (s : List ℕ) (P : Program) (transfers : List ℕ) (i : ℕ) : Type 0 where
  pub sized : length transfers ≡ len
  pub found : (f b : ℕ) → f < Layout.functions → b < Layout.blocks → index f b < i → EntryOf s P f b (get_or transfers (index f b) 0)
  pub others : (j : ℕ) → i ≤ j → j < len → get_or transfers j 0 ≡ Layout.absent

module _ (s : List ℕ) (P : Program) (f b : ℕ) where
  -- the entry of a block that is there, and of one that is not
  entry-there : (B : Block) (at : ℕ) → block_in (get_elem? P f) b ≡ some B → at < Layout.absent → Reads Read.transfer s at B.transfer
      → EntryOf s P f b at
  unfolding transfer_in
  entry-there B at e l r = rw e (l, r)

  entry-none : (at : ℕ) → block_in (get_elem? P f) b ≡ none → at ≡ Layout.absent → EntryOf s P f b at
  unfolding transfer_in
  entry-none at e z = rw e z

-- of an array that had none, in every program that the places are those of
abbrev pub Filling : List ℕ → List ℕ → List ℕ → List ℕ → ℕ → Type 0
Filling s places transfers₀ transfers i =
    (P : Program) (v : Parser Head) → PlacesBy v s P places → length s ≤ Layout.absent → transfers₀ ≡ nowhere → Filled s P transfers i

-- at first nothing is found
pub filling-none : (s places transfers : List ℕ) → Filling s places transfers transfers 0
unfolding nowhere
filling-none s places transfers P v p l e =
    record {
      sized = rw e (length-replicate {A = ℕ} len Layout.absent);
      found = λ f b h k m. absurd (omega arith);
      others = λ j h k. rw e (get_or-replicate len j Layout.absent 0 k);
    }

-- all are found
pub filling-end : (s places transfers₀ transfers : List ℕ) (f : ℕ) → Filling s places transfers₀ transfers (Layout.blocks * f)
    → Layout.functions ≤ f → Finds s places transfers₀ transfers
filling-end s places transfers₀ transfers g t h P v p l e =
    record {
      entries = λ f b m n. (t P v p l e).found f b m n (omega arith);
      few_functions = λ f b m. code-none places f b m s P v p;
      few_blocks = λ f b m. code-past places f b m s P v p;
    }

-- the same array, up to an equal index
pub filling-same : (s places transfers₀ transfers : List ℕ) {i j : ℕ} → Filling s places transfers₀ transfers i → i ≡ j
    → Filling s places transfers₀ transfers j
filling-same s places transfers₀ transfers t e = subst (Filling s places transfers₀ transfers) e t

module _ (s places transfers₀ transfers : List ℕ) (f b : ℕ) (inside : b < Layout.blocks)
    (t : Filling s places transfers₀ transfers (index f b)) where
  -- a block that is not there: so are those behind it in its function
  pub filling_skip : FindsCode places f b None → Filling s places transfers₀ transfers (Layout.blocks * (f + 1))
  filling_skip find P v p l e =
      record {
        sized = (t P v p l e).sized;
        found = λ g c m n h. go g c m n h (ltb (index g c) (index f b)) refl;
        others = λ j h k. (t P v p l e).others j (omega arith) k;
      }
    where
      go : (g c : ℕ) → g < Layout.functions → c < Layout.blocks → index g c < Layout.blocks * (f + 1)
          → (d : Bool) → ltb (index g c) (index f b) ≡ d → EntryOf s P g c (get_or transfers (index g c) 0)
      go g c m n h true q = (t P v p l e).found g c m n (ltb-true (index g c) (index f b) q)
      go g c m n h false q =
          let k : index f b ≤ index g c = ltb-false (index g c) (index f b) q in
          let zf : f ≡ g = omega arith in
          entry-none s P g c _ (no_more (get_elem? P g) b c (omega arith) (rw (← zf) (find s P v p)))
          ((t P v p l e).others (index g c) k (omega arith))

  -- the transfer of the block there
  pub filling-next : {at end : ℕ} → f < Layout.functions → FindsCode places f b (Some at)
      → end ≡ statements_end s (past at 1) (byte_at s at)
      → Filling s places transfers₀ (set transfers (index f b) (end % offsets)) (Layout.blocks * f + (b + 1))
  unfolding code_end
  filling-next {at} {end} few find d P v p l e =
      record {
        sized = length-set transfers (index f b) (end % offsets) ∙ (t P v p l e).sized;
        found = λ g c m n k. go g c m n k (ltb (index g c) (index f b)) refl;
        others = λ j h m.
            get_or-set_other transfers (index f b) j (end % offsets) 0 (λ w. omega arith) ∙ (t P v p l e).others j (omega arith) m;
      }
    where
      go : (g c : ℕ) → g < Layout.functions → c < Layout.blocks → index g c < Layout.blocks * f + (b + 1)
          → (u : Bool) → ltb (index g c) (index f b) ≡ u
          → EntryOf s P g c (get_or (set transfers (index f b) (end % offsets)) (index g c) 0)
      go g c m n h true q =
          let k : index g c < index f b = ltb-true (index g c) (index f b) q in
          rw (get_or-set_other transfers (index f b) (index g c) (end % offsets) 0 (λ w. omega arith)) ((t P v p l e).found g c m n k)
      go g c m n h false q =
          let k : index f b ≤ index g c = ltb-false (index g c) (index f b) q in
          let zf : f ≡ g = omega arith in
          let zb : b ≡ c = omega arith in
          let (B, i, r) = find s P v p in
          let (within, reads) = transfer-reads v s at B p.short r in
          let w : end % offsets ≡ code_end s at = mod-eq_of_lt (omega arith) ∙ d in
          rw (← zf, ← zb, get_or-set_same transfers (index f b) (end % offsets) 0 (omega (arith, (t P v p l e).sized)), w)
          (entry-there s P f b B (code_end s at) i (omega arith) reads)
