-- The whole listing: where it is put, whether it fits, and what the call answers and leaves.
use Prim.Native.Nat.{ℕ, ◌^◌, ◌<◌, ◌≤◌}
use native.Mathlib.Omega.{arith}
use native.Mathlib.Nat.{zero-add}
use mathlib.Core.Path.{◌≡◌, refl, sym, ap, ◌∙◌}
use mathlib.Core.Bool.{Bool, true, false}
use mathlib.Core.List.{List, ◌++◌}
use lib.Dec.{leb}
use Rattle.std.specs.Prelude.{Result, Ok, Err}
use lib.IntN.{ℤ}
use lib.ListN.{length, drop}
use lib.Seq.{sets-eq}
use Rattle.model.specs.Numbers as No
use Rattle.model.specs.Answers.{Answer, put}
use Rattle.model.specs.Calls.{lent}
use Rattle.model.proofs.Facts.{each_map, le-leb, leb-true, leb-false, put-fits, put-short}
use Rattle.model.proofs.Valid.{pool-facts, some-thread}
use Rattle.model.proofs.Words.{pool-fits}
use Rattle.answers.specs.Answers.{refusal_of, Writes}
use Rattle.answers.specs.declared.No.{No as Code}
use Rattle.answers.specs.declared.Refusal as Why
use Rattle.answers.specs.declared.Refusal.TheVariants.{Plain}
use Rattle.lend.proofs.Lending.{Lending}
use Rattle.pool.proofs.Pools.{small-thread}
use Rattle.views.specs.Listing.{root_lines, listing, listed, list}
use Rattle.views.specs.Means.{Short, listing_bytes}
use Rattle.listing.specs.declared.Viewer.{Viewer}
use Rattle.listing.specs.declared.Listed.{Listed}
use Rattle.listing.specs.Shown.{viewer_of, Holds, ListsThread, PutsListing, Fits}
use Rattle.listing.proofs.Lists.{there}

module _ (who : Viewer) (ws : List ℤ) where
  -- thread 0's lines are the listing
  pub whole : {out : List ℕ} (r : Listed) {out' : List ℕ} → ListsThread who ws 0 0 out 0 r out' → PutsListing who ws out r.at out'
  unfolding listing root_lines
  whole r l p h = let t = there h 0 h.some in rw t.grows (l p h _ _ t.grows).0

  -- whether it fits
  pub fits_all : {room : ℕ} → listing_bytes ≤ room → Fits who ws room true
  fits_all {room} h p x l = sym (le-leb (length (listing (viewer_of who) p)) room (omega arith))

  pub fits-counted : (room : ℕ) {d : List ℕ} {r : ℕ} {d' : List ℕ} → length d ≡ 1 → PutsListing who ws d r d'
      → Fits who ws room (leb r room)
  fits-counted room {d} {r} e q p x l =
      let z = ((q p x).is (omega arith) (omega arith)).0 in
      let i : r ≡ length (listing (viewer_of who) p) = omega (arith, z) in
      ap (λ (k : ℕ). leb k room) i

-- a pool that is lent: its words hold it
module _ {s places : List ℕ} {ws : List ℤ} (l : Lending s places ws) where
  pub lent-holds : Holds ws l.what.pool
  lent-holds =
      let f = pool-facts l.what.table l.what.pool l.valid in
      record {
        held = record { words = l.words; fits = pool-fits f };
        some = some-thread l.what.table l.what.pool l.valid;
        small = each_map (λ t q. small-thread l.table.limits q) l.what.pool f.each;
      }

-- what the call answers: a refusal of the table or the words
pub list-refused : (who : Viewer) (s : List ℕ) (ws : List ℤ) (out : List ℕ) (why : Why.Refusal) {r : Result ℕ Why.Refusal}
    → lent s ws ≡ Answer.refused (refusal_of why) → r ≡ Err why → Writes (list (viewer_of who) s ws out) r out
unfolding list listed
list-refused who s ws out why e d = rw (e, d) (record { answer = refl; after = refl })

-- 28, and the listing
module _ (short : Short) (who : Viewer) {s places : List ℕ} {ws : List ℤ} (l : Lending s places ws) (out : List ℕ) where
  abbrev text : List ℕ
  text = listing (viewer_of who) l.what.pool

  is-put : list (viewer_of who) s ws out ≡ put No.listing out text
  unfolding list listed
  is-put = rw l.is refl

  long : length text ≤ listing_bytes
  long = short (viewer_of who) s ws l.what l.is

  pub list-short : {b : Bool} {n : Code} → n.0 ≡ No.listing → Fits who ws (length out) b → b ≡ false
      → Writes (list (viewer_of who) s ws out) (Err (Plain n)) out
  list-short i u h =
      let f : leb (length text) (length out) ≡ false = sym (u l.what.pool (lent-holds l) long) ∙ h in
      rw (is-put, put-short No.listing out text (leb-false _ _ f), i) (record { answer = refl; after = refl })

  list-length : {n : ℕ} {out' : List ℕ} → length out < 2 ^ 63 → PutsListing who ws out n out' → n ≡ length text
  list-length small q =
      let w = (q l.what.pool (lent-holds l)).is (omega arith) small in
      omega (arith, long, w.0)

  pub list-word : {n : ℕ} {out' : List ℕ} → length out < 2 ^ 63 → PutsListing who ws out n out' → n < 2 ^ 32
  list-word small q = omega (arith, long, list-length small q)

  pub list-given : {b : Bool} {n : ℕ} {out' : List ℕ} → length out < 2 ^ 63 → Fits who ws (length out) b → b ≡ true
      → PutsListing who ws out n out' → Writes (list (viewer_of who) s ws out) (Ok n) out'
  list-given {b} {n} {out'} small u h q =
      let f : length text ≤ length out = leb-true _ _ (sym (u l.what.pool (lent-holds l) long) ∙ h) in
      let w = (q l.what.pool (lent-holds l)).is (omega arith) small in
      let m : n ≡ length text = list-length small q in
      let e : out' ≡ text ++ drop (length text) out =
      w.1 ∙ sets-eq text out 0 (omega (arith, f)) ∙ ap (λ (k : ℕ). text ++ drop k out) (zero-add (length text)) in
      rw (is-put, put-fits No.listing out text f, m) (record { answer = refl; after = e })
