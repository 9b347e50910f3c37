-- Listings: what the numbers of mezdaulk_operator and mezdaulk_customer tell, and what is promised of the two in the exports' own terms.
use Prim.Native.Nat.{ℕ, ◌≤◌, ◌<◌}
use mathlib.Core.Path.{◌≡◌, refl, sym, ◌∙◌, ap, subst}
use mathlib.Core.Logic.{inl, inr}
use mathlib.Core.Bool.{Bool, true, false}
use mathlib.Core.Option.{Option, none, some}
use mathlib.Core.List.{List}
use native.Mathlib.Omega.{arith}
use lib.Dec.{leb, lit≤}
use lib.IntN.{ℤ}
use lib.ListN.{length, length-take, take, drop}
use lib.Seq.{drop-append_seam}
use Rattle.model.specs.Numbers as No
use Rattle.model.specs.Answers.{Refusal, Answer, number_of, Wrote, with, put}
use Rattle.model.specs.Pool.{most_threads}
use Rattle.model.specs.Calls as Calls
use Rattle.model.specs.Calls.{Lent, lent}
use Rattle.model.proofs.Facts.{true-false, refused-given, leb-true, leb-false, put-fits, put-short}
use Rattle.model.proofs.Kept.{OnSome}
use Rattle.model.proofs.Numbers as Numbers
use Rattle.model.proofs.Numbers.{Can, Any, lent-can, which-can}
use Rattle.answers.specs.Coded.{code_of}
use Rattle.first.proofs.Means.{which-refused}
use Rattle.views.specs.Lines.{Viewer}
use Rattle.views.specs.Listing.{listing, listed, list, operator, customer}
use Rattle.views.specs.Means.{erased}
use Rattle.views.proofs.Private.{private}
use Rattle.views.proofs.Erased.{erases}
use Rattle.views.proofs.Short.{short}
use Rattle.host.specs.Macros.{is_given, value, listing_bytes}
use Rattle.host.specs.Exports.{as_number, stepper_of}
use Rattle.host.specs.CallContracts.{Which, Listing, Operator}
use Rattle.host.specs.Laws.{answer_in, ListingTells}
use Rattle.host.specs.Views.{Private, Erases}
use Rattle.host.proofs.Codes.{Bare, given_is, refused-in}
use Rattle.host.proofs.Refusals.{lent_fits, lent-told}
use Rattle.host.proofs.Macros.{read-refused, given-read}
use Rattle.host.proofs.Written.{Put, was-put, was-refused}

-- what is lent, and what mezdaulk_which answers of it
data Asked (s : List ℕ) (ws : List ℤ) (w : ℕ) : Type 0 where
  unlent : (q : Refusal) → Numbers.OfLent s q → lent s ws ≡ Answer.refused q → w ≡ code_of q → is_given w ≡ false → Asked s ws w
  lends : (l : Lent) → lent s ws ≡ Answer.given l → is_given w ≡ true → Asked s ws w

told-given : (o : Option ℕ) → OnSome (λ i. i < most_threads) o → is_given (stepper_of (Answer.given o)) ≡ true
unfolding stepper_of
told-given none h = given_is 8 (lit≤ tt)
told-given (some i) h = given_is i (omega arith)

which-lent : (s : List ℕ) (ws : List ℤ) (l : Lent) → lent s ws ≡ Answer.given l →
    Calls.which s ws ≡ Answer.given (Calls.first l.table l.pool)
unfolding Calls.which with
which-lent s ws l e = rw e refl

asked : (s : List ℕ) (ws : List ℤ) (w : ℕ) → Which s ws w → Asked s ws w
unfolding stepper_of
asked s ws w e = go (lent s ws) refl (lent-can s ws)
  where
    go : (a : Answer Lent) → lent s ws ≡ a → Can Any (Numbers.OfLent s) a → Asked s ws w
    go (Answer.given l) i h =
        let o = Calls.first l.table l.pool in
        let z = which-lent s ws l i in
        let can = subst (Can (OnSome (λ j. j < most_threads)) (Numbers.OfLent s)) z (which-can s ws) in
        Asked.lends l i (rw (e, z) (told-given o can))
    go (Answer.refused q) i h =
        let n : w ≡ code_of q = e ∙ ap stepper_of (which-refused s ws i) in
        Asked.unlent q h i n (read-refused w (ap answer_in n ∙ refused-in q (lent_fits q h))).0

-- what a listing comes to: a refusal of the table or the words; the listing; or 28
module _ (who : Viewer) (s : List ℕ) (ws : List ℤ) where
  not-lent : (out : List ℕ) (q : Refusal) → lent s ws ≡ Answer.refused q →
      list who s ws out ≡ record { answer = Answer.refused q; after = out }
  unfolding list listed
  not-lent out q e = rw e refl

  module _ (l : Lent) (e : lent s ws ≡ Answer.given l) (out : List ℕ) where
    abbrev text : List ℕ
    text = listing who l.pool

    is-put : list who s ws out ≡ put No.listing out text
    unfolding list listed
    is-put = rw e refl

    long : length text ≤ listing_bytes
    long = short who s ws l e

    module _ (r : ℕ) (out' : List ℕ) (m : Listing who s ws out r out') where
      that-fits : length text ≤ length out → Put out text r out'
      that-fits f = was-put out text r out' m (omega (arith, long)) (is-put ∙ put-fits No.listing out text f)

      that-is-short : length out < length text →
          (r ≡ code_of (Refusal.plain No.listing)) × (answer_in r ≡ Answer.refused (Refusal.plain No.listing))
          × (is_given r ≡ false)
      that-is-short f =
          was-refused out (Refusal.plain No.listing) r out' m (Bare.of_later (lit≤ tt, lit≤ tt)) (is-put ∙ put-short No.listing out text f)

-- where something is lent mezdaulk_which is given, and where nothing is it is refused the same
which-lends : (s : List ℕ) (ws : List ℤ) (l : Lent) → lent s ws ≡ Answer.given l → (w : ℕ) → Which s ws w → is_given w ≡ true
which-lends s ws l e w i = go (asked s ws w i)
  where
    go : Asked s ws w → is_given w ≡ true
    go (Asked.unlent q h z n b) = refused-given (sym z ∙ e)
    go (Asked.lends k z b) = b

which-stops : (s : List ℕ) (ws : List ℤ) (q : Refusal) → lent s ws ≡ Answer.refused q → (w : ℕ) → Which s ws w → w ≡ code_of q
unfolding stepper_of
which-stops s ws q e w i = i ∙ ap stepper_of (which-refused s ws e)

module _ (who : Viewer) (s : List ℕ) (ws : List ℤ) (out : List ℕ) (r : ℕ) (out' : List ℕ) (m : Listing who s ws out r out') where
  tells-refused : (q : Refusal) → Numbers.OfLent s q → lent s ws ≡ Answer.refused q → ListingTells who s ws out r out'
  tells-refused q h e =
      let i = not-lent who s ws out q e in
      let (n, a, not) = was-refused out q r out' m (lent_fits q h) i in
      let stops : (w : ℕ) → Which s ws w → is_given w ≡ false = λ w k. ap is_given (which-stops s ws q e w k ∙ sym n) ∙ not in
      record {
        answers = a ∙ sym (ap (λ (w : Wrote). w.answer) i);
        given = λ g. true-false (is_given r) g not;
        again = λ g. true-false (is_given r) g not;
        behind = λ g. true-false (is_given r) g not;
        shorter = λ g. true-false (is_given r) g not;
        refused = λ g. inl (rw n (lent-told h));
        unlent = λ w k g. n ∙ sym (which-stops s ws q e w k);
        short = λ w k g. true-false (is_given w) g (stops w k);
        enough = λ w k g. true-false (is_given w) g (stops w k);
        unwritten = λ g. m.bytes ∙ ap (λ (w : Wrote). w.after) i;
      }

  module _ (l : Lent) (e : lent s ws ≡ Answer.given l) where
    abbrev t : List ℕ
    t = listing who l.pool

    tells-fits : length t ≤ length out → ListingTells who s ws out r out'
    unfolding number_of
    tells-fits f =
        let p = that-fits who s ws l e out r out' m f in
        record {
          answers = p.told ∙ sym (ap (λ (w : Wrote). w.answer) (is-put who s ws l e out ∙ put-fits No.listing out t f));
          given = λ g. rw p.counted (f, long who s ws l e out);
          again = λ g d q d' i k.
              let y = that-fits who s ws l e d q d' i (omega (arith, k, p.counted)) in
              (y.number ∙ sym p.number, ap (λ (n : ℕ). take n d') (p.counted ∙ sym y.counted) ∙ y.front ∙ sym p.front);
          behind = λ g. rw (p.counted, p.is) (drop-append_seam t (drop (length t) out));
          shorter = λ g d q d' i k.
              let y = that-is-short who s ws l e d q d' i (omega (arith, k, p.counted)) in (y.2, (read-refused q y.1).1);
          refused = λ z. true-false (is_given r) p.yes z;
          unlent = λ w i z. true-false (is_given w) (which-lends s ws l e w i) z;
          short = λ w i g z. true-false (is_given r) p.yes z;
          enough = λ w i g z. p.yes;
          unwritten = λ z. true-false (is_given r) p.yes z;
        }

    tells-short : length out < length t → ListingTells who s ws out r out'
    unfolding number_of
    tells-short f =
        let (n, a, not) = that-is-short who s ws l e out r out' m f in
        let z = is-put who s ws l e out ∙ put-short No.listing out t f in
        record {
          answers = a ∙ sym (ap (λ (w : Wrote). w.answer) z);
          given = λ g. true-false (is_given r) g not;
          again = λ g. true-false (is_given r) g not;
          behind = λ g. true-false (is_given r) g not;
          shorter = λ g. true-false (is_given r) g not;
          refused = λ g. inr (read-refused r a).1;
          unlent = λ w i g. true-false (is_given w) (which-lends s ws l e w i) g;
          short = λ w i g k. (read-refused r a).1;
          enough = λ w i g k. let x = long who s ws l e out in absurd (omega arith);
          unwritten = λ g. m.bytes ∙ ap (λ (w : Wrote). w.after) z;
        }

  pub listing-law : ListingTells who s ws out r out'
  listing-law = go (lent s ws) refl (lent-can s ws)
    where
      on : (l : Lent) → lent s ws ≡ Answer.given l → (b : Bool) → leb (length (listing who l.pool)) (length out) ≡ b →
          ListingTells who s ws out r out'
      on l e true f = tells-fits l e (leb-true _ _ f)
      on l e false f = tells-short l e (leb-false _ _ f)

      go : (a : Answer Lent) → lent s ws ≡ a → Can Any (Numbers.OfLent s) a → ListingTells who s ws out r out'
      go (Answer.given l) e h = on l e (leb (length (listing who l.pool)) (length out)) refl
      go (Answer.refused q) e h = tells-refused q h e

-- what the operator cannot tell
pub exports-private : Private
exports-private s ws ws' w w' i i' g g' A out out' n r r' d d' m m' = go (asked s ws w i) (asked s ws' w' i')
  where
    go : Asked s ws w → Asked s ws' w' → (r ≡ r') × (is_given r ≡ true → take (value r) d ≡ take (value r) d')
    go (Asked.unlent q h z k b) y = true-false (is_given w) g b
    go (Asked.lends l e b) (Asked.unlent q h z k c) = true-false (is_given w') g' c
    go (Asked.lends l e b) (Asked.lends l' e' c) =
        let x = private s ws ws' l l' e e' A out out' n in (
          m.number ∙ ap as_number x.answer ∙ sym m'.number,
          λ z.
              let a = sym (listing-law Viewer.operator s ws out r d m).answers ∙ given-read r z in
              rw (m.bytes, m'.bytes) (x.bytes (value r) a),
        )

-- the operator's listing is the customer's without its values: bytes t that are put into an output
operators : (s : List ℕ) (ws : List ℤ) (t out : List ℕ) (q : ℕ) (d : List ℕ) (n : ℕ) → Operator s ws out q d → n ≤ listing_bytes
    → length t ≤ n → operator s ws out ≡ put No.listing out t
    → (length t ≤ length out → is_given q ≡ true) × (is_given q ≡ true → take (value q) d ≡ t)
operators s ws t out q d n m l k e = (λ f. (fits f).yes, λ g. go g (leb (length t) (length out)) refl)
  where
    fits : length t ≤ length out → Put out t q d
    fits f = was-put out t q d m (omega arith) (e ∙ put-fits No.listing out t f)

    go : is_given q ≡ true → (b : Bool) → leb (length t) (length out) ≡ b → take (value q) d ≡ t
    go g true f = (fits (leb-true _ _ f)).front
    go g false f =
        let x = e ∙ put-short No.listing out t (leb-false _ _ f) in
        true-false (is_given q) g (was-refused out (Refusal.plain No.listing) q d m (Bare.of_later (lit≤ tt, lit≤ tt)) x).2

pub exports-erase : Erases
exports-erase s ws out r d m g out' q d' m' =
    let L = listing-law Viewer.customer s ws out r d m in
    let E = erases s ws out (value r) (sym L.answers ∙ given-read r g) in
    let v : take (value r) (customer s ws out).after ≡ take (value r) d = ap (take (value r)) (sym m.bytes) in
    let less : length (erased (take (value r) d)) ≤ length (take (value r) d) =
    subst (λ (t : List ℕ). length (erased t) ≤ length t) v E.shorter in
    let few : length (take (value r) d) ≤ value r = omega (arith, length-take (value r) d) in
    let o : operator s ws out' ≡ put No.listing out' (erased (take (value r) d)) =
    E.is out' ∙ ap (λ (t : List ℕ). put No.listing out' (erased t)) v in
    let x = operators s ws (erased (take (value r) d)) out' q d' (value r) m' (L.given g).1 (omega arith) o in
    record { given = x.0; bytes = x.1; shorter = less }
