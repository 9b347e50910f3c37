-- Two pools of a table that agree in all words but the sixteen values of each frame give the operator the same.
use Prim.Native.Nat.{ℕ}
use mathlib.Core.Path.{◌≡◌, refl, sym, ◌∙◌, ap}
use mathlib.Core.Bool.{Bool, true, false, cond}
use mathlib.Core.List.{List, ◌++◌, map}
use lib.Dec.{leb}
use lib.IntN.{ℤ}
use lib.ListN.{length, drop}
use lib.Seq.{take_at}
use Rattle.model.specs.Numbers as No
use Rattle.model.specs.Answers.{Refusal, Answer, Wrote, put}
use Rattle.model.specs.Pool.{pool_of}
use Rattle.model.specs.Calls.{Lent, lent}
use Rattle.model.proofs.Facts.{refused-given, given-injective}
use Rattle.model.proofs.Words.{lent-given, pool-back}
use Rattle.views.specs.Lines.{Viewer}
use Rattle.views.specs.Listing.{listing, listed, list, operator}
use Rattle.views.specs.Means.{Same, Private}
use Rattle.views.proofs.Unseen.{hide, operator-hidden}
use Rattle.views.proofs.Agreeing.{pool-same}

-- the same bytes into outputs equally long
put_same : (q : ℕ) (t out out' : List ℕ) → length out ≡ length out' → Same (put q out t) (put q out' t)
unfolding put
put_same q t out out' e = rw (← e) (go (leb (length t) (length out)))
  where
    wrote : Bool → List ℕ → Wrote
    wrote b d =
        cond b (record { answer = Answer.given (length t); after = t ++ drop (length t) d })
        (record { answer = Answer.refused (Refusal.plain q); after = d })

    go : (b : Bool) → Same (wrote b out) (wrote b out')
    go true =
        record {
          answer = refl;
          bytes = λ n a. let m : length t ≡ n = given-injective a in take_at t _ n m ∙ sym (take_at t _ n m);
        }
    go false = record { answer = refl; bytes = λ n a. refused-given a }

-- what the operator is given, by the pool without what is hidden
lent-pool : (s : List ℕ) (ws : List ℤ) (l : Lent) → lent s ws ≡ Answer.given l → pool_of ws ≡ l.pool
lent-pool s ws l e =
    let h = lent-given s ws l e in
    ap pool_of (sym h.words) ∙ pool-back l.table l.pool h.valid

operator-lent : (s : List ℕ) (ws : List ℤ) (l : Lent) (out : List ℕ) → lent s ws ≡ Answer.given l
    → operator s ws out ≡ put No.listing out (listing Viewer.operator (map hide (pool_of ws)))
unfolding list listed
operator-lent s ws l out e = rw (e, lent-pool s ws l e, operator-hidden l.pool)

pub private : Private
private s ws ws' l l' e e' h out out' long =
    rw (operator-lent s ws l out e, operator-lent s ws' l' out' e', pool-same ws ws' h) (put_same No.listing _ out out' long)
