-- What the contracts come to over a whole input.
use Rattle.std.proofs.Common.{◌≡◌, ℕ, ◌+◌, ◌^◌, ◌<◌, List, [], ◌∷◌, ◌++◌, length, take, ℤ, sym, refl, ap, ◌∙◌, append-nil, arith, length-append}
use Rattle.model.specs.Lists.{concat}
use Rattle.model.specs.Output.{output}
use Rattle.flow.specs.declared.Run.{Run}
use Rattle.flow.specs.Stages.{Stage, beginning, whole, after, said, ends, fine}
use Rattle.flow.specs.Pieces.{printed_of, InPieces, Judged, Deaf}
use Rattle.flow.specs.Stands.{Memory, Stands, index_of, Ends}
use Rattle.flow.specs.Sessions.{Turn, Turns, last_memory, last_run, came, written, fresh, begun, Prints, Stops, Judges}
use Rattle.flow.proofs.Pieces.{after-append, said-append, in_pieces, judges, deaf}
use Rattle.flow.proofs.Feeding.{index-after}

-- the start
begun-stands : (table : List ℕ) (ws : List ℤ) → Stands (fresh table ws) begun beginning
unfolding whole
begun-stands table ws = record { taken = omega arith; by = record { phase = refl; bytes = refl; lacks = refl; none = refl } }

-- the turns, from any stage on: the stage behind them, and what was written
pub record Came (m : Memory) (r : Run) (ts : List Turn) (st : Stage) : Type 0 where
  pub stage : Stands (last_memory m ts) (last_run r ts) (after st (came ts))
  pub text : written ts ≡ said st (came ts)

turns-come : (m : Memory) (r : Run) (ts : List Turn) (st : Stage) → Stands m r st → Turns m r ts → index_of st + length (came ts) < 2 ^ 64
    → Came m r ts st
unfolding concat after said
turns-come m r [] st h t l = record { stage = h; text = refl }
turns-come m r (u ∷ ts) st h t l =
    let x = length-append u.piece (came ts) in
    let f = t.0.is st h t.1 (omega arith) in
    let i = index-after st u.piece in
    let z = turns-come u.memory u.run ts (after st u.piece) f.stage t.2 (omega arith) in
    record {
      stage = rw (after-append st u.piece (came ts)) z.stage;
      text = ap (λ (xs : List ℕ). xs ++ written ts) f.text.bytes ∙ ap (λ (xs : List ℕ). said st u.piece ++ xs) z.text
          ∙ sym (said-append st u.piece (came ts));
    }

-- the whole output, by the stages
by-stages : (s : List ℕ) → said beginning s ++ ends (after beginning s) ≡ output s
unfolding InPieces printed_of concat
by-stages s = in_pieces (s ∷ []) ∙ ap output (append-nil s)

module _ (table : List ℕ) (ws : List ℤ) (ts : List Turn) (t : Turns (fresh table ws) begun ts) (l : length (came ts) < 2 ^ 64) where
  all : Came (fresh table ws) begun ts beginning
  all = turns-come (fresh table ws) begun ts beginning (begun-stands table ws) t (omega arith)

  ended : (lent : List ℕ) (n : ℕ) (out : List ℕ) → Ends (last_memory (fresh table ws) ts) lent (last_run begun ts) n out
      → written ts ++ take n out ≡ said beginning (came ts) ++ ends (after beginning (came ts))
  ended lent n out e =
      ap (λ (xs : List ℕ). xs ++ take n out) all.text
      ∙ ap (λ (xs : List ℕ). said beginning (came ts) ++ xs) (e.is (after beginning (came ts)) all.stage).bytes

pub prints : Prints
unfolding Prints
prints table ws ts t l lent n out e = ended table ws ts t l lent n out e ∙ by-stages (came ts)

pub stops : Stops
unfolding Stops Deaf Judged
stops table ws ts t l lent n out e q more =
    let st = after beginning (came ts) in
    let here = (all table ws ts t l).stage in
    let d = deaf st (sym (q.is _ st here)) more in
    let same : after beginning (came ts ++ more) ≡ st = after-append beginning (came ts) more ∙ d.1 in
    let silent : said beginning (came ts ++ more) ≡ said beginning (came ts) =
    said-append beginning (came ts) more ∙ ap (λ (xs : List ℕ). said beginning (came ts) ++ xs) d.0
    ∙ append-nil (said beginning (came ts)) in (
      ended table ws ts t l lent n out e
          ∙ sym (ap (λ (xs : List ℕ). xs ++ ends (after beginning (came ts ++ more))) silent
          ∙ ap (λ (x : Stage). said beginning (came ts) ++ ends x) same)
          ∙ by-stages (came ts ++ more),
      λ v f. f.is _ st here ∙ sym (ap fine same) ∙ judges (came ts ++ more),
    )

pub judges-all : Judges
unfolding Judges Judged
judges-all table ws ts t l v q = q.is _ (after beginning (came ts)) (all table ws ts t l).stage ∙ judges (came ts)
