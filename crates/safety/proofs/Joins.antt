-- A join in a typed pool: the block behind it takes as many values as the ended child brings. Rule 9's own test is not used.
use Prim.Native.Nat.{ℕ, zero, suc, ◌+◌, ◌-◌}
use mathlib.Core.Path.{◌≡◌, refl, sym, ◌∙◌, subst, subst₂}
use mathlib.Core.Option.{none, some}
use mathlib.Core.List.{List, [], ◌∷◌, ◌++◌}
use native.Mathlib.Numerals.{add-one}
use lib.ListN.{length, get_elem?}
use Rattle.model.specs.Syntax.{Transfer, Block, Function, Program}
use Rattle.model.specs.WellFormed.{env, WF-transfer}
use Rattle.model.specs.Pool.{Frame, Thread, frames, block_of}
use Rattle.model.specs.Frames.{deque}
use Rattle.model.proofs.Facts.{none-some, some-injective}
use Rattle.safety.specs.NeverJams.{At}
use Rattle.safety.proofs.Typing.{Runs, Callers, Typed, promised, Forest}
use Rattle.safety.proofs.Frames.{cont-opens, block-of}
use Rattle.safety.proofs.Acts.{at-transfer, own-last}

-- a typed thread, and the thread directly behind it as the first that is promised
record Neighbours (P : Program) (t u : Thread) : Type 0 where
  ends : ℕ
  typed : Typed P ends t
  others : List ℕ
  brings : ℕ
  rest : List ℕ
  next : promised P (frames t) ++ others ≡ brings ∷ rest
  behind : Typed P brings u

neighbours-first : {P : Program} {r : ℕ} {t u : Thread} (ts : List Thread) (rs qs : List ℕ) → Typed P r t →
    promised P (frames t) ++ rs ≡ qs → Forest P (u ∷ ts) qs → Neighbours P t u
neighbours-first ts rs [] y e w = absurd w
neighbours-first {r = r} ts rs (q ∷ qs) y e w =
    record { ends = r; typed = y; others = rs; brings = q; rest = qs; next = e; behind = w.0 }

neighbours : {P : Program} {t u : Thread} (p : List Thread) (rs : List ℕ) (i : ℕ) → Forest P p rs → get_elem? p i ≡ some t →
    get_elem? p (suc i) ≡ some u → Neighbours P t u
neighbours [] rs i w a b = none-some a
neighbours (x ∷ ts) [] i w a b = absurd w
neighbours (x ∷ []) (r ∷ rs) zero w a b = none-some b
neighbours {P} {t} {u} (x ∷ y ∷ ts) (r ∷ rs) zero w a b =
    let n : Neighbours P x y = neighbours-first ts rs (promised P (frames x) ++ rs) w.0 refl w.1 in
    subst₂ (Neighbours P) (some-injective a) (some-injective b) n
neighbours (x ∷ ts) (r ∷ rs) (suc i) w a b = neighbours ts _ i w.1 a b

-- a typed frame at a transfer: it is well formed, under what is bound
typed_at : {P : Program} {F : Function} {k : Frame} {T : Transfer} (y : Runs P F k) → At P k T →
    WF-transfer (env P F) y.scope k.calls T
typed_at {P} {F} {k} {T} y a =
    let B = y.opens.block in
    let e : a.block ≡ B = some-injective (sym a.there ∙ block-of P k k.block y.opens.function y.opens.there) in
    let d : get_elem? B.code k.done ≡ none = rw (← e) a.done in
    let t : B.transfer ≡ T = rw (← e) a.is in
    rw t at (at-transfer y d)

-- a return brings what its function declares
returns-many : {P : Program} {F : Function} {k : Frame} {x̄ : List ℕ} → Runs P F k → At P k (Transfer.return x̄) →
    length x̄ ≡ F.signature.returns
unfolding WF-transfer env
returns-many y a = (typed_at y a).1

-- the block behind a join
pub record Behind (P : Program) (k : Frame) (c n : ℕ) : Type 0 where
  pub block : Block
  pub there : block_of P k c ≡ some block
  pub takes : length block.head.parameters ≡ n

cons-first : {m n : ℕ} {ms ns : List ℕ} → m ∷ ms ≡ n ∷ ns → m ≡ n
cons-first e = cc

-- the promoted block of a spoin takes what the last open call promises
spoin-takes : {P : Program} {F : Function} {k : Frame} {b c n : ℕ} (K : List Frame) (rs : List ℕ) {qs : List ℕ} → Runs P F k →
    At P k (Transfer.spoin b c) → k.promoted ≡ length k.calls → promised P (k ∷ K) ++ rs ≡ n ∷ qs → Behind P k c n
unfolding WF-transfer deque
spoin-takes {P} {F} {k} {b} {c} K rs y a m e =
    let h = typed_at y a in
    let I = h.0 in
    let f = y.opens.function in
    let o = cont-opens (deque k I.front (k.promoted - 1)) f y.bound refl h.2 in
    record { block = o.block; there = block-of P k c f o.there; takes = o.takes ∙ cons-first (rw (own-last P k f I m) at e) }

-- at a promoted spoin whose newest child has one frame, at a return
pub joins-fit : {P : Program} {t u : Thread} {b c : ℕ} {x̄ : List ℕ} (p : List Thread) (rs : List ℕ) (i : ℕ) → Forest P p rs →
    get_elem? p i ≡ some t → get_elem? p (i + 1) ≡ some u → At P t.newest (Transfer.spoin b c) →
    t.newest.promoted ≡ length t.newest.calls → u.older ≡ [] → At P u.newest (Transfer.return x̄) →
    Behind P t.newest c (length x̄)
joins-fit {P} {t} {u} {x̄ = x̄} p rs i w g d a m s r =
    let n = neighbours p rs i w g (rw (add-one i) at d) in
    let y = n.typed in
    let B = spoin-takes t.older n.others y.runs a m n.next in
    let G = n.behind.function in
    let k = subst (λ (K : List Frame). Callers P G.signature.returns K n.brings) s n.behind.callers in
    record { block = B.block; there = B.there; takes = B.takes ∙ sym (returns-many n.behind.runs r ∙ k) }
