-- Where a transfer or a block reads, what the code puts is what is written of it under the new numbers.
use Prim.Native.Nat.{ℕ, suc, ◌+◌, ◌-◌, ◌^◌, ◌<◌, min}
use mathlib.Core.Path.{◌≡◌, refl, sym, ap, ◌∙◌}
use mathlib.Core.List.{List, [], ◌∷◌, ◌++◌, map, append_assoc}
use native.Mathlib.Nat.{min-eq_left}
use native.Mathlib.Omega.{arith}
use lib.ListN.{length, length-map}
use Rattle.model.specs.Limits.{InStatement, InTransfer}
use Rattle.model.specs.Syntax.{Transfer, Head, Block, SpawnCall, Function}
use Rattle.model.specs.Read as Read
use Rattle.model.specs.Read.{Parsed, Parser}
use Rattle.model.specs.Write as Write
use Rattle.model.specs.Write.{HoldsExpression, HoldsTransfer}
use Rattle.model.proofs.Facts.{each_both}
use Rattle.model.proofs.Undoing.{Law, Between, between-append, between_left, between-right, stands-byte, stands-inside, back, forth}
use Rattle.model.proofs.Undoing.{law-counted}
use Rattle.model.proofs.Writing.{law-few, law-arguments, law-half, law-expression, law-statement, law-transfer, law-head, law-block}
use Rattle.model.proofs.Writing.{law-spawn_call, law-function, HeldTransfer, HeldHead, HeldBlock}
use Rattle.code.specs.Bytes.{byte_at, past}
use Rattle.code.specs.Code.{run, count_at, list_end, spawn_end, statements_end, nesting_at, head_end, opening_at, code_end}
use Rattle.code.specs.declared.Opening.{Opening}
use Rattle.code.specs.declared.Kind.{Kind}
use Rattle.code.specs.declared.Kind.TheVariants.{Goto, If, Call, Return, Spork, Spoin}
use Rattle.code.specs.Kinds.{number_of}
use Rattle.code.proofs.KindLaws.{kind-low, kind-spoin}
use Rattle.code.proofs.Offsets.{past-in}
use Rattle.code.proofs.Decoding.{In, Decodes, decodes-list, decodes-arguments, decodes-half, decodes-expression, decodes-head, decodes-code}
use Rattle.numbering.specs.Renamed as Renamed
use Rattle.numbering.specs.Renamed.{Names}
use Rattle.puts.specs.Puts.{Puts, stretch}
use Rattle.puts.proofs.Laws.{then, same}
use Rattle.model.proofs.Writing.{bytes-are}
use Rattle.puts.proofs.Parts.{stretch-is}
use Rattle.transfers.proofs.Blocks.{transfer-inside}
use Rattle.tidy.specs.declared.Numbering.{Numbering}
use Rattle.kept.specs.Kept.{number_in}
use Rattle.tidy.specs.Writes.{renamed_two, renamed_applied, renamed_if, renamed_call, renamed_kind, names_by}
use Rattle.tidy.specs.Writes.{PutsTransfer, PutsBlock}

-- a byte, and what stands behind it
pub record Step (s : List ℕ) (at k x : ℕ) (ys : List ℕ) : Type 0 where
  pub is : byte_at s at ≡ x
  pub here : Between s at (past at 1) (x ∷ [])
  pub rest : Between s (past at 1) k ys
  pub on : In s (past at 1)

pub step : {s : List ℕ} {at k x : ℕ} {ys : List ℕ} → In s at → Between s at k (x ∷ ys) → Step s at k x ys
step {s} {at} {k} {x} {ys} i b =
    let h : at < length s = stands-inside s at x ys b.stand in
    let p : past at 1 ≡ at + 1 = past-in s at 1 i.short (omega arith) in
    record {
      is = stands-byte s at x ys b.stand;
      here = rw p (between_left (x ∷ []) ys b);
      rest = rw p (between-right (x ∷ []) ys b);
      on = record { within = omega arith; short = i.short };
    }

-- what p reads, up to where the code says that it ends, and what stands behind it
record Part (s : List ℕ) (at k end : ℕ) (xs ys : List ℕ) : Type 0 where
  here : Between s at end xs
  rest : Between s end k ys
  on : In s end

module _ {A : Type 0} {p : Parser A} {w : A → List ℕ} {K : A → Type 0} {h : List ℕ → ℕ → A} {e : List ℕ → ℕ → ℕ} (l : Law p w K)
    (d : Decodes p h e) {s : List ℕ} {at : ℕ} (a : A) where
  part : {k : ℕ} {ys : List ℕ} → In s at → K a → Between s at k (w a ++ ys) → Part s at k (e s at) (w a) ys
  part {k} {ys} i g b =
      let left = between_left (w a) ys b in
      let q = forth l s at a _ g left in
      let n : at + length (w a) ≡ e s at = d.end s at a _ q i in
      record {
        here = rw (← n) left;
        rest = rw (← n) (between-right (w a) ys b);
        on = rw (← n) (d.within s at a _ q i);
      }

  -- the same, where nothing stands behind it
  last : {k : ℕ} → In s at → K a → Between s at k (w a) → stretch s at (e s at) ≡ w a
  last {k} i g b = rw (← d.end s at a k (forth l s at a k g b) i) (stretch-is i.within b)

-- a transfer, by its kind
module _ (N : Names) (s : List ℕ) where
  kinds : (at : ℕ) (T : Transfer) (e : ℕ) → In s at → HeldTransfer T → Between s at e (Write.transfer T)
      → byte_at s at ∷ renamed_kind N (byte_at s at) s (past at 1) ≡ Write.transfer (Renamed.transfer N T)
  unfolding Write.transfer Renamed.transfer renamed_kind spawn_end HoldsTransfer InTransfer Read.temporary
  kinds at (Transfer.goto b x̄) e i (h, g) z =
      let k = step i z in
      let n = step k.on k.rest in
      rw (k.is, n.is, last law-arguments decodes-arguments x̄ n.on h n.rest)
  kinds at (Transfer.if c m n) e i (h, (g, _, _)) z =
      let k = step i z in
      let p = part law-expression decodes-expression c k.on (h, g) k.rest in
      let f = step p.on p.rest in
      let t = step f.on f.rest in
      rw (k.is, stretch-is k.on.within p.here, f.is, t.is)
  kinds at (Transfer.call f x̄ b) e i (h, g) z =
      let k = step i z in
      let n = step k.on k.rest in
      let p = part law-arguments decodes-arguments x̄ n.on h n.rest in
      let t = step p.on p.rest in
      rw (k.is, n.is, stretch-is n.on.within p.here, t.is)
  kinds at (Transfer.return x̄) e i (h, g) z =
      let k = step i z in
      rw (k.is, last (law-few 4) (decodes-list 4 0 15 (omega arith)) x̄ k.on h k.rest)
  kinds at (Transfer.spork b π) e i (h, g) z =
      let k = step i z in
      let m = step k.on k.rest in
      let n = step m.on m.rest in
      rw (k.is, m.is, n.is)
  kinds at (Transfer.spoin b c) e i (h, g) z =
      let k = step i z in
      let m = step k.on k.rest in
      let n = step m.on m.rest in
      rw (k.is, m.is, n.is)

-- a kind, and what is put behind it: the transfer under the new numbers
module _ (s : List ℕ) (numbers : Numbering) (at first : ℕ) {d : List ℕ} {k m byte : ℕ} {d' : List ℕ} (e : byte ≡ byte_at s at)
    (f : first ≡ past at 1) (p : Puts d k (byte ∷ []) m d') where
  kind-put : {r : ℕ} {d'' : List ℕ} → Puts d' m (renamed_kind (names_by numbers) byte s first) r d''
      → PutsTransfer s at (names_by numbers) d k r d''
  kind-put q T l z short =
      let N = names_by numbers in
      let i : In s at = record { within = omega (arith, transfer-inside s at T l z); short = short } in
      same (then p q) (rw (e, f) (kinds N s at T l i (law-transfer.holds s at T l z) (back law-transfer s at T l z)))

  module _ {kind : Kind} (j : number_of kind ≡ min (byte_at s at) 5) where
    pub goto-put : {r : ℕ} {d'' : List ℕ} → kind ≡ Goto → Puts d' m (renamed_applied (number_in numbers.blocks) s first) r d''
        → PutsTransfer s at (names_by numbers) d k r d''
    unfolding renamed_kind
    goto-put z q = kind-put (rw (e ∙ kind-low j z (omega arith)) q)

    pub if-put : {r : ℕ} {d'' : List ℕ} → kind ≡ If → Puts d' m (renamed_if (number_in numbers.blocks) s first) r d''
        → PutsTransfer s at (names_by numbers) d k r d''
    unfolding renamed_kind
    if-put z q = kind-put (rw (e ∙ kind-low j z (omega arith)) q)

    pub call-put : {r : ℕ} {d'' : List ℕ} → kind ≡ Call
        → Puts d' m (renamed_call (number_in numbers.functions) (number_in numbers.blocks) s first) r d''
        → PutsTransfer s at (names_by numbers) d k r d''
    unfolding renamed_kind
    call-put z q = kind-put (rw (e ∙ kind-low j z (omega arith)) q)

    pub return-put : {end r : ℕ} {d'' : List ℕ} → kind ≡ Return → end ≡ list_end s first → Puts d' m (stretch s first end) r d''
        → PutsTransfer s at (names_by numbers) d k r d''
    unfolding renamed_kind
    return-put z g q = kind-put (rw (e ∙ kind-low j z (omega arith), ← g) q)

    pub spork-put : {r : ℕ} {d'' : List ℕ} → kind ≡ Spork
        → Puts d' m (renamed_two (number_in numbers.blocks) (number_in numbers.spawns) s first) r d''
        → PutsTransfer s at (names_by numbers) d k r d''
    unfolding renamed_kind
    spork-put z q = kind-put (rw (e ∙ kind-low j z (omega arith)) q)

    pub spoin-put : {r : ℕ} {d'' : List ℕ} → kind ≡ Spoin
        → Puts d' m (renamed_two (number_in numbers.blocks) (number_in numbers.blocks) s first) r d''
        → PutsTransfer s at (names_by numbers) d k r d''
    unfolding renamed_kind
    spoin-put z q =
        let g : byte ≡ suc (suc (suc (suc (suc (byte - 5))))) = omega (arith, kind-spoin j z) in
        kind-put (rw g q)

-- bytes that stand one after another are read back by the code
run_is : (s : List ℕ) (at k : ℕ) (xs : List ℕ) → In s at → Between s at k xs → run s at (length xs) ≡ xs
unfolding run
run_is s at k [] i b = refl
run_is s at k (x ∷ xs) i b = let n = step i b in rw (n.is, run_is s (past at 1) k xs n.on n.rest)

-- a block's head: what is copied of it, and the names of its nesting
regroup : (xs ys : List ℕ) (n : ℕ) (zs : List ℕ) → (xs ++ (ys ++ (n ∷ []))) ++ zs ≡ xs ++ (ys ++ (n ∷ zs))
regroup xs ys n zs = append_assoc xs (ys ++ (n ∷ [])) zs ∙ ap (λ (l : List ℕ). xs ++ l) (append_assoc ys (n ∷ []) zs)

module _ (N : Names) (s : List ℕ) (at : ℕ) where
  head-put : (k : ℕ) (H : Head) → In s at → HeldHead H → Between s at k (Write.head H)
      → stretch s at (past (nesting_at s at) 1) ++ map N.spawn (run s (past (nesting_at s at) 1) (count_at s (nesting_at s at)))
      ≡ Write.head (Renamed.head N H)
  unfolding Write.head Write.arguments Write.counted Renamed.head nesting_at count_at
  head-put k H i (h, g) b =
      let p = part law-arguments decodes-arguments H.parameters i h.parameters b in
      let q = part law-half decodes-half H.scope p.on h.scope p.rest in
      let n = step q.on q.rest in
      let c : min (byte_at s (past (list_end s at) 2)) 8 ≡ length H.nesting = min-eq_left (omega (arith, n.is, h.nesting)) ∙ n.is in
      rw (
        stretch-is i.within (between-append p.here (between-append q.here n.here)),
        c,
        run_is s _ k H.nesting n.on (rw (← bytes-are H.nesting) n.rest),
      )
      (regroup (Write.arguments H.parameters) (Write.half H.scope) (length H.nesting) (map N.spawn H.nesting)
      ∙ rw (bytes-are (map N.spawn H.nesting), length-map H.nesting N.spawn))

  -- a block that stands there: its transfer reads behind its statements, and its parts are those of the block under the new numbers
  record Parts (B : Block) (z : ℕ) : Type 0 where
    transfer : Read.transfer s (code_end s (head_end s at)) ≡ Parsed.ok B.transfer z
    whole :
        stretch s at (past (nesting_at s at) 1)
        ++ (map N.spawn (run s (past (nesting_at s at) 1) (count_at s (nesting_at s at)))
        ++ (stretch s (head_end s at) (code_end s (head_end s at)) ++ Write.transfer (Renamed.transfer N B.transfer)))
        ≡ Write.block (Renamed.block N B)

  block-parts : (B : Block) (z : ℕ) → In s at → HeldBlock B → Between s at z (Write.block B) → Parts B z
  unfolding Write.block_by Renamed.block
  block-parts B z i (h, g) b =
      let p = part law-head decodes-head B.head i (h.head, g.nesting) b in
      let code = each_both InStatement (λ s. HoldsExpression s.source) B.code h.code g.code in
      let c = part (law-counted law-statement 32) decodes-code B.code p.on (code, h.few) p.rest in
      let t : List ℕ = Write.counted Write.statement B.code ++ Write.transfer (Renamed.transfer N B.transfer) in
      record {
        transfer = forth law-transfer s _ B.transfer z (h.transfer, g.transfer) c.rest;
        whole =
            rw (stretch-is p.on.within c.here)
            (sym (append_assoc (stretch s at (past (nesting_at s at) 1)) _ t)
            ∙ ap (λ (l : List ℕ). l ++ t) (head-put _ B.head i (h.head, g.nesting) p.here));
      }

  -- what reads as a block begins within s
  block_inside : (B : Block) (z : ℕ) → Between s at z (Write.block B) → at < length s
  unfolding Write.block_by Write.head Write.arguments Write.counted
  block_inside B z b = stands-inside s at _ _ b.stand

  -- the block is put, part by part
  pub block-put : {h : Opening} {off : ℕ} {d : List ℕ} {k m n l r : ℕ} {d₁ d₂ d₃ d₄ : List ℕ} → h ≡ opening_at s at
      → off ≡ statements_end s (past h.behind 1) (byte_at s h.behind)
      → Puts d k (stretch s at h.nesting) m d₁ → Puts d₁ m (map N.spawn (run s h.nesting h.depth)) n d₂
      → Puts d₂ n (stretch s h.behind off) l d₃ → PutsTransfer s off N d₃ l r d₄ → PutsBlock s at N d k r d₄
  unfolding opening_at code_end
  block-put {h} {off} e f p q u v B z y short =
      let b = back law-block s at B z y in
      let i : In s at = record { within = omega (arith, block_inside B z b); short = short } in
      let w = block-parts B z i (law-block.holds s at B z y) b in
      let g : off ≡ code_end s (head_end s at) = rw e at f in
      let read : Read.transfer s off ≡ Parsed.ok B.transfer z = rw (← g) at w.transfer in
      same (then (rw e at p) (then (rw e at q) (then (rw (e, g) at u) (v B.transfer z read short)))) w.whole

-- a spawn call that reads there, and a function's numbers of parameters and of returned values
pub spawn-put : (N : Names) (s : List ℕ) (at : ℕ) (S : SpawnCall) (k : ℕ) → length s < 2 ^ 64 → Read.spawn_call s at ≡ Parsed.ok S k
    → renamed_applied N.function s at ≡ Write.spawn_call (Renamed.spawn_call N S)
unfolding Write.spawn_call Renamed.spawn_call spawn_end
spawn-put N s at S k short y =
    let b = back law-spawn_call s at S k y in
    let h : at < length s = stands-inside s at _ _ b.stand in
    let n = step (record { within = omega arith; short = short }) b in
    rw (n.is, last law-arguments decodes-arguments S.arguments n.on (law-spawn_call.holds s at S k y).0 n.rest)

pub signature-put : (s : List ℕ) (at : ℕ) (F : Function) (k : ℕ) → length s < 2 ^ 64 → Read.function s at ≡ Parsed.ok F k
    → stretch s at (past at 2) ≡ F.signature.parameters ∷ F.signature.returns ∷ []
unfolding Write.function_by
signature-put s at F k short y =
    let b = back law-function s at F k y in
    let h : at < length s = stands-inside s at _ _ b.stand in
    let i : In s at = record { within = omega arith; short = short } in
    let n = step i b in
    let m = step n.on n.rest in
    let e : past (past at 1) 1 ≡ at + 2 = omega (arith, n.here.end, m.here.end) in
    let two : past (past at 1) 1 ≡ past at 2 = e ∙ sym (past-in s at 2 short (omega (arith, m.on.within))) in
    rw (← two) (stretch-is i.within (between-append n.here m.here))
