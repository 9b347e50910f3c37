-- The places as the walk keeps them: what each turn of a loop, and its end, shows.
use Prim.Native.Nat.{ℕ, suc, ◌+◌, ◌-◌, ◌≤◌, ◌<◌}
use native.Mathlib.Omega.{arith}
use mathlib.Core.Path.{◌≡◌, refl, sym, ap, ◌∙◌, subst}
use mathlib.Core.Bool.{true≢false}
use mathlib.Core.List.{List}
use Rattle.model.specs.Syntax.{Head, Block}
use Rattle.model.specs.Read.{Parsed, Parser, next, byte, many, spawn_call, block_by, function_by, program_by}
use Rattle.model.proofs.Reading.{next-ok, byte-ok}
use Rattle.table.specs.Skips.{skip_of, byte_of, body}
use Rattle.places.specs.Marks.{mark_function, mark_spawn, mark_block, mark_head}
use Rattle.table.specs.Marks.{onward, marked, along, block_marks_by, Many, sizes, sizes_of, function_marks_by, program_marks_by, Kept}
use Rattle.std.specs.Prelude.{Result, Ok, Err, IsErr}
use Rattle.table.specs.declared.walk.Sizes.{Sizes}
use Rattle.table.proofs.Laws.{byte-then, byte-else, skip-then, skip-else, skip-last, skip-ok, loops}
use Rattle.table.proofs.Rules.{flat}

pub onward-at : {A B : Type 0} (p : Parsed A) (k : A → ℕ → B) (b : B) (r : B) (m : ℕ) → Ok m ≡ skip_of p
    → ((a : A) → p ≡ Parsed.ok a m → k a m ≡ r) → onward p k b ≡ r
unfolding onward skip_of
onward-at (Parsed.ok a at) k b r m e h = let q : at ≡ m = cc in ap (k a) q ∙ h a (ap (Parsed.ok a) q)
onward-at (Parsed.bad x) k b r m e h = absurd (let z : ◌≡◌ {A = ℕ} 0 1 = cc in omega arith)

module _ (A S : Type 0) (p : Parser A) (mark : ℕ → ℕ → S → S) (s : List ℕ) where
  pub marks-go : (n i k m : ℕ) (l l' X : S) → X ≡ marked p mark (n - i) s k i l → Ok m ≡ skip_of (p s k) → i < n → l' ≡ mark i k l
      → X ≡ marked p mark (n - (i + 1)) s m (i + 1) l'
  unfolding marked
  marks-go n i k m l l' X e a h q =
      let z : n - i ≡ suc (n - (i + 1)) = omega arith in
      e
      ∙ ap (λ (n : ℕ). marked p mark n s k i l) z
      ∙ onward-at (p s k) _ _ _ m a (λ x y. refl)
      ∙ ap (marked p mark (n - (i + 1)) s m (i + 1)) (sym q)

  pub marks-end : (n i k : ℕ) (l X : S) → X ≡ marked p mark (n - i) s k i l → n ≤ i → l ≡ X
  unfolding marked
  marks-end n i k l X e h = let z : n - i ≡ 0 = omega arith in sym (e ∙ ap (λ (n : ℕ). marked p mark n s k i l) z)

pub ruleset walks = (marks-go, marks-end, loops, arith)

-- places that are kept only where all was passed over
pub kept-bad : (r : Result ℕ ℕ) (l due : List ℕ) → IsErr r → Kept r l due
unfolding Kept
kept-bad (Ok m) l due o = absurd (true≢false (sym o))
kept-bad (Err x) l due o = tt

-- the numbers before a function's spawn calls, byte by byte
pub whole-then : (B : Type 0) (p : Parsed ℕ) (k : ℕ → ℕ → Parsed B) (X : Parsed B) (v m : ℕ) → byte_of (Ok (v, m)) ≡ p
    → X ≡ k v m → X ≡ next p k
unfolding next byte_of
whole-then B p k X v m e h = h ∙ ap (λ (q : Parsed ℕ). next q k) e

pub lacks-else : (p : Parsed ℕ) (k : ℕ → ℕ → Parsed Many) (r : Result Sizes ℕ) (x : ℕ) → byte_of (Err x) ≡ p → r ≡ Err x
    → sizes_of r ≡ next p k
unfolding next byte_of sizes_of
lacks-else p k r x e o = ap sizes_of o ∙ ap (λ (q : Parsed ℕ). next q k) e

-- how many blocks and spawn calls were read
pub record Few (b c : ℕ) : Type 0 where
  pub blocks : b ≤ 32
  pub spawns : c ≤ 8

of_ok : Parsed Many → Many
of_ok (Parsed.ok z m) = z
of_ok (Parsed.bad x) = record { blocks = 0; spawns = 0 }

pub few-of : (s : List ℕ) (at : ℕ) (z : Many) (m : ℕ) → sizes s at ≡ Parsed.ok z m → Few z.blocks z.spawns
unfolding sizes of_ok
few-of s at z m e =
    let g₁ = next-ok _ _ e in
    let g₂ = next-ok _ _ g₁.then in
    let g₃ = next-ok _ _ g₂.then in
    let g₄ = next-ok _ _ g₃.then in
    let b : g₃.value ≡ z.blocks = ap (λ (p : Parsed Many). (of_ok p).blocks) g₄.then in
    let c : g₄.value ≡ z.spawns = ap (λ (p : Parsed Many). (of_ok p).spawns) g₄.then in
    record {
      blocks = omega (arith, (byte-ok 1 32 s _ _ _ g₃.first).high);
      spawns = omega (arith, (byte-ok 0 8 s _ _ _ g₄.first).high);
    }

pub few : (s : List ℕ) (at : ℕ) (z : Sizes) → sizes_of (Ok z) ≡ sizes s at → Few z.blocks z.spawns
unfolding sizes_of
few s at z e = few-of s at (record { blocks = z.blocks; spawns = z.spawns }) z.next (sym e)

-- a function: its numbers, its spawn calls, its blocks
next-same : (A B C : Type 0) (p : Parsed A) (k : A → ℕ → Parsed B) (l : A → ℕ → Parsed C) → ((a : A) (m : ℕ) → skip_of (k a m) ≡ skip_of
    (l a m)) → skip_of (next p k) ≡ skip_of (next p l)
unfolding next skip_of
next-same A B C (Parsed.ok a m) k l h = h a m
next-same A B C (Parsed.bad x) k l h = refl

wrapped : (A B : Type 0) (p : Parsed A) (k : A → ℕ → Parsed B) → ((a : A) (m : ℕ) → Ok m ≡ skip_of (k a m))
    → skip_of (next p k) ≡ skip_of p
wrapped A B p k h = sym (skip-last A B p k (skip_of p) refl h)

-- a block: its head, its statements and its transfer; its place and the length of its head
module _ (p : Parser Head) (s : List ℕ) (at : ℕ) where
  pub block-else : (x : ℕ) → Err x ≡ skip_of (p s at) → Err x ≡ skip_of (block_by p s at)
  unfolding block_by
  block-else x a = skip-else _ _ (p s at) _ _ x a refl

  module _ (m : ℕ) (a : Ok m ≡ skip_of (p s at)) where
    pub block-then : (r : Result ℕ ℕ) → r ≡ skip_of (body s m) → r ≡ skip_of (block_by p s at)
    unfolding block_by body
    block-then r g =
        skip-then _ _ (p s at) _ r m a (λ h. g ∙ next-same _ _ _ _ _ _ (λ c k. sym (wrapped _ _ _ _ (λ t n. skip-ok _ _ n))))

    pub block-kept : (f b before : ℕ) (l l₁ l₂ : List ℕ) → l₁ ≡ mark_block f b at l → l₂ ≡ mark_head f b before (m - at) l₁
        → along l₂ (m - at) ≡ block_marks_by p s f b at (along l before)
    unfolding block_marks_by
    block-kept f b before l l₁ l₂ u v =
        let is : l₂ ≡ mark_head f b before (m - at) (mark_block f b at l) = v ∙ ap (mark_head f b before (m - at)) u in
        sym (onward-at (p s at) _ _ _ m a (λ h y. ap (λ (l : List ℕ). along l (m - at)) (sym is)))

-- for any head
module _ (p : Parser Head) where
  function-parts : (s : List ℕ) (at : ℕ) → skip_of (function_by p s at) ≡
      skip_of (next (sizes s at) (λ z m. next (many spawn_call z.spawns s m) (λ c̄ e. many (block_by p) z.blocks s e)))
  unfolding function_by sizes
  function-parts s at = simp flat (search (next-same, wrapped, skip-ok) depth 9)

  module _ (s : List ℕ) (at : ℕ) (z : Sizes) (e : sizes_of (Ok z) ≡ sizes s at) where
    behind-sizes : (r : Result ℕ ℕ) → r ≡ skip_of (next (many spawn_call z.spawns s z.next) (λ c̄ m. many (block_by p) z.blocks s m))
        → r ≡ skip_of (function_by p s at)
    unfolding next sizes_of
    behind-sizes r g =
        let rest : Many → ℕ → Parsed (List Block) = λ z m. next (many spawn_call z.spawns s m) (λ c̄ m'. many (block_by p)
        z.blocks s m') in
        g ∙ ap (λ (q : Parsed Many). skip_of (next q rest)) e ∙ sym (function-parts s at)

    pub function-else : (r : Result ℕ ℕ) (x : ℕ) → Err x ≡ skip_of (many spawn_call z.spawns s z.next) → r ≡ Err x
        → r ≡ skip_of (function_by p s at)
    function-else r x a o = behind-sizes r (skip-else _ _ (many spawn_call z.spawns s z.next) _ r x a o)

    module _ (m : ℕ) (a : Ok m ≡ skip_of (many spawn_call z.spawns s z.next)) (r : Result ℕ ℕ) where
      pub function-then : r ≡ skip_of (many (block_by p) z.blocks s m) → r ≡ skip_of (function_by p s at)
      function-then g = behind-sizes r (skip-then _ _ (many spawn_call z.spawns s z.next) _ r m a (λ x. g))

      pub function-kept : (f : ℕ) (l own mid l' : List ℕ) → own ≡ mark_function f at l
          → Kept (Ok m) mid (marked spawn_call (mark_spawn f) z.spawns s z.next 0 own)
          → Kept r l' (marked (block_by p) (block_marks_by p s f) z.blocks s m 0 (along mid 0)).places
          → Kept r l' (function_marks_by p s f at l)
      unfolding function_marks_by onward sizes_of Kept
      function-kept f l own mid l' d i j =
          let is : mid ≡ marked spawn_call (mark_spawn f) z.spawns s z.next 0 (mark_function f at l) =
          i ∙ ap (marked spawn_call (mark_spawn f) z.spawns s z.next 0) d in
          let all : function_marks_by p s f at l ≡ (marked (block_by p) (block_marks_by p s f) z.blocks s m 0 (along mid 0)).places =
          rw (← e)
          (onward-at (many spawn_call z.spawns s z.next) _ _ _ m a
          (λ x y. ap (λ (l : List ℕ). (marked (block_by p) (block_marks_by p s f) z.blocks s m 0 (along l 0)).places) (sym is))) in
          subst (Kept r l') (sym all) j

  pub function-lacks : (s : List ℕ) (at : ℕ) (r : Result ℕ ℕ) (x : ℕ) → sizes_of (Err x) ≡ sizes s at → r ≡ Err x
      → r ≡ skip_of (function_by p s at)
  unfolding sizes_of skip_of
  function-lacks s at r x e o = skip-else _ _ (sizes s at) _ r x (ap skip_of e) o ∙ sym (function-parts s at)

  -- a program: the number of its functions, and they
  module _ (s : List ℕ) (at : ℕ) (r : Result ℕ ℕ) where
    pub program-else : (x : ℕ) → byte_of (Err x) ≡ byte 1 16 s at → r ≡ Err x → r ≡ skip_of (program_by p s at)
    unfolding program_by
    program-else x e o = byte-else _ (byte 1 16 s at) _ r x e o

    module _ (n k : ℕ) (e : byte_of (Ok (n, k)) ≡ byte 1 16 s at) where
      pub program-then : r ≡ skip_of (many (function_by p) n s k) → r ≡ skip_of (program_by p s at)
      unfolding program_by
      program-then h = byte-then _ (byte 1 16 s at) _ r n k e h

      pub program-kept : (l l' : List ℕ) → Kept r l' (marked (function_by p) (function_marks_by p s) n s k 0 l)
          → Kept r l' (program_marks_by p s at l)
      unfolding program_marks_by byte_of onward
      program-kept l l' h =
          subst (λ (q : Parsed ℕ). Kept r l' (onward q (λ n m. marked (function_by p) (function_marks_by p s) n s m 0 l) l)) e h
