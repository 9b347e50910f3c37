-- The laws that the check's proofs cite: the first fault of a part, from what the parts below it say.
use Prim.Native.Nat.{ℕ, ◌+◌, ◌*◌, ◌-◌, ◌≤◌, ◌<◌, ◌^◌, ◌%◌}
use mathlib.Core.Path.{◌≡◌, refl, sym, ◌∙◌, ap}
use mathlib.Core.Bool.{Bool, true, false, ◌&&◌}
use mathlib.Core.Logic.{◌⊎◌, inl, inr}
use mathlib.Core.Option.{Option, none, some}
use mathlib.Core.List.{List, [], ◌∷◌, ◌++◌}
use native.Mathlib.Omega.{arith}
use lib.Dec.{eqb}
use lib.ListN.{get_elem?, drop}
use Rattle.model.specs.Numbers as No
use Rattle.model.specs.Answers.{Refusal, Answer}
use Rattle.model.specs.Lists.{all, equal}
use Rattle.model.specs.Sets.{has, below}
use Rattle.model.specs.Syntax.{Signature, Function, Program}
use Rattle.model.specs.Tests.{Tests, ◌then◌, fault}
use Rattle.model.specs.WellFormed.{env}
use Rattle.model.specs.Check as Check
use Rattle.model.specs.Check.{Placed, first_fault, nowhere}
use Rattle.model.specs.Limits.{InFunction, InSpawn, InBlock}
use Rattle.model.proofs.Facts.{eq-eqb, ne_eqb, each_at, below_at, past-at, drop-some, drop-none}
use Rattle.std.specs.Prelude.{Some, None, Ok, Err}
use Rattle.answers.specs.declared.No as Number
use Rattle.places.specs.Places.{Place, Places, FindsFunction, FindsBlock, FindsSpawn}
use Rattle.code.specs.Bytes.{byte_at, past}
use Rattle.code.specs.declared.Opening.{Opening}
use Rattle.code.specs.Code.{run, count_at, arguments_at, statements_at, statements_end, head_in, opening_at, spawn_at, code_at, code_end}
use Rattle.code.specs.Code.{transfer_at, coded, block_at}
use Rattle.code.proofs.Ends.{run-goes, run_none, opening-is}
use Rattle.words.proofs.Sets.{low}
use Rattle.bound.specs.Walks.{Walked, holds, statements_as, fresh_as}
use Rattle.bound.proofs.Looks.{all-has}
use Rattle.bound.proofs.Walked.{walk_ends, resumed, code-walked, fresh-walked}
use Rattle.bound.proofs.Faults.{need-fails, need-holds, then-first, then-second, given-fails, given-goes}
use Rattle.bound.proofs.Faults.{each-ends, each_first, each-second}
use Rattle.targets.specs.Targets as Targets
use Rattle.targets.specs.Targets.{Verdict, Callee, fails, verdict_of, Within, Callees}
use Rattle.targets.proofs.Lookups.{no-function, function-at, no_block, block-at, no-spawn, spawn-at}
use Rattle.targets.proofs.Nestings.{runs-differ}
use Rattle.targets.proofs.Judged.{no-callee, the-callee, list-long, own-there, own_is}
use Rattle.answers.specs.declared.Refusal.TheVariants as why
use Rattle.verifier.specs.Verdicts.{Ranked, Judgement, ranked_of, follow, Nests, NestsAll, Entered, Spawns, SpawnsAll, Codes}
use Rattle.verifier.specs.Verdicts.{Enters, Blocks, BlocksAll, FunctionsAll, Judges}

-- function f keeps to the limits
limits : {s places : List ℕ} {f : ℕ} {P : Program} {F : Function} → Within s places f P F → InFunction F
limits {f = f} {P = P} W = each_at InFunction P f W.index.limits.functions W.there

-- a nesting's entry
module _ (s places : List ℕ) (f π Γ : ℕ) {r : Place} (find : FindsSpawn places f π r) where
  pub nest-missing : r ≡ None → Nests s places f π Γ (fails No.missing)
  unfolding Check.nested env
  nest-missing z P F W = given-fails _ _ _ (no-spawn s places f π find W z)

  module _ {at k : ℕ} {u : Bool} (z : r ≡ Some at) (q : k ≡ past at 1) (e : u ≡ all (holds Γ) (arguments_at s k)) where
    lies : {P : Program} {F : Function} → Within s places f P F
        → all (holds Γ) (arguments_at s (past at 1)) ≡ all (has Γ) (arguments_at s (past at 1))
    unfolding spawn_at
    lies {F = F} W = all-has Γ _ (each_at InSpawn F.spawns π (limits W).spawns (spawn-at s places f π find W z)).each

    pub nest-out : u ≡ false → Nests s places f π Γ (fails No.scope)
    unfolding Check.nested env spawn_at
    nest-out y P F W =
        given-goes _ _ _ (spawn-at s places f π find W z) (need-fails No.scope _ (sym (lies W) ∙ rw (← q) (sym e ∙ y)))

    pub nest-in : u ≡ true → Nests s places f π Γ (Ok tt)
    unfolding Check.nested env spawn_at
    nest-in y P F W =
        given-goes _ _ _ (spawn-at s places f π find W z) (need-holds No.scope _ (sym (lies W) ∙ rw (← q) (sym e ∙ y)))

-- a nesting: what is left of it decides
abbrev pub NestsLeft : List ℕ → List ℕ → ℕ → ℕ → ℕ → ℕ → ℕ → ℕ → Type 0
NestsLeft s places f at n Γ k left =
    (P : Program) (F : Function) → Within s places f P F →
    fault (Tests.each (Check.nested (env P F) Γ) (run s at n)) ≡ fault (Tests.each (Check.nested (env P F) Γ) (run s k left))

module _ (s places : List ℕ) (f at n Γ k left : ℕ) (i : NestsLeft s places f at n Γ k left) where
  pub nests-end : left ≤ 0 → NestsAll s places f at n Γ (Ok tt)
  nests-end l P F W = i P F W ∙ rw (run_none s k left l) (each-ends (Check.nested (env P F) Γ))

  module _ {x : ℕ} (r : Verdict) (h : 0 < left) (d : x ≡ byte_at s k) (j : Nests s places f x Γ r) where
    pub nests-stop : {m : Number.No} → r ≡ Err m → NestsAll s places f at n Γ (Err m)
    nests-stop z P F W = i P F W ∙ rw (run-goes s k left h, ← d) (each_first (Check.nested (env P F) Γ) x _ (j P F W ∙ ap verdict_of z))

    pub nests_on : {l m : ℕ} → r ≡ Ok tt → l ≡ past k 1 → m ≡ left - 1 → NestsLeft s places f at n Γ l m
    nests_on z q e P F W =
        i P F W ∙ rw (run-goes s k left h, ← d, ← q, ← e) (each-second (Check.nested (env P F) Γ) x _ (j P F W ∙ ap verdict_of z))

-- an entry's three facts
and_none : (a : Bool) → (a && false) ≡ false
and_none true = refl
and_none false = refl

and_yes : (b : Bool) → ((true && b) && true) ≡ b
and_yes true = refl
and_yes false = refl

module _ (s places : List ℕ) (f : ℕ) (h : Opening) (t : Callee) (c : Callees s places f t) where
  entered-count : (h.count ≡ 0 → ⊥) → Entered s places f h false
  unfolding Check.is_entry head_in
  entered-count d P F W =
      rw (← runs-differ s h.parameters h.count [] d) refl

  entered-depth : (h.depth ≡ 0 → ⊥) → Entered s places f h false
  unfolding Check.is_entry head_in
  entered-depth d P F W =
      rw (← runs-differ s h.nesting h.depth [] d)
      (sym (and_none (equal (run s h.parameters h.count) [] && eqb h.scope (below (env P F).own.parameters))))

  module _ {n m : ℕ} (z : t ≡ Some (n, m)) where
    own : {P : Program} {F : Function} → Within s places f P F → F.signature.parameters ≡ n
    own W = ap (λ (S : Signature). S.parameters) (own_is s places f t c W z)

    entered-wide : (r : Bool) → 16 ≤ n → Entered s places f h r
    entered-wide r l P F W = let few = (limits W).parameters in let is = own W in absurd (omega arith)

    pub entered-not : {r : Bool} → r ≡ false
        → ((h.count ≡ 0) × (h.depth ≡ 0) × (16 ≤ n)) ⊎ (((h.count ≡ 0) × (h.depth ≡ 0 → ⊥)) ⊎ (h.count ≡ 0 → ⊥)) → Entered s places f h r
    entered-not {r} e (inl (p, q, l)) P F W = entered-wide r l P F W
    entered-not e (inr (inl (p, d))) P F W = e ∙ entered-depth d P F W
    entered-not e (inr (inr d)) P F W = e ∙ entered-count d P F W

    pub entered-scope : h.count ≡ 0 → h.depth ≡ 0 → n < 16 → Entered s places f h (eqb h.scope (1 * 2 ^ n % 65536 - 1))
    unfolding Check.is_entry below env head_in run equal
    entered-scope p q l P F W = rw (own W, p, q, low n l) (sym (and_yes (eqb h.scope (2 ^ n - 1))))

-- a spawn call
module _ (s places : List ℕ) (at : ℕ) {x : ℕ} (t : Callee) (d : x ≡ byte_at s at) (c : Callees s places x t) where
  pub spawn-unknown : t ≡ None → Spawns s places at (fails No.missing)
  unfolding Check.spawn spawn_at
  spawn-unknown z P F I = given-fails _ _ _ (no-callee s places t d c I F z)

  module _ {n m k l : ℕ} (z : t ≡ Some (n, m)) (q : k ≡ past at 1) (e : l ≡ count_at s k) where
    pub spawn-count : (l ≡ n → ⊥) → Spawns s places at (fails No.count)
    unfolding Check.spawn spawn_at
    spawn-count h P F I =
        given-goes _ _ _ (the-callee s places t d c I F z) (need-fails No.count _ (ne_eqb _ _ (λ a. h (sym (list-long s q e) ∙ a))))

    pub spawn-fine : l ≡ n → Spawns s places at (Ok tt)
    unfolding Check.spawn spawn_at
    spawn-fine h P F I = given-goes _ _ _ (the-callee s places t d c I F z) (need-holds No.count _ (eq-eqb _ _ (list-long s q e ∙ h)))

-- a function's spawn calls: those from number k on decide
abbrev pub SpawnsLeft : List ℕ → List ℕ → ℕ → ℕ → Type 0
SpawnsLeft s places f k =
    (P : Program) (F : Function) → Within s places f P F →
    fault (Tests.each (Check.spawn (env P F)) F.spawns) ≡ fault (Tests.each (Check.spawn (env P F)) (drop k F.spawns))

module _ (s places : List ℕ) (f k : ℕ) (i : SpawnsLeft s places f k) where
  spawns-over : (P : Program) (F : Function) → Within s places f P F → get_elem? F.spawns k ≡ none
      → fault (Tests.each (Check.spawn (env P F)) F.spawns) ≡ none
  spawns-over P F W e = i P F W ∙ rw (drop-none F.spawns k e) (each-ends (Check.spawn (env P F)))

  pub spawns-end : 8 ≤ k → SpawnsAll s places f (Ok tt)
  spawns-end l P F W = let few = (limits W).few_spawns in spawns-over P F W (past-at F.spawns k (omega arith))

  module _ {r : Place} (find : FindsSpawn places f k r) where
    pub spawns-none : r ≡ None → SpawnsAll s places f (Ok tt)
    spawns-none z P F W = spawns-over P F W (no-spawn s places f k find W z)

    module _ {at : ℕ} (q : Verdict) (z : r ≡ Some at) (j : Spawns s places at q) where
      spawn-next : {P : Program} {F : Function} → Within s places f P F → drop k F.spawns ≡ spawn_at s at ∷ drop (k + 1) F.spawns
      spawn-next {F = F} W = drop-some F.spawns k (spawn-at s places f k find W z)

      pub spawns-stop : {m : Number.No} → q ≡ Err m → SpawnsAll s places f (Err m)
      spawns-stop w P F W = i P F W ∙ rw (spawn-next W) (each_first (Check.spawn (env P F)) _ _ (j P F W.index ∙ ap verdict_of w))

      pub spawns-on : q ≡ Ok tt → SpawnsLeft s places f (k + 1)
      spawns-on w P F W = i P F W ∙ rw (spawn-next W) (each-second (Check.spawn (env P F)) _ _ (j P F W.index ∙ ap verdict_of w))

-- statements and transfer, behind a head
module _ (s places : List ℕ) (f : ℕ) (h : Opening) (Γ : ℕ) {k x : ℕ} {w : Walked} (q : k ≡ past h.behind 1) (d : x ≡ byte_at s h.behind)
    (e : w ≡ statements_as Γ (statements_at s k x) (statements_end s k x)) where
  walks : w ≡ statements_as Γ (code_at s h.behind) (code_end s h.behind)
  unfolding code_at code_end
  walks = rw (← q, ← d) e

  pub code-fault : {m : Number.No} → w ≡ Err m → Codes s places f h Γ (Err m)
  unfolding resumed
  code-fault z P F W L = code-walked (env P F) Γ _ _ _ (code_end s h.behind) L.code ∙ rw (← walks, z)

  pub code-transfer : {Δ j : ℕ} (v : Verdict) → w ≡ Ok (Δ, j)
      → Targets.Judges s places (record { f = f; bound = Δ; nesting = h.nesting; depth = h.depth }) (transfer_at s j) v
      → Codes s places f h Γ v
  unfolding resumed head_in
  code-transfer v z g P F W L =
      let end = walk_ends Γ (code_at s h.behind) (code_end s h.behind) (sym walks ∙ z) in
      code-walked (env P F) Γ _ _ _ (code_end s h.behind) L.code ∙ rw (← walks, z, ← end) (g P F W (rw end L.transfer))

-- a block: the head, and what stands behind it
block-opened : (s : List ℕ) (at : ℕ) → block_at s at ≡ coded (head_in s (opening_at s at)) s (opening_at s at).behind
unfolding block_at opening_at
block-opened s at = rw (opening-is s at)

module _ (s places : List ℕ) (f b at : ℕ) {h : Opening} {r : Bool} (o : h ≡ opening_at s at) (enters : Enters s places f b h r) where
  whole : block_at s at ≡ coded (head_in s h) s h.behind
  whole = block-opened s at ∙ rw (← o)

  pub block-entry : r ≡ false → Blocks s places f b at (fails No.entry)
  unfolding Check.block
  block-entry z P F W L = rw whole (then-first _ _ (need-fails No.entry _ (sym (enters P F W) ∙ z)))

  module _ {w : Walked} (z : r ≡ true)
      (d : w ≡ fresh_as h.scope (run s h.parameters h.count) (past h.parameters h.count)) where
    abbrev behind : Program → Function → ℕ → Tests
    behind P F Δ =
        Tests.each (Check.nested (env P F) h.scope) (run s h.nesting h.depth) then
        Check.code (env P F) Δ (head_in s h).nesting (code_at s h.behind) (transfer_at s (code_end s h.behind))

    goes : (P : Program) (F : Function) → Within s places f P F → InBlock (block_at s at)
        → fault (Check.block (env P F) b (block_at s at)) ≡ resumed w (λ Δ. fault (behind P F Δ))
    unfolding Check.block head_in
    goes P F W L =
        let l : InBlock (coded (head_in s h) s h.behind) = rw whole at L in
        rw whole
        (then-second _ _ (need-holds No.entry _ (sym (enters P F W) ∙ z))
        (fresh-walked h.scope (run s h.parameters h.count) (past h.parameters h.count) (behind P F)
        l.head.parameters.each ∙ rw (← d)))

    pub block-fresh : {m : Number.No} → w ≡ Err m → Blocks s places f b at (Err m)
    unfolding resumed
    block-fresh y P F W L = goes P F W L ∙ rw y

    module _ {Δ k : ℕ} (v : Verdict) (y : w ≡ Ok (Δ, k)) (nests : NestsAll s places f h.nesting h.depth h.scope v) where
      pub block-nest : {m : Number.No} → v ≡ Err m → Blocks s places f b at (Err m)
      unfolding resumed
      block-nest x P F W L = goes P F W L ∙ rw y (then-first _ _ (nests P F W ∙ ap verdict_of x))

      pub block-code : (q : Verdict) → v ≡ Ok tt → Codes s places f h Δ q → Blocks s places f b at q
      unfolding resumed
      block-code q x code P F W L =
          let l : InBlock (coded (head_in s h) s h.behind) = rw whole at L in
          goes P F W L ∙ rw y (then-second _ _ (nests P F W ∙ ap verdict_of x) (code P F W l))

-- placed tests, one after another
module _ (p : Placed) (ps : List Placed) (a : Answer (Unit {0})) where
  follow-stops : {n : ℕ} → fault p.tests ≡ some n → follow (p ∷ ps) a ≡ Answer.refused (Refusal.fault n p.function p.block)
  unfolding follow Check.at
  follow-stops e = ap (λ (o : Option ℕ). Check.at p o (follow ps a)) e

  follow-goes : fault p.tests ≡ none → follow (p ∷ ps) a ≡ follow ps a
  unfolding follow Check.at
  follow-goes e = ap (λ (o : Option ℕ). Check.at p o (follow ps a)) e

follow-append : (ps qs : List Placed) → first_fault (ps ++ qs) ≡ follow ps (first_fault qs)
unfolding follow first_fault
follow-append [] qs = refl
follow-append (p ∷ ps) qs = ap (Check.at p (fault p.tests)) (follow-append ps qs)

-- a function's blocks: those from number b on decide
abbrev pub BlocksLeft : List ℕ → List ℕ → ℕ → ℕ → Type 0
BlocksLeft s places f b =
    (P : Program) (F : Function) (a : Answer (Unit {0})) → Within s places f P F →
    follow (Check.of_blocks (env P F) f 0 F.blocks) a ≡ follow (Check.of_blocks (env P F) f b (drop b F.blocks)) a

module _ (s places : List ℕ) (f b : ℕ) (i : BlocksLeft s places f b) where
  blocks-over : (P : Program) (F : Function) (a : Answer (Unit {0})) → Within s places f P F → get_elem? F.blocks b ≡ none
      → follow (Check.of_blocks (env P F) f 0 F.blocks) a ≡ a
  unfolding Check.of_blocks follow
  blocks-over P F a W e = i P F a W ∙ rw (drop-none F.blocks b e)

  pub blocks_end : 32 ≤ b → BlocksAll s places f (Ok tt)
  blocks_end l P F a W = let few = (limits W).few_blocks in blocks-over P F a W (past-at F.blocks b (omega arith))

  module _ {r : Place} (find : FindsBlock places f b r) where
    pub blocks-none : r ≡ None → BlocksAll s places f (Ok tt)
    blocks-none z P F a W = blocks-over P F a W (no_block s places f b find W z)

    module _ {at : ℕ} (q : Verdict) (z : r ≡ Some at) (j : Blocks s places f b at q) where
      block-said : {P : Program} {F : Function} → Within s places f P F
          → (drop b F.blocks ≡ block_at s at ∷ drop (b + 1) F.blocks) × (fault (Check.block (env P F) b (block_at s at)) ≡ verdict_of q)
      block-said {P} {F} W =
          let there = block-at s places f b find W z in
          (drop-some F.blocks b there, j P F W (each_at InBlock F.blocks b (limits W).blocks there))

      pub blocks-stop : {m : Number.No} → q ≡ Err m → BlocksAll s places f (Err (m, b))
      unfolding Check.of_blocks
      blocks-stop w P F a W = let (is, said) = block-said W in i P F a W ∙ rw is (follow-stops _ _ a (said ∙ ap verdict_of w))

      pub blocks-on : q ≡ Ok tt → BlocksLeft s places f (b + 1)
      unfolding Check.of_blocks
      blocks-on w P F a W = let (is, said) = block-said W in i P F a W ∙ rw is (follow-goes _ _ a (said ∙ ap verdict_of w))

-- the functions: those from number f on decide
abbrev pub FunctionsLeft : List ℕ → List ℕ → ℕ → Type 0
FunctionsLeft s places f =
    (P : Program) → Places s P places → first_fault (Check.of_functions P 0 P) ≡ first_fault (Check.of_functions P f (drop f P))

module _ (s places : List ℕ) (f : ℕ) (i : FunctionsLeft s places f) where
  functions-over : (P : Program) → Places s P places → get_elem? P f ≡ none → first_fault (Check.of_functions P 0 P) ≡ Answer.given tt
  unfolding Check.of_functions first_fault
  functions-over P I e = i P I ∙ rw (drop-none P f e)

  pub functions-end : 16 ≤ f → FunctionsAll s places (Ok tt)
  functions-end l P I = let few = I.limits.few in functions-over P I (past-at P f (omega arith))

  module _ {r : Place} (find : FindsFunction places f r) where
    pub functions-none : r ≡ None → FunctionsAll s places (Ok tt)
    functions-none z P I = functions-over P I (no-function s places f find P I z)

    module _ {at : ℕ} (q : Verdict) (z : r ≡ Some at) (spawns : SpawnsAll s places f q) where
      there : {P : Program} → Places s P places → (F : Function) × Within s places f P F
      there {P} I = let (F, e, _) = function-at s places f find P I z in (F, record { index = I; there = e })

      pub functions-spawn : {m : Number.No} → q ≡ Err m → FunctionsAll s places (Err (why.Fault m f nowhere))
      unfolding Check.of_functions first_fault Check.at
      functions-spawn {m} e P I =
          let (F, W) = there I in
          let stop : fault (Tests.each (Check.spawn (env P F)) F.spawns) ≡ some m.0 = spawns P F W ∙ ap verdict_of e in
          i P I ∙ rw (drop-some P f W.there, stop)

      module _ (w : Ranked) (e : q ≡ Ok tt) (blocks : BlocksAll s places f w) where
        split : (P : Program) → Places s P places
            → first_fault (Check.of_functions P 0 P) ≡ ranked_of f w (first_fault (Check.of_functions P (f + 1) (drop (f + 1) P)))
        unfolding Check.of_functions first_fault Check.at
        split P I =
            let (F, W) = there I in
            let fine : fault (Tests.each (Check.spawn (env P F)) F.spawns) ≡ none = spawns P F W ∙ ap verdict_of e in
            i P I ∙
            rw (drop-some P f W.there, fine)
            (follow-append (Check.of_blocks (env P F) f 0 F.blocks) (Check.of_functions P (f + 1) (drop (f + 1) P)) ∙
            blocks P F (first_fault (Check.of_functions P (f + 1) (drop (f + 1) P))) W)

        pub functions-block : {m : Number.No} {b : ℕ} → w ≡ Err (m, b) → FunctionsAll s places (Err (why.Fault m f b))
        functions-block d P I = split P I ∙ rw d

        pub functions-on : w ≡ Ok tt → FunctionsLeft s places (f + 1)
        functions-on d P I = split P I ∙ rw d

-- the whole
module _ (s places : List ℕ) (t : Callee) (c : Callees s places 0 t) where
  main : (P : Program) → Places s P places → (F : Function) × Within s places 0 P F
  main P I = let (F, e) = below_at P 0 I.limits.some in (F, record { index = I; there = e })

  pub judge-unknown : (r : Judgement) → t ≡ None → Judges s places r
  judge-unknown r z P I = let (F, W) = main P I in own-there s places 0 t c W z

  module _ {n m : ℕ} (z : t ≡ Some (n, m)) where
    own-main : {P : Program} {F : Function} → Within s places 0 P F → F.signature.parameters ≡ n
    own-main W = ap (λ (S : Signature). S.parameters) (own_is s places 0 t c W z)

    pub judge-main : (n ≡ 0 → ⊥) → Judges s places (Err (why.Fault (record { 0 = No.main }) 0 nowhere))
    unfolding Check.judge Check.tests Check.of_main first_fault Check.at fault
    judge-main d P I = let (F, W) = main P I in rw (W.there, own-main W, ne_eqb n 0 d)

    pub judge-on : (r : Judgement) → n ≡ 0 → FunctionsAll s places r → Judges s places r
    unfolding Check.judge Check.tests Check.of_main first_fault Check.at fault
    judge-on r d g P I = let (F, W) = main P I in rw (W.there, own-main W, eq-eqb n 0 d) (g P I)
