-- The completed program can be held by a table of version 1, which reads to it: 7 bytes more a block, at most.
use Prim.Native.Nat.{ℕ, ◌+◌, ◌*◌, ◌≤◌}
use mathlib.Core.Path.{◌≡◌, refl, ap}
use mathlib.Core.Option.{none, some}
use mathlib.Core.List.{List, [], ◌∷◌, map}
use native.Mathlib.Omega.{arith}
use lib.ListN.{length, get_or, length-append, length-map}
use Rattle.model.specs.Answers as Answers
use Rattle.model.specs.Answers.{Answer}
use Rattle.model.specs.Lists.{Each, concat}
use Rattle.model.specs.Syntax.{Block, Function, Program}
use Rattle.model.specs.Limits.{InBlock, InFunction}
use Rattle.model.specs.Read.{read_brief}
use Rattle.model.specs.Calls.{read, check}
use Rattle.model.specs.Check.{judge}
use Rattle.model.specs.Write as Write
use Rattle.model.specs.Write.{HoldsBlock, HoldsFunction}
use Rattle.model.proofs.Facts.{each_map, each_both}
use Rattle.model.proofs.Guarantees.{sized-is, brief-reads}
use Rattle.model.proofs.Writing.{HeldFunction, bytes-are, table-length, inverse, brief-written}
use Rattle.numbering.proofs.Mentioned.{map_each}
use Rattle.inference.specs.Filled.{Scoping, Holds, put, filled_from, filled}
use Rattle.inference.specs.Infer.{Mark, marks, nesting_of, scopes, infer, completed_function, completed}
use Rattle.inference.proofs.Filled.{filled-length}
use Rattle.inference.proofs.Marks.{marks-held}
use Rattle.inference.proofs.Scopes.{scopes-small}

-- a block with a scope and a nesting that version 1 can hold: it keeps to the limits, can be held, and is at most 7 bytes longer
in_block : (g : Scoping) (B : Block) → Holds g → InBlock B → InBlock (put g B)
unfolding put
in_block g B h i =
    record {
      head = record { parameters = i.head.parameters; scope = h.scope; nesting = h.few };
      few = i.few;
      code = i.code;
      transfer = i.transfer;
    }

holds-block : (g : Scoping) (B : Block) → Holds g → HoldsBlock B → HoldsBlock (put g B)
unfolding put
holds-block g B h i = record { nesting = h.names; code = i.code; transfer = i.transfer }

names-length : (xs : List ℕ) → length (concat (map Write.byte xs)) ≡ length xs
names-length xs = ap length (bytes-are xs)

block-longer : (g : Scoping) (B : Block) → Holds g → length (Write.block (put g B)) ≤ length (Write.block_by Write.bare B) + 7
unfolding put Write.block_by Write.head Write.bare Write.half Write.arguments Write.counted
block-longer g B h = simp (length-append, names-length) (omega (arith, h.few))

-- blocks from block b on
module _ (a : ℕ → Scoping) (h : (b : ℕ) → Holds (a b)) where
  filled-each : (Q : Block → Type 0) → ((b : ℕ) (B : Block) → Q B → Q (put (a b) B)) → (b : ℕ) (B̄ : List Block) → Each Q B̄ →
      Each Q (filled_from a b B̄)
  unfolding filled_from
  filled-each Q f b [] q = tt
  filled-each Q f b (B ∷ B̄) q = (f b B q.0, filled-each Q f (b + 1) B̄ q.1)

  blocks-longer : (b : ℕ) (B̄ : List Block) →
      length (concat (map Write.block (filled_from a b B̄))) ≤ length (concat (map (Write.block_by Write.bare) B̄)) + 7 * length B̄
  unfolding filled_from concat
  blocks-longer b [] = omega arith
  blocks-longer b (B ∷ B̄) = simp length-append (omega (arith, block-longer (a b) B (h b), blocks-longer (b + 1) B̄))

-- a function and a program, completed
-- what is inferred of any block can be held
pub inferred-holds : (F : Function) → HeldFunction F → (b : ℕ) → Holds (infer F b)
unfolding infer nesting_of
inferred-holds F (i, h) b = go (get_or (marks F) b none) refl
  where
    go : (m : Mark) → get_or (marks F) b none ≡ m → Holds (record { scope = get_or (scopes F) b 0; nesting = nesting_of m })
    go none e = record { scope = scopes-small F i b; few = omega arith; names = tt }
    go (some ρ) e =
        let k = marks-held F h b ρ e in
        record { scope = scopes-small F i b; few = k.0; names = k.1 }

function-held : (F : Function) → HeldFunction F → HeldFunction (completed_function F)
unfolding completed_function filled
function-held F (i, h) =
    let k = inferred-holds F (i, h) in
    let l = filled-length (infer F) F in (
      record {
        parameters = i.parameters;
        returns = i.returns;
        few_spawns = i.few_spawns;
        spawns = i.spawns;
        some_block = omega (arith, l, i.some_block);
        few_blocks = omega (arith, l, i.few_blocks);
        blocks = filled-each (infer F) k InBlock (λ b B q. in_block (infer F b) B (k b) q) 0 F.blocks i.blocks;
      },
      record {
        spawns = h.spawns;
        blocks = filled-each (infer F) k HoldsBlock (λ b B q. holds-block (infer F b) B (k b) q) 0 F.blocks h.blocks;
      },
    )

function-longer : (F : Function) → HeldFunction F →
    length (Write.function (completed_function F)) ≤ length (Write.function_by Write.bare F) + 224
unfolding completed_function filled Write.function_by
function-longer F (i, h) =
    simp length-append (omega (arith, blocks-longer (infer F) (inferred-holds F (i, h)) 0 F.blocks, i.few_blocks))

functions-longer : (P : Program) → Each HeldFunction P →
    length (concat (map Write.function (completed P))) ≤ length (concat (map (Write.function_by Write.bare) P)) + 224 * length P
unfolding completed concat
functions-longer [] h = omega arith
functions-longer (F ∷ P) h =
    simp length-append (omega (arith, function-longer F h.0, functions-longer P h.1))

program-longer : (P : Program) → Each HeldFunction P →
    length (Write.program (completed P)) ≤ length (Write.program_by Write.bare P) + 224 * length P
unfolding Write.program_by Write.counted
program-longer P h = omega (arith, functions-longer P h)

-- 12,800 bytes, and 7 for each of 16 times 32 blocks, are 16,384
pub completed-holds : (s : List ℕ) (P : Program) → read_brief s ≡ Answer.given P → Write.Holds (completed P)
unfolding completed
completed-holds s P e =
    let r = brief-reads s P e in
    let z = sized-is s _ r.sized in
    let (l, (i, h), _) = brief-written s P e in
    let held : Each HeldFunction P = each_both InFunction HoldsFunction P i.functions h in
    let done = each_map function-held P held in
    let n = length-map P completed_function in
    record {
      limits = record {
        some = omega (arith, n, i.some);
        few = omega (arith, n, i.few);
        functions = map_each InFunction completed_function P (each_map (λ F (k : HeldFunction (completed_function F)). k.0) P done);
      };
      functions = map_each HoldsFunction completed_function P (each_map (λ F (k : HeldFunction (completed_function F)). k.1) P done);
      short = omega (arith, table-length (completed P), program-longer P held, l, z.most, i.few);
    }

-- so its table reads to it, and is checked as it is judged
pub completed-reads : (s : List ℕ) (P : Program) → read_brief s ≡ Answer.given P →
    read (Write.table (completed P)) ≡ Answer.given (completed P)
completed-reads s P e = inverse.reads (completed P) (completed-holds s P e)

pub completed-check : (s : List ℕ) (P : Program) → read_brief s ≡ Answer.given P →
    check (Write.table (completed P)) ≡ judge (completed P)
unfolding check Answers.with
completed-check s P e = rw (completed-reads s P e)
