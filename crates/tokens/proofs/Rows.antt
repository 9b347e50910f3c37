-- Beats and runs by computation: what they answer, and all purses after them.
use Prim.Native.Nat.{ℕ, zero, suc, ◌+◌}
use mathlib.Core.Path.{◌≡◌, refl}
use mathlib.Core.List.{List, [], ◌∷◌, map}
use lib.IntN.{ℤ, pos}
use lib.ListN.{set}
use Rattle.model.specs.Numbers as No
use Rattle.model.specs.Answers.{Refusal, Answer, with}
use Rattle.model.specs.Pool.{Purse, most_work, most_tokens, work_at, tokens_at, thread_count_at, thread_start, word_at}
use Rattle.model.specs.Calls as Calls
use Rattle.model.specs.Calls.{Choice, Called, lent}
use Rattle.model.proofs.Runs.{all, begun, A, B, sum, full, unfed, tree}
use Rattle.tokens.specs.Purses.{arrive, worked, handed, kept, purse_in, endow, brought, earned, shared}
use Rattle.tokens.specs.Beats as Beats
use Rattle.tokens.specs.Beats.{Beat, most_n, most_c}
use Rattle.tokens.specs.Account as Account
use Rattle.tokens.specs.Account.{Lost}

-- every definition that a row computes with
unfoldable every : Type 0
unfolding all arrive worked handed kept purse_in endow brought earned shared Beats.paying Beats.spend Beats.stepped Beats.beaten Beats.go_on
    Beats.runs Beats.is_pace Beats.paced Beats.lent_at Beats.told Beats.beating Beats.beat Beats.reported Beats.running Beats.run Account.over
    Account.lost_at Account.losing Account.lost
every = Unit {0}

abbrev purse : ℕ → ℕ → Purse
purse w t = record { work = w; tokens = t }

-- the purses in the words of a pool, and the words with the purse e for thread i
abbrev purses_from : ℕ → ℕ → List ℤ → List Purse
purses_from i zero ws = []
purses_from i (suc n) ws = purse (word_at ws (thread_start i + work_at)) (word_at ws (thread_start i + tokens_at)) ∷ purses_from (suc i) n ws

abbrev purses_in : List ℤ → List Purse
purses_in ws = purses_from 0 (word_at ws thread_count_at) ws

abbrev give : ℕ → Purse → List ℤ → List ℤ
give i e ws = set (set ws (thread_start i + work_at) (pos e.work)) (thread_start i + tokens_at) (pos e.tokens)

-- what is put: a beat, by its N, C and thread, or a plain choice
pub data Move : Type 0 where
  beats : ℕ → ℕ → ℕ → Move
  chooses : ℕ → ℕ → Move

-- what it is answered, a plain choice with no promotions, and the purses after it
pub record Seen : Type 0 where
  pub answer : Answer Beat
  pub purses : List Purse

abbrev plainly : Answer ℕ → Answer Beat
plainly (Answer.given rule) = Answer.given (record { rule = rule; promotions = 0 })
plainly (Answer.refused r) = Answer.refused r

abbrev answered : List ℕ → List ℤ → Move → Called Beat
answered s ws (Move.beats N C i) = Beats.beat s ws i N C
answered s ws (Move.chooses kind i) =
    let d = Calls.choose s ws kind i in
    record { answer = plainly d.answer; after = d.after }

abbrev play : List ℕ → List ℤ → List Move → List Seen
play s ws [] = []
play s ws (m ∷ ms) =
    let d = answered s ws m in
    record { answer = d.answer; purses = purses_in d.after } ∷ play s d.after ms

-- a row: moves put one after another, from these words on, each with what is seen
pub record Turn : Type 0 where
  pub move : Move
  pub seen : Seen

pub record Row : Type 0 where
  pub table : List ℕ
  pub words : List ℤ
  pub turns : List Turn

abbrev played : List ℕ → List ℤ → List Turn → Row
played s ws ts = record { table = s; words = ws; turns = ts }

abbrev once : List ℕ → List ℤ → Turn → Row
once s ws t = played s ws (t ∷ [])

abbrev beat : ℕ → ℕ → ℕ → Seen → Turn
beat N C i x = record { move = Move.beats N C i; seen = x }

abbrev step : ℕ → Seen → Turn
step i x = record { move = Move.chooses 0 i; seen = x }

abbrev promote : ℕ → Seen → Turn
promote i x = record { move = Move.chooses 1 i; seen = x }

-- a rule and so many promotions, or a refusal; and the purses
abbrev makes : ℕ → ℕ → List Purse → Seen
makes rule n es = record { answer = Answer.given (record { rule = rule; promotions = n }); purses = es }

abbrev refuses : ℕ → List Purse → Seen
refuses n es = record { answer = Answer.refused (Refusal.plain n); purses = es }

-- the words of `full` with eight calls open, and of B with its child ended
abbrev stepping : ℕ → Choice
stepping i = record { kind = 0; thread = i }

abbrev opened : List ℤ
opened =
    let s = stepping 0 in
    (Calls.schedule full (begun full) (s ∷ s ∷ s ∷ s ∷ s ∷ s ∷ s ∷ s ∷ s ∷ [])).after

abbrev returned : List ℤ
returned = (Calls.schedule B (begun B) (stepping 0 ∷ record { kind = 1; thread = 0 } ∷ stepping 1 ∷ [])).after

-- `tree`, with 1,073,741,825 for each 1 that it sums up: the first sum of two of them overflows
abbrev great : List ℕ
great = set tree 67 0x40

-- one token a step
abbrev dense : List Turn
dense =
    -- tokens stay where nothing is open; of five a promotion takes one, and half of four goes to the child
    beat 1 1 0 (makes No.stmt 0 (purse 0 1 ∷ [])) ∷
    beat 1 1 0 (makes No.call 0 (purse 0 2 ∷ [])) ∷
    beat 1 1 0 (makes No.else 0 (purse 0 3 ∷ [])) ∷
    beat 1 1 0 (makes No.stmt 0 (purse 0 4 ∷ [])) ∷
    beat 1 1 0 (makes No.spork 1 (purse 0 2 ∷ purse 0 2 ∷ [])) ∷
    beat 1 1 0 (makes No.call 0 (purse 0 3 ∷ purse 0 2 ∷ [])) ∷
    beat 1 1 0 (makes No.else 0 (purse 0 4 ∷ purse 0 2 ∷ [])) ∷
    beat 1 1 0 (makes No.stmt 0 (purse 0 5 ∷ purse 0 2 ∷ [])) ∷
    -- the child has its own, and a child of its own
    beat 1 1 1 (makes No.else 0 (purse 0 5 ∷ purse 0 3 ∷ [])) ∷
    beat 1 1 1 (makes No.stmt 0 (purse 0 5 ∷ purse 0 4 ∷ [])) ∷
    beat 1 1 1 (makes No.spork 1 (purse 0 5 ∷ purse 0 2 ∷ purse 0 2 ∷ [])) ∷
    -- a new child stands before the older one; of six tokens half of five, rounded down, goes to it
    beat 1 1 0 (makes No.spork 1 (purse 0 3 ∷ purse 0 2 ∷ purse 0 2 ∷ purse 0 2 ∷ [])) ∷
    beat 1 1 3 (makes No.then 0 (purse 0 3 ∷ purse 0 2 ∷ purse 0 2 ∷ purse 0 3 ∷ [])) ∷
    beat 1 1 3 (makes No.stmt 0 (purse 0 3 ∷ purse 0 2 ∷ purse 0 2 ∷ purse 0 4 ∷ [])) ∷
    beat 1 1 2 (makes No.call 0 (purse 0 3 ∷ purse 0 2 ∷ purse 0 3 ∷ purse 0 4 ∷ [])) ∷
    beat 1 1 2 (makes No.then 0 (purse 0 3 ∷ purse 0 2 ∷ purse 0 4 ∷ purse 0 4 ∷ [])) ∷
    beat 1 1 2 (makes No.stmt 0 (purse 0 3 ∷ purse 0 2 ∷ purse 0 5 ∷ purse 0 4 ∷ [])) ∷
    beat 1 1 1 (makes No.then 0 (purse 0 3 ∷ purse 0 3 ∷ purse 0 5 ∷ purse 0 4 ∷ [])) ∷
    beat 1 1 2 (makes No.return 0 (purse 0 3 ∷ purse 0 3 ∷ purse 0 6 ∷ purse 0 4 ∷ [])) ∷
    -- a join brings the child's tokens, and then one comes
    beat 1 1 2 (makes No.prom 0 (purse 0 3 ∷ purse 0 3 ∷ purse 0 11 ∷ [])) ∷
    beat 1 1 2 (makes No.stmt 0 (purse 0 3 ∷ purse 0 3 ∷ purse 0 12 ∷ [])) ∷
    beat 1 1 1 (makes No.stmt 0 (purse 0 3 ∷ purse 0 4 ∷ purse 0 12 ∷ [])) ∷
    -- a refused beat changes nothing
    beat 1 1 1 (refuses No.ended (purse 0 3 ∷ purse 0 4 ∷ purse 0 12 ∷ [])) ∷
    beat 1 1 0 (makes No.call 0 (purse 0 4 ∷ purse 0 4 ∷ purse 0 12 ∷ [])) ∷
    beat 1 1 0 (makes No.then 0 (purse 0 5 ∷ purse 0 4 ∷ purse 0 12 ∷ [])) ∷
    beat 1 1 0 (makes No.stmt 0 (purse 0 6 ∷ purse 0 4 ∷ purse 0 12 ∷ [])) ∷
    beat 1 1 0 (makes No.return 0 (purse 0 7 ∷ purse 0 4 ∷ purse 0 12 ∷ [])) ∷
    -- the other joins
    beat 1 1 0 (makes No.prom 0 (purse 0 12 ∷ purse 0 12 ∷ [])) ∷
    beat 1 1 0 (makes No.stmt 0 (purse 0 13 ∷ purse 0 12 ∷ [])) ∷
    beat 1 1 0 (makes No.return 0 (purse 0 14 ∷ purse 0 12 ∷ [])) ∷
    beat 1 1 0 (makes No.prom 0 (purse 0 27 ∷ [])) ∷
    beat 1 1 0 (makes No.stmt 0 (purse 0 28 ∷ [])) ∷
    beat 1 1 0 (makes No.return 0 (purse 0 29 ∷ [])) ∷
    beat 1 1 0 (refuses No.ended (purse 0 29 ∷ [])) ∷
    []

-- three tokens for two steps
abbrev mixed : List Turn
mixed =
    beat 2 3 0 (makes No.spork 0 (purse 1 0 ∷ [])) ∷
    -- a plain promotion takes no token, and its child has none
    promote 0 (makes No.promote 0 (purse 1 0 ∷ purse 0 0 ∷ [])) ∷
    -- three come; one pays for the second call, and nothing is left to promote
    beat 2 3 0 (makes No.spork 1 (purse 0 1 ∷ purse 0 1 ∷ purse 0 0 ∷ [])) ∷
    -- a plain step earns nothing and pays for nothing
    step 0 (makes No.spork 0 (purse 0 1 ∷ purse 0 1 ∷ purse 0 0 ∷ [])) ∷
    -- the banked token pays at the next beat, at which none comes
    beat 2 3 0 (makes No.spork 1 (purse 1 0 ∷ purse 0 0 ∷ purse 0 1 ∷ purse 0 0 ∷ [])) ∷
    beat 2 3 0 (makes No.call 1 (purse 0 1 ∷ purse 0 1 ∷ purse 0 0 ∷ purse 0 1 ∷ purse 0 0 ∷ [])) ∷
    beat 2 3 0 (makes No.spork 1 (purse 1 0 ∷ purse 0 0 ∷ purse 0 1 ∷ purse 0 0 ∷ purse 0 1 ∷ purse 0 0 ∷ [])) ∷
    beat 2 3 0 (makes No.spork 1 (purse 0 1 ∷ purse 0 1 ∷ purse 0 0 ∷ purse 0 1 ∷ purse 0 0 ∷ purse 0 1 ∷ purse 0 0 ∷ [])) ∷
    beat 2 3 0 (makes No.spork 1 (purse 1 0 ∷ purse 0 0 ∷ purse 0 1 ∷ purse 0 0 ∷ purse 0 1 ∷ purse 0 0 ∷ purse 0 1 ∷ purse 0 0 ∷ [])) ∷
    -- the pool is full, and the tokens stay
    beat 2 3 0 (makes No.spork 0 (purse 0 3 ∷ purse 0 0 ∷ purse 0 1 ∷ purse 0 0 ∷ purse 0 1 ∷ purse 0 0 ∷ purse 0 1 ∷ purse 0 0 ∷ [])) ∷
    beat 2 3 0 (makes No.unpr 0 (purse 1 3 ∷ purse 0 0 ∷ purse 0 1 ∷ purse 0 0 ∷ purse 0 1 ∷ purse 0 0 ∷ purse 0 1 ∷ purse 0 0 ∷ [])) ∷
    -- a beat that joins, and a plain step, which drops what the child has
    beat 2 3 0 (makes No.prom 0 (purse 0 6 ∷ purse 0 1 ∷ purse 0 0 ∷ purse 0 1 ∷ purse 0 0 ∷ purse 0 1 ∷ purse 0 0 ∷ [])) ∷
    step 0 (makes No.prom 0 (purse 0 6 ∷ purse 0 0 ∷ purse 0 1 ∷ purse 0 0 ∷ purse 0 1 ∷ purse 0 0 ∷ [])) ∷
    beat 2 3 0 (makes No.prom 0 (purse 1 6 ∷ purse 0 1 ∷ purse 0 0 ∷ purse 0 1 ∷ purse 0 0 ∷ [])) ∷
    beat 2 3 0 (makes No.return 0 (purse 0 9 ∷ purse 0 1 ∷ purse 0 0 ∷ purse 0 1 ∷ purse 0 0 ∷ [])) ∷
    []

-- what seven promotions leave of all tokens that a purse holds
abbrev shares : List Purse
shares =
    purse 1 15625000 ∷ purse 0 15624999 ∷ purse 0 31249999 ∷ purse 0 62499999 ∷ purse 0 124999999 ∷ purse 0 249999999 ∷
    purse 0 499999999 ∷ purse 0 999999999 ∷ []

abbrev pub rows : List Row
rows =
    played tree (begun tree) dense ∷
    played full (begun full) mixed ∷
    -- one to five tokens, with seven calls to promote; as many as a purse holds, until the pool is full
    once full (give 0 (purse 0 1) opened) (beat most_n most_c 0 (makes No.unpr 1 (purse 1 0 ∷ purse 0 0 ∷ []))) ∷
    once full (give 0 (purse 0 2) opened) (beat most_n most_c 0 (makes No.unpr 2 (purse 1 0 ∷ purse 0 0 ∷ purse 0 0 ∷ []))) ∷
    once full (give 0 (purse 0 3) opened) (beat most_n most_c 0 (makes No.unpr 2 (purse 1 0 ∷ purse 0 0 ∷ purse 0 1 ∷ []))) ∷
    once full (give 0 (purse 0 4) opened) (beat most_n most_c 0 (makes No.unpr 3 (purse 1 0 ∷ purse 0 0 ∷ purse 0 0 ∷ purse 0 1 ∷ []))) ∷
    once full (give 0 (purse 0 5) opened) (beat most_n most_c 0 (makes No.unpr 3 (purse 1 0 ∷ purse 0 0 ∷ purse 0 0 ∷ purse 0 2 ∷ []))) ∷
    once full (give 0 (purse 0 most_tokens) opened) (beat most_n most_c 0 (makes No.unpr 7 shares)) ∷
    -- work of N or more, from an earlier, greater N: C tokens come once
    once A (give 0 (purse most_work 7) (begun A)) (beat 2 3 0 (makes No.stmt 0 (purse 0 10 ∷ []))) ∷
    -- the cut, where tokens come and at a join; the child's work is lost
    once A (give 0 (purse 0 1999999999) (begun A)) (beat 1 most_c 0 (makes No.stmt 0 (purse 0 most_tokens ∷ []))) ∷
    once B (give 0 (purse 3 1999999999) (give 1 (purse 5 5) returned)) (beat most_n 1 0 (makes No.prom 0 (purse 4 most_tokens ∷ []))) ∷
    once B (give 0 (purse 3 1999999999) (give 1 (purse 5 5) returned)) (beat 1 1 0 (makes No.prom 0 (purse 0 most_tokens ∷ []))) ∷
    -- below it, and by a plain join
    once B (give 0 (purse 3 7) (give 1 (purse 5 5) returned)) (beat most_n 1 0 (makes No.prom 0 (purse 4 12 ∷ []))) ∷
    once B (give 0 (purse 3 7) (give 1 (purse 5 5) returned)) (step 0 (makes No.prom 0 (purse 3 7 ∷ []))) ∷
    -- a promotion whose needs are unmet ends the promotions
    once unfed (begun unfed) (beat 1 1 0 (makes No.spork 0 (purse 0 1 ∷ []))) ∷
    -- a step that overflows: nothing comes, nothing is paid
    once sum (give 0 (purse 3 7) (begun sum)) (beat 1 1 0 (refuses No.overflow (purse 3 7 ∷ []))) ∷
    -- N and C: 27 before 15, and 12 and 13 before 27
    once A (begun A) (beat 0 1 9 (refuses No.pace (purse 0 0 ∷ []))) ∷
    once A (begun A) (beat (most_n + 1) 1 9 (refuses No.pace (purse 0 0 ∷ []))) ∷
    once A (begun A) (beat 1 0 9 (refuses No.pace (purse 0 0 ∷ []))) ∷
    once A (begun A) (beat 1 (most_c + 1) 9 (refuses No.pace (purse 0 0 ∷ []))) ∷
    once A (begun A) (beat most_n most_c 9 (refuses No.thread (purse 0 0 ∷ []))) ∷
    once A (begun A) (beat 1 1 9 (refuses No.thread (purse 0 0 ∷ []))) ∷
    once A (give 1 (purse 1 0) (begun A)) (beat 0 0 9 (refuses No.pool (purse 0 0 ∷ []))) ∷
    once A [] (beat 0 0 9 (refuses No.words [])) ∷
    []

-- every row is right
pub right : map (λ r. play r.table r.words (map (λ t. t.move) r.turns)) rows ≡ map (λ r. map (λ t. t.seen) r.turns) rows
unfolding every
right = refl

-- a run of a table from these words, with N, C and the threads: its answer, the steps and promotions, and the purses after it
pub record Run : Type 0 where
  pub table : List ℕ
  pub words : List ℤ
  pub n : ℕ
  pub c : ℕ
  pub threads : List ℕ
  pub answer : Answer (Unit {0})
  pub steps : ℕ
  pub promotions : ℕ
  pub purses : List Purse

abbrev ran : List ℕ → List ℤ → ℕ → ℕ → List ℕ → Answer (Unit {0}) → ℕ → ℕ → List Purse → Run
ran s ws N C is a m k es =
    record { table = s; words = ws; n = N; c = C; threads = is; answer = a; steps = m; promotions = k; purses = es }

abbrev rerun : Run → Run
rerun r =
    let d = Beats.run r.table r.words r.n r.c r.threads in
    ran r.table r.words r.n r.c r.threads d.answer d.steps d.promotions (purses_in d.after)

abbrev none : Answer (Unit {0})
none = Answer.given tt

abbrev first : ℕ → Answer (Unit {0})
first n = Answer.refused (Refusal.plain n)

abbrev pub runs : List Run
runs =
    -- up to a thread that is not there; what the beats before it made stays
    ran tree (begun tree) 1 1 (0 ∷ 0 ∷ 0 ∷ 0 ∷ 0 ∷ 1 ∷ 1 ∷ 7 ∷ 0 ∷ []) (first No.thread) 7 1 (purse 0 2 ∷ purse 0 4 ∷ []) ∷
    -- up to a step that overflows, in the midst of `dense`
    ran great (begun great) 1 1 (0 ∷ 0 ∷ 0 ∷ 0 ∷ 0 ∷ 0 ∷ 0 ∷ 0 ∷ 1 ∷ 1 ∷ 1 ∷ 0 ∷ 3 ∷ 3 ∷ 2 ∷ 2 ∷ 2 ∷ 1 ∷ 2 ∷ 2 ∷ 2 ∷ 0 ∷ [])
    (first No.overflow) 20 3 (purse 0 3 ∷ purse 0 3 ∷ purse 0 11 ∷ []) ∷
    -- promotions at most 3 / 2 of the steps
    ran full (begun full) 2 3 (0 ∷ 0 ∷ 0 ∷ 0 ∷ 0 ∷ 0 ∷ 0 ∷ 0 ∷ []) none 8 7
    (purse 0 1 ∷ purse 0 1 ∷ purse 0 0 ∷ purse 0 1 ∷ purse 0 0 ∷ purse 0 1 ∷ purse 0 0 ∷ purse 0 1 ∷ []) ∷
    ran A (begun A) 1 1 (0 ∷ 0 ∷ []) (first No.ended) 1 0 (purse 0 1 ∷ []) ∷
    -- N and C, of an empty run too: 27 before 15, and 12 and 13 before 27
    ran A (begun A) 0 1 [] (first No.pace) 0 0 (purse 0 0 ∷ []) ∷
    ran A (begun A) (most_n + 1) 1 [] (first No.pace) 0 0 (purse 0 0 ∷ []) ∷
    ran A (begun A) 1 0 [] (first No.pace) 0 0 (purse 0 0 ∷ []) ∷
    ran A (begun A) 1 (most_c + 1) [] (first No.pace) 0 0 (purse 0 0 ∷ []) ∷
    ran A (begun A) most_n most_c [] none 0 0 (purse 0 0 ∷ []) ∷
    ran A (begun A) 0 1 (9 ∷ []) (first No.pace) 0 0 (purse 0 0 ∷ []) ∷
    ran A (begun A) 1 1 (9 ∷ []) (first No.thread) 0 0 (purse 0 0 ∷ []) ∷
    ran A (give 1 (purse 1 0) (begun A)) 0 0 [] (first No.pool) 0 0 (purse 0 0 ∷ []) ∷
    ran A [] 0 0 [] (first No.words) 0 0 [] ∷
    []

-- every run is right
pub runs-right : map rerun runs ≡ runs
unfolding every
runs-right = refl

-- what a run of a table from these words loses, with N, C and the threads
pub record Loss : Type 0 where
  pub table : List ℕ
  pub words : List ℤ
  pub n : ℕ
  pub c : ℕ
  pub threads : List ℕ
  pub lost : Answer Lost

abbrev loses : List ℕ → List ℤ → ℕ → ℕ → List ℕ → ℕ → ℕ → Loss
loses s ws N C is t w =
    record { table = s; words = ws; n = N; c = C; threads = is; lost = Answer.given (record { tokens = t; work = w }) }

abbrev relost : Loss → Answer Lost
relost r = with (lent r.table r.words) λ l. Answer.given (Account.lost r.n r.c l.table l.pool r.threads)

abbrev pub losses : List Loss
losses =
    -- a join: tokens above the cut, and the child's work; then those that come
    loses B (give 0 (purse 3 1999999999) (give 1 (purse 5 5) returned)) most_n 1 (0 ∷ []) 4 5 ∷
    loses B (give 0 (purse 3 1999999999) (give 1 (purse 5 5) returned)) 1 1 (0 ∷ []) 5 5 ∷
    loses B (give 0 (purse 3 7) (give 1 (purse 5 5) returned)) most_n 1 (0 ∷ []) 0 5 ∷
    -- beat after beat, and nothing from the first refused on
    loses tree (give 0 (purse 0 1999999999) (begun tree)) 1 3 (0 ∷ 0 ∷ 0 ∷ []) 8 0 ∷
    loses tree (give 0 (purse 0 1999999999) (begun tree)) 1 3 (0 ∷ 0 ∷ 7 ∷ 0 ∷ []) 5 0 ∷
    []

-- every loss is right
pub losses-right : map relost losses ≡ map (λ r. r.lost) losses
unfolding every
losses-right = refl
