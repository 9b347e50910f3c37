-- Openers and children by computation; and that the theorem asks for an accepted table.
use Prim.Native.Nat.{ℕ, ◌+◌, ◌/◌, ◌%◌}
use mathlib.Core.Path.{◌≡◌, refl, sym, ◌∙◌, ap}
use mathlib.Core.Option
use mathlib.Core.Option.{Option, none, some}
use mathlib.Core.List.{List, [], ◌∷◌, ◌++◌, map}
use native.Mathlib.Omega.{arith}
use lib.IntN.{ℤ, pos}
use lib.ListN.{length, get_elem?, get_or, take}
use Rattle.model.specs.Numbers as No
use Rattle.model.specs.Answers.{Refusal, Answer}
use Rattle.model.specs.Lists.{concat}
use Rattle.model.specs.Pool.{Frame, Thread, frames, born, begin, children}
use Rattle.model.specs.Frames.{◌>>=◌}
use Rattle.model.specs.Calls as Calls
use Rattle.model.specs.Calls.{Choice, Lent, lent, check, start}
use Rattle.model.proofs.Facts.{none-some, some-injective}
use Rattle.model.proofs.Runs.{all, blank}
use Rattle.tokens.specs.Purses.{arrive, worked, handed, kept, purse_in, endow, brought, earned, shared}
use Rattle.tokens.specs.Beats as Beats
use Rattle.tokens.specs.Beats.{paying, spend, stepped, beaten, go_on, runs, is_pace, paced, lent_at, beating, beat, put_to, promoting}
use Rattle.tokens.specs.Beats.{promoted_from, reported, running, run}
use Rattle.safety.specs.NeverJams.{Call, Put, while_given, of_schedule, of_beat, of_run, of_call, choices}
use Rattle.sporks.specs.Openers.{front, turn, on_list, follow, follows, openers, opener}
use Rattle.sporks.specs.Handed.{reply_to, replies, arguments_of, standing, open_calls, open_in, Hands, Handed}

-- a list with its count; a block, its parameters, its scope, which is below 256, its nesting, statements and transfer; a function of n
-- parameters and without values, its spawn calls and blocks
abbrev list : List ℕ → List ℕ
list x̄ = length x̄ ∷ x̄

abbrev block : List ℕ → ℕ → List ℕ → List (List ℕ) → List ℕ → List ℕ
block x̄ Γ ρ C T = list x̄ ++ (0 ∷ Γ ∷ (list ρ ++ (length C ∷ (concat C ++ T))))

abbrev function : ℕ → List (List ℕ) → List (List ℕ) → List ℕ
function n π̄ B̄ = n ∷ 0 ∷ length B̄ ∷ length π̄ ∷ (concat π̄ ++ concat B̄)

abbrev table : List (List ℕ) → List ℕ
table F̄ =
    let s : List ℕ = 1 ∷ length F̄ ∷ concat F̄ in
    0 ∷ 0 ∷ (length s + 4) / 256 ∷ (length s + 4) % 256 ∷ s

-- statements: x ← k, x ← y + y; transfers; a spawn call
abbrev set : ℕ → ℕ → List ℕ
set x k = x ∷ 0 ∷ 0 ∷ 0 ∷ 0 ∷ 0 ∷ k ∷ []

abbrev double : ℕ → ℕ → List ℕ
double x y = x ∷ 2 ∷ 1 ∷ y ∷ 1 ∷ y ∷ []

abbrev goto : ℕ → List ℕ → List ℕ
goto b x̄ = 0 ∷ b ∷ list x̄

abbrev call : ℕ → List ℕ → ℕ → List ℕ
call g x̄ b = 2 ∷ g ∷ (list x̄ ++ (b ∷ []))

abbrev return : List ℕ
return = 3 ∷ 0 ∷ []

abbrev spork : ℕ → ℕ → List ℕ
spork b π = 4 ∷ b ∷ π ∷ []

abbrev spoin : ℕ → List ℕ
spoin b = 5 ∷ b ∷ b ∷ []

abbrev spawn : ℕ → List ℕ → List ℕ
spawn g x̄ = g ∷ list x̄

-- every definition that a row computes with
unfoldable every : Type 0
unfolding all
    while_given of_schedule of_beat of_run of_call choices front turn on_list follow follows openers opener arguments_of standing open_calls
    is_pace paced lent_at arrive worked handed kept purse_in endow brought earned shared paying spend stepped beaten Beats.told beating
    beat put_to promoting promoted_from go_on runs reported running run
every = Unit {0}

abbrev step : ℕ → Choice
step i = record { kind = 0; thread = i }

abbrev promote : ℕ → Choice
promote i = record { kind = 1; thread = i }

-- the choices that calls put from the start on
abbrev put : List ℕ → List Call → List Put
put s cs = choices s (start s blank).after cs

-- thread i of what is lent; the thread behind the chosen one in the pool left
abbrev thread_in : Answer Lent → ℕ → Option Thread
thread_in (Answer.given l) i = get_elem? l.pool i
thread_in (Answer.refused r) i = none

abbrev behind : List ℕ → Put → Option Thread
behind s p = thread_in (lent s (Calls.choose s p.words p.kind p.thread).after) (p.thread + 1)

-- main begins with 5 and doubles it in every round. In a round it sporks function 1 of that number twice, the second under the first,
-- calls function 1 of its double, and spoins both. Function 1 doubles its parameter, sporks function 2 of that, spoins and returns;
-- function 2 returns
abbrev loop : List ℕ
loop =
    table (
    function 0 (spawn 1 (0 ∷ []) ∷ []) (
    block [] 0 [] (set 1 5 ∷ []) (goto 1 (1 ∷ [])) ∷
    block (0 ∷ []) 0 [] [] (spork 2 0) ∷
    block [] 1 (0 ∷ []) [] (spork 3 0) ∷
    block [] 1 (0 ∷ 0 ∷ []) (double 2 0 ∷ []) (call 1 (2 ∷ []) 4) ∷
    block [] 1 (0 ∷ 0 ∷ []) [] (spoin 5) ∷
    block [] 1 (0 ∷ []) [] (spoin 6) ∷
    block [] 1 [] (double 1 0 ∷ []) (goto 1 (1 ∷ [])) ∷ []) ∷
    function 1 (spawn 2 (1 ∷ []) ∷ []) (
    block [] 1 [] (double 1 0 ∷ []) (spork 1 0) ∷
    block [] 2 (0 ∷ []) [] (spoin 2) ∷
    block [] 0 [] [] return ∷ []) ∷
    function 1 [] (block [] 1 [] [] return ∷ []) ∷ [])

pub loop-accepted : check loop ≡ Answer.given tt
unfolding every
loop-accepted = refl

-- calls on it; in the second and the third schedule the last choice is not put, since the one before it is refused
abbrev pub day : List Call
day =
    Call.schedule (step 0 ∷ step 0 ∷ step 0 ∷ step 0 ∷ step 0 ∷ step 0 ∷ step 0 ∷ step 0 ∷ []) ∷
    Call.choose 1 1 ∷
    Call.values ∷
    Call.choose 1 0 ∷
    Call.schedule (step 1 ∷ step 1 ∷ promote 1 ∷ promote 0 ∷ promote 0 ∷ step 0 ∷ step 0 ∷ step 0 ∷ step 0 ∷ []) ∷
    Call.schedule (step 1 ∷ step 1 ∷ step 1 ∷ step 0 ∷ step 0 ∷ step 1 ∷ []) ∷
    Call.choose 0 1 ∷
    Call.schedule (step 0 ∷ step 0 ∷ step 0 ∷ step 0 ∷ step 0 ∷ promote 0 ∷ []) ∷
    Call.schedule (step 0 ∷ step 0 ∷ step 0 ∷ step 0 ∷ step 0 ∷ []) ∷
    []

-- a choice: what it is answered, and the openers after it
pub record Row : Type 0 where
  pub answer : Answer ℕ
  pub openers : List (List ℕ)

abbrev makes : ℕ → List (List ℕ) → Row
makes rule xss = record { answer = Answer.given rule; openers = xss }

abbrev refuses : ℕ → List (List ℕ) → Row
refuses n xss = record { answer = Answer.refused (Refusal.plain n); openers = xss }

abbrev pub rows : List Row
rows =
    -- 0 to 7: the two sporks of one spawn call have the numbers 2 and 3; the call of function 1 and its spork come behind
    makes No.stmt ([] ∷ []) ∷
    makes No.goto ([] ∷ []) ∷
    makes No.spork ((2 ∷ []) ∷ []) ∷
    makes No.spork ((2 ∷ 3 ∷ []) ∷ []) ∷
    makes No.stmt ((2 ∷ 3 ∷ []) ∷ []) ∷
    makes No.call ((2 ∷ 3 ∷ []) ∷ []) ∷
    makes No.stmt ((2 ∷ 3 ∷ []) ∷ []) ∷
    makes No.spork ((2 ∷ 3 ∷ 7 ∷ []) ∷ []) ∷
    -- 8: there is no thread 1; the refused choice is counted, and the question behind it is not
    refuses No.thread ((2 ∷ 3 ∷ 7 ∷ []) ∷ []) ∷
    -- 9: the oldest call is promoted
    makes No.promote ((2 ∷ 3 ∷ 7 ∷ []) ∷ [] ∷ []) ∷
    -- 10 to 12: the child sporks, and that call is promoted before the two others of thread 0
    makes No.stmt ((2 ∷ 3 ∷ 7 ∷ []) ∷ [] ∷ []) ∷
    makes No.spork ((2 ∷ 3 ∷ 7 ∷ []) ∷ (11 ∷ []) ∷ []) ∷
    makes No.promote ((2 ∷ 3 ∷ 7 ∷ []) ∷ (11 ∷ []) ∷ [] ∷ []) ∷
    -- 13 and 14: a new child stands before the older ones
    makes No.promote ((2 ∷ 3 ∷ 7 ∷ []) ∷ [] ∷ (11 ∷ []) ∷ [] ∷ []) ∷
    makes No.promote ((2 ∷ 3 ∷ 7 ∷ []) ∷ [] ∷ [] ∷ (11 ∷ []) ∷ [] ∷ []) ∷
    -- 15 to 17: the newest child is ended and joined; the next is not, and the schedule stops
    makes No.prom ((2 ∷ 3 ∷ []) ∷ [] ∷ (11 ∷ []) ∷ [] ∷ []) ∷
    makes No.return ((2 ∷ 3 ∷ []) ∷ [] ∷ (11 ∷ []) ∷ [] ∷ []) ∷
    refuses No.waits ((2 ∷ 3 ∷ []) ∷ [] ∷ (11 ∷ []) ∷ [] ∷ []) ∷
    -- 18 to 22: that child sporks and spoins unpromoted, and is joined; the oldest child is not ended, and the schedule stops
    makes No.stmt ((2 ∷ 3 ∷ []) ∷ [] ∷ (11 ∷ []) ∷ [] ∷ []) ∷
    makes No.spork ((2 ∷ 3 ∷ []) ∷ (19 ∷ []) ∷ (11 ∷ []) ∷ [] ∷ []) ∷
    makes No.unpr ((2 ∷ 3 ∷ []) ∷ [] ∷ (11 ∷ []) ∷ [] ∷ []) ∷
    makes No.prom ((2 ∷ []) ∷ (11 ∷ []) ∷ [] ∷ []) ∷
    refuses No.waits ((2 ∷ []) ∷ (11 ∷ []) ∷ [] ∷ []) ∷
    -- 23 and 24: it joins its own child, and is joined
    makes No.prom ((2 ∷ []) ∷ [] ∷ []) ∷
    makes No.prom ([] ∷ []) ∷
    -- 25 to 29: the next round, with new numbers
    makes No.stmt ([] ∷ []) ∷
    makes No.goto ([] ∷ []) ∷
    makes No.spork ((27 ∷ []) ∷ []) ∷
    makes No.spork ((27 ∷ 28 ∷ []) ∷ []) ∷
    makes No.promote ((27 ∷ 28 ∷ []) ∷ [] ∷ []) ∷
    -- 30 to 34: an unpromoted spoin with two more calls open beneath it
    makes No.stmt ((27 ∷ 28 ∷ []) ∷ [] ∷ []) ∷
    makes No.call ((27 ∷ 28 ∷ []) ∷ [] ∷ []) ∷
    makes No.stmt ((27 ∷ 28 ∷ []) ∷ [] ∷ []) ∷
    makes No.spork ((27 ∷ 28 ∷ 33 ∷ []) ∷ [] ∷ []) ∷
    makes No.unpr ((27 ∷ 28 ∷ []) ∷ [] ∷ []) ∷
    []

-- the openers after each of ps, which come behind qs
abbrev after_each : List ℕ → List Put → List Put → List (List (List ℕ))
after_each s qs [] = []
after_each s qs (p ∷ ps) = openers (replies s (qs ++ (p ∷ []))) ∷ after_each s (qs ++ (p ∷ [])) ps

-- every row is right
abbrev Right : List Call → List Row → Type 0
Right cs rs =
    (map (λ r. r.answer) (replies loop (put loop cs)) ≡ map (λ r. r.answer) rs) ×
    (after_each loop [] (put loop cs) ≡ map (λ r. r.openers) rs)

pub right : Right day rows
unfolding every
right = (refl, refl)

-- the promotions: each child's first frame, of its spork's values
pub record Birth : Type 0 where
  pub number : ℕ
  pub frame : Frame

abbrev birth : ℕ → ℕ → List ℤ → Birth
birth m g v̄ = record { number = m; frame = begin g v̄ }

abbrev pub births : List Birth
births =
    -- from an older frame, where temporary 0 is 5; it is 10 in the newest
    birth 9 1 (pos 5 ∷ []) ∷
    -- the child's own
    birth 12 2 (pos 10 ∷ []) ∷
    -- the second spork of the same spawn call; then that of the newest frame
    birth 13 1 (pos 5 ∷ []) ∷
    birth 14 2 (pos 20 ∷ []) ∷
    -- the next round
    birth 29 1 (pos 10 ∷ []) ∷
    []

abbrev Born : List Call → List Birth → Type 0
Born cs bs = map (λ b. ◌>>=◌ (get_elem? (put loop cs) b.number) (behind loop)) bs ≡ map (λ b. some (born b.frame)) bs

pub births-right : Born day births
unfolding every
births-right = refl

-- beats on it, each of which brings a token: two runs, and beats between them. The first of these has no N and puts no choice, and the
-- last thread of the second run is not beaten, since the beat before it is refused
abbrev pub beats : List Call
beats =
    Call.run 1 1 (0 ∷ 0 ∷ 0 ∷ 0 ∷ []) ∷
    Call.beat 1 0 1 ∷
    Call.beat 1 1 1 ∷
    Call.beat 1 1 1 ∷
    Call.run 1 1 (0 ∷ 0 ∷ 0 ∷ 0 ∷ 0 ∷ 0 ∷ 0 ∷ 0 ∷ []) ∷
    []

abbrev pub beat_rows : List Row
beat_rows =
    -- 0 to 5: each spork is promoted at once; the second child stands before the first
    makes No.stmt ([] ∷ []) ∷
    makes No.goto ([] ∷ []) ∷
    makes No.spork ((2 ∷ []) ∷ []) ∷
    makes No.promote ((2 ∷ []) ∷ [] ∷ []) ∷
    makes No.spork ((2 ∷ 4 ∷ []) ∷ [] ∷ []) ∷
    makes No.promote ((2 ∷ 4 ∷ []) ∷ [] ∷ [] ∷ []) ∷
    -- 6 to 8: so is that of the second child
    makes No.stmt ((2 ∷ 4 ∷ []) ∷ [] ∷ [] ∷ []) ∷
    makes No.spork ((2 ∷ 4 ∷ []) ∷ (7 ∷ []) ∷ [] ∷ []) ∷
    makes No.promote ((2 ∷ 4 ∷ []) ∷ (7 ∷ []) ∷ [] ∷ [] ∷ []) ∷
    -- 9 to 13: and that of the function called
    makes No.stmt ((2 ∷ 4 ∷ []) ∷ (7 ∷ []) ∷ [] ∷ [] ∷ []) ∷
    makes No.call ((2 ∷ 4 ∷ []) ∷ (7 ∷ []) ∷ [] ∷ [] ∷ []) ∷
    makes No.stmt ((2 ∷ 4 ∷ []) ∷ (7 ∷ []) ∷ [] ∷ [] ∷ []) ∷
    makes No.spork ((2 ∷ 4 ∷ 12 ∷ []) ∷ (7 ∷ []) ∷ [] ∷ [] ∷ []) ∷
    makes No.promote ((2 ∷ 4 ∷ 12 ∷ []) ∷ [] ∷ (7 ∷ []) ∷ [] ∷ [] ∷ []) ∷
    -- 14 to 16: that child is ended and joined; the next is not, and the run stops
    makes No.prom ((2 ∷ 4 ∷ []) ∷ (7 ∷ []) ∷ [] ∷ [] ∷ []) ∷
    makes No.return ((2 ∷ 4 ∷ []) ∷ (7 ∷ []) ∷ [] ∷ [] ∷ []) ∷
    refuses No.waits ((2 ∷ 4 ∷ []) ∷ (7 ∷ []) ∷ [] ∷ [] ∷ []) ∷
    []

pub beats-right : Right beats beat_rows
unfolding every
beats-right = (refl, refl)

pub beat-births : Born beats (birth 3 1 (pos 5 ∷ []) ∷ birth 5 1 (pos 5 ∷ []) ∷ birth 8 2 (pos 10 ∷ []) ∷ birth 13 2 (pos 20 ∷ []) ∷ [])
unfolding every
beat-births = refl

-- main sets temporary 0 to 1 and sporks function 1 of it; under that it sets temporary 1 to 2 and goes with it to block 2, which takes
-- it as temporary x, has the scope Γ, and spoins
abbrev bound : ℕ → ℕ → List ℕ
bound x Γ =
    table (
    function 0 (spawn 1 (0 ∷ []) ∷ []) (
    block [] 0 [] (set 0 1 ∷ []) (spork 1 0) ∷
    block [] 1 (0 ∷ []) (set 1 2 ∷ []) (goto 2 (1 ∷ [])) ∷
    block (x ∷ []) Γ (0 ∷ []) [] (spoin 3) ∷
    block [] 0 [] [] return ∷ []) ∷
    function 1 [] (block [] 1 [] [] return ∷ []) ∷ [])

-- the argument of the open spawn call is a parameter of block 2, and so not in its scope: 10, for that block. With another parameter,
-- and the argument in the scope, the table is accepted
abbrev pub anew : List ℕ
anew = bound 0 0

pub anew-refused : (check anew ≡ Answer.refused (Refusal.fault No.scope 0 2)) × (check (bound 2 1) ≡ Answer.given tt)
unfolding every
anew-refused = (refl, refl)

-- the promotion comes behind the goto
abbrev pub late : List Call
late = Call.schedule (step 0 ∷ step 0 ∷ step 0 ∷ step 0 ∷ promote 0 ∷ []) ∷ []

-- the values that spawn call 0's arguments have in the thread that a choice is put to
abbrev arguments_in : Answer Lent → ℕ → Option (List ℤ)
arguments_in (Answer.given l) i = do
  t ← get_elem? l.pool i
  arguments_of l.table t.newest 0
arguments_in (Answer.refused r) i = none

abbrev arguments : List ℕ → Put → Option (List ℤ)
arguments s p = arguments_in (lent s p.words) p.thread

-- a table: what the choices are answered, the values at the spork, which is choice 1, and the child of the promotion, choice 4
pub record Told : Type 0 where
  pub bytes : List ℕ
  pub answers : List (Answer ℕ)
  pub at_spork : Option (List ℤ)
  pub child : Option Thread

abbrev told : List ℕ → Told
told s =
    record {
      bytes = s;
      answers = map (λ r. r.answer) (replies s (put s late));
      at_spork = ◌>>=◌ (get_elem? (put s late) 1) (arguments s);
      child = ◌>>=◌ (get_elem? (put s late) 4) (behind s);
    }

-- sporked with 1, the child begins with v̄
abbrev hands : List ℕ → List ℤ → Told
hands s v̄ =
    record {
      bytes = s;
      answers =
          Answer.given No.stmt ∷ Answer.given No.spork ∷ Answer.given No.stmt ∷ Answer.given No.goto ∷ Answer.given No.promote ∷ [];
      at_spork = some (pos 1 ∷ []);
      child = some (born (begin 1 v̄));
    }

-- where the goto binds the argument anew the child begins with 2, and else with 1
abbrev pub tales : List Told
tales = hands anew (pos 2 ∷ []) ∷ hands (bound 2 1) (pos 1 ∷ []) ∷ []

pub tales-right : map (λ r. told r.bytes) tales ≡ tales
unfolding every
tales-right = refl

-- the number of the spawn call that a promotion of the chosen thread is to promote, and that of the choice that sporked it
abbrev oldest_in : Answer Lent → ℕ → Option ℕ
oldest_in (Answer.given l) i = do
  t ← get_elem? l.pool i
  o ← get_elem? (open_in l.table t) (children (frames t))
  some o.call
oldest_in (Answer.refused r) i = none

abbrev oldest : List ℕ → Put → Option ℕ
oldest s p = oldest_in (lent s p.words) p.thread

abbrev spork_in : List ℕ → List Put → Answer Lent → ℕ → Option ℕ
spork_in s ps (Answer.given l) i = do
  t ← get_elem? l.pool i
  opener (replies s ps) i (children (frames t))
spork_in s ps (Answer.refused r) i = none

abbrev spork_of : List ℕ → List Put → Put → Option ℕ
spork_of s ps p = spork_in s ps (lent s p.words) p.thread

-- the theorem says of a promotion of spawn call 0, sporked by choice m with the values v̄, that the child's frame k has these
module _ (s : List ℕ) (ps : List Put) (p : Put) (m : ℕ) (v̄ : List ℤ) (k : Frame) (call : oldest s p ≡ some 0)
    (number : spork_of s ps p ≡ some m) (values : ◌>>=◌ (get_elem? ps m) (arguments s) ≡ some v̄)
    (child : behind s p ≡ some (born k)) where
  begins : Hands s ps p → (g : ℕ) × (k ≡ begin g v̄)
  begins h =
      let a = rw (h.pool, h.there, h.oldest) at call in
      let b : opener (replies s ps) p.thread (children (frames h.parent)) ≡ some m = rw (h.pool, h.there) at number in
      let c : h.number ≡ m = some-injective (sym h.numbered ∙ b) in
      let d : get_elem? ps m ≡ some h.spork.put = rw (← c) h.spork.numbered in
      let e = rw (d, h.spork.pool, h.spork.there) at values in
      let f : h.spork.call ≡ 0 = cc in
      let v : h.spork.values ≡ v̄ = cc in
      let u : get_elem? h.after (p.thread + 1) ≡ some (born k) = rw h.left at child in
      let w : h.child ≡ born k = some-injective (sym h.child_there ∙ u) in
      (h.spawn.function, cc)

-- a first frame has its values
differ : (g : ℕ) × (begin 1 (pos 2 ∷ []) ≡ begin g (pos 1 ∷ [])) → ⊥
unfolding all
differ (g, e) =
    let z : pos 2 ≡ pos 1 = ap (λ (k : Frame). get_or k.values 0 (pos 0)) e in
    let y : ◌≡◌ {A = ℕ} 2 1 = cc in
    omega arith

-- so the theorem asks for acceptance: of this table, which is refused for the scope of a nested block, it is false
pub not-handed : Handed anew (start anew blank).after late → ⊥
unfolding every
not-handed h = go (get_elem? (put anew late) 4) refl refl refl refl refl
  where
    go : (o : Option Put) → get_elem? (put anew late) 4 ≡ o →
        Option.map (λ p. (reply_to anew p).answer) o ≡ some (Answer.given No.promote) →
        ◌>>=◌ o (oldest anew) ≡ some 0 → ◌>>=◌ o (spork_of anew (take 4 (put anew late))) ≡ some 1 →
        ◌>>=◌ o (behind anew) ≡ some (born (begin 1 (pos 2 ∷ []))) → ⊥
    go none e made call number child = none-some made
    go (some p) e made call number child =
        differ
        (begins anew (take 4 (put anew late)) p 1 (pos 1 ∷ []) (begin 1 (pos 2 ∷ [])) call number refl child
        (h.promotions 4 p e (some-injective made)))
