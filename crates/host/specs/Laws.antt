-- What a host may conclude from the number that a call answered and from the memory that it lent, for all bytes and words: the
-- number tells the definition's answer, which numbers there are, and what is written.
use Rattle.std.specs.Prelude.{ℕ, ◌+◌, ◌*◌, ◌-◌, ◌≤◌, ◌<◌, ◌≡◌, ◌⊎◌, ◌≢◌, Bool, true, false, ◌&&◌, ◌||◌, cond, List, [], ◌∷◌, eqb, leb, ℤ, pos, length, get_or, set, take, drop, replicate}
use Rattle.std.proofs.Math.Option.{Option, none, some}
use Rattle.std.proofs.Math.ListN.{get_elem?}
use Rattle.model.specs.Numbers as No
use Rattle.model.specs.Numbers.{Within, RuleOf, StepRefusal}
use Rattle.model.specs.Answers.{Refusal, Answer, outcome}
use Rattle.model.specs.Pool.{frame_count_at, thread_count_at, thread_start}
use Rattle.model.specs.Calls as Calls
use Rattle.model.specs.Calls.{Choice}
use Rattle.chains.specs.Depth.{depth}
use Rattle.numbering.specs.Tidy.{tidy}
use Rattle.inference.specs.Complete.{scratch_words, output_bytes, cleared, complete}
use Rattle.tokens.specs.Beats as Beats
use Rattle.tokens.specs.Beats.{most_n, most_c}
use Rattle.overflows.specs.Means.{Overflowing}
use Rattle.views.specs.Lines.{Viewer}
use Rattle.views.specs.Listing.{list}
use Rattle.host.specs.Macros.{is_given, value, number, place, block, function, rule, promotions, pool_words, step, no_thread}
use Rattle.host.specs.Macros.{still_open, listing_bytes}
use Rattle.host.specs.CallContracts.{Read, Check, Depth, Tidy, Complete, Start, Choose, Schedule, Beat, Run, Which, Values}
use Rattle.host.specs.CallContracts.{Listing}

-- has a refusal of this number a function and a block: 4 to 11, 25 and 26
unfoldable pub placed : ℕ → Bool
placed n = (leb No.main n && leb n No.nesting) || (leb No.unreached n && leb n No.impossible)

-- what the macros read in a refused number: for 3 a place, for those a function and a block
unfoldable pub refusal_in : ℕ → Refusal
refusal_in r =
    cond (eqb (number r) No.form) (Refusal.byte (place r))
    (cond (placed (number r)) (Refusal.fault (number r) (function r) (block r)) (Refusal.plain (number r)))

-- what they read in a number: given exactly where bit 32 is set, with its value
unfoldable pub answer_in : ℕ → Answer ℕ
answer_in r = cond (is_given r) (Answer.given (value r)) (Answer.refused (refusal_in r))

-- the value as the first thread that can step
unfoldable pub thread_in : Answer ℕ → Answer (Option ℕ)
thread_in (Answer.given v) = Answer.given (cond (eqb v no_thread) none (some v))
thread_in (Answer.refused q) = Answer.refused q

-- the value as the number of main's values, which stand in the words lent for them
unfoldable pub values_in : Answer ℕ → List ℤ → Answer (Option (List ℤ))
values_in (Answer.given v) vs = Answer.given (cond (eqb v still_open) none (some (take v vs)))
values_in (Answer.refused q) vs = Answer.refused q

-- 1 to 3: the place of a 3 is an offset in a table of 6 to 16,384 bytes, or its length
pub record OfTable (s : List ℕ) (r : ℕ) : Type 0 where
  pub numbered : Within No.size No.form (number r)
  pub placed : number r ≡ No.form → (place r ≤ length s) × Within 6 16384 (length s)

-- 4 to 11: at a block, whose number is below 32; at a spawn call, 6 or 9 with block 255; or main's 4, with function 0 and
-- block 255. The function is one of the table's: byte 5 says how many there are
pub data Placed (r : ℕ) : Type 0 where
  at_block : Within No.entry No.nesting (number r) → block r < 32 → Placed r
  at_spawn : (number r ≡ No.missing) ⊎ (number r ≡ No.count) → block r ≡ 255 → Placed r
  at_main : number r ≡ No.main → function r ≡ 0 → block r ≡ 255 → Placed r

pub record OfProgram (s : List ℕ) (r : ℕ) : Type 0 where
  pub numbered : Within No.main No.nesting (number r)
  pub placed : Placed r
  pub function_there : function r < get_or s 5 0
  pub functions : get_or s 5 0 ≤ 16

-- 1 to 3, 12 and 13; 1 to 3, 12 to 21, and 29
abbrev pub OfPool : List ℕ → ℕ → Type 0
OfPool s r = OfTable s r ⊎ Within No.words No.pool (number r)

abbrev pub OfChoice : List ℕ → ℕ → Type 0
OfChoice s r = OfTable s r ⊎ (Within No.words No.threads (number r) ⊎ (number r ≡ No.overflow))

-- mezdaulk_read
pub record ReadTells (s : List ℕ) (r : ℕ) : Type 0 where
  pub answers : outcome (answer_in r) ≡ outcome (Calls.read s)
  pub given : is_given r ≡ true → value r ≡ 0
  pub refused : is_given r ≡ false → OfTable s r

-- mezdaulk_check
pub record CheckTells (s : List ℕ) (r : ℕ) : Type 0 where
  pub answers : outcome (answer_in r) ≡ Calls.check s
  pub given : is_given r ≡ true → value r ≡ 0
  pub refused : is_given r ≡ false → OfTable s r ⊎ OfProgram s r

-- mezdaulk_depth: the value is the frames. A table that mezdaulk_check refuses gets the same number; an accepted one is given its
-- depth or gets 22
pub record DepthTells (s : List ℕ) (r : ℕ) : Type 0 where
  pub answers : answer_in r ≡ depth s
  pub given : is_given r ≡ true → Within 1 16 (value r)
  pub unchecked : (c : ℕ) → Check s c → is_given c ≡ false → r ≡ c
  pub refused : (c : ℕ) → Check s c → is_given c ≡ true → is_given r ≡ false → number r ≡ No.cycle

-- mezdaulk_tidy: the value is the length of the tidy table, which stands at the start of the output; the bytes behind it stay. It is no
-- longer than the table, mezdaulk_check accepts it, and mezdaulk_tidy answers and writes for it what it does for the table. A table
-- that mezdaulk_check refuses gets the same number; an accepted one is given, or gets 23, which it never does with an output as long
-- as itself. Refused, nothing is written
pub record TidyTells (s out : List ℕ) (r : ℕ) (out' : List ℕ) : Type 0 where
  pub answers : answer_in r ≡ (tidy s out).answer
  pub given : is_given r ≡ true → (value r ≤ length s) × (value r ≤ length out)
  pub accepted : is_given r ≡ true → (c : ℕ) → Check (take (value r) out') c → is_given c ≡ true
  pub again : is_given r ≡ true → (e : List ℕ) (q : ℕ) (e' : List ℕ) → Tidy (take (value r) out') e q e' → Tidy s e q e'
  pub behind : is_given r ≡ true → drop (value r) out' ≡ drop (value r) out
  pub unchecked : (c : ℕ) → Check s c → is_given c ≡ false → r ≡ c
  pub refused : (c : ℕ) → Check s c → is_given c ≡ true → is_given r ≡ false → number r ≡ No.room
  pub enough : (c : ℕ) → Check s c → is_given c ≡ true → length s ≤ length out → is_given r ≡ true
  pub unwritten : is_given r ≡ false → out' ≡ out

-- a completion's refusals: 1 to 3; 24, which is given exactly where too few words or an output of another length are lent; 25 and 26,
-- which are given only where enough is lent, at a function of the table, 25 at a block and 26 at none
pub data OfCompletion (s out words : List ℕ) (r : ℕ) : Type 0 where
  of_table : OfTable s r → OfCompletion s out words r
  of_lent : number r ≡ No.lent → (length words < scratch_words) ⊎ (length out ≢ output_bytes) → OfCompletion s out words r
  at_block : number r ≡ No.unreached → function r < get_or s 5 0 → block r < 32 → OfCompletion s out words r
  at_function : number r ≡ No.impossible → function r < get_or s 5 0 → block r ≡ 255 → OfCompletion s out words r

-- mezdaulk_complete: the value is the length of the completed table, which stands at the start of the output with 0 behind it, up to
-- 16,384 bytes; mezdaulk_check accepts it. Refused, nothing is written into the output. The scratch is as it was at 1 to 3 and at 24;
-- else its first 1,024 words are 0, and those behind them as they were. A table that gets here is none to mezdaulk_read: it gets 2
pub record CompleteTells (s out words : List ℕ) (r : ℕ) (out' words' : List ℕ) : Type 0 where
  pub answers : answer_in r ≡ (complete s out words).answer
  pub given : is_given r ≡ true → value r ≤ output_bytes
  pub accepted : is_given r ≡ true → (c : ℕ) → Check (take (value r) out') c → is_given c ≡ true
  pub behind : is_given r ≡ true → drop (value r) out' ≡ replicate (output_bytes - value r) 0
  pub lent : (is_given r ≡ true) ⊎ (No.unreached ≤ number r) → (scratch_words ≤ length words) × (length out ≡ output_bytes)
  pub refused : is_given r ≡ false → OfCompletion s out words r
  pub unwritten : is_given r ≡ false → out' ≡ out
  pub cleared : (is_given r ≡ true) ⊎ (No.unreached ≤ number r) → words' ≡ cleared words
  pub kept : is_given r ≡ false → number r ≤ No.lent → words' ≡ words
  pub other : (is_given r ≡ true) ⊎ (No.lent ≤ number r) → (c : ℕ) → Read s c → (is_given c ≡ false) × (number c ≡ No.version)

-- a fresh pool: one thread, with one frame at main's entry. Every other word is 0
unfoldable pub fresh : List ℤ
fresh = set (set (replicate pool_words (pos 0)) thread_count_at (pos 1)) (thread_start 0 + frame_count_at) (pos 1)

-- mezdaulk_start
pub record StartTells (s : List ℕ) (ws : List ℤ) (r : ℕ) (ws' : List ℤ) : Type 0 where
  pub answers : outcome (answer_in r) ≡ (Calls.start s ws).answer
  pub given : is_given r ≡ true → (value r ≡ 0) × (ws' ≡ fresh)
  pub refused : is_given r ≡ false → (OfTable s r ⊎ (number r ≡ No.words)) × (ws' ≡ ws)

-- mezdaulk_choose: the value is the rule. It is refused 29 exactly where it is a step of a thread whose next expression overflows
pub record ChooseTells (s : List ℕ) (ws : List ℤ) (kind thread r : ℕ) (ws' : List ℤ) : Type 0 where
  pub answers : answer_in r ≡ (Calls.choose s ws kind thread).answer
  pub given : is_given r ≡ true → RuleOf kind (value r)
  pub refused : is_given r ≡ false → OfChoice s r × (ws' ≡ ws)
  pub overflows : is_given r ≡ false → number r ≡ No.overflow → (kind ≡ step) × Overflowing s ws thread
  pub named : kind ≡ step → Overflowing s ws thread → (is_given r ≡ false) × (number r ≡ No.overflow)

-- the choice behind those made: put to the words that they left, it is answered the same number
pub record StopsAt (s : List ℕ) (ws : List ℤ) (cs : List Choice) (r made : ℕ) : Type 0 where
  pub choice : Choice
  pub there : get_elem? cs made ≡ some choice
  pub again : (q : ℕ) (ws' : List ℤ) → Choose s ws choice.kind choice.thread q ws' → q ≡ r

-- mezdaulk_schedule: given, it made all of its choices; refused with 1 to 3, 12 or 13, it made none and wrote nothing; refused
-- with 14 to 21 or 29, it stopped at a choice
pub record ScheduleTells (s : List ℕ) (ws : List ℤ) (cs : List Choice) (r made : ℕ) (ws' : List ℤ) : Type 0 where
  pub answers : outcome (answer_in r) ≡ (Calls.schedule s ws cs).answer
  pub given : is_given r ≡ true → (value r ≡ 0) × (made ≡ length cs)
  pub refused : is_given r ≡ false → OfChoice s r
  pub before : is_given r ≡ false → number r < No.kind → (made ≡ 0) × (ws' ≡ ws)
  pub stops : is_given r ≡ false → No.kind ≤ number r → StopsAt s ws' cs r made

-- the value as the rule and the promotions of a beat
unfoldable pub beat_in : ℕ → Answer Beats.Beat
beat_in r = cond (is_given r) (Answer.given (record { rule = rule r; promotions = promotions r })) (Answer.refused (refusal_in r))

-- 1 to 3, 12, 13 and 27, with which a beat or a run is refused before any step; and then 15 to 19, and 29
abbrev pub BeforeBeat : List ℕ → ℕ → Type 0
BeforeBeat s r = OfPool s r ⊎ (number r ≡ No.pace)

abbrev pub OfBeat : List ℕ → ℕ → Type 0
OfBeat s r = BeforeBeat s r ⊎ StepRefusal (number r)

-- N and C of a beat
abbrev pub Pace : ℕ → ℕ → Type 0
Pace n c = Within 1 most_n n × Within 1 most_c c

-- an N or C out of range gets 27; but what any choice, put to mezdaulk_choose in its place, is refused for the table or the words comes
-- first
pub record Unpaced (s : List ℕ) (ws : List ℤ) (r : ℕ) : Type 0 where
  pub refused : is_given r ≡ false
  pub before : BeforeBeat s r
  pub first : (kind thread q : ℕ) (w : List ℤ) → Choose s ws kind thread q w → is_given q ≡ false → number q < No.kind → r ≡ q
  pub pace : (kind thread q : ℕ) (w : List ℤ) → Choose s ws kind thread q w → (is_given q ≡ true) ⊎ (No.kind ≤ number q) →
      number r ≡ No.pace

-- mezdaulk_beat: the value is the rule of its step, 1 to 9, and 256 times its promotions, of which there are 7 at most. It is given
-- exactly where the step, put to mezdaulk_choose in its place, is, with the same rule, and refused with the same number; but an N or C
-- out of range comes first
pub record BeatTells (s : List ℕ) (ws : List ℤ) (thread n c r : ℕ) (ws' : List ℤ) : Type 0 where
  pub answers : beat_in r ≡ (Beats.beat s ws thread n c).answer
  pub given : is_given r ≡ true → Within No.stmt No.prom (rule r) × (promotions r ≤ 7) × (value r ≡ rule r + 256 * promotions r)
  pub refused : is_given r ≡ false → OfBeat s r × (ws' ≡ ws)
  pub paced : Pace n c → (q : ℕ) (w : List ℤ) → Choose s ws step thread q w →
      (is_given q ≡ is_given r) × (is_given r ≡ true → value q ≡ rule r) × (is_given r ≡ false → q ≡ r)
  pub unpaced : ¬ Pace n c → Unpaced s ws r

-- the beat behind those made: put to the words that they left, it is answered the same number
pub record StopsAtBeat (s : List ℕ) (ws : List ℤ) (n c : ℕ) (threads : List ℕ) (r steps : ℕ) : Type 0 where
  pub thread : ℕ
  pub there : get_elem? threads steps ≡ some thread
  pub again : (q : ℕ) (ws' : List ℤ) → Beat s ws thread n c q ws' → q ≡ r

-- mezdaulk_run: given, it made a step of each of its threads; refused with 1 to 3, 12, 13 or 27, it made nothing and wrote nothing but two
-- 0s; refused with 15 to 19 or 29, it stopped at a beat. With an N or C out of range an empty run is refused, too. Each promotion makes a
-- thread, of which there are 8 at most, and a step frees one at most
pub record RunTells (s : List ℕ) (ws : List ℤ) (n c : ℕ) (threads : List ℕ) (r steps made : ℕ) (ws' : List ℤ) : Type 0 where
  pub answers : outcome (answer_in r) ≡ (Beats.run s ws n c threads).answer
  pub few : made < steps + 8
  pub given : is_given r ≡ true → (value r ≡ 0) × (steps ≡ length threads)
  pub refused : is_given r ≡ false → OfBeat s r
  pub before : is_given r ≡ false → BeforeBeat s r → (steps ≡ 0) × (made ≡ 0) × (ws' ≡ ws)
  pub stops : is_given r ≡ false → StepRefusal (number r) → StopsAtBeat s ws' n c threads r steps
  pub unpaced : ¬ Pace n c → Unpaced s ws r

-- mezdaulk_which: the value is the first thread that can step, or 8 for none. A step of that thread, put to mezdaulk_choose in its place,
-- is given one of the rules 1 to 9; a step of a lower number is refused; and where there is none that of every number is. Where it is
-- refused every choice in its place is refused the same number
pub record WhichTells (s : List ℕ) (ws : List ℤ) (r : ℕ) : Type 0 where
  pub answers : thread_in (answer_in r) ≡ Calls.which s ws
  pub given : is_given r ≡ true → value r ≤ no_thread
  pub steps : is_given r ≡ true → value r ≢ no_thread → (q : ℕ) (ws' : List ℤ) → Choose s ws step (value r) q ws' →
      (is_given q ≡ true) × Within No.stmt No.prom (value q)
  pub first : is_given r ≡ true → (i : ℕ) → i < value r → (q : ℕ) (ws' : List ℤ) → Choose s ws step i q ws' → is_given q ≡ false
  pub nobody : is_given r ≡ true → value r ≡ no_thread → (i q : ℕ) (ws' : List ℤ) → Choose s ws step i q ws' → is_given q ≡ false
  pub refused : is_given r ≡ false → OfPool s r
  pub same : is_given r ≡ false → (kind thread q : ℕ) (ws' : List ℤ) → Choose s ws kind thread q ws' → q ≡ r

-- mezdaulk_values: the value is how many there are, and they stand in the first words; 255 exactly for open. Words behind them
-- stay, and nothing is written where they are open or refused
pub record ValuesTells (s : List ℕ) (ws vs : List ℤ) (r : ℕ) (vs' : List ℤ) : Type 0 where
  pub answers : values_in (answer_in r) vs' ≡ Calls.values s ws
  pub given : is_given r ≡ true → (value r ≤ 4) ⊎ (value r ≡ still_open)
  pub behind : is_given r ≡ true → value r ≤ 4 → drop (value r) vs' ≡ drop (value r) vs
  pub unwritten : is_given r ≡ true → value r ≡ still_open → vs' ≡ vs
  pub refused : is_given r ≡ false → OfPool s r × (vs' ≡ vs)

-- mezdaulk_operator and mezdaulk_customer, each for its viewer: the value is the length of the listing, which stands at the start of the
-- output; the bytes behind it stay. It is never above 4,096. Whatever other output is lent: with room for so many bytes it is given the
-- same, and with less it gets 28. What mezdaulk_which is refused in its place gets the same number; else it is given or gets 28, which it
-- never does with 4,096 bytes. Refused, nothing is written
pub record ListingTells (who : Viewer) (s : List ℕ) (ws : List ℤ) (out : List ℕ) (r : ℕ) (out' : List ℕ) : Type 0 where
  pub answers : answer_in r ≡ (list who s ws out).answer
  pub given : is_given r ≡ true → (value r ≤ length out) × (value r ≤ listing_bytes)
  pub again : is_given r ≡ true → (e : List ℕ) (q : ℕ) (e' : List ℕ) → Listing who s ws e q e' → value r ≤ length e →
      (q ≡ r) × (take (value r) e' ≡ take (value r) out')
  pub behind : is_given r ≡ true → drop (value r) out' ≡ drop (value r) out
  pub shorter : is_given r ≡ true → (e : List ℕ) (q : ℕ) (e' : List ℕ) → Listing who s ws e q e' → length e < value r →
      (is_given q ≡ false) × (number q ≡ No.listing)
  pub refused : is_given r ≡ false → OfPool s r ⊎ (number r ≡ No.listing)
  pub unlent : (w : ℕ) → Which s ws w → is_given w ≡ false → r ≡ w
  pub short : (w : ℕ) → Which s ws w → is_given w ≡ true → is_given r ≡ false → number r ≡ No.listing
  pub enough : (w : ℕ) → Which s ws w → is_given w ≡ true → listing_bytes ≤ length out → is_given r ≡ true
  pub unwritten : is_given r ≡ false → out' ≡ out

-- whatever an exported function answered by its contract
pub record Laws : Type 0 where
  pub read : (s : List ℕ) (r : ℕ) → Read s r → ReadTells s r
  pub check : (s : List ℕ) (r : ℕ) → Check s r → CheckTells s r
  pub depth : (s : List ℕ) (r : ℕ) → Depth s r → DepthTells s r
  pub tidy : (s out : List ℕ) (r : ℕ) (out' : List ℕ) → Tidy s out r out' → TidyTells s out r out'
  pub complete : (s out words : List ℕ) (r : ℕ) (out' words' : List ℕ) → Complete s out words r out' words' →
      CompleteTells s out words r out' words'
  pub start : (s : List ℕ) (ws : List ℤ) (r : ℕ) (ws' : List ℤ) → Start s ws r ws' → StartTells s ws r ws'
  pub choose : (s : List ℕ) (ws : List ℤ) (kind thread r : ℕ) (ws' : List ℤ) → Choose s ws kind thread r ws' →
      ChooseTells s ws kind thread r ws'
  pub schedule : (s : List ℕ) (ws : List ℤ) (cs : List Choice) (r made : ℕ) (ws' : List ℤ) → Schedule s ws cs r made ws' →
      ScheduleTells s ws cs r made ws'
  pub beat : (s : List ℕ) (ws : List ℤ) (thread n c r : ℕ) (ws' : List ℤ) → Beat s ws thread n c r ws' →
      BeatTells s ws thread n c r ws'
  pub run : (s : List ℕ) (ws : List ℤ) (n c : ℕ) (threads : List ℕ) (r steps made : ℕ) (ws' : List ℤ) →
      Run s ws n c threads r (steps ∷ made ∷ []) ws' → RunTells s ws n c threads r steps made ws'
  pub which : (s : List ℕ) (ws : List ℤ) (r : ℕ) → Which s ws r → WhichTells s ws r
  pub values : (s : List ℕ) (ws vs : List ℤ) (r : ℕ) (vs' : List ℤ) → length vs ≡ 4 → Values s ws vs r vs' →
      ValuesTells s ws vs r vs'
  pub listing : (who : Viewer) (s : List ℕ) (ws : List ℤ) (out : List ℕ) (r : ℕ) (out' : List ℕ) → Listing who s ws out r out' →
      ListingTells who s ws out r out'
