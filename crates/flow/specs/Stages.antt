-- The program as a machine over bytes, which come one after another: where it stands, what each byte makes it print, and what it prints
-- at the input's end.
use Rattle.std.specs.Prelude.{ℕ, ◌+◌, Bool, true, false, cond, not, ◌&&◌, ◌||◌, List, [], ◌∷◌, ◌++◌, length, nat_le}
use Rattle.std.proofs.Math.Option.{Option, none, some}
use Rattle.model.specs.Numbers as No
use Rattle.model.specs.Answers.{Refusal, Answer}
use Rattle.model.specs.Syntax.{Program}
use Rattle.model.specs.Read.{length_field}
use Rattle.model.specs.Pool.{Pool, started}
use Rattle.model.specs.Rules.{Result, choice}
use Rattle.model.specs.Text.{ascii, newline}
use Rattle.model.specs.Output.{refusal, answered, choice_line, result}
use Rattle.model.specs.Calls.{accepted}

pub data Stage : Type 0 where
  taking : List ℕ → Stage  -- the table is taken: the bytes so far
  choosing : Program → Pool → ℕ → Option ℕ → Stage  -- choices are made: the next one's index, and its kind once that has come
  stopped : Program → Pool → Stage  -- a choice was refused
  over : Stage  -- the table was refused

-- nothing has come
abbrev pub beginning : Stage
beginning = Stage.taking []

-- a table's length lies within the limits
unfoldable pub limited : ℕ → Bool
limited n = nat_le 6 n && nat_le n 16384

-- the table is whole, with as many bytes as its length field says; where that is no table's length it is refused at once
unfoldable pub whole : List ℕ → Bool
whole t = nat_le 4 (length t) && (not (limited (length_field t)) || nat_le (length_field t) (length t))

-- a whole table is checked
unfoldable pub opened : Answer Program → Stage
opened (Answer.given P) = Stage.choosing P started 0 none
opened (Answer.refused r) = Stage.over

unfoldable pub opening : Answer Program → List ℕ
opening (Answer.given P) = ascii "accepted" ++ newline
opening (Answer.refused r) = refusal r ++ newline

-- a choice is put
unfoldable pub chosen : Program → Pool → ℕ → Result → Stage
chosen P p i (Result.made rule p') = Stage.choosing P p' (i + 1) none
chosen P p i (Result.refused n) = Stage.stopped P p

-- the next byte: where the program stands after it, and what it prints
unfoldable pub next : Stage → ℕ → Stage
next (Stage.taking s) b = cond (whole (s ++ b ∷ [])) (opened (accepted (s ++ b ∷ []))) (Stage.taking (s ++ b ∷ []))
next (Stage.choosing P p i none) b = Stage.choosing P p i (some b)
next (Stage.choosing P p i (some kind)) b = chosen P p i (choice P p kind b)
next (Stage.stopped P p) b = Stage.stopped P p
next Stage.over b = Stage.over

unfoldable pub says : Stage → ℕ → List ℕ
says (Stage.taking s) b = cond (whole (s ++ b ∷ [])) (opening (accepted (s ++ b ∷ []))) []
says (Stage.choosing P p i none) b = []
says (Stage.choosing P p i (some kind)) b = choice_line i kind b (answered (choice P p kind b))
says (Stage.stopped P p) b = []
says Stage.over b = []

-- further bytes
unfoldable pub after : Stage → List ℕ → Stage
after st [] = st
after st (b ∷ s) = after (next st b) s

unfoldable pub said : Stage → List ℕ → List ℕ
said st [] = []
said st (b ∷ s) = says st b ++ said (next st b) s

-- the end of the input: what is printed last
unfoldable pub ends : Stage → List ℕ
ends (Stage.taking s) = refusal (Refusal.plain No.size) ++ newline
ends (Stage.choosing P p i k) = result P p
ends (Stage.stopped P p) = result P p
ends Stage.over = []

-- whether nothing more is printed of further bytes, and whether everything was accepted and made
unfoldable pub closed : Stage → Bool
closed (Stage.taking s) = false
closed (Stage.choosing P p i k) = false
closed (Stage.stopped P p) = true
closed Stage.over = true

unfoldable pub fine : Stage → Bool
fine (Stage.taking s) = false
fine (Stage.choosing P p i k) = true
fine (Stage.stopped P p) = false
fine Stage.over = false
