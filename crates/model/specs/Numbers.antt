-- The numbers of document 01, each once, by name: what a call can refuse, and the rules of figure 3.
-- Other files write them as No.stuck, No.goto.
use Rattle.std.specs.Prelude.{ℕ, ◌≤◌, ◌≡◌, ◌⊎◌}

-- the table (1 to 3)
abbrev pub size : ℕ
size = 1

abbrev pub version : ℕ
version = 2

abbrev pub form : ℕ
form = 3

-- the check (4 to 11)
abbrev pub main : ℕ
main = 4

abbrev pub entry : ℕ
entry = 5

abbrev pub missing : ℕ
missing = 6

abbrev pub twice : ℕ
twice = 7

abbrev pub unbound : ℕ
unbound = 8

abbrev pub count : ℕ
count = 9

abbrev pub scope : ℕ
scope = 10

abbrev pub nesting : ℕ
nesting = 11

-- the pool (12, 13)
abbrev pub words : ℕ
words = 12

abbrev pub pool : ℕ
pool = 13

-- a choice (14 to 21)
abbrev pub kind : ℕ
kind = 14

abbrev pub thread : ℕ
thread = 15

abbrev pub ended : ℕ
ended = 16

abbrev pub waits : ℕ
waits = 17

abbrev pub frames : ℕ
frames = 18

abbrev pub stuck : ℕ
stuck = 19

abbrev pub promoted : ℕ
promoted = 20

abbrev pub threads : ℕ
threads = 21

-- the calls of an accepted table (22)
abbrev pub cycle : ℕ
cycle = 22

-- lent output that is shorter than the tidy table (23)
abbrev pub room : ℕ
room = 23

-- a completion (24 to 26): lent words or output of another length, a block that is not reached, a function that nothing can pass
abbrev pub lent : ℕ
lent = 24

abbrev pub unreached : ℕ
unreached = 25

abbrev pub impossible : ℕ
impossible = 26

-- N or C of a beat or a run (27)
abbrev pub pace : ℕ
pace = 27

-- lent output that is shorter than the listing (28)
abbrev pub listing : ℕ
listing = 28

-- a step whose expression overflows (29)
abbrev pub overflow : ℕ
overflow = 29

-- the rules (1 to 10), in the order of document 01
abbrev pub stmt : ℕ
stmt = 1

abbrev pub goto : ℕ
goto = 2

abbrev pub then : ℕ
then = 3

abbrev pub else : ℕ
else = 4

abbrev pub call : ℕ
call = 5

abbrev pub return : ℕ
return = 6

abbrev pub spork : ℕ
spork = 7

abbrev pub unpr : ℕ
unpr = 8

abbrev pub prom : ℕ
prom = 9

abbrev pub promote : ℕ
promote = 10

-- a number from lo to hi
abbrev pub Within : ℕ → ℕ → ℕ → Type 0
Within lo hi n = (lo ≤ n) × (n ≤ hi)

-- a step makes one of the rules 1 to 9, a promotion rule 10, and no other kind of choice a rule
abbrev pub RuleOf : ℕ → ℕ → Type 0
RuleOf kind rule = ((kind ≡ 0) × Within stmt prom rule) ⊎ ((kind ≡ 1) × (rule ≡ promote))

-- a step is refused with one of 15 to 19 or with 29; a choice with one of 14 to 21, and a step alone with 29
abbrev pub StepRefusal : ℕ → Type 0
StepRefusal n = Within thread stuck n ⊎ (n ≡ overflow)

abbrev pub RefusalOf : ℕ → ℕ → Type 0
RefusalOf k n = Within kind threads n ⊎ ((k ≡ 0) × (n ≡ overflow))
