-- The contract of each exported function, under the name of the function: what it says of the bytes and words lent, the number
-- answered, and the words left. A table is never written.
use Rattle.std.specs.Prelude.{ℕ, ◌≡◌, List, ℤ}
use Rattle.model.specs.Answers.{outcome}
use Rattle.model.specs.Calls as Calls
use Rattle.model.specs.Calls.{Choice}
use Rattle.chains.specs.Depth.{depth}
use Rattle.numbering.specs.Tidy.{tidy}
use Rattle.inference.specs.Complete.{complete}
use Rattle.tokens.specs.Beats as Beats
use Rattle.views.specs.Lines.{Viewer}
use Rattle.views.specs.Listing.{list}
use Rattle.host.specs.Exports as Exports
use Rattle.host.specs.Exports.{done, as_number, beat_number, stepper_of, Gives, Writes, Completes, Tells, Runs}

abbrev pub Read : List ℕ → ℕ → Type 0
Read s r = r ≡ done (outcome (Calls.read s))

abbrev pub Check : List ℕ → ℕ → Type 0
Check s r = r ≡ done (Calls.check s)

abbrev pub Depth : List ℕ → ℕ → Type 0
Depth s r = r ≡ as_number (depth s)

-- the output before and afterwards
abbrev pub Tidy : List ℕ → List ℕ → ℕ → List ℕ → Type 0
Tidy s out r out' = Writes (tidy s out) r out'

-- the output and the scratch before and afterwards
abbrev pub Complete : List ℕ → List ℕ → List ℕ → ℕ → List ℕ → List ℕ → Type 0
Complete s out words r out' words' = Completes (complete s out words) r out' words'

-- the pool's words before and afterwards
abbrev pub Start : List ℕ → List ℤ → ℕ → List ℤ → Type 0
Start s ws r ws' = Gives done (Calls.start s ws) r ws'

abbrev pub Choose : List ℕ → List ℤ → ℕ → ℕ → ℕ → List ℤ → Type 0
Choose s ws kind thread r ws' = Gives as_number (Calls.choose s ws kind thread) r ws'

-- how many choices were made, too
abbrev pub Schedule : List ℕ → List ℤ → List Choice → ℕ → ℕ → List ℤ → Type 0
Schedule s ws cs r made ws' = Tells (Calls.schedule s ws cs) r made ws'

abbrev pub Beat : List ℕ → List ℤ → ℕ → ℕ → ℕ → ℕ → List ℤ → Type 0
Beat s ws thread n c r ws' = Gives beat_number (Beats.beat s ws thread n c) r ws'

-- the two numbers of what was made, too
abbrev pub Run : List ℕ → List ℤ → ℕ → ℕ → List ℕ → ℕ → List ℕ → List ℤ → Type 0
Run s ws n c threads r made ws' = Runs (Beats.run s ws n c threads) r made ws'

abbrev pub Which : List ℕ → List ℤ → ℕ → Type 0
Which s ws r = r ≡ stepper_of (Calls.which s ws)

-- a listing: the output before and afterwards. The operator's, and the customer's
abbrev pub Listing : Viewer → List ℕ → List ℤ → List ℕ → ℕ → List ℕ → Type 0
Listing who s ws out r out' = Writes (list who s ws out) r out'

abbrev pub Operator : List ℕ → List ℤ → List ℕ → ℕ → List ℕ → Type 0
Operator s ws out r out' = Listing Viewer.operator s ws out r out'

abbrev pub Customer : List ℕ → List ℤ → List ℕ → ℕ → List ℕ → Type 0
Customer s ws out r out' = Listing Viewer.customer s ws out r out'

-- the words lent for main's values before and afterwards
abbrev pub Values : List ℕ → List ℤ → List ℤ → ℕ → List ℤ → Type 0
Values s ws vs r vs' = Exports.Values (Calls.values s ws) vs r vs'
