-- Listings by computation, byte for byte: of pools, for both viewers; and what the two calls answer and write.
use Prim.Native.Nat.{ℕ, ◌-◌}
use Prim.Native.String.{String}
use mathlib.Core.Path.{◌≡◌, refl}
use mathlib.Core.List.{List, [], ◌∷◌, ◌++◌, map}
use lib.IntN.{ℤ, pos, negsuc}
use lib.ListN.{length, replicate, set}
use Rattle.model.specs.Numbers as No
use Rattle.model.specs.Answers as Answers
use Rattle.model.specs.Answers.{Refusal, Answer, Wrote}
use Rattle.model.specs.Lists.{concat}
use Rattle.model.specs.Text as Text
use Rattle.model.specs.Text.{ascii}
use Rattle.model.specs.Pool.{Frame, Thread, Pool, words_of, started, born, empty}
use Rattle.model.proofs.Runs.{all, blank, A, B}
use Rattle.views.specs.Lines as Lines
use Rattle.views.specs.Lines.{Viewer, line}
use Rattle.views.specs.Listing as Listing
use Rattle.views.specs.Listing.{listing, list}
use Rattle.views.specs.Means.{listing_bytes}

-- every definition that a row computes with
unfoldable every : Type 0
unfolding all Answers.put Text.decimal_in Text.decimal Text.signed_decimal Text.part Text.signed_part Lines.standing Lines.bindings
    Lines.values line Listing.first Listing.behind Listing.grown Listing.thread_lines Listing.root_lines listing Listing.listed list
every = Unit {0}

-- a frame of a function, at a block with so many statements done, with so many open and promoted calls, all of spawn call 0, and with
-- bound temporaries and values
abbrev frame : ℕ → ℕ → ℕ → ℕ → ℕ → ℕ → List ℤ → Frame
frame f b d opened promoted Γ v̄ =
    record { function = f; block = b; done = d; bound = Γ; calls = replicate opened 0; promoted = promoted; values = v̄ }

abbrev zeros : ℕ → List ℤ
zeros n = replicate n (pos 0)

abbrev thread : Frame → List Frame → Thread
thread k K = record { newest = k; older = K; purse = empty }

-- the least value, the greatest, and -1
abbrev least : ℤ
least = negsuc 2147483647

abbrev greatest : ℤ
greatest = pos 2147483647

abbrev minus : ℤ
minus = negsuc 0

-- a pool of B: threads 1, 5 and 7 are children of 0, 2 and 4 of 1, 3 of 2, and 6 of 5
abbrev eight : Pool
eight =
    thread (frame 0 1 0 4 1 0 (zeros 16)) (frame 0 1 0 2 2 0 (zeros 16) ∷ []) ∷
    born (frame 0 2 1 2 2 1 (minus ∷ zeros 15)) ∷
    born (frame 0 1 0 3 1 1536 (zeros 9 ++ greatest ∷ least ∷ zeros 5)) ∷
    thread
    (frame 1 0 1 0 0 65535
    (least ∷ greatest ∷ minus ∷ pos 0 ∷ pos 9 ∷ pos 10 ∷ pos 99 ∷ pos 100 ∷ negsuc 8 ∷ negsuc 9 ∷ negsuc 98 ∷ negsuc 99 ∷
    zeros 3 ++ pos 1 ∷ []))
    (replicate 7 (frame 0 1 0 0 0 0 (zeros 16))) ∷
    born (frame 1 0 0 0 0 32768 (zeros 16)) ∷
    born (frame 0 3 0 1 1 32769 (pos 5 ∷ zeros 14 ++ negsuc 6 ∷ [])) ∷
    born (frame 1 0 1 0 0 0 (zeros 16)) ∷
    born (frame 0 0 0 1 0 0 (zeros 16)) ∷
    []

-- lines one behind the other, each with its end
abbrev text : List String → List ℕ
text ts = concat (map ascii ts)

abbrev eight_operator : List String
eight_operator =
    "0 2 0 1 0 4 1\n" ∷
    " 1 1 0 2 1 2 2\n" ∷
    "  2 1 0 1 0 3 1\n" ∷
    "   3 8 1 0 1 0 0\n" ∷
    "  4 1 1 0 0 0 0\n" ∷
    " 5 1 0 3 0 1 1\n" ∷
    "  6 1 1 0 1 0 0\n" ∷
    " 7 1 0 0 0 1 0\n" ∷
    []

abbrev eight_customer : List String
eight_customer =
    "0 2 0 1 0 4 1\n" ∷
    " 1 1 0 2 1 2 2 0 -1\n" ∷
    "  2 1 0 1 0 3 1 9 2147483647 10 -2147483648\n" ∷
    "   3 8 1 0 1 0 0 0 -2147483648 1 2147483647 2 -1 3 0 4 9 5 10 6 99 7 100 8 -9 9 -10 10 -99 11 -100 12 0 13 0 14 0 15 1\n" ∷
    "  4 1 1 0 0 0 0 15 0\n" ∷
    " 5 1 0 3 0 1 1 0 5 15 -7\n" ∷
    "  6 1 1 0 1 0 0\n" ∷
    " 7 1 0 0 0 1 0\n" ∷
    []

pub record Row : Type 0 where
  pub pool : Pool
  pub operator : List String
  pub customer : List String

abbrev lists : Pool → List String → List String → Row
lists p o c = record { pool = p; operator = o; customer = c }

abbrev rows : List Row
rows =
    lists started ("0 1 0 0 0 0 0\n" ∷ []) ("0 1 0 0 0 0 0\n" ∷ []) ∷
    -- numbers of two digits
    lists (born (frame 15 31 32 0 0 1 (pos 10 ∷ zeros 15)) ∷ []) ("0 1 15 31 32 0 0\n" ∷ []) ("0 1 15 31 32 0 0 0 10\n" ∷ []) ∷
    -- eight threads, four levels
    lists eight eight_operator eight_customer ∷
    []

-- every row is right
pub right : (map (λ r. listing Viewer.operator r.pool) rows ≡ map (λ r. text r.operator) rows)
    × (map (λ r. listing Viewer.customer r.pool) rows ≡ map (λ r. text r.customer) rows)
unfolding every
right = (refl, refl)

-- the longest line of 32-bit values, for each viewer
abbrev longest : Thread
longest = thread (frame 15 31 32 4 4 65535 (replicate 16 least)) (replicate 7 (frame 0 0 0 0 0 0 (zeros 16)))

pub longest-lines : (length (line Viewer.operator 7 7 longest) ≡ 24) × (length (line Viewer.customer 7 7 longest) ≡ 254)
unfolding every
longest-lines = (refl, refl)

-- a call: whose, with a table, words and so many bytes 255 lent; its answer, and the bytes afterwards
pub record Call : Type 0 where
  pub who : Viewer
  pub table : List ℕ
  pub words : List ℤ
  pub room : ℕ
  pub wrote : Wrote

abbrev bytes : ℕ → List ℕ
bytes n = replicate n 255

-- where so many bytes are put before others that stay; and where the call is refused
abbrev gives : Viewer → List ℕ → List ℤ → ℕ → List ℕ → ℕ → Call
gives who s ws room t left =
    record { who = who; table = s; words = ws; room = room; wrote = record { answer = Answer.given (length t); after = t ++ bytes left } }

abbrev refuses : Viewer → List ℕ → List ℤ → ℕ → Refusal → Call
refuses who s ws room r =
    record { who = who; table = s; words = ws; room = room; wrote = record { answer = Answer.refused r; after = bytes room } }

-- A after its step
abbrev five : List ℤ
five = words_of (born (frame 0 0 1 0 0 1 (pos 5 ∷ zeros 15)) ∷ [])

abbrev calls : List Call
calls =
    gives Viewer.operator A five 14 (ascii "0 1 0 0 1 0 0\n") 0 ∷
    gives Viewer.operator A five 17 (ascii "0 1 0 0 1 0 0\n") 3 ∷
    refuses Viewer.operator A five 13 (Refusal.plain No.listing) ∷
    refuses Viewer.operator A five 0 (Refusal.plain No.listing) ∷
    gives Viewer.customer A five 18 (ascii "0 1 0 0 1 0 0 0 5\n") 0 ∷
    gives Viewer.customer A five 21 (ascii "0 1 0 0 1 0 0 0 5\n") 3 ∷
    refuses Viewer.customer A five 17 (Refusal.plain No.listing) ∷
    refuses Viewer.customer A five 14 (Refusal.plain No.listing) ∷
    gives Viewer.operator B (words_of eight) listing_bytes (text eight_operator) (listing_bytes - length (text eight_operator)) ∷
    gives Viewer.customer B (words_of eight) listing_bytes (text eight_customer) (listing_bytes - length (text eight_customer)) ∷
    -- 28 comes after 1 to 3, 12 and 13
    refuses Viewer.operator [] [] 0 (Refusal.plain No.size) ∷
    refuses Viewer.operator (set A 4 9) [] 0 (Refusal.plain No.version) ∷
    refuses Viewer.customer (set A 5 0) [] 2 (Refusal.byte 5) ∷
    refuses Viewer.customer A [] 2 (Refusal.plain No.words) ∷
    refuses Viewer.operator A blank 0 (Refusal.plain No.pool) ∷
    refuses Viewer.customer A (words_of eight) 3 (Refusal.plain No.pool) ∷
    []

-- every call is right
pub calls-right : map (λ c. list c.who c.table c.words (bytes c.room)) calls ≡ map (λ c. c.wrote) calls
unfolding every
calls-right = refl
