-- Requests as records, one behind the other (rule 20.2). b stands for the bytes from a record's first on.
use Rattle.std.specs.Prelude.{Bool, cond, List, [], ◌∷◌, ℕ, zero, suc, ◌+◌, leb, length, get_or, drop}
use Rattle.laws.specs.Ranges.{part}
use Rattle.laws.specs.Bytes.{little}
use Rattle.records.specs.declared.Record.{Record}
use Rattle.records.specs.declared.Record.TheVariants.{Whole, Cut, End}

abbrev pub clock_size : ℕ
clock_size = 4

-- clock and length byte
abbrev pub prefix_size : ℕ
prefix_size = 5

-- a record's clock (rule 20.2)
abbrev pub clock_of : List ℕ → ℕ
clock_of b = little clock_size 0 b

-- its length byte, 0 if it is not there (rule 20.2)
abbrev pub length_of : List ℕ → ℕ
length_of b = get_or b clock_size 0

-- the whole record's bytes
abbrev pub size_of : List ℕ → ℕ
size_of b = prefix_size + length_of b

-- its message (rule 20.2)
abbrev pub message_of : List ℕ → List ℕ
message_of b = part prefix_size (length_of b) b

-- all of it is there; else it is cut (rule 20.3)
abbrev pub is_whole : List ℕ → Bool
is_whole b = leb (size_of b) (length b)

-- the record from the place `at` of a buffer on: its clock, where its message starts, how long the message is, where the next record starts
unfoldable pub record_at : List ℕ → (at : ℕ) → Record
record_at s at =
    cond (leb (length s) at) End
    (cond (is_whole (drop at s)) (Whole (clock_of (drop at s)) (at + prefix_size) (length_of (drop at s)) (at + size_of (drop at s))) Cut)

-- ---- all requests
-- a request: its clock and its message
abbrev pub Timed : Type 0
Timed = ℕ × List ℕ

-- the requests of at most n whole records, read one after another from the bytes b
unfoldable pub requests_in : ℕ → List ℕ → List Timed
requests_in zero b = []
requests_in (suc n) b = cond (is_whole b) ((clock_of b, message_of b) ∷ requests_in n (drop (size_of b) b)) []

-- of all of them, as no record is empty
abbrev pub requests : List ℕ → List Timed
requests b = requests_in (length b) b

-- the bytes of these requests' records
unfoldable pub bytes_in : List Timed → ℕ
bytes_in [] = 0
bytes_in (q ∷ qs) = prefix_size + length q.1 + bytes_in qs
