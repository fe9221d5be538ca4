-- The row that a lookup gives, in words of the table, whatever it holds.
use Rattle.std.specs.Prelude.{◌≡◌, List, ℕ, ◌*◌, ◌<◌, get_or}
use Rattle.laws.specs.Bits.{bit}
use Rattle.protocol.specs.Numbers.{row_count, row_words}

-- ---- in words of the table, whatever it holds
-- row r is used and has the identifier: the whole first word of the row counts
abbrev pub Has : (id m : ℕ) (t : List ℕ) (r : ℕ) → Type 0
Has id m t r = (bit r m ≡ 1) × (get_or t (r * row_words) 0 ≡ id)

-- r is the lowest such row
abbrev pub First : (id m : ℕ) (t : List ℕ) (r : ℕ) → Type 0
First id m t r = (r < row_count) × (Has id m t r × ((j : ℕ) → j < r → Has id m t j → ⊥))
