-- The rental firm's rule for the CRC, by its own words (rule 2.6).
use Rattle.std.specs.Prelude.{ℕ, ◌+◌, ◌*◌, ◌/◌, ◌%◌, ◌<◌, replicate}
use mathlib.Core.List.{List, [], ◌∷◌, foldl}
use Rattle.crc.specs.Crc.{leaving}

-- ---- the rule
-- a bit comes in at the low end of the register of 16 bits, and its top bit leaves (rule 2.6)
unfoldable pub bit_in : (r bit : ℕ) → ℕ
bit_in r bit = leaving (r / 0x8000 % 2) (r * 2 % 0x10000 + bit)

-- the bits of a byte, high bit first (rule 2.6)
abbrev pub bits_of : (byte : ℕ) → List ℕ
bits_of b = b / 128 % 2 ∷ b / 64 % 2 ∷ b / 32 % 2 ∷ b / 16 % 2 ∷ b / 8 % 2 ∷ b / 4 % 2 ∷ b / 2 % 2 ∷ b % 2 ∷ []

-- a byte comes in (rule 2.6)
unfoldable pub byte_in : (r byte : ℕ) → ℕ
byte_in r b = foldl bit_in r (bits_of b)

-- its register at the start: all bits set (rule 2.6)
abbrev pub rental_start : ℕ
rental_start = 0xffff

-- THE RENTAL FIRM'S CRC of a list of bytes: they come in, then sixteen zero bits (rule 2.6)
unfoldable pub rental_crc : List ℕ → ℕ
rental_crc s = foldl bit_in (foldl byte_in rental_start s) (replicate 16 0)

-- each number of a list is below a bound; a list of bytes is one below 256
abbrev pub EachBelow : (bound : ℕ) → List ℕ → Type 0
EachBelow bound [] = Unit {0}
EachBelow bound (x ∷ xs) = (x < bound) × EachBelow bound xs
