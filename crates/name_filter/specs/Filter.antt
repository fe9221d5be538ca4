-- A filter of hashes: a list of words whose bits are numbered through. Each hash has eight places among them. Assumes nothing.
use Rattle.std.specs.Prelude.{◌≡◌, Bool, true, List, ℕ, ◌+◌, ◌*◌, ◌/◌, ◌%◌, eqb, length, get_or, set}
use Rattle.laws.specs.All.{all}
use Rattle.laws.specs.Bits.{bit, put_bit}
use Rattle.name_filter.specs.Hash.{hash_limit}

-- words of a filter; shut, so that no list of this length is ever written out
unfoldable pub filter_words : ℕ
filter_words = 8192

-- bits of a word
abbrev pub word_bits : ℕ
word_bits = 32

-- bits of a filter
abbrev pub filter_places : ℕ
filter_places = filter_words * word_bits

-- places of each hash
abbrev pub probes : ℕ
probes = 8

-- the bit at a place is set
unfoldable pub bit_at : List ℕ → (place : ℕ) → Bool
bit_at filter p = eqb (bit (p % word_bits) (get_or filter (p / word_bits) 0)) 1

-- the filter with the bit at a place set
unfoldable pub with_bit : List ℕ → (place : ℕ) → List ℕ
with_bit filter p = set filter (p / word_bits) (put_bit (p % word_bits) 1 (get_or filter (p / word_bits) 0))

-- what a hash is multiplied by, so that hashes that differ little have places far apart
abbrev pub spread_factor : ℕ
spread_factor = 2654435769

-- a hash spread over 64 bits
abbrev pub spread : (hash : ℕ) → ℕ
spread h = h * spread_factor

-- the distance of the places comes from the bits of the lower half of that product that are above this
abbrev pub stride_unit : ℕ
stride_unit = 32768

-- how far apart the places of a hash are: an odd number, so that the eight differ
abbrev pub stride_of : (hash : ℕ) → ℕ
stride_of h = spread h % hash_limit / stride_unit * 2 + 1

-- place number i of a hash
unfoldable pub place_of : (hash i : ℕ) → ℕ
place_of h i = (spread h / hash_limit + i * stride_of h) % filter_places

-- all places of a hash are set
abbrev pub seen_in : List ℕ → (hash : ℕ) → Bool
seen_in filter h = all (λ (i : ℕ). bit_at filter (place_of h i)) probes

-- marking a hash: it is seen from then on, and so is every hash that was seen
pub record Marked (old new : List ℕ) (hash : ℕ) : Type 0 where
  pub long : length new ≡ length old
  pub marked : seen_in new hash ≡ true
  pub kept : (other : ℕ) → seen_in old other ≡ true → seen_in new other ≡ true
