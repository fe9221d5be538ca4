-- The numbers that stand in a body, lowest byte first; a byte past the end is 0. What a reader is once it has moved on, and the
-- numbers that it reads from the front of a body, the CRC first. Assumes nothing.
use Rattle.std.specs.Prelude.{ℕ, ◌+◌, List, get_or}
use Rattle.laws.specs.Bytes.{little}
use Rattle.request_reader.specs.declared.Reader.{Reader}
use Rattle.request_reader.specs.declared.Fields.{Fields}

abbrev pub byte : List ℕ → (at : ℕ) → ℕ
byte s at = get_or s at 0

abbrev pub le16 : List ℕ → (at : ℕ) → ℕ
le16 s at = little 2 at s

abbrev pub le32 : List ℕ → (at : ℕ) → ℕ
le32 s at = little 4 at s

-- the same body, n places on
abbrev pub onward : Reader → ℕ → Reader
onward r n = record { body = r.body; at = r.at + n }

-- the CRC and three numbers of a, b and c bytes, one behind the other
abbrev pub fields_of : List ℕ → ℕ → ℕ → ℕ → Fields
fields_of s a b c = record { crc = little 2 0 s; first = little a 2 s; second = little b (2 + a) s; third = little c (2 + a + b) s; rest = 2 + a + b + c }
