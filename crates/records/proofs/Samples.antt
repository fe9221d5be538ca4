-- Records that the worked examples use.
use Rattle.std.specs.Prelude.{List, [], ◌∷◌, ℕ}

-- a message of no bytes, at the clock 0
abbrev pub empty_record : List ℕ
empty_record = 0 ∷ 0 ∷ 0 ∷ 0 ∷ 0 ∷ []

-- `/flash/image` is opened at the clock 1
abbrev pub open_message : List ℕ
open_message = 0xCF ∷ 0xC2 ∷ 0x00 ∷ 0x02 ∷ 0x19 ∷ 0xFC ∷ 0x02 ∷ 0x00 ∷ 0x2F ∷ 0x66 ∷ 0x6C ∷ 0x61 ∷ 0x73 ∷ 0x68 ∷ 0x2F ∷ 0x69 ∷ 0x6D ∷ 0x61 ∷ 0x67 ∷ 0x65 ∷ 0x00 ∷ []

abbrev pub open_record : List ℕ
open_record = 1 ∷ 0 ∷ 0 ∷ 0 ∷ 21 ∷ open_message

-- and its session 0 closed at the clock 2
abbrev pub close_message : List ℕ
close_message = 0xCF ∷ 0xC2 ∷ 0x00 ∷ 0x06 ∷ 0xC0 ∷ 0x84 ∷ 0x00 ∷ 0x00 ∷ []

abbrev pub close_record : List ℕ
close_record = 2 ∷ 0 ∷ 0 ∷ 0 ∷ 8 ∷ close_message
