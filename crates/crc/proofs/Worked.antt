-- The worked values, computed by the rule (rule 2.5).
-- Assumes nothing.
use Rattle.std.specs.Prelude.{◌≡◌, refl, List, [], ◌∷◌, ℕ}
use Rattle.crc.specs.Crc.{shift, shifts, byte_step, crc_from, crc}
use Rattle.crc.specs.Rental.{bit_in, byte_in, rental_crc}

-- the digits 1 to 9, as characters (rule 2.5)
abbrev pub nine_digits : List ℕ
nine_digits = 0x31 ∷ 0x32 ∷ 0x33 ∷ 0x34 ∷ 0x35 ∷ 0x36 ∷ 0x37 ∷ 0x38 ∷ 0x39 ∷ []

-- their CRC (rule 2.5)
pub digits : crc nine_digits ≡ 0xe5cc
unfolding crc_from byte_step shifts shift
digits = refl

-- the CRC of no bytes (rule 2.5)
pub nothing : crc [] ≡ 0x1d0f
unfolding crc_from
nothing = refl

-- and both by the rental firm's rule (rule 2.6)
pub rental-digits : rental_crc nine_digits ≡ 0xe5cc
unfolding rental_crc byte_in bit_in
rental-digits = refl

pub rental-nothing : rental_crc [] ≡ 0x1d0f
unfolding rental_crc bit_in
rental-nothing = refl
