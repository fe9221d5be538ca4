-- One name's hash and the first and the last of its places, computed by another program. Assumes nothing.
use Rattle.std.specs.Prelude.{◌≡◌, refl, List, [], ◌∷◌, ℕ}
use Rattle.name_filter.specs.Hash.{hash_step, hash_from, name_hash}
use Rattle.name_filter.specs.Filter.{filter_words, place_of}

-- `/scan/moreau2`
abbrev moreau2 : List ℕ
moreau2 = 0x2F ∷ 0x73 ∷ 0x63 ∷ 0x61 ∷ 0x6E ∷ 0x2F ∷ 0x6D ∷ 0x6F ∷ 0x72 ∷ 0x65 ∷ 0x61 ∷ 0x75 ∷ 0x32 ∷ []

pub moreau2-hash : name_hash moreau2 ≡ 1521739765
unfolding hash_from hash_step
moreau2-hash = refl

pub moreau2-first : place_of 1521739765 0 ≡ 176368
unfolding place_of filter_words
moreau2-first = refl

pub moreau2-last : place_of 1521739765 7 ≡ 14551
unfolding place_of filter_words
moreau2-last = refl
