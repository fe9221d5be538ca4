-- The codes of a Load and of a Save.
use Rattle.std.specs.Prelude.{List, [], ◌∷◌, ℕ}
use Rattle.protocol.specs.Numbers.{success, not_sound, out_of_range, session_open, other_type, zero_field, wrong_type, bad_number, past_end, wrong_base, bad_name, repeated_name, long_data, many_blobs}

-- the codes of loading a file
abbrev pub file_codes : List ℕ
file_codes = success ∷ not_sound ∷ session_open ∷ other_type ∷ zero_field ∷ wrong_type ∷ bad_number ∷ past_end ∷ wrong_base ∷ bad_name ∷ repeated_name ∷ long_data ∷ many_blobs ∷ []

-- the codes of saving a part
abbrev pub save_codes : List ℕ
save_codes = success ∷ not_sound ∷ out_of_range ∷ []
