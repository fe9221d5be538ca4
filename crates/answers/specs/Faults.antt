-- The first fault of a message's frame (rule 7.13).
use Rattle.std.specs.Prelude.{Bool, cond, ◌&&◌, ◌||◌, List, [], ◌∷◌, ℕ, eqb, leb, length, get_or, take}
use Rattle.std.proofs.Math.Option.{Option, none, some}
use Rattle.laws.specs.Bytes.{little, same}
use Rattle.crc.specs.Crc.{crc}
use Rattle.protocol.specs.Numbers.{wrong_length, invalid, unknown_command, oem, header_size, crc_size, message_size, count_command, enumerate_command, read_command, close_command, session_stat_command, write_meta_command}
use Rattle.protocol.specs.Decode.{subcommand, body_length, fields}

-- ---- the table
-- the length of each subcommand's body, CRC included: from Count to WriteMeta (rule 3.1)
abbrev pub body_sizes : List ℕ
body_sizes = 0 ∷ 6 ∷ 5 ∷ 12 ∷ 8 ∷ 5 ∷ 4 ∷ 3 ∷ 3 ∷ 4 ∷ 8 ∷ []

-- these have exactly that length, the others at least (rule 3.1)
abbrev pub fixed_size : (sub : ℕ) → Bool
fixed_size sub = eqb sub count_command || (eqb sub enumerate_command || (eqb sub read_command || (eqb sub close_command || eqb sub session_stat_command)))

abbrev pub body_right : (sub n : ℕ) → Bool
body_right sub n = cond (fixed_size sub) (eqb n (get_or body_sizes sub 0)) (leb (get_or body_sizes sub 0) n)

-- the first fault: message length, OEM number, subcommand, body length, CRC (rule 7.13)
abbrev pub frame_fault : List ℕ → Option ℕ
frame_fault m =
    cond (leb header_size (length m) && leb (length m) message_size)
    (cond (same (take (length oem) m) oem)
    (cond (leb (subcommand m) write_meta_command)
    (cond (body_right (subcommand m) (body_length m))
    (cond (eqb (body_length m) 0 || eqb (little crc_size header_size m) (crc (fields m))) none
    (some invalid))
    (some wrong_length))
    (some unknown_command))
    (some invalid))
    (some wrong_length)
