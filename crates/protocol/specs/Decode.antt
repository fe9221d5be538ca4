-- What a message asks: the checks that need no state, in their order, and the fields of each subcommand (sections 1 and 3, rule 7.13).
use Rattle.std.specs.Prelude.{Bool, false, cond, ◌&&◌, ◌||◌, List, [], ◌∷◌, ℕ, ◌+◌, ◌-◌, eqb, leb, length, get_or, take, drop}
use Rattle.laws.specs.Bytes.{little, same, text}
use Rattle.crc.specs.Crc.{crc}
use Rattle.protocol.specs.Numbers.{oem, header_size, crc_size, message_size, wrong_length, invalid, unknown_command, count_command, enumerate_command}
use Rattle.protocol.specs.Numbers.{open_command, read_command, write_command, commit_command, close_command, delete_command, stat_command, session_stat_command, write_meta_command}
use Rattle.protocol.specs.Names.{name_form, blob_named}
use Rattle.protocol.specs.declared.Blob.{Blob}
use Rattle.protocol.specs.declared.Request.{Request}
use Rattle.protocol.specs.declared.Request.TheVariants.{Count, Enumerate, Open, Read, Write, Commit, Close, Delete, Stat, SessionStat, WriteMeta, Refused}

-- ---- the cases of a request
-- the number of each case: its subcommand (rule 1.4), or the completion code of a refusal
abbrev pub number_of : Request → ℕ
number_of Count = count_command
number_of (Enumerate index) = enumerate_command
number_of (Open flags blob) = open_command
number_of (Read session offset count) = read_command
number_of (Write session offset start) = write_command
number_of (Commit session len rest) = commit_command
number_of (Close session) = close_command
number_of (Delete blob) = delete_command
number_of (Stat blob) = stat_command
number_of (SessionStat session) = session_stat_command
number_of (WriteMeta session) = write_meta_command
number_of (Refused code) = code.0

-- the numbers that each case has from the message's fields, in their order (rule 3.3)
abbrev pub values_of : Request → List ℕ
values_of Count = []
values_of (Enumerate index) = index ∷ []
values_of (Open flags blob) = flags ∷ []
values_of (Read session offset count) = session ∷ offset ∷ count ∷ []
values_of (Write session offset start) = session ∷ offset ∷ []
values_of (Commit session len rest) = session ∷ len ∷ []
values_of (Close session) = session ∷ []
values_of (Delete blob) = []
values_of (Stat blob) = []
values_of (SessionStat session) = session ∷ []
values_of (WriteMeta session) = session ∷ []
values_of (Refused code) = []

-- refused with a completion code
abbrev pub refused_with : ℕ → Request
refused_with code = Refused (record { 0 = code })

-- ---- the parts of a message
-- the subcommand, behind the OEM number (rule 1.4)
abbrev pub subcommand : List ℕ → ℕ
subcommand m = get_or m 3 0

-- how long the body is, its CRC counted (rule 1.5)
abbrev pub body_length : List ℕ → ℕ
body_length m = length m - header_size

-- where the fields start, behind header and CRC (rule 1.5)
abbrev pub fields_at : ℕ
fields_at = header_size + crc_size

abbrev pub fields : List ℕ → List ℕ
fields m = drop fields_at m

-- ---- the checks
-- how long the body of each subcommand is (rule 3.1)
unfoldable pub body_fits : (sub n : ℕ) → Bool
body_fits sub n =
    cond (eqb sub count_command) (eqb n 0)
    (cond (eqb sub enumerate_command) (eqb n 6)
    (cond (eqb sub open_command) (leb 5 n)
    (cond (eqb sub read_command) (eqb n 12)
    (cond (eqb sub write_command) (leb 8 n)
    (cond (eqb sub commit_command) (leb 5 n)
    (cond (eqb sub close_command) (eqb n 4)
    (cond (eqb sub delete_command) (leb 3 n)
    (cond (eqb sub stat_command) (leb 3 n)
    (cond (eqb sub session_stat_command) (eqb n 4)
    (cond (eqb sub write_meta_command) (leb 8 n) false))))))))))

-- a body that is not empty begins with the CRC of its fields (rule 1.5)
unfoldable pub crc_fits : List ℕ → Bool
crc_fits m = eqb (body_length m) 0 || eqb (little crc_size header_size m) (crc (fields m))

-- the request with the name that starts at `at` and takes the rest of the body, or CC for a wrong form (rule 4.1)
unfoldable pub with_name : (at : ℕ) → List ℕ → (Blob → Request) → Request
with_name at m f = cond (name_form (drop at m)) (f (blob_named at (text (drop at m)))) (refused_with invalid)

-- the session, first of the fields (rule 3.4)
abbrev pub session_in : List ℕ → ℕ
session_in m = little 2 fields_at m

-- the fields of each subcommand, little-endian and without gaps (rules 1.1 and 3.3)
unfoldable pub asked : (sub : ℕ) → List ℕ → Request
asked sub m =
    cond (eqb sub count_command) Count
    (cond (eqb sub enumerate_command) (Enumerate (little 4 fields_at m))
    (cond (eqb sub open_command) (with_name (fields_at + 2) m (λ (b : Blob). Open (little 2 fields_at m) b))
    (cond (eqb sub read_command) (Read (session_in m) (little 4 (fields_at + 2) m) (little 4 (fields_at + 6) m))
    (cond (eqb sub write_command) (Write (session_in m) (little 4 (fields_at + 2) m) (fields_at + 6))
    (cond (eqb sub commit_command) (Commit (session_in m) (get_or m (fields_at + 2) 0) (length m - (fields_at + 3)))
    (cond (eqb sub close_command) (Close (session_in m))
    (cond (eqb sub delete_command) (with_name fields_at m (λ (b : Blob). Delete b))
    (cond (eqb sub stat_command) (with_name fields_at m (λ (b : Blob). Stat b))
    (cond (eqb sub session_stat_command) (SessionStat (session_in m))
    (cond (eqb sub write_meta_command) (WriteMeta (session_in m)) (refused_with unknown_command)))))))))))

-- THE ORDER OF THE CHECKS that need no state: message length, OEM number, subcommand, body length, CRC (rule 7.13); then what the fields ask
unfoldable pub decoded : List ℕ → Request
decoded m =
    cond (leb header_size (length m) && leb (length m) message_size)
    (cond (same (take (length oem) m) oem)
    (cond (leb (subcommand m) write_meta_command)
    (cond (body_fits (subcommand m) (body_length m))
    (cond (crc_fits m) (asked (subcommand m) m)
    (refused_with invalid))
    (refused_with wrong_length))
    (refused_with unknown_command))
    (refused_with invalid))
    (refused_with wrong_length)
