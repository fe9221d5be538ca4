-- Messages as a sender writes them, with their CRC, and what they are decoded to. Assumes nothing.
use Rattle.std.specs.Prelude.{◌≡◌, refl, true, ℕ, zero, suc, ◌+◌, ◌*◌, ◌-◌, ◌/◌, ◌%◌, ◌^◌, ◌≤◌, ◌<◌, length, drop}
use Rattle.std.proofs.Common.{◌∙◌, ap, arith, mod-lt, eq-eqb, ne_eqb, le-leb}
use mathlib.Core.List.{List, [], ◌∷◌, ◌++◌, foldl}
use Rattle.std.specs.Int.Bits.{bit_xor}
use Rattle.std.proofs.lemmas.Nat.{xor_lt}
use Rattle.laws.specs.Bytes.{little, bytes_of, same_refl}
use Rattle.crc.specs.Crc.{poly, leaving, shift, shifts, byte_step, crc_from, crc, start}
use Rattle.protocol.specs.Numbers.{oem, header_size, crc_size, message_size, read_most, sixteen_bits, open_command, read_command, write_command, commit_command, close_command, session_stat_command, write_meta_command}
use Rattle.protocol.specs.Decode.{decoded, asked, body_fits, body_length, crc_fits, fields_at}
use Rattle.protocol.specs.Frame.{header}
use Rattle.protocol.specs.declared.Request.TheVariants.{Read, Write, Commit, Close, SessionStat}

-- a message with fields: header, CRC, fields
abbrev pub sent : ℕ → List ℕ → List ℕ
sent sub fields = header sub ++ (bytes_of crc_size (crc fields) ++ fields)

-- Open of a name
abbrev pub ask_open : ℕ → List ℕ → List ℕ
ask_open flags name = sent open_command (bytes_of 2 flags ++ (name ++ (0 ∷ [])))

-- Read
abbrev pub ask_read : (session offset count : ℕ) → List ℕ
ask_read session offset count = sent read_command (bytes_of 2 session ++ (bytes_of 4 offset ++ bytes_of 4 count))

-- Write
abbrev pub ask_write : (session offset : ℕ) → List ℕ → List ℕ
ask_write session offset bytes = sent write_command (bytes_of 2 session ++ (bytes_of 4 offset ++ bytes))

-- Commit without bytes
abbrev pub ask_commit : ℕ → List ℕ
ask_commit session = sent commit_command (bytes_of 2 session ++ (0 ∷ []))

-- Close
abbrev pub ask_close : ℕ → List ℕ
ask_close session = sent close_command (bytes_of 2 session)

-- SessionStat
abbrev pub ask_session_stat : ℕ → List ℕ
ask_session_stat session = sent session_stat_command (bytes_of 2 session)

-- a number of four bytes is below it
abbrev pub thirty_two_bits : ℕ
thirty_two_bits = 2 ^ 32

-- the most that a Write carries (rule 3.2)
abbrev pub write_most : ℕ
write_most = 52

-- ---- a CRC has two bytes
leaving-small : (b r : ℕ) → r < sixteen_bits → leaving b r < sixteen_bits
leaving-small zero r h = h
leaving-small (suc b) r h = xor_lt 16 r poly h (omega arith)

shift_small : (r : ℕ) → shift r < sixteen_bits
unfolding shift
shift_small r = leaving-small (r / 0x8000 % 2) (r * 2 % 0x10000) (mod-lt (r * 2) {m = 0x10000} (omega arith))

shifts-small : (n r : ℕ) → shifts (suc n) r < sixteen_bits
unfolding shifts
shifts-small zero r = shift_small r
shifts-small (suc n) r = shifts-small n (shift r)

fold_small : (l : List ℕ) (r : ℕ) → r < sixteen_bits → foldl byte_step r l < sixteen_bits
unfolding byte_step
fold_small [] r h = h
fold_small (b ∷ l) r h = fold_small l (shifts 8 (bit_xor r (b * 256))) (shifts-small 7 (bit_xor r (b * 256)))

crc-small : (l : List ℕ) → crc l < sixteen_bits
unfolding crc_from
crc-small l = fold_small l start (omega arith)

-- a number that was sent in two bytes
pub two_bytes : (x : ℕ) → x < sixteen_bits → x % 256 + 256 * (x / 256 % 256 + 256 * 0) ≡ x
two_bytes x h = omega arith

-- a number that was sent in four bytes
pub four_bytes : (x : ℕ) → x < thirty_two_bits → x % 256 + 256 * (x / 256 % 256 + 256 * (x / 256 / 256 % 256 + 256 * (x / 256 / 256 / 256 % 256 + 256 * 0))) ≡ x
four_bytes x h = omega arith

-- ---- what a message is decoded to: its subcommand with its fields
length-sent : (sub : ℕ) (f : List ℕ) → length (sent sub f) ≡ suc (suc (suc (suc (suc (suc (length f))))))
unfolding bytes_of
length-sent sub f = refl

body-sent : (sub : ℕ) (f : List ℕ) → body_length (sent sub f) ≡ crc_size + length f
body-sent sub f = ap (λ (n : ℕ). n - header_size) (length-sent sub f) ∙ omega arith

crc-fits : (sub : ℕ) (f : List ℕ) → crc_fits (sent sub f) ≡ true
unfolding crc_fits bytes_of little
crc-fits sub f =
    rw (ne_eqb (body_length (sent sub f)) 0 (let e = body-sent sub f in omega arith)) (eq-eqb (crc f % 256 + 256 * (crc f / 256 % 256 + 256 * 0)) (crc f) (two_bytes (crc f) (crc-small f)))

-- every message that fits and has fields of the right length
pub decoded-sent : (sub : ℕ) (f : List ℕ) → sub ≤ write_meta_command → length f ≤ read_most → body_fits sub (crc_size + length f) ≡ true → decoded (sent sub f) ≡ asked sub (sent sub f)
unfolding decoded bytes_of
decoded-sent sub f hs hf hb =
    rw (
      le-leb header_size (length (sent sub f)) (let e = length-sent sub f in omega arith),
      le-leb (length (sent sub f)) message_size (let e = length-sent sub f in omega arith),
      same_refl oem,
      le-leb sub write_meta_command hs,
      body-sent sub f,
      hb,
      crc-fits sub f,
    )

-- a Read says what it asks
pub read-decoded : (session offset count : ℕ) → session < sixteen_bits → offset < thirty_two_bits → count < thirty_two_bits → decoded (ask_read session offset count) ≡ Read session offset count
unfolding body_fits asked little bytes_of
read-decoded session offset count hs ho hc =
    decoded-sent read_command (bytes_of 2 session ++ (bytes_of 4 offset ++ bytes_of 4 count)) (omega arith) (omega arith) refl
    ∙ (λ i. Read (two_bytes session hs i) (four_bytes offset ho i) (four_bytes count hc i))

-- Write's bytes start behind session and offset, and are all that was sent
pub write-decoded : (session offset : ℕ) (bytes : List ℕ) → session < sixteen_bits → offset < thirty_two_bits → length bytes ≤ write_most
    → (decoded (ask_write session offset bytes) ≡ Write session offset (fields_at + 6)) × (drop (fields_at + 6) (ask_write session offset bytes) ≡ bytes)
unfolding body_fits asked little bytes_of
write-decoded session offset bytes hs ho hb = (
  decoded-sent write_command (bytes_of 2 session ++ (bytes_of 4 offset ++ bytes)) (omega arith) (omega arith) (le-leb 8 (crc_size + suc (suc (suc (suc (suc (suc (length bytes))))))) (omega arith))
      ∙ (λ i. Write (two_bytes session hs i) (four_bytes offset ho i) (fields_at + 6)),
  refl,
)

-- so does a Commit
pub commit-decoded : (session : ℕ) → session < sixteen_bits → decoded (ask_commit session) ≡ Commit session 0 0
unfolding body_fits asked little bytes_of
commit-decoded session hs =
    decoded-sent commit_command (bytes_of 2 session ++ (0 ∷ [])) (omega arith) (omega arith) refl ∙ ap (λ (x : ℕ). Commit x 0 0) (two_bytes session hs)

-- a Close
pub close-decoded : (session : ℕ) → session < sixteen_bits → decoded (ask_close session) ≡ Close session
unfolding body_fits asked little bytes_of
close-decoded session hs = decoded-sent close_command (bytes_of 2 session) (omega arith) (omega arith) refl ∙ ap Close (two_bytes session hs)

-- and a SessionStat
pub stat-decoded : (session : ℕ) → session < sixteen_bits → decoded (ask_session_stat session) ≡ SessionStat session
unfolding body_fits asked little bytes_of
stat-decoded session hs = decoded-sent session_stat_command (bytes_of 2 session) (omega arith) (omega arith) refl ∙ ap SessionStat (two_bytes session hs)
