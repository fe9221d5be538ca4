-- A response, and what the answer buffer holds after it (rule 1.6, section 19).
use Rattle.std.specs.Prelude.{List, [], ◌∷◌, ◌++◌, ℕ, length, drop}
use Rattle.laws.specs.Bytes.{bytes_of}
use Rattle.crc.specs.Crc.{crc}
use Rattle.protocol.specs.Numbers.{oem, crc_size, success}

-- what a command replies: a refusal with its code, a success without fields, or a success with these
pub data Reply : Type 0 where
  refused : ℕ → Reply
  done : Reply
  reply : List ℕ → Reply

-- a completion code and the response's bytes
abbrev pub Answer : Type 0
Answer = ℕ × List ℕ

-- OEM number and subcommand (rules 1.3 and 1.6)
abbrev pub header : ℕ → List ℕ
header sub = oem ++ (sub ∷ [])

-- a refusal has no response (rule 19.3); a success without fields is the header alone (rule 1.6), and fields have their CRC in front, even where there are none (rule 1.7)
unfoldable pub framed : ℕ → Reply → Answer
framed sub (refused code) = (code, [])
framed sub done = (success, header sub)
framed sub (reply f) = (success, header sub ++ (bytes_of crc_size (crc f) ++ f))

-- the answer buffer with the response at its front (rule 19.2); an empty response leaves all of it
abbrev pub laid : (response answer : List ℕ) → List ℕ
laid r a = r ++ drop (length r) a

-- what the answer buffer holds after a reply
abbrev pub answer_after : ℕ → Reply → List ℕ → List ℕ
answer_after sub r a = laid (framed sub r).1 a

-- the fields of Stat and SessionStat: state, size, no metadata (rule 15.3)
unfoldable pub stat_fields : (state size : ℕ) → List ℕ
stat_fields state size = bytes_of 2 state ++ (bytes_of 4 size ++ (0 ∷ []))
