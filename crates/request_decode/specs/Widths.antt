-- The numbers in front of each subcommand's body, as a reader takes them one behind the other. Assumes nothing.
use Rattle.std.specs.Prelude.{ℕ, cond, List, eqb, drop}
use Rattle.protocol.specs.Numbers.{header_size, enumerate_command, read_command, write_command, commit_command, delete_command, stat_command}
use Rattle.request_reader.specs.Wire.{fields_of}
use Rattle.request_reader.specs.declared.Fields.{Fields}
use Rattle.request_decode.specs.declared.Widths.{Widths}

abbrev pub widths : ℕ → ℕ → ℕ → Widths
widths a b c = record { first = a; second = b; third = c }

-- how many bytes each number has (rule 3.3); Open, Close, SessionStat and WriteMeta have flags or a session alone
unfoldable pub widths_of : (sub : ℕ) → Widths
widths_of sub =
    cond (eqb sub enumerate_command) (widths 4 0 0)
    (cond (eqb sub read_command) (widths 2 4 4)
    (cond (eqb sub write_command) (widths 2 4 0)
    (cond (eqb sub commit_command) (widths 2 1 0)
    (cond (eqb sub delete_command) (widths 0 0 0)
    (cond (eqb sub stat_command) (widths 0 0 0) (widths 2 0 0))))))

-- the CRC and the numbers in a message's body
abbrev pub fields_in : (sub : ℕ) → List ℕ → Fields
fields_in sub m = fields_of (drop header_size m) (widths_of sub).first (widths_of sub).second (widths_of sub).third
