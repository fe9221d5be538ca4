-- What the code leaves, as the definitions say it; what it is lent.
use Rattle.std.specs.Prelude.{Result, Ok, Err, ◌≡◌, List, ℕ, ◌≤◌, ◌<◌, length, get_or, take}
use Rattle.laws.specs.Bytes.{text}
use Rattle.laws.specs.Ranges.{block}
use Rattle.protocol.specs.declared.Code.{Code}
use Rattle.protocol.specs.Numbers.{success, sixteen_bits, slot_count, name_size, slot_size}
use Rattle.state.specs.Lent.{NamesLent, RegionsLent}
use Rattle.store_file.specs.Messages.{Scan}
use Rattle.store_file.specs.Saved.{buffer_size, Call}

-- what a call leaves: the part's length, or the code of the refusal and no byte, with the buffer
abbrev pub call_of : Result ℕ Code → List ℕ → Call
call_of (Ok len) b = record { code = success; len = len; buffer = b }
call_of (Err c) b = record { code = c.0; len = 0; buffer = b }

-- the scan of slot k, in the lent names and committed bytes
abbrev pub scan_in : List ℕ → List ℕ → ℕ → ℕ → Scan
scan_in names committed k len = record { name = text ((block name_size k).get names); bytes = take len ((block slot_size k).get committed) }

-- what a sound state gives of the masks, the names, the committed regions and their lengths; and the buffer's length
pub record Lent (marks : ℕ) (names committed lens buffer : List ℕ) : Type 0 where
  pub marks-small : marks < sixteen_bits
  pub names-size : NamesLent names
  pub committed-size : RegionsLent committed
  pub lens-fit : (k : ℕ) → k < slot_count → get_or lens k 0 ≤ slot_size
  pub buffer-size : length buffer ≡ buffer_size
