-- What the code of a command asks of what it is lent.
use Rattle.std.specs.Prelude.{◌≡◌, List, ℕ, ◌≤◌, ◌<◌, get_or}
use Rattle.laws.specs.Ranges.{block}
use Rattle.protocol.specs.Numbers.{row_count, slot_count, row_words, slot_size}
use Rattle.state.specs.declared.Control.{Control}
use Rattle.state.specs.declared.row.Entry.{Entry}
use Rattle.state.specs.declared.row.Place.TheVariants.{AtSlot}
use Rattle.state.specs.State.{place_of}
use Rattle.state.specs.Agree.{slot_of}
use Rattle.state.specs.Entry.{words_of}
use Rattle.state.specs.Lent.{TableLent}

-- the lengths of slot k are within its regions (rule 6.11)
abbrev pub LengthsFit : Control → ℕ → Type 0
LengthsFit v k = (get_or v.committed_len k 0 ≤ slot_size) × (get_or v.staged_len k 0 ≤ slot_size)

-- row r of the table has been read as e
pub record RowIs (table : List ℕ) (r : ℕ) (e : Entry) : Type 0 where
  pub table-size : TableLent table
  pub row_low : r < row_count
  pub words_of_row : (block row_words r).get table ≡ words_of e

-- its session is on slot k
pub record OnSlot (e : Entry) (k : ℕ) : Type 0 where
  pub slot-low : k < slot_count
  pub slot-place : place_of e.blob ≡ AtSlot k

pub on-slot : {e : Entry} {k : ℕ} → place_of e.blob ≡ AtSlot k → OnSlot e k
on-slot {e = e} {k = k} p = record { slot-low = slot_of e.blob k p; slot-place = p }
