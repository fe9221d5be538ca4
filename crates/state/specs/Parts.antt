-- The parts of a state are apart from each other, and what is put into a part is found there. Assumes nothing.
use Rattle.std.specs.Prelude.{◌≡◌, ◌≢◌, ℕ, ◌*◌, ◌<◌, length}
use Rattle.laws.specs.Ranges.{block-fits, length_part}
use Rattle.laws.specs.Bits.{bit-lt}
use Rattle.protocol.specs.Numbers.{row_count, slot_count, row_words, name_size, slot_size, image_size, hash_size, sixteen_bits}
use Rattle.state.specs.declared.row.Place.{Place}
use Rattle.state.specs.declared.row.Place.TheVariants.{AtSlot, AtFlash}
use Rattle.state.specs.State.{State, Row, Slot, Body, in_row, in_body}

abbrev pub Separate : Place → Place → Type 0
Separate (AtSlot k) (AtSlot l) = k ≢ l
Separate (AtSlot k) AtFlash = Unit {0}
Separate AtFlash (AtSlot l) = Unit {0}
Separate AtFlash AtFlash = ⊥

abbrev pub InRange : Place → Type 0
InRange (AtSlot k) = k < slot_count
InRange AtFlash = Unit {0}

-- ---- what a session puts is what it finds, where the lengths are right

pub record Shape (s : State) : Type 0 where
  pub table-size : length s.sessions.table ≡ row_count * row_words
  pub names-size : length s.store.names ≡ slot_count * name_size
  pub committed-size : length s.store.committed ≡ slot_count * slot_size
  pub staged-size : length s.store.staged ≡ slot_count * slot_size
  pub committed_lens-size : length s.store.committed_lens ≡ slot_count
  pub staged_lens-size : length s.store.staged_lens ≡ slot_count
  pub image-size : length s.flash_group.image ≡ image_size
  pub hash-size : length s.flash_group.hash ≡ hash_size
  pub rows-small : s.sessions.rows < sixteen_bits
  pub slots_small : s.store.slots < sixteen_bits
  pub marks-small : s.store.marks < sixteen_bits
  pub next_small : s.next < sixteen_bits

pub record FitsRow (c : Row) : Type 0 where
  pub four : length c.words ≡ 4
  pub flag : c.used < 2

pub record FitsSlot (c : Slot) : Type 0 where
  pub name-long : length c.name ≡ name_size
  pub committed-long : length c.committed_bytes ≡ slot_size
  pub staged-long : length c.staged_bytes ≡ slot_size
  pub held-flag : c.held < 2
  pub mark-flag : c.mark < 2

abbrev pub FitsBody : (p : Place) → Body p → Type 0
FitsBody (AtSlot k) b = (k < 16) × FitsSlot b
FitsBody AtFlash b = (length b.image ≡ image_size) × (length b.hash ≡ hash_size)

pub row-view-fits : (r : ℕ) (s : State) → r < 16 → Shape s → FitsRow ((in_row r).get s)
row-view-fits r s h sh = record { four = length_part (r * 4) 4 s.sessions.table (rw sh.table-size (block-fits 4 r 16 h)); flag = bit-lt r s.sessions.rows }

pub body-view-fits : (p : Place) (s : State) → InRange p → Shape s → FitsBody p ((in_body p).get s)
body-view-fits (AtSlot k) s h sh = (
  h,
  record {
    name-long = length_part (k * name_size) name_size s.store.names (rw sh.names-size (block-fits name_size k 16 h));
    committed-long = length_part (k * slot_size) slot_size s.store.committed (rw sh.committed-size (block-fits slot_size k 16 h));
    staged-long = length_part (k * slot_size) slot_size s.store.staged (rw sh.staged-size (block-fits slot_size k 16 h));
    held-flag = bit-lt k s.store.slots;
    mark-flag = bit-lt k s.store.marks;
  },
)
body-view-fits AtFlash s h sh = (sh.image-size, sh.hash-size)
