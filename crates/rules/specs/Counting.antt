-- Count and the lowest free row and slot, as code finds them: from the masks. Assumes nothing.
use Rattle.std.specs.Prelude.{◌≡◌, cond, ℕ, ◌<◌, ltb, length}
use Rattle.std.proofs.Common.{arith}
use Rattle.std.proofs.Math.Option.{Option, none, some}
use Rattle.laws.specs.Masks.{lowest, lowest-clear}
use Rattle.protocol.specs.Numbers.{row_count, slot_count, sixteen_bits}
use Rattle.state.specs.declared.Phase.{Phase}
use Rattle.state.specs.State.{State}
use Rattle.rules.specs.Listing.{flash_names}
use Rattle.rules.specs.Lookup.{free_row_in, free_slot_in}

-- how many flash names are listed
abbrev pub flash_count : Phase → ℕ
flash_count p = length (flash_names p)

-- the bits of the word that code keeps a mask in
abbrev pub mask_bits : ℕ
mask_bits = 32

-- one of n places, or none where the number found is past them
abbrev pub one_of : ℕ → ℕ → Option ℕ
one_of n z = cond (ltb z n) (some z) none

-- THE LOWEST FREE ROW AND SLOT, BY TRAILING ZEROS OF THE COMPLEMENTED MASKS
pub free-row-is : (s : State) → s.sessions.rows < sixteen_bits → free_row_in s ≡ one_of row_count (lowest mask_bits s.sessions.rows)
unfolding free_row_in
free-row-is s h = lowest-clear mask_bits row_count s.sessions.rows (omega arith) (omega arith)

-- and so the slot
pub free-slot-is : (s : State) → s.store.slots < sixteen_bits → free_slot_in s ≡ one_of slot_count (lowest mask_bits s.store.slots)
unfolding free_slot_in
free-slot-is s h = lowest-clear mask_bits slot_count s.store.slots (omega arith) (omega arith)
