-- The steps of Open: a slot takes a name; the last step answers.
use Rattle.std.specs.Prelude.{◌≡◌, List, ℕ, ◌<◌}
use Rattle.laws.specs.Bits.{bit}
use Rattle.laws.specs.Bytes.{bytes_of, padded}
use Rattle.protocol.specs.Numbers.{slot_count, name_size}
use Rattle.protocol.specs.Frame.{Reply, reply}
use Rattle.state.specs.State.{State, Slot, Slots, slot_of, in_row}
use Rattle.state.specs.Words.{free_slot}
use Rattle.rules.specs.Lookup.{fresh_id, after}
use Rattle.rules.specs.Opening.{with_next, new_row}

-- what soundness gives of the store: a slot that is not used is free
abbrev pub FreeZero : Slots → Type 0
FreeZero x = (k : ℕ) → k < slot_count → bit k x.slots ≡ 0 → (slot_of k).get x ≡ free_slot

-- a slot takes the name n; all else of it stays
abbrev pub named : List ℕ → Slot → Slot
named n b = record { name = padded name_size n; committed_bytes = b.committed_bytes; staged_bytes = b.staged_bytes; held = 1; mark = b.mark; committed_len = b.committed_len; staged_len = b.staged_len }

-- row r becomes that of a new session; the identifier is answered, and "next" is its successor
unfoldable pub row_opened : (r blob flags clean t : ℕ) → State → Reply × State
row_opened r b flags clean t s = (reply (bytes_of 2 (fresh_id s)), with_next (after (fresh_id s)) ((in_row r).put (new_row (fresh_id s) b flags clean t) s))
