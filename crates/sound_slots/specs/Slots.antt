-- A slot of which a function sees only a part.
use Rattle.std.specs.Prelude.{Bool, List, ℕ}
use Rattle.laws.specs.Bytes.{same}
use Rattle.state.specs.State.{State, Slot}
use Rattle.state.specs.Soundness.{slot_at}

-- the slot with this name field, these regions, this mark and these lengths, used or not as b is
abbrev pub filled : (name committed staged : List ℕ) (mark committed_len staged_len : ℕ) → Slot → Slot
filled name committed staged mark committed_len staged_len b =
    record { name = name; committed_bytes = committed; staged_bytes = staged; held = b.held; mark = mark; committed_len = committed_len; staged_len = staged_len }

-- slots k and l have one name
unfoldable pub names_same : State → (k l : ℕ) → Bool
names_same s k l = same (slot_at k s).name (slot_at l s).name
