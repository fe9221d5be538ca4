-- Open, after its sweep: the checks in their order, and what is done where all have passed (section 9). t is the clock; a refusal leaves the state as it is.
use Rattle.std.specs.Prelude.{List, ℕ}
use Rattle.laws.specs.Ranges.{part}
use Rattle.protocol.specs.Numbers.{write_only, invalid, not_found, no_room, busy}
use Rattle.protocol.specs.Names.{flash_number}
use Rattle.protocol.specs.Frame.{Reply, refused}
use Rattle.protocol.specs.declared.FlashKind.{FlashKind}
use Rattle.protocol.specs.declared.Blob.{Blob}
use Rattle.protocol.specs.declared.Blob.TheVariants.{Store, Flash, Base, Unknown}
use Rattle.state.specs.declared.row.Wanted.TheVariants.{OnBlob, OnFlash}
use Rattle.state.specs.State.{State}
use Rattle.state.specs.Words.{writes_with, store_flags, flash_flags}
use Rattle.state.specs.Soundness.{slot_at}
use Rattle.state.specs.declared.row.Place.TheVariants.{AtSlot, AtFlash}
use Rattle.rules.specs.Session.{row_found}
use Rattle.rules.specs.Checks.{holds_or, none_or, some_or, whether}
use Rattle.rules.specs.Lookup.{slot_named, free_row_in, free_slot_in}
use Rattle.rules.specs.Opening.{opened, new_slot, held_slot, flash_listed, opened_flash}

-- A STORE NAME n: flags (CC); a held name may be busy (C0) and needs a row (C4); another name is there for a session that writes (CB), and needs a row, then a slot (C4)
-- (rules 9.1, 9.3, 9.4, 9.6 and 9.7; clean: rules 9.10 to 9.12)
unfoldable pub open_store : List ℕ → (flags t : ℕ) → State → Reply × State
open_store n flags t s =
    holds_or (store_flags flags) (refused invalid, s)
    (whether (slot_named n s)
    (λ (k : ℕ).
    none_or (row_found (OnBlob k) s) (refused busy, s)
    (some_or (free_row_in s) (refused no_room, s) (λ (r : ℕ). opened (AtSlot k) r k flags 1 t (held_slot flags (slot_at k s)) s)))
    (holds_or (writes_with flags) (refused not_found, s)
    (some_or (free_row_in s) (refused no_room, s) (λ (r : ℕ).
    some_or (free_slot_in s) (refused no_room, s) (λ (k : ℕ). opened (AtSlot k) r k flags 0 t (new_slot n) s)))))

-- A FLASH NAME: flags (CC); it must be listed (CB); no flash session may be open (C0); a row (C4)
-- (rules 9.1, 9.3, 9.4, 9.6 and 9.7)
unfoldable pub open_flash : FlashKind → (flags t : ℕ) → State → Reply × State
open_flash k flags t s =
    holds_or (flash_flags flags) (refused invalid, s)
    (holds_or (flash_listed k s.flash_group.phase) (refused not_found, s)
    (none_or (row_found OnFlash s) (refused busy, s)
    (some_or (free_row_in s) (refused no_room, s) (λ (r : ℕ). opened AtFlash r (flash_number k) write_only 0 t (opened_flash k s.flash_group) s))))

-- BY WHAT THE NAME NAMES: the base or unknown (CB); a store name stands in the message m (rule 9.1)
unfoldable pub open_blob : Blob → (flags t : ℕ) → List ℕ → State → Reply × State
open_blob (Store at len) flags t m s = open_store (part at len m) flags t s
open_blob (Flash k) flags t m s = open_flash k flags t s
open_blob Base flags t m s = (refused not_found, s)
open_blob Unknown flags t m s = (refused not_found, s)
