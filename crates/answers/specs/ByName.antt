-- Which code a command by a name gets, in words of the state.
use Rattle.std.specs.Prelude.{Bool, true, false, ◌&&◌, ◌||◌, List, ℕ, eqb}
use Rattle.std.proofs.Math.Bool.{cond}
use Rattle.std.proofs.Math.Option.{Option, none, some}
use Rattle.laws.specs.Find.{is_some}
use Rattle.laws.specs.Ranges.{part}
use Rattle.protocol.specs.Numbers.{success, invalid, not_found, busy, no_room, not_supported}
use Rattle.protocol.specs.Numbers.{read_only, read_write, write_only}
use Rattle.protocol.specs.declared.FlashKind.{FlashKind}
use Rattle.protocol.specs.declared.FlashKind.TheVariants.{Image, Hash, Verify, Update, Cleanup}
use Rattle.protocol.specs.declared.Blob.{Blob}
use Rattle.protocol.specs.declared.Blob.TheVariants.{Store, Flash, Base, Unknown}
use Rattle.state.specs.declared.Phase.{Phase}
use Rattle.state.specs.declared.Phase.TheVariants.{Idle, Uploading, Verified}
use Rattle.state.specs.declared.row.Wanted.TheVariants.{OnBlob, OnFlash}
use Rattle.state.specs.State.{State}
use Rattle.rules.specs.Session.{row_found}
use Rattle.rules.specs.Lookup.{slot_named, free_row_in, free_slot_in}

-- ---- the situations
-- a session is on the blob; the flash session is open; a row is free; a slot is free
abbrev pub session_on : (blob : ℕ) → State → Bool
session_on b s = is_some (row_found (OnBlob b) s)

abbrev pub flash_open : State → Bool
flash_open s = is_some (row_found OnFlash s)

abbrev pub row_free : State → Bool
row_free s = is_some (free_row_in s)

abbrev pub slot_free : State → Bool
slot_free s = is_some (free_slot_in s)

-- a flash name is there in a phase: all but verify in Idle, and update anywhere but in Verified (rule 8.2)
abbrev pub there : FlashKind → Phase → Bool
there Image p = true
there Hash p = true
there Verify Idle = false
there Verify Uploading = true
there Verify Verified = true
there Update Idle = false
there Update Uploading = false
there Update Verified = true
there Cleanup p = true

-- ---- the tables
-- Delete: a store name that no slot holds; one that a slot k holds, open or not (rule 14.1)
abbrev pub delete_held : Option ℕ → State → ℕ
delete_held none s = not_found
delete_held (some k) s = cond (session_on k s) busy success

-- by what the name names (rule 14.1)
abbrev pub delete_code : Blob → List ℕ → State → ℕ
delete_code Base m s = not_supported
delete_code (Flash k) m s = not_supported
delete_code (Store at len) m s = delete_held (slot_named (part at len m) s) s
delete_code Unknown m s = not_found

-- Stat: what is not there (rule 15.1)
abbrev pub stat_code : Blob → List ℕ → State → ℕ
stat_code Base m s = success
stat_code (Flash k) m s = cond (there k s.flash_group.phase) success not_found
stat_code (Store at len) m s = cond (is_some (slot_named (part at len m) s)) success not_found
stat_code Unknown m s = not_found

-- Open, of a store name with allowed flags: one that no slot holds is absent for reading, and needs a row and a slot for writing; one that a slot k holds needs a row
-- (rules 9.4, 9.6 and 9.7)
abbrev pub open_held : Option ℕ → (flags : ℕ) → State → ℕ
open_held none flags s = cond (eqb flags read_only) not_found (cond (row_free s && slot_free s) success no_room)
open_held (some k) flags s = cond (session_on k s) busy (cond (row_free s) success no_room)

-- by what the name names, on the swept state (rule 9.1)
abbrev pub open_code : Blob → (flags : ℕ) → List ℕ → State → ℕ
open_code Base flags m s = not_found
open_code Unknown flags m s = not_found
open_code (Flash k) flags m s =
    cond (eqb flags write_only)
    (cond (there k s.flash_group.phase) (cond (flash_open s) busy (cond (row_free s) success no_room)) not_found)
    invalid
open_code (Store at len) flags m s = cond (eqb flags read_only || eqb flags read_write) (open_held (slot_named (part at len m) s) flags s) invalid
