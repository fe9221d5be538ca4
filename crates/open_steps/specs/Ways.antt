-- The parts of `open_store` and `open_flash` that have code of their own, or that a proof of the code goes through; each stands there as it is here.
use Rattle.std.specs.Prelude.{Bool, List, ℕ}
use Rattle.std.proofs.Math.Option.{Option}
use Rattle.protocol.specs.Numbers.{write_only, not_found, no_room, busy}
use Rattle.protocol.specs.Names.{flash_number}
use Rattle.protocol.specs.Frame.{Reply, refused}
use Rattle.protocol.specs.declared.FlashKind.{FlashKind}
use Rattle.state.specs.declared.row.Wanted.TheVariants.{OnBlob, OnFlash}
use Rattle.state.specs.State.{State}
use Rattle.state.specs.Words.{writes_with}
use Rattle.state.specs.Soundness.{slot_at}
use Rattle.state.specs.declared.row.Place.TheVariants.{AtSlot, AtFlash}
use Rattle.rules.specs.Session.{row_found}
use Rattle.rules.specs.Checks.{holds_or, none_or, some_or, whether}
use Rattle.rules.specs.Lookup.{free_row_in, free_slot_in}
use Rattle.rules.specs.Opening.{opened, new_slot, held_slot, opened_flash}

-- a new name, with the free row and the free slot
abbrev pub open_new : (row place : Option ℕ) → List ℕ → (flags t : ℕ) → State → Reply × State
open_new o j n flags t s = some_or o (refused no_room, s) (λ (r : ℕ). some_or j (refused no_room, s) (λ (k : ℕ). opened (AtSlot k) r k flags 0 t (new_slot n) s))

-- the held name of slot k, with the free row
abbrev pub open_free : (row : Option ℕ) → (k flags t : ℕ) → State → Reply × State
open_free o k flags t s = some_or o (refused no_room, s) (λ (r : ℕ). opened (AtSlot k) r k flags 1 t (held_slot flags (slot_at k s)) s)

-- the same, with the session on it
abbrev pub open_held : (session : Option ℕ) → (k flags t : ℕ) → State → Reply × State
open_held o k flags t s = none_or o (refused busy, s) (open_free (free_row_in s) k flags t s)

-- a name, with the slot that holds it
abbrev pub open_named : (held : Option ℕ) → List ℕ → (flags t : ℕ) → State → Reply × State
open_named o n flags t s =
    whether o (λ (k : ℕ). open_held (row_found (OnBlob k) s) k flags t s)
    (holds_or (writes_with flags) (refused not_found, s) (open_new (free_row_in s) (free_slot_in s) n flags t s))

-- a flash name, with the free row
abbrev pub open_flash_free : (row : Option ℕ) → FlashKind → (t : ℕ) → State → Reply × State
open_flash_free o k t s = some_or o (refused no_room, s) (λ (r : ℕ). opened AtFlash r (flash_number k) write_only 0 t (opened_flash k s.flash_group) s)

-- the same, with the flash session
abbrev pub open_flash_quiet : (session : Option ℕ) → FlashKind → (t : ℕ) → State → Reply × State
open_flash_quiet o k t s = none_or o (refused busy, s) (open_flash_free (free_row_in s) k t s)

-- the same, listed or not
abbrev pub open_flash_listed : (listed : Bool) → FlashKind → (t : ℕ) → State → Reply × State
open_flash_listed y k t s = holds_or y (refused not_found, s) (open_flash_quiet (row_found OnFlash s) k t s)
