-- The jobs of the flash session, as its code tells them apart.
use Rattle.std.specs.Prelude.{Bool, false, cond, ◌||◌, ℕ, eqb}
use Rattle.protocol.specs.Numbers.{untried, running, succeeded, failed}
use Rattle.protocol.specs.declared.FlashKind.{FlashKind}
use Rattle.protocol.specs.declared.FlashKind.TheVariants.{Image, Hash, Verify, Update, Cleanup}
use Rattle.state.specs.declared.Phase.{Phase}
use Rattle.state.specs.declared.Phase.TheVariants.{Uploading, Verified}
use Rattle.state.specs.declared.row.Entry.{Entry}
use Rattle.state.specs.Entry.{status_set}
use Rattle.state.specs.Words.{status_in}

-- a job can start (rules 12.4 and 12.5)
abbrev pub startable_in : ℕ → Bool
startable_in w = eqb (status_in w) untried || eqb (status_in w) failed

abbrev pub started : Entry → Entry
started e = cond (startable_in e.word) (status_set e running) e

-- a Close after an update that succeeded, which empties the flash (rule 13.7)
abbrev pub updated_by : FlashKind → ℕ → Bool
updated_by Image status = false
updated_by Hash status = false
updated_by Verify status = false
updated_by Update status = eqb status succeeded
updated_by Cleanup status = false

-- the phase after a Close that does not empty it (rules 13.6 to 13.8)
abbrev pub closed_phase : FlashKind → ℕ → Phase → Phase
closed_phase Image status p = p
closed_phase Hash status p = p
closed_phase Verify status p = cond (eqb status succeeded) Verified (cond (eqb status failed) Uploading p)
closed_phase Update status p = cond (eqb status failed) Uploading p
closed_phase Cleanup status p = p
