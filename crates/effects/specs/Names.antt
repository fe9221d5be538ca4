-- The names that are listed, written out.
use Rattle.std.specs.Prelude.{List, [], ◌∷◌, ◌++◌, ℕ}
use Rattle.protocol.specs.Numbers.{slot_count}
use Rattle.protocol.specs.Names.{base, flash_name}
use Rattle.protocol.specs.declared.FlashKind.TheVariants.{Image, Hash, Verify, Update, Cleanup}
use Rattle.state.specs.declared.Phase.{Phase}
use Rattle.state.specs.declared.Phase.TheVariants.{Idle, Uploading, Verified}
use Rattle.state.specs.State.{State}
use Rattle.rules.specs.Listing.{committed_names}

-- ---- the listed names
-- the flash names that there are in each phase, in their order (rules 8.1 and 8.2)
abbrev pub flash_in : Phase → List (List ℕ)
flash_in Idle = flash_name Image ∷ flash_name Hash ∷ flash_name Cleanup ∷ []
flash_in Uploading = flash_name Image ∷ flash_name Hash ∷ flash_name Verify ∷ flash_name Cleanup ∷ []
flash_in Verified = flash_name Image ∷ flash_name Hash ∷ flash_name Verify ∷ flash_name Update ∷ flash_name Cleanup ∷ []

-- the base, the committed slots, the flash names of the phase (rule 8.1)
abbrev pub names : State → List (List ℕ)
names s = base ∷ (committed_names slot_count s ++ flash_in s.flash_group.phase)
