-- What a Close, a Commit of cleanup and an Open leave of the flash: tables of their own, which the rules meet on every message.
use Rattle.std.specs.Prelude.{cond, ◌&&◌, ℕ, eqb, replicate}
use Rattle.protocol.specs.Numbers.{image_size, hash_size, verify_blob, update_blob, succeeded, failed}
use Rattle.protocol.specs.declared.FlashKind.{FlashKind}
use Rattle.protocol.specs.declared.FlashKind.TheVariants.{Image, Hash, Verify, Update, Cleanup}
use Rattle.state.specs.declared.Phase.{Phase}
use Rattle.state.specs.declared.Phase.TheVariants.{Idle, Uploading, Verified}
use Rattle.state.specs.State.{FlashBody}

-- ---- the tables
-- the flash in another phase, all else as it was
abbrev pub moved_to : Phase → FlashBody → FlashBody
moved_to p f = record { phase = p; image = f.image; hash = f.hash; image_len = f.image_len; hash_len = f.hash_len }

-- nothing uploaded
abbrev pub nothing_uploaded : FlashBody
nothing_uploaded = record { phase = Idle; image = replicate image_size 0; hash = replicate hash_size 0; image_len = 0; hash_len = 0 }

-- what a Close leaves, by the blob of its session and the status of its job: verify (rule 13.6), update (rule 13.7), the others (rule 13.8)
abbrev pub left_by_close : (blob status : ℕ) → FlashBody → FlashBody
left_by_close b st f =
    cond (eqb b verify_blob && eqb st succeeded) (moved_to Verified f)
    (cond (eqb b verify_blob && eqb st failed) (moved_to Uploading f)
    (cond (eqb b update_blob && eqb st succeeded) nothing_uploaded
    (cond (eqb b update_blob && eqb st failed) (moved_to Uploading f) f)))

-- what an Open leaves: image and hash are emptied, and the phase is Uploading (rule 9.13)
abbrev pub left_by_open : FlashKind → FlashBody → FlashBody
left_by_open Image f = record { phase = Uploading; image = replicate image_size 0; hash = f.hash; image_len = 0; hash_len = f.hash_len }
left_by_open Hash f = record { phase = Uploading; image = f.image; hash = replicate hash_size 0; image_len = f.image_len; hash_len = 0 }
left_by_open Verify f = f
left_by_open Update f = f
left_by_open Cleanup f = f
