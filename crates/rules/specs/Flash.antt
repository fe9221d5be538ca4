-- What each command does on the flash session: on its row r and the flash b, at the clock t.
use Rattle.std.specs.Prelude.{Bool, true, false, cond, ◌||◌, List, ℕ, eqb, length}
use Rattle.protocol.specs.Numbers.{image_size, hash_size, untried, running, succeeded, failed, invalid, not_supported, busy}
use Rattle.protocol.specs.Frame.{done, reply, stat_fields}
use Rattle.protocol.specs.declared.FlashKind.{FlashKind}
use Rattle.protocol.specs.declared.FlashKind.TheVariants.{Image, Hash, Verify, Update, Cleanup}
use Rattle.state.specs.declared.Phase.{Phase}
use Rattle.state.specs.declared.Phase.TheVariants.{Uploading, Verified}
use Rattle.state.specs.State.{Row, FlashBody}
use Rattle.state.specs.Words.{word_of, status_of, stamped, with_status, free_row, empty_flash}
use Rattle.rules.specs.Command.{Command, read, write, commit, stat, close, write_meta, end_job, Out, refuse, placed, bytes_after, length_after, commit_fits, state_bits}

-- another phase, other image bytes and length, other hash bytes and length
abbrev pub with_phase : Phase → FlashBody → FlashBody
with_phase p b = record { phase = p; image = b.image; hash = b.hash; image_len = b.image_len; hash_len = b.hash_len }

abbrev pub with_image : List ℕ → (len : ℕ) → FlashBody → FlashBody
with_image l n b = record { phase = b.phase; image = l; hash = b.hash; image_len = n; hash_len = b.hash_len }

abbrev pub with_hash : List ℕ → (len : ℕ) → FlashBody → FlashBody
with_hash l n b = record { phase = b.phase; image = b.image; hash = l; image_len = b.image_len; hash_len = n }

-- ---- Write: into the image or the hash; the others do not take it (D5) (rules 11.1 and 11.2)
unfoldable pub write_flash : FlashKind → (t offset : ℕ) → List ℕ → Row → FlashBody → Out FlashBody
write_flash Image t offset ws r b =
    placed image_size b.image_len offset (length ws) r b (done, (stamped t r, with_image (bytes_after offset ws b.image) (length_after offset ws b.image_len) b))
write_flash Hash t offset ws r b =
    placed hash_size b.hash_len offset (length ws) r b (done, (stamped t r, with_hash (bytes_after offset ws b.hash) (length_after offset ws b.hash_len) b))
write_flash Verify t offset ws r b = refuse not_supported r b
write_flash Update t offset ws r b = refuse not_supported r b
write_flash Cleanup t offset ws r b = refuse not_supported r b

-- ---- Commit
-- a job starts where none was tried or the last one failed (rules 12.4 and 12.5)
abbrev pub startable : Row → Bool
startable r = eqb (status_of r) untried || eqb (status_of r) failed

-- verify: it starts, and the phase goes back to Uploading; else the Commit is accepted and starts nothing (rule 12.4)
unfoldable pub verify_job : (starts : Bool) (t : ℕ) → Row → FlashBody → Out FlashBody
verify_job true t r b = (done, (stamped t (with_status running r), with_phase Uploading b))
verify_job false t r b = (done, (stamped t r, b))

-- update: the same, and the phase stays (rule 12.5)
unfoldable pub update_job : (starts : Bool) (t : ℕ) → Row → FlashBody → Out FlashBody
update_job true t r b = (done, (stamped t (with_status running r), b))
update_job false t r b = (done, (stamped t r, b))

-- image and hash have nothing to commit (D5) (rule 12.1); cleanup empties the flash and has succeeded (rule 12.6)
unfoldable pub commit_kind : FlashKind → (t : ℕ) → Row → FlashBody → Out FlashBody
commit_kind Image t r b = refuse not_supported r b
commit_kind Hash t r b = refuse not_supported r b
commit_kind Verify t r b = verify_job (startable r) t r b
commit_kind Update t r b = update_job (startable r) t r b
commit_kind Cleanup t r b = (done, (stamped t (with_status succeeded r), empty_flash))

-- the length byte comes first (CC) (rule 12.1)
unfoldable pub commit_flash : (fits : Bool) → FlashKind → (t : ℕ) → Row → FlashBody → Out FlashBody
commit_flash true k t r b = commit_kind k t r b
commit_flash false k t r b = refuse invalid r b

-- ---- Close
-- what the job's status leaves of the flash: verify (rule 13.6), update (rule 13.7), the others (rule 13.8)
unfoldable pub closed_flash : FlashKind → (status : ℕ) → FlashBody → FlashBody
closed_flash Image st b = b
closed_flash Hash st b = b
closed_flash Verify st b = cond (eqb st succeeded) (with_phase Verified b) (cond (eqb st failed) (with_phase Uploading b) b)
closed_flash Update st b = cond (eqb st succeeded) empty_flash (cond (eqb st failed) (with_phase Uploading b) b)
closed_flash Cleanup st b = b

-- not while the job runs (C0) (rule 13.1)
unfoldable pub close_flash : (runs : Bool) → FlashKind → Row → FlashBody → Out FlashBody
close_flash true k r b = refuse busy r b
close_flash false k r b = (done, (free_row, closed_flash k (status_of r) b))

-- ---- SessionStat: the size of image and hash; the others have none (rule 15.5)
unfoldable pub flash_length : FlashKind → FlashBody → ℕ
flash_length Image b = b.image_len
flash_length Hash b = b.hash_len
flash_length Verify b = 0
flash_length Update b = 0
flash_length Cleanup b = 0

-- what is sent (rule 15.5)
abbrev pub stat_flash : FlashKind → Row → FlashBody → List ℕ
stat_flash k r b = stat_fields (state_bits (word_of r)) (flash_length k b)

-- ---- Job outcome
-- the status that it gives (rule 17.2)
abbrev pub verdict : (good : Bool) → ℕ
verdict good = cond good succeeded failed

-- only a job that runs can end (D5); no stamp changes (rules 17.1 and 17.3)
unfoldable pub job_ends : (runs good : Bool) → Row → FlashBody → Out FlashBody
job_ends true good r b = (done, (with_status (verdict good) r, b))
job_ends false good r b = refuse not_supported r b

-- ---- EACH COMMAND on the flash session; Read (rule 10.1) and WriteMeta (rule 16.1) are not supported
unfoldable pub on_flash : FlashKind → (t : ℕ) → Command → Row → FlashBody → Out FlashBody
on_flash k t (read offset n) r b = refuse not_supported r b
on_flash k t (write offset ws) r b = write_flash k t offset ws r b
on_flash k t (commit len rest) r b = commit_flash (commit_fits len rest) k t r b
on_flash k t stat r b = (reply (stat_flash k r b), (stamped t r, b))
on_flash k t close r b = close_flash (eqb (status_of r) running) k r b
on_flash k t write_meta r b = refuse not_supported r b
on_flash k t (end_job good) r b = job_ends (eqb (status_of r) running) good r b
