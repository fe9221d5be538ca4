-- The premise of the flash promise is met: a history from the fresh state, in messages that are all accepted, in which an update job starts. Assumes nothing.
use Rattle.std.specs.Prelude.{◌≡◌, refl, true, not, ◌&&◌, List, [], ◌∷◌, ◌++◌, ℕ, ◌*◌, eqb, replicate}
use Rattle.std.proofs.Common.{sym, ◌∙◌, ap, arith}
use Rattle.laws.specs.All.{all}
use Rattle.laws.specs.Bytes.{little, bytes_of, same, first_zero}
use Rattle.laws.specs.Find.{first}
use Rattle.laws.specs.Merge.{alone}
use Rattle.crc.specs.Crc.{shift, shifts, byte_step, crc_from}
use Rattle.protocol.specs.Numbers.{success, row_count, row_words, image_size, hash_size, image_blob, verify_blob, update_blob, write_only, untried, running, succeeded}
use Rattle.protocol.specs.Names.{base, flash_folder, flash_word, flash_name, name_form, blob_named, store_name, kind_of}
use Rattle.protocol.specs.Decode.{decoded, asked, body_fits, crc_fits, with_name}
use Rattle.protocol.specs.Frame.{done, reply}
use Rattle.protocol.specs.declared.FlashKind.{FlashKind}
use Rattle.protocol.specs.declared.FlashKind.TheVariants.{Image, Verify, Update, Hash, Cleanup}
use Rattle.protocol.specs.declared.Blob.TheVariants.{Flash}
use Rattle.protocol.specs.declared.Request.TheVariants.{Open, Commit, Close}
use Rattle.state.specs.declared.Phase.{Phase}
use Rattle.state.specs.declared.Phase.TheVariants.{Uploading, Verified}
use Rattle.state.specs.State.{State}
use Rattle.state.specs.Words.{word_with, fresh}
use Rattle.state.specs.Soundness.{is_sound}
use Rattle.state.proofs.Fresh.{fresh-sound}
use Rattle.rules.specs.Command.{end_job}
use Rattle.rules.specs.Flash.{verify_job, update_job, commit_kind, commit_flash, closed_flash, close_flash, job_ends, on_flash}
use Rattle.state.specs.declared.row.Wanted.TheVariants.{OnFlash}
use Rattle.rules.specs.Session.{on_session, row_found}
use Rattle.rules.specs.Sweep.{swept}
use Rattle.rules.specs.Open.{open_flash, open_blob}
use Rattle.rules.specs.Respond.{answered}
use Rattle.rules.proofs.Messages.{ask_open, ask_commit, ask_close, commit-decoded, close-decoded}
use Rattle.guarantees.specs.Merging.{Event, message, job_ended, step}
use Rattle.guarantees.proofs.FlashPromise.{run_sound}
use Rattle.guarantees.specs.FlashPromise.{run, job_state, starts_update}
use Rattle.guarantees.proofs.Steps.{codes, Goes, by-message, by-outcome, ends, on, then}
use Rattle.rules.specs.Lookup.{free_row_in, fresh_from}
use Rattle.rules.specs.Opening.{opened, flash_listed, opened_flash}

-- ---- the events
-- open the image
abbrev pub open_image : Event
open_image = message 1 (ask_open write_only (flash_name Image))

-- close it
abbrev pub close_image : Event
close_image = message 2 (ask_close 0)

-- open verify
abbrev pub open_verify : Event
open_verify = message 3 (ask_open write_only (flash_name Verify))

-- start its job
abbrev pub commit_verify : Event
commit_verify = message 4 (ask_commit 1)

-- the job succeeds
abbrev pub good_outcome : Event
good_outcome = job_ended true

-- close verify
abbrev pub close_verify : Event
close_verify = message 5 (ask_close 1)

-- open update
abbrev pub open_update : Event
open_update = message 6 (ask_open write_only (flash_name Update))

-- all of them
abbrev pub history : List Event
history = open_image ∷ close_image ∷ open_verify ∷ commit_verify ∷ good_outcome ∷ close_verify ∷ open_update ∷ []

-- and, after it, the commit of update
abbrev pub commit_update : Event
commit_update = message 7 (ask_commit 2)

-- ---- the states on the way: the table and the mask of rows, the phase, the next identifier
abbrev pub stage : List ℕ → ℕ → Phase → ℕ → State
stage table rows phase id = record {
  sessions = record { table = table; rows = rows };
  store = fresh.store;
  flash_group = record { phase = phase; image = replicate image_size 0; hash = replicate hash_size 0; image_len = 0; hash_len = 0 };
  next = id;
  last_sweep = 0;
}

-- no row used, and row 0 used
abbrev pub no_session : Phase → ℕ → State
no_session phase id = stage (replicate (row_count * row_words) 0) 0 phase id

abbrev pub one_session : ℕ → ℕ → ℕ → ℕ → Phase → ℕ → State
one_session id b status stamp phase after = stage (id ∷ b ∷ word_with write_only status 0 ∷ stamp ∷ replicate 60 0) 1 phase after

abbrev pub image_open : State
image_open = one_session 0 image_blob untried 1 Uploading 1

abbrev pub image_closed : State
image_closed = no_session Uploading 1

abbrev verify_open : State
verify_open = one_session 1 verify_blob untried 3 Uploading 2

abbrev verify_runs : State
verify_runs = one_session 1 verify_blob running 4 Uploading 2

abbrev verify_good : State
verify_good = one_session 1 verify_blob succeeded 4 Uploading 2

abbrev verify_closed : State
verify_closed = no_session Verified 2

abbrev update_open : State
update_open = one_session 2 update_blob untried 6 Verified 3

abbrev update_runs : State
update_runs = one_session 2 update_blob running 7 Verified 3

-- ---- what each event does
pub opens-image : (m : List ℕ) → answered (Open write_only (Flash Image)) 1 m fresh ≡ (reply (bytes_of 2 0), image_open)
unfolding answered swept open_blob open_flash flash_listed row_found first free_row_in fresh_from opened opened_flash fresh
opens-image m = refl

pub closes-image : (m : List ℕ) → answered (Close 0) 2 m image_open ≡ (done, image_closed)
unfolding answered on_session row_found first on_flash kind_of close_flash closed_flash
closes-image m = refl

opens-verify : (m : List ℕ) → answered (Open write_only (Flash Verify)) 3 m image_closed ≡ (reply (bytes_of 2 1), verify_open)
unfolding answered swept open_blob open_flash flash_listed row_found first free_row_in fresh_from opened opened_flash
opens-verify m = refl

commits-verify : (m : List ℕ) → answered (Commit 1 0 0) 4 m verify_open ≡ (done, verify_runs)
unfolding answered on_session row_found first on_flash kind_of commit_flash commit_kind verify_job
commits-verify m = refl

good-verify : on_session OnFlash 0 (end_job true) verify_runs ≡ (done, verify_good)
unfolding on_session row_found first on_flash kind_of job_ends
good-verify = refl

closes-verify : (m : List ℕ) → answered (Close 1) 5 m verify_good ≡ (done, verify_closed)
unfolding answered on_session row_found first on_flash kind_of close_flash closed_flash
closes-verify m = refl

opens-update : (m : List ℕ) → answered (Open write_only (Flash Update)) 6 m verify_closed ≡ (reply (bytes_of 2 2), update_open)
unfolding answered swept open_blob open_flash flash_listed row_found first free_row_in fresh_from opened opened_flash
opens-update m = refl

commits-update : (m : List ℕ) → answered (Commit 2 0 0) 7 m update_open ≡ (done, update_runs)
unfolding answered on_session row_found first on_flash kind_of commit_flash commit_kind update_job
commits-update m = refl

open-decoded : (k : FlashKind) → decoded (ask_open write_only (flash_name k)) ≡ Open write_only (Flash k)
unfolding decoded same all body_fits crc_fits asked with_name name_form first_zero blob_named store_name base flash_folder flash_word little bytes_of crc_from byte_step shifts shift
open-decoded Image = refl
open-decoded Hash = refl
open-decoded Verify = refl
open-decoded Update = refl
open-decoded Cleanup = refl

-- ---- one after the other
runs : Goes fresh history (success ∷ success ∷ success ∷ success ∷ success ∷ success ∷ success ∷ []) update_open
runs =
    on (by-message 1 (ask_open write_only (flash_name Image)) (Open write_only (Flash Image)) fresh (reply (bytes_of 2 0)) image_open
    (open-decoded Image) (opens-image (ask_open write_only (flash_name Image))))
    (on (by-message 2 (ask_close 0) (Close 0) image_open done image_closed (close-decoded 0 (omega arith)) (closes-image (ask_close 0)))
    (on (by-message 3 (ask_open write_only (flash_name Verify)) (Open write_only (Flash Verify)) image_closed (reply (bytes_of 2 1)) verify_open
    (open-decoded Verify) (opens-verify (ask_open write_only (flash_name Verify))))
    (on (by-message 4 (ask_commit 1) (Commit 1 0 0) verify_open done verify_runs (commit-decoded 1 (omega arith)) (commits-verify (ask_commit 1)))
    (on (by-outcome true verify_runs done verify_good good-verify)
    (on (by-message 5 (ask_close 1) (Close 1) verify_good done verify_closed (close-decoded 1 (omega arith)) (closes-verify (ask_close 1)))
    (on (by-message 6 (ask_open write_only (flash_name Update)) (Open write_only (Flash Update)) verify_closed (reply (bytes_of 2 2)) update_open
    (open-decoded Update) (opens-update (ask_open write_only (flash_name Update))))
    (ends update_open))))))) fresh-sound

open-sound : is_sound update_open ≡ true
open-sound = ap is_sound (sym runs.left) ∙ run_sound history fresh fresh-sound

last_runs : Goes update_open (commit_update ∷ []) (success ∷ []) update_runs
last_runs = on (by-message 7 (ask_commit 2) (Commit 2 0 0) update_open done update_runs (commit-decoded 2 (omega arith)) (commits-update (ask_commit 2))) (ends update_runs) open-sound

-- EVERY EVENT IS ACCEPTED: the seven of the history, and the commit of update behind them
pub all-accepted : codes (alone step fresh (history ++ (commit_update ∷ []))) ≡ success ∷ success ∷ success ∷ success ∷ success ∷ success ∷ success ∷ success ∷ []
all-accepted = (then runs last_runs).coded

job-starts : not (eqb (job_state Update update_open) running) && eqb (job_state Update update_runs) running ≡ true
unfolding job_state row_found first
job-starts = refl

-- AN UPDATE JOB STARTS AFTER THIS HISTORY
pub update-starts : starts_update (run fresh history) commit_update ≡ true
update-starts =
    ap (λ (x : State). starts_update x commit_update) runs.left
    ∙ ap (λ (x : State). not (eqb (job_state Update update_open) running) && eqb (job_state Update x) running) last_runs.left
    ∙ job-starts
