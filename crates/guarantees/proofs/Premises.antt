-- The premises of demand 3 are met: two sound states with two sessions each, on two store names and on a store name and the flash, and for each session a list, with
-- the code of each of its events. A store session's messages are all accepted; the flash session's list has job outcomes, refusals, and a message after its Close. Assumes nothing.
use Rattle.std.specs.Prelude.{◌≡◌, refl, ◌≢◌, true, false, List, [], ◌∷◌, ℕ, ◌≤◌}
use Rattle.std.proofs.Common.{sym, ◌∙◌, ap, subst, arith}
use Rattle.laws.specs.All.{that}
use Rattle.laws.specs.Find.{first}
use Rattle.laws.specs.Merge.{Merge, All, alone}
use Rattle.protocol.proofs.Sizes.{slot-size}
use Rattle.protocol.specs.Numbers.{success, busy, not_supported, not_found, running, succeeded, slot_size, verify_blob}
use Rattle.protocol.specs.Names.{kind_of}
use Rattle.protocol.specs.Decode.{decoded}
use Rattle.protocol.specs.Frame.{refused, done, reply, stat_fields}
use Rattle.protocol.specs.declared.Request.{Request}
use Rattle.protocol.specs.declared.Request.TheVariants.{Close, SessionStat}
use Rattle.state.specs.declared.Phase.{Phase}
use Rattle.state.specs.declared.Phase.TheVariants.{Uploading, Verified}
use Rattle.state.specs.declared.row.Place.TheVariants.{AtFlash}
use Rattle.state.specs.declared.row.Wanted.TheVariants.{OnFlash}
use Rattle.state.specs.State.{State, Row, Slot, in_row, cell}
use Rattle.state.specs.Words.{id_of, blob_of, status_of, writes, ident, blob, Live, free_row, fresh}
use Rattle.state.specs.Soundness.{slot_at}
use Rattle.state.specs.Facts.{Sound}
use Rattle.state.specs.Agree.{test-of-sound}
use Rattle.rules.specs.Store.{seen_length}
use Rattle.rules.specs.Command.{end_job, state_bits}
use Rattle.rules.specs.Flash.{with_phase, flash_length, closed_flash, close_flash, job_ends, on_flash}
use Rattle.rules.specs.Session.{row_found, on_session}
use Rattle.rules.specs.Respond.{answered, respond}
use Rattle.rules.proofs.Messages.{ask_read, ask_write, ask_close, ask_session_stat, read-decoded, write-decoded, close-decoded, stat-decoded}
use Rattle.rules.proofs.Situations.{scan_name, letter_a, writing_row, written_slot, writer, new_image, verify_row, two_writers, two_good, two-first, two-second, two-slot}
use Rattle.rules.proofs.Situations.{writer_and_verify, verify-good, verify-first, verify-second, verify-slot}
use Rattle.rules.proofs.Examples.{Writes}
use Rattle.guarantees.proofs.Merging.{merge-two}
use Rattle.guarantees.specs.Merging.{Event, message, job_ended, step, NamedBy, Mine}
use Rattle.guarantees.proofs.Steps.{codes, Goes, by-message, by-outcome, ends, on}
use Rattle.guarantees.proofs.Sessions.{write-then-read, stat-then-close}
use Rattle.guarantees.proofs.PremisesAre.{some_bytes, write_and_read, Met}

-- SessionStat and Close of session 1
abbrev pub stat_and_close : List Event
stat_and_close = message 120 (ask_session_stat 1) ∷ message 300 (ask_close 1) ∷ []

-- of the flash session, which has the identifier 1 and a job that runs: SessionStat, a Close too early, the job's good end and an outcome without a job, Close, and SessionStat after it
abbrev pub whole_verify : List Event
whole_verify = message 120 (ask_session_stat 1) ∷ message 130 (ask_close 1) ∷ job_ended true ∷ job_ended false ∷ message 300 (ask_close 1) ∷ message 90 (ask_session_stat 1) ∷ []

-- a message that asks q names whom q names
owns : (m : List ℕ) (q : Request) (id : ℕ) → decoded m ≡ q → NamedBy q id → NamedBy (decoded m) id
owns m q id d n = subst (λ (x : Request). NamedBy x id) (sym d) n

module _ (s : State) (g : Sound s) (first-row : (in_row 0).get s ≡ writing_row 0) (first_slot : slot_at 0 s ≡ written_slot (scan_name letter_a) 100)
    (ys : List Event) (cs : List ℕ) (second : All (Mine s 1) ys) (coded : codes (alone step s ys) ≡ cs) where
  first_live : Live 0 s
  first_live = (omega arith, ap (λ (r : Row). r.used) first-row)

  first-id : ident 0 s ≡ 0
  first-id = ap id_of first-row

  first-writes : Writes 100 0 s
  first-writes = record {
    session = record {
      is-sound = test-of-sound s g;
      is_live = first_live;
      blob_in_store = let e : blob 0 s ≡ 0 = ap blob_of first-row in omega arith;
      sees = ap (λ (r : Row). seen_length (writes r) (slot_at (blob_of r) s)) first-row ∙ ap (λ (b : Slot). b.staged_len) first_slot;
    };
    writing = ap writes first-row;
  }

  met : Met s ys cs
  met =
      let wr = write-then-read 100 200 150 0 0 some_bytes s first-writes (omega arith) (let z = slot-size in omega arith) (omega arith) in
      let xs : All (Mine s 0) write_and_read = (
        (first_live, owns (ask_write 0 0 some_bytes) _ _ (write-decoded 0 0 some_bytes (omega arith) (omega arith) (omega arith)).0 (that (refl, sym first-id))),
        ((first_live, owns (ask_read 0 0 3) _ _ (read-decoded 0 0 3 (omega arith) (omega arith) (omega arith)) (that (refl, sym first-id))), tt),
      ) in
      let w : (respond 200 (ask_write 0 0 some_bytes) s).code ≡ success = subst (λ (x : ℕ). (respond 200 (ask_write x 0 some_bytes) s).code ≡ success) first-id wr.write-code in
      let r : (respond 150 (ask_read 0 0 3) (respond 200 (ask_write 0 0 some_bytes) s).state).code ≡ success
      = subst (λ (x : ℕ). (respond 150 (ask_read x 0 3) (respond 200 (ask_write x 0 some_bytes) s).state).code ≡ success) first-id wr.read-code in
      record {
        is-sound = test-of-sound s g;
        first-owns = xs;
        second-owns = second;
        first-codes = λ i. w i ∷ r i ∷ [];
        second-codes = coded;
        merged = λ (zs : List (ℕ × Event)) (m : Merge 0 1 write_and_read ys zs). merge-two s (test-of-sound s g) 0 1 write_and_read ys zs (omega arith) xs second m;
      }

fits-100 : 100 ≤ slot_size
fits-100 = let z = slot-size in omega arith

-- ---- two store sessions
module _ (s : State) (g : Sound s) (row : (in_row 1).get s ≡ writing_row 1) where
  second_live : Live 1 s
  second_live = (omega arith, ap (λ (r : Row). r.used) row)

  second-id : ident 1 s ≡ 1
  second-id = ap id_of row

  -- no job runs on a row that was just opened
  quiet : status_of ((in_row 1).get s) ≢ running
  quiet n = let y : status_of ((in_row 1).get s) ≡ 0 = ap status_of row in omega arith

  stat-owned : All (Mine s 1) stat_and_close
  stat-owned = (
    (second_live, owns (ask_session_stat 1) _ _ (stat-decoded 1 (omega arith)) (that (refl, sym second-id))),
    ((second_live, owns (ask_close 1) _ _ (close-decoded 1 (omega arith)) (that (refl, sym second-id))), tt),
  )

  stat-codes : codes (alone step s stat_and_close) ≡ success ∷ success ∷ []
  stat-codes =
      let sc = stat-then-close 120 300 1 s (test-of-sound s g) second_live quiet in
      let a : (respond 120 (ask_session_stat 1) s).code ≡ success = subst (λ (x : ℕ). (respond 120 (ask_session_stat x) s).code ≡ success) second-id sc.0 in
      let c : (respond 300 (ask_close 1) (respond 120 (ask_session_stat 1) s).state).code ≡ success
      = subst (λ (x : ℕ). (respond 300 (ask_close x) (respond 120 (ask_session_stat x) s).state).code ≡ success) second-id sc.1 in λ i. a i ∷ c i ∷ []

-- TWO STORE SESSIONS
pub two-stores : Met (two_writers 100) stat_and_close (success ∷ success ∷ [])
two-stores =
    let g = two_good 100 fits-100 in
    let e = two-second 100 fits-100 in
    met (two_writers 100) g (two-first 100) (two-slot 100) stat_and_close (success ∷ success ∷ []) (stat-owned (two_writers 100) g e) (stat-codes (two_writers 100) g e)

-- ---- a store session and the flash session
-- the state with this row and phase of the flash session
abbrev flash_at : Row → Phase → State
flash_at row phase = (cell 1 AtFlash).put (row, with_phase phase new_image) (writer (scan_name letter_a) 100)

-- the states on the way
abbrev still_runs : State
still_runs = flash_at (verify_row running 120) Uploading

abbrev has_ended : State
has_ended = flash_at (verify_row succeeded 120) Uploading

abbrev after_close : State
after_close = flash_at free_row Verified

shown : (m : List ℕ) → answered (SessionStat 1) 120 m (writer_and_verify 100) ≡ (reply (stat_fields 6 0), still_runs)
unfolding answered on_session row_found first on_flash kind_of flash_length state_bits writer_and_verify writer fresh
shown m = refl

too-early : (m : List ℕ) → answered (Close 1) 130 m still_runs ≡ (refused busy, still_runs)
unfolding answered on_session row_found first on_flash kind_of close_flash writer fresh
too-early m = refl

ended : on_session OnFlash 0 (end_job true) still_runs ≡ (done, has_ended)
unfolding on_session row_found first on_flash kind_of job_ends writer fresh
ended = refl

no-job : on_session OnFlash 0 (end_job false) has_ended ≡ (refused not_supported, has_ended)
unfolding on_session row_found first on_flash kind_of job_ends writer fresh
no-job = refl

closed : (m : List ℕ) → answered (Close 1) 300 m has_ended ≡ (done, after_close)
unfolding answered on_session row_found first on_flash kind_of close_flash closed_flash writer fresh
closed m = refl

gone : (m : List ℕ) → answered (SessionStat 1) 90 m after_close ≡ (refused not_found, after_close)
unfolding answered on_session row_found first writer fresh
gone m = refl

verify-goes : Goes (writer_and_verify 100) whole_verify (success ∷ busy ∷ success ∷ not_supported ∷ success ∷ not_found ∷ []) after_close
verify-goes =
    on (by-message 120 (ask_session_stat 1) (SessionStat 1) (writer_and_verify 100) (reply (stat_fields 6 0)) still_runs (stat-decoded 1 (omega arith)) (shown (ask_session_stat 1)))
    (on (by-message 130 (ask_close 1) (Close 1) still_runs (refused busy) still_runs (close-decoded 1 (omega arith)) (too-early (ask_close 1)))
    (on (by-outcome true still_runs done has_ended ended)
    (on (by-outcome false has_ended (refused not_supported) has_ended no-job)
    (on (by-message 300 (ask_close 1) (Close 1) has_ended done after_close (close-decoded 1 (omega arith)) (closed (ask_close 1)))
    (on (by-message 90 (ask_session_stat 1) (SessionStat 1) after_close (refused not_found) after_close (stat-decoded 1 (omega arith)) (gone (ask_session_stat 1)))
    (ends after_close)))))) (test-of-sound (writer_and_verify 100) (verify-good 100 fits-100))

verify-owned : All (Mine (writer_and_verify 100) 1) whole_verify
verify-owned =
    let s = writer_and_verify 100 in
    let e = verify-second 100 fits-100 in
    let l : Live 1 s = (omega arith, ap (λ (r : Row). r.used) e) in
    let id : ident 1 s ≡ 1 = ap id_of e in
    let shows : Mine s 1 (message 120 (ask_session_stat 1)) = (l, owns (ask_session_stat 1) _ _ (stat-decoded 1 (omega arith)) (that (refl, sym id))) in
    let closes : Mine s 1 (message 130 (ask_close 1)) = (l, owns (ask_close 1) _ _ (close-decoded 1 (omega arith)) (that (refl, sym id))) in
    let reports : Mine s 1 (job_ended true) = (l, let z : blob 1 s ≡ verify_blob = ap blob_of e in omega arith) in (shows, (closes, (reports, (reports, (closes, (shows, tt))))))

-- A STORE SESSION AND THE FLASH SESSION
pub store-and-flash : Met (writer_and_verify 100) whole_verify (success ∷ busy ∷ success ∷ not_supported ∷ success ∷ not_found ∷ [])
store-and-flash =
    met (writer_and_verify 100) (verify-good 100 fits-100) (verify-first 100) (verify-slot 100) whole_verify (success ∷ busy ∷ success ∷ not_supported
    ∷ success ∷ not_found ∷ []) verify-owned verify-goes.coded
