-- What the library does with a message, and with a job outcome.
use Rattle.std.specs.Prelude.{Bool, cond, List, [], ℕ, eqb, length, drop}
use Rattle.protocol.specs.Numbers.{success, not_sound, answer_size}
use Rattle.protocol.specs.Decode.{decoded, number_of}
use Rattle.protocol.specs.Frame.{Reply, refused, done, reply, Answer, framed, laid}
use Rattle.protocol.specs.declared.Request.{Request}
use Rattle.protocol.specs.declared.Request.TheVariants.{Count, Enumerate, Open, Read, Write, Commit, Close, Delete, Stat, SessionStat, WriteMeta, Refused}
use Rattle.state.specs.State.{State}
use Rattle.state.specs.Soundness.{is_sound}
use Rattle.rules.specs.Command.{read, write, commit, stat, close, write_meta, end_job}
use Rattle.state.specs.declared.row.Wanted.TheVariants.{Id, OnFlash}
use Rattle.rules.specs.Session.{on_session}
use Rattle.rules.specs.Sweep.{swept}
use Rattle.rules.specs.Open.{open_blob}
use Rattle.rules.specs.Listing.{counted, enumerated}
use Rattle.rules.specs.Named.{delete_blob, stat_blob}

-- what a call does: the completion code, the response's bytes, and the state after it
pub record Effect : Type 0 where
  pub code : ℕ
  pub response : List ℕ
  pub state : State

abbrev pub effect_of : Answer → State → Effect
effect_of a s = record { code = a.0; response = a.1; state = s }

-- EACH COMMAND at the clock t; the message m has Write's bytes and the names (rule 3.5). Count, Enumerate and Stat change nothing (rules 8.5 and 15.10), Open sweeps first (rule 9.2)
unfoldable pub answered : Request → (t : ℕ) → List ℕ → State → Reply × State
answered Count t m s = (counted s, s)
answered (Enumerate index) t m s = (enumerated index s, s)
answered (Open flags blob) t m s = open_blob blob flags t m (swept t s)
answered (Read session offset count) t m s = on_session (Id session) t (read offset count) s
answered (Write session offset start) t m s = on_session (Id session) t (write offset (drop start m)) s
answered (Commit session len rest) t m s = on_session (Id session) t (commit len rest) s
answered (Close session) t m s = on_session (Id session) t close s
answered (Delete blob) t m s = delete_blob blob m s
answered (Stat blob) t m s = (stat_blob blob m s, s)
answered (SessionStat session) t m s = on_session (Id session) t stat s
answered (WriteMeta session) t m s = on_session (Id session) t write_meta s
answered (Refused code) t m s = (refused code.0, s)

-- FF, and the state as it was (rule 7.12)
abbrev pub unsound : State → Effect
unsound s = effect_of (not_sound, []) s

-- A MESSAGE at the clock t: soundness comes before all other checks (rule 7.13)
unfoldable pub respond : (t : ℕ) → List ℕ → State → Effect
respond t m s = cond (is_sound s) (effect_of (framed (number_of (decoded m)) (answered (decoded m) t m s).0) (answered (decoded m) t m s).1) (unsound s)

-- a success without response (rule 17.3)
unfoldable pub silent : Reply → Answer
silent (refused code) = (code, [])
silent done = (success, [])
silent (reply f) = (success, [])

-- A JOB OUTCOME, good or failed; it has no clock (rules 17.1 and 21.2)
unfoldable pub job_outcome : (good : Bool) → State → Effect
job_outcome good s = cond (is_sound s) (effect_of (silent (on_session OnFlash 0 (end_job good) s).0) (on_session OnFlash 0 (end_job good) s).1) (unsound s)

-- ---- the answer buffer
-- what a call leaves: completion code, response length, state, answer buffer
pub record Served : Type 0 where
  pub code : ℕ
  pub len : ℕ
  pub state : State
  pub answer : List ℕ

-- the response stands at the front of the answer buffer, and the bytes behind it are kept (rule 19.2)
abbrev pub served_with : Effect → List ℕ → Served
served_with o a = record { code = o.code; len = length o.response; state = o.state; answer = laid o.response a }

-- THE LIBRARY'S FUNCTION: a message at the clock t, the state and the answer buffer, whose size is tested too (rules 5.1, 19.1 and 21.2)
unfoldable pub served : (t : ℕ) → List ℕ → State → List ℕ → Served
served t m s a = served_with (cond (eqb (length a) answer_size) (respond t m s) (unsound s)) a
