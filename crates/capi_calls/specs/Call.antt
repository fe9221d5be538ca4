-- What a call from C leaves: its result, and every word and byte that was lent to it.
use Rattle.std.specs.Prelude.{Bool, cond, ◌&&◌, ◌||◌, List, ℕ, ◌/◌, ◌%◌, eqb, ltb}
use Rattle.protocol.specs.Numbers.{invalid, not_sound}
use Rattle.state.specs.State.{State, state_of}
use Rattle.state.specs.Soundness.{is_sound}
use Rattle.state.specs.declared.Control.{Control}
use Rattle.rules.specs.Respond.{Effect, job_outcome, Served, served}
use Rattle.tray.specs.Tray.{code_unit, Tray, tray}
use Rattle.store_file.specs.Saved.{Call, saved_into}
use Rattle.store_file.specs.Loaded.{Loaded, loaded}
use Rattle.visits.specs.Visits.{Looked}
use Rattle.config.specs.Answer.{Outcome, outcome}
use Rattle.capi_control.specs.Words.{control_fits, control_of, words_of}

-- the memory that holds a state: the control block's words, then what the state lends
pub record Memory : Type 0 where
  pub control : List ℕ
  pub table : List ℕ
  pub names : List ℕ
  pub committed : List ℕ
  pub staged : List ℕ
  pub image : List ℕ
  pub hash : List ℕ

-- of these: control words, table, names, committed, staged, image, hash
abbrev pub memory : (control table names committed staged image hash : List ℕ) → Memory
memory w t n c g i h = record { control = w; table = t; names = n; committed = c; staged = g; image = i; hash = h }

-- the state in a memory
abbrev pub state_in : Memory → State
state_in l = state_of (control_of l.control) l.table l.names l.committed l.staged l.image l.hash

-- the values of a state that are kept by value
abbrev pub control_in : State → Control
control_in s = record {
  rows = s.sessions.rows;
  slots = s.store.slots;
  marks = s.store.marks;
  committed_len = s.store.committed_lens;
  staged_len = s.store.staged_lens;
  phase = s.flash_group.phase;
  image_len = s.flash_group.image_len;
  hash_len = s.flash_group.hash_len;
  next = s.next;
  last_sweep = s.last_sweep;
}

-- the memory of a state
abbrev pub memory_of : State → Memory
memory_of s = record {
  control = words_of (control_in s);
  table = s.sessions.table;
  names = s.store.names;
  committed = s.store.committed;
  staged = s.store.staged;
  image = s.flash_group.image;
  hash = s.flash_group.hash;
}

-- ---- a request
-- completion code, response length, memory, answer buffer
pub record Responded : Type 0 where
  pub code : ℕ
  pub len : ℕ
  pub memory : Memory
  pub answer : List ℕ

abbrev pub responded_with : Served → Responded
responded_with v = record { code = v.code; len = v.len; memory = memory_of v.state; answer = v.answer }

-- THE C FUNCTION `kramsnep_respond`: the library's answer, where the control block's words are one; else FF, and all is as found (rule 5.13)
unfoldable pub responded : ℕ → List ℕ → Memory → List ℕ → Responded
responded t m l a = cond (control_fits l.control) (responded_with (served t m (state_in l) a)) (record { code = not_sound; len = 0; memory = l; answer = a })

-- what a result says, with what was lent (rule 19.4)
abbrev pub result_of : ℕ → Memory → List ℕ → Responded
result_of r l a = record { code = r % code_unit; len = r / code_unit; memory = l; answer = a }

-- ---- a job outcome
-- completion code and memory
pub record Reported : Type 0 where
  pub code : ℕ
  pub memory : Memory

abbrev pub reported_with : Effect → Reported
reported_with o = record { code = o.code; memory = memory_of o.state }

-- a refusal: all is as found
abbrev pub kept_with : (code : ℕ) → Memory → Reported
kept_with code l = record { code = code; memory = l }

-- the two verdicts on a job
abbrev pub job_failed : ℕ
job_failed = 0

abbrev pub job_good : ℕ
job_good = 1

abbrev pub is_verdict : (verdict : ℕ) → Bool
is_verdict v = eqb v job_failed || eqb v job_good

-- THE C FUNCTION `kramsnep_job_outcome`: FF without a control block or a sound state; then CC for a verdict that is none; then what the library answers (rules 5.13 and 17.1)
unfoldable pub reported : (verdict : ℕ) → Memory → Reported
reported v l =
    cond (control_fits l.control && is_sound (state_in l))
    (cond (is_verdict v) (reported_with (job_outcome (eqb v job_good) (state_in l)))
    (kept_with invalid l))
    (kept_with not_sound l)

-- ---- a store file
-- what the result of saving says, with the buffer (rule 23.6)
abbrev pub part_of : ℕ → List ℕ → Call
part_of r b = record { code = r % code_unit; len = r / code_unit; buffer = b }

-- THE C FUNCTION `kramsnep_save_part`: the part that the library writes, where the control block's words are one; else FF, and the buffer is as found (rule 23.6)
unfoldable pub saved_call : ℕ → Memory → List ℕ → Call
saved_call p l b = cond (control_fits l.control) (saved_into p (state_in l) b) (record { code = not_sound; len = 0; buffer = b })

-- what the reader leaves, in a memory
abbrev pub loaded_with : Loaded → Reported
loaded_with v = record { code = v.code; memory = memory_of v.state }

-- THE C FUNCTION `kramsnep_load`: what the library makes of the file, where the control block's words are one; else FF, and all is as found (rule 24.8)
unfoldable pub loaded_call : List ℕ → Memory → Reported
loaded_call f l = cond (control_fits l.control) (loaded_with (loaded f (state_in l))) (kept_with not_sound l)

-- ---- a lookup
-- in a result of two numbers the first fills the byte above the code, and the second stands above both (rules 25.4 and 30.8)
abbrev pub second_unit : ℕ
second_unit = 65536

-- what the result of a lookup says: the row, and the number of rows visited (rule 25.4)
abbrev pub lookup_in : ℕ → Looked
lookup_in r = record { code = r % code_unit; row = r / code_unit % code_unit; visits = r / second_unit }

-- ---- a flash configuration
-- the most that fits beside the code into 64 bits (rule 28.6)
abbrev pub number_most : ℕ
number_most = 72057594037927935

-- what the result of reading says, with the fields (rule 28.6)
abbrev pub config_in : ℕ → List ℕ → Outcome
config_in r f = outcome (r % code_unit) (r / code_unit) f

-- a number that does not fit is told as the most that does (rule 28.6)
abbrev pub fitted : Outcome → Outcome
fitted o = outcome o.code (cond (ltb number_most o.number) number_most o.number) o.fields

-- ---- a tray
-- completion code, messages done, bytes of their responses, memory, responses and results
pub record TrayCall : Type 0 where
  pub code : ℕ
  pub done : ℕ
  pub len : ℕ
  pub memory : Memory
  pub responses : List ℕ
  pub results : List ℕ

abbrev pub tray_call_with : Tray → TrayCall
tray_call_with v = record { code = v.code; done = v.done; len = v.len; memory = memory_of v.state; responses = v.responses; results = v.results }

-- THE C FUNCTION `kramsnep_tray`: what the library makes of the tray, where the control block's words are one; else FF, and all is as found (rule 30.8)
unfoldable pub tray_call : (records : List ℕ) → Memory → (responses results : List ℕ) → TrayCall
tray_call b l a w =
    cond (control_fits l.control) (tray_call_with (tray b (state_in l) a w))
    (record { code = not_sound; done = 0; len = 0; memory = l; responses = a; results = w })

-- what its result says, with what was lent (rule 30.8)
abbrev pub tray_in : ℕ → Memory → (responses results : List ℕ) → TrayCall
tray_in r l a w = record { code = r % code_unit; done = r / code_unit % code_unit; len = r / second_unit; memory = l; responses = a; results = w }
