-- A tray: up to 64 requests, each with its clock, in one call (section 30).
use Rattle.std.specs.Prelude.{cond, ◌&&◌, List, [], ◌∷◌, ◌++◌, ℕ, ◌+◌, ◌*◌, ◌-◌, eqb, leb, length, drop}
use Rattle.protocol.specs.Numbers.{success, not_sound, wrong_length, too_long, answer_size}
use Rattle.protocol.specs.Frame.{laid}
use Rattle.state.specs.State.{State}
use Rattle.state.specs.Soundness.{is_sound}
use Rattle.rules.specs.Respond.{Effect, respond}
use Rattle.records.specs.Records.{Timed, requests_in, bytes_in}

-- ---- the tray's form
-- the most records of a tray, and the words of its results (rules 30.1 and 30.6)
abbrev pub tray_most : ℕ
tray_most = 64

-- the messages of the first 64 records, with their clocks (rule 30.1)
abbrev pub messages_in : (records : List ℕ) → List Timed
messages_in b = requests_in tray_most b

-- the bytes behind these records (rule 30.3)
abbrev pub bytes_behind : (records : List ℕ) → List ℕ
bytes_behind b = drop (bytes_in (messages_in b)) b

-- bytes behind n whole records: behind 64 they are too many, behind fewer they are a cut record (rule 30.3)
abbrev pub form_of : (behind : List ℕ) (n : ℕ) → ℕ
form_of [] n = success
form_of (x ∷ b) n = cond (eqb n tray_most) too_long wrong_length

-- the code for the bytes alone: 00, C7 or C8 (rule 30.3)
unfoldable pub tray_form : (records : List ℕ) → ℕ
tray_form b = form_of (bytes_behind b) (length (messages_in b))

-- WHAT A TRAY IS REFUSED WITH, before anything is done; 00 where it is not. A state that is not sound, and results of another length, come first (rule 30.2)
unfoldable pub tray_code : (records : List ℕ) → State → (results : List ℕ) → ℕ
tray_code b s w = cond (is_sound s && eqb (length w) tray_most) (tray_form b) not_sound

-- ---- its messages
-- a result holds the completion code in its lowest byte, and the response length above it (rule 19.4)
abbrev pub code_unit : ℕ
code_unit = 256

-- a message's result, as a call for it alone gives it (rule 30.6)
abbrev pub result_word : Effect → ℕ
result_word o = o.code + code_unit * length o.response

-- what was done: each message's result, the responses end to end, and the state (rules 30.4, 30.5 and 30.6)
pub record Done : Type 0 where
  pub results : List ℕ
  pub responses : List ℕ
  pub state : State

abbrev pub nothing_done : State → Done
nothing_done s = record { results = []; responses = []; state = s }

-- a message's result and response, in front of those of the messages behind it (rules 30.5 and 30.6)
abbrev pub done_first : Effect → Done → Done
done_first o d = record { results = result_word o ∷ d.results; responses = o.response ++ d.responses; state = d.state }

-- EACH MESSAGE on the state that the one before left, whatever its code was, while the free bytes are enough for any response (rules 30.4 and 30.7)
unfoldable pub done_in : (free : ℕ) → List Timed → State → Done
done_in free [] s = nothing_done s
done_in free (q ∷ qs) s =
    cond (leb answer_size free)
    (done_first (respond q.0 q.1 s) (done_in (free - length (respond q.0 q.1 s).response) qs (respond q.0 q.1 s).state))
    (nothing_done s)

-- ---- the call
-- the completion code, how many messages were done, how many bytes their responses have; the state; the two lent buffers (rule 30.7)
pub record Tray : Type 0 where
  pub code : ℕ
  pub done : ℕ
  pub len : ℕ
  pub state : State
  pub responses : List ℕ
  pub results : List ℕ

-- what was done, at the front of each buffer; all behind it is as found (rules 30.5 and 30.6)
abbrev pub tray_done : Done → (responses results : List ℕ) → Tray
tray_done d a w = record {
  code = success;
  done = length d.results;
  len = length d.responses;
  state = d.state;
  responses = laid d.responses a;
  results = laid d.results w;
}

-- a refusal: nothing is done, and all is as found (rule 30.2)
abbrev pub tray_refused : (code : ℕ) → State → (responses results : List ℕ) → Tray
tray_refused code s a w = record { code = code; done = 0; len = 0; state = s; responses = a; results = w }

-- THE TRAY: the records, the state, the buffer for the responses and the words for the results; looked at whole, then done or refused (rule 30.2)
unfoldable pub tray : (records : List ℕ) → State → (responses results : List ℕ) → Tray
tray b s a w = cond (eqb (tray_code b s w) success) (tray_done (done_in (length a) (messages_in b) s) a w) (tray_refused (tray_code b s w) s a w)
