-- DEMAND 3, on bytes: events are messages with their clocks, and job outcomes; whom an event is for.
use Rattle.std.specs.Prelude.{◌≡◌, Bool, true, ◌||◌, List, [], ◌∷◌, ℕ, ◌≤◌, ◌<◌, eqb}
use Rattle.laws.specs.All.{Or}
use Rattle.protocol.specs.Numbers.{slot_count, read_command, write_command, commit_command, close_command, session_stat_command, write_meta_command}
use Rattle.protocol.specs.Decode.{decoded, number_of, values_of}
use Rattle.protocol.specs.Frame.{Answer}
use Rattle.protocol.specs.declared.Request.{Request}
use Rattle.state.specs.State.{State}
use Rattle.state.specs.Words.{ident, blob, Live}
use Rattle.rules.specs.Respond.{Effect, respond, job_outcome}

-- ---- events, and the step that they make
pub data Event : Type 0 where
  message : ℕ → List ℕ → Event
  job_ended : Bool → Event

-- what an event is answered, and what it leaves
abbrev pub effect_on : Event → State → Effect
effect_on (message t m) s = respond t m s
effect_on (job_ended good) s = job_outcome good s

-- code and response bytes, and the state after it
abbrev pub step : State → Event → Answer × State
step s e = (((effect_on e s).code, (effect_on e s).response), (effect_on e s).state)

-- ---- whom an event is for
-- the subcommands that name a session (rule 3.4)
abbrev pub of_session : (number : ℕ) → Bool
of_session n = eqb n read_command || (eqb n write_command || (eqb n commit_command || (eqb n close_command || (eqb n session_stat_command || eqb n write_meta_command))))

-- the first of a request's values is id
abbrev pub FirstIs : ℕ → List ℕ → Type 0
FirstIs id [] = ⊥
FirstIs id (v ∷ vs) = v ≡ id

-- a request names the session with the identifier id by its first value; or its number is above the subcommands, a completion code: it is refused, and names none
abbrev pub NamedBy : Request → (id : ℕ) → Type 0
NamedBy q id = Or (write_meta_command < number_of q) ((of_session (number_of q) ≡ true) × FirstIs id (values_of q))

-- an event names the session that row i has in the state s, a job outcome the flash session; or it is refused early and names none
abbrev pub NamesRow : State → ℕ → Event → Type 0
NamesRow s i (message t m) = NamedBy (decoded m) (ident i s)
NamesRow s i (job_ended good) = slot_count ≤ blob i s

-- the event may stand in the list of the session that row i has in s: a Read, Write, Commit, SessionStat or Close with the identifier that the row has there, also after its Close,
-- or a job outcome where the row is the flash session, or a message that is refused before its command's own order. It admits two kinds more than document 01 asks for:
-- WriteMeta with the identifier, and Open, Delete and Stat that are refused for their name's form (rule 21.8)
abbrev pub Mine : State → ℕ → Event → Type 0
Mine s i e = Live i s × NamesRow s i e
