-- What the code of a command says and leaves, in the terms of the rules.
use Rattle.std.specs.Prelude.{List, ℕ, Result, Ok, Err}
use Rattle.std.proofs.lemmas.List.Edits.{sets}
use Rattle.laws.specs.Bytes.{bytes_of}
use Rattle.laws.specs.Ranges.{part}
use Rattle.protocol.specs.Decode.{fields_at}
use Rattle.protocol.specs.declared.Code.{Code}
use Rattle.protocol.specs.Frame.{Reply, refused, done, reply, stat_fields}
use Rattle.state.specs.State.{State, state_of}
use Rattle.state.specs.Memory.{state_in}
use Rattle.state.specs.declared.Control.{Control}
use Rattle.state.specs.declared.Memory.{Memory}
use Rattle.response_types.specs.declared.Said.{Said}
use Rattle.response_types.specs.declared.Said.TheVariants.{Done, Session, Number, Stat, Fields}

-- what a command comes to: what is said, or the code of a refusal
abbrev pub Outcome : Type 0
Outcome = Result Said Code

-- the reply; `Fields` stand in the answer buffer a
abbrev pub reply_of : Outcome → List ℕ → Reply
reply_of (Err code) a = refused code.0
reply_of (Ok Done) a = done
reply_of (Ok (Session id)) a = reply (bytes_of 2 id)
reply_of (Ok (Number n)) a = reply (bytes_of 4 n)
reply_of (Ok (Stat state size)) a = reply (stat_fields state size)
reply_of (Ok (Fields len)) a = reply (part fields_at len a)

-- the reply and the state: what is said, the control block, then table, names, committed, staged, image, hash, and the answer buffer
abbrev pub after_said : Outcome → Control → (table names committed staged image hash answer : List ℕ) → Reply × State
after_said said v t n c g i h a = (reply_of said a, state_of v t n c g i h)

-- the same, of all that is lent
abbrev pub after : Outcome → Memory → (answer : List ℕ) → Reply × State
after said m a = (reply_of said a, state_in m)

-- the answer buffer once a reply's fields are laid behind the place of header and CRC; all else is kept
abbrev pub fields_laid : Reply → List ℕ → List ℕ
fields_laid (refused code) a = a
fields_laid done a = a
fields_laid (reply f) a = sets a fields_at f

-- how many bytes of fields a command has laid in the answer buffer
abbrev pub fields_length : Outcome → ℕ
fields_length (Err code) = 0
fields_length (Ok Done) = 0
fields_length (Ok (Session id)) = 0
fields_length (Ok (Number n)) = 0
fields_length (Ok (Stat state size)) = 0
fields_length (Ok (Fields len)) = len
