-- What one request comes to on a sound state: the reply and the state that the rules give, and the answer buffer, ready for the response. Assumes nothing.
use Rattle.std.specs.Prelude.{◌≡◌, refl, Bool, true, false, cond, List, ℕ}
use Rattle.std.proofs.Common.{◌∙◌, ap}
use Rattle.protocol.specs.Frame.{Reply, answer_after}
use Rattle.protocol.specs.declared.Request.{Request}
use Rattle.protocol.specs.declared.Request.TheVariants.{Count, Enumerate, Open, Read, Write, Commit, Close, Delete, Stat, SessionStat, WriteMeta, Refused}
use Rattle.state.specs.State.{State}
use Rattle.rules.specs.Respond.{answered}
use Rattle.response_types.specs.After.{fields_laid}
use Rattle.response_send.specs.Over.{laid-over}

-- the requests whose command lays its fields into the answer buffer itself: a name, or the bytes of a blob
abbrev pub lays_fields : Request → Bool
lays_fields Count = false
lays_fields (Enumerate index) = true
lays_fields (Open flags blob) = false
lays_fields (Read session offset count) = true
lays_fields (Write session offset start) = false
lays_fields (Commit session len rest) = false
lays_fields (Close session) = false
lays_fields (Delete blob) = false
lays_fields (Stat blob) = false
lays_fields (SessionStat session) = false
lays_fields (WriteMeta session) = false
lays_fields (Refused code) = false

-- reply, state and answer buffer: behind the place of header and CRC stand the fields of a request that lays them; all else of the buffer is as found
abbrev pub readied : Request → (clock : ℕ) → (message : List ℕ) → State → (answer : List ℕ) → (Reply × State) × List ℕ
readied q t m s a = (answered q t m s, cond (lays_fields q) (fields_laid (answered q t m s).0 a) a)

-- the response leaves in that buffer what it leaves in the one that was found
pub ready-over : (q : Request) (t : ℕ) (m : List ℕ) (s : State) (a b : List ℕ) → b ≡ (readied q t m s a).1 → (sub : ℕ)
    → answer_after sub (answered q t m s).0 b ≡ answer_after sub (answered q t m s).0 a
ready-over q t m s a b e sub = ap (answer_after sub r) e ∙ go (lays_fields q)
  where
    r : Reply
    r = (answered q t m s).0

    go : (y : Bool) → answer_after sub r (cond y (fields_laid r a) a) ≡ answer_after sub r a
    go true = laid-over sub r a
    go false = refl
