-- What a refused request leaves.
use Rattle.std.specs.Prelude.{Bool, ℕ}
use Rattle.std.proofs.Math.Bool.{true, false}
use Rattle.protocol.specs.declared.Request.{Request}
use Rattle.protocol.specs.declared.Request.TheVariants.{Count, Enumerate, Open, Read, Write, Commit, Close, Delete, Stat, SessionStat, WriteMeta, Refused}
use Rattle.state.specs.State.{State}
use Rattle.rules.specs.Sweep.{swept}

-- the state as a refusal of the request q leaves it: as found, but for Open, which has swept
abbrev pub left_by : Request → ℕ → State → State
left_by Count t s = s
left_by (Enumerate index) t s = s
left_by (Open flags b) t s = swept t s
left_by (Read session offset n) t s = s
left_by (Write session offset start) t s = s
left_by (Commit session len rest) t s = s
left_by (Close session) t s = s
left_by (Delete b) t s = s
left_by (Stat b) t s = s
left_by (SessionStat session) t s = s
left_by (WriteMeta session) t s = s
left_by (Refused code) t s = s

-- where the state is not sound, nothing is done
abbrev pub left_in : Bool → Request → ℕ → State → State
left_in true q t s = left_by q t s
left_in false q t s = s
