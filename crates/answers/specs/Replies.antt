-- The codes of refusals, and which successes carry fields.
use Rattle.std.specs.Prelude.{Bool, not, ◌||◌, ℕ, eqb}
use mathlib.Core.List.{List, [], ◌∷◌}
use Rattle.protocol.specs.Numbers.{wrong_length, invalid, unknown_command, not_found, out_of_range, too_long, no_room, busy, not_supported}
use Rattle.protocol.specs.Numbers.{write_command, commit_command, close_command, delete_command}

-- the codes of a refusal, but for that of a state that is not sound (rules 7.3 to 7.11)
abbrev pub refusals : List ℕ
refusals = wrong_length ∷ invalid ∷ unknown_command ∷ not_found ∷ out_of_range ∷ too_long ∷ no_room ∷ busy ∷ not_supported ∷ []

-- a success of this subcommand has fields (rules 1.6 and 1.7): all but Write, Commit, Close and Delete
abbrev pub has_fields : (sub : ℕ) → Bool
has_fields sub = not (eqb sub write_command || (eqb sub commit_command || (eqb sub close_command || eqb sub delete_command)))
