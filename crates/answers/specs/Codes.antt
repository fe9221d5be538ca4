-- The documented codes.
use Rattle.std.specs.Prelude.{List, [], ◌∷◌, ℕ}
use Rattle.protocol.specs.Numbers.{success, not_sound, not_supported}
use Rattle.answers.specs.Replies.{refusals}

-- the eleven completion codes of a message (rules 7.1 to 7.11)
abbrev pub documented : List ℕ
documented = success ∷ not_sound ∷ refusals

-- the three of a job outcome (rules 17.1 and 17.3)
abbrev pub outcomes : List ℕ
outcomes = success ∷ not_sound ∷ not_supported ∷ []
