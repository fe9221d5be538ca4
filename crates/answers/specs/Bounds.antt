-- A Read's reply has few bytes.
use Rattle.std.specs.Prelude.{ℕ, ◌≤◌, min, length}
use Rattle.protocol.specs.Numbers.{read_most}
use Rattle.protocol.specs.Frame.{Reply, refused, done, reply}

-- ---- Read
-- the fields are at most as many as asked for, and at most 58
abbrev pub Few : ℕ → Reply → Type 0
Few n (refused code) = Unit {0}
Few n done = Unit {0}
Few n (reply f) = length f ≤ min n read_most
