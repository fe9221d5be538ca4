-- A reply that fits the answer buffer.
use Rattle.std.specs.Prelude.{◌≤◌}
use Rattle.std.proofs.Math.ListN.{length}
use Rattle.protocol.specs.Numbers.{read_most}
use Rattle.protocol.specs.Frame.{Reply, refused, done, reply}

-- the fields of a reply are at most as long as Read's
abbrev pub Short : Reply → Type 0
Short (refused code) = Unit {0}
Short done = Unit {0}
Short (reply f) = length f ≤ read_most
