-- `sized_right`: the length of the blob's data is compared.
use Rattle.std.proofs.Common.{ap, List, ℕ, length}
use Rattle.std.specs.Prelude.{leb}
use Rattle.protocol.specs.Numbers.{slot_size}
use Rattle.store_check.proofs.sized_right.Goals as goal

pub returns : goal.returns
unfolding slot_size
returns c = ap (λ (s : List ℕ). leb (length s) 4096) c.last_field.ensures
