-- `store_fault`: the fault of the file is the fault of what is still to come.
use Rattle.std.proofs.Common.{◌≡◌, ◌-◌, length}
use Rattle.store_file.specs.Messages.{inside, store_in}
use Rattle.wire.specs.Fields.{store_keys}
use Rattle.wire.specs.Walk.{walk_with}
use Rattle.store_check.proofs.store_fault.Given as goal

abbrev pub invariant-loop-at : goal.invariant-loop-at
invariant-loop-at l = (store_in l.file).fault ≡ (walk_with store_keys (inside l.file) l.file l.at (length l.file)).fault

abbrev pub decreases-loop-at : goal.decreases-loop-at
decreases-loop-at l = length l.file - l.at
