-- `test_all`: what is found so far and what is left say the whole.
use Rattle.wire_reader.specs.Left.{left}
use Rattle.store_check.proofs.Ways.{Testing}
use Rattle.store_check.proofs.test_all.Given as goal

abbrev pub invariant-loop-blob : goal.invariant-loop-blob
invariant-loop-blob l = Testing l.file (left l.blob-iterator) l.tests.names l.tests.sizes l.tests.count
