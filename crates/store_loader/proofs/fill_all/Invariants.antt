-- `fill_all`: the slots filled so far and the blobs that are left make the same store.
use Rattle.wire_reader.specs.Left.{left}
use Rattle.store_loader.proofs.Laws.{Filled}
use Rattle.store_loader.proofs.fill_all.Given as goal

abbrev pub invariant-loop-k : goal.invariant-loop-k
invariant-loop-k l = let a = l.initial in
    let i = l.k-iterator in
    Filled l.file a.names a.committed a.control l.names l.committed l.control i.count (left i.iter)
