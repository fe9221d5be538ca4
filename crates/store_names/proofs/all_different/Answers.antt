-- `all_different`: class after class, none of which has a name twice.
use Rattle.std.proofs.Common.{sym, arith}
use Rattle.store_file.specs.Scans.{scans_from}
use Rattle.store_names.specs.Laws.{classes-all}
use Rattle.store_names.proofs.all_different.Goals as goal

pub returns : goal.returns
returns c =
    let n = c.class_count-classes in
    sym (classes-all n.result (scans_from c.args.file.now 0) n.ensures (λ k q. c.loop-class.invariant k (omega arith)))
