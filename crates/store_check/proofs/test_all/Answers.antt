-- `test_all`: what is found so far and what is left say the whole.
use Rattle.std.proofs.Common.{ap, ◌∙◌}
use Rattle.wire_reader.specs.Left.{left}
use Rattle.store_check.proofs.Ways.{testing-start, testing-end, testing-more}
use Rattle.store_file.specs.ScanLaws.{unread}
use Rattle.store_check.proofs.test_all.Goals as goal

pub loop-blob-init : goal.loop-blob-init
loop-blob-init c =
    let blobs = left c.into_iter-blob-iterator.result in
    testing-start _ blobs (unread c.args.file.now blobs (ap left c.into_iter-blob-iterator.ensures.into_iter_gives ∙ c.new-blob-items.ensures))

pub loop-blob-preserved : goal.loop-blob-preserved
loop-blob-preserved c =
    testing-more _ _ _ _ _ c.loop-blob.invariant c.in-Some.blob _ c.in-Some.ensures.steps
    c.named_right.result c.sized_right.result c.named_right.ensures c.sized_right.ensures

pub returns : goal.returns
returns c = testing-end _ _ _ _ _ c.loop-blob.invariant c.in-None.ensures.steps.0
