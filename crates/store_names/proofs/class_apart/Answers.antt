-- `class_apart`: the blobs passed are apart in their class, and the filter knows each of them.
use Rattle.std.proofs.Common.{ap, ◌∙◌}
use Rattle.wire.proofs.Standing.{stand-turn}
use Rattle.wire_reader.specs.Left.{left}
use Rattle.store_file.specs.ScanLaws.{unread}
use Rattle.store_file.specs.Scans.{scans_in}
use Rattle.store_names.specs.Laws.{passed_start, passed_on, passed-end, passed-no, passed-more}
use Rattle.store_names.proofs.class_apart.Goals as goal

pub loop-blob-init : goal.loop-blob-init
loop-blob-init c =
    let u = unread c.args.file.now (left c.into_iter-blob-iterator.result) (ap left c.into_iter-blob-iterator.ensures.into_iter_gives ∙ c.new-blob-items.ensures) in
    record { stand = u.stand; passed = passed_on _ _ _ _ _ (passed_start _ _ _ _) _ u.scans }

pub returns-then-not-blob_apart : goal.returns-then-not-blob_apart
returns-then-not-blob_apart c =
    passed-no _ _ _ _ _ c.loop-blob.invariant.passed _ _ (ap (scans_in c.args.file.now) c.in-Some.ensures.steps) _ _ c.blob_apart.ensures c.if-not-blob_apart.true

pub loop-blob-preserved : goal.loop-blob-preserved
loop-blob-preserved c =
    let i = c.loop-blob.invariant in
    let e = c.in-Some.ensures.steps in
    record {
      stand = (stand-turn c.in-Some.blob _ e i.stand).1;
      passed = passed-more _ _ _ _ _ i.passed _ _ (ap (scans_in c.args.file.now) e) _ _ c.blob_apart.ensures c.if-not-blob_apart.false;
    }

pub returns : goal.returns
returns c = passed-end _ _ _ _ _ c.loop-blob.invariant.passed (ap (scans_in c.args.file.now) c.in-None.ensures.steps.0)
