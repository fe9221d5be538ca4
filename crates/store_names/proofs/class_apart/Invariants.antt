-- `class_apart`: the blobs passed are apart in their class, and the filter knows each of them.
use Rattle.std.proofs.Common.{length}
use Rattle.laws.specs.Merge.{All}
use Rattle.wire.proofs.Standing.{Stands}
use Rattle.wire_reader.specs.Left.{left}
use Rattle.store_file.specs.Messages.{blob_field}
use Rattle.store_file.specs.Scans.{scans_from, scans_in}
use Rattle.store_names.specs.Laws.{Passed}
use Rattle.store_names.proofs.class_apart.Given as goal

abbrev pub invariant-loop-blob : goal.invariant-loop-blob
invariant-loop-blob l = let blobs = left l.blob-iterator in
    record {
      stand : All (Stands blob_field (length l.file)) blobs;
      passed : Passed (scans_from l.file 0) (scans_in l.file blobs) l.classes l.class l.filter.words;
    }
