-- `stands_once`: what is counted and what is left make the whole count.
use Rattle.std.proofs.Common.{◌≡◌, ◌+◌, ◌≤◌, length}
use Rattle.laws.specs.Merge.{All}
use Rattle.wire.proofs.Standing.{Stands}
use Rattle.wire_reader.specs.Left.{left}
use Rattle.store_file.specs.Messages.{blob_field}
use Rattle.store_file.specs.Scans.{scans_from, scans_in}
use Rattle.store_names.specs.Names.{count_named}
use Rattle.store_names.proofs.stands_once.Given as goal

abbrev pub invariant-loop-blob : goal.invariant-loop-blob
invariant-loop-blob l = let blobs = left l.blob-iterator in
    record {
      few : l.count + length blobs ≤ length l.file;
      stand : All (Stands blob_field (length l.file)) blobs;
      whole : count_named l.name (scans_from l.file 0) ≡ l.count + count_named l.name (scans_in l.file blobs);
    }
