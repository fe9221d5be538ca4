-- `all_different`: class after class, none of which has a name twice.
use Rattle.std.proofs.Common.{◌≡◌, true, ℕ, ◌<◌}
use Rattle.store_file.specs.Loaded.{different}
use Rattle.store_file.specs.Scans.{scans_from}
use Rattle.store_names.specs.Names.{of_class}
use Rattle.store_names.proofs.all_different.Given as goal

abbrev pub invariant-loop-class : goal.invariant-loop-class
invariant-loop-class l = (c : ℕ) → c < l.class → different (of_class l.classes c (scans_from l.file 0)) ≡ true
