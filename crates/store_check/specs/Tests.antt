-- What the code finds out about the blobs of a file.
use Rattle.std.specs.Prelude.{◌≡◌, Bool, List, ℕ, leb, length}
use Rattle.protocol.specs.Numbers.{slot_size}
use Rattle.protocol.specs.Names.{store_name}
use Rattle.store_file.specs.Messages.{Scan}
use Rattle.store_file.specs.Loaded.{every}
use Rattle.store_file.specs.Scans.{scans_from}

-- a blob has a store name (rule 24.5)
abbrev pub named_right : Scan → Bool
named_right x = store_name x.name

-- a blob fits a slot (rule 24.5)
abbrev pub sized_right : Scan → Bool
sized_right x = leb (length x.bytes) slot_size

-- of all blobs: whether every name is right, every size, and how many there are
pub record AllTested (f : List ℕ) (names sizes : Bool) (count : ℕ) : Type 0 where
  pub names-are : names ≡ every named_right (scans_from f 0)
  pub sizes-are : sizes ≡ every sized_right (scans_from f 0)
  pub count-is : count ≡ length (scans_from f 0)
