-- What a decoded request points to stands in the message: a store name with its bytes, and a Write's bytes. Whoever takes a part of the message needs no other fact. Assumes nothing.
use Rattle.std.specs.Prelude.{◌≡◌, true, List, ℕ, ◌+◌, ◌≤◌, length}
use Rattle.laws.specs.Ranges.{part}
use Rattle.protocol.specs.Numbers.{name_most}
use Rattle.protocol.specs.Names.{store_name}
use Rattle.protocol.specs.declared.Blob.{Blob}
use Rattle.protocol.specs.declared.Blob.TheVariants.{Store, Flash, Base, Unknown}
use Rattle.protocol.specs.declared.Request.{Request}
use Rattle.protocol.specs.declared.Request.TheVariants.{Count, Enumerate, Open, Read, Write, Commit, Close, Delete, Stat, SessionStat, WriteMeta, Refused}

-- a store name ends in the message, and is one
pub record StoreInside (m : List ℕ) (start len : ℕ) : Type 0 where
  pub ends : start + len ≤ length m
  pub short : len ≤ name_most
  pub is_name : store_name (part start len m) ≡ true

abbrev pub BlobInside : List ℕ → Blob → Type 0
BlobInside m (Store start len) = StoreInside m start len
BlobInside m (Flash k) = Unit {0}
BlobInside m Base = Unit {0}
BlobInside m Unknown = Unit {0}

abbrev pub Inside : List ℕ → Request → Type 0
Inside m Count = Unit {0}
Inside m (Enumerate index) = Unit {0}
Inside m (Open flags blob) = BlobInside m blob
Inside m (Read session offset count) = Unit {0}
Inside m (Write session offset start) = start ≤ length m
Inside m (Commit session len rest) = Unit {0}
Inside m (Close session) = Unit {0}
Inside m (Delete blob) = BlobInside m blob
Inside m (Stat blob) = BlobInside m blob
Inside m (SessionStat session) = Unit {0}
Inside m (WriteMeta session) = Unit {0}
Inside m (Refused code) = Unit {0}
