-- The two messages of a store file, BinaryBlobStore and in it BinaryBlob, as a reader finds them.
use Rattle.std.specs.Prelude.{cond, List, [], ◌∷◌, ℕ, eqb, length}
use Rattle.wire.specs.declared.Field.{Field}
use Rattle.wire.specs.Fields.{store_keys}
use Rattle.wire.specs.Walk.{Walked, walk_with, walk, last}

-- of a store: its base id (rule 23.1)
abbrev pub base_field : ℕ
base_field = 1

-- of a store: a blob (rule 23.1)
abbrev pub blob_field : ℕ
blob_field = 2

-- of a blob: its name (rule 23.1)
abbrev pub name_field : ℕ
name_field = 1

-- of a blob: its data (rule 23.1)
abbrev pub data_field : ℕ
data_field = 2

-- a blob: a name and a scan (rule 23.2)
pub record Scan : Type 0 where
  pub name : List ℕ
  pub bytes : List ℕ

-- the message that stands in a field of the file f (rule 24.3)
abbrev pub blob_at : List ℕ → Field → Walked
blob_at f i = walk store_keys f i.start i.next

-- the blob in it: an absent name counts as an empty one, which is no store name; absent data is an empty scan (rule 24.4)
abbrev pub scan_at : List ℕ → Field → Scan
scan_at f i = record { name = last f name_field (blob_at f i).items; bytes = last f data_field (blob_at f i).items }

-- what is wrong inside a field of the file: of a blob its first fault, of any other field nothing (rule 24.3)
abbrev pub inside : List ℕ → Field → ℕ
inside f i = cond (eqb i.number blob_field) (blob_at f i).fault 0

-- the blobs, in the order of the file (rule 24.4)
unfoldable pub scans_at : List ℕ → List Field → List Scan
scans_at f [] = []
scans_at f (i ∷ is) = cond (eqb i.number blob_field) (scan_at f i ∷ scans_at f is) (scans_at f is)

-- the whole file, from front to back, blobs looked into (rule 24.3)
abbrev pub store_in : List ℕ → Walked
store_in f = walk_with store_keys (inside f) f 0 (length f)

-- WHAT A READER FINDS: the code of the first fault, 0 if there is none; the base; the blobs (rule 24.4)
pub record Reading : Type 0 where
  pub fault : ℕ
  pub base : List ℕ
  pub scans : List Scan

-- the same, of a file (rule 24.4)
unfoldable pub reading : List ℕ → Reading
reading f = record { fault = (store_in f).fault; base = last f base_field (store_in f).items; scans = scans_at f (store_in f).items }
