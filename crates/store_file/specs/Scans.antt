-- The blobs of a file from a place on, for code that goes through a file.
use Rattle.std.specs.Prelude.{Bool, not, List, ℕ, length, map}
use Rattle.laws.specs.Bytes.{same}
use Rattle.wire.specs.declared.Field.{Field}
use Rattle.wire.specs.Fields.{bytes_type, store_keys}
use Rattle.wire.specs.Walk.{walk}
use Rattle.store_file.specs.Messages.{Scan, blob_field, scan_at, scans_at}

-- the blobs from the place `at` on
abbrev pub scans_from : List ℕ → ℕ → List Scan
scans_from f at = scans_at f (walk store_keys f at (length f)).items

-- the blobs that stand in these fields
abbrev pub scans_in : List ℕ → List Field → List Scan
scans_in f fs = map (scan_at f) fs

-- the blob between two places
abbrev pub scan_between : List ℕ → ℕ → ℕ → Scan
scan_between f start stop = scan_at f (record { number = blob_field; kind = bytes_type; start = start; next = stop })

-- a blob has another name than n
abbrev pub apart_from : List ℕ → Scan → Bool
apart_from n y = not (same n y.name)
