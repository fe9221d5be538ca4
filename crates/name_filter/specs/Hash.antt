-- The hash of a name: a number of 32 bits, made byte by byte from the front. Assumes nothing.
use mathlib.Core.List.{List, foldl}
use Rattle.std.specs.Prelude.{ℕ, ◌+◌, ◌*◌, ◌%◌}

-- every hash is below this
abbrev pub hash_limit : ℕ
hash_limit = 4294967296

-- what a hash is multiplied by before a byte is added
abbrev pub hash_factor : ℕ
hash_factor = 16777619

-- the hash after one byte more
unfoldable pub hash_step : (hash byte : ℕ) → ℕ
hash_step h b = (h * hash_factor + b) % hash_limit

-- the hash after the bytes of a list, from a start value
unfoldable pub hash_from : ℕ → List ℕ → ℕ
hash_from h s = foldl hash_step h s

-- the hash of no bytes
abbrev pub hash_start : ℕ
hash_start = 2166136261

-- the hash of a name
abbrev pub name_hash : List ℕ → ℕ
name_hash s = hash_from hash_start s
