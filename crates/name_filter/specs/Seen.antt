-- What a caller knows by the filter: a name that is not seen is none of those marked. Assumes nothing.
use Rattle.std.specs.Prelude.{◌≡◌, ◌≢◌, true, false, List, ℕ}
use Rattle.std.proofs.Common.{sym, ◌∙◌, ap, true≢false}
use Rattle.name_filter.specs.Hash.{name_hash}
use Rattle.name_filter.specs.Filter.{seen_in}

-- EQUAL NAMES HAVE EQUAL HASHES
pub same-hash : (a b : List ℕ) → a ≡ b → name_hash a ≡ name_hash b
same-hash a b e = ap name_hash e

-- so a name that is not seen differs from each that is
pub unseen-differs : (filter a b : List ℕ) → seen_in filter (name_hash a) ≡ true → seen_in filter (name_hash b) ≡ false → a ≢ b
unseen-differs filter a b p q e = true≢false (sym p ∙ ap (seen_in filter) (same-hash a b e) ∙ q)
