-- Blobs of one name, and blobs of one class of names: what the code finds out.
use Rattle.std.specs.Prelude.{◌≡◌, Bool, true, false, cond, List, [], ◌∷◌, ℕ, ◌+◌, ◌%◌, eqb, leb, length}
use Rattle.laws.specs.Bytes.{same}
use Rattle.name_filter.specs.Hash.{name_hash}
use Rattle.name_filter.specs.Filter.{seen_in}
use Rattle.store_file.specs.Messages.{Scan}
use Rattle.store_file.specs.Loaded.{different}

-- how many blobs have the name n
unfoldable pub count_named : List ℕ → List Scan → ℕ
count_named n [] = 0
count_named n (x ∷ xs) = cond (same n x.name) 1 0 + count_named n xs

-- a blob's name is of class c of m classes
abbrev pub in_class : (m c : ℕ) → Scan → Bool
in_class m c x = eqb (name_hash x.name % m) c

-- the blobs of a class
unfoldable pub of_class : (m c : ℕ) → List Scan → List Scan
of_class m c [] = []
of_class m c (x ∷ xs) = cond (in_class m c x) (x ∷ of_class m c xs) (of_class m c xs)

-- what is found out of one blob x of the file's blobs, with a filter that was `old` and is `new`: where the answer is no, its name stands twice; where
-- it is yes and the filter knew the name, it stands once; the filter knows what it knew, and the name
pub record Judged (all : List Scan) (m c : ℕ) (x : Scan) (answer : Bool) (old new : List ℕ) : Type 0 where
  pub long : length new ≡ length old
  pub kept : (hash : ℕ) → seen_in old hash ≡ true → seen_in new hash ≡ true
  pub marked : in_class m c x ≡ true → seen_in new (name_hash x.name) ≡ true
  pub yes : answer ≡ true → in_class m c x ≡ true → seen_in old (name_hash x.name) ≡ true → leb (count_named x.name all) 1 ≡ true
  pub no : answer ≡ false → leb (count_named x.name all) 1 ≡ false

-- what is found out of one class: where the answer is no, some name stands twice; where it is yes, none of the class does
pub record ClassTested (all : List Scan) (m c : ℕ) (answer : Bool) : Type 0 where
  pub yes : answer ≡ true → different (of_class m c all) ≡ true
  pub no : answer ≡ false → different all ≡ false
