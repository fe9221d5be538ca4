-- Fields of wire type 2 as they are written, one behind the other.
use Rattle.std.specs.Prelude.{List, [], ◌∷◌, ◌++◌, ℕ, ◌+◌, length}
use Rattle.wire.specs.declared.Field.{Field}
use Rattle.wire.specs.Base128.{shortest}
use Rattle.wire.specs.Fields.{bytes_type, key_of}

-- a field's number and its bytes (rule 22.11)
abbrev pub Content : Type 0
Content = ℕ × List ℕ

-- the key of field n and the length of its value (rule 22.11)
unfoldable pub head_of : ℕ → ℕ → List ℕ
head_of n size = shortest (key_of n bytes_type) ++ shortest size

-- what stands before a field's bytes (rule 22.11)
abbrev pub head : Content → List ℕ
head f = head_of f.0 (length f.1)

-- ONE FIELD, WRITTEN (rule 22.11)
unfoldable pub written : Content → List ℕ
written f = head f ++ f.1

-- FIELDS, WRITTEN (rule 22.11)
unfoldable pub written_all : List Content → List ℕ
written_all [] = []
written_all (f ∷ fs) = written f ++ written_all fs

-- what a walk finds of a field that is written at the place `at`
abbrev pub item_at : ℕ → Content → Field
item_at at f = record { number = f.0; kind = bytes_type; start = at + length (head f); next = at + length (head f) + length f.1 }

-- the same, of several
unfoldable pub items_from : ℕ → List Content → List Field
items_from at [] = []
items_from at (f ∷ fs) = item_at at f ∷ items_from (at + length (head f) + length f.1) fs
