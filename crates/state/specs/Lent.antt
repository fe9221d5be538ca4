-- What is lent has its length.
use Rattle.std.specs.Prelude.{◌≡◌, List, ℕ, ◌*◌, length}
use Rattle.protocol.specs.Numbers.{row_count, row_words, slot_count, name_size, slot_size, image_size, hash_size, answer_size}

-- each lent buffer has its size: table, names, committed or staged regions, image, hash, answer (rule 6.1)
abbrev pub TableLent : List ℕ → Type 0
TableLent l = length l ≡ row_count * row_words

abbrev pub NamesLent : List ℕ → Type 0
NamesLent l = length l ≡ slot_count * name_size

abbrev pub RegionsLent : List ℕ → Type 0
RegionsLent l = length l ≡ slot_count * slot_size

abbrev pub ImageLent : List ℕ → Type 0
ImageLent l = length l ≡ image_size

abbrev pub HashLent : List ℕ → Type 0
HashLent l = length l ≡ hash_size

abbrev pub AnswerLent : List ℕ → Type 0
AnswerLent l = length l ≡ answer_size
