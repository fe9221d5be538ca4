-- A row by value: its words, and the row with one of them changed.
use Rattle.std.specs.Prelude.{List, [], ◌∷◌, ℕ, max}
use Rattle.state.specs.Words.{flags_in, status_in, clean_in, word_with}
use Rattle.state.specs.declared.row.Entry.{Entry}

abbrev pub words_of : Entry → List ℕ
words_of e = e.id ∷ e.blob ∷ e.word ∷ e.stamp ∷ []

-- the stamp raised to the clock (rule 18.1)
abbrev pub lifted : Entry → ℕ → Entry
lifted e t = record { id = e.id; blob = e.blob; word = e.word; stamp = max e.stamp t }

-- another job status
abbrev pub status_set : Entry → ℕ → Entry
status_set e v = record { id = e.id; blob = e.blob; word = word_with (flags_in e.word) v (clean_in e.word); stamp = e.stamp }

-- another clean mark
abbrev pub clean_set : Entry → ℕ → Entry
clean_set e v = record { id = e.id; blob = e.blob; word = word_with (flags_in e.word) (status_in e.word) v; stamp = e.stamp }
