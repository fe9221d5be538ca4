-- What is shown of a state with two sessions: demand 3 speaks of their lists.
use Rattle.std.specs.Prelude.{◌≡◌, true, List, [], ◌∷◌, ◌++◌, ℕ}
use Rattle.laws.specs.Merge.{Same, Merge, All, tag, alone}
use Rattle.protocol.specs.Numbers.{success}
use Rattle.state.specs.State.{State}
use Rattle.state.specs.Soundness.{is_sound}
use Rattle.rules.proofs.Messages.{ask_read, ask_write}
use Rattle.guarantees.specs.Merging.{Event, message, step, Mine}
use Rattle.guarantees.proofs.Steps.{codes}

-- the bytes that are written
abbrev pub some_bytes : List ℕ
some_bytes = 7 ∷ 8 ∷ 9 ∷ []

-- a Write and a Read of session 0; the clock runs backward
abbrev pub write_and_read : List Event
write_and_read = message 200 (ask_write 0 0 some_bytes) ∷ message 150 (ask_read 0 0 3) ∷ []

-- what is shown of a state with two sessions, and of the second one's list ys with the codes cs
pub record Met (s : State) (ys : List Event) (cs : List ℕ) : Type 0 where
  pub is-sound : is_sound s ≡ true
  pub first-owns : All (Mine s 0) write_and_read
  pub second-owns : All (Mine s 1) ys
  -- what every event is answered
  pub first-codes : codes (alone step s write_and_read) ≡ success ∷ success ∷ []
  pub second-codes : codes (alone step s ys) ≡ cs
  -- so demand 3 speaks of every merge of the two lists
  pub merged : (zs : List (ℕ × Event)) → Merge 0 1 write_and_read ys zs → Same step s zs (tag 0 write_and_read ++ tag 1 ys) × Same step s zs (tag 1 ys ++ tag 0 write_and_read)
