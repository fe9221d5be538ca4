-- What the loading code leaves, in the words of the definitions.
use Rattle.std.specs.Prelude.{Result, ◌≡◌, true, List, ℕ, ◌≤◌, length}
use Rattle.protocol.specs.Numbers.{slot_size}
use Rattle.protocol.specs.Verdict.{code_of}
use Rattle.protocol.specs.declared.Code.{Code}
use Rattle.protocol.specs.Names.{store_name}
use Rattle.state.specs.declared.Control.{Control}
use Rattle.wire.specs.declared.Field.{Field}
use Rattle.state.specs.State.{State, state_of, in_store}
use Rattle.store_file.specs.Messages.{Scan, scan_at}
use Rattle.store_file.specs.Loaded.{filled_from, Loaded}

-- a blob of a file fits a slot
pub record Fitting (f : List ℕ) (blob : Field) : Type 0 where
  pub inside : blob.next ≤ length f
  pub named : store_name (scan_at f blob).name ≡ true
  pub sized : length (scan_at f blob).bytes ≤ slot_size

-- a state whose slots from k on become these blobs
abbrev pub filling : ℕ → List Scan → State → State
filling k xs s = in_store.put (filled_from k xs s.store) s

-- the code and the state that the reader leaves: table, names, committed, staged, image, hash
abbrev pub loaded_of : Result Unit Code → Control → (table names committed staged image hash : List ℕ) → Loaded
loaded_of r v t n c g i h = record { code = code_of r; state = state_of v t n c g i h }
