-- What a caller lends, as one value.
use Rattle.std.specs.Prelude.{◌≡◌}
use Rattle.std.proofs.Common.{refl, ◌∙◌}
use Rattle.state.specs.State.{State, state_of}
use Rattle.state.specs.declared.Memory.{Memory}

-- the state that it holds
abbrev pub state_in : Memory → State
state_in m = state_of m.control m.table.now m.names.now m.committed.now m.staged.now m.image.now m.hash.now

-- the same lent memory, with whatever it holds: no reference was put in another's place
pub record SameMemory (old new : Memory) : Type 0 where
  pub table : new.table.ghost_name ≡ old.table.ghost_name
  pub names : new.names.ghost_name ≡ old.names.ghost_name
  pub committed : new.committed.ghost_name ≡ old.committed.ghost_name
  pub staged : new.staged.ghost_name ≡ old.staged.ghost_name
  pub image : new.image.ghost_name ≡ old.image.ghost_name
  pub hash : new.hash.ghost_name ≡ old.hash.ghost_name

pub same-memory : (m : Memory) → SameMemory m m
same-memory m = record { table = refl; names = refl; committed = refl; staged = refl; image = refl; hash = refl }

pub same-then : {l m n : Memory} → SameMemory l m → SameMemory m n → SameMemory l n
same-then p q = record {
  table = q.table ∙ p.table;
  names = q.names ∙ p.names;
  committed = q.committed ∙ p.committed;
  staged = q.staged ∙ p.staged;
  image = q.image ∙ p.image;
  hash = q.hash ∙ p.hash;
}
