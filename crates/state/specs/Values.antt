-- The control block with the flash's values replaced.
use Rattle.state.specs.declared.Control.{Control}
use Rattle.state.specs.declared.Phase.{Phase}
use Rattle.state.specs.declared.Phase.TheVariants.{Idle}

-- another phase
abbrev pub in_phase : Control → Phase → Control
in_phase v p = record {
  rows = v.rows;
  slots = v.slots;
  marks = v.marks;
  committed_len = v.committed_len;
  staged_len = v.staged_len;
  phase = p;
  image_len = v.image_len;
  hash_len = v.hash_len;
  next = v.next;
  last_sweep = v.last_sweep;
}

-- Idle, both flash lengths 0
abbrev pub emptied : Control → Control
emptied v = record {
  rows = v.rows;
  slots = v.slots;
  marks = v.marks;
  committed_len = v.committed_len;
  staged_len = v.staged_len;
  phase = Idle;
  image_len = 0;
  hash_len = 0;
  next = v.next;
  last_sweep = v.last_sweep;
}
