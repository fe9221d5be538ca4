-- `free_slot`: each part of the slot from the step that zeroes it.
use Rattle.std.proofs.Common.{set}
use Rattle.memory_slots.proofs.free_slot.Goals as goal

pub returns : goal.returns
returns c =
    λ t i h.
    let a = c.args in
    λ j. record {
      sessions = record { table = t; rows = a.control.now.rows };
      store = record {
        names = c.clear_name.ensures j;
        committed = c.clear_region.ensures j;
        staged = c.clear_region-2.ensures j;
        slots = c.clear_bit-control.ensures j;
        marks = c.clear_bit-control-2.ensures j;
        committed_lens = set a.control.now.committed_len a.k 0;
        staged_lens = set a.control.now.staged_len a.k 0;
      };
      flash_group = record { phase = a.control.now.phase; image = i; hash = h; image_len = a.control.now.image_len; hash_len = a.control.now.hash_len };
      next = a.control.now.next;
      last_sweep = a.control.now.last_sweep;
    }
