-- `clear_store`: each buffer from the step that clears it, the rest as it was.
use Rattle.std.proofs.Common.{◌∙◌, ap, ℕ, ◌*◌, replicate, rules}
use Rattle.laws.specs.Fronts.{cleared}
use Rattle.protocol.proofs.Sizes.{name-size, slot-size}
use Rattle.protocol.specs.Numbers.{slot_count, name_size, slot_size}
use Rattle.state.specs.Words.{fresh}
use Rattle.store_loader.proofs.clear_store.Goals as goal

pub clear_at-requires : goal.clear_at-requires
clear_at-requires c = search (rules, name-size)

pub clear_at-requires-2 : goal.clear_at-requires-2
clear_at-requires-2 c = search (rules, slot-size)

pub clear_at-requires-3 : goal.clear_at-requires-3
clear_at-requires-3 c = search (rules, slot-size)

pub returns : goal.returns
unfolding fresh
returns c =
    λ t i h.
    let a = c.args in
    let v = a.control.now in
    let n = c.clear_at.ensures ∙ cleared (slot_count * name_size) 512 a.names.now (ap (λ (k : ℕ). slot_count * k) name-size) c.requires.0 in
    let g = c.clear_at-2.ensures ∙ cleared (slot_count * slot_size) 65536 a.committed.now (ap (λ (k : ℕ). slot_count * k) slot-size) c.requires.1.0 in
    let s = c.clear_at-3.ensures ∙ cleared (slot_count * slot_size) 65536 a.staged.now (ap (λ (k : ℕ). slot_count * k) slot-size) c.requires.1.1 in
    λ j. record {
      sessions = record { table = t; rows = v.rows };
      store = record { names = n j; committed = g j; staged = s j; slots = 0; marks = 0; committed_lens = replicate slot_count 0; staged_lens = replicate slot_count 0 };
      flash_group = record { phase = v.phase; image = i; hash = h; image_len = v.image_len; hash_len = v.hash_len };
      next = v.next;
      last_sweep = v.last_sweep;
    }
