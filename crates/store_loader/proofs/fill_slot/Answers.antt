-- `fill_slot`: each part of the slot from the step that makes it.
use Rattle.std.proofs.Common.{◌≡◌, ◌∙◌, ap, List, ℕ, ◌≤◌, arith, length, set}
use Rattle.laws.specs.Bytes.{padded}
use Rattle.laws.specs.Ranges.{block}
use Rattle.protocol.proofs.Sizes.{slot-size}
use Rattle.protocol.specs.Numbers.{slot_count, name_size, slot_size}
use Rattle.store_file.specs.Messages.{scan_at}
use Rattle.store_loader.proofs.Laws.{zero-block, name-short}
use Rattle.store_loader.proofs.fill_slot.Goals as goal
use Rattle.store_loader.proofs.fill_slot.Goals.{After-last_field-scan}

-- the length of the data is that of the scan, which fits a region
long : (c : After-last_field-scan) → length c.last_field-scan.result.now ≡ length (scan_at c.args.file.now c.args.blob).bytes
long c = ap length c.last_field-scan.ensures

short : (c : After-last_field-scan) → length c.last_field-scan.result.now ≤ slot_size
short c = let e = long c in omega (arith, c.requires.1.1.1.sized)

pub put_name-requires : goal.put_name-requires
put_name-requires c =
    let p = c.requires in
    let l : length c.last_field-name.result.now ≡ length (scan_at c.args.file.now c.args.blob).name = ap length c.last_field-name.ensures in
    (p.1.0, (p.0, omega (arith, name-short _ _ p.1.1.1)))

pub put_region-requires : goal.put_region-requires
put_region-requires c = let p = c.requires in (p.1.1.0, (p.0, short (goal.at.put_region-requires c).After-last_field-scan))

pub overflow_cast-control : goal.overflow_cast-control
overflow_cast-control c = omega (arith, short (goal.at.overflow_cast-control c).After-last_field-scan, slot-size)

pub returns : goal.returns
returns c =
    λ t g i h z.
    let a = c.args in
    let v = a.control.now in
    let n = c.put_name.ensures ∙ ap (λ (w : List ℕ). (block name_size a.k).put (padded name_size w) a.names.now) c.last_field-name.ensures in
    let w = c.put_region.ensures ∙ ap (λ (w : List ℕ). (block slot_size a.k).put (padded slot_size w) a.committed.now) c.last_field-scan.ensures in
    let l = long (goal.at.returns c).After-last_field-scan in
    let s = zero-block slot_size a.k slot_count g c.requires.0 z in
    λ j. record {
      sessions = record { table = t; rows = v.rows };
      store = record {
        names = n j;
        committed = w j;
        staged = s j;
        slots = c.set_bit-control.ensures j;
        marks = c.set_bit-control-2.ensures j;
        committed_lens = set v.committed_len a.k (l j);
        staged_lens = set v.staged_len a.k 0;
      };
      flash_group = record { phase = v.phase; image = i; hash = h; image_len = v.image_len; hash_len = v.hash_len };
      next = v.next;
      last_sweep = v.last_sweep;
    }
