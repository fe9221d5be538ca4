-- `has_writer`: some row writes the slot.
use Rattle.std.proofs.Common.{◌≡◌, true, false, refl, rules}
use Rattle.std.proofs.lemmas.Iterator.{cases_from_any, YieldsList-from_range}
use Rattle.state.specs.Soundness.{has_writer, writes_slot}
use Rattle.state.specs.State.{with_rows}
use Rattle.sound_rows.proofs.Below.{any_from_range}
use Rattle.sound_rows.proofs.has_writer.Goals as goal

pub returns : goal.returns
unfolding has_writer
returns c =
    λ s.
    let p = writes_slot (with_rows c.args.rows c.args.table.now s) c.args.k in
    any_from_range p 16 _
    (cases_from_any _ _ _ (λ r. p r ≡ true) (λ r. p r ≡ false) c.any.ensures.ran (YieldsList-from_range 0 16 16 refl refl) (λ x q k. search rules) (λ x q k. search rules))
