-- `all_apart`: no two rows in use clash.
use Rattle.std.proofs.Common.{refl, ◌∙◌, rules}
use Rattle.state.specs.Soundness.{rows_clash, rows_apart}
use Rattle.state.specs.State.{with_rows}
use Rattle.sound_rows.proofs.Below.{pairs-ext}
use Rattle.sound_rows.proofs.all_apart.Goals as goal

pub returns : goal.returns
unfolding rows_apart
returns c =
    λ s.
    c.none_clash.ensures (rows_clash (with_rows c.args.rows c.args.table.now s)) (λ i j r l k post. search rules)
    ∙ pairs-ext _ _ _ (λ i j. refl)
