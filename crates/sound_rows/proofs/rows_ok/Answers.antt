-- `rows_ok`: each row is right.
use Rattle.std.proofs.Common.{◌≡◌, true, false, refl, rules}
use Rattle.std.proofs.lemmas.Iterator.{cases_from_all, YieldsList-from_range}
use Rattle.state.specs.Soundness.{row_ok}
use Rattle.state.specs.State.{state_of}
use Rattle.sound_rows.proofs.Below.{all_from_range}
use Rattle.sound_rows.proofs.rows_ok.Goals as goal

pub returns : goal.returns
returns c =
    λ n m g i h.
    let p = row_ok (state_of c.args.control c.args.table.now n m g i h) in
    all_from_range p 16 _
    (cases_from_all _ _ _ (λ r. p r ≡ true) (λ r. p r ≡ false) c.all.ensures.ran (YieldsList-from_range 0 16 16 refl refl) (λ x q k. search rules) (λ x q k. search rules))
