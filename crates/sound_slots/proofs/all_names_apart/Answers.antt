-- `all_names_apart`: no two slots in use have one name.
use Rattle.std.proofs.Common.{◌≡◌, refl, ◌∙◌, rules}
use Rattle.laws.specs.All.{pairs}
use Rattle.state.specs.Soundness.{names_apart}
use Rattle.state.specs.State.{State, with_names}
use Rattle.sound_rows.specs.Clash.{apart_by}
use Rattle.sound_rows.proofs.Below.{pairs-ext}
use Rattle.sound_slots.specs.Slots.{names_same}
use Rattle.sound_slots.proofs.all_names_apart.Goals as goal

as_pairs : (s : State) → pairs (apart_by s.store.slots (names_same s)) 16 ≡ pairs (names_apart s) 16
unfolding names_apart names_same
as_pairs s = pairs-ext _ _ _ (λ i j. refl)

pub returns : goal.returns
returns c = λ s. c.none_clash.ensures (names_same (with_names c.args.slots c.args.names.now s)) (λ i j r l k post. search rules) ∙ as_pairs _
