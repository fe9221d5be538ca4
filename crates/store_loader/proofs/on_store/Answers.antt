-- `on_store`: from the mask's bit and the row's blob.
use Rattle.std.proofs.Common.{sym, ap, ap₂, Bool, ◌&&◌, List, ℕ, ltb, get_or}
use Rattle.protocol.specs.Numbers.{slot_count}
use Rattle.state.specs.State.{State}
use Rattle.store_loader.proofs.on_store.Goals as goal

pub returns : goal.returns
returns c =
    λ (s : State).
    ap₂ (λ (x y : Bool). x && y) c.has.ensures (ap (λ (l : List ℕ). ltb (get_or l 1 0) slot_count) (sym c.read_row-e.ensures))
