-- `store_open`: the loop carries the answer for the rows passed.
use Rattle.std.proofs.Common.{◌≡◌, not, ℕ}
use Rattle.laws.specs.All.{all}
use Rattle.state.specs.State.{State, with_rows}
use Rattle.store_file.specs.Loaded.{on_store}
use Rattle.store_loader.proofs.store_open.Given as goal

abbrev pub invariant-loop-r : goal.invariant-loop-r
invariant-loop-r l = (s : State) → l.none ≡ all (λ (q : ℕ). not (on_store (with_rows l.rows l.table s) q)) l.r
