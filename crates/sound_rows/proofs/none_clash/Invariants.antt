-- `none_clash`: no two of the places passed clash.
use Rattle.std.proofs.Common.{◌≡◌, ℕ, Bool, true, ◌<◌}
use Rattle.laws.specs.All.{pairs}
use Rattle.sound_rows.specs.Clash.{apart_by}
use Rattle.sound_rows.proofs.none_clash.Given as goal

abbrev pub invariant-loop-i : goal.invariant-loop-i
invariant-loop-i g l =
    (p : ℕ → ℕ → Bool) → ((i j : ℕ) (r : Bool) → i < l.n → j < i → goal.F-post g l.clash i j r → r ≡ p i j) → true ≡ pairs (apart_by l.used p) l.i
