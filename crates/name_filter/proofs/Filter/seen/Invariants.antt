-- `seen`: the answer so far is carried along, over the places passed.
use Rattle.std.proofs.Common.{◌≡◌, ℕ}
use Rattle.laws.specs.All.{all}
use Rattle.name_filter.specs.Filter.{bit_at, place_of}
use Rattle.name_filter.proofs.Filter.seen.Given as goal

abbrev pub invariant-loop-i : goal.invariant-loop-i
invariant-loop-i l = l.ok ≡ all (λ (k : ℕ). bit_at l.self.words (place_of l.hash k)) l.i
