-- What `==` on bytes answers, as the test of the definitions. Assumes nothing.
use Rattle.std.specs.Prelude.{◌≡◌, Bool, List, ℕ, ◌==◌}
use Rattle.std.specs.Cmp.Lexicographic.{pointwise}
use Rattle.std.specs.Bool.{one_answer}
use Rattle.std.proofs.lemmas.Bool.Decides.{Decides-eqb}
use Rattle.std.proofs.lemmas.Slice.Eq.{slice_eq-Decides}
use Rattle.laws.specs.Bytes.{same, same_true, eq-same}

pub equal-same : (a b : List ℕ) (r : Bool) → r ≡ pointwise (λ (x y : ℕ). x == y) a b → r ≡ same a b
equal-same a b r e = one_answer r (same a b) (slice_eq-Decides Decides-eqb a b r e) (same_true a b, eq-same a b)
