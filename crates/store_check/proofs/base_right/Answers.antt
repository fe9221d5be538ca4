-- `base_right`: the last field of the base's number, compared.
use Rattle.std.proofs.Common.{◌∙◌, ap, List, ℕ}
use Rattle.laws.specs.Bytes.{same}
use Rattle.protocol.specs.Names.{base}
use Rattle.store_names.proofs.Equal.{equal-same}
use Rattle.store_check.proofs.base_right.Goals as goal

pub returns : goal.returns
unfolding base
returns c =
    equal-same _ _ _ c.eq.ensures
    ∙ ap (λ (n : List ℕ). same n c.as_slice.result.now) c.last_field.ensures
    ∙ ap (same _) c.as_slice.ensures
