-- `request_names::store_name` meets its contract. Assumes nothing.
use Rattle.std.proofs.Common.{◌≤◌, ◌<◌, ◌∙◌, ◌⊎◌, length, rules}
use Rattle.protocol.specs.Names.{base}
use Rattle.request_names.proofs.Names.{not_store, word_fits, word_misfits}
use Rattle.request_names.proofs.store_name.Goals as goal

pub returns-in_default : goal.returns-in_default
unfolding base
returns-in_default c = not_store _ c.in_default.ensures.cases

pub returns-then-contains : goal.returns-then-contains
unfolding base
returns-then-contains c =
    let low : 1 ≤ length c.in-Some.word.now = search rules in
    let high : length c.in-Some.word.now ≤ 25 = search rules in
    let h = c.in-Some.ensures.cases in
    c.all_alnum.ensures ∙ word_fits _ _ h.0 h.1 h.2 low high

pub returns-else-contains : goal.returns-else-contains
unfolding base
returns-else-contains c =
    let out : (length c.in-Some.word.now < 1) ⊎ (25 < length c.in-Some.word.now) = search rules in
    let h = c.in-Some.ensures.cases in
    c.if-contains.false ∙ word_misfits _ _ h.0 h.1 h.2 out
