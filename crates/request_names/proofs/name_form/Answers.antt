-- `request_names::name_form` meets its contract. Assumes nothing.
use Rattle.request_names.proofs.Names.{name-too-long, name-is}
use Rattle.request_names.proofs.name_form.Goals as goal

pub returns-then-n-gt-NAME_MOST : goal.returns-then-n-gt-NAME_MOST
returns-then-n-gt-NAME_MOST c = name-too-long _ _ c.first_zero-n.ensures.0 c.if-n-gt-NAME_MOST.true

pub returns : goal.returns
returns c = name-is _ _ c.first_zero-n.ensures.0 c.if-n-gt-NAME_MOST.false
