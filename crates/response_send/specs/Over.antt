-- A response does not show whether its fields stood in the answer buffer before it was written. Assumes nothing.
use Rattle.std.specs.Prelude.{◌≡◌, refl, List, ℕ}
use Rattle.protocol.specs.Frame.{Reply, refused, done, reply, answer_after}
use Rattle.response_types.specs.After.{fields_laid}
use Rattle.response_frame.specs.Over.{fields-over}

-- WHERE A COMMAND LAID ITS FIELDS, THE RESPONSE LEAVES WHAT IT WOULD HAVE LEFT ANYWAY
pub laid-over : (sub : ℕ) (r : Reply) (a : List ℕ) → answer_after sub r (fields_laid r a) ≡ answer_after sub r a
laid-over sub (refused code) a = refl
laid-over sub done a = refl
laid-over sub (reply f) a = fields-over sub f a
