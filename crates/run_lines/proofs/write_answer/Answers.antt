-- `write_answer`: the code, and behind it the space and the response of a success.
use Rattle.std.proofs.Common.{◌≡◌, refl, rules}
use Rattle.protocol.specs.Numbers.{success}
use Rattle.run_lines.proofs.Laws.{refused-written, success-written}
use Rattle.run_lines.proofs.write_answer.Goals as goal

pub returns-then-ne : goal.returns-then-ne
returns-then-ne c =
    let a = c.args in
    let refused : a.code.0 ≡ success → ⊥ = search rules in
    refused-written a.text.now c.put_hex.new.text a.response.now a.at a.code.0 c.put_hex.ensures refused

pub returns : goal.returns
returns c =
    let a = c.args in
    let succeeds : a.code.0 ≡ success = search rules in
    success-written a.text.now c.put_hex.new.text a.response.now a.at a.code.0 c.put_hex.ensures c.put_hexes.new.text _ succeeds refl c.put_hexes.ensures
