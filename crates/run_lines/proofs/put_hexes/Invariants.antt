-- `put_hexes`: the digits so far are those of the bytes passed.
use Rattle.std.proofs.Common.{◌≡◌, take}
use Rattle.std.proofs.lemmas.List.Edits.{sets}
use Rattle.run_lines.specs.Lines.{hexes}
use Rattle.run_lines.proofs.put_hexes.Given as goal

abbrev pub invariant-loop-i : goal.invariant-loop-i
invariant-loop-i l = l.text ≡ sets l.initial.text l.at (hexes (take l.i l.bytes))
