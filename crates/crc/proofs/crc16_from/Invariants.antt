-- `crc16_from`: `r` is the register after the bytes passed.
use Rattle.std.proofs.Common.{◌≡◌, take}
use Rattle.crc.specs.Crc.{crc_from}
use Rattle.crc.proofs.crc16_from.Given as goal

abbrev pub invariant-loop-b : goal.invariant-loop-b
invariant-loop-b l = l.r ≡ crc_from l.start (take l.b-index l.s)
