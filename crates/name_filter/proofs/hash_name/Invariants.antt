-- `hash_name`: the hash so far, carried on over the bytes that are left, is the name's.
use Rattle.std.proofs.Common.{◌≡◌, drop}
use Rattle.name_filter.specs.Hash.{hash_from, name_hash}
use Rattle.name_filter.proofs.hash_name.Given as goal

abbrev pub invariant-loop-byte : goal.invariant-loop-byte
invariant-loop-byte l = name_hash l.name ≡ hash_from l.hash (drop l.byte-index l.name)
