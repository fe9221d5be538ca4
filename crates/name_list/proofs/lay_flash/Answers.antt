-- `lay_flash`: from `lay`, lent each name.
use Rattle.std.proofs.Common.{arith}
use Rattle.protocol.proofs.Sizes.{name-size}
use Rattle.protocol.specs.Names.{flash_folder, flash_word}
use Rattle.name_list.proofs.lay_flash.Goals as goal

pub lay-requires : goal.lay-requires
lay-requires c = (omega (arith, name-size), c.requires)

pub lay-requires-in-Hash : goal.lay-requires-in-Hash
lay-requires-in-Hash c = (omega (arith, name-size), c.requires)

pub lay-requires-in-Verify : goal.lay-requires-in-Verify
lay-requires-in-Verify c = (omega (arith, name-size), c.requires)

pub lay-requires-in-Update : goal.lay-requires-in-Update
lay-requires-in-Update c = (omega (arith, name-size), c.requires)

pub lay-requires-in-Cleanup : goal.lay-requires-in-Cleanup
lay-requires-in-Cleanup c = (omega (arith, name-size), c.requires)

pub returns-in-Image : goal.returns-in-Image
unfolding flash_folder flash_word
returns-in-Image c = rw c.in-Image.is c.lay.ensures

pub returns-in-Hash : goal.returns-in-Hash
unfolding flash_folder flash_word
returns-in-Hash c = rw c.in-Hash.is c.lay-in-Hash.ensures

pub returns-in-Verify : goal.returns-in-Verify
unfolding flash_folder flash_word
returns-in-Verify c = rw c.in-Verify.is c.lay-in-Verify.ensures

pub returns-in-Update : goal.returns-in-Update
unfolding flash_folder flash_word
returns-in-Update c = rw c.in-Update.is c.lay-in-Update.ensures

pub returns-in-Cleanup : goal.returns-in-Cleanup
unfolding flash_folder flash_word
returns-in-Cleanup c = rw c.in-Cleanup.is c.lay-in-Cleanup.ensures
