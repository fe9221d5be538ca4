-- What an iterator over fields has left.
use Rattle.std.specs.Prelude.{List}
use Rattle.wire.specs.declared.Field.{Field}
use Rattle.wire_reader.specs.declared.Fields.{Fields}
use Rattle.wire.specs.Numbered.{fields_from}

-- the fields that are left
abbrev pub left : Fields → List Field
left f = fields_from f.s.now f.at f.end f.wanted
