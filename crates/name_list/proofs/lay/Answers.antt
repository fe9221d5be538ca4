-- `lay`: from `copy_at` and one store behind it.
use Rattle.std.proofs.Common.{◌∙◌, ap, List, arith, ℕ, ◌+◌, length, set, rules}
use Rattle.std.proofs.Math.Seq.{length-sets}
use Rattle.laws.specs.Ranges.{part}
use Rattle.name_list.specs.Laws.{name-laid, name-read}
use Rattle.protocol.proofs.Sizes.{name-size}
use Rattle.protocol.specs.Decode.{fields_at}
use Rattle.protocol.specs.Frame.{reply}
use Rattle.name_list.proofs.lay.Goals as goal

pub copy_at-requires : goal.copy_at-requires
copy_at-requires c = search (rules, name-size)

pub bounds-answer-len : goal.bounds-answer-len
bounds-answer-len c = omega (arith, name-size, ap length c.copy_at.ensures ∙ length-sets c.args.answer.now fields_at c.args.name.now)

pub returns : goal.returns
returns c = let a = c.args in
    let laid =
    ap (λ (l : List ℕ). set l (fields_at + length a.name.now) 0) c.copy_at.ensures ∙ name-laid a.answer.now a.name.now fields_at
    in
    record {
      says = ap (λ (l : List ℕ). reply (part fields_at (length a.name.now + 1) l)) laid ∙ ap reply
          (name-read a.answer.now a.name.now fields_at (omega (arith, name-size, c.requires.0, c.requires.1)));
      lays = laid;
      short = omega (arith, name-size, c.requires.0);
    }
