-- `is_cut`: bytes are left.
use Rattle.std.proofs.Common.{◌≡◌, refl, ◌∙◌, ap, ℕ, zero, suc, Bool, not, cond, [], arith, eqb, ltb, lt-ltb, ne_eqb, length}
use Rattle.run_lines.specs.Lines.{cut_line}
use Rattle.run_buffer.specs.Rest.{cut-is}
use Rattle.run_buffer.proofs.is_cut.Goals as goal

some-left : (n : ℕ) → ltb 0 n ≡ not (eqb n 0)
some-left zero = refl
some-left (suc n) = rw (ne_eqb (suc n) 0 (λ e. omega arith)) (lt-ltb 0 (suc n) (omega arith))

pub returns : goal.returns
returns c = rw c.is_empty.ensures (cut-is c.args.left.now ∙ ap (λ (y : Bool). cond y cut_line []) (some-left (length c.args.left.now)))
