-- `write_whole`: from `write_region`; the row is written where it is accepted.
use Rattle.std.proofs.Common.{refl, sym, ◌∙◌, ap, ℕ, zero-add, Err}
use Rattle.std.proofs.lemmas.Result.{err_from_is_err_and}
use Rattle.session_row.specs.Write.{Written, region_by}
use Rattle.state.specs.Entry.{words_of}
use Rattle.laws.specs.Ranges.{block}
use Rattle.protocol.specs.Numbers.{row_words}
use Rattle.state.specs.declared.row.Entry.{Entry}
use Rattle.session_flash.proofs.write_whole.Goals as goal

pub returns-in_err-written : goal.returns-in_err-written
returns-in_err-written c =
    let a = c.args in
    let passed = err_from_is_err_and c.from_residual.result c.from_residual.ensures.1 in
    let same = c.in_err-written.was ∙ sym (passed.1 ∙ ap Err passed.2) in (
      sym same ∙ c.write_region.ensures.0,
      (
        c.write_region.ensures.1 ∙ ap (λ (k : ℕ). region_by c.write_region.result k a.bytes.now a.region.now) (zero-add a.offset) ∙ ap (λ (w : Written). region_by w a.offset a.bytes.now a.region.now) same,
        rw passed.1 refl,
      ),
    )

pub returns : goal.returns
returns c =
    let a = c.args in (
      sym c.in_ok-written.was ∙ c.write_region.ensures.0,
      (
        c.write_region.ensures.1 ∙ ap (λ (k : ℕ). region_by c.write_region.result k a.bytes.now a.region.now) (zero-add a.offset) ∙ ap (λ (w : Written). region_by w a.offset a.bytes.now a.region.now) c.in_ok-written.was,
        c.write_row.ensures ∙ ap (λ (y : Entry). (block row_words a.r).put (words_of y) a.table.now) c.lifted.ensures,
      ),
    )
