-- `read`: of a store session, of the flash session, of none.
use Rattle.std.proofs.Common.{◌≡◌, sym, ◌∙◌, ap, refl, List, ℕ, arith}
use Rattle.lookup.specs.Search.{row_low}
use Rattle.protocol.specs.Frame.{Reply}
use Rattle.protocol.specs.Numbers.{not_found, not_supported}
use Rattle.response_types.specs.After.{fields_laid}
use Rattle.rules.specs.Command.{read}
use Rattle.rules.specs.Session.{on_row, on_session}
use Rattle.session_by_id.proofs.Laws.{row_is, of_row, of_none, flash-read, kept-answer}
use Rattle.session_row.specs.Lent.{on-slot}
use Rattle.state.specs.State.{State, state_of}
use Rattle.state.specs.declared.row.Wanted.TheVariants.{Id}
use Rattle.session_by_id.proofs.read.Goals as goal

pub read_row-e-requires : goal.read_row-e-requires
read_row-e-requires c = (c.requires.0, row_low c.find_row.ensures c.in-Some.is)

pub read-requires : goal.read-requires
read-requires c =
    let on = on-slot (sym c.place.ensures ∙ c.in-AtSlot.is) in
    let k = c.requires.1.1.1.1 c.in-AtSlot.k on.slot-low in
    (row_is c.find_row.ensures c.in-Some.is c.requires.0 c.read_row-e.ensures, (on, (c.requires.1.0, (c.requires.1.1.0, (c.requires.1.1.1.0, k)))))

pub returns-in-AtSlot : goal.returns-in-AtSlot
returns-in-AtSlot c =
    let a = c.args in
    let did = c.read.ensures in (
      did.0,
      λ (n im h : List ℕ).
          let s = (state_of c.args.control c.args.table.now n c.args.committed.now c.args.staged.now im h) in
          let q : on_row c.in-Some.r a.clock (read a.offset a.count) s ≡ on_session (Id a.id) a.clock (read a.offset a.count) s =
          of_row s a.clock (read a.offset a.count) c.find_row.ensures c.in-Some.is refl in
          ((did.1 n im h).0 ∙ q, (did.1 n im h).1 ∙ ap (λ (y : Reply × State). fields_laid y.0 a.answer.now) q),
    )

pub returns-in-AtFlash : goal.returns-in-AtFlash
returns-in-AtFlash c =
    let a = c.args in
    let r = c.read_row-e in (
      omega arith,
      λ (n im h : List ℕ).
          let s = (state_of c.args.control c.args.table.now n c.args.committed.now c.args.staged.now im h) in
          kept-answer s (on_session (Id a.id) a.clock (read a.offset a.count) s) not_supported a.answer.now
          (of_row s a.clock (read a.offset a.count) c.find_row.ensures c.in-Some.is
          (flash-read s c.in-Some.r r.result r.ensures (sym c.place.ensures ∙ c.in-AtFlash.is) a.clock a.offset a.count)),
    )

pub returns-in_default : goal.returns-in_default
returns-in_default c =
    let a = c.args in (
      omega arith,
      λ (n im h : List ℕ).
          let s = (state_of c.args.control c.args.table.now n c.args.committed.now c.args.staged.now im h) in
          kept-answer s (on_session (Id a.id) a.clock (read a.offset a.count) s) not_found a.answer.now (of_none s a.clock (read a.offset a.count) c.find_row.ensures c.in_default.is),
    )
