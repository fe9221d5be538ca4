-- `answer` meets its contract: refused where the caller's test failed, else served. Assumes nothing.
use Rattle.std.proofs.Common.{◌≡◌, sym, ◌∙◌, true, rules}
use Rattle.request_answer.proofs.Served.{not-able, is-sound, has-size, answers}
use Rattle.request_answer.specs.Call.{answerable}
use Rattle.state.specs.Memory.{state_in}
use Rattle.request_answer.proofs.answer.Goals as goal
use Rattle.request_answer.proofs.answer.Goals.{Else-not-able}

-- behind the test the state is sound and the answer buffer has its size
tested : (c : Else-not-able) → answerable (state_in c.args.memory.now) c.args.answer.now ≡ true
tested c = sym c.requires ∙ c.if-not-able.false

pub returns-then-not-able-clause-served : goal.returns-then-not-able-clause-served
returns-then-not-able-clause-served c =
    let a = c.args in
    not-able a.clock a.request.now (state_in a.memory.now) a.answer.now (sym c.requires ∙ c.if-not-able.true)

pub serve-said-requires : goal.serve-said-requires
serve-said-requires c =
    let able = tested (goal.at.serve-said-requires c).Else-not-able in
    (is-sound (state_in c.args.memory.now) c.args.answer.now able, (c.decode-asked.ensures, has-size (state_in c.args.memory.now) c.args.answer.now able))

pub finish-requires : goal.finish-requires
finish-requires c = (
  search (rules, has-size (state_in c.args.memory.now) c.args.answer.now (tested (goal.at.finish-requires c).Else-not-able)),
  c.serve-said.ensures.1,
)

pub returns-clause-served : goal.returns-clause-served
returns-clause-served c =
    let a = c.args in
    let able = tested (goal.at.returns-clause-served c).Else-not-able in
    answers a.clock a.request.now (state_in a.memory.now) a.answer.now (has-size (state_in a.memory.now) a.answer.now able) (is-sound (state_in a.memory.now) a.answer.now able)
    c.decode-asked.result c.decode-asked.ensures _ _ _ c.serve-said.ensures.0 _ c.number.ensures _ _ _
    c.finish.ensures.0.0 c.finish.ensures.0.1 c.finish.ensures.1
