-- `answer_at`: the message is answered into the 64 bytes from a place on.
use Rattle.state.specs.Memory.{state_in}
use Rattle.tray_messages.proofs.Placed.{can-answer, answered-at}
use Rattle.tray_messages.proofs.answer_at.Goals as goal

pub answer-requires : goal.answer-requires
answer-requires c =
    can-answer c.args.responses.now c.args.at c.requires.in_bounds (state_in c.args.memory.now) c.requires.sound

pub returns-clause-served : goal.returns-clause-served
returns-clause-served c =
    let a = c.args in
    answered-at a.responses.now a.at c.requires.in_bounds a.clock a.message.now (state_in c.args.memory.now) c.answer.ensures.served
