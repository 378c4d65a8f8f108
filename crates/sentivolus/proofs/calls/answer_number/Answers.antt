-- `sentivolus::calls::answer_number` meets its contract: by the cases of the answer.
use Rattle.sentivolus.specs.Answers.{answer_number}
use Rattle.sentivolus.proofs.calls.answer_number.Goals as goal

pub returns-in-Ok : goal.returns-in-Ok
unfolding answer_number
returns-in-Ok g c = rw c.in-Ok.is

pub returns-in-Err : goal.returns-in-Err
unfolding answer_number
returns-in-Err g c = rw c.in-Err.is c.from.ensures
