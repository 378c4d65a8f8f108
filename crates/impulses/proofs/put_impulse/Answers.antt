-- `put_impulse` meets its contract: by the request. The position ends within the buffer, since it begins there. Assumes nothing.
use Rattle.std.proofs.Common.{sym, ◌∙◌, arith}
use Rattle.impulses.specs.Impulse.{answer_text, impulse_text, line_text}
use Rattle.impulses.proofs.Writing.{puts_within}
use Rattle.impulses.proofs.put_impulse.Goals as goal

pub returns-in-None : goal.returns-in-None
unfolding impulse_text answer_text line_text
returns-in-None c =
    let w = c.put_bytes.ensures in
    (rw (sym c.request_of.ensures ∙ c.in-None.is) w, puts_within _ _ _ _ w (omega arith))

pub returns-in-Some : goal.returns-in-Some
unfolding impulse_text
returns-in-Some c =
    let w = c.put_answer.ensures in
    (rw (sym c.request_of.ensures ∙ c.in-Some.is) w, puts_within _ _ _ _ w (omega arith))
