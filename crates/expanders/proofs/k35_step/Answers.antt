-- `expanders::k35_step` meets its contract: each call gives its part of the definition.
use Rattle.expanders.specs.Expanders.{k35_step}
use Rattle.expanders.proofs.k35_step.Goals as goal

pub returns : goal.returns
unfolding k35_step
returns c = rw (c.k35_high-h.ensures, c.k35_feedback-2.ensures, c.k35_low-l.ensures, c.k35_feedback.ensures)
