-- `teeth::is_of_four` meets its contract, by the two sides of its test.
use mathlib.Core.Path.{sym, ◌∙◌}
use native.Mathlib.Omega.{arith}
use Rattle.std.proofs.lemmas.Bool.{lt-leb}
use Rattle.teeth.specs.Needed.{four_near, four_before}
use Rattle.teeth.proofs.is_of_four.Goals as goal

pub returns-then-first-back : goal.returns-then-first-back
returns-then-first-back c = four_near _ _ (omega arith)

pub returns-else-first-back : goal.returns-else-first-back
returns-else-first-back c = lt-leb c.args.first c.args.back (omega arith) ∙ sym (four_before _ _ (omega arith))
