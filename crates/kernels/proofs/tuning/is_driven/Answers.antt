-- `kernels::tuning::is_driven` meets its contract: by the code, and a character of the same bits.
use mathlib.Core.Path.{sym, ◌∙◌}
use mathlib.Core.Bool.{true≢false}
use borrow.Author.Tests.{ne_eqb}
use Rattle.kernels.proofs.tuning.is_driven.Goals as goal
use Rattle.kernels.proofs.tuning.is_driven.Goals.{then-code-eq7, else-code-eq7}

pub returns-then-same : goal.returns-then-same
returns-then-same c e =
    elim c.if-code-eq7.branch [
      | then-code-eq7 w ↦
          let own = w.same.ensures (sym w.value-is ∙ c.if-same.true) in
          record { driven = w.if-code-eq7.true; number = own.0; character_is = (c.same-then-same.ensures e).1 }
      | else-code-eq7 w ↦ absurd (true≢false (sym c.if-same.true ∙ w.value-is ∙ ne_eqb c.args.code 7 w.if-code-eq7.false))
    ]
