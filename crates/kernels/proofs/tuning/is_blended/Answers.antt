-- `kernels::tuning::is_blended` meets its contract: the four numbers have the same bits.
use mathlib.Core.Path.{sym, ◌∙◌}
use mathlib.Core.Bool.{true≢false}
use Rattle.kernels.proofs.tuning.is_blended.Goals as goal
use Rattle.kernels.proofs.tuning.is_blended.Goals.{then-same, else-same, then-same-2, else-same-2}

pub returns-then-same-3 : goal.returns-then-same-3
returns-then-same-3 c e =
    elim c.if-same-2.branch [
      | then-same-2 w ↦
          elim c.if-same.branch [
            | then-same v ↦
                let pitch = c.same.ensures v.if-same.true in
                record {
                  number = pitch.0;
                  pitch_is = pitch.1;
                  x-is = (v.same-then-same.ensures (sym v.value-is ∙ w.if-same-2.true)).1;
                  y_is = (w.same-then-same-2.ensures (sym w.value-is ∙ c.if-same-3.true)).1;
                  z_is = (c.same-then-same-3.ensures e).1;
                }
            | else-same v ↦ absurd (true≢false (sym w.if-same-2.true ∙ v.value-is ∙ v.if-same.false))
          ]
      | else-same-2 w ↦ absurd (true≢false (sym c.if-same-3.true ∙ w.value-is ∙ w.if-same-2.false))
    ]
