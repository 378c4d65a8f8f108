-- `places::survey` meets its contract. Assumes nothing.
use mathlib.Core.Path.{sym, ◌∙◌}
use borrow.Author.Tests.{eqb-true}
use native.Mathlib.Omega.{arith}
use Rattle.places.proofs.Surveying.{other_size, refused_survey, full_survey}
use Rattle.places.proofs.survey.Goals.{then-file-n, else-file-n}
use Rattle.places.proofs.survey.Goals as goal

pub returns-then-mark_all : goal.returns-then-mark_all
returns-then-mark_all c =
    elim c.if-file-n.branch [
      | then-file-n w ↦ full_survey _ _ _ _ _ _ _ _ c.total-n.ensures (sym w.value-is ∙ c.if-mark_all.true) (rw w.pos-is w.mark_all.ensures) c.full.ensures
      | else-file-n w ↦ absurd (w.if-file-n.false (eqb-true _ _ (sym w.value-is ∙ c.if-mark_all.true)))
    ]

pub returns-else-mark_all : goal.returns-else-mark_all
returns-else-mark_all c =
    elim c.if-file-n.branch [
      | then-file-n w ↦ refused_survey _ _ _ _ _ _ _ c.if-mark_all.false w.value-is (rw w.pos-is w.mark_all.ensures)
      | else-file-n w ↦ other_size _ _ _ _ _ _ c.if-mark_all.false (λ e. w.if-file-n.false (omega arith))
    ]
