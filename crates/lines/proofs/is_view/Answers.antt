-- `lines::is_view` meets its contract: a slot is below the number of whole rings just where it ends within the list.
use Rattle.std.proofs.Common.{sym, ◌∙◌, rules}
use Rattle.std.proofs.lemmas.Bool.{false≢true}
use Rattle.lines.specs.View.{is_good, is_bad}
use Rattle.lines.proofs.is_view.Goals as goal
use Rattle.lines.proofs.is_view.Goals.{in-1024, in_default}

pub returns-then-matches : goal.returns-then-matches
returns-then-matches c =
    elim c.match-matches.branch [ in-1024 w ↦ (is_good _ _ _ w.in-1024.is).1 | in_default w ↦ absurd (false≢true (sym w.matches-is ∙ c.if-matches.true)) ]

pub returns-else-matches : goal.returns-else-matches
returns-else-matches c =
    elim c.match-matches.branch [
      | in-1024 w ↦ absurd (false≢true (sym c.if-matches.false ∙ w.matches-is))
      | in_default w ↦ w.matches-is ∙ is_bad _ _ _ (search rules)
    ]
