-- `combs::comb_step` meets its contract: through a good view the two reads are those of the slot's ring.
use mathlib.Core.Path.{◌≡◌, sym, ap, ◌∙◌, subst}
use mathlib.Core.Bool.{true}
use mathlib.Core.List.{List}
use lib.Ieee.{Float, of_bits, round}
use lib.ListN.{length}
use Rattle.lines.specs.Lines.{is_view, read_of}
use Rattle.lines.proofs.Laws.{read_good}
use Rattle.combs.specs.Ends.{two_taps}
use Rattle.combs.proofs.comb_step.Goals as goal

pub returns : goal.returns
unfolding of_bits round
returns c =
    let a = c.args in
    let kept = c.read_through-first.ensures.1 in
    two_taps a.c a.delay.now a.at a.x _ _ _ _ _ (c.read_through-second.ensures.1 ∙ kept)
    (c.read_through-first.ensures.0 ∙ read_good a.delay.now a.at.len a.at.cursor a.at.slot a.c.first c.requires)
    (c.read_through-second.ensures.0
    ∙ ap (λ (xs : List Float). read_of xs a.at.len a.at.cursor a.at.slot a.c.second) kept
    ∙ read_good a.delay.now a.at.len a.at.cursor a.at.slot a.c.second c.requires)
    c.comb_end.ensures
