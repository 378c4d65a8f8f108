-- `poles::pole_numbers` meets its contract: by the table's axes.
use borrow.Author.Rules.{rules}
use mathlib.Core.Path.{◌∙◌}
use mathlib.Core.List.{[], ◌∷◌}
use Rattle.poles.specs.Poles.{pad_of, pole_section, section_over, pole_over}
use Rattle.poles.specs.Numbers.{table_of, marks_of, pole_numbers}
use Rattle.poles.proofs.Numbers.{two_axes, three_axes}
use Rattle.poles.proofs.pole_numbers.Goals as goal

pub running_numbers-requires : goal.running_numbers-requires
running_numbers-requires c = search rules

pub running_numbers-requires-else-series : goal.running_numbers-requires-else-series
running_numbers-requires-else-series c = search rules

pub returns-then-series : goal.returns-then-series
unfolding pole_numbers table_of pole_over
returns-then-series c =
    let a = c.args in
    let d = pad_of a.series.three a.p in
    let at = three_axes a.sections.now d c.if-series.true in
    let n = c.sections_run-n.ensures in
    let octaves = c.octaves_of-transpose.ensures in
    let r = c.running_numbers.ensures in (
      r.numbers ∙ (λ t. table_of (pole_section (at t) (octaves t) a.p.ref_over_rate) (n t) (a.pitch.0 ∷ d.x ∷ d.y ∷ d.z ∷ [])),
      r.over ∙ (λ t. marks_of (section_over (at t) (octaves t) a.p.ref_over_rate) (n t)),
    )

pub returns-else-series : goal.returns-else-series
unfolding pole_numbers table_of pole_over
returns-else-series c =
    let a = c.args in
    let d = pad_of a.series.three a.p in
    let at = two_axes a.sections.now d c.if-series.false in
    let n = c.sections_run-n.ensures in
    let octaves = c.octaves_of-transpose.ensures in
    let r = c.running_numbers-else-series.ensures in (
      r.numbers ∙ (λ t. table_of (pole_section (at t) (octaves t) a.p.ref_over_rate) (n t) (a.pitch.0 ∷ d.x ∷ d.y ∷ d.z ∷ [])),
      r.over ∙ (λ t. marks_of (section_over (at t) (octaves t) a.p.ref_over_rate) (n t)),
    )
