-- `teeth::chord_read` meets its contract: the reading by a plan of its own, or zeros.
use mathlib.Core.Path.{refl, sym, ap, ◌∙◌}
use lib.Ieee.{Float, of_bits, round}
use Rattle.parts.specs.Parts.{piece}
use Rattle.lines.specs.View.{good}
use Rattle.teeth.specs.Teeth.{cells_needed, chord_size}
use Rattle.teeth.specs.Teeth.{ring_taps}
use Rattle.teeth.specs.Taps.{chord_good, chord_bad}
use Rattle.teeth.proofs.chord_read.Goals as goal

pub plan_teeth-requires : goal.plan_teeth-requires
plan_teeth-requires c = ((good _ _ _ (sym c.is_view.ensures ∙ c.if-is_view.true)).size, record { cells = refl; fractions = refl })

pub returns-then-is_view : goal.returns-then-is_view
unfolding chord_size
returns-then-is_view c =
    let a = c.args in
    let e = sym c.is_view.ensures ∙ c.if-is_view.true in
    let p = c.plan_teeth.ensures in
    record {
      cells = rw e (p.0.size_is ∙ ap (λ (r : Float). cells_needed a.len r a.chord) p.1);
      values = c.read_planned.ensures.list
          ∙ ap (λ (r : Float). ring_taps a.len a.cursor (piece a.len a.slot a.buf.now) r a.chord) p.1
          ∙ chord_good a.buf.now a.len a.cursor a.slot a.ratio a.chord e;
    }

pub returns-else-is_view : goal.returns-else-is_view
unfolding chord_size of_bits round
returns-else-is_view c =
    let a = c.args in
    let e = sym c.is_view.ensures ∙ c.if-is_view.false in
    record { cells = rw e refl; values = chord_bad a.buf.now a.len a.cursor a.slot a.ratio a.chord e }
