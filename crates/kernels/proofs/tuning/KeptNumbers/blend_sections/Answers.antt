-- `KeptNumbers::blend_sections` meets its contract: what is kept is of the same pitch, X, Y and Z, or it is worked out.
use mathlib.Core.Path.{◌≡◌, refl, ◌∙◌}
use mathlib.Core.Bool.{true, cond}
use lib.Dec.{eqb}
use borrow.Author.Tests.{eq-eqb, ne_eqb}
use Rattle.filter.specs.Filter.{octaves_of}
use Rattle.poles.specs.Poles.{pad_of, number_at, pole_over}
use Rattle.poles.specs.Numbers.{pole_numbers}
use Rattle.kernels.specs.Tuning.{blended_of, blended_over, kept_pad}
use Rattle.kernels.specs.Promises.{KeptSections}
use Rattle.kernels.proofs.tuning.KeptNumbers.blend_sections.Goals as goal

pub returns-then-code-ne8 : goal.returns-then-code-ne8
unfolding blended_of blended_over
returns-then-code-ne8 c = simp (ne_eqb c.args.code 8 c.if-code-ne8.true) (refl, refl, refl)

pub returns-then-is_blended : goal.returns-then-is_blended
unfolding blended_of blended_over KeptSections
returns-then-is_blended c =
    let a = c.args in
    let key = c.is_blended.ensures c.if-is_blended.true in
    let kept = c.requires key.number in
    let is : eqb a.code 8 ≡ true = eq-eqb a.code 8 c.if-code-ne8.false in
    let pad : kept_pad a.series.three a.self.now.blended ≡ pad_of a.series.three a.p
    = λ i. record { three = a.series.three; x = key.x-is i; y = key.y_is i; z = key.z_is i } in
    simp is (
      kept.0 ∙ (λ i. pole_numbers a.sections.now a.series.active a.p.ref_over_rate (record { 0 = key.pitch_is i }) (pad i)),
      kept.1
          ∙ (λ i. cond (is i) (pole_over (number_at a.sections.now (pad i)) a.series.active (octaves_of (record { 0 = key.pitch_is i }))
          a.p.ref_over_rate) a.self.now.over),
      refl,
    )

pub returns : goal.returns
unfolding blended_of blended_over
returns c =
    simp (eq-eqb c.args.code 8 c.if-code-ne8.false) (c.pole_numbers-next.ensures.0, c.pole_numbers-next.ensures.1, refl)
