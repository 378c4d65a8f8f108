-- `sentivolus::design::sentivolus_section` meets its contract: by the two cases of the answer.
use mathlib.Core.Path.{◌≡◌, sym, ap, ◌∙◌}
use Rattle.pole_zero.specs.declared.PoleZeroDesign.{PoleZeroDesign}
use Rattle.pole_zero.specs.PoleZero.{refusal_of, values_of, section_refusal, section_values}
use Rattle.sentivolus.specs.Design.{section_left}
use Rattle.sentivolus.proofs.design.sentivolus_section.Goals as goal

pub returns-in-Some : goal.returns-in-Some
unfolding refusal_of values_of section_left
returns-in-Some c =
    let is-some = c.in-Some.is in
    let a = c.args in
    let number : section_refusal a.point ≡ 0 = sym c.section.ensures.refusal ∙ ap refusal_of is-some in record {
      answer = sym number;
      numbers = rw number
          (c.values-v.ensures ∙ sym (ap values_of is-some) ∙ c.section.ensures.values
          ∙ ap (λ (d : PoleZeroDesign). section_values d a.point a.x a.y a.z) c.design_of.ensures);
    }

pub returns-in-None : goal.returns-in-None
unfolding refusal_of section_left
returns-in-None c =
    let number : section_refusal c.args.point ≡ 11 = sym c.section.ensures.refusal ∙ ap refusal_of c.in-None.is in
    record { answer = sym number; numbers = rw number }
