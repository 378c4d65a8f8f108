-- `poles::running_numbers` meets its contract: a turn puts a section's numbers, and counts its mark.
use mathlib.Core.Path.{◌≡◌, refl, ap, sym, ◌∙◌}
use mathlib.Core.List.{[], ◌∷◌}
use Prim.Native.Nat.{◌+◌, ◌*◌}
use native.Mathlib.Omega.{arith}
use native.Mathlib.Numerals.{add-one}
use lib.Ieee.{of_bits, round}
use Rattle.std.proofs.lemmas.List.Edits.{sets}
use Rattle.poles.specs.Poles.{pole_section, section_over}
use Rattle.poles.specs.Numbers.{judged_section, judged_given, mark_most, five, table_of, marks_of, table_none, table_more, table_last}
use Rattle.poles.proofs.running_numbers.Goals as goal

pub loop-j-init : goal.loop-j-init
unfolding of_bits round
loop-j-init g c = record { numbers = table_none _; over = refl; few = omega arith }

pub overflow_add-over : goal.overflow_add-over
overflow_add-over g c =
    let a = c.args in
    let l = c.loop-j in
    let (few, (_, gives)) = c.requires.1 in
    let most = mark_most g.at a.transpose a.reference l.j
    (judged_given g.at a.transpose a.reference l.j (gives l.j c.section.result (omega arith) c.section.ensures) c.judged-s.ensures) in
    omega (arith, most, l.invariant.few)

pub loop-j-preserved : goal.loop-j-preserved
unfolding judged_section
loop-j-preserved g c =
    let a = c.args in
    let l = c.loop-j in
    let i = l.invariant in
    let (few, (_, gives)) = c.requires.1 in
    let e : c.judged-s.result ≡ judged_section g.at a.transpose a.reference l.j =
    judged_given g.at a.transpose a.reference l.j (gives l.j c.section.result (omega arith) c.section.ensures) c.judged-s.ensures in
    record {
      numbers = c.put_section.ensures
          ∙ (λ t. sets (i.numbers t) (5 * l.j) (five (e t).section))
          ∙ table_more (pole_section g.at a.transpose a.reference) l.j (omega arith);
      over = (λ t. i.over t + (e t).over) ∙ ap (marks_of (section_over g.at a.transpose a.reference)) (sym (add-one l.j));
      few = omega (arith, mark_most g.at a.transpose a.reference l.j e, i.few);
    }

pub returns : goal.returns
returns g c =
    let a = c.args in
    let l = c.loop-j in
    let all : l.j ≡ a.n = omega arith in
    record {
      numbers = (λ t. sets (l.invariant.numbers t) 40 (a.pitch ∷ a.pad.x ∷ a.pad.y ∷ a.pad.z ∷ []))
          ∙ table_last (pole_section g.at a.transpose a.reference) l.j a.pitch a.pad.x a.pad.y a.pad.z
          ∙ (λ t. table_of (pole_section g.at a.transpose a.reference) (all t) (a.pitch ∷ a.pad.x ∷ a.pad.y ∷ a.pad.z ∷ []));
      over = l.invariant.over ∙ ap (marks_of (section_over g.at a.transpose a.reference)) all;
    }
