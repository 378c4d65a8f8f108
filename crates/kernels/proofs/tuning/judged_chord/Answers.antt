-- `kernels::tuning::judged_chord` meets its contract: each call gives its part of the definition, and a mark a tooth does not overflow.
use mathlib.Core.Path.{ap, ◌∙◌}
use Prim.Native.Nat.{ℕ, ◌*◌}
use native.Mathlib.Omega.{arith}
use lib.Ieee.{of_bits, round}
use Rattle.lane.specs.Floats.{zero}
use Rattle.filter.specs.declared.Capped.{Capped}
use Rattle.filter.specs.Judged.{capped_of, once_most}
use Rattle.teeth.specs.Teeth.{teeth_of}
use Rattle.combs.specs.Combs.{comb_over, comb_ratio, chord_over}
use Rattle.kernels.specs.Tuning.{three_numbers}
use Rattle.kernels.specs.Laws.{chord_most}
use Rattle.kernels.proofs.tuning.judged_chord.Goals as goal

pub returns : goal.returns
unfolding capped_of comb_over comb_ratio chord_over of_bits round
returns c =
    let cap = c.capped_of-c in (
      c.three_numbers.ensures ∙ ap (λ (k : Capped). three_numbers k.ratio.0 zero zero) cap.ensures,
      rw (c.once.ensures, c.teeth_of-n.ensures, cap.ensures),
    )

pub overflow_mul-result : goal.overflow_mul-result
overflow_mul-result c =
    let n = c.teeth_of-n in
    let mark = once_most c.capped_of-c.result.over in
    omega (arith, ap (λ (t : ℕ). t * c.once.result) n.ensures, chord_most c.args.p.chord c.once.result (omega (arith, c.once.ensures, mark)))

pub overflow_cast-n : goal.overflow_cast-n
unfolding teeth_of
overflow_cast-n c = omega (arith, c.teeth_of-n.ensures)
