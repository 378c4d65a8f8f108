-- `kernels::tuning::numbers_of` meets its contract: each arm of the match is the definitions' at that code.
use mathlib.Core.Path.{refl}
use borrow.Author.Tests.{ne_eqb}
use lib.Ieee.{of_bits, round}
use Rattle.kernels.specs.Tuning.{numbers_of, tuned_over}
use Rattle.kernels.proofs.tuning.numbers_of.Goals as goal

pub returns-in-2 : goal.returns-in-2
unfolding numbers_of tuned_over
returns-in-2 c = rw c.in-2.is c.judged_sweep.ensures

pub returns-in-8 : goal.returns-in-8
unfolding numbers_of tuned_over of_bits round
returns-in-8 c = rw c.in-8.is (c.three_numbers.ensures, refl)

pub returns-in-9 : goal.returns-in-9
unfolding numbers_of tuned_over
returns-in-9 c = rw c.in-9.is c.judged_comb.ensures

pub returns-in-13 : goal.returns-in-13
unfolding numbers_of tuned_over
returns-in-13 c = rw c.in-13.is c.judged_chord.ensures

pub returns-in_default : goal.returns-in_default
unfolding numbers_of tuned_over
returns-in_default c =
    let code = c.args.code in
    simp (
      ne_eqb code 2 c.in_default.in_default-own.rest.0.0.0.1,
      ne_eqb code 8 c.in_default.in_default-own.rest.0.0.1,
      ne_eqb code 9 c.in_default.in_default-own.rest.0.1,
      ne_eqb code 13 c.in_default.in_default-own.rest.1,
    )
    c.judged_gain.ensures
