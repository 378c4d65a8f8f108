-- `kernels::tuning::gain_numbers` meets its contract: each arm of the match is the definition's at that code.
use borrow.Author.Tests.{ne_eqb}
use lib.Ieee.{of_bits, round}
use Rattle.kernels.specs.Tuning.{gain_numbers}
use Rattle.kernels.proofs.tuning.gain_numbers.Goals as goal

pub returns-in-5 : goal.returns-in-5
unfolding gain_numbers
returns-in-5 c pitch e = rw (c.in-5.is, ← e, ← c.diode_rows.ensures) c.row_numbers.ensures

pub returns-in-6 : goal.returns-in-6
unfolding gain_numbers
returns-in-6 c pitch e = rw (c.in-6.is, ← e, ← c.diode_rows-in-6.ensures) c.row_numbers-in-6.ensures

pub returns-in-7 : goal.returns-in-7
unfolding gain_numbers
returns-in-7 c pitch e = rw (c.in-7.is, ← c.driven_coefficients.ensures pitch e) c.driven_numbers.ensures

pub returns-in-10 : goal.returns-in-10
unfolding gain_numbers
returns-in-10 c pitch e =
    rw (
      c.in-10.is,
      ← c.multimode_weights.ensures,
      ← c.expander_coefficients.ensures pitch e,
    )
    c.multimode_numbers.ensures

pub returns-in-11 : goal.returns-in-11
unfolding gain_numbers
returns-in-11 c pitch e = rw (c.in-11.is, ← c.expander_coefficients-in-11.ensures pitch e) c.band_numbers.ensures

pub returns-in-12 : goal.returns-in-12
unfolding gain_numbers
returns-in-12 c pitch e = rw (c.in-12.is, ← c.k35_coefficients.ensures pitch e) c.k35_numbers.ensures

pub returns-in_default : goal.returns-in_default
unfolding gain_numbers of_bits round
returns-in_default c pitch e =
    let code = c.args.code in
    simp (
      ne_eqb code 5 c.in_default.in_default-own.rest.0.0.0.0.0.1,
      ne_eqb code 6 c.in_default.in_default-own.rest.0.0.0.0.1,
      ne_eqb code 7 c.in_default.in_default-own.rest.0.0.0.1,
      ne_eqb code 10 c.in_default.in_default-own.rest.0.0.1,
      ne_eqb code 11 c.in_default.in_default-own.rest.0.1,
      ne_eqb code 12 c.in_default.in_default-own.rest.1,
    )
    (rw (← e) c.three_numbers.ensures)
