-- `kernels::tuning::judged_comb` meets its contract: each call gives its part of the definition, and twice a mark does not overflow.
use mathlib.Core.Path.{ap}
use Rattle.filter.specs.declared.Capped.{Capped}
use Rattle.filter.specs.Judged.{capped_of}
use Rattle.combs.specs.Combs.{comb_over}
use Rattle.kernels.proofs.tuning.judged_comb.Goals as goal

pub returns : goal.returns
unfolding capped_of comb_over
returns c =
    let mark = c.once-over in
    let cap = c.capped_of-c in
    let a = c.args in (
      rw (← c.comb_coefficients.ensures a.pitch (ap (λ (x : Capped). x.ratio.0) cap.ensures)) c.comb_numbers.ensures,
      rw (mark.ensures, cap.ensures),
    )
