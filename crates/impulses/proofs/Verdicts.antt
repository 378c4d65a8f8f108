-- Laws of the verdict: what the setup's checks come to at a rate, and what a verdict without refusal knows. Assumes nothing.
use Rattle.std.proofs.Common.{◌≡◌, ℕ, ◌≤◌, Bool, true, false, cond, ◌&&◌, eqb, ltb, leb, pos, sym, refl, ap, ◌∙◌, ltb-false, leb-true}
use mathlib.Core.Bool.{and-false}
use lib.Ieee.{Float, binary32, of_int, round, is_nan, lt}
use borrow.Author.Tests.{not-true}
use Rattle.lane.specs.Floats.{whole}
use Rattle.lines.specs.Lines.{rate_refused}
use Rattle.setups.specs.Setup.{reference_refused, within, codes_check_of, offset_refused, chord_refused, setup_check_of}
use Rattle.voices.specs.Calls.{Check, fine, refused, check, ◌then◌}
use Rattle.voices.specs.Accepted.{check_fine, then_fine, and-true}
use Rattle.checks.specs.Setup.{solo_of}
use Rattle.std.proofs.Common.{Ok, Err}
use Rattle.impulses.specs.declared.Reason.TheVariants.{Large, Refused}
use Rattle.impulses.specs.Impulse.{Verdict, rate_of, one_tooth, impulse_setup, after_setup, checked, verdict_of}

-- the code's cast is the nearest f32
pub rate_is : (n : ℕ) → of_int binary32 (pos n) ≡ rate_of n
unfolding of_int
rate_is n = refl

-- what the code's test says of the rate's
pub refused_is : (n : ℕ) (x : Float) (r t : Bool) → x ≡ of_int binary32 (pos n) → r ≡ rate_refused x → r ≡ t → rate_refused (rate_of n) ≡ t
refused_is n x r t e f g = ap rate_refused (sym (e ∙ rate_is n)) ∙ sym f ∙ g

tuning : reference_refused (whole 440) ≡ false
unfolding reference_refused is_nan lt round
tuning = refl

-- 16 cannot come
tooth : (code : ℕ) → chord_refused code one_tooth ≡ false
unfolding chord_refused offset_refused is_nan lt round
tooth code = and-false (eqb code 13)

module _ (code rate frames : ℕ) where
  pub rate_refused_lem : rate_refused (rate_of rate) ≡ true → Err (Refused 1) ≡ verdict_of code rate frames
  unfolding verdict_of impulse_setup setup_check_of codes_check_of check ◌then◌
  rate_refused_lem h = rw h

  setup_check_lem : rate_refused (rate_of rate) ≡ false → setup_check_of (solo_of (impulse_setup code rate)) 1 ≡ check (within 1 13 code) 5 then fine
  unfolding impulse_setup setup_check_of codes_check_of check ◌then◌
  setup_check_lem h = rw (h, tuning, tooth code)

  coded : (t : Bool) → rate_refused (rate_of rate) ≡ false → within 1 13 code ≡ t → checked (check t 5 then fine) (after_setup rate frames) ≡ verdict_of code rate frames
  unfolding verdict_of
  coded t h e = rw (setup_check_lem h, e)

  pub code_accepted : rate_refused (rate_of rate) ≡ false → within 1 13 code ≡ true → after_setup rate frames ≡ verdict_of code rate frames
  unfolding check ◌then◌
  code_accepted h e = coded true h e

  pub code_refused : rate_refused (rate_of rate) ≡ false → within 1 13 code ≡ false → Err (Refused 5) ≡ verdict_of code rate frames
  unfolding check ◌then◌
  code_refused h e = coded false h e

  pub record Accepted : Type 0 where
    pub setup : setup_check_of (solo_of (impulse_setup code rate)) 1 ≡ fine
    pub rate_fine : rate_refused (rate_of rate) ≡ false
    pub small : rate ≤ 131015
    pub some_frame : 1 ≤ frames
    pub most : frames ≤ 4096

checked_fine : (w : Check) (v : Verdict) → checked w v ≡ Ok tt → (w ≡ fine) × (v ≡ Ok tt)
checked_fine fine v e = (refl, e)
checked_fine (refused k) v e = ((cc), (cc))

after_fine : (a b : Bool) → ◌≡◌ {A = Verdict} (cond a (Err Large) (cond b (Ok tt) (Err (Refused 9)))) (Ok tt) → (a ≡ false) × (b ≡ true)
after_fine true b e = ((cc), (cc))
after_fine false true e = (refl, refl)
after_fine false false e = ((cc), (cc))

pub accepted : (code rate frames : ℕ) → verdict_of code rate frames ≡ Ok tt → Accepted code rate frames
unfolding verdict_of after_setup impulse_setup setup_check_of codes_check_of
accepted code rate frames e =
    let a = checked_fine (setup_check_of (solo_of (impulse_setup code rate)) 1) (after_setup rate frames) e in
    let b = after_fine (ltb 131015 rate) (leb 1 frames && leb frames 4096) a.1 in
    let f = and-true (leb 1 frames) (leb frames 4096) b.1 in
    record {
      setup = a.0;
      rate_fine = not-true _ (check_fine _ _ (then_fine _ _ (then_fine _ _ a.0).0).0);
      small = ltb-false 131015 rate b.0;
      some_frame = leb-true 1 frames f.0;
      most = leb-true frames 4096 f.1;
    }
