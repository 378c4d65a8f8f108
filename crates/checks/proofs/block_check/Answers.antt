-- `checks::block_check` meets its contract: the checks of open; then at each return the tests before it passed, and this one did not.
-- The products are small, as setup and frames were accepted.
use mathlib.Core.Path.{◌≡◌, sym, ◌∙◌}
use mathlib.Core.Bool.{true, cond}
use Prim.Native.Nat.{ℕ, ◌*◌, ◌≤◌}
use native.Mathlib.Omega.{arith}
use native.Mathlib.Nat.{mul-le-mul}
use borrow.Author.Tests.{eq-eqb, ne_eqb, leb-true}
use lib.Dec.{leb}
use Rattle.setups.specs.Setup.{within}
use Rattle.std.proofs.lemmas.Result.{err_from_is_err_and}
use Rattle.voices.specs.Calls.{Bank, fine, check, open_verdict}
use Rattle.voices.specs.Accepted.{then_fine, and-true}
use Rattle.checks.specs.Setup.{solo_of, engine}
use Rattle.checks.specs.declared.Setup.{Setup}
use Rattle.checks.specs.Checks.{check_of, bank_of}
use Rattle.setups.proofs.Accepted.{SetupAccepted, setup_accepted}
use Rattle.checks.specs.Accepted.{refused_by_lem, fine_by}
use Rattle.checks.proofs.Laws.{inside, after_two_refused, third_refused, after_three_fine}
use Rattle.checks.proofs.block_check.Goals as goal
use Rattle.checks.proofs.block_check.Goals.{then-steered, else-steered}
use Rattle.checks.proofs.block_check.Goals.{then-pitch-wide-via-then-pitch-wide, then-pitch-wide-via-else-pitch-wide+then-x-steering}
use Rattle.checks.proofs.block_check.Goals.{then-pitch-wide-via-else-pitch-wide+else-x-steering+then-y-steering}
use Rattle.checks.proofs.block_check.Goals.{then-pitch-wide-via-else-pitch-wide+else-x-steering+else-y-steering+then-audio-frames}
use Rattle.checks.proofs.block_check.Goals.{then-pitch-wide-via-else-pitch-wide+else-x-steering+else-y-steering+else-audio-frames+then-counts-slots}

known : (s : Setup) (b : Bank) → open_verdict (engine s) s.voices b ≡ fine → SetupAccepted (solo_of s) s.voices
known s b h = setup_accepted _ _ (then_fine _ _ h).0

most : (f : ℕ) → within 1 4096 f ≡ true → f ≤ 4096
most f h = leb-true f 4096 (and-true (leb 1 f) (leb f 4096) h).1

pub returns-in_err-open_check : goal.returns-in_err-open_check
unfolding check_of check
returns-in_err-open_check c =
    let p = err_from_is_err_and c.from_residual.result c.from_residual.ensures.1 in
    rw (p.1, p.2) (sym (after_two_refused _ _ _ (refused_by_lem c.open_check.ensures c.in_err-open_check.was)))

pub returns-then-not-contains : goal.returns-then-not-contains
unfolding check_of check
returns-then-not-contains c =
    let o = fine_by c.open_check.ensures c.in_ok-open_check.was in
    let n = c.new.ensures in
    sym (third_refused _ _ _ _ o (rw (inside c.args.frames n.start n.end n.exhausted c.if-not-contains.ensures.value)))

pub returns-then-pitch-wide : goal.returns-then-pitch-wide
unfolding check_of check
returns-then-pitch-wide c =
    let o = fine_by c.open_check.ensures c.in_ok-open_check.was in
    let n = c.new.ensures in
    let f = inside c.args.frames n.start n.end n.exhausted c.if-not-contains.ensures.value in
    let steering : c.if-steered.steering ≡ cond c.args.steered (c.args.frames * c.args.setup.voices) 0 = elim c.if-steered.branch [
      | then-steered w ↦ rw w.if-steered.true w.steering-is
      | else-steered w ↦ rw w.if-steered.false w.steering-is
    ] in
    sym (after_three_fine _ _ _ _ o (rw f)
    ∙ elim c.then-pitch-wide.branch [
      | then-pitch-wide-via-then-pitch-wide w ↦ rw (ne_eqb _ _ w.if-pitch-wide.true)
      | then-pitch-wide-via-else-pitch-wide+then-x-steering w ↦
          rw (eq-eqb _ _ w.if-pitch-wide.false, ← steering, ne_eqb _ _ w.if-x-steering.true)
      | then-pitch-wide-via-else-pitch-wide+else-x-steering+then-y-steering w ↦
          rw (eq-eqb _ _ w.if-pitch-wide.false, ← steering, eq-eqb _ _ w.if-x-steering.false, ne_eqb _ _ w.if-y-steering.true)
      | then-pitch-wide-via-else-pitch-wide+else-x-steering+else-y-steering+then-audio-frames w ↦
          rw (eq-eqb _ _ w.if-pitch-wide.false, ← steering, eq-eqb _ _ w.if-x-steering.false, eq-eqb _ _ w.if-y-steering.false)
          (rw (ne_eqb _ _ w.if-audio-frames.true))
      | then-pitch-wide-via-else-pitch-wide+else-x-steering+else-y-steering+else-audio-frames+then-counts-slots w ↦
          rw (
            eq-eqb _ _ w.if-pitch-wide.false,
            ← steering,
            eq-eqb _ _ w.if-x-steering.false,
            eq-eqb _ _ w.if-y-steering.false,
            eq-eqb _ _ w.if-audio-frames.false,
            ne_eqb _ _ w.if-counts-slots.true,
          )
    ])

pub overflow_mul-slots : goal.overflow_mul-slots
overflow_mul-slots c =
    let a = c.args in
    let o = fine_by c.open_check.ensures c.in_ok-open_check.was in
    omega (arith, (known a.setup (bank_of a.targets.now a.records.now a.delay.now 0) o).slots)

pub overflow_mul-wide : goal.overflow_mul-wide
overflow_mul-wide c =
    let a = c.args in
    let o = fine_by c.open_check.ensures c.in_ok-open_check.was in
    let n = c.new.ensures in
    let f = most c.args.frames (inside c.args.frames n.start n.end n.exhausted c.if-not-contains.ensures.value) in
    omega (arith, mul-le-mul f (known a.setup (bank_of a.targets.now a.records.now a.delay.now 0) o).voices)

pub overflow_mul-frames : goal.overflow_mul-frames
overflow_mul-frames c =
    let a = c.args in
    let o = fine_by c.open_check.ensures c.in_ok-open_check.was in
    let n = c.new.ensures in
    let f = most c.args.frames (inside c.args.frames n.start n.end n.exhausted c.if-not-contains.ensures.value) in
    omega (arith, mul-le-mul f (known a.setup (bank_of a.targets.now a.records.now a.delay.now 0) o).slots)

pub returns : goal.returns
unfolding check_of check
returns c =
    let o = fine_by c.open_check.ensures c.in_ok-open_check.was in
    let n = c.new.ensures in
    let f = inside c.args.frames n.start n.end n.exhausted c.if-not-contains.ensures.value in
    let steering : c.if-steered.steering ≡ cond c.args.steered (c.args.frames * c.args.setup.voices) 0 = elim c.if-steered.branch [
      | then-steered w ↦ rw w.if-steered.true w.steering-is
      | else-steered w ↦ rw w.if-steered.false w.steering-is
    ] in
    sym (after_three_fine _ _ _ _ o (rw f)
    ∙ rw (
      eq-eqb _ _ c.if-pitch-wide.false,
      ← steering,
      eq-eqb _ _ c.if-x-steering.false,
      eq-eqb _ _ c.if-y-steering.false,
      eq-eqb _ _ c.if-audio-frames.false,
      eq-eqb _ _ c.if-counts-slots.false,
    ))
