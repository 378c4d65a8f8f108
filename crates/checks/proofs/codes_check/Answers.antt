-- `checks::codes_check` meets its contract: at each return the tests before it passed, and this one did not.
use mathlib.Core.Path.{◌≡◌, sym}
use mathlib.Core.Bool.{true, false}
use lib.Ieee.{of_bits, round}
use Rattle.setups.specs.Setup.{reference_refused, within, codes_check_of}
use Rattle.voices.specs.Calls.{check, ◌then◌}
use Rattle.checks.specs.Checks.{check_of}
use Rattle.checks.proofs.Laws.{inside}
use Rattle.checks.proofs.codes_check.Goals as goal

pub returns-then-rate_refused : goal.returns-then-rate_refused
unfolding check_of codes_check_of check ◌then◌
returns-then-rate_refused c = rw (sym c.if-rate_refused.ensures)

pub returns-then-is_outside : goal.returns-then-is_outside
unfolding check_of codes_check_of check ◌then◌ reference_refused of_bits round
returns-then-is_outside c =
    let tuning : reference_refused c.args.setup.reference ≡ true = sym c.if-is_outside.ensures in
    rw (sym c.if-rate_refused.ensures, tuning)

pub returns-then-not-contains : goal.returns-then-not-contains
unfolding check_of codes_check_of check ◌then◌ reference_refused of_bits round
returns-then-not-contains c =
    let a = c.args.setup in
    let n1 = c.new.ensures in
    let tuning : reference_refused a.reference ≡ false = sym c.if-is_outside.ensures in
    let polyphony : within 1 16 a.voices ≡ false = inside _ n1.start n1.end n1.exhausted c.if-not-contains.ensures.value in
    rw (sym c.if-rate_refused.ensures, tuning, polyphony)

pub returns-then-not-contains-2 : goal.returns-then-not-contains-2
unfolding check_of codes_check_of check ◌then◌ reference_refused of_bits round
returns-then-not-contains-2 c =
    let a = c.args.setup in
    let n1 = c.new.ensures in
    let n2 = c.new-2.ensures in
    let tuning : reference_refused a.reference ≡ false = sym c.if-is_outside.ensures in
    let polyphony : within 1 16 a.voices ≡ true = inside _ n1.start n1.end n1.exhausted c.if-not-contains.ensures.value in
    let layout : within 1 2 a.channels ≡ false = inside _ n2.start n2.end n2.exhausted c.if-not-contains-2.ensures.value in
    rw (sym c.if-rate_refused.ensures, tuning, polyphony, layout)

pub returns-then-not-contains-3 : goal.returns-then-not-contains-3
unfolding check_of codes_check_of check ◌then◌ reference_refused of_bits round
returns-then-not-contains-3 c =
    let a = c.args.setup in
    let n1 = c.new.ensures in
    let n2 = c.new-2.ensures in
    let n3 = c.new-3.ensures in
    let tuning : reference_refused a.reference ≡ false = sym c.if-is_outside.ensures in
    let polyphony : within 1 16 a.voices ≡ true = inside _ n1.start n1.end n1.exhausted c.if-not-contains.ensures.value in
    let layout : within 1 2 a.channels ≡ true = inside _ n2.start n2.end n2.exhausted c.if-not-contains-2.ensures.value in
    let structure : within 1 c.args.codes a.code ≡ false = inside _ n3.start n3.end n3.exhausted c.if-not-contains-3.ensures.value in
    rw (sym c.if-rate_refused.ensures, tuning, polyphony, layout, structure)

pub returns : goal.returns
unfolding check_of codes_check_of check ◌then◌ reference_refused of_bits round
returns c =
    let a = c.args.setup in
    let n1 = c.new.ensures in
    let n2 = c.new-2.ensures in
    let n3 = c.new-3.ensures in
    let tuning : reference_refused a.reference ≡ false = sym c.if-is_outside.ensures in
    let polyphony : within 1 16 a.voices ≡ true = inside _ n1.start n1.end n1.exhausted c.if-not-contains.ensures.value in
    let layout : within 1 2 a.channels ≡ true = inside _ n2.start n2.end n2.exhausted c.if-not-contains-2.ensures.value in
    let structure : within 1 c.args.codes a.code ≡ true = inside _ n3.start n3.end n3.exhausted c.if-not-contains-3.ensures.value in
    rw (sym c.if-rate_refused.ensures, tuning, polyphony, layout, structure)
