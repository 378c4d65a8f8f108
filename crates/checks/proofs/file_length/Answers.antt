-- `checks::file_length` meets its contract: an accepted setup has few slots and parts.
use mathlib.Core.Path.{sym, ap, subst}
use Prim.Native.Nat.{ℕ, ◌*◌, ◌≤◌}
use native.Mathlib.Omega.{arith}
use Rattle.blocks.specs.Blocks.{total, parts_of}
use Rattle.setups.proofs.Accepted.{SetupAccepted, setup_accepted}
use Rattle.checks.specs.Setup.{solo_of}
use Rattle.checks.proofs.file_length.Goals as goal

known : (c : goal.After-ring_len) → SetupAccepted (solo_of c.args.setup) c.args.setup.voices
known c = setup_accepted _ _ c.requires

few : (c : goal.After-ring_len) → c.args.setup.channels * c.args.setup.voices * parts_of c.ring_len.result ≤ 16672
few c =
    let s = c.args.setup in
    subst (λ (len : ℕ). s.channels * s.voices * parts_of len ≤ 16672) (sym c.ring_len.ensures) (known c).blocks

pub overflow_mul-slots : goal.overflow_mul-slots
overflow_mul-slots c = omega (arith, (setup_accepted _ _ c.requires).slots)

pub overflow_add-parts : goal.overflow_add-parts
overflow_add-parts c = omega (arith, c.ring_len.ensures, (known c).longest)

pub overflow_add-result : goal.overflow_add-result
overflow_add-result c = omega (arith, (known c.before).voices)

pub overflow_add-result-2 : goal.overflow_add-result-2
overflow_add-result-2 c = omega (arith, (known c.before).voices, (known c.before).slots)

pub overflow_mul-result : goal.overflow_mul-result
overflow_mul-result c = omega (arith, few c.before)

pub overflow_add-result-3 : goal.overflow_add-result-3
overflow_add-result-3 c = omega (arith, (known c.before).voices, (known c.before).slots, few c.before)

pub overflow_mul-result-2 : goal.overflow_mul-result-2
overflow_mul-result-2 c = omega (arith, (known c.before).voices, (known c.before).slots, few c.before)

pub returns : goal.returns
returns c = let s = c.args.setup in ap (λ (len : ℕ). total s.voices (s.channels * s.voices) (parts_of len) * 512) c.ring_len.ensures
