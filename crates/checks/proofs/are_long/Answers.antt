-- `checks::are_long` meets its contract: the products are small, as the setup was accepted.
use Prim.Native.Nat.{◌*◌, ◌≤◌}
use native.Mathlib.Omega.{arith}
use Rattle.setups.proofs.Accepted.{setup_accepted}
use Rattle.checks.proofs.are_long.Goals as goal

pub overflow_mul-slots : goal.overflow_mul-slots
overflow_mul-slots c = omega (arith, (setup_accepted _ _ c.requires).slots)

pub overflow_mul-setup : goal.overflow_mul-setup
overflow_mul-setup c = omega (arith, (setup_accepted _ _ c.requires).voices)

pub overflow_mul-slots-then-targets-setup : goal.overflow_mul-slots-then-targets-setup
overflow_mul-slots-then-targets-setup c = omega (arith, (setup_accepted _ _ c.requires).slots)

pub overflow_mul-result : goal.overflow_mul-result
overflow_mul-result c =
    let h : c.args.setup.channels * c.args.setup.voices * c.ring_len.result ≤ 2097152 = rw c.ring_len.ensures (setup_accepted _ _ c.requires).rings in
    omega arith
