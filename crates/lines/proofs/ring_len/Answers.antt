-- `lines::ring_len` meets its contract: the whole part of an accepted rate's eighth is between 1,000 and 48,000.
use Rattle.std.proofs.Common.{◌≡◌, ℕ, ◌+◌, false, sym, ap, ◌∙◌, arith}
use lib.Ieee.{of_bits, round}
use Rattle.lane.specs.Floats.{◌⊗◌}
use Rattle.lines.specs.Lines.{rate_refused, max_delay_seconds, next_power, ring_len}
use Rattle.lines.specs.Whole.{Between}
use Rattle.lines.specs.Length.{eighth, next_is}
use Rattle.lines.proofs.ring_len.Goals as goal
use Rattle.lines.proofs.ring_len.Goals.{Else-rate_refused}

accepted : (c : Else-rate_refused) → rate_refused c.args.rate ≡ false
accepted c = sym c.rate_refused.ensures ∙ c.if-rate_refused.false

range : (c : Else-rate_refused) → Between 1000 48000 (c.args.rate ⊗ max_delay_seconds)
range c = eighth c.args.rate (accepted c)

pub truncating_f32_to_u64-cells-requires : goal.truncating_f32_to_u64-cells-requires
unfolding of_bits round
truncating_f32_to_u64-cells-requires c = record { lower_bound = (range c).above; upper_bound = (range c).below }

pub overflow_add-cells : goal.overflow_add-cells
unfolding of_bits round
overflow_add-cells c = omega (arith, c.truncating_f32_to_u64-cells.ensures, (range c.before).most)

pub next_power_of_two-requires : goal.next_power_of_two-requires
unfolding of_bits round
next_power_of_two-requires c = let v = range c.before in omega (arith, c.truncating_f32_to_u64-cells.ensures, v.most)

pub returns-then-rate_refused : goal.returns-then-rate_refused
unfolding ring_len
returns-then-rate_refused c = rw (sym c.rate_refused.ensures ∙ c.if-rate_refused.true)

pub returns : goal.returns
unfolding ring_len of_bits round
returns c =
    let e = c.next_power_of_two.ensures in
    let k = c.truncating_f32_to_u64-cells.ensures in
    rw (accepted c.before.before)
    (next_is _ _ (omega (arith, k)) e.power e.lower_bound e.upper_bound ∙ ap (λ (z : ℕ). next_power (z + 8)) k)
