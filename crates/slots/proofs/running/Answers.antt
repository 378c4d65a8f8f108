-- `running` meets its contract: a peak that is plain runs itself.
use Rattle.std.proofs.Common.{◌≡◌, Bool, true, false, cond, sym, ap, ◌∙◌, subst}
use lib.Ieee.{Float, neg, round, of_bits}
use Rattle.lane.specs.Floats.{one}
use Rattle.peak.specs.Running.{is_plain, running_of, settled_of, Runs}
use Rattle.slots.proofs.running.Goals as goal

plain : (b : Float) → is_plain b ≡ true → b ≡ running_of b
unfolding running_of
plain b h = sym (ap (λ (c : Bool). cond c b (neg one)) h)

other : (b : Float) → is_plain b ≡ false → neg one ≡ running_of b
unfolding running_of
other b h = sym (ap (λ (c : Bool). cond c b (neg one)) h)

-- what runs promises the same
runs : (b r : Float) → r ≡ running_of b → Runs b (running_of b) → settled_of b (running_of b) ≡ b
    → (r ≡ running_of b) × (Runs b r) × (settled_of b r ≡ b)
runs b r e h k = (e, subst (Runs b) (sym e) h, ap (settled_of b) e ∙ k)

pub returns-else-is_plain : goal.returns-else-is_plain
unfolding neg round of_bits
returns-else-is_plain c =
    let p = c.is_plain.ensures in
    let b = c.args.peak in
    runs b (neg one) (other b (sym p.0 ∙ c.if-is_plain.false)) p.1 p.2

pub returns-then-is_plain : goal.returns-then-is_plain
unfolding neg round of_bits
returns-then-is_plain c =
    let p = c.is_plain.ensures in
    let b = c.args.peak in
    runs b b (plain b (sym p.0 ∙ c.if-is_plain.true)) p.1 p.2
