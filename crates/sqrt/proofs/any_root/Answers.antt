-- `any_root` meets its contract: each test of the code is a case of the definition (Cases.antt). Assumes nothing.
use Rattle.std.proofs.Common.{◌≡◌, ℕ, ◌≤◌, T, true, sym, ap, ◌∙◌, subst, rules}
use lib.Ieee.{Float, binary32, fits, of_bits, to_bits}
use lib.Ieee.Bits.{of_bits-to_bits}
use lib.Ieee.Positive.{positive}
use Rattle.sqrt.specs.Root.{root_of}
use Rattle.bits.specs.Patterns.{none_above}
use Rattle.sqrt.proofs.Cases.{negative, stays}
use Rattle.sqrt.proofs.any_root.Goals as goal

-- what owning an `f32` tells: the format holds it
held : (x : Float) → fits binary32 x ≡ true → T (fits binary32 x)
held x h = subst T (sym h) tt

zero_stays : (x : Float) → T (fits binary32 x) → to_bits binary32 x ≡ 0 → x ≡ root_of x
unfolding of_bits root_of
zero_stays x f h = let e : x ≡ of_bits binary32 0 = sym (of_bits-to_bits binary32 x f) ∙ ap (of_bits binary32) h in e ∙ ap root_of (sym e)

pub returns-then-b-eq0 : goal.returns-then-b-eq0
returns-then-b-eq0 c = zero_stays c.args.x (held c.args.x c.well_formed.0.1) (sym c.requires ∙ search rules)

pub returns-then-x : goal.returns-then-x
returns-then-x c = negative c.args.x c.if-x.true

pub returns-then-b-ge2139095040 : goal.returns-then-b-ge2139095040
returns-then-b-ge2139095040 c =
    let x = c.args.x in
    stays x c.if-x.false (ap positive (sym (of_bits-to_bits binary32 x (held c.args.x c.well_formed.0.1))) ∙ none_above (to_bits binary32 x) (subst (λ (b : ℕ). 2139095040 ≤ b) c.requires c.if-b-ge2139095040.true))

pub returns : goal.returns
returns c =
    c.finite_root.ensures
    ∙ sym c.digits_of-d.ensures.is
    ∙ ap root_of (ap (of_bits binary32) c.requires ∙ of_bits-to_bits binary32 c.args.x (held c.args.x c.well_formed.0.1))
