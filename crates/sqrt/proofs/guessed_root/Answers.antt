-- `guessed_root` meets its contract: a quick guess that passes the test is the root, and any other number's is `any_root`'s. Assumes nothing.
use Rattle.std.proofs.Common.{◌≡◌, ℕ, ◌+◌, ◌-◌, ◌*◌, ◌/◌, ◌<◌, ◌≤◌, T, sym, ap, ◌∙◌, subst, arith, rules}
use lib.Ieee.{Float, binary32, fits, of_bits, to_bits}
use lib.Ieee.Bits.{of_bits-to_bits}
use Rattle.sqrt.specs.Root.{root_of}
use Rattle.sqrt.specs.Inner.{scaled, HasRoot}
use Rattle.sqrt.proofs.Scaled.{exponent, in_range, rooted}
use Rattle.sqrt.proofs.guessed_root.Goals as goal

-- what owning an `f32` tells: the format holds it
held : (c : goal.After-scaled_of) → T (fits binary32 c.args.x)
held c = subst T (sym c.well_formed.0.1) tt

-- from 1 up, below 4, the root's exponent is 1's
at_one : (b n : ℕ) → 1065353216 ≤ b → b < 1082130432 → 1056964608 + n ≡ (exponent b / 2 - 1) * 8388608 + n
at_one b n h k = omega arith

found : (x r : Float) → T (fits binary32 x) → T (fits binary32 r) → 1065353216 ≤ to_bits binary32 x → to_bits binary32 x < 1082130432
    → HasRoot (scaled (to_bits binary32 x)) r → r ≡ root_of x
found x r f g h k v =
    let b = to_bits binary32 x in
    sym (of_bits-to_bits binary32 r g)
    ∙ ap (of_bits binary32) (v.pattern ∙ at_one b v.n h k)
    ∙ rooted b v.n (omega arith, omega arith) v.nearest
    ∙ ap root_of (of_bits-to_bits binary32 x f)

pub is_root-requires : goal.is_root-requires
is_root-requires c =
    let b = c.args.b in
    subst (λ (m : ℕ). (70368744177664 ≤ m) × (m ≤ 281474959933440)) (sym c.scaled_of.ensures) (in_range b (search rules))

pub returns-then-is_root : goal.returns-then-is_root
returns-then-is_root c =
    let r = c.quick_guess-r.result in
    let e = c.requires.0 in
    let v = subst (λ (m : ℕ). HasRoot m r) (c.scaled_of.ensures ∙ ap scaled e) (c.is_root.ensures c.if-is_root.true) in
    found c.args.x r (held c.before.before) c.quick_guess-r.ensures (subst (λ (b : ℕ). 1065353216 ≤ b) e c.requires.1) (subst (λ (b : ℕ). b < 1082130432) e c.requires.2) v

pub returns : goal.returns
returns c = c.any_root.ensures
