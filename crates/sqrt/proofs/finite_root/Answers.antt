-- `finite_root` meets its contract: the whole root, from the quick guess or from `near_root`, is the f32's significand. Assumes nothing.
use Rattle.std.proofs.Common.{◌≡◌, ℕ, ◌+◌, ◌-◌, ◌*◌, ◌/◌, ◌%◌, ◌^◌, ◌≤◌, sym, ap, ◌∙◌, subst, arith, rules}
use lib.Ieee.{binary32, of_bits}
use Rattle.bits.specs.Patterns.{plain}
use Rattle.sqrt.specs.Root.{root_units}
use Rattle.sqrt.specs.Inner.{NearestWhole, HasRoot}
use Rattle.sqrt.proofs.Isqrt.{Split, split, split_whole}
use Rattle.sqrt.proofs.Scaled.{packed}
use Rattle.sqrt.proofs.finite_root.Goals as goal

abbrev square : goal.Start → ℕ
square c = c.args.m * 2 ^ (23 + c.args.e % 2) % 18446744073709551616

parts : (c : goal.Start) → Split c.args.m c.args.e (c.args.m * 2 ^ (23 + c.args.e % 2))
parts c = split c.args.m c.args.e (search rules) (search rules) (search rules)

in_range : (c : goal.Start) → (70368744177664 ≤ square c) × (square c ≤ 281474959933440)
in_range c = subst (λ (M : ℕ). (70368744177664 ≤ M) × (M ≤ 281474959933440)) (sym (split_whole (parts c))) ((parts c).low, (parts c).high)

-- the root with the digits n
rooted : (c : goal.Start) (n : ℕ) → NearestWhole (square c) n → of_bits binary32 ((c.args.e / 2 - 1) * 8388608 + n) ≡ root_units (c.args.m * 2 ^ (c.args.e + 21))
rooted c n v =
    packed c.args.m c.args.e (c.args.m * 2 ^ (23 + c.args.e % 2)) n (search rules) (search rules) (parts c)
    (subst (λ (M : ℕ). NearestWhole M n) (split_whole (parts c)) v)

-- what the test of the quick guess told
guessed : (c : goal.Then-is_root) → HasRoot (square c.before.before.before) c.quick_guess-r.result
guessed c = c.is_root.ensures c.if-is_root.true

digits : (p n : ℕ) → p ≡ 1056964608 + n → p - 1056964608 ≡ n
digits p n h = omega arith

pub float_from_bits-e : goal.float_from_bits-e
float_from_bits-e c = plain _ (omega arith)

pub is_root-requires : goal.is_root-requires
is_root-requires c = in_range c.before

pub float_to_bits-result : goal.float_to_bits-result
float_to_bits-result c = (guessed c).number

pub overflow_sub-result-then-is_root : goal.overflow_sub-result-then-is_root
overflow_sub-result-then-is_root c = let h = (guessed c).pattern in omega arith

pub overflow_add-result : goal.overflow_add-result
overflow_add-result c = let h = guessed c in let p = h.pattern in let v = h.nearest.high in record { fits = omega arith }

pub float_from_bits-result : goal.float_from_bits-result
float_from_bits-result c = let h = guessed c in let p = h.pattern in let v = h.nearest.high in plain _ (omega arith)

pub returns-then-is_root : goal.returns-then-is_root
returns-then-is_root c =
    let h = guessed c in
    ap (λ (n : ℕ). of_bits binary32 ((c.args.e / 2 - 1) * 8388608 + n)) (digits _ h.n h.pattern) ∙ rooted c.before.before.before h.n h.nearest

pub near_root-requires : goal.near_root-requires
near_root-requires c = in_range c.before.before.before

pub overflow_add-result-2 : goal.overflow_add-result-2
overflow_add-result-2 c = let v = c.near_root.ensures in let h = v.high in record { fits = omega arith }

pub float_from_bits-result-2 : goal.float_from_bits-result-2
float_from_bits-result-2 c = let v = c.near_root.ensures in let h = v.high in plain _ (omega arith)

pub returns : goal.returns
returns c = rooted c.before.before.before.before c.near_root.result c.near_root.ensures
