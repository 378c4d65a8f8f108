-- For the proofs: nothing here must be believed.
-- A held delay lies between 2 and len - 3, and so does its whole part. By the cases of the clamp. Assumes nothing.
use Rattle.std.specs.Prelude.{◌≡◌, ℕ, ◌-◌, ◌≤◌, Bool, true, false, cond, not, T, refl, Float}
use Rattle.std.proofs.Common.{sym, subst, zero-lt-suc, arith}
use Rattle.std.specs.Float.{nan, inf, fin, binary32}
use Rattle.std.specs.Float.Ieee.{le, lt, round, is_nan}
use Rattle.std.specs.Float.Ieee.Exact.{HasValue}
use Rattle.std.specs.Float.Ieee.Back.{round_whole}
use Rattle.std.specs.Float.Ieee.Order.{round_mono}
use Rattle.lane.specs.Floats.{whole}
use Rattle.lane.specs.Lane.{clamp_of}
use Rattle.lines.specs.Lines.{held, min_delay, longest}
use Rattle.lines.specs.Order.{le_is, nan_le}
use Rattle.lines.specs.Whole.{Between, between_wholes}

-- the clamp by `>=` and `<=`, where a NaN fails the first test
pub held_is : (len : ℕ) (d : Float) → is_nan (longest len) ≡ false
    → held len d ≡ cond (le min_delay d) (cond (le d (longest len)) d (longest len)) min_delay
unfolding held clamp_of round is_nan
held_is len d n = go (is_nan d) refl
  where
    go : (x : Bool) → is_nan d ≡ x
        → cond x min_delay (cond (lt d min_delay) min_delay (cond (lt (longest len) d) (longest len) d))
        ≡ cond (le min_delay d) (cond (le d (longest len)) d (longest len)) min_delay
    go true p = rw (nan_le d min_delay p)
    go false p = rw (le_is d min_delay p refl, le_is (longest len) d n p) (sides (lt d min_delay) (lt (longest len) d))
      where
        sides : (x y : Bool) → cond x min_delay (cond y (longest len) d) ≡ cond (not x) (cond (not y) d (longest len)) min_delay
        sides true y = refl
        sides false true = refl
        sides false false = refl

-- whole numbers keep their order as floats
whole_le : (a b : ℕ) → a ≤ b → T (le (whole a) (whole b))
whole_le a b h = round_mono binary32 a 1 b 1 (zero-lt-suc 0) (zero-lt-suc 0) (omega arith)

-- a whole number up to 65,536 is no NaN
number : (n : ℕ) → n ≤ 65536 → is_nan (whole n) ≡ false
unfolding is_nan
number n h = go (whole n) (round_whole binary32 false n (omega arith))
  where
    go : (x : Float) → HasValue x false n 1 → is_nan x ≡ false
    go nan v = absurd v
    go (inf s) v = refl
    go (fin s m e) v = refl

module _ (len : ℕ) (d : Float) (l : 1024 ≤ len) (h : len ≤ 65536) where
  pub held_tests : held len d ≡ cond (le min_delay d) (cond (le d (longest len)) d (longest len)) min_delay
  held_tests = held_is len d (number (len - 3) (omega arith))

  pub held_between : Between 2 (len - 3) (held len d)
  held_between = subst (Between 2 n) (sym held_tests) (go (le min_delay d) (le d (whole n)) refl refl)
    where
      n : ℕ
      n = len - 3

      within : (y : Float) → T (le min_delay y) → T (le y (whole n)) → Between 2 n y
      within y a b = between_wholes 2 n y (omega arith) (omega arith) (omega arith) a b

      go : (x y : Bool) → le min_delay d ≡ x → le d (whole n) ≡ y → Between 2 n (cond x (cond y d (whole n)) min_delay)
      go true true p q = within d (subst T (sym p) tt) (subst T (sym q) tt)
      go true false p q = within (whole n) (whole_le 2 n (omega arith)) (whole_le n n (omega arith))
      go false y p q = within min_delay (whole_le 2 2 (omega arith)) (whole_le 2 n (omega arith))
