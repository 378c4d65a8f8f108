-- A root by its digits, with half the exponent; and a normal number's by its pattern. Assumes nothing.
use Rattle.std.proofs.Common.{◌≡◌, ℕ, ◌+◌, ◌-◌, ◌*◌, ◌/◌, ◌%◌, ◌^◌, ◌<◌, ◌≤◌, sym, ◌∙◌, subst, arith}
use lib.Ieee.{binary32, of_bits}
use Rattle.sqrt.specs.Root.{root_of, root_units}
use Rattle.sqrt.specs.Inner.{NearestWhole, Normal, scaled}
use Rattle.bits.specs.Patterns.{pack}
use Rattle.sqrt.proofs.Isqrt.{Split, split, scaled_root}
use Rattle.sqrt.proofs.Cases.{normal_case}

-- the f32 whose digits are the whole number nearest the root of the scaled significand M
pub packed : (m e M n : ℕ) → m < 16777216 → e ≤ 381 → Split m e M → NearestWhole M n → of_bits binary32 ((e / 2 - 1) * 8388608 + n) ≡ root_units (m * 2 ^ (e + 21))
packed m e M n a b p v = pack n (e / 2 - 1) v.low v.high (omega arith) ∙ sym (scaled_root m e M n a b p v)

-- ---- a normal number by its pattern
abbrev pub exponent : ℕ → ℕ
exponent b = b / 8388608 + 127

pub parts : (b : ℕ) → Normal b → Split (b % 8388608 + 8388608) (exponent b) (scaled b)
parts b h =
    subst (λ (k : ℕ). Split (b % 8388608 + 8388608) (exponent b) ((b % 8388608 + 8388608) * 2 ^ k)) shift
    (split (b % 8388608 + 8388608) (exponent b) (omega arith) (omega arith) (omega arith))
  where
    shift : 23 + (b / 8388608 + 127) % 2 ≡ 24 - b / 8388608 % 2
    shift = omega arith

pub in_range : (b : ℕ) → Normal b → (70368744177664 ≤ scaled b) × (scaled b ≤ 281474959933440)
in_range b h = ((parts b h).low, (parts b h).high)

pub rooted : (b n : ℕ) → Normal b → NearestWhole (scaled b) n → of_bits binary32 ((exponent b / 2 - 1) * 8388608 + n) ≡ root_of (of_bits binary32 b)
rooted b n h v =
    packed (b % 8388608 + 8388608) (exponent b) (scaled b) n (omega arith) (omega arith) (parts b h) v ∙ sym (normal_case b h.0 h.1)
