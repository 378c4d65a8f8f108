-- Notation for f32 (document 01, Floats): each operation is IEEE 754's at binary32, rounded once. `Float` has one NaN,
-- so `≡` on it is document 01's equality of floats: equal bits, or both NaN. Definitions only. Assumes nothing.
use Rattle.std.specs.Prelude.{false, List, ℕ, get_or, Float}
use Rattle.std.specs.Float.{nan, binary32}
use Rattle.std.specs.Float.Ieee.{add, sub, mul, div, round}

abbrev pub ◌⊕◌ : Float → Float → Float
x ⊕ y = add binary32 x y

abbrev pub ◌⊖◌ : Float → Float → Float
x ⊖ y = sub binary32 x y

abbrev pub ◌⊗◌ : Float → Float → Float
x ⊗ y = mul binary32 x y

abbrev pub ◌⊘◌ : Float → Float → Float
x ⊘ y = div binary32 x y

infixl 6 ◌⊕◌ ◌⊖◌
infixl 7 ◌⊗◌ ◌⊘◌
-- a fused step is two roundings: first the product, then the sum
abbrev pub fma : Float → Float → Float → Float
fma x m a = x ⊗ m ⊕ a

-- number i of a list, from 0; NaN past its end, which no definition reads
abbrev pub ◌‼◌ : List Float → ℕ → Float
xs ‼ i = get_or xs i nan

infixl 90 ◌‼◌
-- a literal: the f32 nearest n / d
abbrev pub decimal : ℕ → ℕ → Float
decimal n d = round binary32 false n d

abbrev pub whole : ℕ → Float
whole n = decimal n 1

-- +0
abbrev pub zero : Float
zero = whole 0

abbrev pub one : Float
one = whole 1

abbrev pub two : Float
two = whole 2

abbrev pub half : Float
half = decimal 1 2
