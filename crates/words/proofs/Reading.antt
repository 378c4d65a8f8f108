-- Laws of the words read: one turn of each loop is one step of its definition. By cases on the tests. Assumes nothing.
use mathlib.Core.Path.{◌≡◌}
use mathlib.Core.Bool.{Bool, true, false}
use mathlib.Core.List.{List}
use Prim.Native.Nat.{ℕ, suc, ◌+◌, ◌-◌, ◌≤◌, ◌<◌}
use native.Mathlib.Omega.{arith}
use Rattle.std.specs.Str.{bytes_eq}
use Rattle.words.specs.Words.{next_at, word_start, bytes_at, every, place_from}

-- ---- words

module _ (s : List ℕ) where
  pub start_on : (n k at q : ℕ) → k < n → q ≡ next_at s at → word_start s q (n - (k + 1)) ≡ word_start s at (n - k)
  unfolding word_start
  start_on n k at q h e = let m : n - k ≡ suc (n - (k + 1)) = omega arith in rw (m, e)

  pub start_end : (n k at : ℕ) → n ≤ k → at ≡ word_start s at (n - k)
  unfolding word_start
  start_end n k at h = let m : n - k ≡ 0 = omega arith in rw m

-- ---- words of a kind

module _ (kind : List ℕ → Bool) (s : List ℕ) where
  pub every_on : (n k at q : ℕ) → k < n → true ≡ kind (bytes_at s at) → q ≡ next_at s at → every kind s q (n - (k + 1)) ≡ every kind s at (n - k)
  unfolding every
  every_on n k at q h e f = let m : n - k ≡ suc (n - (k + 1)) = omega arith in rw (m, ← e, f)

  pub every_not : (n k at : ℕ) → k < n → false ≡ kind (bytes_at s at) → false ≡ every kind s at (n - k)
  unfolding every
  every_not n k at h e = let m : n - k ≡ suc (n - (k + 1)) = omega arith in rw (m, ← e)

  pub every_end : (n k at : ℕ) → n ≤ k → true ≡ every kind s at (n - k)
  unfolding every
  every_end n k at h = let m : n - k ≡ 0 = omega arith in rw m

-- ---- names

module _ (names name : List ℕ) where
  pub place_all : (n at : ℕ) → 0 + place_from names name at (n - 0) ≡ place_from names name at n
  place_all n at = let e : n - 0 ≡ n = omega arith in rw e (omega arith)

  pub place_here : (n k at : ℕ) (w : List ℕ) → k < n → w ≡ bytes_at names at → true ≡ bytes_eq w name → k ≡ k + place_from names name at (n - k)
  unfolding place_from
  place_here n k at w h e t = let m : n - k ≡ suc (n - (k + 1)) = omega arith in rw (m, ← e, ← t) (omega arith)

  pub place_on : (n k at q : ℕ) (w : List ℕ) → k < n → w ≡ bytes_at names at → false ≡ bytes_eq w name → q ≡ next_at names at → k + 1 + place_from names name q (n - (k + 1)) ≡ k + place_from names name at (n - k)
  unfolding place_from
  place_on n k at q w h e t f = let m : n - k ≡ suc (n - (k + 1)) = omega arith in rw (m, ← e, ← t, f) (omega arith)

  pub place_end : (n k at : ℕ) → n ≤ k → k ≤ n → n ≡ k + place_from names name at (n - k)
  unfolding place_from
  place_end n k at h i = let m : n - k ≡ 0 = omega arith in rw m (omega arith)
