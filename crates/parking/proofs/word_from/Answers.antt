-- `parking::word_from` meets its contract. Assumes nothing.
use mathlib.Core.Path.{◌≡◌, sym, ◌∙◌}
use Prim.Native.Nat.{ℕ, ◌-◌, ◌≤◌, ◌<◌}
use native.Mathlib.Omega.{arith}
use mathlib.Core.List.{List}
use lib.Dec.{ltb}
use lib.ListN.{get_or}
use lib.Ieee.{Float, nan}
use borrow.Author.Tests.{lt-ltb, le-ltb}
use Rattle.text.specs.Text.{bits_of}
use Rattle.places.specs.Places.{pick}
use Rattle.parking.specs.Asks.{word_from}
use Rattle.parking.proofs.word_from.Goals as goal

module _ (f : List ℕ) (t : List Float) (g i : ℕ) where
  front : i < 9 → get_or f i 0 ≡ word_from f t g i
  unfolding word_from
  front h = sym (λ k. pick (lt-ltb i 9 h k) (get_or f i 0) (pick (ltb i 169) (bits_of (get_or t (i - 9) nan)) g))

  section : (w : ℕ) → 9 ≤ i → i < 169 → w ≡ bits_of (get_or t (i - 9) nan) → w ≡ word_from f t g i
  unfolding word_from
  section w a h e = e ∙ sym (λ k. pick (le-ltb i 9 a k) (get_or f i 0) (pick (lt-ltb i 169 h k) (bits_of (get_or t (i - 9) nan)) g))

  gain : 169 ≤ i → g ≡ word_from f t g i
  unfolding word_from
  gain h = sym (λ k. pick (le-ltb i 9 (omega arith) k) (get_or f i 0) (pick (le-ltb i 169 h k) (bits_of (get_or t (i - 9) nan)) g))

pub returns-then-i-lt9 : goal.returns-then-i-lt9
returns-then-i-lt9 c = front _ _ _ _ c.if-i-lt9.true

pub returns-then-i-lt169 : goal.returns-then-i-lt169
returns-then-i-lt169 c = section _ _ _ _ _ c.if-i-lt9.false c.if-i-lt169.true c.bits_of.ensures

pub returns : goal.returns
returns c = gain _ _ _ _ c.if-i-lt169.false
