-- For the proofs: nothing here must be believed.
-- A cell of the ring by one remainder, the cursor's own, and without a wrapped difference. Assumes nothing.
use Rattle.std.specs.Prelude.{◌≡◌, true}
use Prim.Native.Nat.{ℕ, suc, ◌+◌, ◌-◌, ◌*◌, ◌/◌, ◌%◌, ◌^◌, ◌<◌, ◌≤◌}
use Rattle.std.proofs.Math.Nat.{suc-mul, mod-lt, div-add-mod'}
use Rattle.std.proofs.Common.{arith}
use Rattle.parts.specs.Laws.{flat_low}
use Rattle.lines.specs.Lines.{cell_of, is_length}
use Rattle.lines.specs.View.{length_of, whole_turns}

module _ (len cursor b : ℕ) (g : is_length len ≡ true) (c : cursor < 2 ^ 64) (h : b < len) where
  abbrev turns : (P : Type 0) → ((k : ℕ) → k * len + cursor % len ≡ (cursor + (2 ^ 64 - b)) % 2 ^ 64 + b → P) → P
  turns = whole_turns len cursor b g c h

  pub cell_near : b ≤ cursor % len → cursor % len - b ≡ cell_of len cursor b
  unfolding cell_of
  cell_near u =
      let r : ℕ = (cursor + (2 ^ 64 - b)) % 2 ^ 64 in
      let t = length_of len g in
      let l = t.least in
      let x : r / len * len + r % len ≡ r = div-add-mod' r len in
      let o : cursor % len < len = mod-lt cursor (omega arith) in
      turns (cursor % len - b ≡ r % len) (λ k e. flat_low len k (r / len) (cursor % len - b) (r % len) (omega arith) (mod-lt r (omega arith)) (omega arith))

  pub cell_far : cursor % len < b → cursor % len + len - b ≡ cell_of len cursor b
  unfolding cell_of
  cell_far u =
      let r : ℕ = (cursor + (2 ^ 64 - b)) % 2 ^ 64 in
      let t = length_of len g in
      let l = t.least in
      let x : r / len * len + r % len ≡ r = div-add-mod' r len in
      turns (cursor % len + len - b ≡ r % len)
      (λ k e. flat_low len k (suc (r / len)) (cursor % len + len - b) (r % len) (omega arith) (mod-lt r (omega arith)) (omega (arith, suc-mul (r / len) len)))
