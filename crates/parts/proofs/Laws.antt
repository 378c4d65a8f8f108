-- A store to a list is the store to its piece. Assumes nothing.
use Rattle.std.specs.Prelude.{◌≡◌}
use Rattle.std.proofs.Math.Path.{sym, ap}
use Rattle.std.proofs.Common.{◌∙◌}
use Prim.Native.Nat.{ℕ, ◌+◌, ◌*◌, ◌≤◌, ◌<◌}
use mathlib.Core.List.{List}
use Rattle.std.proofs.Math.ListN.{length, set}
use Rattle.parts.specs.Parts.{piece, patch}
use Rattle.parts.specs.Laws.{length_piece, patch_piece, patch_set}

module _ {ℓ} {A : Type ℓ} where
  pub set_piece : (m s i : ℕ) (xs : List A) (a : A) → s * m + m ≤ length xs → i < m → set xs (s * m + i) a ≡ patch m s (set (piece m s xs) i a) xs
  set_piece m s i xs a h b =
      ap (λ (r : List A). set r (s * m + i) a) (sym (patch_piece m s xs)) ∙ patch_set m s i (piece m s xs) xs a h (length_piece m s xs h) b
