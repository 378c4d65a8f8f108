-- `file_words::put_word` meets its contract. Assumes nothing.
use mathlib.Core.Path.{◌≡◌, ap, ◌∙◌}
use Prim.Native.Nat.{ℕ, ◌/◌, ◌%◌, ◌<◌}
use native.Mathlib.Omega.{arith}
use mathlib.Core.List.{[], ◌∷◌}
use Rattle.file_words.specs.Words.{word_bytes}
use Rattle.file_words.specs.Laws.{lent}
use Rattle.file_words.proofs.put_word.Goals as goal

bytes : (w : ℕ) → w < 4294967296 → w % 256 ∷ w / 256 % 256 ∷ w / 65536 % 256 ∷ w / 16777216 % 256 ∷ [] ≡ word_bytes w
unfolding word_bytes
bytes w h = let e : w / 16777216 % 256 ≡ w / 16777216 = omega arith in ap (λ (k : ℕ). w % 256 ∷ w / 256 % 256 ∷ w / 65536 % 256 ∷ k ∷ []) e

pub returns : goal.returns
returns c = lent 4 _ _ _ _ (c.copy_from_slice.ensures.after ∙ c.to_le_bytes.ensures ∙ bytes c.args.w (omega arith))
