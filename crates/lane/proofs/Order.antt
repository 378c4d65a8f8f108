-- Where no two zeros of different sign meet, the answers of max and min are those of document 01 (document 02, C-14). Assumes nothing.
use Rattle.std.specs.Prelude.{◌≡◌, refl, Bool, true, false, cond, ◌&&◌, ◌||◌, Float}
use Rattle.std.proofs.Common.{ap, ◌∙◌, true≢false}
use Rattle.lane.specs.Lane.{is_plus_zero, is_minus_zero, max_of, min_of}
use Rattle.lane.specs.Order.{max_in01, min_in01, max_moved, min_moved, unlike_zeros}

neither : (p q : Bool) → p || q ≡ false → (p ≡ false) × (q ≡ false)
neither true q h = absurd (true≢false h)
neither false q h = (refl, h)

pub as_in_01 : (a b : Float) → unlike_zeros a b ≡ false → (max_of a b ≡ max_in01 a b) × (min_of a b ≡ min_in01 a b)
unfolding unlike_zeros
as_in_01 a b h =
    let n = neither (is_minus_zero a && is_plus_zero b) (is_minus_zero b && is_plus_zero a) h in (
      max_moved a b ∙ ap (λ (z : Bool). cond z b (max_in01 a b)) n.0,
      min_moved a b ∙ ap (λ (z : Bool). cond z b (min_in01 a b)) n.1,
    )
