-- For the proofs: nothing here must be believed.
-- Where a block with a given head stands, if one alone does: `sole`'s answer. Definitions only.
use Rattle.std.specs.Prelude.{ℕ, List, Option, Some, None, cond, eqb}
use Rattle.places.specs.Places.{count, place_of, head_in, blocks_in}

unfoldable pub sole_of : List ℕ → ℕ → Option ℕ
sole_of file head = cond (eqb (count (head_in file) head (blocks_in file)) 1) (Some (place_of (head_in file) head (blocks_in file))) None
