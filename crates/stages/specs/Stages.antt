-- What the ladders and the expanders share (extended.rs). Definitions only. Assumes nothing.
use Rattle.std.specs.Prelude.{List, [], ◌∷◌, Float}
use Rattle.std.proofs.lemmas.List.Edits.{sets}
use Rattle.lane.specs.Floats.{◌⊕◌, ◌⊖◌, ◌‼◌, decimal, half}
use Rattle.stages.specs.declared.Stages.{Stages}

-- a ladder's states after its stages gave y1 to y4: each stage's is y + y - state, and y4 is kept for the next feedback
unfoldable pub ladder_states : List Float → Stages → List Float
ladder_states state y =
    sets state 0
    ((y.y1 ⊕ y.y1 ⊖ state ‼ 0)
    ∷ (y.y2 ⊕ y.y2 ⊖ state ‼ 1)
    ∷ (y.y3 ⊕ y.y3 ⊖ state ‼ 2)
    ∷ (y.y4 ⊕ y.y4 ⊖ state ‼ 3)
    ∷ y.y4
    ∷ [])

-- LADDER_MAX, LADDER_COMPENSATION
abbrev pub ladder_max : Float
ladder_max = decimal 41 10

abbrev pub ladder_compensation : Float
ladder_compensation = half
