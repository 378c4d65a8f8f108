-- For the proofs: nothing here must be believed.
-- A slot's ring in the lent delay list, by the record that the code hands on. Definitions only. Assumes nothing.
use Rattle.std.specs.Prelude.{◌≡◌, true, List, length, Float}
use Rattle.parts.specs.Parts.{piece, patch}
use Rattle.lines.specs.Lines.{is_view}
use Rattle.lines.specs.declared.Ring.{Ring}

-- the ring stands in the list
abbrev pub StandsIn : List Float → Ring → Type 0
StandsIn delay at = is_view at.len at.slot (length delay) ≡ true

-- its cells
abbrev pub cells_at : List Float → Ring → List Float
cells_at delay at = piece at.len at.slot delay

-- the list with other cells there
abbrev pub with_cells : List Float → Ring → (cells : List Float) → List Float
with_cells delay at cells = patch at.len at.slot cells delay
