-- `places::sound_file` meets its contract. Assumes nothing.
use mathlib.Core.Path.{◌≡◌}
use mathlib.Core.Bool.{true}
use Prim.Native.Nat.{ℕ, ◌<◌}
use Rattle.parts.specs.Parts.{piece}
use Rattle.blocks.specs.Blocks.{sound_block}
use Rattle.places.proofs.sound_file.Given as goal

abbrev pub invariant-loop-b : goal.invariant-loop-b
invariant-loop-b l = (k : ℕ) → k < l.b → sound_block (piece 512 k l.file) ≡ true
