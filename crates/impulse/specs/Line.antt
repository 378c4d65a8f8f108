-- What a read of one byte does to the bytes that a reader has left, where those are known. Definitions only. Assumes nothing.
use Rattle.std.specs.Prelude.{ℕ, List, [], ◌∷◌, Option, None, Some}
use Rattle.std.specs.Io.KnownBytes.{Consumes, IsAtEnd}

-- the first of them was read; at the end, none, and none is left
abbrev pub Takes : Option (List ℕ) → Option (List ℕ) → Option ℕ → Type 0
Takes old new (Some b) = Consumes old new (b ∷ [])
Takes old new None = Consumes old new [] × IsAtEnd new
