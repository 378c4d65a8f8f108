-- `impulse::read_line` meets its contract and ends: each turn stores one byte more. The loop's invariant: the bytes so far lie within the buffer, they are
-- what was read, and the line in front of what there was is these bytes and the line in front of what is left, so none of them is a newline.
use Rattle.std.proofs.Common.{◌≡◌, ℕ, List, Option, None, Some, take, ◌++◌}
use Rattle.std.specs.Io.BufRead.{take_through}
use Rattle.std.specs.Io.KnownBytes.{Consumes}
use Rattle.impulse.proofs.read_line.Given as goal

abbrev Begins : Option (List ℕ) → Option (List ℕ) → List ℕ → Type 0
Begins None new bs = Unit {0}
Begins (Some xs) None bs = ⊥
Begins (Some xs) (Some ys) bs = take_through 10 xs ≡ bs ++ take_through 10 ys

abbrev pub invariant-loop-n : goal.invariant-loop-n
invariant-loop-n g l = record {
  read : Consumes (g.R.Read.remaining l.fn.input) (g.R.Read.remaining l.input) (take l.n l.buf);
  begins : Begins (g.R.Read.remaining l.fn.input) (g.R.Read.remaining l.input) (take l.n l.buf);
}
