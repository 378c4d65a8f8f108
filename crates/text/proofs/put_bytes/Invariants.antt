-- `put_bytes` meets its contract. The loop's invariant: what is left to write leads where all the bytes lead. Assumes nothing.
use mathlib.Core.Path.{◌≡◌}
use lib.ListN.{drop}
use Rattle.text.specs.Text.{buffer, puts}
use Rattle.text.proofs.put_bytes.Given as goal

abbrev pub invariant-loop-b : goal.invariant-loop-b
invariant-loop-b l = puts (drop l.b-index l.s) (buffer l.out l.p) ≡ puts l.s (buffer l.initial.out l.at)
