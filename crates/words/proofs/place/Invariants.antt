-- `place` meets its contract. The loop's invariant: k names passed, and the place among those left, are the place among all. Assumes nothing.
use Rattle.std.proofs.Common.{◌≡◌, ◌+◌, ◌-◌}
use Rattle.words.specs.Words.{place_from}
use Rattle.words.proofs.place.Given as goal

abbrev pub invariant-loop-k : goal.invariant-loop-k
invariant-loop-k l = l.k + place_from l.names l.name l.at (l.n - l.k) ≡ place_from l.names l.name 0 l.n
