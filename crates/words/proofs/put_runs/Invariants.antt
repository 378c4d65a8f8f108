-- `put_runs` meets its contract. The loop's invariant: the numbers left lead where all lead. Assumes nothing.
use Rattle.std.proofs.Common.{◌≡◌, length}
use Rattle.text.specs.Text.{buffer}
use Rattle.words.specs.Words.{put_runs}
use Rattle.words.proofs.put_runs.Given as goal

abbrev pub invariant-loop-rest : goal.invariant-loop-rest
invariant-loop-rest l = put_runs l.rest (buffer l.out l.p) ≡ put_runs l.xs (buffer l.initial.out l.at)

abbrev pub decreases-loop-rest : goal.decreases-loop-rest
decreases-loop-rest l = length l.rest
