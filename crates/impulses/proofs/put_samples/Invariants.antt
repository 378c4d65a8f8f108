-- `put_samples` meets its contract. The loop's invariant: the lines from frame i on lead where all the lines lead. Assumes nothing.
use Rattle.std.proofs.Common.{◌≡◌, drop}
use Rattle.text.specs.Text.{buffer, puts}
use Rattle.impulses.specs.Impulse.{samples_text}
use Rattle.impulses.proofs.put_samples.Given as goal

abbrev pub invariant-loop-i : goal.invariant-loop-i
invariant-loop-i l = puts (samples_text l.i (drop l.i l.samples)) (buffer l.out l.p) ≡ puts (samples_text 0 l.samples) (buffer l.initial.out l.at)
