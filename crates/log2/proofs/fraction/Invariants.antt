-- `fraction` meets its contract. The loop's invariant: the rounds that are left, from the r and f held, give the answer (Rounds.antt). Assumes nothing.
use Rattle.log2.proofs.Rounds.{Carried}
use Rattle.log2.proofs.fraction.Given as goal

abbrev pub invariant-loop : goal.invariant-loop
invariant-loop l = Carried l.m l.r l.f l.counter
