-- `place` meets its contract. The loop's invariant: k names passed, and the place among those left, are the place among all. Assumes nothing.
use Rattle.std.proofs.Common.{◌∙◌}
use Rattle.words.proofs.Reading.{place_all, place_here, place_on, place_end}
use Rattle.words.proofs.place.Goals as goal

pub loop-k-init : goal.loop-k-init
loop-k-init c = place_all _ _ _ 0

pub returns-then-eq : goal.returns-then-eq
returns-then-eq c = place_here _ _ _ _ _ _ c.loop-k-test.true c.bytes_at.ensures c.if-eq.ensures ∙ c.loop-k.invariant

pub loop-k-preserved : goal.loop-k-preserved
loop-k-preserved c = place_on _ _ _ _ _ _ _ c.loop-k-test.true c.bytes_at.ensures c.if-eq.ensures c.next-at.ensures ∙ c.loop-k.invariant

pub returns : goal.returns
returns c = place_end _ _ _ _ _ c.loop-k-test.false c.loop-k.auto.k-end ∙ c.loop-k.invariant
