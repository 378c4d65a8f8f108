-- `are_all` meets its contract. The loop's invariant: whether the words left are all of the kind is whether all are, and p is a position.
-- Assumes nothing.
use Rattle.std.proofs.Common.{true, false, ◌∙◌, rules}
use Rattle.words.proofs.Reading.{every_on, every_not, every_end}
use Rattle.words.proofs.are_all.Goals as goal

pub returns-then-not-is_one : goal.returns-then-not-is_one
returns-then-not-is_one g c =
    every_not _ _ _ _ _ c.loop-test.true (c.requires.1.1 _ false c.loop.invariant.fits c.if-not-is_one.ensures) ∙ c.loop.invariant.left

pub loop-preserved : goal.loop-preserved
loop-preserved g c = record {
  left =
      every_on _ _ _ _ _ _ c.loop-test.true (c.requires.1.1 _ true c.loop.invariant.fits c.if-not-is_one.ensures) c.next-p.ensures
      ∙ c.loop.invariant.left;
  fits = search rules;
}

pub returns : goal.returns
returns g c = every_end _ _ _ _ _ c.loop-test.false ∙ c.loop.invariant.left
