-- `parking::words_from` meets its contract. Assumes nothing.
use mathlib.Core.Path.{◌≡◌}
use native.Mathlib.Omega.{arith}
use lib.ListN.{length-set}
use Rattle.parts.specs.Flat.{tab_again, tab_done}
use Rattle.parking.specs.Asks.{word_from, words_from}
use Rattle.parking.proofs.words_from.Goals as goal

pub loop-i-preserved : goal.loop-i-preserved
loop-i-preserved c = (tab_again _ _ _ _ _ 0 (omega arith) c.loop-i.invariant.0 c.word_from.ensures, simp length-set c.loop-i.invariant.1)

pub returns : goal.returns
unfolding words_from
returns c = let e : c.loop-i.i ≡ 170 = omega arith in (tab_done (word_from c.args.front.now c.args.sections.now c.args.gain) _ _ _ 170 c.requires.2 e c.loop-i.invariant.0, λ i l. c.shared_slice_known-2-1.given i, c.requires.1)
