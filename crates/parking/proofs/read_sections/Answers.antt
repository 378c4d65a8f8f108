-- `parking::read_sections` meets its contract. Assumes nothing.
use mathlib.Core.Path.{◌≡◌, ap, ◌∙◌}
use Prim.Native.Nat.{ℕ, ◌+◌}
use native.Mathlib.Omega.{arith}
use mathlib.Core.List.{◌++◌}
use lib.ListN.{drop, replicate}
use lib.Ieee.{Float, nan, binary32, of_bits, round}
use Rattle.parts.specs.Parts.{tab}
use Rattle.parts.specs.Flat.{tab_again}
use Rattle.file_words.specs.Words.{float_of}
use Rattle.setups.specs.Parked.{setup_word}
use Rattle.parking.specs.Asks.{sections_in}
use Rattle.parking.proofs.read_sections.Goals as goal

pub loop-i-preserved : goal.loop-i-preserved
loop-i-preserved c = tab_again (λ k. float_of (setup_word c.args.file.now (9 + k))) _ _ _ _ nan (omega arith) c.loop-i.invariant (c.float_of.ensures ∙ ap float_of c.file_word.ensures)

pub returns : goal.returns
unfolding sections_in of_bits round
returns c =
    let l = c.loop-i in
    let word : ℕ → Float = λ k. float_of (setup_word c.args.file.now (9 + k)) in
    let e : l.i ≡ 160 = omega arith in
    l.invariant ∙ ap (λ (i : ℕ). tab word i ++ drop i (replicate 320 (of_bits binary32 0))) e
