-- `checks::chord_refused` meets its contract: by the code, the count, and the offsets up to the count.
use mathlib.Core.Path.{◌≡◌, refl, sym, ap, ◌∙◌}
use mathlib.Core.Bool.{Bool, true, false, not, ◌||◌}
use Prim.Native.Nat.{ℕ, zero, suc, ◌≤◌}
use mathlib.Core.List.{List}
use native.Mathlib.Omega.{arith}
use native.Mathlib.Numerals.{add-one}
use lib.ListN.{length, take}
use lib.Ieee.{Float, of_bits, round, nan}
use borrow.Author.Tests.{eq-eqb, ne_eqb, leb-true}
use lib.Dec.{leb}
use Rattle.std.specs.List.{list_any}
use Rattle.std.proofs.lemmas.List.Folds.{list_any_more}
use Rattle.lane.specs.Floats.{◌‼◌}
use Rattle.parts.specs.Parts.{upto}
use Rattle.setups.specs.Setup.{within, offset_refused, chord_refused}
use Rattle.voices.specs.Accepted.{and-true}
use Rattle.checks.proofs.Laws.{inside}
use Rattle.checks.proofs.chord_refused.Goals as goal

-- the mark of the first n offsets
first : (xs : List Float) (n : ℕ) → n ≤ length xs → list_any offset_refused (take n xs) ≡ upto (λ j b. b || offset_refused (xs ‼ j)) n false
first xs zero l = refl
first xs (suc n) l =
    ap (λ (k : ℕ). list_any offset_refused (take k xs)) (sym (add-one n))
    ∙ list_any_more offset_refused xs n nan (omega arith)
    ∙ ap (λ (b : Bool). b || offset_refused (xs ‼ n)) (first xs n (omega arith))

pub returns-else-code-eq13 : goal.returns-else-code-eq13
unfolding chord_refused
returns-else-code-eq13 c = rw (ne_eqb _ _ c.if-code-eq13.false)

pub returns-then-not-contains : goal.returns-then-not-contains
unfolding chord_refused
returns-then-not-contains c =
    let e = c.new.ensures in
    let h : within 1 8 c.args.chord.count ≡ false = inside _ e.start e.end e.exhausted c.if-not-contains.ensures.value in
    rw (eq-eqb _ _ c.if-code-eq13.true, h) (ap not c.if-not-contains.true)

pub returns-else-not-contains : goal.returns-else-not-contains
unfolding chord_refused offset_refused of_bits round
returns-else-not-contains c =
    let e = c.new.ensures in
    let h : within 1 8 c.args.chord.count ≡ true = inside _ e.start e.end e.exhausted c.if-not-contains.ensures.value in
    let n = c.args.chord.count in
    let most : n ≤ 8 = leb-true n 8 (and-true (leb 1 n) (leb n 8) h).1 in
    let any : c.any_outside.result ≡ list_any offset_refused (take n c.args.chord.offsets) = c.any_outside.ensures in
    rw (eq-eqb _ _ c.if-code-eq13.true, h) (any ∙ first c.args.chord.offsets n (omega arith))
