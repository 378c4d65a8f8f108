-- `checks::is_clear` meets its contract. The loop's invariant: the first i rows are clear.
use Prim.Native.Nat.{ℕ, ◌*◌, ◌+◌}
use native.Mathlib.Omega.{arith}
use native.Mathlib.Numerals.{add-one}
use mathlib.Core.Path.{◌≡◌, refl, sym, ap, ◌∙◌}
use mathlib.Core.Bool.{Bool, true, false, true≢false}
use lib.Dec.{eqb}
use borrow.Author.Tests.{eq-eqb, ne_eqb}
use Rattle.lane.specs.Floats.{◌‼◌}
use Rattle.text.specs.Text.{bits_of}
use Rattle.places.specs.Places.{every}
use Rattle.places.specs.Once.{every_at, never}
use Rattle.voices.specs.Calls.{is_clear}
use Rattle.checks.proofs.is_clear.Goals as goal

-- one row more
row : (p : ℕ → Bool) (i : ℕ) → every p i ≡ true → p i ≡ true → every p (i + 1) ≡ true
unfolding every
row p i e h = ap (every p) (add-one i) ∙ rw (e, h)

pub loop-i-init : goal.loop-i-init
unfolding every
loop-i-init c = refl

pub place_at-at-requires : goal.place_at-at-requires
place_at-at-requires c = (c.loop-i-test.true, c.requires.0, c.requires.1)

pub returns-then-bits_of-ne0 : goal.returns-then-bits_of-ne0
unfolding is_clear
returns-then-bits_of-ne0 c =
    let a = c.args in
    let clear : ℕ → Bool = λ k. eqb (bits_of (a.list.now ‼ (k * a.width + a.place))) 0 in
    let set : clear c.loop-i.i ≡ false = rw (← c.place_at-at.ensures.0, ← c.bits_of.ensures) (ne_eqb _ _ c.if-bits_of-ne0.true) in
    sym (never (every clear a.rows) (λ e. true≢false (sym (every_at clear a.rows c.loop-i.i e c.loop-i-test.true) ∙ set)))

pub loop-i-preserved : goal.loop-i-preserved
loop-i-preserved c =
    let a = c.args in
    let clear : ℕ → Bool = λ k. eqb (bits_of (a.list.now ‼ (k * a.width + a.place))) 0 in
    let here : clear c.loop-i.i ≡ true = rw (← c.place_at-at.ensures.0, ← c.bits_of.ensures) (eq-eqb _ _ c.if-bits_of-ne0.false) in
    row clear c.loop-i.i c.loop-i.invariant here

pub returns : goal.returns
unfolding is_clear
returns c =
    let a = c.args in
    let e : c.loop-i.i ≡ a.rows = omega arith in
    sym (ap (every (λ k. eqb (bits_of (a.list.now ‼ (k * a.width + a.place))) 0)) (sym e) ∙ c.loop-i.invariant)
