-- `short_decimal` meets its contract: a word of nine bytes at most, whose number is below 10 ^ 9. Assumes nothing.
use Rattle.std.proofs.Common.{sym, ◌∙◌, arith}
use Rattle.impulses.proofs.Reading.{short_below, short_long, short_is}
use Rattle.impulses.proofs.short_decimal.Goals as goal

pub returns-then-saturating_sub-gt-MOST_DIGITS : goal.returns-then-saturating_sub-gt-MOST_DIGITS
returns-then-saturating_sub-gt-MOST_DIGITS c = short_long _ _ _ c.saturating_sub.ensures c.if-saturating_sub-gt-MOST_DIGITS.true

pub overflow_cast-result : goal.overflow_cast-result
overflow_cast-result c = omega (arith, short_below _ _ _ c.saturating_sub.ensures _ _ c.if-saturating_sub-gt-MOST_DIGITS.false c.decimal.ensures c.in_ok-v.was)

pub returns-in_err-v : goal.returns-in_err-v
returns-in_err-v c =
    c.from_residual.ensures ∙ sym c.in_err-v.was ∙ short_is _ _ _ c.saturating_sub.ensures _ c.if-saturating_sub-gt-MOST_DIGITS.false c.decimal.ensures

pub returns : goal.returns
returns c = sym c.in_ok-v.was ∙ short_is _ _ _ c.saturating_sub.ensures _ c.if-saturating_sub-gt-MOST_DIGITS.false c.decimal.ensures
