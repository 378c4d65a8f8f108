-- `line_request` meets its contract: at each return the words found so far are the definition's, and the tests before it passed.
-- Assumes nothing.
use Rattle.std.proofs.Common.{sym, ◌∙◌}
use Rattle.impulses.specs.Impulse.{asked}
use Rattle.impulses.proofs.Reading.{one_word, two_words, more_words, three_words}
use Rattle.impulses.proofs.line_request.Goals as goal

pub returns-then-a-line : goal.returns-then-a-line
returns-then-a-line c = one_word _ _ c.word-a.ensures c.if-a-line.true

pub returns-then-b-line : goal.returns-then-b-line
returns-then-b-line c = two_words _ _ c.word-a.ensures _ c.word-b.ensures c.if-a-line.false c.if-b-line.true

pub returns-then-c-line : goal.returns-then-c-line
returns-then-c-line c = more_words _ _ c.word-a.ensures _ c.word-b.ensures c.if-a-line.false _ c.word-c.ensures c.if-b-line.false c.if-c-line.true

pub returns-in_err-short_decimal : goal.returns-in_err-short_decimal
unfolding asked
returns-in_err-short_decimal c =
    c.from_residual.ensures
    ∙ (rw (sym c.short_decimal.ensures ∙ c.in_err-short_decimal.was) at
    (three_words _ _ c.word-a.ensures _ c.word-b.ensures c.if-a-line.false _ c.word-c.ensures c.if-b-line.false c.if-c-line.false))

pub returns-in_err-short_decimal-2 : goal.returns-in_err-short_decimal-2
unfolding asked
returns-in_err-short_decimal-2 c =
    c.from_residual-in_err-short_decimal-2.ensures
    ∙ (rw (sym c.short_decimal.ensures ∙ c.in_ok-short_decimal.was, sym c.short_decimal-2.ensures ∙ c.in_err-short_decimal-2.was) at
    (three_words _ _ c.word-a.ensures _ c.word-b.ensures c.if-a-line.false _ c.word-c.ensures c.if-b-line.false c.if-c-line.false))

pub returns-in_err-short_decimal-3 : goal.returns-in_err-short_decimal-3
unfolding asked
returns-in_err-short_decimal-3 c =
    c.from_residual-in_err-short_decimal-3.ensures
    ∙ (rw (sym c.short_decimal.ensures ∙ c.in_ok-short_decimal.was, sym c.short_decimal-2.ensures ∙ c.in_ok-short_decimal-2.was, sym c.short_decimal-3.ensures ∙ c.in_err-short_decimal-3.was) at
    (three_words _ _ c.word-a.ensures _ c.word-b.ensures c.if-a-line.false _ c.word-c.ensures c.if-b-line.false c.if-c-line.false))

pub returns : goal.returns
unfolding asked
returns c =
    rw (sym c.short_decimal.ensures ∙ c.in_ok-short_decimal.was, sym c.short_decimal-2.ensures ∙ c.in_ok-short_decimal-2.was, sym c.short_decimal-3.ensures ∙ c.in_ok-short_decimal-3.was) at
    (three_words _ _ c.word-a.ensures _ c.word-b.ensures c.if-a-line.false _ c.word-c.ensures c.if-b-line.false c.if-c-line.false)
