-- `hexadecimal` meets its contract: the number of eight digits, which is below 2 ^ 32. Assumes nothing.
use Rattle.std.proofs.Common.{◌∙◌, sym, arith}
use Rattle.text.proofs.Reading.{within, hex_other, hex_is}
use Rattle.text.proofs.hexadecimal.Goals as goal

pub returns-then-word-ne8 : goal.returns-then-word-ne8
returns-then-word-ne8 c = hex_other _ _ c.bytes_of-word.ensures c.if-word-ne8.true

pub returns-in_err-bits : goal.returns-in_err-bits
returns-in_err-bits c =
    c.from_residual.ensures ∙ sym (c.in_err-bits.was) ∙ hex_is _ _ _ _ c.bytes_of-word.ensures c.if-word-ne8.false c.from.ensures c.digits.ensures

pub overflow_cast-result : goal.overflow_cast-result
overflow_cast-result c = omega (arith, within 16 c.from.result c.bytes_of-word.result.now 0 _ (omega arith) (sym c.digits.ensures ∙ c.in_ok-bits.was))

pub returns : goal.returns
returns c = sym (c.in_ok-bits.was) ∙ hex_is _ _ _ _ c.bytes_of-word.ensures c.if-word-ne8.false c.from.ensures c.digits.ensures
