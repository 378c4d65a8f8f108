-- `impulse::answer` meets its contract: what was read has the whole input's answer, and what was printed is it.
use Rattle.std.proofs.Common.{refl, arith}
use Rattle.impulse.proofs.Text.{answered}
use Rattle.impulse.proofs.answer.Goals as goal

pub returns-clause-text : goal.returns-clause-text
returns-clause-text g c =
    answered c.write_all.result _ _ _ c.in_ok-n.n c.put_impulse-m.result 64 65536 c.read_line.new.buf _ c.put_impulse-m.new.out
    (omega arith) c.read_line.auto.buf refl c.in_ok-n.ensures.line c.put_impulse-m.ensures c.write_all.ensures.bytes
