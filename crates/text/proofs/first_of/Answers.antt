-- `first_of` meets its contract: what is passed from `at` on is the front in which each byte is neither. Assumes nothing.
use Rattle.std.proofs.Common.{rules, not, ◌&&◌, eqb, drop}
use Rattle.std.proofs.lemmas.Iterator.{YieldsList-from_slice}
use Rattle.std.proofs.lemmas.Iterator.Consumers.{count_from_yields_List}
use Rattle.std.proofs.lemmas.Iterator.Search.{YieldsList-from_take_while}
use borrow.Author.Tests.{tests}
use Rattle.text.proofs.Reading.{first_is}
use Rattle.text.proofs.first_of.Goals as goal

pub returns : goal.returns
returns c =
    let a = c.args in
    first_is a.a a.b a.s.now a.at c.count.result
    (count_from_yields_List _ _ c.count.ensures.ran
    (YieldsList-from_take_while _ (λ x. not (eqb x a.a) && not (eqb x a.b))
    (YieldsList-from_slice (drop a.at a.s.now) (cc)) c.take_while.ensures.closure c.take_while.ensures.done (λ x b q k. search (rules, tests))))
