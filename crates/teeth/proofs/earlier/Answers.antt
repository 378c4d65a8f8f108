-- `teeth::earlier` meets its contract: the search goes over the teeth before tooth i.
use borrow.Author.Rules.{rules}
use native.Mathlib.Omega.{arith}
use Rattle.std.proofs.Common.{◌≡◌, ℕ, ◌<◌, true, false, take, length, MatchOption}
use Rattle.teeth.specs.Teeth.{is_of_four}
use Rattle.teeth.specs.Placing.{kept, earlier_of}
use Rattle.teeth.proofs.earlier.Goals as goal

pub returns : goal.returns
returns c =
    let a = c.args in
    let before = take a.i a.firsts.now in
    let found : MatchOption c.position.result ((j : ℕ) → j < length before → is_of_four (kept before j) a.back ≡ false)
    (λ j. (j < length before) × (is_of_four (kept before j) a.back ≡ true)) = search rules in
    earlier_of a.firsts.now a.i (omega arith) a.back c.position.result found
