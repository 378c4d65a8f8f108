-- `teeth::is_clear` meets its contract: each tooth before tooth i is apart.
use borrow.Author.Rules.{rules}
use native.Mathlib.Omega.{arith}
use Rattle.std.proofs.Common.{◌≡◌, true, ℕ, ◌<◌, take, length}
use Rattle.teeth.specs.Needed.{Apart}
use Rattle.teeth.specs.Placing.{kept, clear_before}
use Rattle.teeth.proofs.is_clear.Goals as goal

pub returns : goal.returns
returns c =
    let a = c.args in
    let before = take a.i a.firsts.now in
    let apart : c.all.result ≡ true → (j : ℕ) → j < length before → Apart (kept before j) a.a = search rules in
    λ e. clear_before a.firsts.now a.i (omega arith) a.a (apart e)
