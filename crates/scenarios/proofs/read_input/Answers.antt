-- `read_input` meets its contract: the array that it fills has 1,048,576 bytes.
use Rattle.std.proofs.Common.{◌≡◌, ◌∙◌, IfOk, IfSome, take, subst}
use Rattle.scenarios.proofs.read_input.Goals as goal

pub returns-clause-bytes : goal.returns-clause-bytes
returns-clause-bytes g c =
    subst (λ m. IfOk c.read_full.result (λ n. IfSome (g.R.Read.remaining c.args.reader.now) (λ xs. take n c.read_full.new.buf ≡ take m xs)))
    (c.read_full.auto.buf ∙ c.told-input) c.read_full.ensures.bytes
