-- For the proofs: nothing here must be believed.
-- What an answer of the code says of the check in the definition. Assumes nothing.
use Rattle.std.specs.Prelude.{◌≡◌, Ok, Err}
use Rattle.std.proofs.Common.{sym, ap, ◌∙◌}
use Rattle.voices.specs.Calls.{Check, fine, refused}
use Rattle.checks.specs.declared.Refusal.{Refusal}
use Rattle.checks.specs.Checks.{Checked, number_of, check_of}

-- an answer of the code, said of the check in the definition
pub refused_by_lem : {r : Checked} {a : Check} {e : Refusal} → check_of r ≡ a → r ≡ Err e → a ≡ refused (number_of e)
unfolding check_of
refused_by_lem h is = sym h ∙ ap check_of is

pub fine_by : {r : Checked} {a : Check} {t : Unit {0}} → check_of r ≡ a → r ≡ Ok t → a ≡ fine
unfolding check_of
fine_by h is = sym h ∙ ap check_of is
