-- For the proofs: nothing here must be believed.
-- What a call's newest answer says of the answer of the code. By its cases. Assumes nothing.
use Rattle.std.specs.Prelude.{◌≡◌, ℕ, List, [], ◌∷◌, Float, Result, Ok, Err}
use Rattle.voices.specs.Calls.{Answer, kept, rendered, Run}
use Rattle.checks.specs.declared.Refusal.{Refusal}
use Rattle.bank.specs.declared.Rendered.{Rendered}
use Rattle.bank.specs.Bank.{block_answer}

abbrev pub first_of : List Answer → Answer
first_of [] = kept 0
first_of (a ∷ l) = a

abbrev pub newest : Run → Answer
newest w = first_of w.log

-- of a block that rendered
pub rendered_is : (r : Result Rendered Refusal) (cursor frames : ℕ) (audio left : List Float) (counts over : List ℕ)
    → block_answer r audio counts ≡ rendered cursor frames left over
    → (r ≡ Ok (record { cursor = cursor; frames = frames })) × (audio ≡ left) × (counts ≡ over)
unfolding block_answer
rendered_is (Err k) cursor frames audio left counts over e = ((cc), (cc), (cc))
rendered_is (Ok d) cursor frames audio left counts over e =
    let c : d.cursor ≡ cursor = cc in
    let f : d.frames ≡ frames = cc in
    ((λ t. Ok (record { cursor = c t; frames = f t })), (cc), (cc))
