-- `put_answer` meets its contract: by the verdict. Assumes nothing.
use Rattle.std.proofs.Common.{◌≡◌, Some, sym, ◌∙◌}
use Rattle.text.specs.Text.{Buffer, puts}
use Rattle.impulses.specs.declared.Asked.{Asked}
use Rattle.impulses.specs.Impulse.{Verdict, verdict_of, response_of, answered, answer_text, large_text}
use Rattle.impulses.proofs.put_answer.Goals as goal

-- where v is the verdict, what is written for v is the answer
answer_is : (a : Asked) (u v : Verdict) (p q : Buffer) → u ≡ verdict_of a.code a.rate a.frames → u ≡ v
    → q ≡ puts (answered v (response_of a.code a.rate a.frames)) p → q ≡ puts (answer_text (Some a)) p
unfolding answer_text
answer_is a u v p q e k w = rw (sym e ∙ k) w

pub put_response-requires : goal.put_response-requires
put_response-requires c = sym c.verdict_of.ensures ∙ c.in-Ok.is

pub returns-in-Ok : goal.returns-in-Ok
returns-in-Ok c = answer_is _ _ _ _ _ c.verdict_of.ensures c.in-Ok.is c.put_response.ensures

pub returns-in-Err-Large : goal.returns-in-Err-Large
unfolding large_text
returns-in-Err-Large c = answer_is _ _ _ _ _ c.verdict_of.ensures (rw c.in-Err-Large.field-0-is at c.in-Err-Large.is) c.put_bytes.ensures

pub returns-in-Err-Refused : goal.returns-in-Err-Refused
returns-in-Err-Refused c = answer_is _ _ _ _ _ c.verdict_of.ensures (rw c.in-Err-Refused.field-0-is at c.in-Err-Refused.is) (rw c.in-Err-Refused.n-is at c.put_refused.ensures)
