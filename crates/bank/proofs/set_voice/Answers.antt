-- `bank::set_voice` meets its contract: ten stores from the voice's place on are its patch.
use mathlib.Core.Path.{◌≡◌, ap, ◌∙◌}
use Prim.Native.Nat.{ℕ}
use lib.ListN.{length}
use lib.Seq.{paste}
use Rattle.parts.specs.Laws.{patch_paste}
use Rattle.slots.specs.Laws.{targets_length}
use Rattle.bank.proofs.set_voice.Goals as goal

pub returns : goal.returns
returns c =
    let a = c.args in
    let g = c.voice_targets-goals in
    let l : length g.result ≡ 11 = ap length g.ensures ∙ targets_length a.p in
    c.copy.ensures
    ∙ ap (λ (k : ℕ). paste a.targets.now k g.result 11) c.start_of-at.ensures.0
    ∙ patch_paste 11 a.voice g.result a.targets.now l
    ∙ rw g.ensures
