-- `zero_ring` meets its contract: what is filled with zeros is the patch.
use Rattle.std.proofs.Common.{◌≡◌, ℕ, ◌+◌, ◌-◌, ◌*◌, drop, replicate, sym, ap, ◌∙◌, arith, length-drop, length-take-le}
use Rattle.std.proofs.lemmas.Slice.{put_mid-paste}
use lib.Ieee.{of_bits, round}
use lib.ListN.{length-replicate}
use Rattle.parts.specs.Laws.{patch_paste}
use Rattle.lane.specs.Floats.{zero}
use Rattle.slots.proofs.zero_ring.Goals as goal

pub returns : goal.returns
unfolding of_bits round
returns c =
    let a = c.args in
    let at : ℕ = a.slot * a.len in
    let part : ℕ = at + a.len - at in
    let whole : part ≡ a.len = omega arith in
    let zeros = replicate a.len zero in
    let filled = c.fill.ensures.after (λ y h. h) in
    let long = length-take-le part (drop at a.delay.now) (simp length-drop (omega arith)) in
    put_mid-paste at part a.delay.now c.fill.new.self zeros a.len (filled ∙ ap (λ (n : ℕ). replicate n zero) (long ∙ whole)) (sym whole)
    (sym (length-replicate a.len zero))
    ∙ patch_paste a.len a.slot zeros a.delay.now (length-replicate a.len zero)
