-- `parking::read_head` meets its contract: the sums, then where the setup's two heads stand, then `read_at`. Assumes nothing.
use mathlib.Core.Path.{◌≡◌, sym, ap, ◌∙◌}
use Rattle.std.proofs.lemmas.Result.{err_from_is_err_and}
use Rattle.voices.specs.Calls.{Check}
use Rattle.checks.specs.declared.Refusal.TheVariants.{Blocks}
use Rattle.parking.specs.Parking.{held_by}
use Rattle.parking.proofs.Reading.{other_none, held_refused, damaged, first_missing, second_missing, setup_at, head_is}
use Rattle.parking.proofs.read_head.Goals as goal

pub returns-then-not-is_sound : goal.returns-then-not-is_sound
returns-then-not-is_sound c = held_refused _ _ _ (damaged _ _ c.is_sound.ensures c.if-not-is_sound.true)

pub returns-in_err-a : goal.returns-in_err-a
returns-in_err-a c =
    let p = err_from_is_err_and c.from_residual.result c.from_residual.ensures.1 in
    let e : c.in_err-a.field-0.0 ≡ Blocks = other_none _ _ Blocks c.in_err-a.ensures.ok_part c.in_err-a.ensures.value in
    rw (p.1, p.2, e) (held_refused _ _ _ (first_missing _ _ c.is_sound.ensures c.if-not-is_sound.false _ c.sole.ensures c.in_err-a.ensures.ok_part))

pub returns-in_err-b : goal.returns-in_err-b
returns-in_err-b c =
    let r = c.from_residual-in_err-b in
    let p = err_from_is_err_and r.result r.ensures.1 in
    let e : c.in_err-b.field-0.0 ≡ Blocks = other_none _ _ Blocks c.in_err-b.ensures.ok_part c.in_err-b.ensures.value in
    rw (p.1, p.2, e)
    (held_refused _ _ _
    (second_missing _ _ c.is_sound.ensures c.if-not-is_sound.false _ _ c.sole.ensures c.in_ok-a.ensures.ok_part _ c.sole-2.ensures
    c.in_err-b.ensures.ok_part))

pub read_at-requires : goal.read_at-requires
read_at-requires c =
    setup_at _ _ c.is_sound.ensures c.if-not-is_sound.false _ _ c.sole.ensures c.in_ok-a.ensures.ok_part _ _ c.sole-2.ensures
    c.in_ok-b.ensures.ok_part

pub returns : goal.returns
returns c =
    c.read_at.ensures
    ∙ ap (λ (v : Check). held_by v c.args.file.now)
    (sym (head_is _ _ c.is_sound.ensures c.if-not-is_sound.false _ _ c.sole.ensures c.in_ok-a.ensures.ok_part _ _ c.sole-2.ensures
    c.in_ok-b.ensures.ok_part))
