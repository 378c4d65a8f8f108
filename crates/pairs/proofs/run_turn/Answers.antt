-- `run_turn` meets its contract: the last turn is a span; any other ends in `settle`.
use Rattle.std.proofs.Common.{◌≡◌, ℕ, ◌+◌, ◌<◌, List, sym, ap, ◌∙◌, subst, arith, refl, get_or-set_other}
use lib.Ieee.{Float}
use Rattle.lane.specs.Floats.{◌‼◌}
use Rattle.slots.specs.declared.Progress.{Progress}
use Rattle.pairs.specs.declared.Span.{Span}
use Rattle.pairs.specs.Pairs.{abreast_of, hand_of, store_of, seat_of, run_of, no_run, Advances}
use Rattle.pairs.specs.Turning.{turned}
use Rattle.pairs.proofs.run_turn.Goals as goal

-- a span that is frame 0 of one slot
one_frame : (t : ℕ) (r : Span) (runs runs' : List Progress) → (r.lo ≡ t) × (r.hi ≡ t + 1) × (r.end ≡ 1)
    → Advances r.lo r.hi r.end runs runs' → Advances r.lo (r.lo + 1) 1 runs runs'
one_frame t r runs runs' f a =
    let next : r.hi ≡ r.lo + 1 = f.1 ∙ ap (λ (q : ℕ). q + 1) (sym f.0) in
    subst (λ (q : ℕ). Advances r.lo q 1 runs runs') next (subst (λ (q : ℕ). Advances r.lo r.hi q runs runs') f.2 a)

pub settle-requires : goal.settle-requires
settle-requires c =
    let p = c.requires in
    let d = c.run_span.ensures in
    let r = c.span_of-span in
    let s : ℕ = r.result.lo in
    let low : s < 2 = omega (arith, r.ensures.some, p.1.most) in
    let f = r.ensures.first (omega (arith, p.3, c.if-t-wide.false)) in
    let begun : (run_of c.args.runs.now s).next ≡ 0 = p.4 s (omega (arith, f.0)) low in
    let a = one_frame c.args.t r.result c.args.runs.now c.run_span.new.runs f d.2 in
    let k = d.0.buffers in (
      p.0,
      p.1.placed s low,
      record { pitch = k.pitch; x = k.x; y = k.y; audio = k.audio },
      p.2.widths s low,
      d.0.widths s low,
      omega (arith, d.0.counts s low, a.most s 1 (omega (arith, begun)) (omega arith)),
    )

pub returns : goal.returns
returns c =
    let g = c.args in
    let p = c.requires in
    let n = c.run_span.new in
    let d = c.run_span.ensures in
    let q = c.settle in
    let r = c.span_of-span in
    let s : ℕ = r.result.lo in
    let low : s < 2 = omega (arith, r.ensures.some, p.1.most) in
    let before_last : g.t < g.wide = omega (arith, p.3, c.if-t-wide.false) in
    let f = r.ensures.first before_last in
    let begun : (run_of g.runs.now s).next ≡ 0 = p.4 s (omega (arith, f.0)) low in
    let a = one_frame g.t r.result g.runs.now n.runs f d.2 in
    let input : Float = g.audio.now ‼ (seat_of g.seats.now s).slot.number in
    let done = turned g.e g.sections.now g.by.pitch.now g.by.x.now g.by.y.now (abreast_of g.wide g.seats.now) p.1 p.0
    (hand_of g.runs.now g.delay.now g.audio.now) (hand_of n.runs n.delay n.audio) (store_of g.kept.now g.comb.now) (store_of n.kept n.comb)
    p.2 d.0 d.1 input q.new.audio q.new.run s q.result r.ensures.some q.ensures.1 begun a refl q.ensures.0 in (
      done.0,
      done.1,
      (λ j l h.
          ap (λ (x : Progress). x.next) (get_or-set_other n.runs s j q.new.run no_run (λ z. omega (arith, z, l, f.0)))
          ∙ (a.above j (omega (arith, l, f.0)) ∙ p.4 j (omega (arith, l)) h)),
      (λ z. absurd (omega (arith, z, before_last))),
    )
