-- `request_of` meets its contract: the line is the input up to its end. Assumes nothing.
use Rattle.std.proofs.Common.{ℕ, ◌≤◌, length, take, ap, ◌∙◌, arith, length-take}
use Rattle.impulses.specs.Impulse.{line_request, request_of}
use Rattle.impulses.proofs.Reading.{line_end_within}
use Rattle.impulses.proofs.request_of.Goals as goal

pub slice_bounds-line_request-end : goal.slice_bounds-line_request-end
slice_bounds-line_request-end c =
    let e : c.line_end-end.result ≤ length c.args.input.now = omega (arith, c.line_end-end.ensures, line_end_within c.args.input.now) in
    simp length-take (omega arith)

pub returns : goal.returns
unfolding request_of
returns c = c.line_request.ensures ∙ ap (λ (n : ℕ). line_request (take n c.args.input.now)) c.line_end-end.ensures
