-- `next_frame` meets its contract: the frame is `frame`'s.
use Rattle.std.proofs.Common.{refl, arith}
use Rattle.pairs.proofs.next_frame.Goals as goal

pub returns : goal.returns
returns c =
    let frame = c.frame-met.ensures in (
      record {
        next = refl;
        count = omega (arith, frame.1);
        widths = frame.2;
        smooth = frame.4;
        peaks = λ b q. (frame.0 b q).0;
        frame = λ b q. (frame.0 b q).1 c.args.run.now.count;
      },
      frame.3,
    )
