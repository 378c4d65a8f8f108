-- `store_record` meets its contract: two copies and two numbers, one after the other, are the record's patch.
use Rattle.std.proofs.Common.{◌+◌, ◌*◌, List, set, ap, ◌∙◌, arith}
use lib.Ieee.{Float}
use lib.Seq.{paste}
use Rattle.lane.specs.Floats.{◌‼◌}
use Rattle.filter.specs.Voice.{MORPH_Z}
use Rattle.run.specs.Run.{PEAK}
use Rattle.voices.specs.Calls.{smoothed_width, states_width, record_width, record_z}
use Rattle.slots.specs.Records.{record_stored}
use Rattle.slots.proofs.store_record.Goals as goal

pub returns : goal.returns
returns c =
    let a = c.args in
    let o = a.slot * record_width in
    ap (λ (r : List Float). set (set r (o + PEAK) a.rec.now.peak) (o + record_z) (a.rec.now.params ‼ MORPH_Z))
    (c.copy-2.ensures
    ∙ ap (λ (r : List Float). paste r (o + smoothed_width) a.rec.now.state states_width) c.copy.ensures)
    ∙ record_stored a.slot a.records.now c.requires a.rec.now.params a.rec.now.state a.rec.now.peak (omega arith) (omega arith)
