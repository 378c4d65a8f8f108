-- `parking::park_len` meets its contract: by the setup's verdict. Assumes nothing.
use Rattle.checks.specs.Accepted.{refused_by_lem, fine_by}
use Rattle.parking.proofs.park_len.Goals as goal

pub file_length-requires : goal.file_length-requires
file_length-requires c = fine_by c.setup_check.ensures c.in-Ok.is

pub returns-in-Ok : goal.returns-in-Ok
returns-in-Ok c = rw (fine_by c.setup_check.ensures c.in-Ok.is) c.file_length.ensures

pub returns-in-Err : goal.returns-in-Err
returns-in-Err c = rw (refused_by_lem c.setup_check.ensures c.in-Err.is)
