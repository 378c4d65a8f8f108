-- `sentivolus::calls::sentivolus_restore` meets its contract: what the reader answers goes to its places, or nothing does.
use Rattle.sentivolus.proofs.Held.{setup_done, setup_refused, restore_left}
use Rattle.sentivolus.proofs.calls.sentivolus_restore.Goals as goal

pub returns-in-Ok : goal.returns-in-Ok
returns-in-Ok c = restore_left _ _ _ _ c.restore.result _ _ _ _ _ _ c.restore.ensures (setup_done _ _ _ _ _ c.restore.ensures.answer _ _ c.in-Ok.is c.put_setup.ensures)

pub returns-in-Err : goal.returns-in-Err
returns-in-Err c = restore_left _ _ _ _ c.restore.result _ _ _ _ _ _ c.restore.ensures (setup_refused _ _ _ _ _ c.restore.ensures.answer _ _ c.in-Err.is c.from.ensures)
