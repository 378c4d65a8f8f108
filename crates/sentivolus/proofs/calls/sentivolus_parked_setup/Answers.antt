-- `sentivolus::calls::sentivolus_parked_setup` meets its contract: what the reader answers goes to its places, or nothing does.
use Rattle.sentivolus.proofs.Held.{setup_done, setup_refused}
use Rattle.sentivolus.proofs.calls.sentivolus_parked_setup.Goals as goal

pub returns-in-Ok : goal.returns-in-Ok
returns-in-Ok c = setup_done _ _ _ _ _ c.parked_setup.ensures _ _ c.in-Ok.is c.put_setup.ensures

pub returns-in-Err : goal.returns-in-Err
returns-in-Err c = setup_refused _ _ _ _ _ c.parked_setup.ensures _ _ c.in-Err.is c.from.ensures
