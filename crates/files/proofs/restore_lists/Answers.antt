-- `files::restore_lists` meets its contract. Assumes nothing.
use native.Mathlib.Omega.{arith}
use Rattle.places.specs.ByHead.{target_heads, record_heads, ring_head_lem}
use Rattle.files.proofs.Reading.{lent_at, rows_found}
use Rattle.files.proofs.restore_lists.Goals as goal

pub get_rows-requires-clause-lent : goal.get_rows-requires-clause-lent
get_rows-requires-clause-lent c =
    let a = c.args in
    rw c.target_rows.ensures (lent_at a.voices a.slots a.len a.parts a.file.now a.pos.now _ _ _ c.requires _ _ _ _ (omega arith) (omega arith) (omega arith))

pub get_rows-requires-2-clause-lent : goal.get_rows-requires-2-clause-lent
get_rows-requires-2-clause-lent c =
    let a = c.args in
    rw c.record_rows.ensures (lent_at a.voices a.slots a.len a.parts a.file.now a.pos.now _ _ _ c.requires _ _ _ _ (omega arith) (omega arith) (omega arith))

pub get_rows-requires-3-clause-lent : goal.get_rows-requires-3-clause-lent
get_rows-requires-3-clause-lent c =
    let a = c.args in
    rw c.ring_rows.ensures
    (lent_at a.voices a.slots a.len a.parts a.file.now a.pos.now _ _ _ c.requires _ _ _ _ c.requires.some c.requires.hold (omega arith))

pub returns : goal.returns
returns c =
    let a = c.args in
    let pre = c.requires in
    record {
      targets_are = rows_found a.voices a.slots a.len a.parts a.file.now a.pos.now _ _ _ pre _ 2 _ _ _ _ _ (omega arith) (omega arith) (omega arith)
          (target_heads a.voices a.slots a.parts) (rw c.target_rows.ensures at c.get_rows.ensures);
      records_are = rows_found a.voices a.slots a.len a.parts a.file.now a.pos.now _ _ _ pre _ 3 _ _ _ _ _ (omega arith) (omega arith) (omega arith)
          (record_heads a.voices a.slots a.parts) (rw c.record_rows.ensures at c.get_rows-2.ensures);
      delay_are = rows_found a.voices a.slots a.len a.parts a.file.now a.pos.now _ _ _ pre _ 4 _ _ _ _ _ pre.some pre.hold (omega arith)
          (λ j l. ring_head_lem a.voices a.slots a.parts j) (rw c.ring_rows.ensures at c.get_rows-3.ensures);
    }
