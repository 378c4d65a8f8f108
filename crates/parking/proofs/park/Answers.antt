-- `parking::park` meets its contract: by the verdict. A refusal changes nothing; accepted, `park_file` has written the words of the setup and the lists,
-- which are f32s, so that they come back. Assumes nothing.
use mathlib.Core.Path.{refl}
use native.Mathlib.Omega.{arith}
use Rattle.std.proofs.lemmas.Result.{err_from_is_err_and}
use Rattle.checks.specs.Checks.{bank_of}
use Rattle.checks.specs.Accepted.{refused_by_lem, fine_by}
use Rattle.bank.specs.Bank.{answer_of}
use Rattle.setups.specs.Back.{F32Bank}
use Rattle.parking.proofs.Writing.{not_accepted, known, room_for, written, holds}
use Rattle.parking.proofs.park.Goals as goal

pub returns-in_err-park_check : goal.returns-in_err-park_check
unfolding answer_of
returns-in_err-park_check c =
    let p = err_from_is_err_and c.from_residual.result c.from_residual.ensures.1 in
    let r = refused_by_lem c.park_check.ensures c.in_err-park_check.was in
    record { does = rw (p.1, p.2, r); written = rw r; holds = not_accepted _ _ r }

pub setup_words-requires : goal.setup_words-requires
setup_words-requires c =
    let a = c.args in
    let o = fine_by c.park_check.ensures c.in_ok-park_check.was in
    let k = known a.setup (bank_of a.targets.now a.records.now a.delay.now a.cursor) a.file.now o in
    (omega (arith, k.voices), omega (arith, k.channels), (omega arith))

pub overflow_mul-setup : goal.overflow_mul-setup
overflow_mul-setup c =
    let a = c.args in
    let o = fine_by c.park_check.ensures c.in_ok-park_check.was in
    omega (arith, (known a.setup (bank_of a.targets.now a.records.now a.delay.now a.cursor) a.file.now o).slots)

pub overflow_add-len : goal.overflow_add-len
overflow_add-len c =
    let a = c.args in
    let o = fine_by c.park_check.ensures c.in_ok-park_check.was in
    omega (arith, c.ring_len-len.ensures, (known a.setup (bank_of a.targets.now a.records.now a.delay.now a.cursor) a.file.now o).longest)

pub park_file-requires : goal.park_file-requires
park_file-requires c =
    let a = c.args in
    let o = fine_by c.park_check.ensures c.in_ok-park_check.was in
    record {
      room = room_for a.setup (bank_of a.targets.now a.records.now a.delay.now a.cursor) a.file.now o _ c.setup_words.ensures.0 _ c.ring_len-len.ensures;
      words_len = refl;
    }

pub returns : goal.returns
unfolding answer_of
returns c =
    let a = c.args in
    let o = fine_by c.park_check.ensures c.in_ok-park_check.was in
    let b = bank_of a.targets.now a.records.now a.delay.now a.cursor in
    let w = c.setup_words.ensures in
    let l = c.ring_len-len.ensures in
    let e = c.park_file.ensures in
    -- the slices are of f32s
    let f : F32Bank b =
    record { targets = λ i l. c.shared_slice_known-1.given i; records = λ i l. c.shared_slice_known-2-1.given i; delay = λ i l. c.shared_slice_known-3-1.given i } in
    record {
      does = rw o;
      written = written a.setup b a.file.now o _ w.0 _ l _ e;
      holds = λ ok. holds a.setup b a.file.now o _ w.0 _ l _ e w.1 f;
    }
