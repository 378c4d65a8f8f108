-- `sentivolus::calls::sentivolus_set` meets its contract: the setup is the caller's numbers, and what `set` leaves is handed on.
use mathlib.Core.List.{[]}
use mathlib.Core.Path.{subst}
use Rattle.filter.specs.declared.VoiceParams.{VoiceParams}
use Rattle.voices.specs.Calls.{call_set, call}
use Rattle.checks.specs.declared.Setup.{Setup}
use Rattle.checks.specs.Setup.{engine}
use Rattle.checks.specs.Checks.{bank_of}
use Rattle.bank.specs.Bank.{before}
use Rattle.sentivolus.specs.Calls.{ListsLeft}
use Rattle.sentivolus.proofs.Left.{lists_left}
use Rattle.sentivolus.proofs.calls.sentivolus_set.Goals as goal

pub returns : goal.returns
returns c =
    let a = c.args in
    let p : VoiceParams = record { resonance = a.resonance; drive = a.drive; saturation = a.saturation; character = a.character; stereo_offset = a.stereo_offset; mix = a.mix; level = a.level; morph_x = a.morph_x; morph_y = a.morph_y; morph_z = a.morph_z } in
    subst
    (λ (s : Setup). ListsLeft (call (engine s) s.voices (call_set a.voice p) (before (bank_of a.targets.now [] [] 0))) c.answer_number.result c.set.new.targets [] [])
    c.setup_of-s.ensures
    (lists_left _ c.set.result _ 0 _ [] [] c.answer_number.ensures (c.set.ensures [] []))
