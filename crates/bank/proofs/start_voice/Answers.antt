-- `bank::start_voice` meets its contract. The loop's invariant: after c turns the lists are those of c channels started, and as long as
-- they were. Each turn is `start_slot`'s contract.
use mathlib.Core.Path.{◌≡◌, sym, ap, ◌∙◌}
use mathlib.Core.List.{List}
use Prim.Native.Nat.{ℕ, ◌+◌, ◌*◌}
use native.Mathlib.Omega.{arith}
use native.Mathlib.Numerals.{add-one}
use lib.Ieee.{Float}
use lib.ListN.{replicate}
use Rattle.parts.specs.Parts.{upto, piece, patch}
use Rattle.voices.specs.Calls.{targets_width, record_width, Engine, start_record, start_slot, start_of}
use Rattle.lane.specs.Floats.{zero}
use Rattle.slots.specs.Frame.{targets_piece}
use Rattle.checks.specs.Setup.{engine}
use Rattle.checks.specs.Checks.{bank_of}
use Rattle.bank.proofs.start_voice.Goals as goal

start_is : (E : Engine) (n v c cur : ℕ) (tg rs ds rs' ds' goals : List Float) (s len : ℕ)
    → s ≡ c * n + v → len ≡ E.ring_length → goals ≡ piece targets_width v tg
    → rs' ≡ patch record_width s (start_record E goals) rs
    → ds' ≡ patch len s (replicate len zero) ds
    → bank_of tg rs' ds' cur ≡ start_slot E n v c (bank_of tg rs ds cur)
unfolding start_slot
start_is E n v c cur tg rs ds rs' ds' goals s len hs hl hg hr hd =
    λ i. bank_of tg ((hr ∙ (λ j. patch record_width (hs j) (start_record E (hg j)) rs)) i) ((hd ∙ (λ j. patch (hl j) (hs j) (replicate (hl j) zero) ds)) i) cur

pub loop-c-preserved : goal.loop-c-preserved
loop-c-preserved c =
    let a = c.args in
    let l = c.loop-c in
    let t = c.start_slot in
    let from = c.start_of-from in (
      λ cur. start_is (engine a.setup) a.setup.voices a.voice l.c cur a.targets.now l.records l.delay _ _ c.load-goals.result c.place_at-slot.result c.ring_len-len.result
          c.place_at-slot.ensures.0 c.ring_len-len.ensures (targets_piece a.voice from.result a.targets.now _ from.ensures.0 c.load-goals.ensures) t.ensures.0 t.ensures.1
          ∙ ap (start_slot (engine a.setup) a.setup.voices a.voice l.c) (l.invariant.0 cur)
          ∙ ap (λ (k : ℕ). upto (start_slot (engine a.setup) a.setup.voices a.voice) k (bank_of a.targets.now a.records.now a.delay.now cur)) (sym (add-one l.c)),
      omega (arith, l.invariant.1),
      omega (arith, l.invariant.2),
    )

pub returns : goal.returns
unfolding start_of
returns c cur =
    let a = c.args in
    let l = c.loop-c in
    let e : l.c ≡ a.setup.channels = omega arith in
    l.invariant.0 cur ∙ ap (λ (k : ℕ). upto (start_slot (engine a.setup) a.setup.voices a.voice) k (bank_of a.targets.now a.records.now a.delay.now cur)) e
