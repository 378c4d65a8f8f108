-- `run_slots` meets its contract. What is loaded is sound, each turn is `run_turn`'s contract, and what is stored after the last is the slots' block.
use Rattle.std.proofs.Common.{◌≡◌, ◌≢◌, ℕ, List, ◌∷◌, [], set, sym, ap, ◌∙◌, subst, refl, arith}
use Rattle.parts.specs.Parts.{patch}
use Rattle.voices.specs.Calls.{record_width}
use Rattle.slots.specs.declared.Prepared.{Prepared}
use Rattle.slots.specs.declared.Slot.{Slot}
use Rattle.slots.specs.Slots.{Placed, block_run, slot_in}
use Rattle.pairs.specs.Pairs.{store_of, run_of, numbers_at, Keeping, one_or_two}
use Rattle.pairs.specs.Turning.{both_places}
use Rattle.pairs.specs.Slotwise.{turning_again, turning, slots_are}
use Rattle.pairs.proofs.run_slots.Goals as goal

placed : (e : Prepared) (p q : Slot) → q ≡ p → Placed e p → Placed e q
placed e p q h = subst (Placed e) (sym h)

apart : (wide : ℕ) (p q one two : Slot) → one ≡ p → two ≡ q → (wide ≡ 2 → p.number ≢ q.number) → wide ≡ 2 → one.number ≢ two.number
apart wide p q one two e f h w same = h w (sym (ap (λ (s : Slot). s.number) e) ∙ same ∙ ap (λ (s : Slot). s.number) f)

pub store_slot-requires-2 : goal.store_slot-requires-2
store_slot-requires-2 c =
    let a = c.args in
    let one = c.load_slot-one in
    let two = c.load_slot-two in (
      placed a.e a.second two.result.0.slot two.ensures.0 c.requires.4,
      omega (arith, c.requires.1.records),
      omega (arith, c.requires.1.counts),
      c.loop-t.invariant.sound.widths 1 (omega arith),
    )

pub store_slot-requires : goal.store_slot-requires
store_slot-requires c =
    let a = c.args in
    let one = c.load_slot-one in
    let two = c.load_slot-two in (
      placed a.e a.first one.result.0.slot one.ensures.0 c.requires.3,
      c.requires.1.records,
      c.requires.1.counts,
      c.loop-t.invariant.sound.widths 0 (omega arith),
    )

pub loop-t-init : goal.loop-t-init
loop-t-init c =
    let a = c.args in
    let one = c.load_slot-one in
    let two = c.load_slot-two in
    let m = a.e.m in
    let kept = c.unset-kept in
    let comb = c.unset-comb in
    let store = store_of (kept.result ∷ kept.result ∷ []) comb.result in
    let keeps : Keeping a.e a.sections.now kept.result comb.result
    = record {
      numbers = kept.ensures.tuning m.code m.k.ref_over_rate m.k.chord;
      blends = kept.ensures.sections m.code _ m.k.ref_over_rate;
      planned = comb.ensures a.e.len m.k.chord;
    } in
    turning a.e a.sections.now a.by.pitch.now a.by.x.now a.by.y.now one.result.0 two.result.0 a.wide c.requires.0
    (placed a.e a.first one.result.0.slot one.ensures.0 c.requires.3) (placed a.e a.second two.result.0.slot two.ensures.0 c.requires.4)
    c.requires.5 c.requires.6 (apart a.wide a.first a.second one.result.0.slot two.result.0.slot one.ensures.0 two.ensures.0 c.requires.7)
    a.targets.now a.records.now a.delay.now a.audio.now a.counts.now c.requires.1 c.requires.2 one.result.1 two.result.1 one.ensures.1 two.ensures.1
    store refl (both_places (λ i. Keeping a.e a.sections.now (numbers_at store.kept i) comb.result) keeps keeps)

pub returns-then-wide-lt2 : goal.returns-then-wide-lt2
returns-then-wide-lt2 c =
    let a = c.args in
    let one = c.load_slot-one in
    let two = c.load_slot-two in
    let l = c.loop-t in
    let stored = c.store_slot.ensures in
    slots_are a.e a.sections.now a.by.pitch.now a.by.x.now a.by.y.now one.result.0 two.result.0 a.wide c.requires.0
    (placed a.e a.first one.result.0.slot one.ensures.0 c.requires.3) (placed a.e a.second two.result.0.slot two.ensures.0 c.requires.4)
    c.requires.5 c.requires.6 (apart a.wide a.first a.second one.result.0.slot two.result.0.slot one.ensures.0 two.ensures.0 c.requires.7)
    a.targets.now a.records.now a.delay.now a.audio.now a.counts.now c.requires.1 c.requires.2 one.result.1 two.result.1 one.ensures.1 two.ensures.1
    _ _ l.t l.invariant (omega arith) _ _ (record { one = λ k. (stored.0, stored.1); two = λ k. absurd (omega (arith, k, c.if-wide-lt2.true)) })
    ∙ (λ i. one_or_two a.wide
    (slot_in a.e a.sections.now a.targets.now a.by.pitch.now a.by.x.now a.by.y.now (two.ensures.0 i).channel (two.ensures.0 i).voice)
    (slot_in a.e a.sections.now a.targets.now a.by.pitch.now a.by.x.now a.by.y.now (one.ensures.0 i).channel (one.ensures.0 i).voice
    (block_run a.records.now a.delay.now a.audio.now a.counts.now)))

pub returns : goal.returns
returns c =
    let a = c.args in
    let one = c.load_slot-one in
    let two = c.load_slot-two in
    let l = c.loop-t in
    let stored = c.store_slot.ensures in
    let last = c.store_slot-2.ensures in
    slots_are a.e a.sections.now a.by.pitch.now a.by.x.now a.by.y.now one.result.0 two.result.0 a.wide c.requires.0
    (placed a.e a.first one.result.0.slot one.ensures.0 c.requires.3) (placed a.e a.second two.result.0.slot two.ensures.0 c.requires.4)
    c.requires.5 c.requires.6 (apart a.wide a.first a.second one.result.0.slot two.result.0.slot one.ensures.0 two.ensures.0 c.requires.7)
    a.targets.now a.records.now a.delay.now a.audio.now a.counts.now c.requires.1 c.requires.2 one.result.1 two.result.1 one.ensures.1 two.ensures.1
    _ _ l.t l.invariant (omega arith) _ _ (record {
      one = λ k. absurd (omega (arith, k, c.if-wide-lt2.false));
      two = λ k. (
        last.0 ∙ ap (patch record_width _ _) stored.0,
        last.1 ∙ ap (λ (ks : List ℕ). set ks two.result.0.slot.number (run_of l.runs 1).count) stored.1,
      );
    })
    ∙ (λ i. one_or_two a.wide
    (slot_in a.e a.sections.now a.targets.now a.by.pitch.now a.by.x.now a.by.y.now (two.ensures.0 i).channel (two.ensures.0 i).voice)
    (slot_in a.e a.sections.now a.targets.now a.by.pitch.now a.by.x.now a.by.y.now (one.ensures.0 i).channel (one.ensures.0 i).voice
    (block_run a.records.now a.delay.now a.audio.now a.counts.now)))

pub loop-t-preserved : goal.loop-t-preserved
loop-t-preserved c =
    let a = c.args in
    let l = c.loop-t in
    let turn = c.run_turn.ensures in
    turning_again a.e a.sections.now a.by.pitch.now a.by.x.now a.by.y.now _ _ _ _ _ _ l.t l.invariant (omega arith)
    turn.0 turn.1 turn.2 turn.3
