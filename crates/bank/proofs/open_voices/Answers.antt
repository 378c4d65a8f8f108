-- `bank::open_voices` meets its contract. The loop's invariant: after v turns the lists are those of v voices set and started, and as
-- long as they were. Each turn is `set_voice`'s contract and then `start_voice`'s.
use mathlib.Core.Path.{◌≡◌, sym, ap, ◌∙◌}
use mathlib.Core.List.{List}
use Prim.Native.Nat.{ℕ}
use native.Mathlib.Omega.{arith}
use native.Mathlib.Numerals.{add-one}
use lib.Ieee.{Float}
use Rattle.filter.specs.declared.VoiceParams.{VoiceParams}
use Rattle.filter.specs.Voice.{default_params, voice_targets}
use Rattle.parts.specs.Parts.{upto, patch}
use Rattle.voices.specs.Calls.{targets_width, set_of, start_of, open_of}
use Rattle.checks.specs.declared.Setup.{Setup}
use Rattle.checks.specs.Setup.{engine}
use Rattle.checks.specs.Checks.{bank_of}
use Rattle.bank.proofs.open_voices.Invariants.{turn}
use Rattle.bank.proofs.open_voices.Goals as goal

-- targets that were written, as set leaves them
set_is : (s : Setup) (v : ℕ) (tg rs ds tg' : List Float) (p : VoiceParams) → tg' ≡ patch targets_width v (voice_targets p) tg → p ≡ default_params
    → bank_of tg' rs ds 0 ≡ set_of (engine s) s.voices v default_params (bank_of tg rs ds 0)
unfolding set_of
set_is s v tg rs ds tg' p e h = ap (λ (x : List Float). bank_of x rs ds 0) (e ∙ ap (λ (q : VoiceParams). patch targets_width v (voice_targets q) tg) h)

pub loop-v-preserved : goal.loop-v-preserved
loop-v-preserved c =
    let a = c.args in
    let l = c.loop-v in
    let n : ℕ = a.setup.voices in (
      c.start_voice.ensures 0
          ∙ ap (start_of (engine a.setup) n l.v) (set_is a.setup l.v l.targets l.records l.delay _ _ c.set_voice.ensures c.default_params.ensures)
          ∙ ap (turn a.setup l.v) l.invariant.0
          ∙ ap (λ (k : ℕ). upto (turn a.setup) k (bank_of a.targets.now a.records.now a.delay.now 0)) (sym (add-one l.v)),
      omega (arith, l.invariant.1),
      omega (arith, l.invariant.2),
      omega (arith, l.invariant.3),
    )

pub returns : goal.returns
unfolding open_of
returns c =
    let a = c.args in
    let l = c.loop-v in
    let e : l.v ≡ a.setup.voices = omega arith in
    l.invariant.0 ∙ ap (λ (k : ℕ). upto (turn a.setup) k (bank_of a.targets.now a.records.now a.delay.now 0)) e
