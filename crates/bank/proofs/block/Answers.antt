-- `bank::block` meets its contract: by the verdict. A refusal changes nothing; accepted, the numbers that were worked out are the
-- setup's, the lists are as long as they should be, and `run_block` has rendered every slot.
use mathlib.Core.Path.{◌≡◌, refl, sym, ap, ◌∙◌}
use mathlib.Core.Bool.{Bool, cond}
use mathlib.Core.List.{◌∷◌, []}
use Prim.Native.Nat.{ℕ, ◌*◌}
use native.Mathlib.Omega.{arith}
use Rattle.std.proofs.lemmas.Result.{err_from_is_err_and}
use Rattle.lines.specs.Lines.{is_length}
use Rattle.voices.specs.Calls.{BlockRun, rendered, cursor_after, block_of}
use Rattle.voices.specs.Accepted.{block_accepted}
use Rattle.checks.specs.Setup.{solo_of, engine}
use Rattle.checks.specs.Checks.{bank_of, block_from}
use Rattle.setups.proofs.Accepted.{setup_accepted}
use Rattle.checks.specs.Accepted.{refused_by_lem, fine_by}
use Rattle.bank.specs.Bank.{block_answer}
use Rattle.bank.proofs.block.Goals as goal

pub run_block-requires : goal.run_block-requires
run_block-requires c =
    let a = c.args in
    let q = block_from a.frames a.pitch.now a.steered a.x.now a.y.now a.audio.now a.counts.now in
    let b = bank_of a.targets.now a.records.now a.delay.now 0 in
    let k = block_accepted (engine a.setup) a.setup.voices q b (fine_by c.block_check.ensures c.in_ok-block_check.was) in
    let s = setup_accepted (solo_of a.setup) a.setup.voices k.setup in
    let len = c.ring_len in
    let wide : ℕ = a.frames * a.setup.voices in (
      record {
        voices = s.voices;
        channels = s.channels;
        some = k.least;
        frames = k.most;
        slots = refl;
        len = len.ensures;
        good = ap is_length len.ensures ∙ s.good;
        constants = c.constants_of.ensures;
      },
      record { targets = k.lengths.targets; records = k.lengths.records; counts = k.counts },
      record {
        pitch = k.pitch;
        x = λ e. k.x ∙ ap (λ (b : Bool). cond b wide 0) e;
        y = λ e. k.y ∙ ap (λ (b : Bool). cond b wide 0) e;
        delay = k.lengths.delay ∙ ap (λ (n : ℕ). a.setup.channels * a.setup.voices * n) (sym len.ensures);
        audio = k.audio;
      },
    )

pub returns-in_err-block_check : goal.returns-in_err-block_check
unfolding block_answer
returns-in_err-block_check c =
    let p = err_from_is_err_and c.from_residual.result c.from_residual.ensures.1 in
    record { does = rw (p.1, p.2, refused_by_lem c.block_check.ensures c.in_err-block_check.was); keeps = rw p.1 (refl, refl) }

-- the lists and the cursor that the two calls left are the definitions'
pub returns : goal.returns
unfolding block_answer cursor_after
returns c =
    let a = c.args in
    let q = block_from a.frames a.pitch.now a.steered a.x.now a.y.now a.audio.now a.counts.now in
    let b = bank_of a.targets.now a.records.now a.delay.now a.cursor in
    let w : ◌≡◌ {A = BlockRun} _ (block_of (engine a.setup) a.setup.voices q b) = c.run_block.ensures in
    let cur : ◌≡◌ {A = ℕ} _ (cursor_after (engine a.setup) a.cursor a.frames) = c.cursor_after-next.ensures in
    record {
      does = rw (fine_by c.block_check.ensures c.in_ok-block_check.was)
          (λ i. record { bank = bank_of a.targets.now (w i).records (w i).delay (cur i); log = rendered (cur i) a.frames (w i).audio (w i).counts ∷ [] });
      keeps = tt;
    }

pub overflow_mul-prepared : goal.overflow_mul-prepared
overflow_mul-prepared c =
    let a = c.args in
    let q = block_from a.frames a.pitch.now a.steered a.x.now a.y.now a.audio.now a.counts.now in
    let b = bank_of a.targets.now a.records.now a.delay.now 0 in
    let k = block_accepted (engine a.setup) a.setup.voices q b (fine_by c.block_check.ensures c.in_ok-block_check.was) in
    omega (arith, (setup_accepted (solo_of a.setup) a.setup.voices k.setup).slots)
