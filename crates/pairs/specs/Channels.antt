-- For the proofs: nothing here must be believed.
-- The loops over voices and channels: some turns more at once, and both channels of each voice in turn. Assumes nothing.
use Rattle.std.specs.Prelude.{◌≡◌, ◌≢◌, ℕ, zero, suc, ◌+◌, ◌*◌, ◌≤◌, List, Float, length}
use Rattle.std.proofs.Common.{sym, ap, ◌∙◌, arith}
use Rattle.parts.specs.Parts.{upto}
use Rattle.voices.specs.Calls.{BlockRun}
use Rattle.abreast.proofs.Abreast.{both_channels}
use Rattle.slots.specs.declared.Prepared.{Prepared}
use Rattle.slots.specs.declared.Slot.{Slot}
use Rattle.slots.specs.Slots.{solo_at, engine_at, block_at, block_run, channel_in, Worked, Placed, Buffers, Lists, Swept}
use Rattle.slots.specs.Laws.{engine_laws}
use Rattle.pairs.specs.Pairs.{voice_in}

-- turns from i on are the turns after the first i
pub upto_from {ℓ} : {X : Type ℓ} (g : ℕ → X → X) (i m : ℕ) (x : X) → upto (λ j. g (i + j)) m (upto g i x) ≡ upto g (i + m) x
upto_from g i zero x = let same : i ≡ i + 0 = omega arith in ap (λ (k : ℕ). upto g k x) same
upto_from g i (suc m) x =
    let same : suc (i + m) ≡ i + suc m = omega arith in
    ap (g (i + m)) (upto_from g i m x) ∙ ap (λ (k : ℕ). upto g k x) same

-- m turns more of a loop
pub swept_more : (g : ℕ → BlockRun → BlockRun) (n : ℕ) (start : BlockRun) (i m : ℕ) (w w' : BlockRun) → Swept g n start i w → i + m ≤ n
    → w' ≡ upto (λ j. g (i + j)) m w
    → length w'.records ≡ length w.records → length w'.delay ≡ length w.delay → length w'.audio ≡ length w.audio
    → length w'.counts ≡ length w.counts
    → Swept g n start (i + m) w'
swept_more g n start i m w w' s h e r d a k = record {
  within = h;
  lists = e ∙ ap (upto (λ j. g (i + j)) m) s.lists ∙ upto_from g i m start;
  records = r ∙ s.records;
  delay = d ∙ s.delay;
  audio = a ∙ s.audio;
  counts = k ∙ s.counts;
}

-- both channels of each voice in turn are a block of two channels
pub both_are_block : (e : Prepared) (sections tg ps xs ys rs ds au : List Float) (ks : List ℕ) → Worked e → e.channels ≡ 2 → Lists e tg rs ks
    → Buffers e ps xs ys ds au
    → upto (voice_in e sections tg ps xs ys) e.voices (block_run rs ds au ks)
    ≡ upto (channel_in e sections tg ps xs ys) e.channels (block_run rs ds au ks)
both_are_block e sections tg ps xs ys rs ds au ks g two l b =
    both_channels (engine_at e sections) e.voices (block_at e ps xs ys) e.cursor (engine_laws (solo_at e sections)) tg l.targets two
    (block_run rs ds au ks) (l.records ∙ ap (λ (k : ℕ). k * 32) g.slots) (b.delay ∙ (λ i. g.slots i * g.len i))
    ∙ ap (λ (k : ℕ). upto (channel_in e sections tg ps xs ys) k (block_run rs ds au ks)) (sym two)

-- slots of two channels, and of two voices, have different numbers
pub channels_apart : (e : Prepared) (p q : Slot) → Placed e p → Placed e q → p.channel ≡ 0 → q.channel ≡ 1 → p.number ≢ q.number
channels_apart e p q hp hq zp oq same =
    let first : p.number ≡ 0 * e.voices + p.voice = hp.number ∙ ap (λ (c : ℕ). c * e.voices + p.voice) zp in
    let second : q.number ≡ 1 * e.voices + q.voice = hq.number ∙ ap (λ (c : ℕ). c * e.voices + q.voice) oq in
    omega (arith, first, second, same, hp.voice)

pub voices_apart : (e : Prepared) (p q : Slot) (c v : ℕ) → Placed e p → Placed e q → p.channel ≡ c → q.channel ≡ c → p.voice ≡ v
    → q.voice ≡ v + 1 → p.number ≢ q.number
voices_apart e p q c v hp hq cp cq vp vq same =
    let first : p.number ≡ c * e.voices + v = hp.number ∙ (λ i. cp i * e.voices + vp i) in
    let second : q.number ≡ c * e.voices + (v + 1) = hq.number ∙ (λ i. cq i * e.voices + vq i) in
    omega (arith, first, second, same)
