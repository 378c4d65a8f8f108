-- Laws of the rendering: an accepted open and block leave the audio that the definitions give, and parts of the program's lists are the lists
-- that it feeds. Assumes nothing.
use Rattle.std.proofs.Common.{◌≡◌, ℕ, zero, suc, ◌-◌, ◌*◌, ◌<◌, ◌≤◌, false, List, ◌∷◌, ◌++◌, length, take, set, replicate, pos, sym, refl, ap, ◌∙◌, subst, le_of_suc-le-suc, arith, length-append, length-take, take_all, eq-eqb, le-leb, []}
use Rattle.std.specs.Prelude.{Result}
use lib.ListN.{length-replicate}
use lib.Seq.{take-append-le}
use lib.Ieee.{Float, binary32, of_bits, of_int, round}
use Rattle.lane.specs.Floats.{zero as silent, one}
use Rattle.lines.specs.Lines.{ring_len}
use Rattle.setups.specs.Setup.{setup_check_of}
use Rattle.voices.specs.Calls.{targets_width, record_width, fine, check, ◌then◌, Bank, Block, call_block, Answer, Run, open_of, block_of, open_verdict, verdict, accepted}
use Rattle.voices.specs.Accepted.{Lengths}
use Rattle.checks.specs.declared.Setup.{Setup}
use Rattle.checks.specs.Setup.{solo_of, engine}
use Rattle.checks.specs.Checks.{bank_of, block_from}
use Rattle.checks.specs.declared.Refusal.{Refusal}
use Rattle.bank.specs.declared.Rendered.{Rendered}
use Rattle.bank.specs.Bank.{answer_of, block_answer, cursor_of, before, after, open_by, OpenDoes, BlockDoes}
use Rattle.bank.specs.Answers.{newest, rendered_is}
use Rattle.impulses.specs.Impulse.{rate_of, impulse_setup, steady_pitch, silence, impulse_of, rendered_of, response_of}
use Rattle.impulses.specs.Cells.{ring_fits}
use Rattle.impulses.proofs.Verdicts.{Accepted, rate_is}

pub silence_length : (n : ℕ) → length (silence n) ≡ n
unfolding silence
silence_length n = length-replicate n silent

-- ---- open and block

module _ (s : Setup) (ok : setup_check_of (solo_of s) s.voices ≡ fine) (b : Bank) (l : Lengths (engine s) s.voices b) where
  open_fine : open_verdict (engine s) s.voices b ≡ fine
  unfolding check ◌then◌
  open_fine = rw (ok, eq-eqb _ _ l.targets, eq-eqb _ _ l.records, eq-eqb _ _ l.delay)

  -- a mono block, unsteered, of 1 to 4,096 frames
  block_fine : (q : Block) → 1 ≤ q.frames → q.frames ≤ 4096 → q.steered ≡ false → length q.pitch ≡ q.frames * s.voices → length q.x ≡ 0 → length q.y ≡ 0 → length q.audio ≡ q.frames * (s.channels * s.voices)
      → length q.counts ≡ s.channels * s.voices
      → verdict (engine s) s.voices (call_block q) b ≡ fine
  unfolding check ◌then◌
  block_fine q lo hi st p x y a m =
      rw (ok, eq-eqb _ _ l.targets, eq-eqb _ _ l.records, eq-eqb _ _ l.delay, le-leb 1 q.frames lo, le-leb q.frames 4096 hi, st, eq-eqb _ _ p, eq-eqb _ _ x, eq-eqb _ _ y, eq-eqb _ _ a, eq-eqb _ _ m)

module _ (s : Setup) (tg₀ rs₀ ds₀ : List Float) (r : Result ℕ Refusal) (s' : Setup) (tg rs ds : List Float) where
  pub opened_bank : open_verdict (engine s) s.voices (bank_of tg₀ rs₀ ds₀ 0) ≡ fine → OpenDoes s (bank_of tg₀ rs₀ ds₀ 0) r s' tg rs ds → bank_of tg rs ds 0 ≡ open_of (engine s) s.voices (bank_of tg₀ rs₀ ds₀ 0)
  opened_bank ok d =
      let e : after (answer_of r) 0 tg rs ds ≡ open_by fine s (bank_of tg₀ rs₀ ds₀ 0) = rw ok at d.does in
      let k : cursor_of (answer_of r) 0 ≡ 0 = ap (λ (a : Answer). cursor_of a 0) (ap newest e) in
      ap (λ (n : ℕ). bank_of tg rs ds n) (sym k) ∙ ap (λ (w : Run). w.bank) e

pub block_audio : (s : Setup) (q : Block) (b : Bank) (r : Result Rendered Refusal) (rs ds audio : List Float) (counts : List ℕ)
    → verdict (engine s) s.voices (call_block q) b ≡ fine → BlockDoes s q b r rs ds audio counts → audio ≡ (block_of (engine s) s.voices q b).audio
block_audio s q b r rs ds audio counts ok d =
    let e : after (block_answer r audio counts) b.cursor b.targets rs ds ≡ accepted (engine s) s.voices (call_block q) (before b) = rw ok at d.does in
    (rendered_is r _ _ audio _ counts _ (ap newest e)).1

-- the two calls on lists of zeros, at a setup of the program
module _ (code rate : ℕ) (ds₀ pitch audio : List Float) (a : Accepted code rate (length audio)) (hd : length ds₀ ≡ ring_len (rate_of rate)) (hp : length pitch ≡ length audio) where
  open_lengths : Lengths (engine (impulse_setup code rate)) 1 (bank_of (silence targets_width) (silence record_width) ds₀ 0)
  unfolding impulse_setup
  open_lengths = record { targets = silence_length targets_width; records = silence_length record_width; delay = omega arith }

  pub rendering_is : (tg rs ds rs' ds' left : List Float) (over : List ℕ) (r : Result ℕ Refusal) (r' : Result Rendered Refusal) (s' : Setup)
      → length tg ≡ targets_width → length rs ≡ record_width → length ds ≡ length ds₀
      → OpenDoes (impulse_setup code rate) (bank_of (silence targets_width) (silence record_width) ds₀ 0) r s' tg rs ds
      → BlockDoes (impulse_setup code rate) (block_from (length audio) pitch false [] [] audio (0 ∷ [])) (bank_of tg rs ds 0) r' rs' ds' left over
      → left ≡ rendered_of code rate ds₀ pitch audio
  unfolding impulse_setup rendered_of
  rendering_is tg rs ds rs' ds' left over r r' s' ht hr hs o b =
      let s = impulse_setup code rate in
      let q = block_from (length audio) pitch false [] [] audio (0 ∷ []) in
      let l : Lengths (engine s) 1 (bank_of tg rs ds 0) = record { targets = ht; records = hr; delay = omega arith } in
      let f : verdict (engine s) 1 (call_block q) (bank_of tg rs ds 0) ≡ fine = block_fine s a.setup (bank_of tg rs ds 0) l q a.some_frame a.most refl (omega arith) refl refl (omega arith) refl in
      let e : bank_of tg rs ds 0 ≡ open_of (engine s) 1 (bank_of (silence targets_width) (silence record_width) ds₀ 0) = opened_bank s _ _ ds₀ r s' tg rs ds (open_fine s a.setup (bank_of (silence targets_width) (silence record_width) ds₀ 0) open_lengths) o in
      block_audio s q (bank_of tg rs ds 0) r' rs' ds' left over f b ∙ ap (λ (w : Bank). (block_of (engine s) 1 q w).audio) e

-- ---- parts of lists of one number

take-replicate : (k n : ℕ) (x : Float) → k ≤ n → take k (replicate n x) ≡ replicate k x
take-replicate zero n x h = refl
take-replicate (suc k) zero x h = absurd (omega arith)
take-replicate (suc k) (suc n) x h = ap (λ (l : List Float). x ∷ l) (take-replicate k n x (le_of_suc-le-suc h))

module _ (k n : ℕ) (h : k ≤ n) where
  pub take_silence : take k (silence n) ≡ silence k
  unfolding silence
  take_silence = take-replicate k n silent h

  pub take_pitch : take k (steady_pitch n) ≡ steady_pitch k
  unfolding steady_pitch
  take_pitch = take-replicate k n _ h

  pub take_impulse : 1 ≤ k → take k (impulse_of n) ≡ impulse_of k
  unfolding silence impulse_of
  take_impulse l =
      let i : suc (k - 1) ≡ k = omega arith in
      let e : take (suc (k - 1)) (one ∷ replicate (n - 1) silent) ≡ one ∷ replicate (k - 1) silent = ap (λ (t : List Float). one ∷ t) (take-replicate (k - 1) (n - 1) silent (omega arith)) in
      subst (λ (j : ℕ). take j (one ∷ replicate (n - 1) silent) ≡ one ∷ replicate (k - 1) silent) i e

-- the arrays of the code

pub zeros : (n : ℕ) → replicate n (of_bits binary32 0) ≡ silence n
unfolding silence of_bits round
zeros n = refl

pub pitches : (n : ℕ) → replicate n (of_bits binary32 1116340224) ≡ steady_pitch n
unfolding steady_pitch of_bits round
pitches n = refl

pub impulse_made : (n : ℕ) (xs : List Float) → 0 < n → xs ≡ silence n → set xs 0 (of_bits binary32 1065353216) ≡ impulse_of n
unfolding silence impulse_of of_bits round
impulse_made zero xs h e = absurd (omega arith)
impulse_made (suc n) xs h e = let i : n ≡ suc n - 1 = omega arith in rw e (ap (λ (i : ℕ). one ∷ replicate i silent) i)

-- ---- a part that is lent, and a list that comes back with what stood after the part

pub part_length : (n m : ℕ) (xs : List Float) → n ≤ m → length xs ≡ m → length (take n xs) ≡ n
part_length n m xs h e = simp length-take (omega arith)

module _ (n : ℕ) (ys rest : List Float) (h : length ys ≡ n) where
  pub part_within : n ≤ length (ys ++ rest)
  part_within = simp length-append (omega arith)

  pub part_again : length (take n (ys ++ rest)) ≡ n
  part_again = simp (length-take, length-append) (omega arith)

-- ---- the program's lists, with the ring's length that the code works out

module _ (code rate frames len : ℕ) (x : Float) (a : Accepted code rate frames) (ex : x ≡ of_int binary32 (pos rate)) (el : len ≡ ring_len x) where
  pub len_is : len ≡ ring_len (rate_of rate)
  len_is = el ∙ ap ring_len (ex ∙ rate_is rate)

  pub len_fits : len ≤ 16384
  len_fits = omega (arith, len_is, ring_fits rate a.rate_fine a.small)

  pub response_is : (cs ps xs ys rest : List Float) → cs ≡ silence 16384 → ps ≡ steady_pitch 4096 → xs ≡ impulse_of 4096
      → ys ≡ rendered_of code rate (take len cs) (take frames ps) (take frames xs) → length ys ≡ frames → take frames (ys ++ rest) ≡ response_of code rate frames
  unfolding response_of
  response_is cs ps xs ys rest ec ep ea e h =
      let l : frames ≤ length ys = omega arith in
      let k : length ys ≤ frames = omega arith in
      rw (take-append-le frames ys rest l, take_all frames ys k, e, ec, ep, ea, take_silence len 16384 len_fits, take_pitch frames 4096 a.most, take_impulse frames 4096 a.most a.some_frame, len_is)
