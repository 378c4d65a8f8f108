-- `put_response` meets its contract: the ring fits the cells, the lent parts are the lists of `response_of`, and `render` gives its samples.
-- Assumes nothing.
use Rattle.std.proofs.Common.{◌≡◌, ℕ, ◌≤◌, List, length, take, drop, sym, ap, ◌∙◌, arith}
use lib.Ieee.{Float}
use Rattle.text.specs.Text.{buffer, puts}
use Rattle.impulses.specs.Impulse.{verdict_of, samples_text}
use Rattle.impulses.proofs.Verdicts.{Accepted, accepted}
use Rattle.impulses.proofs.Rendering.{part_length, part_within, part_again, len_is, len_fits, response_is}
use Rattle.impulses.proofs.put_response.Goals as goal
use Rattle.impulses.proofs.put_response.Lts as lts
use Rattle.impulses.proofs.put_response.Reads as reads
use Rattle.impulses.proofs.put_response.Tie as tie

abbrev After-ring_len-len : Type 0
After-ring_len-len = lts.After-ring_len tie.the-claims reads.Pre reads.Post

known : (c : After-ring_len-len) → let a = c.args.asked in Accepted a.code a.rate a.frames
known c = accepted _ _ _ c.requires

fits : (c : After-ring_len-len) → c.ring_len-len.result ≤ 16384
fits c = len_fits _ _ _ _ _ (known c) c.nearest_u32_to_f32.ensures c.ring_len-len.ensures

-- the parts lent are as long as the ring and the frames
ring_part : (c : After-ring_len-len) → length (take c.ring_len-len.result c.silence-delay.result) ≡ c.ring_len-len.result
ring_part c = part_length _ 16384 _ (fits c) c.silence-delay.ensures.1

pitch_part : (c : After-ring_len-len) → let n = c.args.asked.frames in length (take n c.steady_pitch-pitch.result) ≡ n
pitch_part c = part_length _ 4096 _ (known c).most c.steady_pitch-pitch.ensures.1

audio_part : (c : After-ring_len-len) → let n = c.args.asked.frames in length (take n c.impulse_audio-audio.result) ≡ n
audio_part c = part_length _ 4096 _ (known c).most c.impulse_audio-audio.ensures.1

-- the audio that comes back, and what stands after it in the array
abbrev rendered : goal.After-put_samples-arg-1 → List Float
rendered c = c.render.new.audio

abbrev unused : goal.After-put_samples-arg-1 → List Float
unused c = drop c.args.asked.frames c.impulse_audio-audio.result

pub slice_bounds-delay-end : goal.slice_bounds-delay-end
slice_bounds-delay-end c = omega (arith, fits c.before, c.silence-delay.ensures.1)

pub slice_bounds-render-end : goal.slice_bounds-render-end
slice_bounds-render-end c = sym (ring_part c.before.before)

pub slice_bounds-pitch-end : goal.slice_bounds-pitch-end
slice_bounds-pitch-end c = omega (arith, (known c.before.before).most, c.steady_pitch-pitch.ensures.1)

pub slice_bounds-render-end-2 : goal.slice_bounds-render-end-2
slice_bounds-render-end-2 c = sym (pitch_part c.before.before.before)

pub slice_bounds-audio-end : goal.slice_bounds-audio-end
slice_bounds-audio-end c = omega (arith, (known c.before.before.before).most, c.impulse_audio-audio.ensures.1)

pub slice_bounds-render-end-3 : goal.slice_bounds-render-end-3
slice_bounds-render-end-3 c = sym (audio_part c.before.before.before.before)

pub render-requires : goal.render-requires
render-requires c =
    let a = c.args.asked in
    record {
      accepted = ap (λ (n : ℕ). verdict_of a.code a.rate n) (audio_part c.before.before.before.before) ∙ c.requires;
      ring = ring_part c.before.before.before.before ∙ len_is _ _ _ _ _ (known c.before.before.before.before) c.nearest_u32_to_f32.ensures c.ring_len-len.ensures;
      pitches = pitch_part c.before.before.before.before ∙ sym (audio_part c.before.before.before.before);
    }

pub slice_bounds-audio-end-2 : goal.slice_bounds-audio-end-2
slice_bounds-audio-end-2 c = part_within _ (rendered c) (unused c) (c.audio-2-1.given ∙ audio_part c.before.before.before.before.before.before.before)

pub slice_bounds-put_samples-end : goal.slice_bounds-put_samples-end
slice_bounds-put_samples-end c = sym (part_again _ (rendered c.before) (unused c.before) (c.audio-2-1.given ∙ audio_part c.before.before.before.before.before.before.before.before))

pub returns : goal.returns
returns c =
    let a = c.args in
    c.put_samples.ensures
    ∙ ap (λ (s : List Float). puts (samples_text 0 s) (buffer a.out.now a.at))
    (response_is _ _ _ _ _ (known c.before.before.before.before.before.before.before.before.before.before.before.before) c.nearest_u32_to_f32.ensures c.ring_len-len.ensures _ _ _ (rendered c.before.before.before.before.before) (unused c.before.before.before.before.before) c.silence-delay.ensures.0 c.steady_pitch-pitch.ensures.0 c.impulse_audio-audio.ensures.0 c.render.ensures (c.audio-2-1.given ∙ audio_part c.before.before.before.before.before.before.before.before.before.before.before.before))
