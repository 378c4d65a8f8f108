-- Demand 3 (document 01, document 02), over any engine whose ticks keep lengths: the proofs. The theorem follows from `open_own`, `steps` and `count_steps`
-- of Steps, the corollary from the theorem for each bank. Assumes nothing.
use Rattle.std.specs.Prelude.{◌≡◌, refl, ℕ, List}
use Rattle.std.proofs.Common.{sym, ap, ◌∙◌, arith}
use Rattle.voices.specs.Calls.{Engine, Laws, opened}
use Rattle.voices.specs.Feed.{Event, frame_count, PlainVoice, started, fresh, voice_of, feed}
use Rattle.voices.proofs.Steps.{open_own, steps, count_steps}
use Rattle.voices.specs.Voice.{VoiceFromFeed, TwoBanks}

pub theorem : (E : Engine) → Laws E → (n : ℕ) → VoiceFromFeed E n
unfolding fresh started
theorem E laws n v b xs ok h t =
    let i = steps E laws n v h xs (opened E n b) (fresh E) t (record { voice = open_own E laws n v b ok h; samples = λ c hc. refl; count = λ c hc. refl }) in
    record {
      targets = i.voice.targets;
      cursor = i.voice.cursor;
      rec = i.voice.rec;
      ring = i.voice.ring;
      samples = i.samples;
      count = i.count;
      frames = count_steps E laws n xs v (opened E n b) ∙ omega arith;
    }

pub corollary : (E : Engine) → Laws E → (n m : ℕ) → TwoBanks E n m
corollary E laws n m v u b d xs ys okb okd hv hu tb td e =
    let s = theorem E laws n v b xs okb hv tb in
    let t = theorem E laws m u d ys okd hu td in
    let j : voice_of E (feed E n v xs (opened E n b)) ≡ voice_of E (feed E m u ys (opened E m d)) = ap (λ (f : List (Event E.S)). voice_of E f) e in
    record {
      targets = s.targets ∙ ap (λ (p : PlainVoice). p.targets) j ∙ sym t.targets;
      cursor = s.cursor ∙ ap (λ (p : PlainVoice). p.cursor) j ∙ sym t.cursor;
      rec = λ c h. s.rec c h ∙ ap (λ (p : PlainVoice). (p.channel c).rec) j ∙ sym (t.rec c h);
      ring = λ c h. s.ring c h ∙ ap (λ (p : PlainVoice). (p.channel c).ring) j ∙ sym (t.ring c h);
      samples = λ c h. s.samples c h ∙ ap (λ (p : PlainVoice). (p.channel c).samples) j ∙ sym (t.samples c h);
      count = λ c h. s.count c h ∙ ap (λ (p : PlainVoice). (p.channel c).count) j ∙ sym (t.count c h);
      frames = s.frames ∙ ap (λ (f : List (Event E.S)). frame_count f) e ∙ sym t.frames;
    }
