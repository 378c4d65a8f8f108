-- Demand 3 at the bank's engine (document 01, 'A voice from its feed'; document 02, C-11: counts are compared too; C-12 and C-16: lists with park,
-- restore and audition; C-17, C-18: ignored numbers): the two statements, then their proofs from voices/proofs/Voice and the engine's laws. That a call
-- in a list does what its contract says of a bank alone is voices/specs/Alone. Assumes nothing.
use Rattle.std.specs.Prelude.{◌≡◌, ℕ, ◌<◌, List}
use Rattle.std.proofs.Math.Path.{transport}
use Rattle.filter.specs.declared.VoiceParams.{VoiceParams}
use Rattle.setups.specs.Setup.{heard}
use Rattle.slots.specs.Laws.{engine_laws}
use Rattle.slots.specs.Heard.{same_engine}
use Rattle.voices.specs.Calls.{fine, Bank, Call, Run, open_verdict, opened, run, Returning}
use Rattle.voices.specs.Feed.{Event, feed, Same, Alike}
use Rattle.voices.proofs.Voice.{theorem, corollary}
use Rattle.checks.specs.declared.Setup.{Setup}
use Rattle.checks.specs.Setup.{solo_of, engine}

-- the bank that opened by the setup s on lent lists b, and after any calls xs, refused or not
abbrev pub bank_opened : Setup → Bank → Run
bank_opened s b = opened (engine s) s.voices b

abbrev pub bank_after : Setup → Bank → List (Call VoiceParams) → Run
bank_after s b xs = run (engine s) s.voices xs (bank_opened s b)

-- what those calls feed voice v
abbrev pub feed_of : Setup → (v : ℕ) → Bank → List (Call VoiceParams) → List (Event VoiceParams)
feed_of s v b xs = feed (engine s) s.voices v xs (bank_opened s b)

-- open by the setup s is accepted on the lent lists b
abbrev pub IsOpened : Setup → Bank → Type 0
IsOpened s b = open_verdict (engine s) s.voices b ≡ fine

-- every restore among those calls that is accepted is of the bank just parked (C-12): its file holds the setup s and the bank as it then stands. For a
-- file that park wrote of that bank this is proved: `parked_returns`, parking/specs/Returned
abbrev pub OfJustParked : Setup → Bank → List (Call VoiceParams) → Type 0
OfJustParked s b xs = Returning (engine s) s.voices xs (bank_opened s b)

-- In a bank that opened by the setup s on any lent lists b, after any calls xs, refused or not, each voice v is the plain voice of
-- its feed, worked from the setup without its voices.
abbrev pub EachVoice : Setup → Type 0
EachVoice s =
    (v : ℕ) (b : Bank) (xs : List (Call VoiceParams))
    → IsOpened s b → v < s.voices → OfJustParked s b xs
    → Same (engine s) s.voices v (bank_after s b xs) (feed_of s v b xs)

-- Two setups that are alike but for their voices, sixteen against one or any, and for numbers that are ignored (C-17, C-18): voices of the two banks agree in
-- all that is compared if their feeds are equal.
abbrev pub TwoSetups : Setup → Setup → Type 0
TwoSetups s t =
    heard (solo_of s) ≡ heard (solo_of t)
    → (v u : ℕ) (b d : Bank) (xs ys : List (Call VoiceParams))
    → IsOpened s b → IsOpened t d → v < s.voices → u < t.voices
    → OfJustParked s b xs → OfJustParked t d ys
    → feed_of s v b xs ≡ feed_of t u d ys
    → Alike (engine s) s.voices t.voices v u (bank_after s b xs) (bank_after t d ys)

pub demand3 : (s : Setup) → EachVoice s
demand3 s = theorem (engine s) (engine_laws (solo_of s)) s.voices

-- the engines are one, and on the way from one to the other the settings' type stays
pub two_setups : (s t : Setup) → TwoSetups s t
unfolding same_engine
two_setups s t e =
    transport (λ i. let E = same_engine (solo_of s) (solo_of t) e i in
    (v u : ℕ) (b d : Bank) (xs ys : List (Call VoiceParams))
    → IsOpened s b → open_verdict E t.voices d ≡ fine → v < s.voices → u < t.voices
    → OfJustParked s b xs → Returning E t.voices ys (opened E t.voices d)
    → feed_of s v b xs ≡ feed E t.voices u ys (opened E t.voices d)
    → Alike (engine s) s.voices t.voices v u (bank_after s b xs) (run E t.voices ys (opened E t.voices d)))
    (corollary (engine s) (engine_laws (solo_of s)) s.voices t.voices)
