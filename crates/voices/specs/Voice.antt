-- Demand 3 (document 01, 'A voice from its feed'; document 02, C-12 and C-16: lists with park, restore and audition), over any engine whose ticks keep
-- lengths: its two statements, proved in proofs/Voice.antt (`theorem`, `corollary`). Assumes nothing.
use Rattle.std.specs.Prelude.{◌≡◌, ℕ, ◌<◌, List}
use Rattle.voices.specs.Calls.{fine, Engine, Bank, Call, open_verdict, opened, run, Returning}
use Rattle.voices.specs.Feed.{feed, Same, Alike}

-- In a bank of n voices that opened on any lent lists b, after any calls xs, refused or not, whose restores are of the bank just parked, each voice v is
-- the plain voice of its feed.
abbrev pub VoiceFromFeed : Engine → ℕ → Type 0
VoiceFromFeed E n =
    (v : ℕ) (b : Bank) (xs : List (Call E.S))
    → open_verdict E n b ≡ fine → v < n → Returning E n xs (opened E n b)
    → Same E n v (run E n xs (opened E n b)) (feed E n v xs (opened E n b))

-- Voices of two banks, of n and of m voices over the same engine, agree in all that is compared if their feeds are equal.
abbrev pub TwoBanks : Engine → ℕ → ℕ → Type 0
TwoBanks E n m =
    (v u : ℕ) (b d : Bank) (xs ys : List (Call E.S))
    → open_verdict E n b ≡ fine → open_verdict E m d ≡ fine → v < n → u < m
    → Returning E n xs (opened E n b) → Returning E m ys (opened E m d)
    → feed E n v xs (opened E n b) ≡ feed E m u ys (opened E m d)
    → Alike E n m v u (run E n xs (opened E n b)) (run E m ys (opened E m d))
