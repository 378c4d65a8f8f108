-- The first 64 bytes of the input's first line have the whole input's answer, and a buffer that is written from its start holds as much of a text as it has
-- room for. Lemmas only. Assumes nothing.
use Rattle.std.proofs.Common.{◌≡◌, ℕ, ◌+◌, ◌<◌, ◌≤◌, Bool, true, false, cond, ◌||◌, List, ◌∷◌, ◌++◌, length, take, set, eqb, ltb, leb, refl, sym, ap, ◌∙◌, arith, append_assoc, length-set, take-take, length-take, append-nil, subst, Result, Ok, Err, Option, None, Some, IfSome, OnOk, rules, []}
use Rattle.std.proofs.lemmas.List.{take_all, take-append-le, take_more_set}
use Rattle.std.specs.Io.BufRead.{take_through}
use Rattle.std.specs.Io.KnownBytes.{Appends}
use borrow.Author.Tests.{leb-true, leb-false, ltb-true, ltb-false}
use Rattle.text.specs.Text.{Buffer, buffer, put, puts, count, count_before, first_of, line_end}
use Rattle.impulses.specs.Impulse.{Prints, impulse_text, answer_text, request_of}
use Rattle.impulses.specs.Prefix.{line_decides, prefix_decides}

-- ---- the line

Starts : List ℕ → List ℕ → ℕ → Type 0
Starts xs line k = (line ≡ take (length line) xs) × (k ≤ length line)

starts_more : (t : Bool) (x : ℕ) (xs line : List ℕ) (k : ℕ) → Starts xs line k → Starts (x ∷ xs) (cond t (x ∷ []) (x ∷ line)) (count (t || t) k)
unfolding Starts
starts_more true x xs line k h = (refl, omega arith)
starts_more false x xs line k h = (ap (λ r. x ∷ r) h.0, omega arith)

starts : (xs : List ℕ) → Starts xs (take_through 10 xs) (count_before 10 10 xs)
unfolding Starts count_before
starts [] = (refl, omega arith)
starts (x ∷ xs) = starts_more (eqb x 10) x xs (take_through 10 xs) (count_before 10 10 xs) (starts xs)

line_starts : (xs : List ℕ) → Starts xs (take_through 10 xs) (line_end xs 0)
unfolding line_end first_of Starts
line_starts xs = let h = starts xs in (h.0, omega (arith, h.1))

same_by : (t : Bool) (n : ℕ) (xs line : List ℕ) → leb n (length line) ≡ t → Starts xs line (line_end xs 0) → 30 ≤ n → request_of (take n line) ≡ request_of xs
unfolding Starts
same_by true n xs line e s h = ap request_of (ap (take n) s.0 ∙ take-take n (length line) xs (leb-true n (length line) e)) ∙ prefix_decides n xs h
same_by false n xs line e s h =
    let longer : length line ≤ n = omega (arith, leb-false n (length line) e) in
    ap request_of (take_all n line longer ∙ s.0) ∙ line_decides (length line) xs s.1

same_request : (n : ℕ) (xs : List ℕ) → 30 ≤ n → request_of (take n (take_through 10 xs)) ≡ request_of xs
same_request n xs h = same_by (leb n (length (take_through 10 xs))) n xs (take_through 10 xs) refl (line_starts xs) h

same_text : (n : ℕ) (xs : List ℕ) → 30 ≤ n → impulse_text (take n (take_through 10 xs)) ≡ impulse_text xs
unfolding impulse_text
same_text n xs h = ap answer_text (same_request n xs h)

-- ---- the buffer

room_for : (b : ℕ) (zs : List ℕ) (at : ℕ) → at < length zs → put b (buffer zs at) ≡ buffer (set zs at b) (at + 1)
unfolding put
room_for b zs at h = search (rules, ltb-true)

no_room : (b : ℕ) (zs : List ℕ) (at : ℕ) → length zs ≤ at → put b (buffer zs at) ≡ buffer zs at
unfolding put
no_room b zs at h = search (rules, ltb-false)

written : Buffer → List ℕ
written p = take p.at p.bytes

by_room : (b : ℕ) (s zs : List ℕ) (at : ℕ) (t : Bool) → ltb at (length zs) ≡ t → at ≤ length zs
    → (at + 1 ≤ length (set zs at b) → written (puts s (buffer (set zs at b) (at + 1))) ≡ take (length (set zs at b)) (take (at + 1) (set zs at b) ++ s))
    → (at ≤ length zs → written (puts s (buffer zs at)) ≡ take (length zs) (take at zs ++ s))
    → written (puts s (put b (buffer zs at))) ≡ take (length zs) (take at zs ++ b ∷ s)
by_room b s zs at true e h more full =
    let lt : at < length zs = ltb-true at (length zs) e in
    ap (λ p. written (puts s p)) (room_for b zs at lt) ∙ more (simp length-set (omega arith)) ∙ rw (length-set, take_more_set zs at b lt, append_assoc) refl
by_room b s zs at false e h more full =
    let ge : length zs ≤ at = ltb-false at (length zs) e in
    let all : length zs ≤ length (take at zs) = simp length-take (omega arith) in
    ap (λ p. written (puts s p)) (no_room b zs at ge) ∙ full h ∙ take-append-le (length zs) (take at zs) s all ∙ sym (take-append-le (length zs) (take at zs) (b ∷ s) all)

puts_written : (s zs : List ℕ) (at : ℕ) → at ≤ length zs → written (puts s (buffer zs at)) ≡ take (length zs) (take at zs ++ s)
unfolding puts written
puts_written [] zs at h =
    sym (ap (take (length zs)) (append-nil (take at zs)) ∙ take_all (length zs) (take at zs) (simp length-take (omega arith)))
puts_written (b ∷ s) zs at h = by_room b s zs at (ltb at (length zs)) refl h (puts_written s (set zs at b) (at + 1)) (puts_written s zs at)

printed : (n : ℕ) (line xs before after : List ℕ) (m : ℕ) → length before ≡ n → Prints line before after m
    → impulse_text line ≡ impulse_text xs → take m after ≡ take n (impulse_text xs)
unfolding written
printed n line xs before after m l p e = ap written p.0 ∙ puts_written (impulse_text line) before 0 (omega arith) ∙ rw (l, e) refl

pub answered : {E : Type 0} {T : Type 0} (r : Result T E) (o w v : Option (List ℕ)) (n m k l : ℕ) (buf before after : List ℕ)
    → 30 ≤ k → length buf ≡ k → length before ≡ l → IfSome o (λ xs. take n buf ≡ take (length buf) (take_through 10 xs))
    → Prints (take n buf) before after m → OnOk r (Appends w v (take m after)) → OnOk r (IfSome o (λ xs. Appends w v (take l (impulse_text xs))))
answered (Err x) o w v n m k l buf before after g e d line p h = h
answered (Ok x) None w v n m k l buf before after g e d line p h = line
answered (Ok x) (Some xs) w v n m k l buf before after g e d line p h =
    let same : impulse_text (take n buf) ≡ impulse_text xs = ap impulse_text (line ∙ ap (λ j. take j (take_through 10 xs)) e) ∙ same_text k xs g in
    let P : List ℕ → Type 0 = λ bs. Appends w v bs in
    subst P (printed l (take n buf) xs before after m d p same) h
