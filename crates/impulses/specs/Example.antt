-- Some lines and what they ask for, by computation: the document's example, leading zeros, two blanks, ten digits, a carriage return. Assumes nothing.
use Rattle.std.specs.Prelude.{◌≡◌, ℕ, List, [], ◌∷◌, ◌++◌, Option, None, Some, refl}
use Rattle.text.specs.Text.{count_before, first_of, word_at, line_end, bytes_of, digit_of, number_from, decimal_of}
use Rattle.impulses.specs.declared.Asked.{Asked}
use Rattle.impulses.specs.Impulse.{short_decimal, asked, line_request, request_of}

-- `2 48000 `
start : List ℕ
start = 50 ∷ 32 ∷ 52 ∷ 56 ∷ 48 ∷ 48 ∷ 48 ∷ 32 ∷ []

-- code 2 at 48000, so many frames
frames : ℕ → Option Asked
frames n = Some (record { code = 2; rate = 48000; frames = n })

record Requests : Type 0 where
  -- `2 48000 3`, and with a newline and more behind it
  example : request_of (start ++ 51 ∷ []) ≡ frames 3
  later_bytes : request_of (start ++ 51 ∷ 10 ∷ 120 ∷ []) ≡ frames 3
  -- `2 48000 003`
  zeros : request_of (start ++ 48 ∷ 48 ∷ 51 ∷ []) ≡ frames 3
  -- nine digits, and ten
  nine_digits : request_of (start ++ 57 ∷ 57 ∷ 57 ∷ 57 ∷ 57 ∷ 57 ∷ 57 ∷ 57 ∷ 57 ∷ []) ≡ frames 999999999
  ten_digits : request_of (start ++ 48 ∷ 48 ∷ 48 ∷ 48 ∷ 48 ∷ 48 ∷ 48 ∷ 48 ∷ 48 ∷ 51 ∷ []) ≡ None
  -- two blanks, a blank or a carriage return at the end, no third number, nothing
  two_blanks : request_of (start ++ 32 ∷ 51 ∷ []) ≡ None
  last_blank : request_of (start ++ 51 ∷ 32 ∷ []) ≡ None
  carriage_return : request_of (start ++ 51 ∷ 13 ∷ 10 ∷ []) ≡ None
  two_numbers : request_of start ≡ None
  empty : request_of [] ≡ None

requests : Requests
unfolding start frames request_of line_request asked short_decimal word_at line_end first_of count_before bytes_of decimal_of number_from digit_of
requests = record {
  example = refl;
  later_bytes = refl;
  zeros = refl;
  nine_digits = refl;
  ten_digits = refl;
  two_blanks = refl;
  last_blank = refl;
  carriage_return = refl;
  two_numbers = refl;
  empty = refl;
}
