-- For the proofs: nothing here must be believed.
-- A slot's record goes as its parts, the smoothed numbers, the states, the peak and z: the loads are its piece, the stores its patch. By cutting
-- the list at the parts' ends. Assumes nothing.
use Rattle.std.specs.Prelude.{◌≡◌, ℕ, ◌+◌, ◌*◌, ◌≤◌, List, [], ◌∷◌, ◌++◌, length, take, drop, set, Float}
use Rattle.std.proofs.Math.Path.{sym, ap}
use Rattle.std.proofs.Common.{◌∙◌, arith, append_assoc, length-set, length-append, take-add, take-suc, drop-drop, get_or-drop, get_or-set_same, take_all, length-take-le}
use Rattle.std.specs.Float.Ieee.{nan}
use Rattle.std.proofs.Math.ListN.{length-drop}
use Rattle.std.proofs.Math.Seq.{take_at, get_or_at, paste, paste-suc}
use Rattle.std.proofs.lemmas.List.{take-set-le}
use Rattle.std.proofs.lemmas.List.Edits.{take-paste, drop-paste}
use Rattle.lane.specs.Floats.{◌‼◌}
use Rattle.parts.specs.Parts.{piece, patch}
use Rattle.filter.specs.Voice.{MORPH_Z}
use Rattle.run.specs.Run.{PEAK}
use Rattle.run.specs.Promises.{record_of}
use Rattle.voices.specs.Calls.{smoothed_width, targets_width, states_width, record_width, record_z}

-- ---- two parts, one after the other

module _ {ℓ} {A : Type ℓ} (m k o : ℕ) where
  loads : (xs : List A) → take m (drop o xs) ++ take k (drop (o + m) xs) ≡ take (m + k) (drop o xs)
  loads xs = ap (λ (r : List A). take m (drop o xs) ++ take k r) (sym (drop-drop m o xs)) ∙ sym (take-add m k (drop o xs))

  stores : (p q xs : List A) → length p ≡ m → length q ≡ k → o + (m + k) ≤ length xs
      → paste (paste xs o p m) (o + m) q k ≡ paste xs o (p ++ q) (m + k)
  stores p q xs hp hq h =
      let e : o + m + k ≡ o + (m + k) = omega arith in
      (λ i. take-paste xs o p m (omega arith) (omega arith) i ++ take_all k q (omega arith) i ++ rest e (omega arith) i)
      ∙ ap (λ (r : List A). take o xs ++ r ++ q ++ drop (o + (m + k)) xs) (take_all m p (omega arith))
      ∙ ap (λ (r : List A). r ++ drop (o + (m + k)) xs) (append_assoc (take o xs) p q)
      ∙ ap (λ (r : List A). take o xs ++ r ++ drop (o + (m + k)) xs) (sym (take_all (m + k) (p ++ q) (simp length-append (omega arith))))
    where
      rest : o + m + k ≡ o + (m + k) → o ≤ length xs → drop (o + m + k) (paste xs o p m) ≡ drop (o + (m + k)) xs
      rest e l =
          sym (drop-drop k (o + m) (paste xs o p m))
          ∙ ap (drop k) (drop-paste xs o p m l (omega arith))
          ∙ drop-drop k (o + m) xs
          ∙ ap (λ (n : ℕ). drop n xs) e

-- ---- the smoothed numbers: of eleven that are loaded the last is replaced

module _ (ys : List Float) (h : targets_width ≤ length ys) where
  eleven : length (take targets_width ys) ≡ targets_width
  eleven = length-take-le targets_width ys h

  ten : take smoothed_width (take targets_width ys) ≡ take smoothed_width ys
  ten =
      ap (take smoothed_width) (take-suc ys smoothed_width nan (omega arith))
      ∙ take_at (take smoothed_width ys) (ys ‼ smoothed_width ∷ []) smoothed_width (length-take-le smoothed_width ys (omega arith))

  pub last_replaced : (v : Float) → set (take targets_width ys) smoothed_width v ≡ take smoothed_width ys ++ v ∷ []
  last_replaced v =
      let l : List Float = set (take targets_width ys) smoothed_width v in
      let long : length l ≡ targets_width = length-set (take targets_width ys) smoothed_width v ∙ eleven in
      sym (take_all targets_width l (omega (arith, long)))
      ∙ take-suc l smoothed_width nan (omega (arith, long))
      ∙ (λ i. (take-set-le smoothed_width (take targets_width ys) smoothed_width v (omega arith) ∙ ten) i
      ++ get_or-set_same (take targets_width ys) smoothed_width v nan (omega (arith, eleven)) i ∷ [])

  pub replaced_long : (v : Float) → length (take smoothed_width ys ++ v ∷ []) ≡ targets_width
  replaced_long v = length-append (take smoothed_width ys) (v ∷ []) ∙ omega (arith, length-take-le smoothed_width ys (omega arith))

-- ---- the record of slot s

module _ (s : ℕ) (rs : List Float) (h : s * record_width + record_width ≤ length rs) where
  abbrev o : ℕ
  o = s * record_width

  -- two numbers after a list, one after the other
  two : (l : List Float) (v z : Float) → l ++ v ∷ [] ++ z ∷ [] ≡ l ++ v ∷ z ∷ []
  two l v z = append_assoc l (v ∷ []) (z ∷ [])

  -- the smoothed numbers as they are loaded
  abbrev loaded : List Float
  loaded = take smoothed_width (drop o rs) ++ rs ‼ (o + record_z) ∷ []

  ten_long : length (take smoothed_width (drop o rs)) ≡ smoothed_width
  ten_long = length-take-le smoothed_width (drop o rs) (simp length-drop (omega arith))

  pub record_loaded : record_of loaded (take states_width (drop (o + smoothed_width) rs)) (rs ‼ (o + PEAK)) ≡ piece record_width s rs
  unfolding piece
  record_loaded =
      (λ i. take_at (take smoothed_width (drop o rs)) (rs ‼ (o + record_z) ∷ []) smoothed_width ten_long i ++ take states_width (drop (o + smoothed_width) rs)
      ++ rs ‼ (o + PEAK) ∷ get_or_at (take smoothed_width (drop o rs)) (rs ‼ (o + record_z)) [] nan smoothed_width ten_long i ∷ [])
      ∙ (λ i. loads smoothed_width states_width o rs i ++ sym (get_or-drop o rs PEAK nan) i ∷ sym (get_or-drop o rs record_z nan) i ∷ [])
      ∙ sym (two (take PEAK (drop o rs)) (drop o rs ‼ PEAK) (drop o rs ‼ record_z))
      ∙ ap (λ (l : List Float). l ++ drop o rs ‼ record_z ∷ []) (sym (take-suc (drop o rs) PEAK nan (simp length-drop (omega arith))))
      ∙ sym (take-suc (drop o rs) record_z nan (simp length-drop (omega arith)))

  -- the parts that are stored: of the smoothed numbers ps the first ten and the last
  module _ (ps q : List Float) (v : Float) (hp : length ps ≡ targets_width) (hq : length q ≡ states_width) where
    abbrev p : List Float
    p = take smoothed_width ps

    abbrev z : Float
    z = ps ‼ MORPH_Z

    p_long : length p ≡ smoothed_width
    p_long = length-take-le smoothed_width ps (omega arith)

    both : length (p ++ q) ≡ PEAK
    both = length-append p q ∙ omega (arith, p_long)

    abbrev r : List Float
    r = record_of ps q v

    long : length r ≡ record_width
    long = simp length-append (omega (arith, p_long, hq))

    peak_at : r ‼ PEAK ≡ v
    peak_at = get_or_at (p ++ q) v (z ∷ []) nan PEAK both

    z_at : r ‼ record_z ≡ z
    z_at =
        ap (λ (l : List Float). l ‼ record_z) (sym (two (p ++ q) v z))
        ∙ get_or_at (p ++ q ++ v ∷ []) z [] nan record_z (simp length-append (omega (arith, p_long, hq)))

    -- ten numbers copied from the eleven
    copied : paste rs o ps smoothed_width ≡ paste rs o p smoothed_width
    copied = ap (λ (l : List Float). take o rs ++ l ++ drop (o + smoothed_width) rs) (sym (take_all smoothed_width p (omega (arith, p_long))))

    pub record_stored : set (set (paste (paste rs o ps smoothed_width) (o + smoothed_width) q states_width) (o + PEAK) v) (o + record_z) z
        ≡ patch record_width s r rs
    unfolding patch
    record_stored =
        ap (λ (l : List Float). set (set l (o + PEAK) v) (o + record_z) z)
        (ap (λ (l : List Float). paste l (o + smoothed_width) q states_width) copied
        ∙ stores smoothed_width states_width o p q rs p_long hq (omega arith)
        ∙ ap (λ (l : List Float). take o rs ++ l ++ drop (o + PEAK) rs)
        (take_all PEAK (p ++ q) (omega (arith, both)) ∙ sym (take_at (p ++ q) (v ∷ z ∷ []) PEAK both)))
        ∙ (λ i. set (set (paste rs o r PEAK) (o + PEAK) (sym peak_at i)) (o + record_z) (sym z_at i))
        ∙ ap (λ (l : List Float). set l (o + record_z) (r ‼ record_z)) (paste-suc rs o r PEAK nan (omega arith) (omega (arith, long)))
        ∙ paste-suc rs o r record_z nan (omega arith) (omega (arith, long))
        ∙ ap (λ (l : List Float). take o rs ++ l ++ drop (o + record_width) rs) (take_all record_width r (omega (arith, long)))
