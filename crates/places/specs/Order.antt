-- For the proofs: nothing here must be believed.
-- The order of the things does not matter. `B b` is thing b and `number` reads its number. Assumes nothing.
use Rattle.std.specs.Prelude.{◌≡◌, ℕ, ◌<◌}
use Rattle.std.proofs.Common.{sym, ap, ◌∙◌, subst}
use Rattle.places.specs.Places.{exactly, place_of}
use Rattle.places.specs.Once.{Placed, exactly_placed, placed_exactly, placed_by, alike}

-- B's N things as C has them: C b is B (to b), and back
pub record Rearranged {ℓ} {X : Type ℓ} (B C : ℕ → X) (N : ℕ) : Type ℓ where
  pub to : ℕ → ℕ
  pub fro : ℕ → ℕ
  pub to_below : (b : ℕ) → b < N → to b < N
  pub fro_below : (b : ℕ) → b < N → fro b < N
  pub to_fro : (b : ℕ) → b < N → to (fro b) ≡ b
  pub fro_to : (b : ℕ) → b < N → fro (to b) ≡ b
  pub same : (b : ℕ) → b < N → C b ≡ B (to b)

-- the other way round
pub turned {ℓ} : {X : Type ℓ} (B C : ℕ → X) (N : ℕ) → Rearranged B C N → Rearranged C B N
turned B C N r = record {
  to = r.fro;
  fro = r.to;
  to_below = r.fro_below;
  fro_below = r.to_below;
  to_fro = r.fro_to;
  fro_to = r.to_fro;
  same = λ b l. ap B (sym (r.to_fro b l)) ∙ sym (r.same (r.fro b) (r.fro_below b l));
}

module _ {ℓ} {X : Type ℓ} (number : X → ℕ) where
  pub placed_rearranged : (B C : ℕ → X) (N n : ℕ) → Rearranged B C N → Placed (λ b. number (B b)) N n → Placed (λ b. number (C b)) N n
  placed_rearranged B C N n r p =
      let f : ℕ → ℕ = λ b. number (B b) in
      let e : (b : ℕ) → b < N → number (C b) ≡ f (r.to b) = λ b l. ap number (r.same b l) in
      placed_by (λ b. number (C b)) N n (λ k. r.fro (place_of f k N))
      (λ b l. subst (λ (i : ℕ). i < n) (sym (e b l)) (p.known (r.to b) (r.to_below b l)))
      (λ k l. r.fro_below (place_of f k N) (p.at k l))
      (λ k l. e (r.fro (place_of f k N)) (r.fro_below (place_of f k N) (p.at k l)) ∙ ap f (r.to_fro (place_of f k N) (p.at k l)) ∙ p.stands k l)
      (λ b c l m d.
      sym (r.fro_to b l)
      ∙ ap r.fro (p.sole (r.to b) (r.to c) (r.to_below b l) (r.to_below c m) (sym (e b l) ∙ d ∙ e c m))
      ∙ r.fro_to c m)

  -- the reader's test does not see the order
  pub exactly_rearranged : (B C : ℕ → X) (N n : ℕ) → Rearranged B C N → exactly (λ b. number (C b)) N n ≡ exactly (λ b. number (B b)) N n
  exactly_rearranged B C N n r =
      alike (exactly (λ b. number (C b)) N n) (exactly (λ b. number (B b)) N n)
      (λ e. placed_exactly (λ b. number (B b)) N n (placed_rearranged C B N n (turned B C N r) (exactly_placed (λ b. number (C b)) N n e)))
      (λ e. placed_exactly (λ b. number (C b)) N n (placed_rearranged B C N n r (exactly_placed (λ b. number (B b)) N n e)))

  -- things that stand in order
  pub placed_in_order : (B : ℕ → X) (N : ℕ) → ((b : ℕ) → b < N → number (B b) ≡ b) → Placed (λ b. number (B b)) N N
  placed_in_order B N h =
      placed_by (λ b. number (B b)) N N (λ k. k) (λ b l. subst (λ (i : ℕ). i < N) (sym (h b l)) l) (λ k l. l) h (λ b c l m d. sym (h b l)
      ∙ d ∙ h c m)
