-- Chains: what the last end before a place is, and one end more.
use Rattle.std.proofs.Common.{◌≡◌, ℕ, zero, suc, ◌+◌, ◌<◌, ◌≤◌, Bool, true, false, not, ◌&&◌, eqb, ◌≢◌, List, Option, Some, None, length, get_or, set, sym, refl, ap, ◌∙◌, subst, ⊎_elim, add-one, arith, get_or-set_other, get_or-set_same}
use Rattle.std.proofs.lemmas.Bool.{cases_eq, cases_lt, cond-true, cond-false, eq-eqb, ne_eqb}
use Rattle.survey.specs.declared.leg.Leg.{Leg}
use Rattle.survey.specs.Counting.{every}
use Rattle.survey.specs.Ends.{station, first_at_station}
use Rattle.embedding.specs.Tables.{Holds}
use Rattle.rotation.specs.Chains.{last_end, end_before}

-- the ends below this number are those up to the one that may be given
abbrev pub bound : Option ℕ → ℕ
bound None = 0
bound (Some k) = suc k

abbrev pub none : Option ℕ → Bool
none None = true
none (Some k) = false

module _ (legs : List Leg) where
  here : (k s : ℕ) → station legs k ≡ s → last_end legs (suc k) s ≡ Some k
  here k s e = cond-true _ (Some k) (last_end legs k s) (eq-eqb _ _ e)

  elsewhere : (k s : ℕ) → (station legs k ≡ s → ⊥) → last_end legs (suc k) s ≡ last_end legs k s
  elsewhere k s e = cond-false _ (Some k) (last_end legs k s) (ne_eqb _ _ e)

  pub last_le : (k s : ℕ) → bound (last_end legs k s) ≤ k
  last_le zero s = omega arith
  last_le (suc k) s = let h = last_le k s in ⊎_elim (λ (e : station legs k ≡ s). let q = ap bound (here k s e) in omega arith) (λ (e : station legs k ≢ s). let q = ap bound (elsewhere k s e) in omega arith) (cases_eq (station legs k) s)

  -- the last end is at the station
  pub last_at : (k s i : ℕ) → bound (last_end legs k s) ≡ suc i → station legs i ≡ s
  last_at zero s i l = absurd (omega arith)
  last_at (suc k) s i l = ⊎_elim
      (λ (e : station legs k ≡ s). let q = ap bound (here k s e) in let t : i ≡ k = omega arith in ap (station legs) t ∙ e)
      (λ (e : station legs k ≢ s). let q = ap bound (elsewhere k s e) in last_at k s i (omega arith))
      (cases_eq (station legs k) s)

  -- no end after it is
  pub last_none : (k s i : ℕ) → bound (last_end legs k s) ≤ i → i < k → station legs i ≡ s → ⊥
  last_none zero s i a b c = omega arith
  last_none (suc k) s i a b c = ⊎_elim
      (λ (e : station legs k ≡ s). let q = ap bound (here k s e) in omega arith)
      (λ (e : station legs k ≢ s). let q = ap bound (elsewhere k s e) in ⊎_elim (λ (m : i < k). last_none k s i (omega arith) m c) (λ (m : k ≤ i). let t : i ≡ k = omega arith in e (ap (station legs) (sym t) ∙ c)) (cases_lt i k))
      (cases_eq (station legs k) s)

  -- one end more
  pub lasts_more : (e m : ℕ) (xs : List (Option ℕ)) → station legs e < length xs → Holds None (last_end legs e) xs m → Holds None (last_end legs (e + 1)) (set xs (station legs e) (Some e)) m
  lasts_more e m xs l h s ls = ⊎_elim
      (λ (q : station legs e ≡ s). subst (λ (x : ℕ). get_or (set xs (station legs e) (Some e)) x None ≡ Some e) q (get_or-set_same xs (station legs e) (Some e) None l) ∙ sym (here e s q) ∙ ap (λ x. last_end legs x s) (sym (add-one e)))
      (λ (ne : station legs e ≢ s). let far : s ≢ station legs e = λ q. ne (sym q) in rw get_or-set_other (h s ls ∙ sym (elsewhere e s ne) ∙ ap (λ x. last_end legs x s) (sym (add-one e))))
      (cases_eq (station legs e) s)

  -- no end before this one is at its station just where the chain ends
  none_before : (s k : ℕ) → every (λ j. not (eqb (station legs j) s)) k ≡ none (last_end legs k s)
  none_before s zero = refl
  none_before s (suc k) = ⊎_elim
      (λ (e : station legs k ≡ s). ap (λ (b : Bool). not b && every (λ j. not (eqb (station legs j) s)) k) (eq-eqb _ _ e) ∙ sym (ap none (here k s e)))
      (λ (e : station legs k ≢ s). ap (λ (b : Bool). not b && every (λ j. not (eqb (station legs j) s)) k) (ne_eqb _ _ e) ∙ none_before s k ∙ ap none (sym (elsewhere k s e)))
      (cases_eq (station legs k) s)

  pub first_is : (e : ℕ) → first_at_station legs e ≡ none (end_before legs e)
  first_is e = none_before (station legs e) e
