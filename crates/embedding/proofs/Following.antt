-- The end that follows another in its rotation, and that there is only one such.
use Rattle.std.proofs.Common.{◌≡◌, ℕ, zero, suc, ◌<◌, ◌≤◌, Bool, true, false, cond, ◌&&◌, ltb, ◌⊎◌, List, sym, refl, ap, ◌∙◌, subst, inl, inr, ⊎_elim, arith}
use Rattle.std.proofs.lemmas.Bool.{ltb-true, ltb-false, eqb-true, eq-eqb, both_ways, and_parts, and_cases, cases_lt}
use Rattle.survey.specs.declared.leg.Leg.{Leg}
use Rattle.survey.specs.Ends.{ends, station, bearing, same_station}
use Rattle.embedding.specs.Walks.{cheapest}
use Rattle.embedding.specs.Rotation.{gap, next}
use Rattle.embedding.specs.Laws.{Distinct, Follows}

-- what `cheapest` finds
record Found (p : ℕ → Bool) (cost : ℕ → ℕ) (b k r : ℕ) : Type 0 where
  passes : p r ≡ true
  within : (r < k) ⊎ (r ≡ b)
  least : (i : ℕ) → i < k → p i ≡ true → cost r ≤ cost i

found_more : (p : ℕ → Bool) (cost : ℕ → ℕ) (b k r : ℕ) → Found p cost b k r → (t : Bool) → (p k && ltb (cost k) (cost r)) ≡ t → Found p cost b (suc k) (cond t k r)
found_more p cost b k r was true e =
    let both = and_parts (p k) (ltb (cost k) (cost r)) e in
    let lt = ltb-true _ _ both.1 in
    record {
      passes = both.0;
      within = inl (omega arith);
      least = λ i l q. ⊎_elim (λ (m : i < k). let h = was.least i m q in omega arith) (λ (m : k ≤ i). let same : i ≡ k = omega arith in subst (λ (x : ℕ). cost k ≤ cost x) (sym same) (omega arith)) (cases_lt i k);
    }
found_more p cost b k r was false e =
    record {
      passes = was.passes;
      within = ⊎_elim (λ (l : r < k). inl (omega arith)) (λ (s : r ≡ b). inr s) was.within;
      least = λ i l q. ⊎_elim (λ (m : i < k). was.least i m q) (λ (m : k ≤ i).
          let same : i ≡ k = omega arith in
          let pk : p k ≡ true = subst (λ (x : ℕ). p x ≡ true) same q in
          ⊎_elim (λ (n : p k ≡ false). absurd (both_ways (p k) n pk)) (λ (n : ltb (cost k) (cost r) ≡ false).
          subst (λ (x : ℕ). cost r ≤ cost x) (sym same) (ltb-false _ _ n)) (and_cases (p k) (ltb (cost k) (cost r)) e)) (cases_lt i k);
    }

found : (p : ℕ → Bool) (cost : ℕ → ℕ) (b k : ℕ) → p b ≡ true → Found p cost b k (cheapest p cost b k)
found p cost b zero h = record { passes = h; within = inr refl; least = λ i lt. absurd (omega arith) }
found p cost b (suc k) h = found_more p cost b k (cheapest p cost b k) (found p cost b k h) _ refl

pub next_follows : (legs : List Leg) (e : ℕ) → e < ends legs → Follows legs e (next legs e)
unfolding next
next_follows legs e lt =
    let cost : ℕ → ℕ = λ k. gap (bearing legs e) (bearing legs k) in
    let f = found (same_station legs e) cost e (ends legs) (eq-eqb _ _ refl) in
    record {
      within = ⊎_elim (λ l. l) (λ (s : cheapest (same_station legs e) cost e (ends legs) ≡ e). subst (λ (x : ℕ). x < ends legs) (sym s) lt) f.within;
      stays = eqb-true _ _ f.passes;
      nearest = λ i l s. f.least i l (eq-eqb _ _ s);
    }

-- two bearings whose least gaps lead to one bearing are one
gap_one : (a b c : ℕ) → a < 3600 → b < 3600 → c < 3600 → gap a c ≤ gap a b → gap b c ≤ gap b a → a ≡ b
gap_one a b c ha hb hc p q = omega arith

-- equal gaps from one bearing lead to one bearing
gap_same : (a b c : ℕ) → a < 3600 → b < 3600 → c < 3600 → gap a b ≡ gap a c → b ≡ c
gap_same a b c ha hb hc p = omega arith

module _ (legs : List Leg) (ok : Distinct legs) where
  pub next_one : (d e : ℕ) → d < ends legs → e < ends legs → next legs d ≡ next legs e → d ≡ e
  next_one d e ld le s =
      let nd = next_follows legs d ld in
      let ne = next_follows legs e le in
      let st : station legs d ≡ station legs e = sym nd.stays ∙ ap (station legs) s ∙ ne.stays in
      let c1 = nd.nearest e le (sym st) in
      let c2 = subst (λ (x : ℕ). gap (bearing legs e) (bearing legs x) ≤ gap (bearing legs e) (bearing legs d)) (sym s) (ne.nearest d ld st) in
      ok.apart d e ld le st (gap_one (bearing legs d) (bearing legs e) (bearing legs (next legs d)) (ok.below d) (ok.below e) (ok.below (next legs d)) c1 c2)

  -- what follows e is the next end
  pub follows_one : (e r : ℕ) → e < ends legs → Follows legs e r → r ≡ next legs e
  follows_one e r l f =
      let n = next_follows legs e l in
      let a = f.nearest (next legs e) n.within n.stays in
      let b = n.nearest r f.within f.stays in
      ok.apart r (next legs e) f.within n.within (f.stays ∙ sym n.stays) (gap_same (bearing legs e) (bearing legs r) (bearing legs (next legs e)) (ok.below e) (ok.below r) (ok.below (next legs e)) (omega arith))
