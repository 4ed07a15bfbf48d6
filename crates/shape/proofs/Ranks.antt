-- Counts as ranks, and what a search finds, over plain numbers.
use Rattle.std.proofs.Common.{◌≡◌, ℕ, zero, suc, ◌+◌, ◌<◌, ◌≤◌, Bool, true, false, ◌&&◌, eqb, Decides, sym, refl, ◌∙◌, subst, ⊎_elim, arith}
use Rattle.std.proofs.lemmas.Bool.{cases_Bool, cases_lt, cases_order, cond-true, cond-false, eq-eqb, eqb-true, and_from, and_parts, both_ways}
use Rattle.std.proofs.lemmas.Bool.Decides.{Decides-below_and}
use Rattle.survey.specs.Counting.{count, every}
use Rattle.embedding.specs.Walks.{seek}

pub every_is : (p : ℕ → Bool) (k : ℕ) → Decides (every p k) ((j : ℕ) → j < k → p j ≡ true)
every_is p k = Decides-below_and p (λ j. p j ≡ true) (every p) (λ j. (λ h. h, λ h. h)) refl (λ _. refl) k

module _ (p : ℕ → Bool) where
  count_pass : (k : ℕ) → p k ≡ true → count p (suc k) ≡ suc (count p k)
  count_pass k t = let a = cond-true {A = ℕ} (p k) 1 0 t in omega arith

  count_fail : (k : ℕ) → p k ≡ false → count p (suc k) ≡ count p k
  count_fail k t = let a = cond-false {A = ℕ} (p k) 1 0 t in omega arith

  count_more : (k : ℕ) → count p k ≤ count p (suc k)
  count_more k = omega arith

  count_grows : (a b : ℕ) → a ≤ b → count p a ≤ count p b
  count_grows a zero l = let e : a ≡ 0 = omega arith in subst (λ (x : ℕ). count p x ≤ 0) (sym e) (omega arith)
  count_grows a (suc b) l = ⊎_elim
      (λ (m : a < suc b). let r = count_grows a b (omega arith) in let s = count_more b in omega arith)
      (λ (m : suc b ≤ a). let e : a ≡ suc b = omega arith in subst (λ (x : ℕ). count p x ≤ count p (suc b)) (sym e) (omega arith))
      (cases_lt a (suc b))

  -- a number that passes has a lower rank than any above it
  pub rank_lt : (a b : ℕ) → p a ≡ true → a < b → count p a < count p b
  rank_lt a b t l = let r = count_grows (suc a) b (omega arith) in let s = count_pass a t in omega arith

  -- of the numbers that pass, one has each rank
  pub rank_one : (a b : ℕ) → p a ≡ true → p b ≡ true → count p a ≡ count p b → a ≡ b
  rank_one a b s t e = ⊎_elim
      (λ (h : a ≡ b). h)
      (⊎_elim (λ (h : a < b). let r = rank_lt a b s h in absurd (omega arith)) (λ (h : b < a). let r = rank_lt b a t h in absurd (omega arith)))
      (cases_order a b)

  -- the number of rank v
  pub ranked : (k v : ℕ) → v < count p k → (e : ℕ) × (e < k) × (p e ≡ true) × (count p e ≡ v)
  ranked zero v l = absurd (omega arith)
  ranked (suc k) v l = ⊎_elim
      (λ (m : v < count p k). let w = ranked k v m in (w.0, (let b = w.1 in omega arith), w.2, w.3))
      (λ (m : count p k ≤ v). ⊎_elim
      (λ (t : p k ≡ true). (k, omega arith, t, (let s = count_pass k t in omega arith)))
      (λ (t : p k ≡ false). absurd (let s = count_fail k t in omega arith))
      (cases_Bool (p k)))
      (cases_lt v (count p k))

-- what a search finds that has something to find
pub record Sought (p : ℕ → Bool) (i j r : ℕ) : Type 0 where
  pub within : r ≤ j
  pub passes : p r ≡ true
  pub first : (k : ℕ) → i ≤ k → k < r → p k ≡ false

pub sought : (p : ℕ → Bool) (k i j : ℕ) → i ≤ j → j < i + k → p j ≡ true → Sought p i j (seek p i k)
sought p zero i j a b t = absurd (omega arith)
sought p (suc k) i j a b t = ⊎_elim
    (λ (h : p i ≡ true). subst (Sought p i j) (sym (cond-true (p i) i (seek p (suc i) k) h)) (record { within = a; passes = h; first = λ k l m. absurd (omega arith) }))
    (λ (h : p i ≡ false).
    let ne : i ≡ j → ⊥ = λ e. both_ways (p j) (subst (λ (x : ℕ). p x ≡ false) e h) t in
    let r = sought p k (suc i) j (omega arith) (omega arith) t in
    subst (Sought p i j) (sym (cond-false (p i) i (seek p (suc i) k) h)) (record {
      within = r.within;
      passes = r.passes;
      first = λ x l m. ⊎_elim
          (λ (e : i ≡ x). subst (λ (y : ℕ). p y ≡ false) e h)
          (⊎_elim (λ (e : i < x). r.first x (omega arith) m) (λ (e : x < i). absurd (omega arith)))
          (cases_order i x);
    }))
    (cases_Bool (p i))

-- the search by rank finds the number of that rank
pub seek_rank : (p : ℕ → Bool) (n e v : ℕ) → e < n → p e ≡ true → count p e ≡ v → seek (λ k. eqb (count p k) v && p k) 0 n ≡ e
seek_rank p n e v l t s =
    let q : ℕ → Bool = λ k. eqb (count p k) v && p k in
    let r = sought q n 0 e (omega arith) (omega arith) (and_from _ _ (eq-eqb _ _ s) t) in
    let w = and_parts (eqb (count p (seek q 0 n)) v) (p (seek q 0 n)) r.passes in
    rank_one p (seek q 0 n) e w.1 t (eqb-true _ _ w.0 ∙ sym s)
