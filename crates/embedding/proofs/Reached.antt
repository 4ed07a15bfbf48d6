-- The bounded closure finds just the legs that are joined to leg 0.
use Rattle.std.proofs.Common.{◌≡◌, ℕ, zero, suc, ◌+◌, ◌-◌, ◌<◌, ◌≤◌, Bool, true, false, not, ◌&&◌, ◌⊎◌, List, length, Decides, sym, refl, ap, subst, inl, inr, ⊎_elim, arith}
use Rattle.std.proofs.lemmas.Bool.{cases_Bool, cases_lt, cond-true, cond-false, eqb-true, both_ways, and_parts, and_from, or_cases, or_left, or_right, not-true}
use Rattle.std.proofs.lemmas.Bool.Decides.{Decides-below_or}
use Rattle.survey.specs.declared.leg.Leg.{Leg}
use Rattle.survey.specs.Counting.{count}
use Rattle.embedding.specs.Walks.{some}
use Rattle.embedding.specs.Joins.{touch_at, Joined, reached, joined, DecidesJoined}
use Rattle.embedding.specs.Joins.Joined.{first, along}

some_is : (p : ℕ → Bool) (k : ℕ) → Decides (some p k) ((j : ℕ) × (j < k) × (p j ≡ true))
some_is p k = Decides-below_or p (λ j. p j ≡ true) (some p) (λ j. (λ h. h, λ h. h)) refl (λ _. refl) k

-- counts of tests, one of which passes less

pub count_le : (p q : ℕ → Bool) → ((i : ℕ) → p i ≡ true → q i ≡ true) → (k : ℕ) → count p k ≤ count q k
count_le p q h zero = omega arith
count_le p q h (suc k) =
    let r = count_le p q h k in
    ⊎_elim
    (λ (t : p k ≡ true). let a = cond-true {A = ℕ} (p k) 1 0 t in let b = cond-true {A = ℕ} (q k) 1 0 (h k t) in omega arith)
    (λ (t : p k ≡ false). let a = cond-false {A = ℕ} (p k) 1 0 t in omega arith)
    (cases_Bool (p k))

pub count_lt : (p q : ℕ → Bool) → ((i : ℕ) → p i ≡ true → q i ≡ true) → (i : ℕ) → p i ≡ false → q i ≡ true → (k : ℕ) → i < k → count p k < count q k
count_lt p q h i f t zero l = absurd (omega arith)
count_lt p q h i f t (suc k) l = ⊎_elim
    (λ (m : i < k).
    let r = count_lt p q h i f t k m in
    ⊎_elim
    (λ (s : p k ≡ true). let a = cond-true {A = ℕ} (p k) 1 0 s in let b = cond-true {A = ℕ} (q k) 1 0 (h k s) in omega arith)
    (λ (s : p k ≡ false). let a = cond-false {A = ℕ} (p k) 1 0 s in omega arith)
    (cases_Bool (p k)))
    (λ (m : k ≤ i).
    let s : i ≡ k = omega arith in
    let r = count_le p q h k in
    let a = cond-false {A = ℕ} (p k) 1 0 (subst (λ (x : ℕ). p x ≡ false) s f) in
    let b = cond-true {A = ℕ} (q k) 1 0 (subst (λ (x : ℕ). q x ≡ true) s t) in
    omega arith)
    (cases_lt i k)

pub count_bound : (p : ℕ → Bool) (k : ℕ) → count p k ≤ k
count_bound p zero = omega arith
count_bound p (suc k) = let r = count_bound p k in ⊎_elim
    (λ (t : p k ≡ true). let a = cond-true {A = ℕ} (p k) 1 0 t in omega arith)
    (λ (t : p k ≡ false). let a = cond-false {A = ℕ} (p k) 1 0 t in omega arith)
    (cases_Bool (p k))

module _ (legs : List Leg) where
  sound : (k i : ℕ) → i < length legs → reached legs k i ≡ true → Joined legs i
  sound zero i l h = subst (Joined legs) (sym (eqb-true i 0 h)) first
  sound (suc k) i l h = ⊎_elim
      (λ (a : reached legs k i ≡ true). sound k i l a)
      (λ (a : some (λ j. reached legs k j && touch_at legs j i) (length legs) ≡ true).
      let w = (some_is (λ j. reached legs k j && touch_at legs j i) (length legs)).0 a in
      let b = and_parts (reached legs k w.0) (touch_at legs w.0 i) w.2 in
      along w.0 i (sound k w.0 w.1 b.0) b.1 l)
      (or_cases (reached legs k i) _ h)

  -- more chains reach more
  more : (k i : ℕ) → reached legs k i ≡ true → reached legs (suc k) i ≡ true
  more k i h = or_left (reached legs k i) _ h

  much_more : (d k i : ℕ) → reached legs k i ≡ true → reached legs (d + k) i ≡ true
  much_more zero k i h = let e : k ≡ 0 + k = omega arith in subst (λ (m : ℕ). reached legs m i ≡ true) e h
  much_more (suc d) k i h = let e : suc (d + k) ≡ suc d + k = omega arith in subst (λ (m : ℕ). reached legs m i ≡ true) e (more (d + k) i (much_more d k i h))

  -- chains of k legs reach all that longer ones do
  Settled : ℕ → Type 0
  Settled k = (i : ℕ) → i < length legs → reached legs (suc k) i ≡ true → reached legs k i ≡ true

  settles : (k : ℕ) → Settled k ⊎ (count (reached legs k) (length legs) < count (reached legs (suc k)) (length legs))
  unfolding Settled
  settles k =
      let new : ℕ → Bool = λ i. reached legs (suc k) i && not (reached legs k i) in
      ⊎_elim
      (λ (a : some new (length legs) ≡ true).
      let w = (some_is new (length legs)).0 a in
      let b = and_parts (reached legs (suc k) w.0) (not (reached legs k w.0)) w.2 in
      inr (count_lt (reached legs k) (reached legs (suc k)) (more k) w.0 (not-true _ b.1) b.0 (length legs) w.1))
      (λ (a : some new (length legs) ≡ false). inl (λ i l h. ⊎_elim
      (λ (t : reached legs k i ≡ true). t)
      (λ (t : reached legs k i ≡ false). absurd (both_ways _ a ((some_is new (length legs)).1 (i, l, and_from _ _ h (ap not t)))))
      (cases_Bool (reached legs k i))))
      (cases_Bool (some new (length legs)))

  -- before k rounds have passed nothing new was reached, or k legs were
  grows : (k : ℕ) → ((m : ℕ) × (m < k) × Settled m) ⊎ (k ≤ count (reached legs k) (length legs))
  grows zero = inr (omega arith)
  grows (suc k) = ⊎_elim
      (λ (w : (m : ℕ) × (m < k) × Settled m). inl (w.0, (let l = w.1 in omega arith), w.2))
      (λ (l : k ≤ count (reached legs k) (length legs)). ⊎_elim
      (λ (s : Settled k). inl (k, omega arith, s))
      (λ (g : count (reached legs k) (length legs) < count (reached legs (suc k)) (length legs)). inr (omega arith))
      (settles k))
      (grows k)

  settled : (m : ℕ) × (m ≤ length legs) × Settled m
  settled = ⊎_elim
      (λ (w : (m : ℕ) × (m < suc (length legs)) × Settled m). (w.0, (let l = w.1 in omega arith), w.2))
      (λ (l : suc (length legs) ≤ count (reached legs (suc (length legs))) (length legs)). absurd (let b = count_bound (reached legs (suc (length legs))) (length legs) in omega arith))
      (grows (suc (length legs)))

  pub joined_lt : {i : ℕ} → 0 < length legs → Joined legs i → i < length legs
  joined_lt p first = p
  joined_lt p (along i j c t l) = l

  complete : (m : ℕ) → Settled m → 0 < length legs → {i : ℕ} → Joined legs i → reached legs m i ≡ true
  unfolding Settled
  complete m s p first = let h = much_more m 0 0 refl in let e : m + 0 ≡ m = omega arith in subst (λ (x : ℕ). reached legs x 0 ≡ true) e h
  complete m s p (along i j c t l) =
      let r = complete m s p c in
      s j l (or_right (reached legs m j) _ ((some_is (λ i. reached legs m i && touch_at legs i j) (length legs)).1 (i, joined_lt p c, and_from _ _ r t)))

  pub decides_joined : DecidesJoined legs
  unfolding joined
  decides_joined i l =
      let w = settled in
      let b = w.1 in (
        sound (length legs) i l,
        λ c. let r = complete w.0 w.2 (omega arith) c in
            let d = much_more (length legs - w.0) w.0 i r in
            let e : (length legs - w.0) + w.0 ≡ length legs = omega arith in
            subst (λ (x : ℕ). reached legs x i ≡ true) e d,
      )
