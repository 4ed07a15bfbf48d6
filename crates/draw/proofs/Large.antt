-- One large angle at each source or sink, and none elsewhere: where one is found it is the only one, and where none is, there is no source or sink.
use Rattle.std.proofs.Common.{◌≡◌, ℕ, zero, suc, ◌<◌, ◌≤◌, Bool, true, false, cond, ◌&&◌, List, refl, ◌∙◌, ⊎_elim, arith}
use Rattle.std.proofs.lemmas.Bool.{cases_Bool, cases_order, cond-true, cond-false, cond_both, eq-eqb, eqb-true, and_from, and_parts}
use Rattle.survey.specs.declared.leg.Leg.{Leg}
use Rattle.survey.specs.Counting.{count}
use Rattle.survey.specs.Ends.{ends, station, same_station}
use Rattle.shape.specs.Shapes.{Shape, switch, large_at}
use Rattle.shape.proofs.Ranks.{rank_lt}

-- what is counted is there
count_none : (p : ℕ → Bool) (n : ℕ) → ((k : ℕ) → k < n → p k ≡ true → ⊥) → count p n ≡ 0
count_none p zero h = refl
count_none p (suc n) h = ⊎_elim
    (λ (t : p n ≡ true). absurd (h n (omega arith) t))
    (λ (f : p n ≡ false). let c = cond-false {A = ℕ} (p n) 1 0 f in let i = count_none p n (λ k l. h k (omega arith)) in omega arith)
    (cases_Bool (p n))

module _ (legs : List Leg) (z : Shape) (angles : (e : ℕ) → e < ends legs → large_at legs z e ≡ cond (switch legs e) 1 0) where
  -- a large angle at the station of e
  abbrev test : ℕ → ℕ → Bool
  test e k = same_station legs e k && z.large k

  passes : (e k : ℕ) → station legs k ≡ station legs e → z.large k ≡ true → test e k ≡ true
  passes e k s t = and_from (same_station legs e k) (z.large k) (eq-eqb (station legs k) (station legs e) s) t

  pub at_switch : (e : ℕ) → e < ends legs → z.large e ≡ true → switch legs e ≡ true
  at_switch e l t = ⊎_elim
      (λ (y : switch legs e ≡ true). y)
      (λ (n : switch legs e ≡ false).
      let a = angles e l in
      let b = cond-false {A = ℕ} (switch legs e) 1 0 n in
      let c = rank_lt (test e) e (ends legs) (passes e e refl t) l in
      absurd (omega arith))
      (cases_Bool (switch legs e))

  -- two large angles at one station are one
  twice : (e d k : ℕ) → e < ends legs → d < k → k < ends legs → test e d ≡ true → test e k ≡ true → ⊥
  twice e d k l m n s t =
      let a = angles e l in
      let b = cond_both (switch legs e) 1 0 (λ (x : ℕ). x ≤ 1) (λ _. omega arith) (λ _. omega arith) in
      let c = rank_lt (test e) d k s m in
      let f = rank_lt (test e) k (ends legs) t n in
      omega arith

  pub only_large : (e : ℕ) → e < ends legs → z.large e ≡ true → (k : ℕ) → k < ends legs → station legs k ≡ station legs e → z.large k ≡ true → k ≡ e
  only_large e l t k m s u = ⊎_elim
      (λ (q : k ≡ e). q)
      (⊎_elim
      (λ (b : k < e). absurd (twice e k e l b l (passes e k s u) (passes e e refl t)))
      (λ (b : e < k). absurd (twice e e k l b m (passes e e refl t) (passes e k s u))))
      (cases_order k e)

  pub no_switch : (s : ℕ) → ((k : ℕ) → k < ends legs → station legs k ≡ s → z.large k ≡ true → ⊥) → (e : ℕ) → e < ends legs → station legs e ≡ s → switch legs e ≡ false
  no_switch s h e l q = ⊎_elim
      (λ (y : switch legs e ≡ true).
      let a = angles e l in
      let b = cond-true {A = ℕ} (switch legs e) 1 0 y in
      let c = count_none (test e) (ends legs) (λ k m t. let w = and_parts (same_station legs e k) (z.large k) t in h k m (eqb-true (station legs k) (station legs e) w.0 ∙ q) w.1) in
      absurd (omega arith))
      (λ (n : switch legs e ≡ false). n)
      (cases_Bool (switch legs e))
