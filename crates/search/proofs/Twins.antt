-- The twin of a side: the other of its pair.
use Rattle.std.proofs.Common.{◌≡◌, ℕ, ◌+◌, ◌-◌, ◌%◌, ◌<◌, ◌⊎◌, inl, inr, ⊎_elim, arith}
use Rattle.std.proofs.lemmas.Bool.{cases_eq, cond-true, cond-false, eq-eqb, ne_eqb}
use Rattle.search.specs.Networks.{twin}

pub twin_even : (s : ℕ) → s % 2 ≡ 0 → twin s ≡ s + 1
unfolding twin
twin_even s h = cond-true _ _ _ (eq-eqb (s % 2) 0 h)

pub twin_odd : (s : ℕ) → (s % 2 ≡ 0 → ⊥) → twin s ≡ s - 1
unfolding twin
twin_odd s h = cond-false _ _ _ (ne_eqb (s % 2) 0 h)

-- what omega needs of a twin
pub twin_is : (s : ℕ) → ((s % 2 ≡ 0) × (twin s ≡ s + 1)) ⊎ ((s % 2 ≡ 1) × (twin s + 1 ≡ s))
twin_is s = ⊎_elim (λ h. inl (h, twin_even s h)) (λ h. let e = twin_odd s h in inr (omega arith, omega arith)) (cases_eq (s % 2) 0)

pub twin_twin : (s : ℕ) → twin (twin s) ≡ s
twin_twin s =
    let a = twin_is s in let b = twin_is (twin s) in
    ⊎_elim (λ h. ⊎_elim (λ k. absurd (omega arith)) (λ k. omega arith) b) (λ h. ⊎_elim (λ k. omega arith) (λ k. absurd (omega arith)) b) a

pub twin_apart : (s : ℕ) → twin s ≡ s → ⊥
twin_apart s e = ⊎_elim (λ h. omega arith) (λ h. omega arith) (twin_is s)

pub twin_inside : (n s : ℕ) → n % 2 ≡ 0 → s < n → twin s < n
twin_inside n s even lt = ⊎_elim (λ h. omega arith) (λ h. omega arith) (twin_is s)
