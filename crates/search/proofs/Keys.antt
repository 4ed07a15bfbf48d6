-- The side that leads to a node by an end, found among those that can ever be open.
use Rattle.std.proofs.Common.{◌≡◌, ℕ, zero, suc, ◌+◌, ◌<◌, Bool, true, cond, ◌&&◌, eqb, ltb, List, length, sym, refl, subst, inl, inr, ⊎_elim, arith}
use Rattle.std.proofs.lemmas.Bool.{cases_Bool, cases_lt, cond-true, cond-false, both_ways, and_parts, and_from, eq-eqb, eqb-true, lt-ltb, ltb-true}
use Rattle.search.specs.declared.Side.{Side}
use Rattle.search.specs.Networks.{twin}
use Rattle.search.specs.Sides.{side_at, CanOpen, Keyed}

-- the last number below k that meets a test, 0 where there is none
find : (ℕ → Bool) → ℕ → ℕ
find p zero = 0
find p (suc k) = cond (p k) k (find p k)

record Found (p : ℕ → Bool) (k r : ℕ) : Type 0 where
  meets : p r ≡ true
  below : r < k

found : (p : ℕ → Bool) (s : ℕ) → p s ≡ true → (k : ℕ) → s < k → Found p k (find p k)
unfolding find
found p s h zero lt = absurd (omega arith)
found p s h (suc k) lt =
    ⊎_elim
    (λ e. subst (Found p (suc k)) (sym (cond-true _ k (find p k) e)) (record { meets = e; below = omega arith }))
    (λ e. subst (Found p (suc k)) (sym (cond-false _ k (find p k) e))
    (let f = found p s h k (⊎_elim (λ l. l) (λ g. absurd (let q : s ≡ k = omega arith in both_ways _ e (subst (λ z. p z ≡ true) q h))) (cases_lt s k)) in record { meets = f.meets; below = let b = f.below in omega arith }))
    (cases_Bool (p k))

-- side s can be open and leads to v by end e
leads : List Side → ℕ → ℕ → ℕ → Bool
leads sides v e s = ltb 0 ((side_at sides s).room + (side_at sides (twin s)).room) && (eqb (side_at sides s).node v && eqb (side_at sides s).end e)

pub key : List Side → ℕ → ℕ → ℕ
key sides v e = find (leads sides v e) (length sides)

pub key_is : (sides : List Side) → Keyed sides → (s : ℕ) → s < length sides → CanOpen sides s → key sides (side_at sides s).node (side_at sides s).end ≡ s
unfolding key leads
key_is sides keyed s lt free =
    let v = (side_at sides s).node in
    let e = (side_at sides s).end in
    let k : ℕ = find (leads sides v e) (length sides) in
    let here : leads sides v e s ≡ true = and_from _ _ (lt-ltb 0 _ (⊎_elim (λ h. omega arith) (λ h. omega arith) free)) (and_from _ _ (eq-eqb v v refl) (eq-eqb e e refl)) in
    let f = found (leads sides v e) s here (length sides) lt in
    let a = and_parts _ _ f.meets in
    let b = and_parts _ _ a.1 in
    let some : 0 < (side_at sides k).room + (side_at sides (twin k)).room = ltb-true _ _ a.0 in
    keyed k s f.below lt (⊎_elim (λ h. inl h) (λ h. inr (omega arith)) (cases_lt 0 (side_at sides k).room)) free (eqb-true _ _ b.0) (eqb-true _ _ b.1)
