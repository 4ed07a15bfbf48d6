-- Distinct numbers below n are at most n.
use Rattle.std.proofs.Common.{◌≡◌, ℕ, zero, suc, ◌<◌, ◌≤◌, Bool, true, false, eqb, List, [], ◌∷◌, length, refl, subst, arith}
use Rattle.std.specs.List.{AllByRecursion as All}
use Rattle.std.proofs.lemmas.Bool.{eqb-true, eqb-false}

abbrev pub Lacks : List ℕ → ℕ → Type 0
Lacks xs x = All (λ y. y ≡ x → ⊥) xs

abbrev pub Distinct : List ℕ → Type 0
Distinct [] = Unit {0}
Distinct (x ∷ xs) = Lacks xs x × Distinct xs

abbrev put : Bool → ℕ → List ℕ → List ℕ
put true x xs = xs
put false x xs = x ∷ xs

abbrev without : ℕ → List ℕ → List ℕ
without m [] = []
without m (x ∷ xs) = put (eqb x m) x (without m xs)

lacked : (m : ℕ) (xs : List ℕ) → Lacks xs m → length xs ≤ length (without m xs)
lacked m [] h = omega arith
lacked m (x ∷ xs) h = go (eqb x m) refl (lacked m xs h.1)
  where
    go : (b : Bool) → eqb x m ≡ b → length xs ≤ length (without m xs) → suc (length xs) ≤ length (put b x (without m xs))
    go true e k = absurd (h.0 (eqb-true x m e))
    go false e k = omega arith

shorter : (m : ℕ) (xs : List ℕ) → Distinct xs → length xs ≤ suc (length (without m xs))
shorter m [] h = omega arith
shorter m (x ∷ xs) h = go (eqb x m) refl (shorter m xs h.1)
  where
    go : (b : Bool) → eqb x m ≡ b → length xs ≤ suc (length (without m xs)) → suc (length xs) ≤ suc (length (put b x (without m xs)))
    go true e k = let l = lacked m xs (subst (Lacks xs) (eqb-true x m e) h.0) in omega arith
    go false e k = omega arith

without_all : (P : ℕ → Type 0) (m : ℕ) (xs : List ℕ) → All P xs → All P (without m xs)
without_all P m [] h = tt
without_all P m (x ∷ xs) h = go (eqb x m) (without_all P m xs h.1)
  where
    go : (b : Bool) → All P (without m xs) → All P (put b x (without m xs))
    go true k = k
    go false k = (h.0, k)

without_distinct : (m : ℕ) (xs : List ℕ) → Distinct xs → Distinct (without m xs)
without_distinct m [] h = tt
without_distinct m (x ∷ xs) h = go (eqb x m) (without_distinct m xs h.1)
  where
    go : (b : Bool) → Distinct (without m xs) → Distinct (put b x (without m xs))
    go true k = k
    go false k = (without_all (λ y. y ≡ x → ⊥) m xs h.0, k)

lower : (m : ℕ) (xs : List ℕ) → All (λ y. y < suc m) xs → All (λ y. y < m) (without m xs)
lower m [] h = tt
lower m (x ∷ xs) h = go (eqb x m) refl (lower m xs h.1)
  where
    go : (b : Bool) → eqb x m ≡ b → All (λ y. y < m) (without m xs) → All (λ y. y < m) (put b x (without m xs))
    go true e k = k
    go false e k = (let ne : x ≡ m → ⊥ = eqb-false x m e in let lt = h.0 in omega arith, k)

pub pigeon : (n : ℕ) (xs : List ℕ) → Distinct xs → All (λ y. y < n) xs → length xs ≤ n
pigeon zero [] d h = omega arith
pigeon zero (x ∷ xs) d h = absurd (let lt = h.0 in omega arith)
pigeon (suc n) xs d h = let k = pigeon n (without n xs) (without_distinct n xs d) (lower n xs h) in let l = shorter n xs d in omega arith
