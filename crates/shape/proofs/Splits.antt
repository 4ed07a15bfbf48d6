-- Sums cut in two, sums over pairs, and counts as sums.
use Rattle.std.proofs.Common.{◌≡◌, ℕ, zero, suc, ◌+◌, ◌*◌, ◌<◌, ◌≤◌, Bool, true, false, cond, ◌&&◌, sym, refl, ap, ◌∙◌, add-zero, add-suc, arith}
use native.Mathlib.Decide.{ℕ_discrete}
use Rattle.survey.specs.Counting.{count}
use Rattle.duality.specs.Sums.{Ordered, sum}

module _ {P : Type 0} {o : P} {add : P → P → P} {le : P → P → Type 0} (laws : Ordered o add le) where
  -- the first a terms, then b more
  pub sum_append : (a b : ℕ) (f : ℕ → P) → sum o add (a + b) f ≡ add (sum o add a f) (sum o add b (λ k. f (a + k)))
  sum_append a zero f = rw (add-zero a) (sym (laws.unit _))
  sum_append a (suc b) f = rw (add-suc a b) (ap (λ x. add x (f (a + b))) (sum_append a b f) ∙ laws.assoc _ _ _)

  -- the terms in pairs
  pub sum_pairs : (n : ℕ) (f : ℕ → P) → sum o add (2 * n) f ≡ sum o add n (λ i. add (f (2 * i)) (f (2 * i + 1)))
  sum_pairs zero f = refl
  sum_pairs (suc n) f =
      let e : 2 * suc n ≡ suc (suc (2 * n)) = omega arith in
      let s : suc (2 * n) ≡ 2 * n + 1 = omega arith in
      ap (λ k. sum o add k f) e ∙ ap (λ k. add (add (sum o add (2 * n) f) (f (2 * n))) (f k)) s ∙ laws.assoc _ _ _ ∙ ap (λ x. add x (add (f (2 * n)) (f (2 * n + 1)))) (sum_pairs n f)

pick_and : (b c : Bool) → ◌≡◌ {A = ℕ} (cond (b && c) 1 0) (cond b (cond c 1 0) 0)
pick_and true c = refl
pick_and false c = refl

-- how many pass both tests
pub count_sum : (p q : ℕ → Bool) (k : ℕ) → count (λ e. p e && q e) k ≡ sum 0 ◌+◌ k (λ e. cond (p e) (cond (q e) 1 0) 0)
count_sum p q zero = refl
count_sum p q (suc k) = let a = count_sum p q k in let b = pick_and (p k) (q k) in omega arith

-- one term is at most the sum
pub term_le : (n i : ℕ) (f : ℕ → ℕ) → i < n → f i ≤ sum 0 ◌+◌ n f
term_le zero i f b = absurd (omega arith)
term_le (suc n) i f b = elim (ℕ_discrete n i) [
  | yes e ↦ rw e (omega arith)
  | no e ↦ omega (arith, term_le n i f (omega arith))
]
