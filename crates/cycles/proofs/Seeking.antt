-- A search for the lowest number that passes, one number on and at its ends.
use Rattle.std.proofs.Common.{◌≡◌, ℕ, zero, suc, ◌+◌, ◌-◌, ◌<◌, ◌≤◌, Bool, true, false, Option, Some, None, MatchOption, sym, ap, ◌∙◌, add-one, arith}
use Rattle.std.proofs.lemmas.Bool.{cond-true, cond-false, lt-ltb, le-ltb}
use Rattle.embedding.specs.Walks.{seek, below}

module _ (p : ℕ → Bool) (n i : ℕ) where
  one_left : i < n → n - i ≡ suc (n - (i + 1))
  one_left l = omega arith

  pub seek_hit : i < n → p i ≡ true → seek p i (n - i) ≡ i
  seek_hit l t = ap (seek p i) (one_left l) ∙ cond-true _ i (seek p (suc i) (n - (i + 1))) t

  pub seek_more : i < n → p i ≡ false → seek p i (n - i) ≡ seek p (i + 1) (n - (i + 1))
  seek_more l f = ap (seek p i) (one_left l) ∙ cond-false _ i (seek p (suc i) (n - (i + 1))) f ∙ ap (λ j. seek p j (n - (i + 1))) (sym (add-one i))

  pub seek_end : n ≤ i → seek p i (n - i) ≡ i
  seek_end l = let z : n - i ≡ 0 = omega arith in ap (seek p i) z

-- the search over the numbers below n, by what is known of each number up to the one that it finds
seek_from : (p : ℕ → Bool) (i k : ℕ) → ((j : ℕ) → i ≤ j → j < i + k → p j ≡ false) → seek p i k ≡ i + k
seek_from p i zero h = omega arith
seek_from p i (suc k) h =
    cond-false _ i (seek p (suc i) k) (h i (omega arith) (omega arith))
    ∙ seek_from p (suc i) k (λ j l m. h j (omega arith) (omega arith))
    ∙ (omega arith)

seek_past : (p : ℕ → Bool) (i k m : ℕ) → ((j : ℕ) → i ≤ j → j < i + k → p j ≡ false) → seek p i (k + m) ≡ seek p (i + k) m
seek_past p i zero m h = let a : zero + m ≡ m = omega arith in let b : i ≡ i + 0 = omega arith in λ t. seek p (b t) (a t)
seek_past p i (suc k) m h =
    let a : suc k + m ≡ suc (k + m) = omega arith in
    let b : suc i + k ≡ i + suc k = omega arith in
    ap (seek p i) a
    ∙ cond-false _ i (seek p (suc i) (k + m)) (h i (omega arith) (omega arith))
    ∙ seek_past p (suc i) k m (λ j l q. h j (omega arith) (omega arith))
    ∙ ap (λ x. seek p x m) b

-- what `find` over the numbers below n gives
pub find_seeks : (p : ℕ → Bool) (n : ℕ) (r : Option ℕ) → MatchOption r ((k : ℕ) → 0 ≤ k → k < n → k < n → p k ≡ false) (λ i. (0 ≤ i) × (i < n) × (i < n → p i ≡ true) × ((k : ℕ) → 0 ≤ k → k < i → k < n → p k ≡ false)) → r ≡ below n (seek p 0 n)
find_seeks p n None h =
    let s = seek_from p 0 n (λ j l m. h j (omega arith) (omega arith) (omega arith)) in
    sym (cond-false _ (Some (seek p 0 n)) None (le-ltb _ _ (omega arith)))
find_seeks p n (Some i) (z, l, hit, missed) =
    let q : n ≡ i + suc (n - (i + 1)) = omega arith in
    let s : seek p 0 n ≡ i = ap (seek p 0) q ∙ seek_past p 0 i (suc (n - (i + 1))) (λ j a b. missed j (omega arith) (omega arith) (omega arith)) ∙ cond-true _ (0 + i) (seek p (suc (0 + i)) (n - (i + 1))) (ap p (omega arith) ∙ hit l) ∙ (omega arith) in
    sym (ap (below n) s ∙ cond-true _ (Some i) None (lt-ltb _ _ l))
