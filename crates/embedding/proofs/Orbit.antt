-- A one-to-one map of the numbers below n comes back to where it began, and the least number of a walk names it.
use Rattle.std.proofs.Common.{◌≡◌, ℕ, zero, suc, ◌+◌, ◌-◌, ◌<◌, ◌≤◌, min, ◌⊎◌, sym, refl, ap, ◌∙◌, subst, inl, inr, ⊎_elim, suc-add, zero-add, arith}
use Rattle.std.proofs.lemmas.Bool.{cases_lt, cases_eq}
use Rattle.embedding.specs.Walks.{iter, lowest}
use Rattle.embedding.specs.Laws.{Permutes, OnWalk}

-- g takes the value v below k, or does not
hit : (g : ℕ → ℕ) (v k : ℕ) → ((i : ℕ) × (i < k) × (g i ≡ v)) ⊎ ((i : ℕ) → i < k → g i ≡ v → ⊥)
hit g v zero = inr (λ i l e. omega arith)
hit g v (suc k) = ⊎_elim
    (λ e. inl (k, omega arith, e))
    (λ other. ⊎_elim
    (λ (w : (i : ℕ) × (i < k) × (g i ≡ v)). inl (w.0, (let l = w.1 in omega arith), w.2))
    (λ (none : (i : ℕ) → i < k → g i ≡ v → ⊥). inr (λ i l e. ⊎_elim (λ (m : i < k). none i m e) (λ (m : k ≤ i). let s : i ≡ k = omega arith in other (subst (λ (x : ℕ). g x ≡ v) s e)) (cases_lt i k)))
    (hit g v k))
    (cases_eq (g k) v)

-- v is taken out, and what is above it moves down
abbrev squash : ℕ → ℕ → ℕ
squash v x = x - min 1 (x - v)

abbrev Twice : ℕ → (ℕ → ℕ) → Type 0
Twice n g = (i : ℕ) × (j : ℕ) × (i < j) × (j ≤ n) × (g i ≡ g j)

squash_one : (v x y : ℕ) → (x ≡ v → ⊥) → (y ≡ v → ⊥) → squash v x ≡ squash v y → x ≡ y
squash_one v x y a b e = omega arith

squash_lt : (v x n : ℕ) → (x ≡ v → ⊥) → v < suc n → x < suc n → squash v x < n
squash_lt v x n a b e = omega arith

-- n + 1 numbers below n are not all different
pigeonhole : (n : ℕ) (g : ℕ → ℕ) → ((i : ℕ) → i ≤ n → g i < n) → Twice n g
pigeonhole zero g h = absurd (let a = h 0 (omega arith) in omega arith)
pigeonhole (suc n) g h = ⊎_elim
    (λ (w : (i : ℕ) × (i < suc n) × (g i ≡ g (suc n))). (w.0, suc n, w.1, omega arith, w.2))
    (λ (fresh : (i : ℕ) → i < suc n → g i ≡ g (suc n) → ⊥).
    let w : Twice n (λ i. squash (g (suc n)) (g i)) = pigeonhole n (λ i. squash (g (suc n)) (g i)) (λ i l. squash_lt _ _ n (fresh i (omega arith)) (h (suc n) (omega arith)) (h i (omega arith))) in
    (w.0, w.1, w.2, (let l = w.3 in omega arith), squash_one (g (suc n)) (g w.0) (g w.1) (fresh w.0 (let l = w.2 in let m = w.3 in omega arith)) (fresh w.1 (let m = w.3 in omega arith)) w.4))
    (hit g (g (suc n)) (suc n))

pub iter_add : (f : ℕ → ℕ) (a b e : ℕ) → iter f a (iter f b e) ≡ iter f (a + b) e
iter_add f zero b e = ap (λ k. iter f k e) (sym (zero-add b))
iter_add f (suc a) b e = ap f (iter_add f a b e) ∙ ap (λ k. iter f k e) (sym (suc-add a b))

module _ (n : ℕ) (f : ℕ → ℕ) (perm : Permutes f n) where
  pub iter_lt : (k e : ℕ) → e < n → iter f k e < n
  iter_lt zero e l = l
  iter_lt (suc k) e l = perm.stays _ (iter_lt k e l)

  cancel : (e : ℕ) → e < n → (i d j : ℕ) → j ≡ i + d → iter f i e ≡ iter f j e → iter f d e ≡ e
  cancel e l zero d j s q = let t : d ≡ j = omega arith in ap (λ k. iter f k e) t ∙ sym q
  cancel e l (suc i) d zero s q = absurd (omega arith)
  cancel e l (suc i) d (suc j) s q = cancel e l i d j (omega arith) (perm.one _ _ (iter_lt i e l) (iter_lt j e l) q)

  -- after p steps, 1 to n, the walk is back
  pub back : (e : ℕ) → e < n → (p : ℕ) × (0 < p) × (p ≤ n) × (iter f p e ≡ e)
  back e l =
      let w : Twice n (λ i. iter f i e) = pigeonhole n (λ i. iter f i e) (λ i m. iter_lt i e l) in
      let lt = w.2 in let le = w.3 in
      (w.1 - w.0, omega arith, omega arith, cancel e l w.0 (w.1 - w.0) w.1 (omega arith) w.4)

  low_le : (e k i : ℕ) → i ≤ k → lowest f k e ≤ iter f i e
  low_le e zero i l = let s : i ≡ 0 = omega arith in subst (λ (x : ℕ). e ≤ iter f x e) (sym s) (omega arith)
  low_le e (suc k) i l = ⊎_elim
      (λ (m : i < suc k). let r = low_le e k i (omega arith) in omega arith)
      (λ (m : suc k ≤ i). let s : i ≡ suc k = omega arith in subst (λ (x : ℕ). lowest f (suc k) e ≤ iter f x e) (sym s) (omega arith))
      (cases_lt i (suc k))

  -- the name of a walk is met on it
  pub low_on : (e k : ℕ) → OnWalk f e (lowest f k e)
  low_on e zero = (0, refl)
  low_on e (suc k) = let w = low_on e k in ⊎_elim
      (λ (m : iter f (suc k) e < lowest f k e). (suc k, omega arith))
      (λ (m : lowest f k e ≤ iter f (suc k) e). (w.0, w.1 ∙ omega arith))
      (cases_lt (iter f (suc k) e) (lowest f k e))

  -- every place of a walk that is back after p steps is met in fewer
  pub fold_back : (e p : ℕ) → 0 < p → iter f p e ≡ e → (i : ℕ) → (j : ℕ) × (j < p) × (iter f i e ≡ iter f j e)
  fold_back e p l q zero = (0, l, refl)
  fold_back e p l q (suc i) = let w = fold_back e p l q i in let lt = w.1 in ⊎_elim
      (λ (m : suc w.0 < p). (suc w.0, m, ap f w.2))
      (λ (m : p ≤ suc w.0). let s : suc w.0 ≡ p = omega arith in (0, l, ap f w.2 ∙ ap (λ k. iter f k e) s ∙ q))
      (cases_lt (suc w.0) p)

  pub low_all : (e : ℕ) → e < n → (i : ℕ) → lowest f n e ≤ iter f i e
  low_all e l i =
      let b = back e l in
      let w = fold_back e b.0 b.1 b.3 i in
      let lt = w.1 in let le = b.2 in
      subst (λ (x : ℕ). lowest f n e ≤ x) (sym w.2) (low_le e n w.0 (omega arith))

  -- where d's walk comes to e, e's comes to d
  pub on_walk_sym : (d e : ℕ) → d < n → OnWalk f d e → OnWalk f e d
  on_walk_sym d e l m =
      let b = back d l in
      let w = fold_back d b.0 b.1 b.3 m.0 in
      let lt = w.1 in
      let s : (b.0 - w.0) + w.0 ≡ b.0 = omega arith in
      (b.0 - w.0, ap (iter f (b.0 - w.0)) (sym m.1 ∙ w.2) ∙ iter_add f (b.0 - w.0) w.0 d ∙ ap (λ k. iter f k d) s ∙ b.3)

  pub on_walk_trans : (c d e : ℕ) → OnWalk f c d → OnWalk f d e → OnWalk f c e
  on_walk_trans c d e m o = (o.0 + m.0, sym (iter_add f o.0 m.0 c) ∙ ap (iter f o.0) m.1 ∙ o.1)

  below : (d e : ℕ) → d < n → OnWalk f d e → lowest f n d ≤ lowest f n e
  below d e l m =
      let w = on_walk_trans d e (lowest f n e) m (low_on e n) in
      subst (λ (x : ℕ). lowest f n d ≤ x) w.1 (low_all d l w.0)

  pub same_low : (d e : ℕ) → d < n → e < n → OnWalk f d e → lowest f n d ≡ lowest f n e
  same_low d e ld le m =
      let a = below d e ld m in
      let b = below e d le (on_walk_sym d e ld m) in
      omega arith

  pub low_meets : (d e : ℕ) → d < n → e < n → lowest f n d ≡ lowest f n e → OnWalk f d e
  low_meets d e ld le q =
      let w = low_on d n in
      on_walk_trans d (lowest f n e) e (w.0, w.1 ∙ q) (on_walk_sym e (lowest f n e) le (low_on e n))

  pub low_lt : (e : ℕ) → e < n → lowest f n e < n
  low_lt e l = let h = low_all e l 0 in omega arith

  -- a name names itself
  pub low_low : (e : ℕ) → e < n → lowest f n (lowest f n e) ≡ lowest f n e
  low_low e l = sym (same_low e (lowest f n e) l (low_lt e l) (low_on e n))

-- maps that agree below n have the same walks and names there
module _ (n : ℕ) (f g : ℕ → ℕ) (perm : Permutes f n) (same : (e : ℕ) → e < n → g e ≡ f e) where
  iter_same : (k e : ℕ) → e < n → iter g k e ≡ iter f k e
  iter_same zero e l = refl
  iter_same (suc k) e l = ap g (iter_same k e l) ∙ same (iter f k e) (iter_lt n f perm k e l)

  pub lowest_same : (k e : ℕ) → e < n → lowest g k e ≡ lowest f k e
  lowest_same zero e l = refl
  lowest_same (suc k) e l = λ t. min (iter_same (suc k) e l t) (lowest_same k e l t)

  pub permutes_same : Permutes g n
  permutes_same = record {
    stays = λ e l. subst (λ (x : ℕ). x < n) (sym (same e l)) (perm.stays e l);
    one = λ d e ld le q. perm.one d e ld le (sym (same d ld) ∙ q ∙ same e le);
  }
