-- Potentials bound the price of every flow: when a flow is cheapest, and when none meets the demands.
use mathlib.Core.Path.{◌≡◌, ◌∙◌, subst}
use native.Mathlib.Decide.{dec_le}
use Prim.Native.Nat.{ℕ, ◌+◌, ◌-◌, ◌≤◌, ◌<◌}
use native.Mathlib.Omega.{arith}
use Rattle.duality.specs.Sums.{Ordered, sum, times, at}
use Rattle.duality.proofs.Exchange.{swap, sum_ext, sum_add, sum_mono, times_add, exchange}

module _ {P : Type 0} {o : P} {add : P → P → P} {le : P → P → Type 0} (laws : Ordered o add le) where
  -- the worth of amounts at nodes adds
  pub worth_add : (N : ℕ) (x y : ℕ → ℕ) (g : ℕ → P) → sum o add N (λ n. times o add (x n + y n) (g n)) ≡ add (sum o add N (λ n. times o add (x n) (g n))) (sum o add N (λ n. times o add (y n) (g n)))
  worth_add N x y g = sum_ext laws N _ _ (λ n b. times_add laws (x n) (y n) (g n)) ∙ sum_add laws N _ _

  -- each arc's inequality, summed: arcs lead from one range of nodes to another, or to the same
  pub duality : (M N A : ℕ) (from to f f' : ℕ → ℕ) (h g : ℕ → P) (pay : ℕ → ℕ → P) → ((a : ℕ) → a < A → from a < M) → ((a : ℕ) → a < A → to a < N) →
      ((a : ℕ) → a < A → le (add (pay a (f a)) (add (times o add (f' a) (g (to a))) (times o add (f a) (h (from a)))))
      (add (pay a (f' a)) (add (times o add (f a) (g (to a))) (times o add (f' a) (h (from a)))))) →
      le (add (sum o add A (λ a. pay a (f a))) (add (sum o add N (λ n. times o add (at A to f' n) (g n))) (sum o add M (λ n. times o add (at A from f n) (h n)))))
      (add (sum o add A (λ a. pay a (f' a))) (add (sum o add N (λ n. times o add (at A to f n) (g n))) (sum o add M (λ n. times o add (at A from f' n) (h n)))))
  duality M N A from to f f' h g pay hf ht arcs =
      rw (
        exchange laws N A to f' g ht,
        exchange laws M A from f h hf,
        exchange laws N A to f g ht,
        exchange laws M A from f' h hf,
        ← sum_add laws A (λ a. times o add (f' a) (g (to a))) _,
        ← sum_add laws A (λ a. times o add (f a) (g (to a))) _,
        ← sum_add laws A _ _,
        ← sum_add laws A _ _,
      )
      (sum_mono laws A _ _ arcs)

  -- k times a step that is dear, beside what does not change
  dear : (k : ℕ) (p q c r : P) → (0 < k → le p (add q c)) → le (add (times o add k p) r) (add (add (times o add k q) (times o add k c)) r)
  dear k p q c r h = laws.mono _ _ r (rw (← sum_add laws k (λ i. q) (λ i. c)) (sum_mono laws k _ _ (λ i b. h (omega arith))))

  gain : (k : ℕ) (p q c r : P) → (0 < k → le (add q c) p) → le (add (add (times o add k q) (times o add k c)) r) (add (times o add k p) r)
  gain k p q c r h = laws.mono _ _ r (rw (← sum_add laws k (λ i. q) (λ i. c)) (sum_mono laws k _ _ (λ i b. h (omega arith))))

  -- an arc whose price is linear, within its room
  pub arc : (x y room : ℕ) (p q c : P) → y ≤ room → (x < room → le p (add q c)) → (0 < x → le (add q c) p) →
      le (add (times o add x c) (add (times o add y p) (times o add x q))) (add (times o add y c) (add (times o add x p) (times o add y q)))
  arc x y room p q c fits up down = elim (dec_le x y) [
    | yes h ↦ subst (λ z. le (add (times o add x c) (add (times o add z p) (times o add x q))) (add (times o add z c) (add (times o add x p) (times o add z q)))) (more x y h)
        (simp (times_add laws, laws.assoc, laws.comm, swap laws) (simp (laws.assoc, laws.comm, swap laws) at
        (dear (y - x) p q c (add (times o add x c) (add (times o add x p) (times o add x q))) (λ b. up (omega arith)))))
    | no h ↦ subst (λ z. le (add (times o add z c) (add (times o add y p) (times o add z q))) (add (times o add y c) (add (times o add z p) (times o add y q)))) (more y x (omega arith))
        (simp (times_add laws, laws.assoc, laws.comm, swap laws) (simp (laws.assoc, laws.comm, swap laws) at
        (gain (x - y) p q c (add (times o add y c) (add (times o add y p) (times o add y q))) (λ b. down (omega arith)))))
  ]
    where
      more : (m n : ℕ) → m ≤ n → m + (n - m) ≡ n
      more m n h = omega arith

  -- the duality for linear prices
  pub linear : (M N A : ℕ) (from to f f' room : ℕ → ℕ) (h g c : ℕ → P) → ((a : ℕ) → a < A → from a < M) → ((a : ℕ) → a < A → to a < N) →
      ((a : ℕ) → a < A → f' a ≤ room a) →
      ((a : ℕ) → a < A → f a < room a → le (g (to a)) (add (h (from a)) (c a))) → ((a : ℕ) → a < A → 0 < f a → le (add (h (from a)) (c a)) (g (to a))) →
      le (add (sum o add A (λ a. times o add (f a) (c a))) (add (sum o add N (λ n. times o add (at A to f' n) (g n))) (sum o add M (λ n. times o add (at A from f n) (h n)))))
      (add (sum o add A (λ a. times o add (f' a) (c a))) (add (sum o add N (λ n. times o add (at A to f n) (g n))) (sum o add M (λ n. times o add (at A from f' n) (h n)))))
  linear M N A from to f f' room h g c hf ht fits more less =
      duality M N A from to f f' h g (λ a n. times o add n (c a)) hf ht
      (λ a b. arc (f a) (f' a) (room a) (g (to a)) (h (from a)) (c a) (fits a b) (more a b) (less a b))
