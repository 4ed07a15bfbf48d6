-- Finite sums in an ordered commutative monoid, and the exchange of nodes and arcs.
use mathlib.Core.Path.{◌≡◌, refl, sym, ap, ◌∙◌}
use mathlib.Core.Logic.{◌≢◌}
use mathlib.Core.Bool.{cond}
use Prim.Native.Nat.{ℕ, zero, suc, ◌+◌, ◌<◌}
use native.Mathlib.Decide.{ℕ_discrete}
use native.Mathlib.Nat.{add-zero, add-suc}
use native.Mathlib.Omega.{arith}
use lib.Dec.{eqb}
use Rattle.duality.specs.Sums.{Ordered, sum, times, at}

module _ {P : Type 0} {o : P} {add : P → P → P} {le : P → P → Type 0} (laws : Ordered o add le) where
  -- the third law of sorting a sum
  pub swap : (x y z : P) → add x (add y z) ≡ add y (add x z)
  swap x y z = sym (laws.assoc x y z) ∙ ap (λ w. add w z) (laws.comm x y) ∙ laws.assoc y x z

  pub sum_ext : (n : ℕ) (f g : ℕ → P) → ((i : ℕ) → i < n → f i ≡ g i) → sum o add n f ≡ sum o add n g
  sum_ext zero f g h = refl
  sum_ext (suc n) f g h = rw (sum_ext n f g (λ i b. h i (omega arith)), h n (omega arith))

  pub sum_add : (n : ℕ) (f g : ℕ → P) → sum o add n (λ i. add (f i) (g i)) ≡ add (sum o add n f) (sum o add n g)
  sum_add zero f g = sym (laws.unit o)
  sum_add (suc n) f g = rw (sum_add n f g) (simp (laws.assoc, laws.comm, swap))

  pub both : {w x y z : P} → le w x → le y z → le (add w y) (add x z)
  both {w} {x} {y} {z} h k = laws.trans _ _ _ (laws.mono w x y h) (rw (laws.comm x y, laws.comm x z) (laws.mono y z x k))

  pub sum_mono : (n : ℕ) (f g : ℕ → P) → ((i : ℕ) → i < n → le (f i) (g i)) → le (sum o add n f) (sum o add n g)
  sum_mono zero f g h = laws.refl o
  sum_mono (suc n) f g h = both (sum_mono n f g (λ i b. h i (omega arith))) (h n (omega arith))

  pub sum_zero : (n : ℕ) (f : ℕ → P) → ((i : ℕ) → i < n → f i ≡ o) → sum o add n f ≡ o
  sum_zero zero f h = refl
  sum_zero (suc n) f h = rw (sum_zero n f (λ i b. h i (omega arith)), h n (omega arith)) (laws.unit o)

  -- a sum of which one term alone counts
  pub sum_one : (n t : ℕ) (f : ℕ → P) → t < n → ((i : ℕ) → i ≢ t → f i ≡ o) → sum o add n f ≡ f t
  sum_one zero t f b h = absurd (omega arith)
  sum_one (suc n) t f b h = elim (ℕ_discrete n t) [
    | yes e ↦ rw (sum_zero n f (λ i c. h i (omega arith)), laws.comm o (f n), laws.unit (f n)) (ap f e)
    | no e ↦ rw (sum_one n t f (omega arith) h, h n e) (laws.unit (f t))
  ]

  pub times_add : (m n : ℕ) (p : P) → times o add (m + n) p ≡ add (times o add m p) (times o add n p)
  times_add m zero p = simp (add-zero, laws.unit)
  times_add m (suc n) p = simp (add-suc, times_add m n p, laws.assoc)

  here : (t n x : ℕ) → n ≢ t → cond (eqb t n) x 0 ≡ 0
  here t n x h = grind (arith, h)

  there : (t x : ℕ) → cond (eqb t t) x 0 ≡ x
  there t x = grind arith

  -- what the nodes hold, each at its price, is what the arcs carry, each at its end's price
  pub exchange : (N A : ℕ) (end f : ℕ → ℕ) (g : ℕ → P) → ((a : ℕ) → a < A → end a < N) →
      sum o add N (λ n. times o add (at A end f n) (g n)) ≡ sum o add A (λ a. times o add (f a) (g (end a)))
  exchange N zero end f g h = sum_zero N (λ n. o) (λ i b. refl)
  exchange N (suc A) end f g h =
      sum_ext N _ _ (λ n b. times_add (at A end f n) (cond (eqb (end A) n) (f A) 0) (g n))
      ∙ sum_add N (λ n. times o add (at A end f n) (g n)) (λ n. times o add (cond (eqb (end A) n) (f A) 0) (g n))
      ∙ rw (
        exchange N A end f g (λ a b. h a (omega arith)),
        sum_one N (end A) (λ n. times o add (cond (eqb (end A) n) (f A) 0) (g n)) (h A (omega arith)) (λ i e. rw (here (end A) i (f A) e)),
      )
      (rw (there (end A) (f A)))
