-- Finite sums in an ordered monoid, and multiples.
use Rattle.std.specs.Prelude.{◌≡◌, cond, ℕ, zero, suc, ◌+◌, eqb}

-- an ordered commutative monoid in which a summand cancels: every kind of price is one, and so are the natural numbers
pub record Ordered {P : Type 0} (o : P) (add : P → P → P) (le : P → P → Type 0) : Type 0 where
  pub assoc : (x y z : P) → add (add x y) z ≡ add x (add y z)
  pub comm : (x y : P) → add x y ≡ add y x
  pub unit : (x : P) → add x o ≡ x
  pub refl : (x : P) → le x x
  pub trans : (x y z : P) → le x y → le y z → le x z
  pub mono : (x y z : P) → le x y → le (add x z) (add y z)
  pub cancel : (x y z : P) → le (add x z) (add y z) → le x y

-- f 0 + .. + f (n − 1)
abbrev pub sum : {P : Type 0} → P → (P → P → P) → ℕ → (ℕ → P) → P
sum o add zero f = o
sum o add (suc n) f = add (sum o add n f) (f n)

-- n times p
abbrev pub times : {P : Type 0} → P → (P → P → P) → ℕ → P → P
times o add n p = sum o add n (λ a. p)

-- what the arcs a < A with end a = n carry in all
abbrev pub at : ℕ → (ℕ → ℕ) → (ℕ → ℕ) → ℕ → ℕ
at A end f n = sum 0 ◌+◌ A (λ a. cond (eqb (end a) n) (f a) 0)
