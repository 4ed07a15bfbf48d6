-- Tables that hold the values of a function.
use Rattle.std.specs.Prelude.{◌≡◌, ℕ, ◌<◌, List, slice_index_or}

-- the first k places hold what f says; d stands past the end
abbrev pub Holds : {A : Type 0} → A → (ℕ → A) → List A → ℕ → Type 0
Holds d f xs k = (e : ℕ) → e < k → slice_index_or xs e d ≡ f e

-- each of the first k places holds what was told of its index
pub record Tells {A : Type 0} (told : ℕ → A → Type 0) (xs : List A) (k : ℕ) : Type 0 where
  pub at : (d : A) (e : ℕ) → e < k → told e (slice_index_or xs e d)
