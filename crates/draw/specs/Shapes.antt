-- What is told of a shape: its bends, the large angle at a station, what is past the last leg, and which shapes are least.
use Rattle.std.specs.Prelude.{◌≡◌, ℕ, ◌+◌, ◌<◌, ◌≤◌, true, false, ◌⊎◌, List, length, Some, None, Option, nat_lt}
use Rattle.price.specs.Laws.{Ops}
use Rattle.duality.specs.Sums.{sum}
use Rattle.survey.specs.declared.leg.Leg.{Leg}
use Rattle.survey.specs.Ends.{ends, station}
use Rattle.shape.specs.Shapes.{Shape, switch, Valid, shape_price}

-- all bends of a shape
abbrev pub bends : List Leg → Shape → ℕ
bends legs z = sum 0 ◌+◌ (length legs) (λ i. z.left i + z.right i)

-- the end whose angle is large at station s: the only one there; none where no source or sink stands
abbrev pub NamesLarge : List Leg → Shape → (s : ℕ) → Option ℕ → Type 0
NamesLarge legs z s (Some e) = (e < ends legs) × (station legs e ≡ s) × (switch legs e ≡ true) × (z.large e ≡ true) × ((k : ℕ) → k < ends legs → station legs k ≡ s → z.large k ≡ true → k ≡ e)
NamesLarge legs z s None = (k : ℕ) → k < ends legs → station legs k ≡ s → switch legs k ≡ false

-- nothing is told past the last leg
pub record EndsThere (legs : List Leg) (z : Shape) : Type 0 where
  pub large : (e : ℕ) → ends legs ≤ e → z.large e ≡ false
  pub left : (i : ℕ) → length legs ≤ i → z.left i ≡ 0
  pub right : (i : ℕ) → length legs ≤ i → z.right i ≡ 0

-- the shape of a new drawing: both angles of its one leg are large, and nothing bends
pub record FirstShape (z : Shape) : Type 0 where
  pub large : (e : ℕ) → z.large e ≡ nat_lt e 2
  pub left : (i : ℕ) → z.left i ≡ 0
  pub right : (i : ℕ) → z.right i ≡ 0

-- a valid shape of this price, that no valid shape goes below, and that bends each leg to one side only
pub record LeastShape {P : Type 0} (ops : Ops P) (rate : ℕ → ℕ → P) (legs : List Leg) (outer : ℕ) (z : Shape) (price : P) : Type 0 where
  pub valid : Valid legs outer z
  pub costs : price ≡ shape_price ops rate legs z
  pub least : (z' : Shape) → Valid legs outer z' → ops.leq price (shape_price ops rate legs z') ≡ true
  pub one_sided : (i : ℕ) → i < length legs → (z.left i ≡ 0) ⊎ (z.right i ≡ 0)
  pub within : EndsThere legs z

abbrev pub NoShape : List Leg → (outer : ℕ) → Type 0
NoShape legs outer = (z : Shape) → Valid legs outer z → ⊥
