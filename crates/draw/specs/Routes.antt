-- What the units on the sides of a plan's network are to its shapes.
use Rattle.std.specs.Prelude.{◌≡◌, ℕ, ◌<◌, true, ◌⊎◌, List, length, Result, Ok, Err, ⊤}
use Rattle.price.specs.Laws.{Ops}
use Rattle.solve.specs.declared.Infeasible.{Infeasible}
use Rattle.survey.specs.declared.leg.Leg.{Leg}
use Rattle.shape.specs.Shapes.{Shape, Valid, shape_price}
use Rattle.shape.specs.Units.{units_shape}
use Rattle.draw.specs.Shapes.{NoShape}

-- the units make a valid shape that no valid shape goes below, and that bends each leg to one side only
pub record MakesLeast {P : Type 0} (ops : Ops P) (rate : ℕ → ℕ → P) (legs : List Leg) (outer : ℕ) (f : ℕ → ℕ) : Type 0 where
  pub valid : Valid legs outer (units_shape legs f)
  pub least : (z : Shape) → Valid legs outer z → ops.leq (shape_price ops rate legs (units_shape legs f)) (shape_price ops rate legs z) ≡ true
  pub one_sided : (i : ℕ) → i < length legs → ((units_shape legs f).left i ≡ 0) ⊎ ((units_shape legs f).right i ≡ 0)

-- what the outcome of a solve says of the plan's shapes
abbrev pub Routed : {P : Type 0} → Ops P → (ℕ → ℕ → P) → List Leg → (outer : ℕ) → (ℕ → ℕ) → Result ⊤ Infeasible → Type 0
Routed ops rate legs outer f (Ok done) = MakesLeast ops rate legs outer f
Routed ops rate legs outer f (Err e) = NoShape legs outer
