-- What shapes and flows of a plan's network have to do with each other, as one statement.
use Rattle.std.specs.Prelude.{◌≡◌, ℕ, ◌+◌, ◌<◌, ◌≤◌, true, ◌⊎◌, List, length}
use Rattle.price.specs.Laws.{Ops}
use Rattle.duality.specs.Flows.{Fits, Meets, price_of}
use Rattle.search.specs.declared.Side.{Side}
use Rattle.search.specs.Sides.{side_at, network, Proper}
use Rattle.solve.specs.Solutions.{arcs, OneWay}
use Rattle.survey.specs.declared.leg.Leg.{Leg}
use Rattle.survey.specs.Model.{valid_legs}
use Rattle.embedding.specs.Demands.{planar}
use Rattle.shape.specs.Shapes.{Shape, Valid, shape_price}
use Rattle.shape.specs.Nodes.{nodes}
use Rattle.shape.specs.Units.{side_count, plan_side, plan_wants, plan_gives, shape_units, units_shape}

-- the list has the sides of the plan's network
pub record HoldsNetwork (legs : List Leg) (sides : List Side) : Type 0 where
  pub count : length sides ≡ side_count legs
  pub each : (s : ℕ) → s < side_count legs → side_at sides s ≡ plan_side legs s

-- p and q are what the nodes want and give
pub record HoldsDemands (legs : List Leg) (outer : ℕ) (p q : ℕ → ℕ) : Type 0 where
  pub wants : (v : ℕ) → v < nodes legs → p v ≡ plan_wants legs outer v
  pub gives : (v : ℕ) → v < nodes legs → q v ≡ plan_gives legs outer v

-- a valid shape is a flow that meets the demands and costs no more
pub record ShapeFlows {P : Type 0} (ops : Ops P) (rate : ℕ → ℕ → P) (legs : List Leg) (sides : List Side) (p q : ℕ → ℕ) (z : Shape) : Type 0 where
  pub fits : Fits (arcs (nodes legs) (network ops rate sides)) (shape_units legs z)
  pub meets : Meets (arcs (nodes legs) (network ops rate sides)) p q (shape_units legs z)
  pub costs : ops.leq (price_of ops (arcs (nodes legs) (network ops rate sides)) (network ops rate sides).fee (shape_units legs z)) (shape_price ops rate legs z) ≡ true

-- a flow that meets the demands makes a valid shape of just its price, that bends each leg to one side only
pub record FlowShapes {P : Type 0} (ops : Ops P) (rate : ℕ → ℕ → P) (legs : List Leg) (outer : ℕ) (sides : List Side) (f : ℕ → ℕ) : Type 0 where
  pub valid : Valid legs outer (units_shape legs f)
  pub costs : shape_price ops rate legs (units_shape legs f) ≡ price_of ops (arcs (nodes legs) (network ops rate sides)) (network ops rate sides).fee f
  pub one_sided : (i : ℕ) → i < length legs → ((units_shape legs f).left i ≡ 0) ⊎ ((units_shape legs f).right i ≡ 0)

pub record NetworkLaws {P : Type 0} (ops : Ops P) (rate : ℕ → ℕ → P) (legs : List Leg) (outer : ℕ) (sides : List Side) (p q : ℕ → ℕ) : Type 0 where
  pub proper : Proper (nodes legs) sides
  pub few : nodes legs ≤ length legs + 2
  pub to_flow : (z : Shape) → Valid legs outer z → ShapeFlows ops rate legs sides p q z
  pub to_shape : (f : ℕ → ℕ) → Fits (arcs (nodes legs) (network ops rate sides)) f → OneWay (network ops rate sides) f → Meets (arcs (nodes legs) (network ops rate sides)) p q f → FlowShapes ops rate legs outer sides f

-- for every valid planar list of at most 256 legs, at every price that is never below zero
abbrev pub ShapesAreFlows : {P : Type 0} → Ops P → Type 0
ShapesAreFlows {P} ops = (rate : ℕ → ℕ → P) → ((w f : ℕ) → ops.leq ops.zero (rate w f) ≡ true) → (legs : List Leg) (outer : ℕ) (sides : List Side) (p q : ℕ → ℕ) →
    valid_legs legs ≡ true → planar legs ≡ true → length legs ≤ 256 → HoldsNetwork legs sides → HoldsDemands legs outer p q →
    NetworkLaws ops rate legs outer sides p q
