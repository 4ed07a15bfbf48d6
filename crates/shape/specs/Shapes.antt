-- Shapes of a plan: which angles are large and how each leg bends; which shapes are valid, and what they cost.
use Rattle.std.specs.Prelude.{◌≡◌, ℕ, ◌+◌, ◌*◌, ◌/◌, ◌%◌, ◌<◌, ◌≤◌, Bool, cond, ◌&&◌, ◌||◌, List, length, pos, ◌+ℤ◌, ◌-ℤ◌, ◌==◌, slice_index_or}
use Rattle.price.specs.Laws.{Ops}
use Rattle.duality.specs.Sums.{sum, times}
use Rattle.survey.specs.declared.leg.Leg.{Leg}
use Rattle.survey.specs.Counting.{count}
use Rattle.survey.specs.Ends.{ends, no_leg, same_station}
use Rattle.embedding.specs.Rotation.{face, angle_face}
use Rattle.embedding.specs.Demands.{source, sink, demand}

-- by end: whether its angle is large; by leg: its left bends and its right bends
pub record Shape : Type 0 where
  pub large : ℕ → Bool
  pub left : ℕ → ℕ
  pub right : ℕ → ℕ

-- the station of e is a source or a sink
abbrev pub switch : List Leg → ℕ → Bool
switch legs e = source legs e || sink legs e

-- how many angles at the station of e are large
abbrev pub large_at : List Leg → Shape → ℕ → ℕ
large_at legs z e = count (λ k. same_station legs e k && z.large k) (ends legs)

-- how many angles in face f are large
abbrev pub large_in : List Leg → Shape → ℕ → ℕ
large_in legs z f = count (λ e. (angle_face legs e == f) && z.large e) (ends legs)

abbrev pub leg_at : List Leg → ℕ → Leg
leg_at legs i = slice_index_or legs i no_leg

-- the sum over the legs whose end 2i + side has its face f
abbrev pub along : List Leg → (side f : ℕ) → (ℕ → ℕ) → ℕ
along legs side f g = sum 0 ◌+◌ (length legs) (λ i. cond (face legs (2 * i + side) == f) (g i) 0)

-- the three rules
pub record Valid (legs : List Leg) (outer : ℕ) (z : Shape) : Type 0 where
  -- each source or sink has exactly one large angle, and other stations have none
  pub angles : (e : ℕ) → e < ends legs → large_at legs z e ≡ cond (switch legs e) 1 0
  -- on each leg the bends are even in number, and half of them at most the limit
  pub even : (i : ℕ) → i < length legs → (z.left i + z.right i) % 2 ≡ 0
  pub bounded : (i : ℕ) → i < length legs → (z.left i + z.right i) / 2 ≤ (leg_at legs i).limit
  -- twice: the large angles of a face, and half of right less left bends of the legs that have it on their left,
  -- and half of left less right bends of those that have it on their right, make its demand
  pub balance : (f : ℕ) → f < ends legs → face legs f ≡ f →
      pos (2 * large_in legs z f) +ℤ (pos (along legs 0 f z.right) -ℤ pos (along legs 0 f z.left)) +ℤ (pos (along legs 1 f z.left) -ℤ pos (along legs 1 f z.right))
      ≡ demand legs outer f +ℤ demand legs outer f

-- the price of a shape: each bend of a leg costs what the tariff tells for the leg
abbrev pub shape_price : {P : Type 0} → Ops P → (ℕ → ℕ → P) → List Leg → Shape → P
shape_price ops rate legs z =
    sum ops.zero ops.plus (length legs) (λ i. times ops.zero ops.plus (z.left i + z.right i) (rate (leg_at legs i).weight (leg_at legs i).wet))
