-- Sides as the program holds them, and the network that they make at a tariff.
use Rattle.std.specs.Prelude.{◌≡◌, ℕ, ◌%◌, ◌<◌, ◌≤◌, ◌⊎◌, List, length, Option, Some, None, slice_index_or}
use Rattle.std.specs.Option.{ForSome}
use Rattle.price.specs.Laws.{Ops}
use Rattle.search.specs.declared.Bend.{Bend}
use Rattle.search.specs.declared.Side.{Side}
use Rattle.search.specs.Moves.{Move}
use Rattle.search.specs.Networks.{Network, twin, units, move}

abbrev pub no_side : Side
no_side = record { node = 0; end = 0; room = 0; bend = None }

abbrev pub side_at : List Side → ℕ → Side
side_at sides s = slice_index_or sides s no_side

-- two bends, or nothing where there is none
abbrev pub bends_fee : {P : Type 0} → Ops P → (ℕ → ℕ → P) → Option Bend → P
bends_fee ops rate None = ops.zero
bends_fee ops rate (Some b) = ops.plus (rate b.weight b.wet) (rate b.weight b.wet)

-- a unit over a side costs two of its bends
abbrev pub fee_of : {P : Type 0} → Ops P → (ℕ → ℕ → P) → Side → P
fee_of ops rate d = bends_fee ops rate d.bend

abbrev pub network : {P : Type 0} → Ops P → (ℕ → ℕ → P) → List Side → Network P
network ops rate sides = record {
  count = length sides;
  node = λ s. (side_at sides s).node;
  end = λ s. (side_at sides s).end;
  room = λ s. (side_at sides s).room;
  fee = λ s. fee_of ops rate (side_at sides s);
}

-- the moves that the units on the sides leave
abbrev pub residual : {P : Type 0} → Ops P → (ℕ → ℕ → P) → List Side → List ℕ → ℕ → Move P
residual ops rate sides flow = move ops (network ops rate sides) (units flow)

-- a side that can ever be open
abbrev pub CanOpen : List Side → ℕ → Type 0
CanOpen sides s = (0 < (side_at sides s).room) ⊎ (0 < (side_at sides (twin s)).room)

-- the node that a side leads to and its end tell the side, among those that can ever be open
abbrev pub Keyed : List Side → Type 0
Keyed sides = (s t : ℕ) → s < length sides → t < length sides → CanOpen sides s → CanOpen sides t → (side_at sides s).node ≡ (side_at sides t).node → (side_at sides s).end ≡ (side_at sides t).end → s ≡ t

-- no side carries more than its room
abbrev pub WithinRoom : List Side → List ℕ → Type 0
WithinRoom sides flow = (s : ℕ) → s < length sides → units flow s ≤ (side_at sides s).room

-- sides between n nodes: in pairs that agree on the fee, few, and within the bounds of the sums
pub record Proper (n : ℕ) (sides : List Side) : Type 0 where
  pub few : length sides ≤ 2048
  pub even : length sides % 2 ≡ 0
  pub inside : (s : ℕ) → s < length sides → (side_at sides s).node < n
  pub low : (s : ℕ) → s < length sides → (side_at sides s).end < 65533
  pub light : (s : ℕ) → s < length sides → ForSome (side_at sides s).bend (λ b. b.weight ≤ 1000)
  pub room : (s : ℕ) → s < length sides → (side_at sides s).room ≤ 1000
  pub paired : (s : ℕ) → s < length sides → (side_at sides (twin s)).bend ≡ (side_at sides s).bend
  pub keyed : Keyed sides
