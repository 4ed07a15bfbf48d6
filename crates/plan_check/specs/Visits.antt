-- The stations that a search from leg 0 has visited.
use Rattle.std.specs.Prelude.{◌≡◌, ℕ, ◌<◌, Bool, true, false, not, ◌&&◌, List, length, get_or, slice_index_or}
use Rattle.survey.specs.declared.leg.Leg.{Leg}
use Rattle.survey.specs.Counting.{count}
use Rattle.survey.specs.Ends.{no_leg}
use Rattle.embedding.specs.Joins.{Joined}

abbrev pub visited_at : List Bool → ℕ → Bool
visited_at visited s = slice_index_or visited s false

abbrev pub from_at : List Leg → ℕ → ℕ
from_at legs i = (get_or legs i no_leg).from

abbrev pub to_at : List Leg → ℕ → ℕ
to_at legs i = (get_or legs i no_leg).to

-- the stations of leg 0 are visited, and no leg is at a visited station but a joined one
pub record Sound (legs : List Leg) (visited : List Bool) : Type 0 where
  pub start_from : visited_at visited (from_at legs 0) ≡ true
  pub start_to : visited_at visited (to_at legs 0) ≡ true
  pub at_from : (i : ℕ) → i < length legs → visited_at visited (from_at legs i) ≡ true → Joined legs i
  pub at_to : (i : ℕ) → i < length legs → visited_at visited (to_at legs i) ≡ true → Joined legs i

-- of each leg both stations are visited, or none
abbrev pub Closed : List Leg → List Bool → Type 0
Closed legs visited = (i : ℕ) → i < length legs → visited_at visited (from_at legs i) ≡ visited_at visited (to_at legs i)

-- the number of legs of which not both stations are visited
abbrev pub open_legs : List Leg → List Bool → ℕ
open_legs legs visited = count (λ i. not (visited_at visited (from_at legs i) && visited_at visited (to_at legs i))) (length legs)
