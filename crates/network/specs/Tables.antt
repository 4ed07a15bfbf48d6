-- Numbers of the marked among the numbers below a bound, the lowest ends of stations, and what a node wants and gives.
use Rattle.std.specs.Prelude.{ℕ, ◌-◌, Bool, false, List, nat_eq, slice_index_or}
use Rattle.survey.specs.declared.leg.Leg.{Leg}
use Rattle.survey.specs.Counting.{count}
use Rattle.survey.specs.Ends.{ends, station}
use Rattle.embedding.specs.Walks.{seek}
use Rattle.search.specs.declared.Demand.{Demand}
use Rattle.shape.specs.Units.{plan_wants, plan_gives}

-- how many marked numbers are below k
abbrev pub rank : List Bool → ℕ → ℕ
rank marks k = count (λ j. slice_index_or marks j false) k

-- the lowest end from e on that stands at station s, or the number of ends
abbrev pub lowest_from : List Leg → (e s : ℕ) → ℕ
lowest_from legs e s = seek (λ k. nat_eq (station legs k) s) e (ends legs - e)

-- what node v wants and gives
abbrev pub plan_demand : List Leg → (outer v : ℕ) → Demand
plan_demand legs outer v = record { wants = plan_wants legs outer v; gives = plan_gives legs outer v }
