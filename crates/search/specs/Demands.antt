-- What the nodes want and give, as the program holds it.
use Rattle.std.specs.Prelude.{ℕ, List, slice_index_or}
use Rattle.search.specs.declared.Demand.{Demand}

abbrev pub no_demand : Demand
no_demand = record { wants = 0; gives = 0 }

-- a node past the last wants and gives nothing
abbrev pub demand_at : List Demand → ℕ → Demand
demand_at demands v = slice_index_or demands v no_demand

abbrev pub wants_of : List Demand → ℕ → ℕ
wants_of demands v = (demand_at demands v).wants

abbrev pub gives_of : List Demand → ℕ → ℕ
gives_of demands v = (demand_at demands v).gives
