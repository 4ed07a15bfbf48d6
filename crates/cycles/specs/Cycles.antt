-- The cycles of a table that permutes the numbers below n, each named by its least number; and tallies.
use Rattle.std.specs.Prelude.{ℕ, Bool, false, cond, ◌&&◌, List, ◌==◌, nat_lt, slice_index, slice_index_or}
use Rattle.survey.specs.Counting.{count}
use Rattle.embedding.specs.Walks.{lowest}

-- what a table says of a number
abbrev pub at : List ℕ → ℕ → ℕ
at steps e = slice_index steps e

-- the least number of the cycle of e
abbrev pub cycle_name : List ℕ → ℕ → ℕ → ℕ
cycle_name steps n e = lowest (at steps) n e

-- the name of the cycle of d where that is below e, else n
abbrev pub named_below : List ℕ → ℕ → ℕ → ℕ → ℕ
named_below steps n e d = cond (nat_lt (cycle_name steps n d) e) (cycle_name steps n d) n

-- how many of the numbers below n are chosen and have the key v
abbrev pub tallied : List ℕ → List Bool → ℕ → ℕ → ℕ
tallied keys chosen n v = count (λ k. slice_index_or chosen k false && slice_index keys k == v) n
