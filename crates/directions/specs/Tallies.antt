-- Chosen ends, counted by station.
use Rattle.std.specs.Prelude.{ℕ, Bool, false, ◌&&◌, List, ◌==◌, slice_index_or}
use Rattle.survey.specs.declared.leg.Leg.{Leg}
use Rattle.survey.specs.Counting.{count}
use Rattle.survey.specs.Ends.{ends, station}

-- how many chosen ends stand at station s
abbrev pub chosen_at : List Leg → List Bool → ℕ → ℕ
chosen_at legs chosen s = count (λ k. slice_index_or chosen k false && station legs k == s) (ends legs)
