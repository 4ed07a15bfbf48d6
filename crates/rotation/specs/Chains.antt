-- Chains of the ends of a station, each linked to the one before it.
use Rattle.std.specs.Prelude.{ℕ, zero, suc, cond, List, Option, Some, None, ◌==◌}
use Rattle.survey.specs.declared.leg.Leg.{Leg}
use Rattle.survey.specs.Ends.{station}

-- the last end below k at station s
abbrev pub last_end : List Leg → ℕ → ℕ → Option ℕ
last_end legs zero s = None
last_end legs (suc k) s = cond (station legs k == s) (Some k) (last_end legs k s)

-- the end before e at its station
abbrev pub end_before : List Leg → ℕ → Option ℕ
end_before legs e = last_end legs e (station legs e)
