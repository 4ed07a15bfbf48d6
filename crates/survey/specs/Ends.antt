-- The ends of a list of legs: leg i has end 2i at its from station and end 2i+1 at its to station.
use Rattle.std.specs.Prelude.{ℕ, ◌+◌, ◌*◌, ◌/◌, ◌%◌, Bool, cond, not, List, length, ◌==◌, slice_index_or}
use Rattle.survey.specs.declared.leg.Leg.{Leg}
use Rattle.survey.specs.Counting.{count, every}

-- stands where a list has no leg
abbrev pub no_leg : Leg
no_leg = record { from = 0; to = 0; bearing = 0; weight = 0; wet = 0; limit = 0 }

-- the bearing at the far end of a leg
abbrev pub far_bearing : Leg → ℕ
far_bearing l = (l.bearing + 1800) % 3600

-- the number of ends
abbrev pub ends : List Leg → ℕ
ends legs = 2 * length legs

-- water leaves the station along this end
abbrev pub outgoing : ℕ → Bool
outgoing e = e % 2 == 0

-- the leg that an end belongs to
abbrev pub leg_of : List Leg → ℕ → Leg
leg_of legs e = slice_index_or legs (e / 2) no_leg

-- the station at which an end stands
abbrev pub station : List Leg → ℕ → ℕ
station legs e = cond (outgoing e) (leg_of legs e).from (leg_of legs e).to

-- the bearing of an end, seen from its station
abbrev pub bearing : List Leg → ℕ → ℕ
bearing legs e = cond (outgoing e) (leg_of legs e).bearing (far_bearing (leg_of legs e))

-- two ends stand at one station
abbrev pub same_station : List Leg → ℕ → ℕ → Bool
same_station legs e k = station legs k == station legs e

-- no lower end stands at the station of this one
abbrev pub first_at_station : List Leg → ℕ → Bool
first_at_station legs e = every (λ k. not (same_station legs e k)) e

-- the number of stations: each counts by its lowest end
abbrev pub stations : List Leg → ℕ
stations legs = count (first_at_station legs) (ends legs)
