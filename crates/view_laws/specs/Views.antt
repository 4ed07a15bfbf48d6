-- What each view shows of a leg, and the leg that it sends down to be shown as the one given.
use Rattle.std.specs.Prelude.{ℕ, ◌+◌, ◌-◌, ◌%◌, cond, nat_lt}
use Rattle.survey.specs.declared.leg.Leg.{Leg}

-- the leg at another bearing
abbrev pub with_bearing : Leg → ℕ → Leg
with_bearing l b = record { from = l.from; to = l.to; bearing = b; weight = l.weight; wet = l.wet; limit = l.limit }

-- the leg with from and to swapped, at another bearing
abbrev pub swapped : Leg → ℕ → Leg
swapped l b = record { from = l.to; to = l.from; bearing = b; weight = l.weight; wet = l.wet; limit = l.limit }

-- a declination d added to a bearing, and taken off again
abbrev pub turned : ℕ → ℕ → ℕ
turned d b = (b + d) % 3600

abbrev pub turned_back : ℕ → ℕ → ℕ
turned_back d b = (b + (3600 - d % 3600)) % 3600

-- the bearing the other way
abbrev pub opposite : ℕ → ℕ
opposite b = (b + 1800) % 3600

-- 3,600 minus the bearing
abbrev pub mirrored : ℕ → ℕ
mirrored b = (3600 - b % 3600) % 3600

-- a bearing sent down: one over 3,599 goes as it is
abbrev pub sent_bearing : (ℕ → ℕ) → ℕ → ℕ
sent_bearing g b = cond (nat_lt 3599 b) b (g b)

-- a view that alters bearings alone
abbrev pub shows_bearing : (ℕ → ℕ) → Leg → Leg
shows_bearing f l = with_bearing l (f l.bearing)

abbrev pub sends_bearing : (ℕ → ℕ) → Leg → Leg
sends_bearing g l = with_bearing l (sent_bearing g l.bearing)

-- the view by declination d
abbrev pub declination_shows : ℕ → Leg → Leg
declination_shows d l = shows_bearing (turned d) l

abbrev pub declination_sends : ℕ → Leg → Leg
declination_sends d l = sends_bearing (turned_back d) l

-- the mirrored view
abbrev pub mirrored_shows : Leg → Leg
mirrored_shows l = shows_bearing mirrored l

abbrev pub mirrored_sends : Leg → Leg
mirrored_sends l = sends_bearing mirrored l

-- the reversed view: each leg from its other end
abbrev pub reversed_shows : Leg → Leg
reversed_shows l = swapped l (opposite l.bearing)

abbrev pub reversed_sends : Leg → Leg
reversed_sends l = swapped l (sent_bearing opposite l.bearing)
