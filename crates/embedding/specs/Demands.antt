-- Directions round a station, the demands of faces, and when an embedding is bimodal and planar.
use Rattle.std.specs.Prelude.{ℕ, ◌+◌, Bool, cond, not, ◌&&◌, ◌||◌, List, length, ℤ, pos, ◌+ℤ◌, ◌-ℤ◌, ◌==◌, nat_le}
use Rattle.std.specs.Bool.{beq}
use Rattle.survey.specs.declared.leg.Leg.{Leg}
use Rattle.survey.specs.Counting.{count, every}
use Rattle.survey.specs.Ends.{ends, outgoing, same_station, stations}
use Rattle.embedding.specs.Rotation.{next, faces, angle_face}

-- all ends at the station of e are outgoing
abbrev pub source : List Leg → ℕ → Bool
source legs e = every (λ k. not (same_station legs e k) || outgoing k) (ends legs)

-- all ends at the station of e are incoming
abbrev pub sink : List Leg → ℕ → Bool
sink legs e = every (λ k. not (same_station legs e k) || not (outgoing k)) (ends legs)

-- e and the end after it have different directions
abbrev pub turns_over : List Leg → ℕ → Bool
turns_over legs e = not (beq (outgoing e) (outgoing (next legs e)))

-- how often the direction changes round the station of e
abbrev pub changes : List Leg → ℕ → ℕ
changes legs e = count (λ k. turns_over legs k && same_station legs e k) (ends legs)

-- the station of e is bimodal: outgoing and incoming ends do not alternate
abbrev pub bimodal_at : List Leg → ℕ → Bool
bimodal_at legs e = nat_le (changes legs e) 2

-- the two ends of the angle of e are both outgoing; in a rotation of one end they are that same end
abbrev pub source_switch : List Leg → ℕ → Bool
source_switch legs e = outgoing e && outgoing (next legs e)

-- the number of source switches among the angles in face f
abbrev pub source_switches : List Leg → ℕ → ℕ
source_switches legs f = count (λ e. source_switch legs e && angle_face legs e == f) (ends legs)

-- the demand of face f, one outer face given: an inner directed loop has demand -1
abbrev pub demand : List Leg → (outer f : ℕ) → ℤ
demand legs outer f = cond (f == outer) (pos (source_switches legs f) +ℤ pos 1) (pos (source_switches legs f) -ℤ pos 1)

-- by Euler's formula
abbrev pub planar : List Leg → Bool
planar legs = stations legs + faces legs == length legs + 2
