-- The rotation of a station, and the faces: closed walks that keep the face on their left.
use Rattle.std.specs.Prelude.{ℕ, ◌+◌, ◌-◌, ◌*◌, ◌%◌, cond, List, nat_eq}
use Rattle.survey.specs.declared.leg.Leg.{Leg}
use Rattle.survey.specs.Counting.{count}
use Rattle.survey.specs.Ends.{ends, outgoing, bearing, same_station}
use Rattle.embedding.specs.Walks.{cheapest, lowest}

-- the other end of an end's leg
abbrev pub twin : ℕ → ℕ
twin e = cond (outgoing e) (e + 1) (e - 1)

-- the clockwise gap from one bearing to another, 1 to 3600: from a bearing to itself it is a whole turn
abbrev pub gap : ℕ → ℕ → ℕ
gap b b' = (b' + 3599 - b) % 3600 + 1

-- the end that follows in the rotation of its station: the nearest one clockwise
unfoldable pub next : List Leg → ℕ → ℕ
next legs e = cheapest (same_station legs e) (λ k. gap (bearing legs e) (bearing legs k)) e (ends legs)

-- one step of a face walk: out along the leg of e, then on by the end that follows there
abbrev pub face_step : List Leg → ℕ → ℕ
face_step legs e = next legs (twin e)

-- the face of an end, which lies on the left as one goes out along it, named by the least end of its walk
unfoldable pub face : List Leg → ℕ → ℕ
face legs e = lowest (face_step legs) (ends legs) e

-- the number of faces: each counts by the end that names it
abbrev pub faces : List Leg → ℕ
faces legs = count (λ e. nat_eq (face legs e) e) (ends legs)

-- the angle of an end is the gap from it to the end after it, and lies in the face of that end
abbrev pub angle_face : List Leg → ℕ → ℕ
angle_face legs e = face legs (next legs e)

-- the end whose face is on a side of a leg: side 0 is its left, side 1 its right
abbrev pub side_end : (leg side : ℕ) → ℕ
side_end leg side = 2 * leg + side
