-- What planning a list of legs with an outer side answers: the first cause that is met.
use Rattle.std.specs.Prelude.{ℕ, cond, not, ◌||◌, List, length, ◌==◌, nat_lt}
use Rattle.refusal.specs.Answers.{Answer, accepted, refuses}
use Rattle.survey.specs.declared.leg.Leg.{Leg}
use Rattle.survey.specs.Ends.{ends, station}
use Rattle.survey.specs.Model.{or_else}
use Rattle.embedding.specs.Walks.{seek}
use Rattle.embedding.specs.Rotation.{faces}
use Rattle.embedding.specs.Demands.{bimodal_at, planar}
use Rattle.embedding.specs.Joins.{joined}

-- 1 to 256 legs
abbrev pub count_answer : (count : ℕ) → Answer
count_answer count = cond (count == 0) (refuses 9 0) (cond (nat_lt 256 count) (refuses 10 count) accepted)

-- an outer side: a leg below the count, and 0 for its left or 1 for its right
abbrev pub side_answer : (count leg side : ℕ) → Answer
side_answer count leg side = cond (not (nat_lt leg count) || nat_lt 1 side) (refuses 11 count) accepted

-- the lowest leg that is not joined to leg 0, or the count
abbrev pub first_apart : List Leg → ℕ
first_apart legs = seek (λ i. not (joined legs i)) 0 (length legs)

abbrev pub connected_answer : List Leg → Answer
connected_answer legs = cond (nat_lt (first_apart legs) (length legs)) (refuses 12 (first_apart legs)) accepted

-- the lowest end whose station is not bimodal, or the number of ends
abbrev pub first_mixed : List Leg → ℕ
first_mixed legs = seek (λ e. not (bimodal_at legs e)) 0 (ends legs)

abbrev pub bimodal_answer : List Leg → Answer
bimodal_answer legs = cond (nat_lt (first_mixed legs) (ends legs)) (refuses 13 (station legs (first_mixed legs))) accepted

abbrev pub planar_answer : List Leg → Answer
planar_answer legs = cond (planar legs) accepted (refuses 14 (faces legs))

-- connected, bimodal and planar
abbrev pub embedding_answer : List Leg → Answer
embedding_answer legs = or_else (connected_answer legs) (or_else (bimodal_answer legs) (planar_answer legs))

abbrev pub request_answer : (count leg side : ℕ) → Answer
request_answer count leg side = or_else (count_answer count) (side_answer count leg side)

abbrev pub plan_answer : List Leg → (leg side : ℕ) → Answer
plan_answer legs leg side = or_else (request_answer (length legs) leg side) (embedding_answer legs)
