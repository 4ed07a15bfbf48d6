-- The reference model of a survey: for a list of legs, what each call answers and which list it leaves.
use Rattle.std.specs.Prelude.{ℕ, Bool, true, cond, not, ◌&&◌, ◌||◌, List, [], ◌∷◌, ◌++◌, map, length, take, drop, Result, Option, ◌==◌, nat_lt, position, slice_index_or, slice_range}
use Rattle.std.specs.Option.{option_map_or}
use Rattle.refusal.specs.declared.Refusal.{Refusal}
use Rattle.refusal.specs.Answers.{Answer, accepted, answers, refuses, told_by}
use Rattle.survey.specs.declared.leg.Leg.{Leg}
use Rattle.survey.specs.declared.leg.Attributes.{Attributes}
use Rattle.survey.specs.Ends.{no_leg, far_bearing}

-- a leg of weight 1, dry, with limit 999
abbrev pub plain_leg : (from to bearing : ℕ) → Leg
plain_leg s t b = record { from = s; to = t; bearing = b; weight = 1; wet = 0; limit = 999 }

-- a leg told: its six numbers
abbrev pub leg_told : Leg → Answer
leg_told l = answers 0 (l.from ∷ l.to ∷ l.bearing ∷ l.weight ∷ l.wet ∷ l.limit ∷ [])

abbrev pub told_leg : Result Leg Refusal → Answer
told_leg r = told_by leg_told r

abbrev pub is_accepted : Answer → Bool
is_accepted a = a.number == 0

-- the first cause met
abbrev pub or_else : Answer → Answer → Answer
or_else a b = cond (is_accepted a) b a

abbrev pub no_station : ℕ → Bool
no_station n = nat_lt n 1 || nat_lt 9999 n

-- weight, flag and limit: the first that is outside its range
abbrev pub attributes_answer : Attributes → Answer
attributes_answer x =
    cond (nat_lt 1000 x.weight) (refuses 4 1)
    (cond (nat_lt 1 x.wet) (refuses 4 2)
    (cond (nat_lt 999 x.limit) (refuses 4 3) accepted))

abbrev pub attributes_of : Leg → Attributes
attributes_of l = record { weight = l.weight; wet = l.wet; limit = l.limit }

-- the causes that a leg's own numbers meet
abbrev pub leg_answer : Leg → Answer
leg_answer l =
    cond (no_station l.from || no_station l.to) (refuses 1 0)
    (cond (l.from == l.to) (refuses 2 l.from)
    (cond (nat_lt 3599 l.bearing) (refuses 3 l.bearing)
    (attributes_answer (attributes_of l))))

-- two ends stand at one station at equal bearings
abbrev pub coincide : (station bearing station' bearing' : ℕ) → Bool
coincide s b t c = s == t && b == c

-- an end of one leg coincides with an end of the other
abbrev pub clash : Leg → Leg → Bool
clash a l =
    (coincide a.from a.bearing l.from l.bearing || coincide a.from a.bearing l.to (far_bearing l))
    || (coincide a.to (far_bearing a) l.from l.bearing || coincide a.to (far_bearing a) l.to (far_bearing l))

-- the lowest leg that clashes with l, if any
abbrev pub first_clash : List Leg → Leg → Option ℕ
first_clash legs l = position (λ a. clash a l) legs

abbrev pub clash_answer : List Leg → Leg → Answer
clash_answer legs l = option_map_or (refuses 5) (first_clash legs l) accepted

-- legs start to end - 1 of so many
abbrev pub range_answer : (count start end : ℕ) → Answer
range_answer count start end = cond (nat_lt end start || nat_lt count end) (refuses 6 count) accepted

-- the survey allows the call, or not
abbrev pub allowed_answer : (count : ℕ) → Bool → Answer
allowed_answer count may = cond may accepted (refuses 7 count)

-- the list after a call: changed where the call is accepted
abbrev pub if_accepted : Answer → List Leg → List Leg → List Leg
if_accepted a next legs = cond (is_accepted a) next legs

abbrev pub enter_answer : List Leg → (may : Bool) → Leg → Answer
enter_answer legs may l = or_else (leg_answer l) (or_else (clash_answer legs l) (allowed_answer (length legs) may))

abbrev pub entered : List Leg → Leg → List Leg
entered legs l = legs ++ (l ∷ [])

abbrev pub enter_legs : List Leg → (may : Bool) → Leg → List Leg
enter_legs legs may l = if_accepted (enter_answer legs may l) (entered legs l) legs

abbrev pub strike_answer : (count : ℕ) → (may : Bool) → (start end : ℕ) → Answer
strike_answer count may start end = or_else (range_answer count start end) (allowed_answer count may)

-- legs start to end - 1 removed
abbrev pub struck : List Leg → (start end : ℕ) → List Leg
struck legs start end = take start legs ++ drop end legs

abbrev pub strike_legs : List Leg → (may : Bool) → (start end : ℕ) → List Leg
strike_legs legs may start end = if_accepted (strike_answer (length legs) may start end) (struck legs start end) legs

abbrev pub amend_answer : (count : ℕ) → (may : Bool) → (start end : ℕ) → Attributes → Answer
amend_answer count may start end x = or_else (attributes_answer x) (or_else (range_answer count start end) (allowed_answer count may))

-- a leg with other attributes
abbrev pub with_attributes : Attributes → Leg → Leg
with_attributes x l = record { from = l.from; to = l.to; bearing = l.bearing; weight = x.weight; wet = x.wet; limit = x.limit }

-- legs start to end - 1 given other attributes
abbrev pub amended : List Leg → (start end : ℕ) → Attributes → List Leg
amended legs start end x = take start legs ++ (map (with_attributes x) (slice_range legs start end) ++ drop end legs)

abbrev pub amend_legs : List Leg → (may : Bool) → (start end : ℕ) → Attributes → List Leg
amend_legs legs may start end x = if_accepted (amend_answer (length legs) may start end x) (amended legs start end x) legs

-- a query for one leg
abbrev pub query_answer : List Leg → ℕ → Answer
query_answer legs i = cond (nat_lt i (length legs)) (leg_told (slice_index_or legs i no_leg)) (refuses 8 (length legs))

-- a leg whose own numbers are in range
abbrev pub valid_leg : Leg → Bool
valid_leg l = is_accepted (leg_answer l)

-- no leg of the list clashes with l
abbrev pub apart : Leg → List Leg → Bool
apart l [] = true
apart l (a ∷ rest) = not (clash l a) && apart l rest

-- a list that a survey can hold: numbers in range, and no two ends of one station at equal bearings
abbrev pub valid_legs : List Leg → Bool
valid_legs [] = true
valid_legs (a ∷ rest) = (valid_leg a && apart a rest) && valid_legs rest
