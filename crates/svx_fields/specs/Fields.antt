-- The fields of a leg: which bytes make a station, a compass reading, a tape or clino reading, and what they tell.
use Rattle.std.specs.Prelude.{ℕ, ◌+◌, ◌-◌, ◌*◌, Bool, true, false, cond, not, ◌&&◌, ◌||◌, List, [], ◌∷◌, length, drop, Some, None, Option, ◌==◌, nat_le}
use Rattle.std.specs.List.{list_all, fold, before_first, position_or_len}

abbrev pub digit : ℕ → Bool
digit b = nat_le 48 b && nat_le b 57

abbrev pub all_digits : List ℕ → Bool
all_digits bs = list_all digit bs

-- the number that digits make in base ten
abbrev pub number : List ℕ → ℕ
number bs = fold (λ n b. n * 10 + (b - 48)) 0 bs

-- one to four digits, the first not 0
abbrev pub is_station : List ℕ → Bool
is_station [] = false
is_station (b ∷ bs) = not (b == 48) && (all_digits (b ∷ bs) && nat_le (length bs) 3)

abbrev pub station_field : List ℕ → Option ℕ
station_field bs = cond (is_station bs) (Some (number bs)) None

-- what stands before the point, and the rest from the point on
abbrev pub point : ℕ → Bool
point b = b == 46

abbrev pub whole_part : List ℕ → List ℕ
whole_part bs = before_first point bs

abbrev pub from_point : List ℕ → List ℕ
from_point bs = drop (position_or_len point bs) bs

-- one digit to so many
abbrev pub some_digits : (most : ℕ) → List ℕ → Bool
some_digits most bs = nat_le 1 (length bs) && (nat_le (length bs) most && all_digits bs)

-- nothing, or a point and one digit to so many
abbrev pub fraction : (most : ℕ) → List ℕ → Bool
fraction most [] = true
fraction most (b ∷ bs) = some_digits most bs

-- one digit to `most`, then optionally a point and one digit to `decimals`
abbrev pub amount : (most decimals : ℕ) → List ℕ → Bool
amount most decimals bs = some_digits most (whole_part bs) && fraction decimals (from_point bs)

-- a reading with at most one decimal, in tenths
abbrev pub tenths : List ℕ → ℕ
tenths bs = number (whole_part bs) * 10 + number (drop 1 (from_point bs))

-- degrees up to 359.9, told in tenths
abbrev pub compass_field : List ℕ → Option ℕ
compass_field bs = cond (amount 3 1 bs && nat_le (tenths bs) 3599) (Some (tenths bs)) None

-- the bytes after an optional + or -
abbrev pub after_sign : List ℕ → List ℕ
after_sign [] = []
after_sign (b ∷ bs) = cond (b == 43 || b == 45) bs (b ∷ bs)

-- tape and clino
abbrev pub reading_field : List ℕ → Bool
reading_field bs = amount 4 2 (after_sign bs)
