-- The numbers of a text: runs of digits, whatever parts them.
use Rattle.std.specs.Prelude.{ℕ, ◌+◌, ◌-◌, ◌*◌, ◌^◌, min, Bool, not, List, drop, fold}
use Rattle.std.specs.Char.{is_ascii_digit}
use Rattle.std.specs.List.{before_first, position_or_len}

abbrev pub no_digit : ℕ → Bool
no_digit b = not (is_ascii_digit b)

-- a text from its first digit on
abbrev pub from_digit : List ℕ → List ℕ
from_digit bs = drop (position_or_len is_ascii_digit bs) bs

-- the first digits of a text
abbrev pub first_digits : List ℕ → List ℕ
first_digits bs = before_first no_digit (from_digit bs)

-- a text from what parts its first digits from the next on
abbrev pub after_digits : List ℕ → List ℕ
after_digits bs = drop (position_or_len no_digit (from_digit bs)) (from_digit bs)

-- the number that digits make in base ten, at most 2 ^ 64 - 1
abbrev pub number : List ℕ → ℕ
number bs = fold (λ n b. min (min (n * 10) (2 ^ 64 - 1) + (b - 48)) (2 ^ 64 - 1)) 0 bs

-- the first number of a text, 0 where there is none
abbrev pub first_number : List ℕ → ℕ
first_number bs = number (first_digits bs)
