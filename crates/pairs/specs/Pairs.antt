-- Numbers in pairs: 2k and 2k + 1.
use Rattle.std.specs.Prelude.{ℕ, ◌+◌, ◌-◌, ◌%◌, cond, ◌==◌}

-- the other number of a pair
abbrev pub twin : ℕ → ℕ
twin i = cond (i % 2 == 0) (i + 1) (i - 1)
