-- Searches below a bound, over plain numbers.
use Rattle.std.specs.Prelude.{ℕ, zero, suc, ◌+◌, Bool, true, cond, ◌&&◌}

-- how many numbers below k pass
abbrev pub count : (ℕ → Bool) → ℕ → ℕ
count p zero = 0
count p (suc k) = cond (p k) 1 0 + count p k

-- every number below k passes
abbrev pub every : (ℕ → Bool) → ℕ → Bool
every p zero = true
every p (suc k) = p k && every p k
