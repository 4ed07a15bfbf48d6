-- Searches below a bound and walks, over plain numbers.
use Rattle.std.specs.Prelude.{ℕ, zero, suc, min, Bool, false, cond, ◌&&◌, ◌||◌, Option, Some, None, nat_lt}

-- among the numbers below k that pass, the one of least cost, or b where none costs less than b
abbrev pub cheapest : (ℕ → Bool) → (ℕ → ℕ) → ℕ → ℕ → ℕ
cheapest p cost b zero = b
cheapest p cost b (suc k) = let r = cheapest p cost b k in cond (p k && nat_lt (cost k) (cost r)) k r

-- some number below k passes
abbrev pub some : (ℕ → Bool) → ℕ → Bool
some p zero = false
some p (suc k) = p k || some p k

-- the lowest of the k numbers from i on that passes, or the one after them
abbrev pub seek : (ℕ → Bool) → ℕ → ℕ → ℕ
seek p i zero = i
seek p i (suc k) = cond (p i) i (seek p (suc i) k)

-- f done k times
abbrev pub iter : (ℕ → ℕ) → ℕ → ℕ → ℕ
iter f zero e = e
iter f (suc k) e = f (iter f k e)

-- the least number met in k steps from e
abbrev pub lowest : (ℕ → ℕ) → ℕ → ℕ → ℕ
lowest f zero e = e
lowest f (suc k) e = min (iter f (suc k) e) (lowest f k e)

-- a number where it is below the bound, else none
abbrev pub below : (n i : ℕ) → Option ℕ
below n i = cond (nat_lt i n) (Some i) None
