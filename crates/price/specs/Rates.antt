-- What each tariff asks for one bend, by the weight of the leg and its wet flag.
use Rattle.std.specs.Prelude.{ℕ, cond, pos, ◌==◌}
use Rattle.price.specs.declared.Plain.{Plain}
use Rattle.price.specs.declared.Ranked.{Ranked}
use Rattle.price.specs.Amounts.{plain, ranked}

-- the weight itself
abbrev pub plain_rate : (weight wet : ℕ) → Plain
plain_rate weight wet = plain (pos weight)

-- the weight of a wet leg counts first, that of a dry one second
abbrev pub ranked_rate : (weight wet : ℕ) → Ranked
ranked_rate weight wet = cond (wet == 1) (ranked (pos weight) (pos 0)) (ranked (pos 0) (pos weight))
