-- The changes that a view sends down.
use Rattle.survey.specs.declared.leg.Leg.{Leg}
use Rattle.survey.specs.declared.leg.Change.{Change}
use Rattle.survey.specs.declared.leg.Change.TheVariants.{Enter, Strike, Amend}

-- a leg goes down as the view sends it, and ranges as they are
abbrev pub sent : (Leg → Leg) → Change → Change
sent sends (Enter l) = Enter (sends l)
sent sends (Strike start end) = Strike start end
sent sends (Amend start end x) = Amend start end x
