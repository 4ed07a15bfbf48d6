-- The list of legs that a list of accepted changes makes.
use Rattle.std.specs.Prelude.{true, List, [], fold}
use Rattle.survey.specs.declared.leg.Leg.{Leg}
use Rattle.survey.specs.declared.leg.Change.{Change}
use Rattle.survey.specs.declared.leg.Change.TheVariants.{Enter, Strike, Amend}
use Rattle.survey.specs.Model.{entered, strike_legs, amend_legs}

-- the list after one accepted change; a leg was checked before it was accepted
abbrev pub changed : List Leg → Change → List Leg
changed legs (Enter l) = entered legs l
changed legs (Strike start end) = strike_legs legs true start end
changed legs (Amend start end x) = amend_legs legs true start end x

-- the list after these accepted changes, from an empty one
abbrev pub replayed : List Change → List Leg
replayed changes = fold changed [] changes
