-- The three views are views.
use Rattle.view_laws.specs.Laws.{ThreeViews}
use Rattle.view_laws.proofs.Bearings.{turns_laws, declination_turns, mirror_turns}
use Rattle.view_laws.proofs.Swapped.{reversed_laws}

pub three_laws : ThreeViews
three_laws = record { declination = λ d. turns_laws (declination_turns d); mirror = turns_laws mirror_turns; reversal = reversed_laws }
