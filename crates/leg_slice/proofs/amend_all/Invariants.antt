-- The legs before the index have the new attributes, the others are as they were.
use Rattle.std.proofs.Common.{◌≡◌, ◌++◌, map, take, drop}
use Rattle.survey.specs.Model.{with_attributes}
use Rattle.leg_slice.proofs.amend_all.Given as goal

abbrev pub invariant-loop-leg : goal.invariant-loop-leg
invariant-loop-leg l = l.leg-items ≡ map (with_attributes l.attributes) (take l.leg-index l.initial.leg-items) ++ drop l.leg-index l.initial.leg-items
