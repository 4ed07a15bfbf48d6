-- One leg more has the new attributes.
use Rattle.std.proofs.Common.{rules}
use Rattle.std.proofs.lemmas.List.Edits.{map_over_more}
use Rattle.survey.specs.Model.{with_attributes}
use Rattle.leg_slice.proofs.amend_all.Goals as goal

pub loop-leg-preserved : goal.loop-leg-preserved
loop-leg-preserved c = search (rules, map_over_more (with_attributes c.args.attributes))
