-- A station without outgoing ends is a sink.
use Rattle.std.proofs.Common.{false, ◌∙◌, arith, rules}
use Rattle.survey.specs.Ends.{outgoing}
use Rattle.embedding.proofs.Telling.{holds_told}
use Rattle.directions.proofs.Chosen.{none_outgoing}
use Rattle.directions.proofs.sinks.Goals as goal

pub returns : goal.returns
returns c e l = c.without.ensures e l ∙ none_outgoing c.args.cave.now.legs.now _ (holds_told false outgoing _ (omega arith) c.table-outgoing.ensures.told (λ e v l p. search rules)) e
