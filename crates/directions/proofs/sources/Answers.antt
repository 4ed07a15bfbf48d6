-- A station without incoming ends is a source.
use Rattle.std.proofs.Common.{false, not, ◌∙◌, arith, rules}
use Rattle.survey.specs.Ends.{outgoing}
use Rattle.embedding.proofs.Telling.{holds_told}
use Rattle.directions.proofs.Chosen.{none_incoming}
use Rattle.directions.proofs.sources.Goals as goal

pub returns : goal.returns
returns c e l = c.without.ensures e l ∙ none_incoming c.args.cave.now.legs.now _ (holds_told false (λ e. not (outgoing e)) _ (omega arith) c.table-incoming.ensures.told (λ e v l p. search rules)) e
