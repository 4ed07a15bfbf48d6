-- The table holds what its closure says.
use Rattle.std.proofs.Common.{◌≡◌, false, get_or, ◌||◌, ◌∙◌, arith, rules}
use Rattle.shape.specs.Shapes.{switch}
use Rattle.embedding.proofs.Telling.{holds_told}
use Rattle.network.proofs.numbering.switches.Goals as goal

pub returns : goal.returns
returns c =
    holds_told false (switch c.args.cave.now.legs.now) _ (omega arith) c.table.ensures.told (λ e v l p.
    let said : v ≡ (get_or c.sources-sources.result e false || get_or c.sinks-sinks.result e false) = search rules in
    said ∙ (λ t. c.sources-sources.ensures e (omega arith) t || c.sinks-sinks.ensures e (omega arith) t))
