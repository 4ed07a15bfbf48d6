-- The ends that the chain counts are the first ones of their stations.
use Rattle.std.proofs.Common.{ℕ, Bool, None, get_or, sym, ap, ◌∙◌, arith, rules, tests}
use Rattle.std.proofs.lemmas.Iterator.{YieldsList-from_range}
use Rattle.std.proofs.lemmas.Iterator.Consumers.{YieldsList-from_filter, count_from_yields_List}
use Rattle.std.proofs.lemmas.List.Sums.{length-filter}
use Rattle.survey.specs.Counting.{count}
use Rattle.survey.specs.Ends.{ends, first_at_station}
use Rattle.cycles.proofs.Tables.{count_same, count_range}
use Rattle.rotation.proofs.Chain.{none, first_is}
use Rattle.rotation.proofs.count_firsts.Goals as goal

pub returns : goal.returns
returns c =
    let legs = c.args.cave.now.legs.now in
    let p : ℕ → Bool = λ e. none (get_or c.args.befores.now e None) in
    count_from_yields_List c.filter.result _ c.count.ensures.ran (YieldsList-from_filter _ p (YieldsList-from_range 0 c.ends.result c.ends.result (cc) (omega arith)) c.filter.ensures.closure (λ x r q k. search (rules, tests)))
    ∙ length-filter p _
    ∙ count_range p c.ends.result
    ∙ ap (count p) c.ends.ensures
    ∙ count_same p (first_at_station legs) (ends legs) (λ e l. ap none (c.requires.linked e l) ∙ sym (first_is legs e))
