-- The ends that the chain counts name their faces.
use Rattle.std.proofs.Common.{ℕ, Bool, eqb, get_or, ap, ◌∙◌, arith, rules, tests}
use Rattle.std.proofs.lemmas.Iterator.{YieldsList-from_range}
use Rattle.std.proofs.lemmas.Iterator.Consumers.{YieldsList-from_filter, count_from_yields_List}
use Rattle.std.proofs.lemmas.List.Sums.{length-filter}
use Rattle.survey.specs.Ends.{ends}
use Rattle.embedding.specs.Rotation.{face}
use Rattle.cycles.proofs.Tables.{count_range, count_same}
use Rattle.faces.proofs.count_faces.Goals as goal

pub returns : goal.returns
returns c =
    let legs = c.args.legs.now in
    let n = ends legs in
    let p : ℕ → Bool = λ e. eqb (get_or c.args.faces.now e 0) e in
    count_from_yields_List c.filter.result _ c.count.ensures.ran (YieldsList-from_filter _ p (YieldsList-from_range 0 n n (cc) (omega arith)) c.filter.ensures.closure (λ x r q k. search (rules, tests)))
    ∙ length-filter p _
    ∙ count_range p n
    ∙ count_same p (λ e. eqb (face legs e) e) n (λ e l. ap (λ k. eqb k e) (c.requires.named e l))
