-- The marked ends are the lowest of the sources and sinks, and the rank of such an end, counted on from the faces, is its node.
use Rattle.std.proofs.Common.{◌≡◌, ℕ, ◌+◌, ◌<◌, ◌≤◌, Bool, false, ◌&&◌, eqb, List, get_or, ap, ◌∙◌, arith, rules}
use Rattle.std.proofs.iter.Serving.{serving}
use Rattle.survey.specs.declared.leg.Leg.{Leg}
use Rattle.survey.specs.Ends.{ends}
use Rattle.embedding.specs.Rotation.{faces}
use Rattle.embedding.specs.Tables.{Holds}
use Rattle.embedding.proofs.Reached.{count_bound}
use Rattle.embedding.proofs.Telling.{holds_told}
use Rattle.shape.specs.Shapes.{switch}
use Rattle.shape.specs.Nodes.{names_face, names_switch, lowest_at, switch_node}
use Rattle.network.specs.Tables.{rank}
use Rattle.network.proofs.Counts.{rank_all, ranked}
use Rattle.network.proofs.Lowest.{lowest_le, lowest_first}
use Rattle.network.proofs.numbering.number_switches.Goals as goal

-- marked where the tables say so, an end names its source or sink
marked : (legs : List Leg) (lowest : List ℕ) (switches marks : List Bool) → Holds 0 (lowest_at legs) lowest (ends legs) → Holds false (switch legs) switches (ends legs) → Holds false (λ e. eqb (get_or lowest e 0) e && get_or switches e false) marks (ends legs) → Holds false (names_switch legs) marks (ends legs)
marked legs lowest switches marks h s m e l =
    let a : eqb (get_or lowest e 0) e ≡ eqb (lowest_at legs e) e = ap (λ (f : ℕ). eqb f e) (h e l) in
    let b = a ∙ lowest_first legs e l in
    m e l ∙ (λ t. b t && s e l t)

pub table-nodes-requires : goal.table-nodes-requires
table-nodes-requires c =
    let legs = c.args.cave.now.legs.now in
    let f = count_bound (names_face legs) (ends legs) in
    let small : (k : ℕ) → k < c.ends-n.result → get_or c.fill_ranks-count.new.ranks k 0 ≤ 512 = λ k l. let a = c.fill_ranks-count.ensures.each k l in let b = count_bound (λ j. get_or c.table-marks.result j false) k in omega arith in
    let low : (e : ℕ) → e < c.ends-n.result → get_or c.lowest-lowest.result e 0 < c.ends-n.result = λ e l. let a = c.lowest-lowest.ensures e (omega arith) in let b = lowest_le legs e (omega arith) in omega arith in
    let faces : c.args.faces ≤ 512 = omega arith in
    grind (serving, small, low)

pub overflow_add-result : goal.overflow_add-result
overflow_add-result c =
    let legs = c.args.cave.now.legs.now in
    let f = count_bound (names_face legs) (ends legs) in
    let r = count_bound (λ j. get_or c.table-marks.result j false) c.ends-n.result in
    search rules

pub returns : goal.returns
returns c =
    let legs = c.args.cave.now.legs.now in
    let n = ends legs in
    let told = holds_told false (λ e. eqb (get_or c.lowest-lowest.result e 0) e && get_or c.args.switches.now e false) n (omega arith) c.table-marks.ensures.told (λ e v l p. search rules) in
    let m = marked legs c.lowest-lowest.result c.args.switches.now c.table-marks.result c.lowest-lowest.ensures c.requires.switches told in
    let each : Holds 0 (rank c.table-marks.result) c.fill_ranks-count.new.ranks n = λ e l. c.fill_ranks-count.ensures.each e (omega arith) in
    record {
      count = λ i. c.requires.faces i + (c.fill_ranks-count.ensures.total ∙ ap (rank c.table-marks.result) c.ends-n.ensures ∙ rank_all (names_switch legs) c.table-marks.result n m) i;
      nodes = holds_told 0 (switch_node legs) _ (omega arith) c.table-nodes.ensures.told (λ e v l p.
          let said : v ≡ c.args.faces + get_or c.fill_ranks-count.new.ranks (get_or c.lowest-lowest.result e 0) 0 = search rules in
          let a = c.lowest-lowest.ensures e (omega arith) in
          let b = lowest_le legs e (omega arith) in
          said
          ∙ (λ i. c.requires.faces i + get_or c.fill_ranks-count.new.ranks (a i) 0)
          ∙ ap (λ (x : ℕ). faces legs + x) (ranked (names_switch legs) c.table-marks.result n m c.fill_ranks-count.new.ranks (lowest_at legs e) each (omega arith)));
    }
