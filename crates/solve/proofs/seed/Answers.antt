-- One node more is seeded.
use Rattle.std.proofs.Common.{◌≡◌, cond, ltb, List, length, take, sym, ap, ◌∙◌, subst, ⊎_elim, arith, length-set}
use Rattle.std.proofs.lemmas.List.{get_or_past, length-take-le}
use Rattle.std.proofs.lemmas.Bool.{cases_lt, cond-true, cond-false, lt-ltb, le-ltb}
use Rattle.search.specs.declared.Demand.{Demand}
use Rattle.search.specs.declared.Label.{Label}
use Rattle.search.specs.Demands.{no_demand, gives_of}
use Rattle.search.specs.Labels.{label_at, blank}
use Rattle.search.proofs.Sweep.{at_set, front_at}
use Rattle.solve.proofs.seed.Goals as goal
use Rattle.solve.proofs.seed.Goals.{then-demand-gt0, else-demand-gt0}

pub loop-node-preserved : goal.loop-node-preserved
loop-node-preserved g c =
    let o = g.P.Price.ops in
    let over = gives_of c.args.left.now in
    let old = c.loop-node.labels.places.now in
    let new : Label g.row.P.Denot = record { price = c.none.result.price; end = c.if-demand-gt0.end } in
    let end : c.if-demand-gt0.end ≡ cond (ltb 0 (over c.loop-node.node)) 65534 65535 =
    elim c.if-demand-gt0.branch [
      | then-demand-gt0 w ↦ w.end-is ∙ sym (cond-true _ _ _ (lt-ltb 0 _ w.if-demand-gt0.true))
      | else-demand-gt0 w ↦ w.end-is ∙ sym (cond-false _ _ _ (le-ltb 0 _ w.if-demand-gt0.false))
    ] in
    let put = c.set_label.ensures.places in (
      λ k h. subst (λ (ls : List (Label g.row.P.Denot)). ((label_at o ls k).price ≡ o.zero) × ((label_at o ls k).end ≡ cond (ltb 0 (over k)) 65534 65535)) (sym put)
          (⊎_elim
          (λ e. (
            ap (λ (m : Label g.row.P.Denot). m.price) e.1 ∙ ap (λ (m : Label g.row.P.Denot). m.price) c.none.ensures,
            ap (λ (m : Label g.row.P.Denot). m.end) e.1 ∙ end ∙ ap (λ z. cond (ltb 0 (over z)) 65534 65535) (sym e.0),
          ))
          (λ e.
          let ne = e.0 in
          let was = c.loop-node.invariant.0 k (omega arith) in
          (ap (λ (m : Label g.row.P.Denot). m.price) e.1 ∙ was.0, ap (λ (m : Label g.row.P.Denot). m.end) e.1 ∙ was.1))
          (at_set old c.loop-node.node k new (blank o) (omega (arith, c.loop-node.invariant.2, c.loop-node-test.true, c.requires.1)))),
      c.set_label.ensures.used ∙ c.loop-node.invariant.1,
      ap length put ∙ length-set old c.loop-node.node new ∙ c.loop-node.invariant.2,
      c.set_label.ensures.lender ∙ c.loop-node.invariant.3,
    )

pub returns : goal.returns
returns g c =
    let o = g.P.Price.ops in
    let n = length c.args.left.now in
    let places = c.loop-node.labels.places.now in
    record {
      seeded = λ v.
          ⊎_elim
          (λ b.
          let e = front_at o n places v b in
          let was = c.loop-node.invariant.0 v (omega (arith, c.loop-node-test.false)) in
          (ap (λ (m : Label g.row.P.Denot). m.price) e ∙ was.0, ap (λ (m : Label g.row.P.Denot). m.end) e ∙ was.1))
          (λ b.
          let e : label_at o (take n places) v ≡ blank o = get_or_past (take n places) v (blank o) (omega (arith, length-take-le n places (omega (arith, c.loop-node.invariant.2, c.requires.1)))) in
          let z : gives_of c.args.left.now v ≡ 0 = ap (λ (d : Demand). d.gives) (get_or_past c.args.left.now v no_demand b) in
          (ap (λ (m : Label g.row.P.Denot). m.price) e, ap (λ (m : Label g.row.P.Denot). m.end) e ∙ sym (cond-false _ _ _ (le-ltb 0 (gives_of c.args.left.now v) (omega arith)))))
          (cases_lt v n);
      used = c.loop-node.invariant.1;
      long = c.loop-node.invariant.2;
      lender = c.loop-node.invariant.3;
    }
