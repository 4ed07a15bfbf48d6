-- One face more has its units.
use Rattle.std.proofs.Common.{◌≡◌, ℕ, ◌<◌, true, ℤ, pos, negsuc, get_or, set, sym, ap, ◌∙◌, subst, arith, rules, w64, SFits}
use mathlib.Core.Path.{transport}
use lib.Signed.{le_z}
use Rattle.std.proofs.lemmas.Bool.{eq-eqb, ne_eqb}
use Rattle.std.proofs.lemmas.Int.{to_z-of_z}
use Rattle.survey.specs.Counting.{count}
use Rattle.survey.specs.Ends.{ends}
use Rattle.embedding.specs.Rotation.{face}
use Rattle.embedding.specs.Tables.{Holds}
use Rattle.embedding.proofs.Reached.{count_bound}
use Rattle.cycles.proofs.Tables.{holds_more, count_yes, count_no}
use Rattle.shape.specs.Nodes.{names_face, above, beneath}
use Rattle.search.specs.declared.Demand.{Demand}
use Rattle.search.specs.Demands.{no_demand}
use Rattle.network.specs.Tables.{plan_demand}
use Rattle.network.proofs.Numbers.{wants_at, gives_at, demand_high, demand_low}
use Rattle.network.proofs.demands.fill_face_units.Goals as goal
use Rattle.network.proofs.demands.fill_face_units.Goals.{then-face-e, else-face-e}

pub above-requires : goal.above-requires
above-requires c =
    let cave = c.args.nodes.now.faces.rotation.cave in
    let fits : SFits w64 (get_or c.demands-by_end.result c.loop-e.e (pos 0)) = search rules in
    let d = c.demands-by_end.ensures c.loop-e.e (omega arith) in
    subst (λ (d : ℤ). le_z d (pos 1000) ≡ true) (sym (to_z-of_z w64 _ fits ∙ d)) (demand_high cave.legs.now cave.few c.args.outer c.loop-e.e)

pub beneath-requires : goal.beneath-requires
beneath-requires c =
    let cave = c.args.nodes.now.faces.rotation.cave in
    let fits : SFits w64 (get_or c.demands-by_end.result c.loop-e.e (pos 0)) = search rules in
    let d = c.demands-by_end.ensures c.loop-e.e (omega arith) in
    subst (λ (d : ℤ). le_z (negsuc 999) d ≡ true) (sym (to_z-of_z w64 _ fits ∙ d)) (demand_low cave.legs.now cave.few c.args.outer c.loop-e.e)

pub bounds-demands-of_face : goal.bounds-demands-of_face
bounds-demands-of_face c =
    let legs = c.args.nodes.now.faces.rotation.cave.legs.now in
    let a = count_bound (names_face legs) (face legs c.loop-e.e) in
    let q = c.face.ensures.named in
    omega arith

pub loop-e-preserved : goal.loop-e-preserved
loop-e-preserved c =
    let cave = c.args.nodes.now.faces.rotation.cave in
    let legs = cave.legs.now in
    let outer = c.args.outer in
    let e = c.loop-e.e in
    let l : e < ends legs = omega arith in
    let k = count (names_face legs) e in
    elim c.if-face-e.branch [
      | then-face-e w ↦
          (let t : face legs e ≡ e = sym c.face.ensures.named ∙ w.if-face-e.true in
          let y = count_yes (names_face legs) e (eq-eqb (face legs e) e t) in
          let v : w.of_face.result ≡ k = w.of_face.ensures ∙ ap (count (names_face legs)) t in
          let b = count_bound (names_face legs) e in
          let fits : SFits w64 (get_or c.demands-by_end.result e (pos 0)) = search rules in
          let d = to_z-of_z w64 _ fits ∙ c.demands-by_end.ensures e l in
          let new : Demand = record { wants = w.above.result; gives = w.beneath.result } in
          let wants = w.above.ensures ∙ ap above d ∙ sym (wants_at legs cave.valid e l t outer) in
          let gives = w.beneath.ensures ∙ ap beneath d ∙ sym (gives_at legs cave.valid e l t outer) in
          let x = holds_more no_demand (plan_demand legs outer) c.loop-e.demands k new (omega arith) c.loop-e.invariant (λ i. record { wants = wants i; gives = gives i }) in
          transport (λ i. Holds no_demand (plan_demand legs outer) (sym (w.demands-is ∙ ap (λ n. set c.loop-e.demands n new) v) i) (sym y i)) x)
      | else-face-e w ↦
          (let y = count_no (names_face legs) e (ne_eqb (face legs e) e (λ z. w.if-face-e.false (c.face.ensures.named ∙ z))) in
          transport (λ i. Holds no_demand (plan_demand legs outer) (sym w.demands-is i) (sym y i)) c.loop-e.invariant)
    ]

pub returns : goal.returns
returns c =
    let legs = c.args.nodes.now.faces.rotation.cave.legs.now in
    let q : c.loop-e.e ≡ ends legs = omega arith in
    subst (λ (n : ℕ). Holds no_demand (plan_demand legs c.args.outer) c.loop-e.demands (count (names_face legs) n)) q c.loop-e.invariant
