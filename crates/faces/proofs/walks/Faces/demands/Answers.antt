-- Tallied by the faces of their angles, the source switches make the demands.
use Rattle.std.proofs.Common.{◌≡◌, ℕ, ◌<◌, ◌≤◌, Bool, true, false, ◌&&◌, eqb, List, get_or, ap, ◌∙◌, cond, ℤ, pos, ◌+ℤ◌, ◌-ℤ◌, arith, rules}
use Rattle.std.proofs.iter.Serving.{serving}
use Rattle.std.proofs.lemmas.List.{get_or-replicate}
use Rattle.survey.specs.declared.leg.Leg.{Leg}
use Rattle.survey.specs.Ends.{ends}
use Rattle.survey.specs.Model.{valid_legs}
use Rattle.embedding.specs.Rotation.{next, angle_face}
use Rattle.embedding.specs.Demands.{source_switch, source_switches, demand}
use Rattle.embedding.specs.Tables.{Holds}
use Rattle.embedding.proofs.Distinct.{distinct}
use Rattle.embedding.proofs.Following.{next_follows}
use Rattle.embedding.proofs.Faces.{face_lt}
use Rattle.embedding.proofs.Reached.{count_bound}
use Rattle.embedding.proofs.Telling.{holds_told}
use Rattle.cycles.specs.Cycles.{tallied}
use Rattle.cycles.proofs.Tables.{count_same}
use Rattle.faces.proofs.walks.Faces.demands.Goals as goal

-- the tally of the tables is that of the angles
switches_tallied : (legs : List Leg) (keys : List ℕ) (chosen : List Bool) → Holds 0 (angle_face legs) keys (ends legs) → Holds false (source_switch legs) chosen (ends legs) → (f : ℕ) → tallied keys chosen (ends legs) f ≡ source_switches legs f
switches_tallied legs keys chosen h m f = count_same (λ k. get_or chosen k false && eqb (get_or keys k 0) f) (λ e. source_switch legs e && eqb (angle_face legs e) f) (ends legs) (λ k l t. m k l t && eqb (h k l t) f)

-- the demand of a face with so many source switches
abbrev of_switches : Bool → ℕ → ℤ
of_switches outer n = cond outer (pos n +ℤ pos 1) (pos n -ℤ pos 1)

angle_face_lt : (legs : List Leg) → valid_legs legs ≡ true → (e : ℕ) → e < ends legs → angle_face legs e < ends legs
angle_face_lt legs valid e l = face_lt legs (distinct legs valid) (next legs e) (next_follows legs e l).within

tallied_le : (keys : List ℕ) (chosen : List Bool) (n v : ℕ) → tallied keys chosen n v ≤ n
tallied_le keys chosen n v = count_bound (λ k. get_or chosen k false && eqb (get_or keys k 0) v) n

pub tally-requires-clause-inside : goal.tally-requires-clause-inside
tally-requires-clause-inside c k l =
    let cave = c.args.self.now.rotation.cave in
    let a = c.fill_angle_faces.ensures k (omega arith) in
    let b = angle_face_lt cave.legs.now cave.valid k (omega arith) in
    omega arith

pub tally-requires-clause-blank : goal.tally-requires-clause-blank
tally-requires-clause-blank c e l = get_or-replicate 512 e 0 0 l

pub table-requires : goal.table-requires
table-requires c =
    let small : (e : ℕ) → e < 512 → get_or c.tally.new.tallies e 0 ≤ 512 = λ e l. let t = c.tally.ensures e (omega arith) in let b = tallied_le c.fill_angle_faces.new.angles c.fill_source_switches.new.switches c.ends-n.result e in omega arith in
    grind (serving, small)

pub returns : goal.returns
returns c =
    let legs = c.args.self.now.rotation.cave.legs.now in
    let angles = c.fill_angle_faces.new.angles in
    let switches = c.fill_source_switches.new.switches in
    let counted : Holds 0 (source_switches legs) c.tally.new.tallies (ends legs) = λ e l. c.tally.ensures e (omega arith) ∙ ap (λ n. tallied angles switches n e) c.ends-n.ensures ∙ switches_tallied legs angles switches c.fill_angle_faces.ensures c.fill_source_switches.ensures e in
    holds_told (pos 0) (demand legs c.args.outer) _ (omega arith) c.table.ensures.told (λ e v l p.
    let said : v ≡ of_switches (eqb e c.args.outer) (get_or c.tally.new.tallies e 0) = search rules in
    said ∙ ap (of_switches (eqb e c.args.outer)) (counted e (omega arith)))
