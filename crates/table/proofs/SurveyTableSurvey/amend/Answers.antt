-- A table with a range amended is still a valid one, and holds the model's list.
use Rattle.std.proofs.Common.{rules, ◌≡◌, ℕ, ◌≤◌, true, List, length, take, ap, ◌∙◌, arith}
use Rattle.std.proofs.lemmas.List.{length-take-le}
use Rattle.refusal.specs.Answers.{accepted}
use Rattle.survey.specs.declared.leg.Leg.{Leg}
use Rattle.survey.specs.declared.leg.Attributes.{Attributes}
use Rattle.survey.specs.Model.{valid_legs, amended, amend_answer}
use Rattle.survey.proofs.Accepted.{amending, passes}
use Rattle.survey.proofs.Valid.{valid_amended}
use Rattle.leg_slice.proofs.Front.{front_amended}
use Rattle.table.specs.Tables.{table_legs}
use Rattle.table.proofs.SurveyTableSurvey.amend.Goals as goal

-- the front of the table after an accepted amend
front : (xs ys : List Leg) (n start end : ℕ) (x : Attributes) → n ≤ length xs → accepted ≡ amend_answer n true start end x → ys ≡ amended xs start end x → take n ys ≡ amended (take n xs) start end x
front xs ys n start end x l h e =
    let r = (amending n true start end x h).1 in
    ap (take n) e ∙ front_amended xs start end n x r.ordered r.inside l

pub invariant_of-self : goal.invariant_of-self
invariant_of-self c =
    let t = c.args.self.now in
    let r = c.args in
    let d : accepted ≡ amend_answer t.count true r.start r.end r.attributes = search rules in
    let a = amending t.count true r.start r.end r.attributes d in
    let e = front t.legs c.amend.new.legs t.count r.start r.end r.attributes (omega arith) d c.amend.ensures in
    record { full = omega arith; small = t.small; valid = ap valid_legs e ∙ valid_amended r.attributes a.0 r.start r.end (table_legs t) a.1.ordered t.valid }

pub returns-clause-list : goal.returns-clause-list
returns-clause-list c =
    let t = c.args.self.now in
    let r = c.args in
    let d : accepted ≡ amend_answer t.count true r.start r.end r.attributes = search rules in
    let e = front t.legs c.amend.new.legs t.count r.start r.end r.attributes (omega arith) d c.amend.ensures in
    let n : length (table_legs t) ≡ t.count = length-take-le t.count t.legs (omega arith) in
    let m : accepted ≡ amend_answer (length (table_legs t)) true r.start r.end r.attributes = rw n d in
    e ∙ passes _ _ _ m
