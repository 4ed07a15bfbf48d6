-- A range that passes the check is amended as the model amends it.
use Rattle.std.proofs.Common.{rules, ◌≡◌, true, length, take, ap, ◌∙◌, arith}
use Rattle.std.proofs.lemmas.List.{length-take-le}
use Rattle.refusal.specs.Answers.{accepted}
use Rattle.survey.specs.Model.{amend_answer}
use Rattle.survey.proofs.Accepted.{amending, passes}
use Rattle.leg_slice.proofs.Front.{front_amended}
use Rattle.replay.proofs.amend.Goals as goal

pub returns-then-is_ok : goal.returns-then-is_ok
returns-then-is_ok c =
    let r = c.args in
    let xs = r.legs.now in
    let h : accepted ≡ amend_answer r.count true r.start r.end r.attributes = search rules in
    let a = (amending r.count true r.start r.end r.attributes h).1 in
    let n : length (take r.count xs) ≡ r.count = length-take-le r.count xs (omega arith) in
    let d : accepted ≡ amend_answer (length (take r.count xs)) true r.start r.end r.attributes = rw n h in
    ap (take r.count) c.amend.ensures ∙ front_amended xs r.start r.end r.count r.attributes a.ordered a.inside (omega arith) ∙ passes _ _ _ d
