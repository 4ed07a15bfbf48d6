-- A table with a range struck is still a valid one.
use Rattle.std.proofs.Common.{rules, ◌≡◌, true, ap, ◌∙◌, arith}
use Rattle.refusal.specs.Answers.{accepted}
use Rattle.survey.specs.Model.{valid_legs, strike_answer}
use Rattle.survey.proofs.Accepted.{striking}
use Rattle.survey.proofs.Valid.{valid_struck}
use Rattle.table.specs.Tables.{table_legs}
use Rattle.table.proofs.SurveyTableSurvey.strike.Goals as goal

pub invariant_of-self : goal.invariant_of-self
invariant_of-self c =
    let t = c.args.self.now in
    let d : accepted ≡ strike_answer t.count true c.args.start c.args.end = search rules in
    let r = striking t.count true c.args.start c.args.end d in
    record { full = omega arith; small = omega arith; valid = ap valid_legs c.strike.ensures ∙ valid_struck (table_legs t) c.args.start c.args.end r.ordered t.valid }
