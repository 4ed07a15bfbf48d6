-- The leg sent down meets what the leg given meets in the list shown.
use Rattle.std.proofs.Common.{rules}
use Rattle.view_laws.proofs.Shown.{enter_answer_shown, enter_legs_shown}
use Rattle.views.proofs.ViewedSurvey.enter.Goals as goal

pub returns-clause-answer : goal.returns-clause-answer
returns-clause-answer g c =
    let s = c.args.self.now in
    let e = enter_answer_shown (g.V.View.laws s.view) (g.S.Survey.legs s.below) (g.S.Survey.enters s.below) c.args.leg (g.S.Survey.valid s.below) in search rules

pub returns-clause-list : goal.returns-clause-list
returns-clause-list g c =
    let s = c.args.self.now in
    let e = enter_legs_shown (g.V.View.laws s.view) (g.S.Survey.legs s.below) (g.S.Survey.enters s.below) c.args.leg (g.S.Survey.valid s.below) in search rules
