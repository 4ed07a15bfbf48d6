-- A range amended below is amended in the list shown.
use Rattle.std.proofs.Common.{rules}
use Rattle.view_laws.proofs.Shown.{amend_legs_shown}
use Rattle.views.proofs.ViewedSurvey.amend.Goals as goal

pub returns-clause-list : goal.returns-clause-list
returns-clause-list g c =
    let s = c.args.self.now in
    let e = amend_legs_shown (g.V.View.laws s.view) (g.S.Survey.legs s.below) (g.S.Survey.amends s.below) c.args.start c.args.end c.args.attributes in search rules
