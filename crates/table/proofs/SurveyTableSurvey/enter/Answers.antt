-- A table with a leg more is still a valid one.
use Rattle.std.proofs.Common.{rules, ◌≡◌, ℕ, ◌+◌, ◌<◌, ◌≤◌, true, ltb, List, length, take, set, ap, ◌∙◌, arith, length-set}
use Rattle.std.proofs.lemmas.List.{take_more_set, length-take-le}
use Rattle.std.proofs.lemmas.Bool.Decides.{nat_tests as tests}
use Rattle.refusal.specs.Answers.{accepted}
use Rattle.survey.specs.declared.leg.Leg.{Leg}
use Rattle.survey.specs.Model.{enter_answer, valid_legs}
use Rattle.survey.proofs.Accepted.{entering}
use Rattle.survey.proofs.Valid.{valid_entered}
use Rattle.table.specs.Tables.{table_legs}
use Rattle.table.proofs.SurveyTableSurvey.enter.Goals as goal

room : (n : ℕ) → ltb n 256 ≡ true → n < 256
room n h = grind (arith, tests)

-- the table with the leg at its end
grown : (xs : List Leg) (n : ℕ) (l : Leg) → length xs ≡ 256 → n ≤ 256 → valid_legs (take n xs) ≡ true → accepted ≡ enter_answer (take n xs) (ltb (length (take n xs)) 256) l
    → (length (set xs n l) ≡ 256) × (n + 1 ≤ 256) × (valid_legs (take (n + 1) (set xs n l)) ≡ true)
grown xs n l f s v d =
    let t = entering (take n xs) (ltb (length (take n xs)) 256) l d in
    let r = room (length (take n xs)) t.may_enter in
    let k : length (take n xs) ≡ n = length-take-le n xs (omega arith) in
    (length-set xs n l ∙ f, omega arith, ap valid_legs (take_more_set xs n l (omega arith)) ∙ valid_entered (take n xs) l v t.valid t.free)

pub invariant_of-self : goal.invariant_of-self
invariant_of-self c =
    let t = c.args.self.now in
    let d : accepted ≡ enter_answer (table_legs t) (ltb (length (table_legs t)) 256) c.args.leg = search rules in
    let g = grown t.legs t.count c.args.leg t.full t.small t.valid d in
    record { full = g.0; small = g.1; valid = g.2 }
