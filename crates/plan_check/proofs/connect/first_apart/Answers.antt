-- The chain finds the lowest leg whose stations are not visited.
use Rattle.std.proofs.Common.{◌≡◌, ℕ, ◌<◌, Bool, true, false, not, length, ap, ◌∙◌, rules, tests}
use Rattle.std.proofs.iter.Serving.{serving}
use Rattle.std.proofs.lemmas.Iterator.{first_from_Range}
use Rattle.embedding.specs.Joins.{joined}
use Rattle.embedding.proofs.Distinct.{leg_stations}
use Rattle.cycles.proofs.Seeking.{find_seeks}
use Rattle.plan_check.specs.Visits.{visited_at, from_at}
use Rattle.plan_check.proofs.Spreading.{visited_is}
use Rattle.plan_check.proofs.connect.first_apart.Goals as goal

pub find-requires-clause-callable : goal.find-requires-clause-callable
find-requires-clause-callable c =
    let stations : (i : ℕ) → i < length c.args.legs.now → from_at c.args.legs.now i < 10000 = λ i l. (leg_stations c.args.legs.now i c.requires.valid l).0 in
    grind (serving, stations)

pub returns : goal.returns
returns c =
    let legs = c.args.legs.now in
    let n = length legs in
    let visited = c.visit_joined-visited.result in
    let p : ℕ → Bool = λ i. not (joined legs i) in
    let Yes : ℕ → Type 0 = λ i. i < n → p i ≡ true in
    let No : ℕ → Type 0 = λ i. i < n → p i ≡ false in
    let at = λ (i : ℕ) (l : i < n). visited_is legs visited c.requires.some c.visit_joined-visited.ensures.sound c.visit_joined-visited.ensures.closed i l in
    find_seeks p n c.find.result
    (first_from_Range _ _ _ c.find.result Yes No c.find.ensures.ran
    (λ x q k l. let t : visited_at visited (from_at legs x) ≡ false = search (rules, tests) in ap not (at x l ∙ t))
    (λ x q k. (search (rules, tests), λ l. let t : visited_at visited (from_at legs x) ≡ true = search (rules, tests) in ap not (at x l ∙ t))))
