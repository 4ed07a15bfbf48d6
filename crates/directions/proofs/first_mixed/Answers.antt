-- Fresh places hold 0, and the chain finds the lowest end whose station has more than two changes.
use Rattle.std.proofs.Common.{◌≡◌, ℕ, ◌<◌, ◌≤◌, Bool, true, false, not, leb, List, get_or, ap, ◌∙◌, arith, rules, tests}
use Rattle.std.proofs.lemmas.Bool.Decides.{nat_tests}
use Rattle.std.proofs.lemmas.Iterator.{first_from_Range}
use Rattle.std.proofs.lemmas.List.{get_or-replicate}
use Rattle.survey.specs.declared.leg.Leg.{Leg}
use Rattle.survey.specs.Ends.{ends, station}
use Rattle.survey.specs.Model.{valid_legs}
use Rattle.embedding.specs.Walks.{seek, below}
use Rattle.embedding.specs.Demands.{turns_over, bimodal_at, changes}
use Rattle.embedding.specs.Tables.{Holds}
use Rattle.embedding.proofs.Distinct.{station_lt}
use Rattle.cycles.proofs.Seeking.{find_seeks}
use Rattle.directions.specs.Tallies.{chosen_at}
use Rattle.directions.proofs.Chosen.{changes_chosen}
use Rattle.directions.proofs.first_mixed.Goals as goal

-- what the tally at the end's station says
told : (legs : List Leg) (chosen : List Bool) (tallies : List ℕ) (e : ℕ) → valid_legs legs ≡ true → Holds false (turns_over legs) chosen (ends legs) → Holds 0 (chosen_at legs chosen) tallies 10000 → e < ends legs → get_or tallies (station legs e) 0 ≡ changes legs e
told legs chosen tallies e valid h m l = m (station legs e) (station_lt legs e valid l) ∙ changes_chosen legs chosen h e

more : (m n : ℕ) → m ≡ n → 2 < m → not (leb n 2) ≡ true
more m n q l = grind (arith, nat_tests)

few : (m n : ℕ) → m ≡ n → m ≤ 2 → not (leb n 2) ≡ false
few m n q l = grind (arith, nat_tests)

pub tally_stations-requires-clause-blank : goal.tally_stations-requires-clause-blank
tally_stations-requires-clause-blank c e l = get_or-replicate 10000 e 0 0 l

pub returns : goal.returns
returns c =
    let cave = c.args.rotation.now.cave in
    let legs = cave.legs.now in
    let n = c.ends.result in
    let tallies = c.tally_stations.new.tallies in
    let p : ℕ → Bool = λ e. not (bimodal_at legs e) in
    let Yes : ℕ → Type 0 = λ e. e < n → p e ≡ true in
    let No : ℕ → Type 0 = λ e. e < n → p e ≡ false in
    let at = λ (e : ℕ) (l : e < n). told legs c.turns.result tallies e cave.valid c.turns.ensures c.tally_stations.ensures (omega arith) in
    find_seeks p n c.find.result
    (first_from_Range _ _ _ c.find.result Yes No c.find.ensures.ran
    (λ x q k l. let t : 2 < get_or tallies (station legs x) 0 = search (rules, tests) in more _ _ (at x l) t)
    (λ x q k. (search (rules, tests), λ l. let t : get_or tallies (station legs x) 0 ≤ 2 = search (rules, tests) in few _ _ (at x l) t)))
    ∙ ap (λ n. below n (seek p 0 n)) c.ends.ensures
