-- Nothing is shipped at first; each search ships a unit or shows that there is no flow; at the end the flow is least, or the demands do not add up.
use Rattle.std.proofs.Common.{◌≡◌, ℕ, ◌<◌, List, length, replicate, Option, Some, None, Result, Ok, Err, rules, sym, refl, ap, ◌∙◌, subst, ⊎_elim, arith}
use Rattle.std.specs.Prelude.{⊤}
use Rattle.std.specs.Result.{IsErr}
use Rattle.std.proofs.lemmas.List.{get_or-replicate, get_or_past, length-replicate}
use Rattle.std.proofs.lemmas.Bool.{cases_lt}
use Rattle.price.specs.Laws.{Ops}
use Rattle.search.specs.Demands.{wants_of, gives_of}
use Rattle.search.specs.Networks.{Network, units}
use Rattle.search.specs.Priced.{priced}
use Rattle.search.proofs.Keys.{key}
use Rattle.solve.specs.declared.Infeasible.{Infeasible}
use Rattle.solve.specs.Solutions.{Best, NoFlow, Answered, judged}
use Rattle.solve.proofs.Held.{net_sound}
use Rattle.solve.proofs.Progress.{underway_start, leaves_start, met, unmet}
use Rattle.solve.proofs.solve.Goals as goal

-- no units anywhere, on the sides or past them
none_filled : (flow xs : List ℕ) → flow ≡ replicate (length xs) 0 → (s : ℕ) → units flow s ≡ 0
none_filled flow xs e s =
    ap (λ ys. units ys s) e ∙ ⊎_elim (λ b. get_or-replicate (length xs) s 0 0 b) (λ b. get_or_past (replicate (length xs) 0) s 0 (omega (arith, length-replicate {A = ℕ}))) (cases_lt s (length xs))

-- the outcome is what the first node that wants a unit says
answered_by : {P : Type 0} {ops : Ops P} {n : ℕ} {w : Network P} {p q f : ℕ → ℕ} (unmet : Option ℕ) (r : Result ⊤ Infeasible) → r ≡ judged unmet → ((v : ℕ) → unmet ≡ Some v → NoFlow n w p q) → (unmet ≡ None → Best ops n w p q f) → Answered ops n w p q f r
answered_by {ops = ops} {n} {w} {p} {q} {f} None r e some none = subst (Answered ops n w p q f) (sym e) (none refl)
answered_by {ops = ops} {n} {w} {p} {q} {f} (Some v) r e some none = subst (Answered ops n w p q f) (sym e) (some v refl)

-- an error says that there is no flow
stuck_out : {P : Type 0} (ops : Ops P) (n : ℕ) (w : Network P) (p q f : ℕ → ℕ) (r : Result ⊤ Infeasible) → IsErr r → NoFlow n w p q → Answered ops n w p q f r
stuck_out ops n w p q f (Ok done) e none = absurd (search rules)
stuck_out ops n w p q f (Err e) is none = none

pub loop-came_by-init : goal.loop-came_by-init
loop-came_by-init g c =
    let o = g.T.Price.Price.ops in
    let L = g.met.T.Price.Price.laws in
    let n = c.args.network.now.nodes in
    let sides = c.args.network.now.sides.now in
    let w = priced o g.T.Tariff.rate c.args.network.now in
    let sd = net_sound L g.T.Tariff.rate g.met.T.Tariff.low g.met.T.Tariff.small c.args.network.now in
    let f = units c.fill.new.self in
    let none = none_filled c.fill.new.self c.args.flow.now (c.fill.ensures.after (search rules)) in
    record {
      underway = underway_start L n w (key sides) sd f none;
      leaves = leaves_start L n w (key sides) sd (wants_of c.args.left.now) (gives_of c.args.left.now) f none;
      used = c.make_labels.ensures.used;
      long = refl;
      lender = refl;
    }

pub loop-came_by-preserved : goal.loop-came_by-preserved
loop-came_by-preserved g c = record {
  underway = c.advance.ensures.underway;
  leaves = c.advance.ensures.onward _ _ c.loop-came_by.invariant.leaves;
  used = omega (arith, c.advance.ensures.used, c.loop-came_by.invariant.used);
  long = c.advance.ensures.long ∙ c.loop-came_by.invariant.long;
  lender = c.advance.ensures.lender ∙ c.loop-came_by.invariant.lender;
}

pub returns-in_err-advance-clause-answered : goal.returns-in_err-advance-clause-answered
returns-in_err-advance-clause-answered g c = stuck_out _ _ _ _ _ _ c.from_residual.result c.from_residual.ensures.0 (c.in_err-advance.ensures.stuck _ _ c.loop-came_by.invariant.leaves)

pub returns-in_err-advance-clause-leaves : goal.returns-in_err-advance-clause-leaves
returns-in_err-advance-clause-leaves g c = c.advance.ensures.onward _ _ c.loop-came_by.invariant.leaves

pub returns-clause-answered : goal.returns-clause-answered
returns-clause-answered g c =
    let o = g.T.Price.Price.ops in
    let L = g.met.T.Price.Price.laws in
    let n = c.args.network.now.nodes in
    let sides = c.args.network.now.sides.now in
    let w = priced o g.T.Tariff.rate c.args.network.now in
    let sd = net_sound L g.T.Tariff.rate g.met.T.Tariff.low g.met.T.Tariff.small c.args.network.now in
    let P = wants_of c.args.left.now in
    let Q = gives_of c.args.left.now in
    let inv = c.loop-came_by.invariant in
    let short = wants_of c.loop-came_by.left in
    let over = gives_of c.loop-came_by.left in
    let f = units c.loop-came_by.flow in
    let given : (v : ℕ) → v < n → over v ≡ 0 = λ v b. c.is_giving.ensures.none c.loop-came_by-test.false v (omega (arith, c.requires.inside.1, c.loop-came_by.auto.left)) in
    answered_by c.first_wanting.result c.judge.result c.judge.ensures
    (λ v e. unmet L n w (key sides) sd P Q short over f inv.leaves given v (let b = rw e at c.first_wanting.ensures.bound in omega (arith, c.requires.inside.1, c.loop-came_by.auto.left)) (rw e at c.first_wanting.ensures.some))
    (λ e. met L n w (key sides) sd P Q short over f inv.underway inv.leaves given (λ v b. (rw e at c.first_wanting.ensures.none) v (omega (arith, c.requires.inside.1, c.loop-came_by.auto.left))))
