-- One end more is linked.
use Rattle.std.proofs.Common.{◌≡◌, ℕ, ◌+◌, Some, None, get_or, set, sym, ap, ◌∙◌, subst, arith, rules}
use Rattle.survey.specs.Ends.{station}
use Rattle.embedding.specs.Tables.{Holds}
use Rattle.cycles.proofs.Tables.{holds_more}
use Rattle.rotation.specs.Chains.{last_end, end_before}
use Rattle.rotation.proofs.Chain.{lasts_more}
use Rattle.rotation.proofs.link.Goals as goal

pub loop-e-preserved : goal.loop-e-preserved
loop-e-preserved c =
    let legs = c.args.cave.now.legs.now in
    let e = c.loop-e.e in
    let s = c.station-s.result in
    let q : s ≡ station legs e = c.station-s.ensures.at in
    let v : get_or c.loop-e.lasts s None ≡ end_before legs e = c.loop-e.invariant.lasts s c.station-s.ensures.within ∙ ap (last_end legs e) q in
    record {
      long = search rules;
      room = search rules;
      lasts = subst (λ (x : ℕ). Holds None (last_end legs (e + 1)) (set c.loop-e.lasts x (Some e)) 10000) (sym q) (lasts_more legs e 10000 c.loop-e.lasts (omega arith) c.loop-e.invariant.lasts);
      befores = holds_more None (end_before legs) c.loop-e.befores e (get_or c.loop-e.lasts s None) (omega arith) c.loop-e.invariant.befores v;
    }
