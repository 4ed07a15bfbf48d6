-- One end lower is written at its station.
use Rattle.std.proofs.Common.{◌≡◌, ℕ, ◌+◌, ◌-◌, set, sym, subst, arith, length-set}
use Rattle.survey.specs.Ends.{station}
use Rattle.embedding.specs.Tables.{Holds}
use Rattle.network.specs.Tables.{lowest_from}
use Rattle.network.proofs.Lowest.{firsts_none, firsts_less}
use Rattle.network.proofs.numbering.fill_firsts.Goals as goal

pub loop-e-init : goal.loop-e-init
loop-e-init c =
    let legs = c.args.cave.now.legs.now in
    let xs = c.args.firsts.now in
    record {
      long = c.requires.all;
      lowest = subst (λ (n : ℕ). Holds 0 (lowest_from legs n) xs 10000) (sym c.ends-e.ensures) (firsts_none legs 10000 xs c.requires.blank);
    }

pub loop-e-preserved : goal.loop-e-preserved
loop-e-preserved c =
    let legs = c.args.cave.now.legs.now in
    let k = c.loop-e.e - 1 in
    let q : c.loop-e.e ≡ k + 1 = omega arith in
    let s : c.station.result ≡ station legs k = c.station.ensures.at in
    let h = c.station.ensures.within in
    let n = c.loop-e.invariant.long in
    let before = subst (λ (n : ℕ). Holds 0 (lowest_from legs n) c.loop-e.firsts 10000) q c.loop-e.invariant.lowest in
    record {
      long = simp length-set n;
      lowest = subst (λ (x : ℕ). Holds 0 (lowest_from legs k) (set c.loop-e.firsts x k) 10000) (sym s) (firsts_less legs k 10000 c.loop-e.firsts (omega arith) (omega arith) before);
    }
