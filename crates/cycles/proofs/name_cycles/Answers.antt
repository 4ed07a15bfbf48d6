-- One number more: it names its cycle, or has a name already.
use Rattle.std.proofs.Common.{ℕ, ◌+◌, List, sym, subst, arith, rules}
use Rattle.embedding.specs.Tables.{Holds}
use Rattle.embedding.proofs.Telling.{holds_told}
use Rattle.cycles.specs.Cycles.{named_below}
use Rattle.cycles.proofs.Naming.{named_none, named_skip, named_all}
use Rattle.cycles.proofs.name_cycles.Goals as goal
use Rattle.cycles.proofs.name_cycles.Goals.{then-names-e, else-names-e}

pub loop-e-init : goal.loop-e-init
loop-e-init c = named_none c.args.steps.now c.args.n c.requires.permutes _ (holds_told 0 (λ _. c.args.n) c.args.n (omega arith) c.fill.ensures.told (λ e v l p. search rules))

pub loop-e-preserved : goal.loop-e-preserved
loop-e-preserved c =
    elim c.if-names-e.branch [
      | then-names-e w ↦ subst (λ (xs : List ℕ). Holds 0 (named_below c.args.steps.now c.args.n (c.loop-e.e + 1)) xs c.args.n) (sym w.names-is) w.name_cycle.ensures
      | else-names-e w ↦ subst (λ (xs : List ℕ). Holds 0 (named_below c.args.steps.now c.args.n (c.loop-e.e + 1)) xs c.args.n) (sym w.names-is)
          (named_skip c.args.steps.now c.args.n c.requires.permutes c.loop-e.e c.loop-e.names (omega arith) w.if-names-e.false c.loop-e.invariant)
    ]

pub returns : goal.returns
returns c = named_all c.args.steps.now c.args.n c.requires.permutes c.loop-e.e _ (omega arith) c.loop-e.invariant
