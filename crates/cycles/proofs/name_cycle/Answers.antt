-- One step of the walk, and its two ends: back at e, or n steps taken.
use Rattle.std.proofs.Common.{arith}
use Rattle.cycles.proofs.Naming.{walked_none, walked_on, walked_back, walked_long}
use Rattle.cycles.proofs.name_cycle.Goals as goal

pub loop-k-init : goal.loop-k-init
loop-k-init c = walked_none c.args.steps.now c.args.n c.requires.permutes c.args.e c.args.names.now c.requires.inside

pub name_one-at-requires : goal.name_one-at-requires
name_one-at-requires c = let w = c.loop-k.invariant.within in let g = c.loop-k.invariant.long in record { stepped = omega arith; room = omega arith }

pub returns-then-at-e : goal.returns-then-at-e
returns-then-at-e c =
    let r = c.args in
    walked_back r.steps.now r.n c.requires.permutes r.e r.names.now c.requires.inside c.requires.room c.requires.lower c.requires.unnamed c.loop-k.k c.name_one-at.result c.name_one-at.new.names
    (walked_on r.steps.now r.n c.requires.permutes r.e r.names.now c.requires.inside c.requires.room c.requires.lower c.requires.unnamed c.loop-k.k c.loop-k.at c.name_one-at.result c.loop-k.names c.name_one-at.new.names c.loop-k.invariant c.name_one-at.ensures.next c.name_one-at.ensures.named)
    c.if-at-e.true

pub loop-k-preserved : goal.loop-k-preserved
loop-k-preserved c =
    let r = c.args in
    walked_on r.steps.now r.n c.requires.permutes r.e r.names.now c.requires.inside c.requires.room c.requires.lower c.requires.unnamed c.loop-k.k c.loop-k.at c.name_one-at.result c.loop-k.names c.name_one-at.new.names c.loop-k.invariant c.name_one-at.ensures.next c.name_one-at.ensures.named

pub returns : goal.returns
returns c =
    let r = c.args in
    walked_long r.steps.now r.n c.requires.permutes r.e r.names.now c.requires.inside c.requires.room c.requires.lower c.requires.unnamed c.loop-k.k _ _ (omega arith) c.loop-k.invariant
