-- One end of the chain more is looked at.
use Rattle.std.proofs.Common.{◌≡◌, ℕ, suc, List, Option, ap, ◌∙◌, arith}
use Rattle.survey.specs.declared.leg.Leg.{Leg}
use Rattle.survey.specs.Ends.{bearing}
use Rattle.embedding.specs.Rotation.{gap}
use Rattle.rotation.proofs.Chain.{bound}
use Rattle.rotation.proofs.Passed.{Nearest, nearest_none, nearest_takes, nearest_keeps, rest_falls, nearest_all}
use Rattle.rotation.proofs.nearest.Goals as goal
use Rattle.rotation.proofs.nearest.Goals.{then-gap-least, else-gap-least}

as_is : (legs : List Leg) (e : ℕ) (rest : Option ℕ) (b b' l l' : ℕ) → b' ≡ b → l' ≡ l → Nearest legs e rest b l → Nearest legs e rest b' l'
as_is legs e rest b b' l l' p q w = rw (p, q) w

pub loop-rest-init : goal.loop-rest-init
loop-rest-init c = nearest_none c.args.cave.now.legs.now c.args.cave.now.valid c.args.e c.requires.inside c.args.last c.requires.last

pub loop-rest-preserved : goal.loop-rest-preserved
loop-rest-preserved c =
    let legs = c.args.cave.now.legs.now in
    let k = c.in-Some.end in
    let s : bound c.loop-rest.rest ≡ suc k = ap bound c.in-Some.is in
    let l = c.loop-rest.invariant.rest_le in
    let q = c.requires.linked k (omega arith) in
    let g : c.bearing_gap-gap.result ≡ gap (bearing legs c.args.e) (bearing legs k) = c.bearing_gap-gap.ensures ∙ (λ i. gap (c.bearing-from.ensures.at i) (c.bearing.ensures.at i)) in
    elim c.if-gap-least.branch [
      | then-gap-least w ↦ as_is _ _ _ _ _ _ _ w.best-is w.least-is (nearest_takes legs c.args.cave.now.valid c.args.e c.requires.inside k c.loop-rest.best c.loop-rest.least c.loop-rest.rest _ c.loop-rest.invariant s q c.bearing_gap-gap.result g w.if-gap-least.true)
      | else-gap-least w ↦ as_is _ _ _ _ _ _ _ w.best-is w.least-is (nearest_keeps legs c.args.cave.now.valid c.args.e c.requires.inside k c.loop-rest.best c.loop-rest.least c.loop-rest.rest _ c.loop-rest.invariant s q c.bearing_gap-gap.result g w.if-gap-least.false)
    ]

pub loop-rest-smaller : goal.loop-rest-smaller
loop-rest-smaller c =
    let k = c.in-Some.end in
    let s : bound c.loop-rest.rest ≡ suc k = ap bound c.in-Some.is in
    let l = c.loop-rest.invariant.rest_le in
    rest_falls c.args.cave.now.legs.now c.args.cave.now.valid c.args.e c.requires.inside k c.loop-rest.best c.loop-rest.least c.loop-rest.rest _ c.loop-rest.invariant s (c.requires.linked k (omega arith))

pub returns : goal.returns
returns c = nearest_all c.args.cave.now.legs.now c.args.cave.now.valid c.args.e c.requires.inside c.loop-rest.rest c.loop-rest.best c.loop-rest.least c.in_default.is c.loop-rest.invariant
