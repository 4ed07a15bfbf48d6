-- What follows an end is an end, and its face is that of the angle.
use Rattle.std.proofs.Common.{◌≡◌, ℕ, ◌*◌, ◌<◌, length, get_or, ap, ◌∙◌, arith, rules}
use Rattle.std.proofs.iter.Serving.{serving}
use Rattle.embedding.specs.Rotation.{face, angle_face}
use Rattle.embedding.proofs.Following.{next_follows}
use Rattle.embedding.proofs.Telling.{holds_told}
use Rattle.faces.proofs.fill_angle_faces.Goals as goal

pub fill-requires-clause-called : goal.fill-requires-clause-called
fill-requires-clause-called c =
    let legs = c.args.legs.now in
    let after : (e : ℕ) → e < 2 * length legs → get_or c.args.nexts.now e 0 < length c.args.faces.now = λ e l. let f = c.requires.follow e l in let w = (next_follows legs e l).within in omega arith in
    grind (serving, after)

pub returns : goal.returns
returns c =
    let legs = c.args.legs.now in
    let nexts = c.args.nexts.now in
    holds_told 0 (angle_face legs) _ (omega arith) c.fill.ensures.told (λ e v l p.
    let f = c.requires.follow e l in
    let w = (next_follows legs e l).within in
    let said : v ≡ get_or c.args.faces.now (get_or nexts e 0) 0 = search rules in
    said ∙ c.requires.named (get_or nexts e 0) (omega arith) ∙ ap (face legs) f)
