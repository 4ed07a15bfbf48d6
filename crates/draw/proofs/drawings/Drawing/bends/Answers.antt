-- The bends of one leg more are added.
use Rattle.std.proofs.Common.{◌≡◌, ℕ, ◌+◌, get_or, take, ap, ◌∙◌, add-one, arith}
use Rattle.std.proofs.lemmas.List.{length-take, get_or-take}
use Rattle.duality.specs.Sums.{sum}
use Rattle.draw.specs.declared.bends.Bends.{Bends}
use Rattle.draw.specs.Tables.{straight}
use Rattle.draw.proofs.drawings.Drawing.bends.Goals as goal

pub loop-bends-preserved : goal.loop-bends-preserved
loop-bends-preserved c =
    let d = c.args.self.now in
    let i = c.loop-bends.bends-index in
    let f : ℕ → ℕ = λ i. (get_or d.bends i straight).left + (get_or d.bends i straight).right in
    let m : sum 0 ◌+◌ (i + 1) f ≡ sum 0 ◌+◌ i f + f i = ap (λ n. sum 0 ◌+◌ n f) (add-one i) in
    let u = length-take c.count.result d.bends in
    let v = c.loop-bends-test.true in
    let t : get_or (take c.count.result d.bends) i straight ≡ get_or d.bends i straight = get_or-take c.count.result d.bends i straight (omega arith) in
    let k : c.total.result ≡ f i = c.total.ensures.both ∙ ap (λ (b : Bends). b.left + b.right) t in
    let n = c.total.ensures.small in
    let a = c.loop-bends.invariant.0 in
    let b = c.loop-bends.invariant.1 in (omega arith, omega arith)
