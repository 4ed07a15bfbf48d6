-- The part from `start` to `end - 1`, put back, is the list amended.
use Rattle.std.proofs.Common.{◌≡◌, ℕ, ◌+◌, ◌-◌, ◌≤◌, List, ◌++◌, take, drop, ap, ◌∙◌, arith}
use borrow.Rule.Slice.PartMut.{put_mid}
use Rattle.std.proofs.lemmas.List.{drop-drop}
use Rattle.survey.specs.declared.leg.Leg.{Leg}
use Rattle.leg_slice.proofs.amend.Goals as goal

put_back : (xs ys zs : List Leg) (start end : ℕ) → start ≤ end → ys ≡ zs → put_mid start (end - start) xs ys ≡ take start xs ++ (zs ++ drop end xs)
put_back xs ys zs start end h e =
    let n : start + (end - start) ≡ end = omega arith in
    ap (λ (v : List Leg). take start xs ++ (v ++ drop (end - start) (drop start xs))) e
    ∙ ap (λ (v : List Leg). take start xs ++ (zs ++ v)) (drop-drop (end - start) start xs ∙ ap (λ (k : ℕ). drop k xs) n)

pub returns : goal.returns
returns c = put_back c.args.legs.now _ _ c.args.start c.args.end (omega arith) c.amend_all.ensures
