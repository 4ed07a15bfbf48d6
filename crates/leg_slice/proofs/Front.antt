-- Legs amended among the first n of a slice.
use Rattle.std.proofs.Common.{◌≡◌, ℕ, ◌-◌, ◌≤◌, List, ◌++◌, map, length, take, drop, sym, ap, ◌∙◌, append_assoc, arith, length-append, length-drop, take-append-drop}
use Rattle.std.proofs.lemmas.List.{length-take, length-take-le, length-map, take_at, take-append-le, drop-append-le}
use Rattle.survey.specs.declared.leg.Leg.{Leg}
use Rattle.survey.specs.declared.leg.Attributes.{Attributes}
use Rattle.survey.specs.Model.{amended, with_attributes}

length_amended : (xs : List Leg) (start end : ℕ) (x : Attributes) → start ≤ end → end ≤ length xs → length (amended xs start end x) ≡ length xs
length_amended xs start end x p q = simp (length-append, length-map, length-take, length-drop) (omega arith)

amended_front : (ps rs : List Leg) (start end : ℕ) (x : Attributes) → start ≤ end → end ≤ length ps → amended (ps ++ rs) start end x ≡ amended ps start end x ++ rs
amended_front ps rs start end x p q =
    let e1 = take-append-le start ps rs (omega arith) in
    let e2 = drop-append-le start ps rs (omega arith) in
    let h : end - start ≤ length (drop start ps) = simp length-drop (omega arith) in
    let e3 = take-append-le (end - start) (drop start ps) rs h in
    let e4 = drop-append-le end ps rs q in
    rw (e1, e2, e3, e4) (sym (append_assoc (take start ps) (map (with_attributes x) (take (end - start) (drop start ps)) ++ drop end ps) rs ∙ ap (λ (v : List Leg). take start ps ++ v) (append_assoc (map (with_attributes x) (take (end - start) (drop start ps))) (drop end ps) rs)))

-- the front of an amended slice is the front amended
pub front_amended : (xs : List Leg) (start end n : ℕ) (x : Attributes) → start ≤ end → end ≤ n → n ≤ length xs → take n (amended xs start end x) ≡ amended (take n xs) start end x
front_amended xs start end n x p q r =
    let l : length (take n xs) ≡ n = length-take-le n xs r in
    let e : amended xs start end x ≡ amended (take n xs) start end x ++ drop n xs =
    ap (λ (v : List Leg). amended v start end x) (sym (take-append-drop n xs)) ∙ amended_front (take n xs) (drop n xs) start end x p (omega arith) in
    ap (take n) e ∙ take_at (amended (take n xs) start end x) (drop n xs) n (length_amended (take n xs) start end x p (omega arith) ∙ l)
