-- The legs from `end` on, turned or pasted to `start`, leave the list with the range removed in front.
use Rattle.std.proofs.Common.{◌≡◌, ℕ, ◌+◌, ◌-◌, ◌≤◌, List, ◌++◌, length, take, drop, sym, ap, ◌∙◌, arith, append_assoc, length-append, length-drop}
use borrow.Rule.Slice.PartMut.{put_mid}
use lib.Seq.{paste}
use Rattle.std.proofs.lemmas.List.{drop-take, drop-drop, take-take, take_at, length-take-le}
use Rattle.std.proofs.lemmas.List.Edits.{take-paste}
use Rattle.survey.specs.declared.leg.Leg.{Leg}
use Rattle.survey.specs.Model.{struck}
use Rattle.leg_slice.proofs.strike.Goals as goal

-- a range, and what it is in a longer list
module _ (xs : List Leg) (n start end : ℕ) (p : start ≤ end) (q : end ≤ n) (r : n ≤ length xs) where
  left : n - (end - start) ≡ start + (n - end)
  left = omega arith

  behind : take (n - end) (drop end xs) ≡ drop end (take n xs)
  behind = let f : end + (n - end) ≡ n = omega arith in sym (drop-take end (n - end) xs) ∙ ap (λ (k : ℕ). drop end (take k xs)) f

  closed : take start xs ++ take (n - end) (drop end xs) ≡ struck (take n xs) start end
  closed = ap (λ (v : List Leg). take start xs ++ v) behind ∙ ap (λ (v : List Leg). v ++ drop end (take n xs)) (sym (take-take start n xs (omega arith)))

  pasted : take (n - (end - start)) (paste xs start (drop end xs) (n - end)) ≡ struck (take n xs) start end
  pasted =
      let h : n - end ≤ length (drop end xs) = simp length-drop (omega arith) in
      rw left (take-paste xs start (drop end xs) (n - end) (omega arith) h ∙ closed)

  -- the legs from `start` on, less the range
  turned_front : drop (end - start) (take (n - start) (drop start xs)) ≡ take (n - end) (drop end xs)
  turned_front =
      let e : n - start ≡ (end - start) + (n - end) = omega arith in
      let f : start + (end - start) ≡ end = omega arith in
      ap (λ (k : ℕ). drop (end - start) (take k (drop start xs))) e ∙ drop-take (end - start) (n - end) (drop start xs) ∙ ap (take (n - end)) (drop-drop (end - start) start xs ∙ ap (λ (k : ℕ). drop k xs) f)

  turned : (ys : List Leg) → ys ≡ drop (end - start) (take (n - start) (drop start xs)) ++ take (end - start) (take (n - start) (drop start xs))
      → take (n - (end - start)) (put_mid start (n - start) xs ys) ≡ struck (take n xs) start end
  turned ys e =
      let front = take (n - end) (drop end xs) in
      let range = take (end - start) (take (n - start) (drop start xs)) in
      let rest = drop (n - start) (drop start xs) in
      let d : ys ≡ front ++ range = e ∙ ap (λ (v : List Leg). v ++ range) turned_front in
      let a : length (take start xs) ≡ start = length-take-le start xs (omega arith) in
      let h : n - end ≤ length (drop end xs) = simp length-drop (omega arith) in
      let b : length front ≡ n - end = length-take-le (n - end) (drop end xs) h in
      let l : length (take start xs ++ front) ≡ n - (end - start) = simp length-append (omega arith) in
      let m : put_mid start (n - start) xs ys ≡ (take start xs ++ front) ++ (range ++ rest) =
      ap (λ (v : List Leg). take start xs ++ (v ++ rest)) d ∙ ap (λ (v : List Leg). take start xs ++ v) (append_assoc front range rest) ∙ sym (append_assoc (take start xs) front (range ++ rest)) in
      ap (take (n - (end - start))) m ∙ take_at (take start xs ++ front) (range ++ rest) (n - (end - start)) l ∙ closed

pub returns-then-turns : goal.returns-then-turns
returns-then-turns c = let r = c.args in turned r.legs.now r.count r.start r.end (omega arith) (omega arith) (omega arith) c.rotate_left.new.self c.rotate_left.ensures.after

pub returns-else-turns : goal.returns-else-turns
returns-else-turns c = let r = c.args in ap (take (r.count - (r.end - r.start))) c.copy_within.ensures.after ∙ pasted r.legs.now r.count r.start r.end (omega arith) (omega arith) (omega arith)
