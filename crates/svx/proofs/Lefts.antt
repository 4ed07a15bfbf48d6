-- The lines that a reader has left, one after another.
use Rattle.std.proofs.Common.{◌≡◌, ℕ, suc, ◌+◌, ◌-◌, ◌<◌, ◌≤◌, true, false, cond, eqb, ltb, List, [], ◌∷◌, ◌++◌, length, take, drop, sym, refl, ap, ◌∙◌, ⊎_elim, append_assoc, append-nil, add-zero, arith, length-drop}
use native.Mathlib.Nat.{sub-zero}
use Rattle.std.proofs.lemmas.Bool.{cases_Bool, cases_lt, cond-true, cond-false, le-ltb, lt-ltb}
use Rattle.std.proofs.lemmas.List.{drop-drop, length_push, take_rest}
use Rattle.std.specs.List.{position_or_len}
use Rattle.svx_fields.specs.Bytes.{ends_line}
use Rattle.svx_line.specs.Spans.{Span, span}
use Rattle.svx.specs.Lines.{lines_from, lines_left}

-- how many bytes stand before the line feed
abbrev feed : List ℕ → ℕ
feed bs = position_or_len ends_line bs

-- what follows the line feed, if there is one
abbrev after : ℕ → List ℕ → ℕ → List Span
after p xs m = cond (ltb m (length xs)) (lines_from (p + m + 1) [] (drop (m + 1) xs)) []

after_some : (p : ℕ) (xs : List ℕ) (m : ℕ) → m < length xs → after p xs m ≡ lines_from (p + m + 1) [] (drop (m + 1) xs)
after_some p xs m h = cond-true (ltb m (length xs)) (lines_from (p + m + 1) [] (drop (m + 1) xs)) [] (lt-ltb m (length xs) h)

after_none : (p : ℕ) (xs : List ℕ) (m : ℕ) → length xs ≤ m → after p xs m ≡ []
after_none p xs m h = cond-false (ltb m (length xs)) (lines_from (p + m + 1) [] (drop (m + 1) xs)) [] (le-ltb m (length xs) h)

after_shift : (p b : ℕ) (bs : List ℕ) (m : ℕ) → after (p + 1) bs m ≡ after p (b ∷ bs) (suc m)
after_shift p b bs m =
    ⊎_elim
    (λ (h : m < length bs).
    let e : (p + 1) + m + 1 ≡ p + suc m + 1 = omega arith in
    let d : suc m + 1 ≡ suc (m + 1) = omega arith in
    after_some (p + 1) bs m h
    ∙ ap (λ (q : ℕ). lines_from q [] (drop (m + 1) bs)) e
    ∙ sym (ap (λ (k : ℕ). lines_from (p + suc m + 1) [] (drop k (b ∷ bs))) d)
    ∙ sym (after_some p (b ∷ bs) (suc m) (omega arith)))
    (λ (h : length bs ≤ m). after_none (p + 1) bs m h ∙ sym (after_none p (b ∷ bs) (suc m) (omega arith)))
    (cases_lt m (length bs))

one_line : (p : ℕ) (w xs : List ℕ) → lines_from p w xs ≡ span (w ++ take (feed xs) xs) (p - length w) ∷ after p xs (feed xs)
one_line p w [] = ap (λ (v : List ℕ). span v (p - length w) ∷ []) (sym (append-nil w))
one_line p w (b ∷ bs) =
    ⊎_elim
    (λ (n : eqb b 10 ≡ true).
    let z : feed (b ∷ bs) ≡ 0 = rw n refl in
    cond-true (eqb b 10) (span w (p - length w) ∷ lines_from (p + 1) [] bs) (lines_from (p + 1) (w ++ (b ∷ [])) bs) n
    ∙ ap (λ (v : List ℕ). span v (p - length w) ∷ lines_from (p + 1) [] bs) (sym (append-nil w))
    ∙ ap (λ (q : ℕ). span (w ++ []) (p - length w) ∷ lines_from (q + 1) [] bs) (sym (add-zero p))
    ∙ sym (ap (λ (m : ℕ). span (w ++ take m (b ∷ bs)) (p - length w) ∷ after p (b ∷ bs) m) z ∙ ap (λ (r : List Span). span (w ++ []) (p - length w) ∷ r) (after_some p (b ∷ bs) 0 (omega arith))))
    (λ (n : eqb b 10 ≡ false).
    let z : feed (b ∷ bs) ≡ suc (feed bs) = rw n (omega arith) in
    cond-false (eqb b 10) (span w (p - length w) ∷ lines_from (p + 1) [] bs) (lines_from (p + 1) (w ++ (b ∷ [])) bs) n
    ∙ one_line (p + 1) (w ++ (b ∷ [])) bs
    ∙ ap (λ (v : List ℕ). span v ((p + 1) - length (w ++ (b ∷ []))) ∷ after (p + 1) bs (feed bs)) (append_assoc w (b ∷ []) (take (feed bs) bs))
    ∙ ap (λ (q : ℕ). span (w ++ (b ∷ take (feed bs) bs)) q ∷ after (p + 1) bs (feed bs)) (let l = length_push w b in let t : (p + 1) - length (w ++ (b ∷ [])) ≡ p - length w = omega arith in t)
    ∙ ap (λ (r : List Span). span (w ++ (b ∷ take (feed bs) bs)) (p - length w) ∷ r) (after_shift p b bs (feed bs))
    ∙ sym (ap (λ (m : ℕ). span (w ++ take m (b ∷ bs)) (p - length w) ∷ after p (b ∷ bs) m) z))
    (cases_Bool (eqb b 10))

after_left : (text : List ℕ) (p m : ℕ) → p ≤ length text → after p (drop p text) m ≡ lines_left (p + m + 1) text
after_left text p m h =
    let l = length-drop p text in
    let q : ℕ = p + m + 1 in
    ⊎_elim
    (λ (k : m < length (drop p text)).
    let e : p + (m + 1) ≡ p + m + 1 = omega arith in
    after_some p (drop p text) m k
    ∙ ap (λ (xs : List ℕ). lines_from (p + m + 1) [] xs) (drop-drop (m + 1) p text ∙ ap (λ (n : ℕ). drop n text) e)
    ∙ sym (cond-false (ltb (length text) (p + m + 1)) [] (lines_from (p + m + 1) [] (drop (p + m + 1) text)) (le-ltb (length text) (p + m + 1) (omega arith))))
    (λ (k : length (drop p text) ≤ m).
    after_none p (drop p text) m k
    ∙ sym (cond-true (ltb (length text) (p + m + 1)) [] (lines_from (p + m + 1) [] (drop (p + m + 1) text)) (lt-ltb (length text) (p + m + 1) (omega arith))))
    (cases_lt m (length (drop p text)))

pub left_step : (text : List ℕ) (p m : ℕ) → p ≤ length text → m ≡ feed (drop p text) → lines_left p text ≡ span (take m (drop p text)) p ∷ lines_left (p + m + 1) text
left_step text p m h e =
    cond-false (ltb (length text) p) [] (lines_from p [] (drop p text)) (le-ltb (length text) p h)
    ∙ one_line p [] (drop p text)
    ∙ ap (λ (k : ℕ). span (take k (drop p text)) (p - 0) ∷ after p (drop p text) k) (sym e)
    ∙ ap (λ (q : ℕ). span (take m (drop p text)) q ∷ after p (drop p text) m) (sub-zero p)
    ∙ ap (λ (r : List Span). span (take m (drop p text)) p ∷ r) (after_left text p m h)

-- the line as the code cuts it
pub left_cut : (text rest : List ℕ) (p m : ℕ) → p ≤ length text → rest ≡ take (length text - p) (drop p text) → m ≡ feed rest → lines_left p text ≡ span (take m rest) p ∷ lines_left (p + m + 1) text
left_cut text rest p m h e k =
    let f : rest ≡ drop p text = e ∙ take_rest text p in
    left_step text p m h (k ∙ ap feed f) ∙ ap (λ (r : List ℕ). span (take m r) p ∷ lines_left (p + m + 1) text) (sym f)

pub left_none : (text : List ℕ) (p : ℕ) → length text < p → lines_left p text ≡ []
left_none text p h = cond-true (ltb (length text) p) [] (lines_from p [] (drop p text)) (lt-ltb (length text) p h)

pub some_left : (text : List ℕ) (p : ℕ) (x : Span) (ls : List Span) → lines_left p text ≡ x ∷ ls → p ≤ length text
some_left text p x ls e =
    ⊎_elim
    (λ (h : length text < p). let n = left_none text p h in let z : ◌≡◌ {A = ℕ} 0 1 = cc in absurd (omega arith))
    (λ (h : p ≤ length text). h)
    (cases_lt (length text) p)
