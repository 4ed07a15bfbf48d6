-- What the first token of a rest of a line says of the fields there.
use Rattle.std.proofs.Common.{◌≡◌, ℕ, suc, ◌+◌, ◌-◌, ◌<◌, ◌≤◌, true, false, eqb, List, [], ◌∷◌, ◌++◌, length, take, drop, Some, None, Option, sym, refl, ap, ◌∙◌, subst, ⊎_elim, append_assoc, append-nil, add-zero, arith, length-append}
use Rattle.std.proofs.lemmas.Bool.{cases_Bool, cond_both}
use Rattle.std.proofs.lemmas.Bool.Decides.{nat_tests}
use Rattle.std.proofs.lemmas.List.{length_push}
use Rattle.std.proofs.lemmas.List.Folds.{length-prefix_len}
use Rattle.std.specs.Option.{MatchOption, option_map}
use Rattle.std.specs.List.{position_or_len}
use Rattle.svx_fields.specs.Bytes.{blank, ends_blanks, ends_field}
use Rattle.svx_line.specs.Spans.{Span, span, ending_at, fields_from, fields}
use Rattle.svx_line.specs.declared.part.Part.{Part}
use Rattle.svx_line.specs.Parts.{span_of}
use Rattle.svx_line.specs.Verdicts.{starred}
use Rattle.svx_line.specs.Tokens.{span_found, Sign, word, command, comment, end, sign_at, sign_of, after_field, rest_after}

-- how far a field goes
abbrev gap : List ℕ → ℕ
gap bs = position_or_len ends_field bs

fields_comment : (p : ℕ) (w : List ℕ) (b : ℕ) (bs : List ℕ) → eqb b 59 ≡ true → fields_from p w (b ∷ bs) ≡ ending_at w p
fields_comment p w b bs n = rw n refl

fields_gap : (p : ℕ) (w : List ℕ) (b : ℕ) (bs : List ℕ) → eqb b 59 ≡ false → blank b ≡ true → fields_from p w (b ∷ bs) ≡ ending_at w p ++ fields_from (p + 1) [] bs
fields_gap p w b bs n k = rw (n, k) refl

fields_byte : (p : ℕ) (w : List ℕ) (b : ℕ) (bs : List ℕ) → eqb b 59 ≡ false → blank b ≡ false → fields_from p w (b ∷ bs) ≡ fields_from (p + 1) (w ++ (b ∷ [])) bs
fields_byte p w b bs n k = rw (n, k) refl

gap_comment : (b : ℕ) (bs : List ℕ) → eqb b 59 ≡ true → gap (b ∷ bs) ≡ 0
gap_comment b bs n = rw n refl

gap_blank : (b : ℕ) (bs : List ℕ) → eqb b 59 ≡ false → blank b ≡ true → gap (b ∷ bs) ≡ 0
gap_blank b bs n k = rw (n, k) refl

gap_byte : (b : ℕ) (bs : List ℕ) → eqb b 59 ≡ false → blank b ≡ false → gap (b ∷ bs) ≡ suc (gap bs)
gap_byte b bs n k = rw (n, k) (omega arith)

-- the fields where the field begun goes on for m bytes
abbrev cut : ℕ → List ℕ → List ℕ → ℕ → List Span
cut p w xs m = ending_at (w ++ take m xs) (p + m) ++ fields_from (p + m) [] (drop m xs)

cut_zero : (p : ℕ) (w xs : List ℕ) → cut p w xs 0 ≡ ending_at w p ++ fields_from p [] xs
cut_zero p w xs = rw (append-nil w, add-zero p) refl

cut_more : (p : ℕ) (w : List ℕ) (b : ℕ) (bs : List ℕ) (m : ℕ) → cut (p + 1) (w ++ (b ∷ [])) bs m ≡ cut p w (b ∷ bs) (suc m)
cut_more p w b bs m =
    let e : (p + 1) + m ≡ p + suc m = omega arith in
    rw (append_assoc w (b ∷ []) (take m bs), e) refl

-- a field that is begun goes on to the next gap
after_word : (p : ℕ) (w bs : List ℕ) → fields_from p w bs ≡ cut p w bs (gap bs)
after_word p w [] = rw (append-nil w, add-zero p) (sym (append-nil (ending_at w p)))
after_word p w (b ∷ bs) =
    ⊎_elim
    (λ (n : eqb b 59 ≡ true).
    fields_comment p w b bs n ∙ (sym (append-nil (ending_at w p)) ∙ (sym (ap (λ (r : List Span). ending_at w p ++ r) (fields_comment p [] b bs n)) ∙ (sym (cut_zero p w (b ∷ bs)) ∙ sym (ap (cut p w (b ∷ bs)) (gap_comment b bs n))))))
    (λ (n : eqb b 59 ≡ false). ⊎_elim
    (λ (k : blank b ≡ true).
    fields_gap p w b bs n k ∙ (sym (ap (λ (r : List Span). ending_at w p ++ r) (fields_gap p [] b bs n k)) ∙ (sym (cut_zero p w (b ∷ bs)) ∙ sym (ap (cut p w (b ∷ bs)) (gap_blank b bs n k)))))
    (λ (k : blank b ≡ false).
    fields_byte p w b bs n k ∙ (after_word (p + 1) (w ++ (b ∷ [])) bs ∙ (cut_more p w b bs (gap bs) ∙ sym (ap (cut p w (b ∷ bs)) (gap_byte b bs n k)))))
    (cases_Bool (blank b)))
    (cases_Bool (eqb b 59))

-- what the first token of a rest of a line says of its fields
abbrev pub Tells : Sign → Span → Type 0
Tells (word x) l = (fields l ≡ x ∷ fields (after_field x l)) × (l.place < x.place + length x.bytes) × (starred x.bytes ≡ false)
Tells (command x) l = (fields l ≡ x ∷ fields (after_field x l)) × (l.place < x.place + length x.bytes) × (starred x.bytes ≡ true)
Tells comment l = fields l ≡ []
Tells end l = fields l ≡ []

abbrev front : ℕ → List ℕ → List ℕ
front b bs = b ∷ take (gap bs) bs

length_front : (b : ℕ) (bs : List ℕ) → length (front b bs) ≡ suc (gap bs)
length_front b bs = ap suc (length-prefix_len _ bs)

-- a field at the front
starts : (p b : ℕ) (bs : List ℕ) → eqb b 59 ≡ false → blank b ≡ false → (fields_from p [] (b ∷ bs) ≡ span (front b bs) p ∷ fields (after_field (span (front b bs) p) (span (b ∷ bs) p))) × (p < p + length (front b bs))
starts p b bs n h =
    let u = length_front b bs in
    let e : fields_from p [] (b ∷ bs) ≡ ending_at (front b bs) ((p + 1) + gap bs) ++ fields_from ((p + 1) + gap bs) [] (drop (gap bs) bs) = fields_byte p [] b bs n h ∙ after_word (p + 1) (b ∷ []) bs in
    let f : (p + 1) + gap bs ≡ p + length (front b bs) = omega arith in
    let g : (p + length (front b bs)) - length (front b bs) ≡ p = omega arith in
    let d : (p + length (front b bs)) - p ≡ suc (gap bs) = omega arith in
    ((rw f at e) ∙ rw (g, d) refl, omega arith)

blank_no_comment : (b : ℕ) → blank b ≡ true → eqb b 59 ≡ false
blank_no_comment b h = grind (arith, nat_tests)

fields_blank : (p b : ℕ) (bs : List ℕ) → blank b ≡ true → fields_from p [] (b ∷ bs) ≡ fields_from (p + 1) [] bs
fields_blank p b bs h = fields_gap p [] b bs (blank_no_comment b h) h

sign_comment : (p b : ℕ) (bs : List ℕ) → eqb b 59 ≡ true → sign_at p (b ∷ bs) ≡ comment
sign_comment p b bs n = rw n refl

sign_command : (p b : ℕ) (bs : List ℕ) → eqb b 59 ≡ false → blank b ≡ false → eqb b 42 ≡ true → sign_at p (b ∷ bs) ≡ command (span (front b bs) p)
sign_command p b bs n k s = rw (n, s) refl ∙ ap (λ (m : ℕ). command (span (take m (b ∷ bs)) p)) (gap_byte b bs n k)

sign_word : (p b : ℕ) (bs : List ℕ) → eqb b 59 ≡ false → blank b ≡ false → eqb b 42 ≡ false → sign_at p (b ∷ bs) ≡ word (span (front b bs) p)
sign_word p b bs n k s = rw (n, s) refl ∙ ap (λ (m : ℕ). word (span (take m (b ∷ bs)) p)) (gap_byte b bs n k)

tells_at : (p : ℕ) (b : ℕ) (bs : List ℕ) → blank b ≡ false → Tells (sign_at p (b ∷ bs)) (span (b ∷ bs) p)
tells_at p b bs h =
    let P : Sign → Type 0 = λ t. Tells t (span (b ∷ bs) p) in
    ⊎_elim
    (λ (n : eqb b 59 ≡ true). subst P (sym (sign_comment p b bs n)) (fields_comment p [] b bs n))
    (λ (n : eqb b 59 ≡ false).
    let s = starts p b bs n h in
    ⊎_elim
    (λ (k : eqb b 42 ≡ true). subst P (sym (sign_command p b bs n h k)) (s.0, s.1, k))
    (λ (k : eqb b 42 ≡ false). subst P (sym (sign_word p b bs n h k)) (s.0, s.1, k))
    (cases_Bool (eqb b 42)))
    (cases_Bool (eqb b 59))

field_blank : (b : ℕ) (bs : List ℕ) → blank b ≡ true → position_or_len ends_blanks (b ∷ bs) ≡ suc (position_or_len ends_blanks bs)
field_blank b bs h = rw h (omega arith)

field_byte : (b : ℕ) (bs : List ℕ) → blank b ≡ false → position_or_len ends_blanks (b ∷ bs) ≡ 0
field_byte b bs h = rw h refl

sign_on : (p b : ℕ) (bs : List ℕ) → blank b ≡ true → sign_of p (b ∷ bs) ≡ sign_of (p + 1) bs
sign_on p b bs h =
    let e : p + suc (position_or_len ends_blanks bs) ≡ (p + 1) + position_or_len ends_blanks bs = omega arith in
    ap (λ (m : ℕ). sign_at (p + m) (drop m (b ∷ bs))) (field_blank b bs h) ∙ ap (λ (m : ℕ). sign_at m (drop (position_or_len ends_blanks bs) bs)) e

sign_here : (p b : ℕ) (bs : List ℕ) → blank b ≡ false → sign_of p (b ∷ bs) ≡ sign_at p (b ∷ bs)
sign_here p b bs h = ap (λ (m : ℕ). sign_at (p + m) (drop m (b ∷ bs))) (field_byte b bs h) ∙ ap (λ (m : ℕ). sign_at m (b ∷ bs)) (add-zero p)

-- one blank before
tells_on : (t : Sign) (p b : ℕ) (bs : List ℕ) → blank b ≡ true → Tells t (span bs (p + 1)) → Tells t (span (b ∷ bs) p)
tells_on (word x) p b bs h t =
    let d : ((x.place + length x.bytes) - p) ≡ suc ((x.place + length x.bytes) - (p + 1)) = omega arith in
    (fields_blank p b bs h ∙ (t.0 ∙ rw d refl), omega arith, t.2)
tells_on (command x) p b bs h t =
    let d : ((x.place + length x.bytes) - p) ≡ suc ((x.place + length x.bytes) - (p + 1)) = omega arith in
    (fields_blank p b bs h ∙ (t.0 ∙ rw d refl), omega arith, t.2)
tells_on comment p b bs h t = fields_blank p b bs h ∙ t
tells_on end p b bs h t = fields_blank p b bs h ∙ t

tells_of : (p : ℕ) (bs : List ℕ) → Tells (sign_of p bs) (span bs p)
tells_of p [] = refl
tells_of p (b ∷ bs) =
    let P : Sign → Type 0 = λ t. Tells t (span (b ∷ bs) p) in
    ⊎_elim
    (λ (h : blank b ≡ true). subst P (sym (sign_on p b bs h)) (tells_on (sign_of (p + 1) bs) p b bs h (tells_of (p + 1) bs)))
    (λ (h : blank b ≡ false). subst P (sym (sign_here p b bs h)) (tells_at p b bs h))
    (cases_Bool (blank b))

-- the token t at the front of l
pub tells : (t : Sign) (l : Span) → t ≡ sign_of l.place l.bytes → Tells t l
tells t l e = subst (λ (s : Sign). Tells s l) (sym e) (tells_of l.place l.bytes)

-- an iterator over the fields gives the first of them
pub first_field : (r : Option Part) (t : Sign) (l n : Span) → t ≡ sign_of l.place l.bytes → n ≡ rest_after t l → option_map span_of r ≡ span_found t → MatchOption r ((fields l ≡ []) × (fields n ≡ [])) (λ x. fields l ≡ span_of x ∷ fields n)
first_field None (word x) l n e h k = let z : ◌≡◌ {A = ℕ} 0 1 = cc in absurd (omega arith)
first_field None (command x) l n e h k = let z : ◌≡◌ {A = ℕ} 0 1 = cc in absurd (omega arith)
first_field None comment l n e h k = let f = tells comment l e in (f, ap fields h ∙ f)
first_field None end l n e h k = let f = tells end l e in (f, ap fields h ∙ f)
first_field (Some y) (word x) l n e h k = let f = (tells (word x) l e).0 in let z : x ≡ span_of y = cc in f ∙ cc
first_field (Some y) (command x) l n e h k = let f = (tells (command x) l e).0 in let z : x ≡ span_of y = cc in f ∙ cc
first_field (Some y) comment l n e h k = let z : ◌≡◌ {A = ℕ} 0 1 = cc in absurd (omega arith)
first_field (Some y) end l n e h k = let z : ◌≡◌ {A = ℕ} 0 1 = cc in absurd (omega arith)

length-ending : (w : List ℕ) (p : ℕ) → length (ending_at w p) ≤ length w
length-ending [] p = omega arith
length-ending (b ∷ w) p = omega arith

length-fields_from : (p : ℕ) (w bs : List ℕ) → length (fields_from p w bs) ≤ length w + length bs
length-fields_from p w [] = let e = length-ending w p in omega arith
length-fields_from p w (b ∷ bs) =
    let e = length-ending w p in
    let f = length-fields_from (p + 1) [] bs in
    let g = length-fields_from (p + 1) (w ++ (b ∷ [])) bs in
    let h = length_push w b in
    let a = length-append (ending_at w p) (fields_from (p + 1) [] bs) in
    cond_both (eqb b 59) (ending_at w p) _ (λ (r : List Span). length r ≤ length w + suc (length bs)) (λ _. omega arith)
    (λ _. cond_both (blank b) (ending_at w p ++ fields_from (p + 1) [] bs) (fields_from (p + 1) (w ++ (b ∷ [])) bs) (λ (r : List Span). length r ≤ length w + suc (length bs)) (λ _. omega arith) (λ _. omega arith))

-- a line has no more fields than bytes
pub length-fields : (l : Span) → length (fields l) ≤ length l.bytes
length-fields l = let e = length-fields_from l.place [] l.bytes in omega arith
