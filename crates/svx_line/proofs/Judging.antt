-- From the first token and the fields that the code has to the verdict on a line.
use Rattle.std.proofs.Common.{◌≡◌, ℕ, ◌<◌, ◌≤◌, ◌⊎◌, false, ◌&&◌, eqb, Bor, List, [], ◌∷◌, map, length, take, sym, refl, ap, ◌∙◌, subst, ⊎_elim, arith}
use Rattle.std.proofs.lemmas.Bool.{cases_lt, ne_eqb, cond-true, cond-false}
use Rattle.std.proofs.lemmas.List.{take_all}
use Rattle.std.proofs.Math.Bool.{and-true}
use Rattle.std.specs.List.{list_all, zip}
use Rattle.std.specs.Str.{bytes_eq}
use Rattle.svx_line.specs.declared.part.Part.{Part}
use Rattle.svx_line.specs.Parts.{span_of}
use Rattle.svx_line.specs.Spans.{Span, fields}
use Rattle.svx_line.specs.Tokens.{Sign, word, command, comment, end, sign_of, after_field}
use Rattle.svx_line.specs.Verdicts.{Verdict, nothing, starred, reads, leg_verdict, command_verdict, verdict}
use Rattle.svx_line.proofs.Splitting.{tells}

-- the first seven fields and the count of all tell as much as all the fields
command_kept : (fs : List Span) (p : ℕ) → command_verdict (take 7 fs) (length fs) p ≡ command_verdict fs (length fs) p
command_kept fs p =
    ⊎_elim
    (λ (h : 7 < length fs). let n : eqb (length fs) 7 ≡ false = ne_eqb (length fs) 7 (λ e. omega arith) in rw n refl)
    (λ (h : length fs ≤ 7). ap (λ (r : List Span). command_verdict r (length fs) p) (take_all 7 fs h))
    (cases_lt 7 (length fs))

leg_kept : (fs : List Span) (p : ℕ) → leg_verdict (take 7 fs) (length fs) p ≡ leg_verdict fs (length fs) p
leg_kept fs p =
    ⊎_elim
    (λ (h : 7 < length fs). let n : eqb (length fs) 5 ≡ false = ne_eqb (length fs) 5 (λ e. omega arith) in rw n refl)
    (λ (h : length fs ≤ 7). ap (λ (r : List Span). leg_verdict r (length fs) p) (take_all 7 fs h))
    (cases_lt 7 (length fs))

-- the line's first token, and the verdict of a line that starts with it
pub of_command : (x r l : Span) (ws : List Span) (n : ℕ) (v : Verdict) → command x ≡ sign_of r.place r.bytes → r ≡ l → ws ≡ take 7 (fields l) → n ≡ length (fields l) → v ≡ command_verdict ws n x.place → v ≡ verdict (fields l)
of_command x r l ws n v e z k c h =
    let t = tells (command x) l (subst (λ (y : Span). command x ≡ sign_of y.place y.bytes) z e) in
    let fs : List Span = x ∷ fields (after_field x l) in
    h ∙ (let z : command_verdict ws n x.place ≡ command_verdict (take 7 (fields l)) (length (fields l)) x.place = cc in z)
    ∙ command_kept (fields l) x.place
    ∙ ap (λ (gs : List Span). command_verdict gs (length gs) x.place) t.0
    ∙ sym (ap verdict t.0 ∙ cond-true (starred x.bytes) (command_verdict fs (length fs) x.place) (leg_verdict fs (length fs) x.place) t.2)

pub of_word : (x r l : Span) (ws : List Span) (n : ℕ) (v : Verdict) → word x ≡ sign_of r.place r.bytes → r ≡ l → ws ≡ take 7 (fields l) → n ≡ length (fields l) → v ≡ leg_verdict ws n x.place → v ≡ verdict (fields l)
of_word x r l ws n v e z k c h =
    let t = tells (word x) l (subst (λ (y : Span). word x ≡ sign_of y.place y.bytes) z e) in
    let fs : List Span = x ∷ fields (after_field x l) in
    h ∙ (let z : leg_verdict ws n x.place ≡ leg_verdict (take 7 (fields l)) (length (fields l)) x.place = cc in z)
    ∙ leg_kept (fields l) x.place
    ∙ ap (λ (gs : List Span). leg_verdict gs (length gs) x.place) t.0
    ∙ sym (ap verdict t.0 ∙ cond-false (starred x.bytes) (command_verdict fs (length fs) x.place) (leg_verdict fs (length fs) x.place) t.2)

pub of_none : (t : Sign) (r l : Span) → (t ≡ comment) ⊎ (t ≡ end) → t ≡ sign_of r.place r.bytes → r ≡ l → nothing ≡ verdict (fields l)
of_none t r l k e z =
    let f : t ≡ sign_of l.place l.bytes = subst (λ (y : Span). t ≡ sign_of y.place y.bytes) z e in
    ⊎_elim
    (λ (c : t ≡ comment). sym (ap verdict (tells comment l (sym c ∙ f))))
    (λ (c : t ≡ end). sym (ap verdict (tells end l (sym c ∙ f))))
    k

-- the code's seven tests are the definition's
pub seven_words : (fs : List Part) (s t u v w x y : Bor (List ℕ)) → length fs ≡ 7
    → list_all (λ (p : Part × Bor (List ℕ)). bytes_eq p.0.bytes.now p.1.now) (zip fs (s ∷ t ∷ u ∷ v ∷ w ∷ x ∷ y ∷ []))
    ≡ (reads (map span_of fs) 0 s.now && (reads (map span_of fs) 1 t.now && (reads (map span_of fs) 2 u.now && (reads (map span_of fs) 3 v.now
    && (reads (map span_of fs) 4 w.now && (reads (map span_of fs) 5 x.now && reads (map span_of fs) 6 y.now))))))
seven_words (a ∷ b ∷ c ∷ d ∷ e ∷ f ∷ g ∷ []) s t u v w x y h = rw and-true refl
seven_words [] s t u v w x y h = absurd (omega arith)
seven_words (a ∷ []) s t u v w x y h = absurd (omega arith)
seven_words (a ∷ b ∷ []) s t u v w x y h = absurd (omega arith)
seven_words (a ∷ b ∷ c ∷ []) s t u v w x y h = absurd (omega arith)
seven_words (a ∷ b ∷ c ∷ d ∷ []) s t u v w x y h = absurd (omega arith)
seven_words (a ∷ b ∷ c ∷ d ∷ e ∷ []) s t u v w x y h = absurd (omega arith)
seven_words (a ∷ b ∷ c ∷ d ∷ e ∷ f ∷ []) s t u v w x y h = absurd (omega arith)
seven_words (a ∷ b ∷ c ∷ d ∷ e ∷ f ∷ g ∷ i ∷ fs) s t u v w x y h = absurd (omega arith)
