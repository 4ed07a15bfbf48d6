-- What a view keeps of a valid list: proved once, for every view.
use Rattle.std.proofs.Common.{◌≡◌, ℕ, ◌-◌, Bool, true, List, [], ◌∷◌, ◌++◌, map, length, take, drop, sym, refl, ap, ◌∙◌, subst, arith}
use Rattle.std.specs.List.{position_or_len}
use Rattle.std.proofs.lemmas.Bool.Decides.{nat_tests as tests}
use Rattle.std.proofs.lemmas.List.{length-map, take-map, drop-map, map-append}
use Rattle.refusal.specs.Answers.{Answer}
use Rattle.survey.specs.declared.leg.Leg.{Leg}
use Rattle.survey.specs.declared.leg.Attributes.{Attributes}
use Rattle.survey.specs.declared.leg.Change.{Change}
use Rattle.survey.specs.Model.{is_accepted, or_else, leg_answer, valid_leg, apart, valid_legs, clash, clash_answer, allowed_answer, enter_answer, entered, enter_legs, strike_answer, struck, strike_legs, amend_answer, with_attributes, amended, amend_legs, if_accepted}
use Rattle.survey.specs.Changes.{Leading}
use Rattle.survey.proofs.Valid.{first, join}
use Rattle.view_laws.specs.Laws.{ViewLaws}
use Rattle.view_laws.specs.Sent.{sent}

-- a second cause matters only where the first is not met
or_same : (a x y : Answer) → (is_accepted a ≡ true → x ≡ y) → or_else a x ≡ or_else a y
or_same a x y f = grind (arith, tests)

or_first : (a x : Answer) → is_accepted (or_else a x) ≡ true → is_accepted a ≡ true
or_first a x h = grind (arith, tests)

-- a list shown after a call
if_map : (f : Leg → Leg) (a b : Answer) (next legs next' : List Leg) → a ≡ b → (is_accepted b ≡ true → map f next ≡ next') → map f (if_accepted a next legs) ≡ if_accepted b next' (map f legs)
if_map f a b next legs next' e h = grind (arith, tests)

map_past : (f g : Leg → Leg) → ((l : Leg) → f (g l) ≡ g (f l)) → (xs : List Leg) → map f (map g xs) ≡ map g (map f xs)
map_past f g e [] = refl
map_past f g e (x ∷ xs) = let p = e x in let q = map_past f g e xs in cc

module _ {f d : Leg → Leg} (k : ViewLaws f d) where
  apart_shown : (a : Leg) → valid_leg a ≡ true → (xs : List Leg) → valid_legs xs ≡ true → apart (f a) (map f xs) ≡ apart a xs
  apart_shown a v [] h = refl
  apart_shown a v (x ∷ xs) h =
      let s = first x xs h in
      let p = k.clashes a x v s.valid in
      let q = apart_shown a v xs s.others in cc

  -- a valid list is shown as a valid one
  pub valid_shown : (xs : List Leg) → valid_legs xs ≡ true → valid_legs (map f xs) ≡ true
  valid_shown [] h = refl
  valid_shown (x ∷ xs) h =
      let s = first x xs h in
      join (f x) (map f xs) (record { valid = k.valid x s.valid; apart_from = apart_shown x s.valid xs s.others ∙ s.apart_from; others = valid_shown xs s.others })

  -- the legs before the lowest that clashes
  before_clash_shown : (xs : List Leg) (l : Leg) → valid_legs xs ≡ true → valid_leg l ≡ true → position_or_len (λ a. clash a l) (map f xs) ≡ position_or_len (λ a. clash a (d l)) xs
  before_clash_shown [] l h v = refl
  before_clash_shown (x ∷ xs) l h v =
      let s = first x xs h in
      let e : clash (f x) l ≡ clash x (d l) = ap (clash (f x)) (sym (k.as_given l v)) ∙ k.clashes x (d l) s.valid (ap is_accepted (k.refusal l) ∙ v) in
      let r = before_clash_shown xs l s.others v in cc

  clash_answer_shown : (xs : List Leg) (l : Leg) → valid_legs xs ≡ true → valid_leg l ≡ true → clash_answer (map f xs) l ≡ clash_answer xs (d l)
  clash_answer_shown xs l h v = let a = before_clash_shown xs l h v in let b = length-map xs f in rw (a, b) refl

  -- entering

  pub enter_answer_shown : (xs : List Leg) (may : Bool) (l : Leg) → valid_legs xs ≡ true → enter_answer xs may (d l) ≡ enter_answer (map f xs) may l
  enter_answer_shown xs may l h =
      ap (λ (a : Answer). or_else a (or_else (clash_answer xs (d l)) (allowed_answer (length xs) may))) (k.refusal l)
      ∙ or_same (leg_answer l) (or_else (clash_answer xs (d l)) (allowed_answer (length xs) may)) (or_else (clash_answer (map f xs) l) (allowed_answer (length (map f xs)) may))
      (λ v. ap (λ (a : Answer). or_else a (allowed_answer (length xs) may)) (sym (clash_answer_shown xs l h v))
      ∙ ap (λ (n : ℕ). or_else (clash_answer (map f xs) l) (allowed_answer n may)) (sym (length-map xs f)))

  pub enter_legs_shown : (xs : List Leg) (may : Bool) (l : Leg) → valid_legs xs ≡ true → map f (enter_legs xs may (d l)) ≡ enter_legs (map f xs) may l
  enter_legs_shown xs may l h =
      if_map f (enter_answer xs may (d l)) (enter_answer (map f xs) may l) (entered xs (d l)) xs (entered (map f xs) l) (enter_answer_shown xs may l h)
      (λ e. let v : valid_leg l ≡ true = or_first (leg_answer l) (or_else (clash_answer (map f xs) l) (allowed_answer (length (map f xs)) may)) e in
      map-append f xs (d l ∷ []) ∙ ap (entered (map f xs)) (k.as_given l v))

  -- striking

  pub strike_answer_shown : (xs : List Leg) (may : Bool) (start end : ℕ) → strike_answer (length xs) may start end ≡ strike_answer (length (map f xs)) may start end
  strike_answer_shown xs may start end = ap (λ (n : ℕ). strike_answer n may start end) (sym (length-map xs f))

  pub strike_legs_shown : (xs : List Leg) (may : Bool) (start end : ℕ) → map f (strike_legs xs may start end) ≡ strike_legs (map f xs) may start end
  strike_legs_shown xs may start end =
      if_map f (strike_answer (length xs) may start end) (strike_answer (length (map f xs)) may start end) (struck xs start end) xs (struck (map f xs) start end) (strike_answer_shown xs may start end)
      (λ e. map-append f (take start xs) (drop end xs) ∙ (let p = take-map f start xs in let q = drop-map f end xs in cc))

  -- amending

  pub amend_answer_shown : (xs : List Leg) (may : Bool) (start end : ℕ) (x : Attributes) → amend_answer (length xs) may start end x ≡ amend_answer (length (map f xs)) may start end x
  amend_answer_shown xs may start end x = ap (λ (n : ℕ). amend_answer n may start end x) (sym (length-map xs f))

  amended_shown : (xs : List Leg) (start end : ℕ) (x : Attributes) → map f (amended xs start end x) ≡ amended (map f xs) start end x
  amended_shown xs start end x =
      let mid = take (end - start) (drop start xs) in
      let p = take-map f start xs in
      let q = drop-map f end xs in
      let r = take-map f (end - start) (drop start xs) in
      let s = drop-map f start xs in
      let t = map-append f (map (with_attributes x) mid) (drop end xs) in
      let v = map_past f (with_attributes x) (k.amends x) mid in
      map-append f (take start xs) (map (with_attributes x) mid ++ drop end xs) ∙ (cc)

  pub amend_legs_shown : (xs : List Leg) (may : Bool) (start end : ℕ) (x : Attributes) → map f (amend_legs xs may start end x) ≡ amend_legs (map f xs) may start end x
  amend_legs_shown xs may start end x =
      if_map f (amend_answer (length xs) may start end x) (amend_answer (length (map f xs)) may start end x) (amended xs start end x) xs (amended (map f xs) start end x) (amend_answer_shown xs may start end x)
      (λ e. amended_shown xs start end x)

-- changes that led below, one after the other
pub onward_below : {V S : Type 0} (sends : V → Leg → Leg) {leads : S → List Change → S → Type 0} (w : Leading leads) (v v' : V) (s t u : S) (cs ds : List Change) → v' ≡ v → leads s (map (sent (sends v)) cs) t → leads t (map (sent (sends v')) ds) u → leads s (map (sent (sends v)) (cs ++ ds)) u
onward_below sends {leads} w v v' s t u cs ds e p q =
    let q' : leads t (map (sent (sends v)) ds) u = subst (λ x. leads t (map (sent (sends x)) ds) u) e q in
    subst (λ (xs : List Change). leads s xs u) (sym (map-append (sent (sends v)) cs ds)) (w.onward s t u (map (sent (sends v)) cs) (map (sent (sends v)) ds) p q')
