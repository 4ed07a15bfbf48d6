-- Naming the cycles of a permutation in the order of their least numbers.
use Rattle.std.proofs.Common.{◌≡◌, ℕ, ◌+◌, ◌<◌, ◌≤◌, ◌≢◌, List, length, get_or, set, sym, refl, ap, ◌∙◌, subst, ⊎_elim, add-one, arith, length-set, get_or-set_other, get_or-set_same}
use Rattle.std.proofs.lemmas.Bool.{cases_eq, cases_lt, cond-true, cond-false, lt-ltb, le-ltb}
use Rattle.embedding.specs.Walks.{iter}
use Rattle.embedding.specs.Laws.{Permutes}
use Rattle.embedding.specs.Tables.{Holds}
use Rattle.embedding.proofs.Orbit.{iter_lt, back, fold_back, low_all, low_lt, low_low, same_low, low_meets}
use Rattle.cycles.specs.Cycles.{at, cycle_name, named_below}

-- k steps of the walk from e have been taken and named
pub record Walked (steps : List ℕ) (n e k at_now : ℕ) (was names : List ℕ) : Type 0 where
  pub place : at_now ≡ iter (at steps) k e
  pub within : at_now < n
  pub long : length names ≡ length was
  pub seen : (j : ℕ) → j < k → get_or names (iter (at steps) j e) 0 ≡ e
  pub others : (d : ℕ) → d < n → (cycle_name steps n d ≡ e → ⊥) → get_or names d 0 ≡ get_or was d 0

module _ (steps : List ℕ) (n : ℕ) (perm : Permutes (at steps) n) where
  name_le : (e : ℕ) → e < n → cycle_name steps n e ≤ e
  name_le e l = low_all n (at steps) perm e l 0

  low : (e d : ℕ) → cycle_name steps n d < e → named_below steps n e d ≡ cycle_name steps n d
  low e d l = cond-true _ _ n (lt-ltb _ _ l)

  high : (e d : ℕ) → e ≤ cycle_name steps n d → named_below steps n e d ≡ n
  high e d l = cond-false _ (cycle_name steps n d) n (le-ltb _ _ l)

  -- nothing is named at first
  pub named_none : (names : List ℕ) → Holds 0 (λ _. n) names n → Holds 0 (named_below steps n 0) names n
  named_none names h d l = h d l ∙ sym (high 0 d (omega arith))

  -- in the end everything is
  pub named_all : (e : ℕ) (names : List ℕ) → n ≤ e → Holds 0 (named_below steps n e) names n → Holds 0 (cycle_name steps n) names n
  named_all e names g h d l = let b = low_lt n (at steps) perm d l in h d l ∙ low e d (omega arith)

  -- the number e that has no name yet is the least of its cycle
  least : (e v : ℕ) → e < n → v ≡ named_below steps n e e → v ≡ n → cycle_name steps n e ≡ e
  least e v l h u = ⊎_elim
      (λ (m : cycle_name steps n e < e). let q = low e e m in absurd (omega arith))
      (λ (m : e ≤ cycle_name steps n e). let b = name_le e l in omega arith)
      (cases_lt (cycle_name steps n e) e)

  -- where d is in another cycle than that of e, the names below e + 1 are those below e
  other : (e d : ℕ) → (cycle_name steps n d ≡ e → ⊥) → named_below steps n e d ≡ named_below steps n (e + 1) d
  other e d ne = ⊎_elim
      (λ (m : cycle_name steps n d < e). low e d m ∙ sym (low (e + 1) d (omega arith)))
      (λ (m : e ≤ cycle_name steps n d). let s : e ≢ cycle_name steps n d = λ q. ne (sym q) in high e d m ∙ sym (high (e + 1) d (omega arith)))
      (cases_lt (cycle_name steps n d) e)

  -- e has a name already: it names no cycle
  pub named_skip : (e : ℕ) (names : List ℕ) → e < n → (get_or names e 0 ≡ n → ⊥) → Holds 0 (named_below steps n e) names n → Holds 0 (named_below steps n (e + 1)) names n
  named_skip e names l ne h d ld =
      let lower : cycle_name steps n e < e = ⊎_elim (λ m. m) (λ (m : e ≤ cycle_name steps n e). absurd (ne (h e l ∙ high e e m))) (cases_lt (cycle_name steps n e) e) in
      h d ld ∙ other e d (λ q. let s = low_low n (at steps) perm d ld in let t = ap (cycle_name steps n) q in absurd (omega arith))

  pub walked_none : (e : ℕ) (was : List ℕ) → e < n → Walked steps n e 0 e was was
  walked_none e was l = record { place = refl; within = l; long = refl; seen = λ j m. absurd (omega arith); others = λ d m ne. refl }

  module _ (e : ℕ) (was : List ℕ) (inside : e < n) (room : n ≤ length was) (h : Holds 0 (named_below steps n e) was n) (unnamed : get_or was e 0 ≡ n) where
    its_name : cycle_name steps n e ≡ e
    its_name = least e (get_or was e 0) inside (h e inside) unnamed

    on : (k : ℕ) → cycle_name steps n (iter (at steps) k e) ≡ e
    on k = sym (same_low n (at steps) perm e (iter (at steps) k e) inside (iter_lt n (at steps) perm k e inside) (k, refl)) ∙ its_name

    walked_more : (k at_now : ℕ) (names : List ℕ) → Walked steps n e k at_now was names → Walked steps n e (k + 1) (get_or steps at_now 0) was (set names at_now e)
    walked_more k at_now names w =
        let here : at_now < length names = let l = w.within in let g = w.long in omega arith in
        record {
          place = ap (at steps) w.place ∙ ap (λ x. iter (at steps) x e) (sym (add-one k));
          within = perm.stays at_now w.within;
          long = length-set names at_now e ∙ w.long;
          seen = λ j l. ⊎_elim
              (λ (q : iter (at steps) j e ≡ at_now). subst (λ (x : ℕ). get_or (set names at_now e) x 0 ≡ e) (sym q) (get_or-set_same names at_now e 0 here))
              (λ (ne : iter (at steps) j e ≢ at_now). rw get_or-set_other (w.seen j (⊎_elim (λ m. m) (λ (m : k ≤ j). let s : j ≡ k = omega arith in absurd (ne (ap (λ x. iter (at steps) x e) s ∙ sym w.place))) (cases_lt j k))))
              (cases_eq (iter (at steps) j e) at_now);
          others = λ d l ne. let far : d ≢ at_now = λ q. ne (ap (cycle_name steps n) (q ∙ w.place) ∙ on k) in rw get_or-set_other (w.others d l ne);
        }

    pub walked_on : (k at_now at_next : ℕ) (names names' : List ℕ) → Walked steps n e k at_now was names → at_next ≡ get_or steps at_now 0 → names' ≡ set names at_now e → Walked steps n e (k + 1) at_next was names'
    walked_on k at_now at_next names names' w p q = rw (p, q) (walked_more k at_now names w)

    -- where the walk is back after p steps, all of them named, its cycle is named
    pub walked_all : (k p at_now : ℕ) (names : List ℕ) → Walked steps n e k at_now was names → 0 < p → p ≤ k → iter (at steps) p e ≡ e → Holds 0 (named_below steps n (e + 1)) names n
    walked_all k p at_now names w pos_p le b d l = ⊎_elim
        (λ (q : cycle_name steps n d ≡ e).
        let m = low_meets n (at steps) perm e d inside l (its_name ∙ sym q) in
        let f = fold_back n (at steps) perm e p pos_p b m.0 in
        let lt = f.1 in
        let here : get_or names d 0 ≡ e = subst (λ (x : ℕ). get_or names x 0 ≡ e) (sym f.2 ∙ m.1) (w.seen f.0 (omega arith)) in
        let s = low (e + 1) d (omega arith) in omega arith)
        (λ (ne : cycle_name steps n d ≢ e). w.others d l ne ∙ h d l ∙ other e d ne)
        (cases_eq (cycle_name steps n d) e)

    -- after n steps the walk has been back
    pub walked_long : (k at_now : ℕ) (names : List ℕ) → n ≤ k → Walked steps n e k at_now was names → Holds 0 (named_below steps n (e + 1)) names n
    walked_long k at_now names g w = let b = back n (at steps) perm e inside in let le = b.2 in walked_all k b.0 at_now names w b.1 (omega arith) b.3

    -- the walk is back at e
    pub walked_back : (k at_now : ℕ) (names : List ℕ) → Walked steps n e (k + 1) at_now was names → at_now ≡ e → Holds 0 (named_below steps n (e + 1)) names n
    walked_back k at_now names w q = walked_all (k + 1) (k + 1) at_now names w (omega arith) (omega arith) (sym w.place ∙ q)
