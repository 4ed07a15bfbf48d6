-- Sides made by number are proper.
use Rattle.std.proofs.Common.{◌≡◌, ℕ, ◌+◌, ◌*◌, ◌/◌, ◌%◌, ◌<◌, ◌≤◌, min, cond, eqb, List, length, get_or, Option, Some, None, sym, ap, ◌∙◌, subst, ⊎_elim, mod-lt, arith}
use Rattle.std.specs.Option.{ForSome}
use Rattle.std.proofs.lemmas.Bool.{cond_both}
use Rattle.search.specs.declared.Bend.{Bend}
use Rattle.search.specs.declared.Side.{Side}
use Rattle.search.specs.Networks.{twin}
use Rattle.search.specs.Sides.{side_at, Proper}
use Rattle.search.proofs.Twins.{twin_is, twin_inside}
use Rattle.flow_vectors.specs.Networks.{side_from_lem}

same_pair : (s : ℕ) → twin s / 2 ≡ s / 2
same_pair s = ⊎_elim (λ h. omega arith) (λ h. omega arith) (twin_is s)

mod_less : (a n : ℕ) → 0 < n → a % n < n
mod_less a n h = mod-lt a h

-- what the sides of pair k cost
abbrev pair_bend : List ℕ → ℕ → Option Bend
pair_bend numbers k = cond (eqb (get_or numbers (7 * k + 6) 0) 1) None (Some (record { weight = min (get_or numbers (7 * k + 4) 0) 1000; wet = get_or numbers (7 * k + 5) 0 }))

light_pair : (numbers : List ℕ) (k : ℕ) → ForSome (pair_bend numbers k) (λ x. x.weight ≤ 1000)
light_pair numbers k =
    let bend : Bend = record { weight = min (get_or numbers (7 * k + 4) 0) 1000; wet = get_or numbers (7 * k + 5) 0 } in
    cond_both (eqb (get_or numbers (7 * k + 6) 0) 1) None (Some bend) (λ o. ForSome o (λ x. x.weight ≤ 1000)) (λ _ x h. cc) (λ _ x h. let w : bend.weight ≡ x.weight = cc in omega arith)

module _ (numbers : List ℕ) (nodes : ℕ) (sides : List Side) (some : 0 < nodes) (few : length sides ≤ 64) (even : length sides % 2 ≡ 0) (made : (k : ℕ) → k < length sides → side_at sides k ≡ side_from_lem numbers nodes k) where
  of_pair : {A : Type 0} (field : Side → A) → (by : (s : ℕ) → field (side_from_lem numbers nodes (twin s)) ≡ field (side_from_lem numbers nodes s)) → (s : ℕ) → s < length sides → field (side_at sides (twin s)) ≡ field (side_at sides s)
  of_pair field by s b = ap field (made (twin s) (twin_inside (length sides) s even b)) ∙ by s ∙ ap field (sym (made s b))

  pub proper : Proper nodes sides
  proper = record {
    few = omega arith;
    even = even;
    inside = λ s b. subst (λ (d : Side). d.node < nodes) (sym (made s b)) (mod_less _ nodes some);
    low = λ s b. subst (λ (d : Side). d.end < 65533) (sym (made s b)) (omega arith);
    light = λ s b. subst (λ (d : Side). ForSome d.bend (λ x. x.weight ≤ 1000)) (sym (made s b)) (light_pair numbers (s / 2));
    room = λ s b. subst (λ (d : Side). d.room ≤ 1000) (sym (made s b)) (omega arith);
    paired = of_pair (λ d. d.bend) (λ s. ap (pair_bend numbers) (same_pair s));
    keyed = λ s t b c _ _ _ e. sym (ap (λ (d : Side). d.end) (made s b)) ∙ e ∙ ap (λ (d : Side). d.end) (made t c);
  }
