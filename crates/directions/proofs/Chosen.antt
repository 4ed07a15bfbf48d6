-- Chosen ends at a station, against the definitions of sources, sinks and bimodal stations.
use Rattle.std.proofs.Common.{◌≡◌, ℕ, zero, suc, ◌+◌, ◌<◌, Bool, true, false, cond, not, ◌&&◌, ◌||◌, eqb, List, get_or, sym, refl, ap, ◌∙◌, ⊎_elim, arith}
use Rattle.std.proofs.lemmas.Bool.{cases_Bool, cond-true, cond-false, ne_eqb}
use Rattle.survey.specs.declared.leg.Leg.{Leg}
use Rattle.survey.specs.Counting.{count, every}
use Rattle.survey.specs.Ends.{ends, outgoing, station, same_station}
use Rattle.embedding.specs.Demands.{source, sink, turns_over, changes}
use Rattle.embedding.specs.Tables.{Holds}
use Rattle.cycles.proofs.Tables.{count_same}
use Rattle.directions.specs.Tallies.{chosen_at}

-- all pass where none that does not is counted
none_counted : (p q : ℕ → Bool) (k : ℕ) → ((i : ℕ) → i < k → p i ≡ not (q i)) → eqb (count p k) 0 ≡ every q k
none_counted p q zero h = refl
none_counted p q (suc k) h =
    let r = none_counted p q k (λ i l. h i (omega arith)) in
    let e = h k (omega arith) in
    ⊎_elim
    (λ (t : q k ≡ true).
    let f : cond {A = ℕ} (p k) 1 0 ≡ 0 = cond-false {A = ℕ} (p k) 1 0 (e ∙ ap not t) in
    let s : cond (p k) 1 0 + count p k ≡ count p k = omega arith in
    ap (λ n. eqb n 0) s ∙ r ∙ ap (λ (b : Bool). b && every q k) (sym t))
    (λ (t : q k ≡ false).
    let f : cond {A = ℕ} (p k) 1 0 ≡ 1 = cond-true {A = ℕ} (p k) 1 0 (e ∙ ap not t) in
    ne_eqb _ 0 (λ z. omega arith) ∙ ap (λ (b : Bool). b && every q k) (sym t))
    (cases_Bool (q k))

swap_source : (o s : Bool) → (not o && s) ≡ not (not s || o)
swap_source true true = refl
swap_source true false = refl
swap_source false true = refl
swap_source false false = refl

swap_sink : (o s : Bool) → (o && s) ≡ not (not s || not o)
swap_sink true true = refl
swap_sink true false = refl
swap_sink false true = refl
swap_sink false false = refl

module _ (legs : List Leg) (chosen : List Bool) where
  pub none_incoming : Holds false (λ e. not (outgoing e)) chosen (ends legs) → (e : ℕ) → eqb (chosen_at legs chosen (station legs e)) 0 ≡ source legs e
  none_incoming h e = none_counted (λ k. get_or chosen k false && same_station legs e k) (λ k. not (same_station legs e k) || outgoing k) (ends legs)
      (λ i l. ap (λ (b : Bool). b && same_station legs e i) (h i l) ∙ swap_source (outgoing i) (same_station legs e i))

  pub none_outgoing : Holds false outgoing chosen (ends legs) → (e : ℕ) → eqb (chosen_at legs chosen (station legs e)) 0 ≡ sink legs e
  none_outgoing h e = none_counted (λ k. get_or chosen k false && same_station legs e k) (λ k. not (same_station legs e k) || not (outgoing k)) (ends legs)
      (λ i l. ap (λ (b : Bool). b && same_station legs e i) (h i l) ∙ swap_sink (outgoing i) (same_station legs e i))

  pub changes_chosen : Holds false (turns_over legs) chosen (ends legs) → (e : ℕ) → chosen_at legs chosen (station legs e) ≡ changes legs e
  changes_chosen h e = count_same (λ k. get_or chosen k false && same_station legs e k) (λ k. turns_over legs k && same_station legs e k) (ends legs) (λ i l t. h i l t && same_station legs e i)

-- a table of keys by station counts what the chosen do
pub tallied_at : (legs : List Leg) (keys : List ℕ) (chosen : List Bool) → Holds 0 (station legs) keys (ends legs) → (s : ℕ) → count (λ k. get_or chosen k false && eqb (get_or keys k 0) s) (ends legs) ≡ chosen_at legs chosen s
tallied_at legs keys chosen h s = count_same (λ k. get_or chosen k false && eqb (get_or keys k 0) s) (λ k. get_or chosen k false && eqb (station legs k) s) (ends legs) (λ i l t. get_or chosen i false && eqb (h i l t) s)
