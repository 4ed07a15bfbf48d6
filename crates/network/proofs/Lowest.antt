-- The lowest end of a station, as a search and as a table that is filled from the last end down.
use Rattle.std.proofs.Common.{◌≡◌, ℕ, ◌+◌, ◌-◌, ◌<◌, ◌≤◌, Bool, true, false, not, eqb, ◌≢◌, List, length, get_or, set, sym, refl, ap, ◌∙◌, ⊎_elim, arith, get_or-set_other, get_or-set_same}
use Rattle.std.proofs.lemmas.Bool.{both_ways, cases_eq, eq-eqb, ne_eqb, not-true, not_from_false, cases_Bool}
use Rattle.survey.specs.declared.leg.Leg.{Leg}
use Rattle.survey.specs.Ends.{ends, station, same_station, first_at_station}
use Rattle.embedding.specs.Walks.{seek}
use Rattle.embedding.specs.Tables.{Holds}
use Rattle.cycles.proofs.Seeking.{seek_hit, seek_more, seek_end}
use Rattle.shape.specs.Nodes.{lowest_at}
use Rattle.shape.proofs.Ranks.{every_is, Sought, sought}
use Rattle.network.specs.Tables.{lowest_from}

-- a test that cannot pass fails
not_so : (b : Bool) → (b ≡ true → ⊥) → b ≡ false
not_so b n = ⊎_elim (λ (t : b ≡ true). absurd (n t)) (λ (f : b ≡ false). f) (cases_Bool b)

module _ (legs : List Leg) where
  -- one end lower is written
  pub firsts_less : (e m : ℕ) (xs : List ℕ) → e < ends legs → station legs e < length xs → Holds 0 (lowest_from legs (e + 1)) xs m → Holds 0 (lowest_from legs e) (set xs (station legs e) e) m
  firsts_less e m xs b l h s k = ⊎_elim
      (λ (q : s ≡ station legs e).
      let r : get_or (set xs (station legs e) e) s 0 ≡ e = ap (λ i. get_or (set xs (station legs e) e) i 0) q ∙ get_or-set_same xs (station legs e) e 0 l in
      r ∙ sym (seek_hit (λ k. eqb (station legs k) s) (ends legs) e b (eq-eqb (station legs e) s (sym q))))
      (λ (n : s ≢ station legs e). rw get_or-set_other (h s k ∙ sym (seek_more (λ k. eqb (station legs k) s) (ends legs) e b (ne_eqb (station legs e) s (λ q. n (sym q))))))
      (cases_eq s (station legs e))

  -- from the end on there is none
  pub firsts_none : (m : ℕ) (xs : List ℕ) → Holds 0 (λ _. ends legs) xs m → Holds 0 (lowest_from legs (ends legs)) xs m
  firsts_none m xs h s k = h s k ∙ sym (seek_end (λ k. eqb (station legs k) s) (ends legs) (ends legs) (omega arith))

  -- from the first end on, it is the lowest of all
  pub from_first : (e : ℕ) → lowest_from legs 0 (station legs e) ≡ lowest_at legs e
  from_first e = let z : ends legs - 0 ≡ ends legs = omega arith in ap (seek (λ k. same_station legs e k) 0) z

  here : (e : ℕ) → same_station legs e e ≡ true
  here e = eq-eqb (station legs e) (station legs e) refl

  found : (e : ℕ) → e < ends legs → Sought (λ k. same_station legs e k) 0 e (lowest_at legs e)
  found e l = sought (λ k. same_station legs e k) (ends legs) 0 e (omega arith) (omega arith) (here e)

  pub lowest_le : (e : ℕ) → e < ends legs → lowest_at legs e ≤ e
  lowest_le e l = (found e l).within

  -- an end is the first of its station where it is the lowest there
  pub lowest_first : (e : ℕ) → e < ends legs → eqb (lowest_at legs e) e ≡ first_at_station legs e
  lowest_first e l =
      let w = found e l in
      let low = w.within in
      let all = every_is (λ k. not (same_station legs e k)) e in
      ⊎_elim
      (λ (q : lowest_at legs e ≡ e). eq-eqb (lowest_at legs e) e q ∙ sym (all.1 (λ k b. not_from_false (same_station legs e k) (w.first k (omega arith) (omega arith)))))
      (λ (n : lowest_at legs e ≢ e).
      ne_eqb (lowest_at legs e) e n
      ∙ sym (not_so (first_at_station legs e) (λ t. both_ways (same_station legs e (lowest_at legs e)) (not-true (same_station legs e (lowest_at legs e)) (all.0 t (lowest_at legs e) (omega arith))) w.passes)))
      (cases_eq (lowest_at legs e) e)
