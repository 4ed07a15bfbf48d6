-- One number more is tallied.
use Rattle.std.proofs.Common.{◌≡◌, ℕ, ◌+◌, ◌<◌, ◌≤◌, Bool, true, false, ◌&&◌, eqb, ◌≢◌, List, length, get_or, set, sym, ◌∙◌, ⊎_elim, arith, get_or-set_other, get_or-set_same}
use Rattle.std.proofs.lemmas.Bool.{cases_eq, eq-eqb, ne_eqb, and_from, and_left, and_right}
use Rattle.embedding.specs.Tables.{Holds}
use Rattle.embedding.proofs.Reached.{count_bound}
use Rattle.cycles.specs.Cycles.{tallied}
use Rattle.cycles.proofs.Tables.{count_yes, count_no}

-- number k is chosen and has the key v
abbrev counts : List ℕ → List Bool → ℕ → ℕ → Bool
counts keys chosen v k = get_or chosen k false && eqb (get_or keys k 0) v

module _ (keys : List ℕ) (chosen : List Bool) (ts : List ℕ) (k m : ℕ) (h : Holds 0 (tallied keys chosen k) ts m) where
  pub tally_no : get_or chosen k false ≡ false → Holds 0 (tallied keys chosen (k + 1)) ts m
  tally_no f v l = h v l ∙ sym (count_no (counts keys chosen v) k (and_left (get_or chosen k false) _ f))

  pub tally_yes : get_or chosen k false ≡ true → get_or keys k 0 < length ts → Holds 0 (tallied keys chosen (k + 1)) (set ts (get_or keys k 0) (get_or ts (get_or keys k 0) 0 + 1)) m
  tally_yes t inside v l = ⊎_elim
      (λ (e : v ≡ get_or keys k 0).
      let y = count_yes (counts keys chosen v) k (and_from (get_or chosen k false) _ t (eq-eqb (get_or keys k 0) v (sym e))) in
      let s : get_or (set ts (get_or keys k 0) (get_or ts (get_or keys k 0) 0 + 1)) v 0 ≡ get_or ts v 0 + 1 = rw e (get_or-set_same ts (get_or keys k 0) _ 0 inside) in
      let w = h v l in omega arith)
      (λ (ne : v ≢ get_or keys k 0).
      rw get_or-set_other (h v l ∙ sym (count_no (counts keys chosen v) k (and_right (get_or chosen k false) _ (ne_eqb (get_or keys k 0) v (λ q. ne (sym q)))))))
      (cases_eq v (get_or keys k 0))

  -- a tally stays below the numbers seen
  pub tally_le : (v : ℕ) → v < m → get_or ts v 0 ≤ k
  tally_le v l = let w = h v l in let b = count_bound (counts keys chosen v) k in omega arith
