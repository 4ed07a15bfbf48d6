-- The search along a chain for the end that follows e.
use Rattle.std.proofs.Common.{◌≡◌, ℕ, suc, ◌<◌, ◌≤◌, true, List, Option, None, sym, refl, ap, ◌∙◌, subst, ⊎_elim, arith}
use Rattle.std.proofs.lemmas.Bool.{cases_lt, cases_eq}
use Rattle.survey.specs.declared.leg.Leg.{Leg}
use Rattle.survey.specs.Ends.{ends, station, bearing}
use Rattle.survey.specs.Model.{valid_legs}
use Rattle.embedding.specs.Rotation.{gap, next}
use Rattle.embedding.proofs.Distinct.{distinct}
use Rattle.embedding.proofs.Following.{follows_one}
use Rattle.rotation.specs.Chains.{last_end, end_before}
use Rattle.rotation.proofs.Chain.{bound, last_le, last_at, last_none}

-- of the ends at the station of e that are not in the rest of the chain, `best` is the nearest
pub record Nearest (legs : List Leg) (e : ℕ) (rest : Option ℕ) (best least : ℕ) : Type 0 where
  pub within : best < ends legs
  pub stays : station legs best ≡ station legs e
  pub far : least ≡ gap (bearing legs e) (bearing legs best)
  pub nearer : (i : ℕ) → bound rest ≤ i → i < ends legs → station legs i ≡ station legs e → least ≤ gap (bearing legs e) (bearing legs i)
  pub rest_le : bound rest ≤ ends legs
  pub rest_at : (k : ℕ) → bound rest ≡ suc k → station legs k ≡ station legs e

whole_turn : (b : ℕ) → b < 3600 → 3600 ≡ gap b b
whole_turn b h = omega arith

module _ (legs : List Leg) (valid : valid_legs legs ≡ true) (e : ℕ) (inside : e < ends legs) where
  pub nearest_none : (rest : Option ℕ) → rest ≡ last_end legs (ends legs) (station legs e) → Nearest legs e rest e 3600
  nearest_none rest q =
      let s = station legs e in
      let le = last_le legs (ends legs) s in
      let b = ap bound q in
      record {
        within = inside;
        stays = refl;
        far = whole_turn (bearing legs e) ((distinct legs valid).below e);
        nearer = λ i l m t. absurd (last_none legs (ends legs) s i (omega arith) m t);
        rest_le = omega arith;
        rest_at = λ k l. last_at legs (ends legs) s k (omega arith);
      }

  module _ (k best least : ℕ) (rest rest' : Option ℕ) (w : Nearest legs e rest best least) (some : bound rest ≡ suc k) (q : rest' ≡ end_before legs k) where
    at_e : station legs k ≡ station legs e
    at_e = w.rest_at k some

    rest_is : bound rest' ≡ bound (last_end legs k (station legs e))
    rest_is = ap bound (q ∙ ap (last_end legs k) at_e)

    falls : bound rest' ≤ k
    falls = let le = last_le legs k (station legs e) in let r = rest_is in omega arith

    at_rest : (i : ℕ) → bound rest' ≡ suc i → station legs i ≡ station legs e
    at_rest i l = let r = rest_is in last_at legs k (station legs e) i (omega arith)

    -- what is no farther than all ends past the old rest and than the end between is no farther than all past the new
    nearer_all : (g : ℕ) → g ≤ least → g ≤ gap (bearing legs e) (bearing legs k) → (i : ℕ) → bound rest' ≤ i → i < ends legs → station legs i ≡ station legs e → g ≤ gap (bearing legs e) (bearing legs i)
    nearer_all g a b i l m t = ⊎_elim
        (λ (h : i < k). absurd (let r = rest_is in last_none legs k (station legs e) i (omega arith) h t))
        (λ (h : k ≤ i). ⊎_elim
        (λ (s : i ≡ k). subst (λ (x : ℕ). g ≤ gap (bearing legs e) (bearing legs x)) (sym s) b)
        (λ (ne : i ≡ k → ⊥). let n = w.nearer i (omega arith) m t in omega arith)
        (cases_eq i k))
        (cases_lt i k)

    pub nearest_takes : (g : ℕ) → g ≡ gap (bearing legs e) (bearing legs k) → g < least → Nearest legs e rest' k g
    nearest_takes g h l =
        let le = w.rest_le in let f = falls in
        record { within = omega arith; stays = at_e; far = h; nearer = nearer_all g (omega arith) (omega arith); rest_le = omega arith; rest_at = at_rest }

    pub nearest_keeps : (g : ℕ) → g ≡ gap (bearing legs e) (bearing legs k) → least ≤ g → Nearest legs e rest' best least
    nearest_keeps g h l =
        let le = w.rest_le in let f = falls in
        record { within = w.within; stays = w.stays; far = w.far; nearer = nearer_all least (omega arith) (omega arith); rest_le = omega arith; rest_at = at_rest }

    pub rest_falls : bound rest' < bound rest
    rest_falls = let f = falls in omega arith

  pub nearest_all : (rest : Option ℕ) (best least : ℕ) → rest ≡ None → Nearest legs e rest best least → best ≡ next legs e
  nearest_all rest best least z w =
      let b = ap bound z in
      follows_one legs (distinct legs valid) e best inside
      (record { within = w.within; stays = w.stays; nearest = λ i m t. let n = w.nearer i (omega arith) m t in let f = w.far in omega arith })
