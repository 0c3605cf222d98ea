-- On tables that keep the limits, a DataStop drops nothing.
use Rattle.std.proofs.Common.{◌≡◌, ℕ, zero, suc, ◌-◌, ◌<◌, ◌≤◌, Bool, true, false, cond, ◌&&◌, ◌⊎◌, inl, inr, List, [], ◌∷◌, ◌++◌, length, map, filter, take, refl, sym, ap, ◌∙◌, subst, arith}
use Rattle.std.specs.Ordering.{is_lt, eq_by_cmp}
use Rattle.std.specs.List.{AllByRecursion}
use Rattle.std.specs.Cmp.{tied_itself}
use Rattle.std.proofs.lemmas.Bool.{lt-ltb, and_parts, false≢true}
use Rattle.std.proofs.lemmas.List.{take_at, same_from_push}
use Rattle.std.proofs.lemmas.List.Sums.{length-filter}
use Rattle.pq_base.specs.declared.value.Value.{Value}
use Rattle.pq_base.specs.Values.{has_null}
use Rattle.pq_base.specs.Members.{Apart}
use Rattle.pq_plan.specs.Answer.{Question, rows_at}
use Rattle.pq_plan.specs.Kept.{row_cmp, cells}
use Rattle.pq_plan.specs.Meaning.{key_of, keeps, partners, followed, read, combo_cmp, is_same_front, key_at, data_stop}
use Rattle.pq_plan.proofs.ValueOrder.{row_total, combo_total, combo_only}
use Rattle.pq_plan.proofs.Apart.{apart_both, apart_filter, differs, same_test, equal, differing}
use Rattle.pq_plan.proofs.Laws.{Limited}
use Rattle.pq_base.proofs.Members.{each_in, each_by_in, filter_all, filter_none, filter-append, fewer}
use Rattle.pq_plan.proofs.Combos.{in_followed, in_read}

module _ (q : Question) where
  abbrev pub Distinct : List (List (List Value)) → Type 0
  Distinct cs = Apart combo_cmp (λ c. c) cs

  -- ---- reads of distinct inputs are distinct
  pub distinct_followed : (i : ℕ) (c : List (List Value)) → Apart row_cmp (cells (key_of q i)) (rows_at q i) → Distinct (followed q i c)
  distinct_followed i c h = each (partners q i c) (apart_filter row_cmp (cells (key_of q i)) (λ r. keeps q i (c ++ r ∷ [])) (rows_at q i) h)
    where
      apart : (r s : List Value) → eq_by_cmp row_cmp (cells (key_of q i) r) (cells (key_of q i) s) ≡ false → eq_by_cmp combo_cmp (c ++ r ∷ []) (c ++ s ∷ []) ≡ false
      apart r s h = differing combo_cmp combo_total combo_only _ _ (λ e. differs row_cmp row_total _ _ h (ap (cells (key_of q i)) (same_from_push c c r s e).1))

      one : (r : List Value) (rs : List (List Value)) → AllByRecursion (λ s. eq_by_cmp row_cmp (cells (key_of q i) r) (cells (key_of q i) s) ≡ false) rs → AllByRecursion (λ d. eq_by_cmp combo_cmp (c ++ r ∷ []) d ≡ false) (map (λ s. c ++ s ∷ []) rs)
      one r [] h = tt
      one r (s ∷ rs) h = (apart r s h.0, one r rs h.1)

      each : (rs : List (List Value)) → Apart row_cmp (cells (key_of q i)) rs → Distinct (map (λ s. c ++ s ∷ []) rs)
      each [] h = tt
      each (r ∷ rs) h = (one r rs h.0, each rs h.1)

  pub distinct_read : (i : ℕ) (inputs : List (List (List Value))) → Apart row_cmp (cells (key_of q i)) (rows_at q i) → Distinct inputs → Distinct (read q i inputs)
  distinct_read i [] keys h = tt
  distinct_read i (c ∷ inputs) keys h =
      apart_both combo_cmp (λ c. c) (followed q i c) (read q i inputs) (distinct_followed i c keys) (distinct_read i inputs keys h.1)
      (each_by_in _ (followed q i c) (λ d here. each_by_in _ (read q i inputs) (λ e there.
      let f = in_followed q i c d here in
      let r = in_read q i e inputs there in
      let g = in_followed q i r.0 e r.2 in
      differing combo_cmp combo_total combo_only d e (λ same.
      differs combo_cmp combo_total c r.0 (each_in (λ b. eq_by_cmp combo_cmp c b ≡ false) inputs h.0 r.0 r.1) (same_from_push c r.0 f.0 g.0 (f.3 ∙ same ∙ sym g.3)).0))))

  -- ---- no more than n of one front
  one_front : (i n : ℕ) (front : List (List Value)) (inputs : List (List (List Value))) → Distinct inputs → AllByRecursion (λ c. (length c ≡ i) × (length (partners q (suc i) c) ≤ n)) inputs → length (filter (λ d. eq_by_cmp combo_cmp front (take i d)) (read q (suc i) inputs)) ≤ n
  one_front i n front [] h all = omega arith
  one_front i n front (c ∷ inputs) h all =
      let t = λ (d : List (List Value)). eq_by_cmp combo_cmp front (take i d) in
      let rest = one_front i n front inputs h.1 all.1 in
      let block : length (filter t (followed q (suc i) c)) ≤ length (partners q (suc i) c) = at_most t (partners q (suc i) c) in
      subst (λ l. length l ≤ n) (sym (filter-append t (followed q (suc i) c) (read q (suc i) inputs)))
      (elim (eq_by_cmp combo_cmp front c) as (λ b. eq_by_cmp combo_cmp front c ≡ b → length (filter t (followed q (suc i) c) ++ filter t (read q (suc i) inputs)) ≤ n) [
        | true ↦ λ is.
            let none : filter t (read q (suc i) inputs) ≡ [] = filter_none t (read q (suc i) inputs) (each_by_in _ (read q (suc i) inputs) (λ d there.
            let r = in_read q (suc i) d inputs there in
            let f = in_followed q (suc i) r.0 d r.2 in
            let g = each_in (λ c. (length c ≡ i) × (length (partners q (suc i) c) ≤ n)) inputs all.1 r.0 r.1 in
            ap (eq_by_cmp combo_cmp front) (ap (take i) (sym f.3) ∙ take_at r.0 (f.0 ∷ []) i g.0)
            ∙ ap (λ w. eq_by_cmp combo_cmp w r.0) (equal combo_cmp combo_total combo_only front c is)
            ∙ each_in (λ b. eq_by_cmp combo_cmp c b ≡ false) inputs h.0 r.0 r.1)) in
            let bound = all.0.1 in
            subst (λ l. length (filter t (followed q (suc i) c) ++ l) ≤ n) (sym none) (nothing_more (filter t (followed q (suc i) c)) n (omega arith))
        | false ↦ λ is.
            let none : filter t (followed q (suc i) c) ≡ [] = filter_none t (followed q (suc i) c) (each_by_in _ (followed q (suc i) c) (λ d here.
            let f = in_followed q (suc i) c d here in
            ap (eq_by_cmp combo_cmp front) (ap (take i) (sym f.3) ∙ take_at c (f.0 ∷ []) i all.0.0) ∙ is)) in
            subst (λ l. length (l ++ filter t (read q (suc i) inputs)) ≤ n) (sym none) rest
      ] refl)
    where
      at_most : (t : List (List Value) → Bool) (rs : List (List Value)) → length (filter t (map (λ r. c ++ r ∷ []) rs)) ≤ length rs
      at_most t [] = omega arith
      at_most t (r ∷ rs) = let h = at_most t rs in elim (t (c ++ r ∷ [])) as (λ b. length (cond b ((c ++ r ∷ []) ∷ filter t (map (λ r. c ++ r ∷ []) rs)) (filter t (map (λ r. c ++ r ∷ []) rs))) ≤ suc (length rs)) [ true ↦ omega arith | false ↦ omega arith ]

      nothing_more : (xs : List (List (List Value))) (n : ℕ) → length xs ≤ n → length (xs ++ []) ≤ n
      nothing_more [] n h = h
      nothing_more (x ∷ xs) zero h = absurd (omega arith)
      nothing_more (x ∷ xs) (suc n) h = let r = nothing_more xs n (omega arith) in omega arith

  -- the law: where each input has at most n partners, nothing is dropped
  pub drops_nothing : (i n : ℕ) (inputs : List (List (List Value))) → Distinct inputs → AllByRecursion (λ c. (length c ≡ i) × (length (partners q (suc i) c) ≤ n)) inputs → data_stop q (suc i) n (read q (suc i) inputs) ≡ read q (suc i) inputs
  drops_nothing i n inputs h all =
      let cs = read q (suc i) inputs in
      filter_all _ cs (each_by_in _ cs (λ c here.
      let less = λ (d : List (List Value)). is_same_front q (suc i) c d && is_lt (row_cmp (key_at q (suc i) d) (key_at q (suc i) c)) in
      let front = λ (d : List (List Value)). is_same_front q (suc i) c d in
      let few : length (filter less cs) < length (filter front cs) = fewer less front c cs (λ d e. (and_parts _ _ e).0) here (not_less c) (same_test combo_cmp combo_total (take (suc i - 1) c) (take (suc i - 1) c) refl) in
      let most : length (filter front cs) ≤ n = subst (λ (j : ℕ). length (filter (λ (d : List (List Value)). eq_by_cmp combo_cmp (take j c) (take j d)) cs) ≤ n) (omega arith) (one_front i n (take i c) inputs h all) in
      let e = length-filter less cs in
      lt-ltb _ _ (omega arith)))
    where
      not_less : (c : List (List Value)) → (is_same_front q (suc i) c c && is_lt (row_cmp (key_at q (suc i) c) (key_at q (suc i) c))) ≡ false
      not_less c = ap (λ r. is_same_front q (suc i) c c && is_lt r) (tied_itself row_total (key_at q (suc i) c)) ∙ no_more (is_same_front q (suc i) c c)
        where
          no_more : (b : Bool) → (b && false) ≡ false
          no_more true = refl
          no_more false = refl

  -- a limit of which the columns are tied bounds the partners
  pub limited : (i n : ℕ) → Limited q (suc i) n → (c : List (List Value)) → length c ≡ i → length (partners q (suc i) c) ≤ n
  limited i n l c long =
      let t = l.tied in
      let v = t.values c in
      let more = fewer_of (λ r. keeps q (suc i) (c ++ r ∷ [])) (λ r. eq_by_cmp row_cmp (cells l.columns r) v) (rows_at q (suc i)) (λ r k. same_test row_cmp row_total _ _ (t.are c r (ap suc long) k)) in
      elim (cases (has_null v)) [
        | inl some ↦ none_of (λ r. keeps q (suc i) (c ++ r ∷ [])) (rows_at q (suc i)) (λ r k. false≢true (sym (t.plain c r (ap suc long) k) ∙ some))
        | inr none ↦ let few = l.few v none in omega (arith, few, more)
      ]
    where
      cases : (b : Bool) → (b ≡ true) ⊎ (b ≡ false)
      cases true = inl refl
      cases false = inr refl

      none_of : (p : List Value → Bool) (xs : List (List Value)) → ((x : List Value) → p x ≡ true → ⊥) → length (filter p xs) ≤ n
      none_of p [] h = omega arith
      none_of p (x ∷ xs) h =
          elim (p x) as (λ b. p x ≡ b → length (cond b (x ∷ filter p xs) (filter p xs)) ≤ n) [
            | true ↦ λ is. absurd (h x is)
            | false ↦ λ _. none_of p xs h
          ] refl

      fewer_of : (p r : List Value → Bool) (xs : List (List Value)) → ((x : List Value) → p x ≡ true → r x ≡ true) → length (filter p xs) ≤ length (filter r xs)
      fewer_of p r [] h = omega arith
      fewer_of p r (x ∷ xs) h =
          let rest = fewer_of p r xs h in
          elim (p x) as (λ b. p x ≡ b → length (cond b (x ∷ filter p xs) (filter p xs)) ≤ length (filter r (x ∷ xs))) [
            | true ↦ λ is. subst (λ b. length (x ∷ filter p xs) ≤ length (cond b (x ∷ filter r xs) (filter r xs))) (sym (h x is)) (omega arith)
            | false ↦ λ _. elim (r x) as (λ b. length (filter p xs) ≤ length (cond b (x ∷ filter r xs) (filter r xs))) [ true ↦ omega arith | false ↦ rest ]
          ] refl
