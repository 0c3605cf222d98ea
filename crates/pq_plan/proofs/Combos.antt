-- Reading relation after relation gives the combinations.
use Rattle.std.proofs.Common.{◌≡◌, Option, ℕ, zero, suc, Bool, true, false, cond, ◌&&◌, ◌==◌, nat_lt, inl, inr, List, [], ◌∷◌, ◌++◌, length, map, filter, refl, sym, ap, ◌∙◌, subst, arith}
use Rattle.std.specs.List.{AllByRecursion, list_all}
use Rattle.std.proofs.lemmas.Bool.{lt-ltb, le-ltb, eq-eqb, ne_eqb, cases_order}
use Rattle.std.proofs.lemmas.List.{length_push}
use Rattle.pq_base.specs.declared.value.Value.{Value}
use Rattle.pq_schema.specs.declared.query.Pred.{Pred}
use Rattle.pq_schema.specs.Relations.{belongs_to}
use Rattle.pq_plan.specs.Answer.{Question, holds, rows_at, product, combos}
use Rattle.pq_plan.specs.Meaning.{keeps, partners, followed, read, mean}
use Rattle.pq_plan.specs.Rewrites.{reads_tree}
use Rattle.pq_base.specs.Members.{In}
use Rattle.pq_plan.proofs.Laws.{IsOf}
use Rattle.pq_base.proofs.Members.{each_by_in, filter_all, filter_none, filter_same, filter-map, filter-flat_map, flat_map-filter, in_flat_map, in_map, in_filter}

module _ (q : Question) where
  -- the combinations of the first i relations that pass
  abbrev pub reads : ℕ → List (List (List Value))
  reads zero = [] ∷ []
  reads (suc i) = read q (suc i) (reads i)

  -- ---- what is in a read
  pub in_followed : (i : ℕ) (c d : List (List Value)) → In d (followed q i c) → (r : List Value) × In r (rows_at q i) × (keeps q i (c ++ r ∷ []) ≡ true) × (c ++ r ∷ [] ≡ d)
  in_followed i c d h =
      let m = in_map (λ r. c ++ r ∷ []) d (partners q i c) h in
      let f = in_filter (λ r. keeps q i (c ++ r ∷ [])) m.0 (rows_at q i) m.1 in
      (m.0, f.0, f.1, m.2)

  pub in_read : (i : ℕ) (d : List (List Value)) (inputs : List (List (List Value))) → In d (read q i inputs) → (c : List (List Value)) × In c inputs × In d (followed q i c)
  in_read i d inputs h = in_flat_map (followed q i) d inputs h

  pub long : (i : ℕ) (c : List (List Value)) → In c (reads i) → length c ≡ i
  long zero c (inl e) = ap length (sym e)
  long zero c (inr i) = absurd i
  long (suc i) d h =
      let r = in_read (suc i) d (reads i) h in
      let f = in_followed (suc i) r.0 d r.2 in
      let l = long i r.0 r.1 in
      let e = length_push r.0 f.0 in
      ap length (sym f.3) ∙ e ∙ omega arith

  -- ---- the product, filtered
  abbrev holds_upto : ℕ → List Pred → List (List Value) → Bool
  holds_upto i ps c = list_all (holds q.params c) (filter (λ p. nat_lt (belongs_to p) (suc i)) ps)

  abbrev holds_at : ℕ → List Pred → List (List Value) → Bool
  holds_at i ps c = list_all (holds q.params c) (filter (λ p. (belongs_to p) == i) ps)

  -- the predicates up to the next relation: those up to this one, and the next one's own
  one_more : (i : ℕ) (ps : List Pred) → AllByRecursion (IsOf q) ps → (c : List (List Value)) (r : List Value) → length c ≡ i → holds_upto (suc i) ps (c ++ r ∷ []) ≡ (holds_upto i ps c && holds_at (suc i) ps (c ++ r ∷ []))
  one_more i [] h c r l = refl
  one_more i (p ∷ ps) h c r l =
      let d = c ++ r ∷ [] in
      let rest = one_more i ps h.1 c r l in
      let A = holds_upto (suc i) ps d in
      let B = holds_upto i ps c in
      let E = holds_at (suc i) ps d in
      let shape = λ (x y z : Bool). list_all (holds q.params d) (cond x (p ∷ filter (λ p. nat_lt (belongs_to p) (suc (suc i))) ps) (filter (λ p. nat_lt (belongs_to p) (suc (suc i))) ps))
      ≡ (list_all (holds q.params c) (cond y (p ∷ filter (λ p. nat_lt (belongs_to p) (suc i)) ps) (filter (λ p. nat_lt (belongs_to p) (suc i)) ps)) && list_all (holds q.params d) (cond z (p ∷ filter (λ p. (belongs_to p) == suc i) ps) (filter (λ p. (belongs_to p) == suc i) ps))) in
      let by : (x y z : Bool) → nat_lt (belongs_to p) (suc (suc i)) ≡ x → nat_lt (belongs_to p) (suc i) ≡ y → ((belongs_to p) == suc i) ≡ z → shape x y z → shape (nat_lt (belongs_to p) (suc (suc i))) (nat_lt (belongs_to p) (suc i)) ((belongs_to p) == suc i) = λ x y z a b e s. subst (λ u. shape u (nat_lt (belongs_to p) (suc i)) ((belongs_to p) == suc i)) (sym a) (subst (λ u. shape x u ((belongs_to p) == suc i)) (sym b) (subst (λ u. shape x y u) (sym e) s)) in
      elim (cases_order (belongs_to p) (suc i)) [
        | inl same ↦ by true false true (lt-ltb _ _ (omega arith)) (le-ltb _ _ (omega arith)) (eq-eqb _ _ same) (ap (λ b. holds q.params d p && b) rest ∙ swapped (holds q.params d p) B E)
        | inr (inl below) ↦ by true true false (lt-ltb _ _ (omega arith)) (lt-ltb _ _ below) (ne_eqb _ _ (λ e. absurd (omega arith)))
            ((λ j. (h.0).looks c (r ∷ []) (omega arith) j && rest j) ∙ grouped (holds q.params c p) B E)
        | inr (inr above) ↦ by false false false (le-ltb _ _ (omega arith)) (le-ltb _ _ (omega arith)) (ne_eqb _ _ (λ e. absurd (omega arith))) rest
      ]
    where
      swapped : (a b c : Bool) → (a && (b && c)) ≡ (b && (a && c))
      swapped true b c = refl
      swapped false true c = refl
      swapped false false c = refl

      grouped : (a b c : Bool) → (a && (b && c)) ≡ ((a && b) && c)
      grouped true b c = refl
      grouped false b c = refl

  in_product_long : (i : ℕ) (c : List (List Value)) → In c (product q i) → length c ≡ i
  in_product_long zero c (inl e) = ap length (sym e)
  in_product_long zero c (inr i) = absurd i
  in_product_long (suc i) d h =
      let r = in_flat_map (λ c. map (λ r. c ++ r ∷ []) (rows_at q (suc i))) d (product q i) h in
      let m = in_map (λ (w : List Value). r.0 ++ w ∷ []) d (rows_at q (suc i)) r.2 in
      let l = in_product_long i r.0 r.1 in
      ap length (sym m.2) ∙ length_push r.0 m.0 ∙ omega arith

  keep_true : {X : Type 0} (xs : List X) → filter (λ _. true) xs ≡ xs
  keep_true [] = refl
  keep_true (x ∷ xs) = ap (λ l. x ∷ l) (keep_true xs)

  keep_false : {X : Type 0} (xs : List X) → filter (λ _. false) xs ≡ []
  keep_false [] = refl
  keep_false (x ∷ xs) = keep_false xs

  filtered : AllByRecursion (IsOf q) q.query.preds → (i : ℕ) → filter (holds_upto i q.query.preds) (product q i) ≡ reads i
  filtered h zero = ap (λ ps. cond (list_all (holds q.params []) ps) ([] ∷ []) []) (filter_none (λ p. nat_lt (belongs_to p) 1) q.query.preds (none q.query.preds h))
    where
      none : (ps : List Pred) → AllByRecursion (IsOf q) ps → AllByRecursion (λ p. nat_lt (belongs_to p) 1 ≡ false) ps
      none [] h = tt
      none (p ∷ ps) h = (le-ltb _ _ (h.0).from_one, none ps h.1)
  filtered h (suc i) =
      let ps = q.query.preds in
      let wide = λ (c : List (List Value)). map (λ r. c ++ r ∷ []) (rows_at q (suc i)) in
      filter-flat_map (holds_upto (suc i) ps) wide (product q i)
      ∙ sym (flat_map-filter (holds_upto i ps) (followed q (suc i)) (λ c. filter (holds_upto (suc i) ps) (wide c)) (product q i) (each_by_in _ (product q i) (λ c here. one c (in_product_long i c here))))
      ∙ ap (read q (suc i)) (filtered h i)
    where
      one : (c : List (List Value)) → length c ≡ i → cond (holds_upto i q.query.preds c) (followed q (suc i) c) [] ≡ filter (holds_upto (suc i) q.query.preds) (map (λ r. c ++ r ∷ []) (rows_at q (suc i)))
      one c l =
          elim (holds_upto i q.query.preds c) as (λ b. cond b (followed q (suc i) c) [] ≡ map (λ r. c ++ r ∷ []) (filter (λ r. b && keeps q (suc i) (c ++ r ∷ [])) (rows_at q (suc i)))) [
            | true ↦ refl
            | false ↦ sym (ap (map (λ (r : List Value). c ++ r ∷ [])) (keep_false (rows_at q (suc i))))
          ]
          ∙ ap (map (λ (r : List Value). c ++ r ∷ [])) (filter_same _ _ (rows_at q (suc i)) (each_by_in _ (rows_at q (suc i)) (λ r _. sym (one_more i q.query.preds h c r l))))
          ∙ sym (filter-map (holds_upto (suc i) q.query.preds) (λ r. c ++ r ∷ []) (rows_at q (suc i)))

  -- the combinations of the query
  pub combos_are : AllByRecursion (IsOf q) q.query.preds → combos q ≡ reads (length q.query.relations)
  combos_are h = filter_same _ _ (product q (length q.query.relations)) (each_by_in _ (product q (length q.query.relations)) (λ c _. ap (list_all (holds q.params c)) (sym (filter_all (λ p. nat_lt (belongs_to p) (suc (length q.query.relations))) q.query.preds (all q.query.preds h))))) ∙ filtered h (length q.query.relations)
    where
      all : (ps : List Pred) → AllByRecursion (IsOf q) ps → AllByRecursion (λ p. nat_lt (belongs_to p) (suc (length q.query.relations)) ≡ true) ps
      all [] h = tt
      all (p ∷ ps) h = let w = (h.0).within in (lt-ltb _ _ (omega arith), all ps h.1)

  pub mean_reads : (after : Option (List Value)) (i : ℕ) → mean q after (reads_tree i) ≡ reads i
  mean_reads after zero = refl
  mean_reads after (suc i) = ap (read q (suc i)) (mean_reads after i)
