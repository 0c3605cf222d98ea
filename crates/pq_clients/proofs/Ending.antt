-- A client whose place came as often as its writes may call is over, also where the order is by turns.
use Rattle.std.proofs.Common.{◌≡◌, ℕ, zero, suc, ◌+◌, ◌≤◌, ◌<◌, ◌==◌, Bool, true, false, cond, List, [], ◌∷◌, map, length, Option, Some, None, refl, sym, ap, ◌∙◌, subst, arith}
use Rattle.std.specs.List.{AllByRecursion, slice_get, sum_by, count_by}
use Rattle.std.proofs.lemmas.Bool.{eqb-false}
use Rattle.std.proofs.lemmas.List.Sums.{sum_by-cons, sum_by-append}
use Rattle.pq_schema.specs.declared.table.Table.{Table}
use Rattle.pq_store.specs.Content.{Content}
use Rattle.pq_index_keep.proofs.Inserting.{each_by}
use Rattle.pq_index_keep.specs.declared.write.Write.{Write}
use Rattle.pq_clients.specs.Clients.{View, is_over}
use Rattle.pq_clients.specs.Runs.{Event, begun, run}
use Rattle.pq_clients.specs.Promises.{IsFresh, AreFresh, calls_of_write}
use Rattle.pq_clients.specs.Promised.{calls_of_client, IsOverAt, places_below, by_turns, AreOverAfter}
use Rattle.pq_clients.proofs.Rounds.{run_writes, same_length, comes_to_end}

module _ (tables : List Table) where
  visited : (p : ℕ) (es : List Event) → count_by (λ q. q == p) (map (λ (e : Event). e.place) es) ≡ count_by (λ (e : Event). e.place == p) es
  visited p [] = refl
  visited p (e ∷ es) =
      sum_by-cons (λ q. cond {A = ℕ} (q == p) 1 0) e.place (map (λ (e : Event). e.place) es)
      ∙ ap (λ n. cond (e.place == p) 1 0 + n) (visited p es)
      ∙ sym (sum_by-cons (λ (e : Event). cond {A = ℕ} (e.place == p) 1 0) e es)

  own_over : (c : Content) (clients : List View) (events : List Event) → AreFresh tables clients → (p : ℕ) (v : View) → slice_get clients p ≡ Some v
      → calls_of_client tables v ≤ count_by (λ q. q == p) (map (λ (e : Event). e.place) events) → IsOverAt (run tables (begun c clients) events).clients p
  own_over c clients events fresh p v at few =
      let x = run_writes tables events (begun c clients) p v at in
      let enough : calls_of_client tables v ≤ count_by (λ (e : Event). e.place == p) events = omega (arith, few, visited p events) in (
        x.0,
        x.1,
        (comes_to_end tables c clients events (each_by (IsFresh tables) clients fresh.each)).ends p x.0 x.1
            (subst (λ (ws : List Write). sum_by (calls_of_write tables) ws ≤ count_by (λ (e : Event). e.place == p) events) (sym x.2) enough),
      )

  was_there : (c : Content) (clients : List View) (events : List Event) (p : ℕ) (v : View) → slice_get (run tables (begun c clients) events).clients p ≡ Some v → (u : View) × (slice_get clients p ≡ Some u)
  was_there c clients events p v is = by (slice_get clients p) refl
    where
      by : (o : Option View) → slice_get clients p ≡ o → (u : View) × (slice_get clients p ≡ Some u)
      by None none = let wrong : ◌≡◌ {A = Option View} None (Some v) = sym (same_length tables events (begun c clients) p none) ∙ is in absurd (cc)
      by (Some u) some = (u, some)

  -- ---- by turns

  below_counted : (p k : ℕ) → p < k → 1 ≤ count_by (λ q. q == p) (places_below k)
  below_counted p zero less = absurd (omega arith)
  below_counted p (suc k) less = by (k == p) refl (λ apart. below_counted p k (below p k less (eqb-false k p apart)))
    where
      below : (p k : ℕ) → p < suc k → (k ≡ p → ⊥) → p < k
      below p k less ne = grind (arith, less, ne)

      by : (b : Bool) → (k == p) ≡ b → ((k == p) ≡ false → 1 ≤ count_by (λ q. q == p) (places_below k)) → 1 ≤ count_by (λ q. q == p) (places_below (suc k))
      by true same rest =
          let here : cond {A = ℕ} (k == p) 1 0 ≡ 1 = ap (λ b. cond {A = ℕ} b 1 0) same in
          omega (arith, here, sum_by-append (λ q. cond {A = ℕ} (q == p) 1 0) (places_below k) (k ∷ []), sum_by-cons (λ q. cond {A = ℕ} (q == p) 1 0) k [])
      by false apart rest =
          omega (arith, rest apart, sum_by-append (λ q. cond {A = ℕ} (q == p) 1 0) (places_below k) (k ∷ []))

  turns_counted : (p k n : ℕ) → p < k → n ≤ count_by (λ q. q == p) (by_turns k n)
  turns_counted p k zero less = omega arith
  turns_counted p k (suc n) less =
      omega (arith, below_counted p k less, turns_counted p k n less, sum_by-append (λ q. cond {A = ℕ} (q == p) 1 0) (places_below k) (by_turns k n))

  one_of_each : (n : ℕ) (vs : List View) (p : ℕ) (v : View) → AllByRecursion (λ (u : View). calls_of_client tables u ≤ n) vs → slice_get vs p ≡ Some v → (p < length vs) × (calls_of_client tables v ≤ n)
  one_of_each n [] p v all is = absurd (cc)
  one_of_each n (x ∷ xs) zero v all is =
      let same : x ≡ v = cc in
      (omega arith, subst (λ (u : View). calls_of_client tables u ≤ n) same all.0)
  one_of_each n (x ∷ xs) (suc p) v all is = let rest = one_of_each n xs p v all.1 is in (omega (arith, rest.0), rest.1)

  each_over : (vs : List View) → ((p : ℕ) (v : View) → slice_get vs p ≡ Some v → is_over v ≡ true) → AllByRecursion (λ (v : View). is_over v ≡ true) vs
  each_over [] h = tt
  each_over (v ∷ vs) h = (h 0 v refl, each_over vs (λ p. h (suc p)))

  pub are_over : (c : Content) (clients : List View) (events : List Event) (places : List ℕ) (left : List View) → AreFresh tables clients
      → map (λ (e : Event). e.place) events ≡ places → left ≡ (run tables (begun c clients) events).clients → AreOverAfter tables clients places left
  are_over c clients events places left fresh at leaves =
      let own : (p : ℕ) (v : View) → slice_get clients p ≡ Some v → calls_of_client tables v ≤ count_by (λ q. q == p) places → IsOverAt left p =
      λ p v is few. subst (λ (l : List View). IsOverAt l p) (sym leaves)
      (own_over c clients events fresh p v is (subst (λ (l : List ℕ). calls_of_client tables v ≤ count_by (λ q. q == p) l) (sym at) few)) in
      record {
        each = own;
        rounds = λ n most turns. each_over left (λ p v is. by_turn n most turns own p v is);
      }
    where
      by_turn : (n : ℕ) → AllByRecursion (λ (u : View). calls_of_client tables u ≤ n) clients → places ≡ by_turns (length clients) n
          → ((p : ℕ) (v : View) → slice_get clients p ≡ Some v → calls_of_client tables v ≤ count_by (λ q. q == p) places → IsOverAt left p)
          → (p : ℕ) (v : View) → slice_get left p ≡ Some v → is_over v ≡ true
      by_turn n most turns own p v is =
          let was = was_there c clients events p v (subst (λ (l : List View). slice_get l p ≡ Some v) leaves is) in
          let part = one_of_each n clients p was.0 most was.1 in
          let often = turns_counted p (length clients) n part.0 in
          let over = own p was.0 was.1 (subst (λ (l : List ℕ). calls_of_client tables was.0 ≤ count_by (λ q. q == p) l) (sym turns) (omega (arith, part.1, often))) in
          let both : ◌≡◌ {A = Option View} (Some over.0) (Some v) = sym over.1 ∙ is in
          let same : over.0 ≡ v = cc in
          subst (λ (w : View). is_over w ≡ true) same over.2
