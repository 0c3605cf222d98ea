-- Each client is told of its writes one after the other, and of the one at which it ended.
use Rattle.std.proofs.Common.{◌≡◌, ℕ, zero, suc, ◌+◌, ◌-◌, ◌≤◌, ◌==◌, Bool, true, false, cond, ◌⊎◌, inl, inr, List, [], ◌∷◌, ◌++◌, map, length, Option, Some, None, is_some, refl, sym, ap, ◌∙◌, subst, arith}
use Rattle.std.specs.Prelude.{filter, nat_lt, slice_set}
use Rattle.std.specs.List.{AllByRecursion, slice_get, range_with_len}
use Rattle.std.proofs.lemmas.Bool.{false≢true, eqb-false, eq-eqb}
use Rattle.std.proofs.lemmas.Bool.Decides.{nat_tests}
use Rattle.std.proofs.lemmas.List.{append-nil, map-append}
use Rattle.std.proofs.lemmas.List.Elements.{filter-append}
use Rattle.pq_base.specs.Members.{In}
use Rattle.pq_schema.specs.declared.table.Table.{Table}
use Rattle.pq_store.specs.Content.{Content}
use Rattle.pq_clients.specs.declared.outcome.Outcome.{Outcome}
use Rattle.pq_clients.specs.declared.outcome.Told.{Told}
use Rattle.pq_clients.specs.Clients.{Reading, View, is_over}
use Rattle.pq_clients.specs.Steps.{Then, On, Puts, Ends, is_fault, After, after_call, told_view, Fate, stepped}
use Rattle.pq_clients.specs.Runs.{Event, Run, told_by, turned, turn, run}
use Rattle.pq_clients.specs.Promises.{IsFresh, numbers_told, told_so_far, IsTold, TellsInOrder}
use Rattle.pq_clients.proofs.Basics.{neither_of}
use Rattle.pq_clients.proofs.Listed.{in_front, in_last, in_all}
use Rattle.pq_clients.proofs.Once.{all_map, all_snoc, all_nil, step_number}
use Rattle.pq_clients.proofs.ByCalls.{call_by, by_call, set_others}
use Rattle.pq_clients.proofs.Whole.{Differ, differ_with, at_place}

range_more : (a n : ℕ) → range_with_len a (n + 1) ≡ range_with_len a n ++ (a + n) ∷ []
range_more a zero = ap (λ x. x ∷ []) (none a)
  where
    none : (a : ℕ) → a ≡ a + 0
    none a = omega arith
range_more a (suc n) = ap (range_with_len a) (more n) ∙ ap (λ (xs : List ℕ). a ∷ xs) (range_more (a + 1) n ∙ ap (λ x. range_with_len (a + 1) n ++ x ∷ []) (last a n))
  where
    more : (n : ℕ) → suc n + 1 ≡ suc (n + 1)
    more n = omega arith

    last : (a n : ℕ) → a + 1 + n ≡ a + suc n
    last a n = omega arith

-- what was told of a client with one more
numbers_snoc : (told : List Told) (t : Told) (client : ℕ) → numbers_told (told ++ t ∷ []) client ≡ numbers_told told client ++ map (λ (t : Told). t.number) (filter (λ (t : Told). t.client == client) (t ∷ []))
numbers_snoc told t client =
    ap (map (λ (t : Told). t.number)) (filter-append (λ (t : Told). t.client == client) told (t ∷ []))
    ∙ map-append (λ (t : Told). t.number) (filter (λ (t : Told). t.client == client) told) (filter (λ (t : Told). t.client == client) (t ∷ []))

numbers_own : (told : List Told) (t : Told) (client : ℕ) → t.client ≡ client → numbers_told (told ++ t ∷ []) client ≡ numbers_told told client ++ t.number ∷ []
numbers_own told t client same = numbers_snoc told t client ∙ ap (λ b. numbers_told told client ++ map (λ (t : Told). t.number) (cond b (t ∷ []) [])) (eq-eqb t.client client same)

numbers_other : (told : List Told) (t : Told) (client : ℕ) → (t.client == client) ≡ false → numbers_told (told ++ t ∷ []) client ≡ numbers_told told client
numbers_other told t client apart = numbers_snoc told t client ∙ ap (λ b. numbers_told told client ++ map (λ (t : Told). t.number) (cond b (t ∷ []) [])) apart ∙ append-nil (numbers_told told client)

in_snoc : {A : Type 0} (x y : A) (xs : List A) → In x (xs ++ y ∷ []) → In x xs ⊎ (y ≡ x)
in_snoc x y [] (inl e) = inr e
in_snoc x y [] (inr i) = absurd i
in_snoc x y (z ∷ xs) (inl e) = inl (inl e)
in_snoc x y (z ∷ xs) (inr i) = elim (in_snoc x y xs i) [ inl i ↦ inl (inr i) | inr e ↦ inr e ]

module _ (tables : List Table) where
  -- the view changes without anything told
  quiet_told : (told : List Told) (v w : View) → w.number ≡ v.number → w.at ≡ v.at → w.over ≡ v.over → w.writes ≡ v.writes → IsTold told v → IsTold told w
  quiet_told told v w number at over writes h = record {
    numbers = ap (numbers_told told) number ∙ h.numbers ∙ ap (range_with_len 1) (sym so_far);
    from_one = subst (λ n. 1 ≤ n) (sym at) h.from_one;
    within = subst (λ n. n ≤ length w.writes) (sym so_far) (subst (λ ws. told_so_far v ≤ length ws) (sym writes) h.within);
    ended = λ o e. let x = h.ended o (sym over ∙ e) in
        (x.0, subst (λ n. In (record { client = n; number = w.at; outcome = o }) told) (sym number) (subst (λ n. In (record { client = v.number; number = n; outcome = o }) told) (sym at) x.1));
    faults = λ t i same fault. let x = h.faults t i (same ∙ number) fault in (over ∙ x.0, x.1 ∙ sym at);
  }
    where
      so_far : told_so_far w ≡ told_so_far v
      so_far = ap (λ n. cond (is_some w.over) n (n - 1)) at ∙ ap (λ (o : Option Outcome). cond (is_some o) v.at (v.at - 1)) over

  -- another client is told something
  other_told : (told : List Told) (t : Told) (u : View) → (t.client == u.number) ≡ false → IsTold told u → IsTold (told ++ t ∷ []) u
  other_told told t u apart h = record {
    numbers = numbers_other told t u.number apart ∙ h.numbers;
    from_one = h.from_one;
    within = h.within;
    ended = λ o e. let x = h.ended o e in (x.0, in_front (record { client = u.number; number = u.at; outcome = o }) told (t ∷ []) x.1);
    faults = λ s i same fault. elim (in_snoc s t told i) [
      | inl i ↦ h.faults s i same fault
      | inr e ↦ absurd (eqb-false t.client u.number apart (ap (λ (t : Told). t.client) e ∙ same))
    ];
  }

  -- the client is told of its write at hand
  abbrev pub told_of : View → Outcome → Told
  told_of v o = record { client = v.number; number = v.at; outcome = o }

  no_fault : (told : List Told) (v : View) → v.over ≡ None → IsTold told v → (s : Told) → In s told → s.client ≡ v.number → is_fault s.outcome ≡ true → ⊥
  no_fault told v unbroken h s i same fault = let wrong : ◌≡◌ {A = Option Outcome} None (Some s.outcome) = sym unbroken ∙ (h.faults s i same fault).0 in cc

  own_numbers : (told : List Told) (v : View) (o : Outcome) → v.over ≡ None → IsTold told v → numbers_told (told ++ told_of v o ∷ []) v.number ≡ range_with_len 1 v.at
  own_numbers told v o unbroken h =
      numbers_own told (told_of v o) v.number refl ∙ ap (λ (xs : List ℕ). xs ++ v.at ∷ []) (h.numbers ∙ ap (λ (o : Option Outcome). range_with_len 1 (cond (is_some o) v.at (v.at - 1))) unbroken)
      ∙ sym (ap (range_with_len 1) (before v.at h.from_one) ∙ range_more 1 (v.at - 1) ∙ ap (λ n. range_with_len 1 (v.at - 1) ++ n ∷ []) (one v.at h.from_one))
    where
      before : (n : ℕ) → 1 ≤ n → n ≡ n - 1 + 1
      before n h = omega arith

      one : (n : ℕ) → 1 ≤ n → 1 + (n - 1) ≡ n
      one n h = omega arith

  own_told : (told : List Told) (v : View) (o : Outcome) → v.over ≡ None → v.at ≤ length v.writes → IsTold told v → IsTold (told ++ told_of v o ∷ []) (told_view v o)
  own_told told v o unbroken inside h = by (is_fault o) refl
    where
      by : (b : Bool) → is_fault o ≡ b → IsTold (told ++ told_of v o ∷ []) (cond b (record v { over = Some o }) (record v { at = v.at + 1; next = Reading }))
      by true fault = record {
        numbers = own_numbers told v o unbroken h;
        from_one = h.from_one;
        within = inside;
        ended = λ p e. let same : o ≡ p = cc in (ap is_fault (sym same) ∙ fault, subst (λ (p : Outcome). In (told_of v p) (told ++ told_of v o ∷ [])) same (in_last (told_of v o) told));
        faults = λ s i same bad. elim (in_snoc s (told_of v o) told i) [
          | inl i ↦ absurd (no_fault told v unbroken h s i same bad)
          | inr e ↦ (ap (λ (t : Told). Some t.outcome) e, sym (ap (λ (t : Told). t.number) e))
        ];
      }
      by false fine = record {
        numbers = own_numbers told v o unbroken h ∙ ap (range_with_len 1) (sym so_far);
        from_one = omega arith;
        within = subst (λ n. n ≤ length v.writes) (sym so_far) inside;
        ended = λ p e. let wrong : ◌≡◌ {A = Option Outcome} None (Some p) = sym unbroken ∙ e in absurd (cc);
        faults = λ s i same bad. elim (in_snoc s (told_of v o) told i) [
          | inl i ↦ absurd (no_fault told v unbroken h s i same bad)
          | inr e ↦ absurd (false≢true (sym fine ∙ ap (λ (t : Told). is_fault t.outcome) e ∙ bad))
        ];
      }
        where
          so_far : cond (is_some v.over) (v.at + 1) (v.at + 1 - 1) ≡ v.at
          so_far = ap (λ (o : Option Outcome). cond (is_some o) (v.at + 1) (v.at + 1 - 1)) unbroken ∙ omega arith

  -- ---- one step

  open_none : (o : Option Outcome) → is_some o ≡ false → o ≡ None
  open_none None h = refl
  open_none (Some o) h = absurd (false≢true (sym h))

  going_inside : (v : View) → is_over v ≡ false → (v.over ≡ None) × (v.at ≤ length v.writes)
  going_inside v h =
      let n = neither_of (is_some v.over) (nat_lt (length v.writes) v.at) h in
      (open_none v.over n.0, inside (length v.writes) v.at n.1)
    where
      inside : (a b : ℕ) → nat_lt a b ≡ false → b ≤ a
      inside a b h = grind (arith, nat_tests)

  call_told : (told : List Told) (v : View) (t : Content × Then) → is_over v ≡ false → IsTold told v → IsTold (told ++ told_by (after_call v t).step) (after_call v t).view
  call_told told v (c, On next) going h = subst (λ (ts : List Told). IsTold ts (record v { next = next })) (sym (append-nil told)) (quiet_told told v (record v { next = next }) refl refl refl refl h)
  call_told told v (c, Puts next) going h = subst (λ (ts : List Told). IsTold ts (record v { next = next })) (sym (append-nil told)) (quiet_told told v (record v { next = next }) refl refl refl refl h)
  call_told told v (c, Ends o) going h = let g = going_inside v going in own_told told v o g.0 g.1 h

  step_told : (told : List Told) (v : View) (c : Content) (fate : Fate) → IsTold told v → IsTold (told ++ told_by (stepped tables v c fate).step) (stepped tables v c fate).view
  step_told told v c fate h = by_call tables v c fate (λ (a : After). IsTold (told ++ told_by a.step) a.view)
      (λ _. subst (λ (ts : List Told). IsTold ts v) (sym (append-nil told)) h) (λ going. call_told told v (call_by tables v c fate) going h)

  call_others : (told : List Told) (v u : View) (t : Content × Then) → (v.number == u.number) ≡ false → IsTold told u → IsTold (told ++ told_by (after_call v t).step) u
  call_others told v u (c, On next) apart h = subst (λ (ts : List Told). IsTold ts u) (sym (append-nil told)) h
  call_others told v u (c, Puts next) apart h = subst (λ (ts : List Told). IsTold ts u) (sym (append-nil told)) h
  call_others told v u (c, Ends o) apart h = other_told told (told_of v o) u apart h

  step_others : (told : List Told) (v u : View) (c : Content) (fate : Fate) → (v.number == u.number) ≡ false → IsTold told u → IsTold (told ++ told_by (stepped tables v c fate).step) u
  step_others told v u c fate apart h = by_call tables v c fate (λ (a : After). IsTold (told ++ told_by a.step) u)
      (λ _. subst (λ (ts : List Told). IsTold ts u) (sym (append-nil told)) h) (λ _. call_others told v u (call_by tables v c fate) apart h)

  -- ---- who is told
  abbrev Known : List View → Told → Type 0
  Known vs t = In t.client (map (λ (v : View). v.number) vs)

  numbers_same : (vs : List View) (p : ℕ) (v w : View) → slice_get vs p ≡ Some v → w.number ≡ v.number → map (λ (v : View). v.number) (slice_set vs p w) ≡ map (λ (v : View). v.number) vs
  numbers_same [] p v w is same = refl
  numbers_same (x ∷ vs) zero v w is same = let here : x ≡ v = cc in ap (λ n. n ∷ map (λ (v : View). v.number) vs) (same ∙ ap (λ (v : View). v.number) (sym here))
  numbers_same (x ∷ vs) (suc p) v w is same = ap (λ (ns : List ℕ). x.number ∷ ns) (numbers_same vs p v w is same)

  here_known : (vs : List View) (p : ℕ) (v : View) → slice_get vs p ≡ Some v → In v.number (map (λ (v : View). v.number) vs)
  here_known [] p v is = absurd (cc)
  here_known (x ∷ vs) zero v is = let here : x ≡ v = cc in inl (ap (λ (v : View). v.number) here)
  here_known (x ∷ vs) (suc p) v is = inr (here_known vs p v is)

  call_known : (vs : List View) (told : List Told) (v : View) (t : Content × Then) → In v.number (map (λ (v : View). v.number) vs) → AllByRecursion (Known vs) told → AllByRecursion (Known vs) (told ++ told_by (after_call v t).step)
  call_known vs told v (c, On next) i all = all_nil (Known vs) told all
  call_known vs told v (c, Puts next) i all = all_nil (Known vs) told all
  call_known vs told v (c, Ends o) i all = all_snoc (Known vs) told (told_of v o) all i

  step_known : (vs : List View) (told : List Told) (v : View) (c : Content) (fate : Fate) → In v.number (map (λ (v : View). v.number) vs) → AllByRecursion (Known vs) told → AllByRecursion (Known vs) (told ++ told_by (stepped tables v c fate).step)
  step_known vs told v c fate i all = by_call tables v c fate (λ (a : After). AllByRecursion (Known vs) (told ++ told_by a.step))
      (λ _. all_nil (Known vs) told all) (λ _. call_known vs told v (call_by tables v c fate) i all)

  -- ---- every schedule

  pub record Ordered (r : Run) : Type 0 where
    pub differ : Differ r.clients
    pub each : AllByRecursion (IsTold r.told) r.clients
    pub known : AllByRecursion (Known r.clients) r.told

  turn_by : (r : Run) (e : Event) (o : Option View) → slice_get r.clients e.place ≡ o → Ordered r → Ordered (turned tables r e o)
  turn_by r e None is h = h
  turn_by r e (Some v) is h =
      let a = stepped tables v r.content e.fate in
      let number = step_number tables v r.content e.fate in
      record {
        differ = differ_with r.clients e.place v a.view h.differ is number;
        each = set_others (IsTold r.told) (IsTold (r.told ++ told_by a.step)) r.clients e.place v a.view h.differ is
            (λ u apart old. step_others r.told v u r.content e.fate apart old)
            (step_told r.told v r.content e.fate (at_place (IsTold r.told) r.clients e.place v h.each is)) h.each;
        known = subst (λ (ns : List ℕ). AllByRecursion (λ (t : Told). In t.client ns) (r.told ++ told_by a.step)) (sym (numbers_same r.clients e.place v a.view is number))
            (step_known r.clients r.told v r.content e.fate (here_known r.clients e.place v is) h.known);
      }

  pub run_ordered : (es : List Event) (r : Run) → Ordered r → Ordered (run tables r es)
  run_ordered [] r h = h
  run_ordered (e ∷ es) r h = run_ordered es (turn tables r e) (turn_by r e (slice_get r.clients e.place) refl h)

  fresh_view : (v : View) → IsFresh tables v → IsTold [] v
  fresh_view v h = subst (λ (v : View). IsTold [] v) (sym h.fresh) (record { numbers = refl; from_one = omega arith; within = omega arith; ended = λ o e. absurd (cc); faults = λ t i same fault. absurd i })

  pub fresh_told : (vs : List View) → AllByRecursion (IsFresh tables) vs → AllByRecursion (IsTold []) vs
  fresh_told vs all = all_map (IsFresh tables) (IsTold []) vs fresh_view all

  pub tells_in_order : (r : Run) → Ordered r → TellsInOrder r
  tells_in_order r h = record {
    each = λ p v is. at_place (IsTold r.told) r.clients p v h.each is;
    known = λ t i. in_all tables (Known r.clients) t r.told h.known i;
  }
