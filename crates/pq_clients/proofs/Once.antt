-- Each write is put once.
use Rattle.std.proofs.Common.{◌≡◌, ℕ, zero, suc, ◌+◌, ◌<◌, ◌==◌, Bool, true, false, cond, ◌⊎◌, inl, inr, List, [], ◌∷◌, ◌++◌, Option, Some, None, refl, sym, ap, ◌∙◌, subst, arith}
use Rattle.std.specs.Prelude.{slice_set}
use Rattle.std.specs.List.{AllByRecursion, slice_get}
use Rattle.std.specs.FinMap.{get}
use Rattle.std.proofs.lemmas.Bool.{eqb-false, false≢true}
use Rattle.pq_base.specs.Members.{In}
use Rattle.pq_schema.specs.declared.table.Table.{Table}
use Rattle.pq_store.specs.Content.{Content, written_content}
use Rattle.pq_clients.specs.declared.outcome.Outcome.{Outcome}
use Rattle.pq_clients.specs.declared.outcome.Outcome.TheVariants as outcome
use Rattle.pq_clients.specs.declared.outcome.Step.{Step}
use Rattle.pq_clients.specs.declared.outcome.Step.TheVariants as step
use Rattle.pq_clients.specs.declared.outcome.Wrote.{Wrote}
use Rattle.pq_clients.specs.Held.{held_value}
use Rattle.pq_clients.specs.Flights.{flight_key, new_code, stale_entries, fresh_entries, flight_checks, check_refusal, test_refusal}
use Rattle.pq_clients.specs.Clients.{Stage, Checking, Adding, Testing, Putting, Clearing, Freeing, Undoing, Releasing, Next, Reading, Taking, Looking, Flying, View, write_at, is_over}
use Rattle.pq_clients.specs.Steps.{is_just, read_on, Then, On, Puts, Ends, testing, checking, clearing, undoing, passes, has_room, refused, damaged, gone_on, is_fault, after_call, told_view, Fate, Answers, NotDone, DoneUnseen, NoMemory, met, stepped}
use Rattle.pq_clients.specs.Runs.{Event, Run, turned, turn, run, put_by}
use Rattle.pq_clients.proofs.Whole.{Differ, differ_with, at_place, set_place}
use Rattle.pq_clients.proofs.Causes.{flies, reads_on}

-- ---- lists

pub all_snoc : {A : Type 0} (P : A → Type 0) (xs : List A) (x : A) → AllByRecursion P xs → P x → AllByRecursion P (xs ++ x ∷ [])
all_snoc P [] x h p = (p, tt)
all_snoc P (y ∷ ys) x h p = (h.0, all_snoc P ys x h.1 p)

pub all_nil : {A : Type 0} (P : A → Type 0) (xs : List A) → AllByRecursion P xs → AllByRecursion P (xs ++ [])
all_nil P [] h = tt
all_nil P (y ∷ ys) h = (h.0, all_nil P ys h.1)

pub all_map : {A : Type 0} (P Q : A → Type 0) (xs : List A) → ((x : A) → P x → Q x) → AllByRecursion P xs → AllByRecursion Q xs
all_map P Q [] f h = tt
all_map P Q (y ∷ ys) f h = (f y h.0, all_map P Q ys f h.1)

pub all_both : {A : Type 0} (P : A → Type 0) (xs ys : List A) → AllByRecursion P xs → AllByRecursion P ys → AllByRecursion P (xs ++ ys)
all_both P [] ys a b = b
all_both P (x ∷ xs) ys a b = (a.0, all_both P xs ys a.1 b)

all_mid : {A : Type 0} (P : A → Type 0) (front back : List A) (x : A) → AllByRecursion P (front ++ x ∷ back) → P x
all_mid P [] back x h = h.0
all_mid P (y ∷ ys) back x h = all_mid P ys back x h.1

abbrev pub Once : List Wrote → Type 0
Once [] = Unit {0}
Once (x ∷ xs) = AllByRecursion (λ (y : Wrote). x ≡ y → ⊥) xs × Once xs

once_snoc : (xs : List Wrote) (x : Wrote) → Once xs → AllByRecursion (λ (y : Wrote). y ≡ x → ⊥) xs → Once (xs ++ x ∷ [])
once_snoc [] x h n = (tt, tt)
once_snoc (y ∷ ys) x h n = (all_snoc (λ (z : Wrote). y ≡ z → ⊥) ys x h.0 n.0, once_snoc ys x h.1 n.1)

once_nil : (xs : List Wrote) → Once xs → Once (xs ++ [])
once_nil [] h = tt
once_nil (y ∷ ys) h = (all_nil (λ (z : Wrote). y ≡ z → ⊥) ys h.0, once_nil ys h.1)

not_in : (x : Wrote) (ys : List Wrote) → AllByRecursion (λ (y : Wrote). x ≡ y → ⊥) ys → In x ys → ⊥
not_in x [] h i = i
not_in x (y ∷ ys) h (inl e) = h.0 (sym e)
not_in x (y ∷ ys) h (inr i) = not_in x ys h.1 i

pub once_at : (front back : List Wrote) (x : Wrote) → Once (front ++ x ∷ back) → (In x front ⊎ In x back) → ⊥
once_at [] back x h (inl i) = i
once_at [] back x h (inr i) = not_in x back h.0 i
once_at (y ∷ ys) back x h (inl (inl e)) = all_mid (λ (z : Wrote). y ≡ z → ⊥) ys back x h.0 e
once_at (y ∷ ys) back x h (inl (inr i)) = once_at ys back x h.1 (inl i)
once_at (y ∷ ys) back x h (inr i) = once_at ys back x h.1 (inr i)

module _ (tables : List Table) where
  -- ---- behind its put

  unfoldable pub past_stage : Stage → Bool
  past_stage (Checking check left) = false
  past_stage (Adding entry left added) = false
  past_stage (Testing place left passed) = false
  past_stage Putting = false
  past_stage (Clearing entry left) = true
  past_stage Freeing = true
  past_stage (Undoing entry left r) = false
  past_stage (Releasing r) = false

  unfoldable pub is_past : Next → Bool
  is_past Reading = false
  is_past (Taking f) = false
  is_past (Looking f) = false
  is_past (Flying f stage) = past_stage stage

  clearing_past : (left : List (List ℕ)) → past_stage (clearing left) ≡ true
  unfolding past_stage
  clearing_past [] = refl
  clearing_past (x ∷ left) = refl

  -- a write that was put goes on behind its put
  past_then : Then → Bool
  past_then (On next) = is_past next
  past_then (Puts next) = false
  past_then (Ends o) = true

  -- a put leads behind the put
  put_then : Then → Bool
  put_then (On next) = true
  put_then (Puts next) = is_past next
  put_then (Ends o) = true

  cond_past : (b : Bool) (c d : Content) (t u : Then) → past_then t ≡ true → past_then u ≡ true → past_then (cond {A = Content × Then} b (c, t) (d, u)).1 ≡ true
  cond_past true c d t u h k = h
  cond_past false c d t u h k = k

  cond_put : (b : Bool) (c d : Content) (t u : Then) → put_then t ≡ true → put_then u ≡ true → put_then (cond {A = Content × Then} b (c, t) (d, u)).1 ≡ true
  cond_put true c d t u h k = h
  cond_put false c d t u h k = k

  if_put : (b : Bool) (t u : Then) → put_then t ≡ true → put_then u ≡ true → put_then (cond b t u) ≡ true
  if_put true t u h k = h
  if_put false t u h k = k

  gone_past : (v : View) (c : Content) (next : Next) → is_past next ≡ true → past_then (gone_on tables v next c).1 ≡ true
  unfolding past_then is_past past_stage
  gone_past v c Reading h = absurd (false≢true h)
  gone_past v c (Taking f) h = absurd (false≢true h)
  gone_past v c (Looking f) h = absurd (false≢true h)
  gone_past v c (Flying f (Checking check left)) h = absurd (false≢true h)
  gone_past v c (Flying f (Adding entry left added)) h = absurd (false≢true h)
  gone_past v c (Flying f (Testing place left passed)) h = absurd (false≢true h)
  gone_past v c (Flying f Putting) h = absurd (false≢true h)
  gone_past v c (Flying f (Clearing entry left)) h = clearing_past left
  gone_past v c (Flying f Freeing) h = cond_past (is_just (Some (held_value v.number v.at (new_code tables f))) (get c (flight_key tables f))) (written_content (flight_key tables f) (new_code tables f) c) c (Ends outcome.Done) (damaged (flight_key tables f) None) refl refl
  gone_past v c (Flying f (Undoing entry left r)) h = absurd (false≢true h)
  gone_past v c (Flying f (Releasing r)) h = absurd (false≢true h)

  read_put : (t : Then) → flies tables t ≡ false → put_then t ≡ true
  unfolding put_then flies
  read_put (On next) h = refl
  read_put (Puts next) h = absurd (false≢true (sym h))
  read_put (Ends o) h = refl

  gone_put : (v : View) (c : Content) (next : Next) → put_then (gone_on tables v next c).1 ≡ true
  unfolding put_then is_past
  gone_put v c Reading = read_put (read_on tables v.number (write_at v.writes v.at) c).1 (reads_on tables v.number (write_at v.writes v.at) c)
  gone_put v c (Taking g) = cond_put (is_just g.read (get c (flight_key tables g))) (written_content (flight_key tables g) (Some (held_value v.number v.at g.read)) c) c (On (Flying g (checking tables g (flight_checks tables g)))) (On (Looking g)) refl refl
  gone_put v c (Looking g) = refl
  gone_put v c (Flying g (Checking check left)) = if_put (passes tables check c) (On (Flying g (checking tables g left))) (On (Flying g (Releasing (check_refusal tables g check)))) refl refl
  gone_put v c (Flying g (Adding entry left added)) = refl
  gone_put v c (Flying g (Testing place left passed)) = if_put (has_room tables g place c) (On (Flying g (testing left (place ∷ passed)))) (On (Flying g (undoing (fresh_entries tables g) (test_refusal tables g place)))) refl refl
  gone_put v c (Flying g Putting) = cond_put (is_just (Some (held_value v.number v.at g.read)) (get c (flight_key tables g))) (written_content (flight_key tables g) (Some (held_value v.number v.at (new_code tables g))) c) c (Puts (Flying g (clearing (stale_entries tables g)))) (damaged (flight_key tables g) None) (clearing_past (stale_entries tables g)) refl
  gone_put v c (Flying g (Clearing entry left)) = refl
  gone_put v c (Flying g Freeing) = cond_put (is_just (Some (held_value v.number v.at (new_code tables g))) (get c (flight_key tables g))) (written_content (flight_key tables g) (new_code tables g) c) c (Ends outcome.Done) (damaged (flight_key tables g) None) refl refl
  gone_put v c (Flying g (Undoing entry left r)) = refl
  gone_put v c (Flying g (Releasing r)) = cond_put (is_just (Some (held_value v.number v.at g.read)) (get c (flight_key tables g))) (written_content (flight_key tables g) g.read c) c (refused r) (damaged (flight_key tables g) None) refl refl

  -- ---- one step

  abbrev pub Behind : View → ℕ → Type 0
  Behind v n = (n < v.at) ⊎ ((n ≡ v.at) × (is_past v.next ≡ true))

  told_behind : (v : View) (o : Outcome) (n : ℕ) → Behind v n → Behind (told_view v o) n
  told_behind v o n = by (is_fault o)
    where
      by : (b : Bool) → Behind v n → Behind (cond b (record v { over = Some o }) (record v { at = v.at + 1; next = Reading })) n
      by true h = h
      by false (inl h) = inl (omega arith)
      by false (inr h) = let e : n ≡ v.at = h.0 in inl (omega arith)

  call_behind : (v : View) (c : Content) (t : Then) (n : ℕ) → (is_past v.next ≡ true → past_then t ≡ true) → Behind v n → Behind (after_call v (c, t)).view n
  unfolding past_then
  call_behind v c (On next) n past (inl h) = inl h
  call_behind v c (On next) n past (inr h) = inr (h.0, past h.1)
  call_behind v c (Puts next) n past (inl h) = inl h
  call_behind v c (Puts next) n past (inr h) = absurd (false≢true (past h.1))
  call_behind v c (Ends o) n past h = told_behind v o n h

  met_behind : (v : View) (c : Content) (fate : Fate) (n : ℕ) → Behind v n → Behind (met tables v c fate).view n
  met_behind v c Answers n = call_behind v (gone_on tables v v.next c).0 (gone_on tables v v.next c).1 n (gone_past v c v.next)
  met_behind v c NotDone n = told_behind v outcome.Failed n
  met_behind v c DoneUnseen n = told_behind v outcome.Failed n
  met_behind v c NoMemory n = told_behind v outcome.NoMem n

  step_behind : (v : View) (c : Content) (fate : Fate) (n : ℕ) → Behind v n → Behind (stepped tables v c fate).view n
  step_behind v c fate n h = by (is_over v)
    where
      by : (b : Bool) → Behind (cond b (record { content = c; view = v; step = step.Over }) (met tables v c fate)).view n
      by true = h
      by false = met_behind v c fate n h

  told_number : (v : View) (o : Outcome) → (told_view v o).number ≡ v.number
  told_number v o = by (is_fault o)
    where
      by : (b : Bool) → (cond b (record v { over = Some o }) (record v { at = v.at + 1; next = Reading })).number ≡ v.number
      by true = refl
      by false = refl

  call_number : (v : View) (c : Content) (t : Then) → (after_call v (c, t)).view.number ≡ v.number
  call_number v c (On next) = refl
  call_number v c (Puts next) = refl
  call_number v c (Ends o) = told_number v o

  met_number : (v : View) (c : Content) (fate : Fate) → (met tables v c fate).view.number ≡ v.number
  met_number v c Answers = call_number v (gone_on tables v v.next c).0 (gone_on tables v v.next c).1
  met_number v c NotDone = told_number v outcome.Failed
  met_number v c DoneUnseen = told_number v outcome.Failed
  met_number v c NoMemory = told_number v outcome.NoMem

  pub step_number : (v : View) (c : Content) (fate : Fate) → (stepped tables v c fate).view.number ≡ v.number
  step_number v c fate = by (is_over v)
    where
      by : (b : Bool) → (cond b (record { content = c; view = v; step = step.Over }) (met tables v c fate)).view.number ≡ v.number
      by true = refl
      by false = met_number v c fate

  -- a put is of the write at hand, which wasn't put yet
  abbrev PutFacts : Step → View → View → Type 0
  PutFacts step.Moved v w = Unit {0}
  PutFacts (step.Put wrote) v w = (wrote.client ≡ v.number) × (wrote.number ≡ v.at) × (is_past v.next ≡ false) × Behind w wrote.number
  PutFacts (step.Tells told) v w = Unit {0}
  PutFacts step.Over v w = Unit {0}

  not_past : (b : Bool) → (b ≡ true → false ≡ true) → b ≡ false
  not_past true h = absurd (false≢true (h refl))
  not_past false h = refl

  call_facts : (v : View) (c : Content) (t : Then) → (is_past v.next ≡ true → past_then t ≡ true) → put_then t ≡ true → PutFacts (after_call v (c, t)).step v (after_call v (c, t)).view
  unfolding past_then put_then
  call_facts v c (On next) past put = tt
  call_facts v c (Puts next) past put = (refl, refl, not_past (is_past v.next) past, inr (refl, put))
  call_facts v c (Ends o) past put = tt

  met_facts : (v : View) (c : Content) (fate : Fate) → PutFacts (met tables v c fate).step v (met tables v c fate).view
  met_facts v c Answers = call_facts v (gone_on tables v v.next c).0 (gone_on tables v v.next c).1 (gone_past v c v.next) (gone_put v c v.next)
  met_facts v c NotDone = tt
  met_facts v c DoneUnseen = tt
  met_facts v c NoMemory = tt

  step_facts : (v : View) (c : Content) (fate : Fate) → PutFacts (stepped tables v c fate).step v (stepped tables v c fate).view
  step_facts v c fate = by (is_over v)
    where
      by : (b : Bool) → PutFacts (cond b (record { content = c; view = v; step = step.Over }) (met tables v c fate)).step v (cond b (record { content = c; view = v; step = step.Over }) (met tables v c fate)).view
      by true = tt
      by false = met_facts v c fate

  -- ---- every schedule

  abbrev pub PutsBehind : List View → List Wrote → Type 0
  PutsBehind vs puts = AllByRecursion (λ (wrote : Wrote). AllByRecursion (λ (v : View). v.number ≡ wrote.client → Behind v wrote.number) vs) puts

  pub record OnceRun (r : Run) : Type 0 where
    pub differ : Differ r.clients
    pub behind : PutsBehind r.clients r.puts
    pub once : Once r.puts

  others_fresh : (number n : ℕ) (vs : List View) → AllByRecursion (λ (u : View). (number == u.number) ≡ false) vs → AllByRecursion (λ (u : View). u.number ≡ number → Behind u n) vs
  others_fresh number n [] h = tt
  others_fresh number n (u ∷ us) h = (λ e. absurd (eqb-false number u.number h.0 (sym e)), others_fresh number n us h.1)

  at_own : (vs : List View) (p : ℕ) (v w : View) (n : ℕ) → Differ vs → slice_get vs p ≡ Some v → Behind w n → AllByRecursion (λ (u : View). u.number ≡ v.number → Behind u n) (slice_set vs p w)
  at_own [] p v w n d is h = tt
  at_own (x ∷ vs) zero v w n d is h =
      let here : x ≡ v = cc in
      (λ e. h, others_fresh v.number n vs (subst (λ (v : View). AllByRecursion (λ (u : View). (v.number == u.number) ≡ false) vs) here d.0))
  at_own (x ∷ vs) (suc p) v w n d is h =
      let apart = at_place (λ (u : View). (x.number == u.number) ≡ false) vs p v d.0 is in
      (λ e. absurd (eqb-false x.number v.number apart e), at_own vs p v w n d.1 is h)

  own_fresh : (v : View) (n : ℕ) → is_past v.next ≡ false → Behind v n → n ≡ v.at → ⊥
  own_fresh v n h (inl lt) e = absurd (omega arith)
  own_fresh v n h (inr p) e = false≢true (sym h ∙ p.1)

  step_puts : (ws : List View) (puts : List Wrote) (v w : View) (s : Step) → PutsBehind ws puts → ((n : ℕ) → Behind w n → AllByRecursion (λ (u : View). u.number ≡ v.number → Behind u n) ws)
      → AllByRecursion (λ (wrote : Wrote). v.number ≡ wrote.client → Behind v wrote.number) puts → Once puts → PutFacts s v w
      → PutsBehind ws (puts ++ put_by s) × Once (puts ++ put_by s)
  step_puts ws puts v w step.Moved old fresh own once f = (all_nil (λ (wrote : Wrote). AllByRecursion (λ (v : View). v.number ≡ wrote.client → Behind v wrote.number) ws) puts old, once_nil puts once)
  step_puts ws puts v w (step.Put wrote) old fresh own once f = (
    all_snoc (λ (wrote : Wrote). AllByRecursion (λ (v : View). v.number ≡ wrote.client → Behind v wrote.number) ws) puts wrote old (subst (λ (n : ℕ). AllByRecursion (λ (u : View). u.number ≡ n → Behind u wrote.number) ws) (sym f.0) (fresh wrote.number f.3)),
    once_snoc puts wrote once (all_map (λ (x : Wrote). v.number ≡ x.client → Behind v x.number) (λ (x : Wrote). x ≡ wrote → ⊥) puts
        (λ x h e. own_fresh v x.number f.2 (h (sym (ap (λ (x : Wrote). x.client) e ∙ f.0))) (ap (λ (x : Wrote). x.number) e ∙ f.1)) own),
  )
  step_puts ws puts v w (step.Tells told) old fresh own once f = (all_nil (λ (wrote : Wrote). AllByRecursion (λ (v : View). v.number ≡ wrote.client → Behind v wrote.number) ws) puts old, once_nil puts once)
  step_puts ws puts v w step.Over old fresh own once f = (all_nil (λ (wrote : Wrote). AllByRecursion (λ (v : View). v.number ≡ wrote.client → Behind v wrote.number) ws) puts old, once_nil puts once)

  turn_by : (r : Run) (e : Event) (o : Option View) → slice_get r.clients e.place ≡ o → OnceRun r → OnceRun (turned tables r e o)
  turn_by r e None is h = h
  turn_by r e (Some v) is h =
      let a = stepped tables v r.content e.fate in
      let number = step_number v r.content e.fate in
      let old = all_map (λ (wrote : Wrote). AllByRecursion (λ (v : View). v.number ≡ wrote.client → Behind v wrote.number) r.clients) (λ (wrote : Wrote). AllByRecursion (λ (v : View). v.number ≡ wrote.client → Behind v wrote.number) (slice_set r.clients e.place a.view)) r.puts
      (λ wrote all. set_place (λ (v : View). v.number ≡ wrote.client → Behind v wrote.number) r.clients e.place a.view all
      (λ same. step_behind v r.content e.fate wrote.number (at_place (λ (v : View). v.number ≡ wrote.client → Behind v wrote.number) r.clients e.place v all is (sym number ∙ same)))) h.behind in
      let own = all_map (λ (wrote : Wrote). AllByRecursion (λ (v : View). v.number ≡ wrote.client → Behind v wrote.number) r.clients) (λ (wrote : Wrote). v.number ≡ wrote.client → Behind v wrote.number) r.puts
      (λ wrote all. at_place (λ (v : View). v.number ≡ wrote.client → Behind v wrote.number) r.clients e.place v all is) h.behind in
      let both = step_puts (slice_set r.clients e.place a.view) r.puts v a.view a.step old (λ n b. at_own r.clients e.place v a.view n h.differ is b) own h.once (step_facts v r.content e.fate) in
      record {
        differ = differ_with r.clients e.place v a.view h.differ is number;
        behind = both.0;
        once = both.1;
      }

  pub run_once : (es : List Event) (r : Run) → OnceRun r → OnceRun (run tables r es)
  run_once [] r h = h
  run_once (e ∷ es) r h = run_once es (turn tables r e) (turn_by r e (slice_get r.clients e.place) refl h)
