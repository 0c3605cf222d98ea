-- Behind enough entries of its own a client is over, and where all are over nothing more is done.
use Rattle.std.proofs.Common.{◌≡◌, ℕ, zero, suc, ◌+◌, ◌≤◌, ◌==◌, nat_lt, Bool, true, false, cond, List, [], ◌∷◌, ◌++◌, length, drop, Option, Some, None, is_some, refl, sym, ap, ◌∙◌, subst, arith}
use Rattle.std.specs.Prelude.{slice_set}
use Rattle.std.specs.List.{AllByRecursion, slice_get, count_by, sum_by}
use Rattle.std.proofs.lemmas.Bool.{eqb-true, eqb-false}
use Rattle.std.proofs.lemmas.Bool.Decides.{nat_tests}
use Rattle.std.proofs.lemmas.List.{append-nil}
use Rattle.std.proofs.lemmas.List.Sums.{sum_by-cons}
use Rattle.pq_schema.specs.declared.table.Table.{Table}
use Rattle.pq_store.specs.Content.{Content}
use Rattle.pq_index_keep.specs.declared.write.Write.{Write}
use Rattle.pq_index_keep.proofs.Inserting.{each_by}
use Rattle.pq_clients.specs.declared.outcome.Outcome.{Outcome}
use Rattle.pq_clients.specs.declared.outcome.Outcome.TheVariants as outcome
use Rattle.pq_clients.specs.declared.outcome.Step.TheVariants as step
use Rattle.pq_clients.specs.Clients.{Next, Reading, View, write_at, is_over}
use Rattle.pq_clients.specs.Steps.{Then, On, Puts, Ends, gone_on, is_fault, After, after_call, told_view, Fate, Answers, NotDone, DoneUnseen, NoMemory, met, stepped}
use Rattle.pq_clients.specs.Runs.{Event, Run, begun, turned, turn, run, with_step}
use Rattle.pq_clients.specs.Promises.{IsFresh, calls_of_write, ComesToEnd}
use Rattle.pq_clients.proofs.Basics.{neither_of}
use Rattle.pq_clients.proofs.FewCalls.{set_here, set_apart}
use Rattle.pq_clients.proofs.Fewer.{calls_left, Falls, gone_falls, one_call, step_writes}
use Rattle.pq_clients.proofs.ByCalls.{call_by, by_call}
use Rattle.pq_clients.proofs.Whole.{at_place}

module _ (tables : List Table) where
  -- the calls that the write at hand may still make
  abbrev hand : Option Write → Next → ℕ
  hand None next = 0
  hand (Some w) next = calls_left tables w next

  abbrev later : ℕ → List Write → ℕ
  later at ws = sum_by (calls_of_write tables) (drop at ws)

  -- and those of all its writes
  abbrev left : View → ℕ
  left v = cond (is_over v) 0 (hand (write_at v.writes v.at) v.next + later v.at v.writes)

  next_write : (ws : List Write) (n : ℕ) → hand (write_at ws (suc n)) Reading + later (suc n) ws ≤ later n ws
  next_write [] zero = omega arith
  next_write [] (suc n) = omega arith
  next_write (w ∷ ws) zero = subst (λ n. calls_of_write tables w + sum_by (calls_of_write tables) ws ≤ n) (sym (sum_by-cons (calls_of_write tables) w ws)) (omega arith)
  next_write (w ∷ ws) (suc n) = next_write ws n

  not_over : (b : Bool) (n : ℕ) → cond b 0 n ≤ n
  not_over true n = omega arith
  not_over false n = omega arith

  find_write : (ws : List Write) (n : ℕ) → 1 ≤ n → n ≤ length ws → (w : Write) × (write_at ws n ≡ Some w)
  find_write [] n one inside = absurd (omega arith)
  find_write (w ∷ ws) zero one inside = absurd (omega arith)
  find_write (w ∷ ws) (suc zero) one inside = (w, refl)
  find_write (w ∷ ws) (suc (suc n)) one inside = find_write ws (suc n) (omega arith) (omega arith)

  going_inside : (v : View) → is_over v ≡ false → v.at ≤ length v.writes
  going_inside v h = inside (length v.writes) v.at (neither_of (is_some v.over) (nat_lt (length v.writes) v.at) h).1
    where
      inside : (a b : ℕ) → nat_lt a b ≡ false → b ≤ a
      inside a b h = grind (arith, nat_tests)

  hand_write : (v : View) → 1 ≤ v.at → is_over v ≡ false → (w : Write) × (write_at v.writes v.at ≡ Some w)
  hand_write v one going = find_write v.writes v.at one (going_inside v going)

  left_going : (v : View) (w : Write) → is_over v ≡ false → write_at v.writes v.at ≡ Some w → left v ≡ calls_left tables w v.next + later v.at v.writes
  left_going v w going is = ap (λ b. cond {A = ℕ} b 0 (hand (write_at v.writes v.at) v.next + later v.at v.writes)) going ∙ ap (λ (o : Option Write). hand o v.next + later v.at v.writes) is

  -- ---- a step of a client that isn't over leaves one call less

  -- so does a call that leads to this
  abbrev Less : View → View → Type 0
  Less v u = left u + 1 ≤ left v

  module _ (v : View) (w : Write) (going : is_over v ≡ false) (is : write_at v.writes v.at ≡ Some w) where
    told_less : (o : Outcome) → Less v (told_view v o)
    told_less o = by (is_fault o)
      where
        whole : left v ≡ calls_left tables w v.next + later v.at v.writes
        whole = left_going v w going is

        one : 1 ≤ calls_left tables w v.next
        one = one_call tables w v.next

        over_less : (n a b : ℕ) → n ≡ a + b → 1 ≤ a → 0 + 1 ≤ n
        over_less n a b e h = omega arith

        next_less : (x m n a b : ℕ) → x ≤ m → m ≤ b → n ≡ a + b → 1 ≤ a → x + 1 ≤ n
        next_less x m n a b h k e l = omega arith

        number : v.at + 1 ≡ suc v.at
        number = omega arith

        by : (b : Bool) → Less v (cond b (record v { over = Some o }) (record v { at = v.at + 1; next = Reading }))
        by true = over_less (left v) (calls_left tables w v.next) (later v.at v.writes) whole one
        by false = next_less (left (record v { at = v.at + 1; next = Reading })) (hand (write_at v.writes (v.at + 1)) Reading + later (v.at + 1) v.writes) (left v) (calls_left tables w v.next) (later v.at v.writes)
            (not_over (is_over (record v { at = v.at + 1; next = Reading })) (hand (write_at v.writes (v.at + 1)) Reading + later (v.at + 1) v.writes))
            (subst (λ n. hand (write_at v.writes n) Reading + later n v.writes ≤ later v.at v.writes) (sym number) (next_write v.writes v.at)) whole one

    on_less : (next : Next) → 1 + calls_left tables w next ≤ calls_left tables w v.next → Less v (record v { next = next })
    on_less next falls = fewer (left (record v { next = next })) (left v) (calls_left tables w next) (calls_left tables w v.next) (later v.at v.writes) (left_going (record v { next = next }) w going is) (left_going v w going is) falls
      where
        fewer : (x n a b l : ℕ) → x ≡ a + l → n ≡ b + l → 1 + a ≤ b → x + 1 ≤ n
        fewer x n a b l e f h = omega arith

    call_less : (c : Content) (t : Then) → Falls tables w (calls_left tables w v.next) t → Less v (after_call v (c, t)).view
    call_less c (On next) falls = on_less next falls
    call_less c (Puts next) falls = on_less next falls
    call_less c (Ends o) falls = told_less o

    met_less : (c : Content) (fate : Fate) → Less v (after_call v (call_by tables v c fate)).view
    met_less c Answers = call_less (gone_on tables v v.next c).0 (gone_on tables v v.next c).1 (gone_falls tables v c w is v.next)
    met_less c NotDone = told_less outcome.Failed
    met_less c DoneUnseen = told_less outcome.Failed
    met_less c NoMemory = told_less outcome.NoMem

  -- a client that isn't over has a call left
  some_left : (v : View) → 1 ≤ v.at → left v ≤ 0 → is_over v ≡ true
  some_left v one none = by (is_over v) refl
    where
      some : (n a b : ℕ) → n ≤ 0 → n ≡ a + b → 1 ≤ a → ⊥
      some n a b h e k = omega arith

      by : (b : Bool) → is_over v ≡ b → b ≡ true
      by true e = refl
      by false going =
          let w = hand_write v one going in
          absurd (some (left v) (calls_left tables w.0 v.next) (later v.at v.writes) none (left_going v w.0 going w.1) (one_call tables w.0 v.next))

  step_less : (v : View) (c : Content) (fate : Fate) (n : ℕ) → 1 ≤ v.at → left v ≤ 1 + n → left (stepped tables v c fate).view ≤ n
  step_less v c fate n one few = by_call tables v c fate (λ (a : After). left a.view ≤ n) over going
    where
      none : (m : ℕ) → 0 ≤ m
      none m = omega arith

      less : (x m k : ℕ) → x + 1 ≤ m → m ≤ 1 + k → x ≤ k
      less x m k h l = omega arith

      over : is_over v ≡ true → left v ≤ n
      over e = subst (λ b. cond b 0 (hand (write_at v.writes v.at) v.next + later v.at v.writes) ≤ n) (sym e) (none n)

      going : is_over v ≡ false → left (after_call v (call_by tables v c fate)).view ≤ n
      going e = let w = hand_write v one e in less (left (after_call v (call_by tables v c fate)).view) (left v) n (met_less v w.0 e w.1 c fate) few

  -- ---- numbers of writes begin at 1
  told_one : (v : View) (o : Outcome) → 1 ≤ v.at → 1 ≤ (told_view v o).at
  told_one v o one = by (is_fault o)
    where
      by : (b : Bool) → 1 ≤ (cond b (record v { over = Some o }) (record v { at = v.at + 1; next = Reading })).at
      by true = one
      by false = omega arith

  call_one : (v : View) (t : Content × Then) → 1 ≤ v.at → 1 ≤ (after_call v t).view.at
  call_one v (c, On next) one = one
  call_one v (c, Puts next) one = one
  call_one v (c, Ends o) one = told_one v o one

  step_one : (v : View) (c : Content) (fate : Fate) → 1 ≤ v.at → 1 ≤ (stepped tables v c fate).view.at
  step_one v c fate one = by_call tables v c fate (λ (a : After). 1 ≤ a.view.at) (λ _. one) (λ _. call_one v (call_by tables v c fate) one)

  -- ---- every schedule
  abbrev Entries : ℕ → List Event → ℕ
  Entries p es = count_by (λ (e : Event). e.place == p) es

  abbrev EndsBy : List Event → Type 0
  EndsBy es = (r : Run) (p : ℕ) (v u : View) → slice_get r.clients p ≡ Some v → 1 ≤ v.at → left v ≤ Entries p es → slice_get (run tables r es).clients p ≡ Some u → is_over u ≡ true

  turn_ends : (e : Event) (es : List Event) → EndsBy es → (r : Run) (p : ℕ) (v u : View) → slice_get r.clients p ≡ Some v → 1 ≤ v.at → left v ≤ Entries p (e ∷ es)
      → (o : Option View) → slice_get r.clients e.place ≡ o → slice_get (run tables (turned tables r e o) es).clients p ≡ Some u → is_over u ≡ true
  turn_ends e es rest r p v u is one few o there behind = by (e.place == p) refl o there behind
    where
      counts : Entries p (e ∷ es) ≡ cond (e.place == p) 1 0 + Entries p es
      counts = sum_by-cons (λ (e : Event). cond {A = ℕ} (e.place == p) 1 0) e es

      zero_more : (n : ℕ) → 0 + n ≡ n
      zero_more n = omega arith

      few_other : (e.place == p) ≡ false → left v ≤ Entries p es
      few_other place = subst (λ n. left v ≤ n) (counts ∙ ap (λ b. cond {A = ℕ} b 1 0 + Entries p es) place ∙ zero_more (Entries p es)) few

      by : (b : Bool) → (e.place == p) ≡ b → (o : Option View) → slice_get r.clients e.place ≡ o → slice_get (run tables (turned tables r e o) es).clients p ≡ Some u → is_over u ≡ true
      by true place None none behind =
          let wrong : ◌≡◌ {A = Option View} None (Some v) = sym none ∙ ap (slice_get r.clients) (eqb-true e.place p place) ∙ is in absurd (cc)
      by true place (Some x) there behind =
          let here = eqb-true e.place p place in
          let both : ◌≡◌ {A = Option View} (Some x) (Some v) = sym there ∙ ap (slice_get r.clients) here ∙ is in
          let same : x ≡ v = cc in
          let x_one : 1 ≤ x.at = subst (λ (v : View). 1 ≤ v.at) (sym same) one in
          let x_few : left x ≤ 1 + Entries p es = subst (λ n. left x ≤ n) (counts ∙ ap (λ b. cond {A = ℕ} b 1 0 + Entries p es) place) (subst (λ (v : View). left v ≤ Entries p (e ∷ es)) (sym same) few) in
          rest (turned tables r e (Some x)) p (stepped tables x r.content e.fate).view u
          (subst (λ q. slice_get (slice_set r.clients e.place (stepped tables x r.content e.fate).view) q ≡ Some (stepped tables x r.content e.fate).view) here (set_here r.clients e.place x (stepped tables x r.content e.fate).view there))
          (step_one x r.content e.fate x_one) (step_less x r.content e.fate (Entries p es) x_one x_few) behind
      by false place None none behind = rest r p v u is one (few_other place) behind
      by false place (Some x) there behind =
          rest (turned tables r e (Some x)) p v u (set_apart r.clients e.place p (stepped tables x r.content e.fate).view (eqb-false e.place p place) ∙ is) one
          (few_other place) behind

  ends_by : (es : List Event) → EndsBy es
  ends_by [] r p v u is one few behind =
      let both : ◌≡◌ {A = Option View} (Some v) (Some u) = sym is ∙ behind in
      let same : v ≡ u = cc in
      subst (λ (v : View). is_over v ≡ true) same (some_left v one few)
  ends_by (e ∷ es) r p v u is one few behind = turn_ends e es (ends_by es) r p v u is one few (slice_get r.clients e.place) refl behind

  -- ---- the steps of a list and then of another
  pub run-append : (xs ys : List Event) (r : Run) → run tables r (xs ++ ys) ≡ run tables (run tables r xs) ys
  run-append [] ys r = refl
  run-append (x ∷ xs) ys r = run-append xs ys (turn tables r x)

  -- where all are over no step does anything
  set_itself : (vs : List View) (p : ℕ) (v : View) → slice_get vs p ≡ Some v → slice_set vs p v ≡ vs
  set_itself [] p v is = refl
  set_itself (x ∷ vs) zero v is = let here : x ≡ v = cc in ap (λ (v : View). v ∷ vs) (sym here)
  set_itself (x ∷ vs) (suc p) v is = ap (λ (ws : List View). x ∷ ws) (set_itself vs p v is)

  turn_still : (r : Run) (e : Event) (o : Option View) → slice_get r.clients e.place ≡ o → AllByRecursion (λ (v : View). is_over v ≡ true) r.clients → turned tables r e o ≡ r
  turn_still r e None is all = refl
  turn_still r e (Some v) is all =
      ap (λ b. with_step r e.place (cond b (record { content = r.content; view = v; step = step.Over }) (met tables v r.content e.fate))) (at_place (λ (v : View). is_over v ≡ true) r.clients e.place v all is)
      ∙ (λ i. record { content = r.content; clients = set_itself r.clients e.place v is i; told = append-nil r.told i; puts = append-nil r.puts i })

  run_still : (es : List Event) (r : Run) → AllByRecursion (λ (v : View). is_over v ≡ true) r.clients → run tables r es ≡ r
  run_still [] r all = refl
  run_still (e ∷ es) r all = ap (λ (r : Run). run tables r es) (turn_still r e (slice_get r.clients e.place) refl all) ∙ run_still es r all

  -- ---- from the beginning
  pub run_writes : (es : List Event) (r : Run) (p : ℕ) (v : View) → slice_get r.clients p ≡ Some v → (u : View) × (slice_get (run tables r es).clients p ≡ Some u) × (u.writes ≡ v.writes)
  run_writes [] r p v is = (v, is, refl)
  run_writes (e ∷ es) r p v is = let t = turn_writes (slice_get r.clients e.place) refl in let x = run_writes es (turn tables r e) p t.0 t.1 in (x.0, x.1, x.2 ∙ t.2)
    where
      turn_writes : (o : Option View) → slice_get r.clients e.place ≡ o → (u : View) × (slice_get (turned tables r e o).clients p ≡ Some u) × (u.writes ≡ v.writes)
      turn_writes None none = (v, is, refl)
      turn_writes (Some x) there = by (e.place == p) refl
        where
          a : After
          a = stepped tables x r.content e.fate

          by : (b : Bool) → (e.place == p) ≡ b → (u : View) × (slice_get (slice_set r.clients e.place a.view) p ≡ Some u) × (u.writes ≡ v.writes)
          by true place =
              let here = eqb-true e.place p place in
              let both : ◌≡◌ {A = Option View} (Some x) (Some v) = sym there ∙ ap (slice_get r.clients) here ∙ is in
              let same : x ≡ v = cc in
              (a.view, subst (λ q. slice_get (slice_set r.clients e.place a.view) q ≡ Some a.view) here (set_here r.clients e.place x a.view there), step_writes tables x r.content e.fate ∙ ap (λ (v : View). v.writes) same)
          by false place = (v, set_apart r.clients e.place p a.view (eqb-false e.place p place) ∙ is, refl)

  pub same_length : (es : List Event) (r : Run) (p : ℕ) → slice_get r.clients p ≡ None → slice_get (run tables r es).clients p ≡ None
  same_length [] r p none = none
  same_length (e ∷ es) r p none = same_length es (turn tables r e) p (by (slice_get r.clients e.place) refl)
    where
      by : (o : Option View) → slice_get r.clients e.place ≡ o → slice_get (turned tables r e o).clients p ≡ None
      by None is = none
      by (Some x) is = set_apart r.clients e.place p (stepped tables x r.content e.fate).view
          (λ same. let wrong : ◌≡◌ {A = Option View} (Some x) None = sym is ∙ ap (slice_get r.clients) same ∙ none in cc) ∙ none

  pub comes_to_end : (c : Content) (clients : List View) (events : List Event) → AllByRecursion (IsFresh tables) clients → ComesToEnd tables (begun c clients) events
  comes_to_end c clients events fresh = record {
    ends = λ p u behind enough. by p u behind enough (slice_get clients p) refl;
    still = λ over more. run-append events more (begun c clients) ∙ run_still more (run tables (begun c clients) events) (each_by (λ (v : View). is_over v ≡ true) (run tables (begun c clients) events).clients over);
  }
    where
      fresh_left : (v : View) → IsFresh tables v → (1 ≤ v.at) × (left v ≤ sum_by (calls_of_write tables) v.writes)
      fresh_left v h = subst (λ (v : View). (1 ≤ v.at) × (left v ≤ sum_by (calls_of_write tables) v.writes)) (sym h.fresh)
          (omega arith, first (not_over (nat_lt (length v.writes) 1) (hand (write_at v.writes 1) Reading + later 1 v.writes)) (next_write v.writes 0))
        where
          first : {x y z : ℕ} → x ≤ y → y ≤ z → x ≤ z
          first h k = omega arith

      by : (p : ℕ) (u : View) → slice_get (run tables (begun c clients) events).clients p ≡ Some u → sum_by (calls_of_write tables) u.writes ≤ count_by (λ e. e.place == p) events → (o : Option View) → slice_get clients p ≡ o → is_over u ≡ true
      by p u behind enough None none = let wrong : ◌≡◌ {A = Option View} None (Some u) = sym (same_length events (begun c clients) p none) ∙ behind in absurd (cc)
      by p u behind enough (Some v) here =
          let x = run_writes events (begun c clients) p v here in
          let both : ◌≡◌ {A = Option View} (Some x.0) (Some u) = sym x.1 ∙ behind in
          let same : x.0 ≡ u = cc in
          let writes : u.writes ≡ v.writes = ap (λ (v : View). v.writes) (sym same) ∙ x.2 in
          let f = fresh_left v (at_place (IsFresh tables) clients p v fresh here) in
          ends_by events (begun c clients) p v u here f.0 (few (left v) (sum_by (calls_of_write tables) v.writes) (Entries p events) f.1 (subst (λ (ws : List Write). sum_by (calls_of_write tables) ws ≤ Entries p events) writes enough)) behind
        where
          few : (x y z : ℕ) → x ≤ y → y ≤ z → x ≤ z
          few x y z h k = omega arith
