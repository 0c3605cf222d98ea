-- The steps of a write that holds its key: one lemma for each kind of change to the content.
use Rattle.std.proofs.Common.{◌≡◌, ℕ, ◌+◌, nat_le, Bool, true, false, cond, ◌||◌, inl, inr, List, [], Option, Some, None, is_some, refl, sym, ap, ◌∙◌, subst}
use Rattle.std.specs.FinMap.{get}
use Rattle.std.proofs.lemmas.Bool.{false≢true}
use Rattle.pq_schema.specs.declared.table.Table.{Table}
use Rattle.pq_content.specs.Pairs.{is_in_space}
use Rattle.pq_content.proofs.Keys.{same_key}
use Rattle.pq_store.specs.Content.{Content, written_content}
use Rattle.pq_index_keep.specs.Sound.{AreWritable}
use Rattle.pq_clients.specs.Held.{Cell, Free, Held, cell_of, held_value}
use Rattle.pq_clients.specs.Flights.{Flight, flight_key}
use Rattle.pq_clients.specs.Clients.{Stage}
use Rattle.pq_clients.specs.Steps.{counted}
use Rattle.pq_clients.specs.Invariant.{code_row, row_in_group, key_table, has_code_entry, MayStandAt, Names, Group, in_group, group_bound, front_of_group, Hold, Stance, Idle, Holds, Left, cell_at, IsHolder, Owns, present_at_cell, due_by, extra_by, passed_by, due_at, is_there, is_key, KeyGood, AtMost, claims_at, claims, Good, present_of, is_due, is_passed, hold_of}
use Rattle.pq_clients.proofs.Basics.{or_first, or_second, either_of, nothing_more, no_cell, at_or_not, not_both, get_here, get_apart, there_written, there_apart, cell_is, space_apart}
use Rattle.pq_clients.proofs.Owners.{entry_space}
use Rattle.pq_clients.proofs.Frame.{set_stance, set_self, NotAt, Near, near_same, near_row, near_entry, others_row, others_entry, assemble, claims_elsewhere, limits_kept}
use Rattle.pq_clients.proofs.Counting.{Found, counted_most}
use Rattle.pq_clients.proofs.Seen.{Seen, seen}

module _ (tables : List Table) where
  abbrev pub low : Flight → Stage → List ℕ → Bool
  low f s e = has_code_entry tables (flight_key tables f) (present_of tables f s) e || is_due tables f s e

  abbrev pub claim : Flight → Stage → Group → Bool
  claim f s g = in_group tables g (flight_key tables f) (present_of tables f s) || is_passed tables f s g

  -- the entries at a held key
  pub record Local (c : Content) (f : Flight) (s : Stage) : Type 0 where
    pub lower : (e : List ℕ) → Names tables (flight_key tables f) e → low f s e ≡ true → is_there c e ≡ true
    pub upper : (e : List ℕ) → Names tables (flight_key tables f) e → is_there c e ≡ true → low f s e ≡ true

  abbrev pub OwnsAt : Content → ℕ → ℕ → Flight → Stage → Type 0
  OwnsAt c j at f s = Owns c j (Holds (hold_of tables at f s))

  pub owned_cell : (c : Content) (j at : ℕ) (f : Flight) (s : Stage) → OwnsAt c j at f s → cell_at c (flight_key tables f) ≡ Some (Held j at (present_of tables f s))
  owned_cell c j at f s own = cell_is c (flight_key tables f) (Some (held_value j at (present_of tables f s))) own.0 own.1 ∙ ap (λ (x : Cell). Some x) own.2

  pub flying_key : (d : Content) (stances : ℕ → Stance) (j at : ℕ) (f : Flight) (s : Stage) → OwnsAt d j at f s → Local d f s → KeyGood tables (cell_at d (flight_key tables f)) (is_there d) (set_stance stances j (Holds (hold_of tables at f s))) (flight_key tables f)
  flying_key d stances j at f s own loc =
      let h = Holds (hold_of tables at f s) in
      let self = set_self stances j h in
      let k = flight_key tables f in
      let p = present_of tables f s in
      subst (λ (x : Option Cell). KeyGood tables x (is_there d) (set_stance stances j h) k) (sym (owned_cell d j at f s own)) (record {
        held = subst (λ (v : Stance). IsHolder v k at p) (sym self) (refl, refl, refl);
        lower = λ e n h. loc.lower e n (ap (λ (v : Stance). has_code_entry tables k p e || due_by v e) (sym self) ∙ h);
        upper = λ e n h. ap (λ (v : Stance). has_code_entry tables k p e || extra_by v e) self ∙ loc.upper e n h;
      })

  -- ---- what is claimed is among the pairs of the group's range

  -- each row's pair has a row's code
  abbrev pub AreStanding : Content → Type 0
  AreStanding c = (k : List ℕ) → MayStandAt tables k (present_at_cell (cell_at c k))

  -- a client that has passed a limit has all entries of the new row there
  pub record HasPassed (h : Hold) (γ : Group) : Type 0 where
    pub code : Option (List ℕ)
    pub stands : MayStandAt tables h.key code
    pub grouped : in_group tables γ h.key code ≡ true
    pub due : (e : List ℕ) → has_code_entry tables h.key code e ≡ true → h.due e ≡ true

  abbrev pub ArePassed : (ℕ → Stance) → Type 0
  ArePassed stances = (i : ℕ) (γ : Group) (h : Hold) → stances i ≡ Holds h → h.passed γ ≡ true → HasPassed h γ

  no_group : (γ : Group) (k : List ℕ) → in_group tables γ k None ≡ false
  unfolding in_group code_row
  no_group γ k = elim (is_in_space 2 k) as (λ b. row_in_group tables γ (key_table k) (cond b None None) ≡ false) [ true ↦ refl | false ↦ refl ]

  cell_there : (c : Content) (k : List ℕ) (p : Option (List ℕ)) → present_at_cell (cell_at c k) ≡ p → (p ≡ None → ⊥) → is_there c k ≡ true
  cell_there c k p is some =
      elim (is_in_space 2 k) as (λ b. is_in_space 2 k ≡ b → is_there c k ≡ true) [
        | true ↦ λ space. by_get (get c k) refl space
        | false ↦ λ space. absurd (some (sym is ∙ ap present_at_cell (no_cell c k space)))
      ] refl
    where
      by_get : (x : Option (List ℕ)) → get c k ≡ x → is_in_space 2 k ≡ true → is_there c k ≡ true
      by_get None e space = absurd (some (sym is ∙ ap present_at_cell (cell_is c k None space e)))
      by_get (Some v) e space = ap is_some e

  held_there : (c : Content) (k : List ℕ) (x : Cell) → cell_at c k ≡ Some x → is_there c k ≡ true
  held_there c k x is =
      elim (is_in_space 2 k) as (λ b. is_in_space 2 k ≡ b → is_there c k ≡ true) [
        | true ↦ λ space. by_get (get c k) refl space
        | false ↦ λ space. let wrong : ◌≡◌ {A = Option Cell} None (Some x) = sym (no_cell c k space) ∙ is in absurd (cc)
      ] refl
    where
      by_get : (o : Option (List ℕ)) → get c k ≡ o → is_in_space 2 k ≡ true → is_there c k ≡ true
      by_get None e space = let wrong : ◌≡◌ {A = Option Cell} None (Some x) = sym (cell_is c k None space e) ∙ is in absurd (cc)
      by_get (Some v) e space = ap is_some e

  pub claimed_found : AreWritable tables → (c : Content) (stances : ℕ → Stance) → Good tables c stances → AreStanding c → ArePassed stances → (γ : Group) (k : List ℕ) → claims tables c stances γ k ≡ true → Found tables c (front_of_group tables γ) k
  claimed_found sound c stances g stands passed γ k h = by_cell (cell_at c k) refl (g.keys k) (stands k) h
    where
      from_seen : (code : Option (List ℕ)) → Seen tables k code γ → is_there c k ≡ true → ((e : List ℕ) → Names tables k e → has_code_entry tables k code e ≡ true → is_there c e ≡ true) → Found tables c (front_of_group tables γ) k
      from_seen code (inl a) there all = inl (a.0, a.1, there)
      from_seen code (inr a) there all = inr (a.0, a.1, a.2, all a.0 a.1 a.3)

      by_row : (x : Option Cell) → cell_at c k ≡ x → KeyGood tables x (is_there c) stances k → MayStandAt tables k (present_at_cell x) → in_group tables γ k (present_at_cell x) ≡ true → Found tables c (front_of_group tables γ) k
      by_row x is good row h =
          from_seen (present_at_cell x) (seen tables sound k (present_at_cell x) γ row h)
          (cell_there c k (present_at_cell x) (ap present_at_cell is) (λ none. false≢true (sym (no_group γ k) ∙ ap (in_group tables γ k) (sym none) ∙ h)))
          (λ e n there. good.lower e n (or_first _ (due_at x stances e) there))

      by_writer : (i m : ℕ) (p : Option (List ℕ)) → cell_at c k ≡ Some (Held i m p) → KeyGood tables (Some (Held i m p)) (is_there c) stances k → (s : Stance) → stances i ≡ s → IsHolder s k m p → passed_by s γ ≡ true → Found tables c (front_of_group tables γ) k
      by_writer i m p is good Idle e holder h = absurd holder
      by_writer i m p is good (Holds hold) e holder h =
          let w = passed i γ hold e h in
          from_seen w.code (subst (λ (k : List ℕ). Seen tables k w.code γ) holder.0 (seen tables sound hold.key w.code γ w.stands w.grouped))
          (held_there c k (Held i m p) is)
          (λ q n there. good.lower q n (or_second (has_code_entry tables k p q) _ (ap (λ (v : Stance). due_by v q) e ∙ w.due q (ap (λ (k : List ℕ). has_code_entry tables k w.code q) holder.0 ∙ there))))
      by_writer i m p is good (Left l) e holder h = absurd (false≢true h)

      by_cell : (x : Option Cell) → cell_at c k ≡ x → KeyGood tables x (is_there c) stances k → MayStandAt tables k (present_at_cell x) → claims_at tables x stances γ k ≡ true → Found tables c (front_of_group tables γ) k
      by_cell None is good row h = by_row None is good row (nothing_more _ h)
      by_cell (Some (Free code)) is good row h = by_row (Some (Free code)) is good row (nothing_more _ h)
      by_cell (Some (Held i m p)) is good row h = elim (either_of (in_group tables γ k p) (passed_by (stances i) γ) h) [
        | inl grouped ↦ by_row (Some (Held i m p)) is good row grouped
        | inr by ↦ by_writer i m p is good (stances i) refl good.held by
      ]

  module _ (c : Content) (stances : ℕ → Stance) (j at : ℕ) (f : Flight) (s : Stage) (g : Good tables c stances) (is : stances j ≡ Holds (hold_of tables at f s)) where
    pub own : OwnsAt c j at f s
    own = subst (λ (v : Stance). Owns c j v) is (g.owns j)

    pub own_cell : cell_at c (flight_key tables f) ≡ Some (Held j at (present_of tables f s))
    own_cell = owned_cell c j at f s own

    pub local_of : Local c f s
    local_of =
        let key = flight_key tables f in
        let p = present_of tables f s in
        let k = subst (λ (x : Option Cell). KeyGood tables x (is_there c) stances key) own_cell (g.keys key) in
        record {
          lower = λ e n h. k.lower e n (ap (λ (v : Stance). has_code_entry tables key p e || due_by v e) is ∙ h);
          upper = λ e n h. sym (ap (λ (v : Stance). has_code_entry tables key p e || extra_by v e) is) ∙ k.upper e n h;
        }

    pub elsewhere : (a : List ℕ) → (a ≡ flight_key tables f → ⊥) → NotAt (stances j) a
    elsewhere a ne m p h = let k : IsHolder (Holds (hold_of tables at f s)) a m p = subst (λ (v : Stance). IsHolder v a m p) is h in ne (sym k.0)

    pub not_anothers : (i : ℕ) → (i ≡ j → ⊥) → (m : ℕ) (p : Option (List ℕ)) → cell_at c (flight_key tables f) ≡ Some (Held i m p) → ⊥
    not_anothers i ne m p h = let e : ◌≡◌ {A = Option Cell} (Some (Held j at (present_of tables f s))) (Some (Held i m p)) = sym own_cell ∙ h in ne (cc)

    pub claim_here : (γ : Group) → claims tables c stances γ (flight_key tables f) ≡ claim f s γ
    claim_here γ = ap (λ (x : Option Cell). claims_at tables x stances γ (flight_key tables f)) own_cell ∙ ap (λ (v : Stance). in_group tables γ (flight_key tables f) (present_of tables f s) || passed_by v γ) is

    -- the client goes on to s'
    module _ (d : Content) (s' : Stage) (near : Near tables c d (flight_key tables f)) (own' : OwnsAt d j at f s')
        (others : (i : ℕ) → (i ≡ j → ⊥) → Owns d i (stances i)) (loc : Local d f s') where
      pub fly : ((γ : Group) → AtMost (group_bound tables γ) (claims tables d (set_stance stances j (Holds (hold_of tables at f s'))) γ)) → Good tables d (set_stance stances j (Holds (hold_of tables at f s')))
      fly lim = assemble tables c d stances j (flight_key tables f) (Holds (hold_of tables at f s')) g near elsewhere own' others (flying_key d stances j at f s' own' loc) lim

      pub claim_then : (γ : Group) → claims tables d (set_stance stances j (Holds (hold_of tables at f s'))) γ (flight_key tables f) ≡ claim f s' γ
      claim_then γ = ap (λ (x : Option Cell). claims_at tables x (set_stance stances j (Holds (hold_of tables at f s'))) γ (flight_key tables f)) (owned_cell d j at f s' own') ∙ ap (λ (v : Stance). in_group tables γ (flight_key tables f) (present_of tables f s') || passed_by v γ) (set_self stances j (Holds (hold_of tables at f s')))

      pub fly_down : ((γ : Group) → claim f s' γ ≡ true → claim f s γ ≡ true) → Good tables d (set_stance stances j (Holds (hold_of tables at f s')))
      fly_down down = fly (λ γ. limits_kept tables c d stances j (flight_key tables f) (Holds (hold_of tables at f s')) g near elsewhere γ (λ h. claim_here γ ∙ down γ (sym (claim_then γ) ∙ h)))

    -- ---- the kinds of change
    own_then : (s' : Stage) → present_of tables f s' ≡ present_of tables f s → OwnsAt c j at f s'
    own_then s' same = (
      own.0,
      own.1 ∙ ap (λ (p : Option (List ℕ)). Some (held_value j at p)) (sym same),
      ap (λ (p : Option (List ℕ)). cell_of (held_value j at p)) same ∙ own.2 ∙ ap (λ (p : Option (List ℕ)). Held j at p) (sym same),
    )

    -- none
    pub stay : (s' : Stage) → present_of tables f s' ≡ present_of tables f s → ((e : List ℕ) → low f s' e ≡ true → low f s e ≡ true) → ((e : List ℕ) → low f s e ≡ true → low f s' e ≡ true) → ((γ : Group) → claim f s' γ ≡ true → claim f s γ ≡ true) → Good tables c (set_stance stances j (Holds (hold_of tables at f s')))
    stay s' same lo hi down =
        fly_down c s' (near_same tables c (flight_key tables f)) (own_then s' same) (λ i _. g.owns i)
        (record { lower = λ e n h. local_of.lower e n (lo e h); upper = λ e n h. hi e (local_of.upper e n h) }) down

    own_entry : (e : List ℕ) (x : Option (List ℕ)) (s' : Stage) → Names tables (flight_key tables f) e → present_of tables f s' ≡ present_of tables f s → OwnsAt (written_content e x c) j at f s'
    own_entry e x s' names same =
        let before = own_then s' same in
        (before.0, get_apart e x c (flight_key tables f) (λ k. space_apart 2 (flight_key tables f) e before.0 (not_both e (entry_space tables (flight_key tables f) e names)) k) ∙ before.1, before.2)

    -- an entry is added
    pub add : (s' : Stage) (q : List ℕ) → Names tables (flight_key tables f) q → present_of tables f s' ≡ present_of tables f s
        → ((e : List ℕ) → is_key e q ≡ false → low f s' e ≡ true → low f s e ≡ true)
        → low f s' q ≡ true → ((e : List ℕ) → low f s e ≡ true → low f s' e ≡ true)
        → ((γ : Group) → claim f s' γ ≡ true → claim f s γ ≡ true)
        → Good tables (written_content q (Some []) c) (set_stance stances j (Holds (hold_of tables at f s')))
    add s' q names same lo here hi down =
        let d = written_content q (Some []) c in
        let key = flight_key tables f in
        fly_down d s' (near_entry tables c q key (Some []) names) (own_entry q (Some []) s' names same) (λ i _. others_entry tables c q (Some []) i (stances i) (entry_space tables key q names) (g.owns i))
        (record {
          lower = λ e n h. there_written q (Some []) c e ∙ elim (is_key e q) as (λ b. is_key e q ≡ b → cond b true (is_there c e) ≡ true) [ true ↦ λ _. refl | false ↦ λ ne. local_of.lower e n (lo e ne h) ] refl;
          upper = λ e n h. elim (is_key e q) as (λ b. is_key e q ≡ b → cond b true (is_there c e) ≡ true → low f s' e ≡ true) [ true ↦ λ k _. subst (λ (e : List ℕ). low f s' e ≡ true) (sym (same_key e q k)) here | false ↦ λ ne h. hi e (local_of.upper e n h) ] refl (sym (there_written q (Some []) c e) ∙ h);
        }) down

    -- an entry is removed
    pub drop : (s' : Stage) (q : List ℕ) → Names tables (flight_key tables f) q → present_of tables f s' ≡ present_of tables f s
        → low f s' q ≡ false → ((e : List ℕ) → low f s' e ≡ true → low f s e ≡ true)
        → ((e : List ℕ) → is_key e q ≡ false → low f s e ≡ true → low f s' e ≡ true)
        → ((γ : Group) → claim f s' γ ≡ true → claim f s γ ≡ true)
        → Good tables (written_content q None c) (set_stance stances j (Holds (hold_of tables at f s')))
    drop s' q names same here lo hi down =
        let d = written_content q None c in
        let key = flight_key tables f in
        fly_down d s' (near_entry tables c q key None names) (own_entry q None s' names same) (λ i _. others_entry tables c q None i (stances i) (entry_space tables key q names) (g.owns i))
        (record {
          lower = λ e n h. there_written q None c e ∙ elim (is_key e q) as (λ b. is_key e q ≡ b → cond b false (is_there c e) ≡ true) [ true ↦ λ k. absurd (false≢true (sym here ∙ ap (low f s') (sym (same_key e q k)) ∙ h)) | false ↦ λ ne. local_of.lower e n (lo e h) ] refl;
          upper = λ e n h. elim (is_key e q) as (λ b. is_key e q ≡ b → cond b false (is_there c e) ≡ true → low f s' e ≡ true) [ true ↦ λ k h. absurd (false≢true h) | false ↦ λ ne h. hi e ne (local_of.upper e n h) ] refl (sym (there_written q None c e) ∙ h);
        }) down

    -- the held value is written
    pub put : (s' : Stage) → cell_of (held_value j at (present_of tables f s')) ≡ Held j at (present_of tables f s')
        → ((e : List ℕ) → low f s' e ≡ true → low f s e ≡ true) → ((e : List ℕ) → low f s e ≡ true → low f s' e ≡ true)
        → ((γ : Group) → claim f s' γ ≡ true → claim f s γ ≡ true)
        → Good tables (written_content (flight_key tables f) (Some (held_value j at (present_of tables f s'))) c) (set_stance stances j (Holds (hold_of tables at f s')))
    put s' back lo hi down =
        let key = flight_key tables f in
        let x = Some (held_value j at (present_of tables f s')) in
        let d = written_content key x c in
        let kept = λ (e : List ℕ) (n : Names tables key e). there_apart key x c e (λ same. space_apart 2 key e own.0 (not_both e (entry_space tables key e n)) (sym same)) in
        fly_down d s' (near_row tables c key x own.0) (own.0, get_here key x c, back) (λ i ne. others_row tables c key x i (stances i) (not_anothers i ne) (g.owns i))
        (record {
          lower = λ e n h. kept e n ∙ local_of.lower e n (lo e h);
          upper = λ e n h. hi e (local_of.upper e n (sym (kept e n) ∙ h));
        }) down

    -- a limit is tested, and one more is passed
    pub pass : AreWritable tables → AreStanding c → ArePassed stances
        → (s' : Stage) (front : List ℕ) (n : ℕ) → present_of tables f s' ≡ present_of tables f s → ((e : List ℕ) → low f s' e ≡ true → low f s e ≡ true) → ((e : List ℕ) → low f s e ≡ true → low f s' e ≡ true)
        → nat_le (counted c front (n + 1)) n ≡ true
        → (fresh : Group → Bool)
        → ((γ : Group) → claim f s' γ ≡ true → (claim f s γ || fresh γ) ≡ true)
        → ((γ : Group) → fresh γ ≡ true → (front_of_group tables γ ≡ front) × (group_bound tables γ ≡ n))
        → (new : Option (List ℕ)) → MayStandAt tables (flight_key tables f) new → ((γ : Group) → fresh γ ≡ true → in_group tables γ (flight_key tables f) new ≡ true) → ((e : List ℕ) → has_code_entry tables (flight_key tables f) new e ≡ true → low f s e ≡ true)
        → Good tables c (set_stance stances j (Holds (hold_of tables at f s')))
    pass sound stands passed s' front n same lo hi few fresh down fronts new news grouped there =
        let key = flight_key tables f in
        let near = near_same tables c key in
        let v' = Holds (hold_of tables at f s') in
        let loc : Local c f s' = record { lower = λ e n h. local_of.lower e n (lo e h); upper = λ e n h. hi e (local_of.upper e n h) } in
        let then = λ (γ : Group). claim_then c s' near (own_then s' same) (λ i _. g.owns i) loc γ in
        fly c s' near (own_then s' same) (λ i _. g.owns i) loc (λ γ.
        elim (fresh γ) as (λ b. fresh γ ≡ b → AtMost (group_bound tables γ) (claims tables c (set_stance stances j v') γ)) [
          | true ↦ λ is. subst (λ (n : ℕ). AtMost n (claims tables c (set_stance stances j v') γ)) (sym (fronts γ is).1)
              (counted_most tables c front n (claims tables c (set_stance stances j v') γ) few (λ k. at_or_not k key (λ k. claims tables c (set_stance stances j v') γ k ≡ true → Found tables c front k)
              (λ _. subst (λ (front : List ℕ). Found tables c front key) (fronts γ is).0 (own_found γ (seen tables sound key new γ news (grouped γ is))))
              (λ ne h. subst (λ (front : List ℕ). Found tables c front k) (fronts γ is).0 (claimed_found sound c stances g stands passed γ k (sym (claims_elsewhere tables c c stances j key v' g near elsewhere γ k ne) ∙ h)))))
          | false ↦ λ is. limits_kept tables c c stances j key v' g near elsewhere γ (λ h. claim_here γ ∙ down_old γ is (down γ (sym (then γ) ∙ h)))
        ] refl)
      where
        down_old : (γ : Group) → fresh γ ≡ false → (claim f s γ || fresh γ) ≡ true → claim f s γ ≡ true
        down_old γ is h = nothing_more (claim f s γ) (sym (ap (λ b. claim f s γ || b) is) ∙ h)

        own_found : (γ : Group) → Seen tables (flight_key tables f) new γ → Found tables c (front_of_group tables γ) (flight_key tables f)
        own_found γ (inl a) = inl (a.0, a.1, ap is_some own.1)
        own_found γ (inr a) = inr (a.0, a.1, a.2, local_of.lower a.0 a.1 (there a.0 a.3))
