-- A key is taken, given back, or left behind.
use Rattle.std.proofs.Common.{◌≡◌, ℕ, Bool, true, false, ◌||◌, ◌⊎◌, List, Option, Some, None, refl, sym, ap, ◌∙◌, subst}
use Rattle.std.specs.FinMap.{get}
use Rattle.pq_schema.specs.declared.table.Table.{Table}
use Rattle.pq_content.specs.Pairs.{is_in_space}
use Rattle.pq_store.specs.Content.{Content, written_content}
use Rattle.pq_index_keep.specs.Sound.{AreWritable}
use Rattle.pq_clients.specs.Held.{Cell, Held, cell_of, held_value}
use Rattle.pq_clients.specs.Flights.{Flight, flight_key, flight_checks}
use Rattle.pq_clients.specs.Clients.{Stage}
use Rattle.pq_clients.specs.Steps.{checking}
use Rattle.pq_clients.specs.Invariant.{has_code_entry, MayStandAt, Names, Group, in_group, group_bound, Remains, Stance, Idle, Holds, Left, cell_at, IsHolder, Owns, present_at_cell, due_by, extra_by, passed_by, is_there, KeyGood, claims_at, claims, Good, present_of, hold_of, FlightFits}
use Rattle.pq_clients.proofs.Basics.{or_first, nothing_more, not_both, get_here, there_apart, space_apart}
use Rattle.pq_clients.proofs.Owners.{entry_space}
use Rattle.pq_clients.proofs.Frame.{set_stance, set_self, NotAt, near_same, near_row, others_row, assemble, limits_kept, key_kept, same_at, stance_set, fewer}
use Rattle.pq_clients.proofs.Cells.{plain, plain_cell}
use Rattle.pq_clients.proofs.Coded.{key_space}
use Rattle.pq_clients.proofs.Flying.{low, OwnsAt, owned_cell, flying_key, own_cell, local_of, elsewhere, not_anothers, claim_here}
use Rattle.pq_clients.proofs.Stages.{present_checking, low_checking, high_checking, claim_checking}

module _ (tables : List Table) where
  pub plain_good : (p : Option (List ℕ)) (marks : List ℕ → Bool) (stances : ℕ → Stance) (k : List ℕ) → ((e : List ℕ) → Names tables k e → has_code_entry tables k p e ≡ true → marks e ≡ true) → ((e : List ℕ) → Names tables k e → marks e ≡ true → has_code_entry tables k p e ≡ true) → KeyGood tables (plain p) marks stances k
  plain_good None marks stances k lo hi = record { held = tt; lower = λ e n h. lo e n (nothing_more (has_code_entry tables k None e) h); upper = λ e n h. or_first (has_code_entry tables k None e) false (hi e n h) }
  plain_good (Some code) marks stances k lo hi = record { held = tt; lower = λ e n h. lo e n (nothing_more (has_code_entry tables k (Some code) e) h); upper = λ e n h. or_first (has_code_entry tables k (Some code) e) false (hi e n h) }

  pub plain_claim : (p : Option (List ℕ)) (stances : ℕ → Stance) (γ : Group) (k : List ℕ) → claims_at tables (plain p) stances γ k ≡ (in_group tables γ k p || false)
  plain_claim None stances γ k = refl
  plain_claim (Some code) stances γ k = refl

  plain_lower : (p : Option (List ℕ)) (marks : List ℕ → Bool) (stances : ℕ → Stance) (k : List ℕ) → KeyGood tables (plain p) marks stances k → (e : List ℕ) → Names tables k e → has_code_entry tables k p e ≡ true → marks e ≡ true
  plain_lower None marks stances k g e n h = g.lower e n (or_first (has_code_entry tables k None e) false h)
  plain_lower (Some code) marks stances k g e n h = g.lower e n (or_first (has_code_entry tables k (Some code) e) false h)

  plain_upper : (p : Option (List ℕ)) (marks : List ℕ → Bool) (stances : ℕ → Stance) (k : List ℕ) → KeyGood tables (plain p) marks stances k → (e : List ℕ) → Names tables k e → marks e ≡ true → has_code_entry tables k p e ≡ true
  plain_upper None marks stances k g e n h = nothing_more (has_code_entry tables k None e) (g.upper e n h)
  plain_upper (Some code) marks stances k g e n h = nothing_more (has_code_entry tables k (Some code) e) (g.upper e n h)

  plain_not_held : (p : Option (List ℕ)) (i m : ℕ) (q : Option (List ℕ)) → plain p ≡ Some (Held i m q) → ⊥
  plain_not_held None i m q e = cc
  plain_not_held (Some code) i m q e = cc

  row_keeps : (c : Content) (k e : List ℕ) (x : Option (List ℕ)) → is_in_space 2 k ≡ true → Names tables k e → is_there (written_content k x c) e ≡ is_there c e
  row_keeps c k e x space n = there_apart k x c e (λ same. space_apart 2 k e space (not_both e (entry_space tables k e n)) (sym same))

  module _ (sound : AreWritable tables) (c : Content) (stances : ℕ → Stance) (j at : ℕ) (f : Flight) (s : Stage) (g : Good tables c stances) (is : stances j ≡ Holds (hold_of tables at f s)) where
    -- the key is given back
    pub landed : MayStandAt tables (flight_key tables f) (present_of tables f s) → ((e : List ℕ) → low tables f s e ≡ true → has_code_entry tables (flight_key tables f) (present_of tables f s) e ≡ true)
        → Good tables (written_content (flight_key tables f) (present_of tables f s) c) (set_stance stances j Idle)
    landed stands hi =
        let key = flight_key tables f in
        let p = present_of tables f s in
        let d = written_content key p c in
        let space = key_space tables f.write in
        let near = near_row tables c key p space in
        let only = elsewhere tables c stances j at f s g is in
        let loc = local_of tables c stances j at f s g is in
        let cell = plain_cell tables d key p sound stands space (get_here key p c) in
        assemble tables c d stances j key Idle g near only tt
        (λ i ne. others_row tables c key p i (stances i) (not_anothers tables c stances j at f s g is i ne) (g.owns i))
        (subst (λ (y : Option Cell). KeyGood tables y (is_there d) (set_stance stances j Idle) key) (sym cell)
        (plain_good p (is_there d) (set_stance stances j Idle) key
        (λ e n h. row_keeps c key e p space n ∙ loc.lower e n (or_first (has_code_entry tables key p e) _ h))
        (λ e n h. hi e (loc.upper e n (sym (row_keeps c key e p space n) ∙ h)))))
        (λ γ. limits_kept tables c d stances j key Idle g near only γ (λ h. claim_here tables c stances j at f s g is γ
        ∙ or_first (in_group tables γ key p) _ (nothing_more (in_group tables γ key p) (sym (ap (λ (y : Option Cell). claims_at tables y (set_stance stances j Idle) γ key) cell ∙ plain_claim p (set_stance stances j Idle) γ key) ∙ h))))

    -- the client ends
    pub left : (l : Remains) → l.key ≡ flight_key tables f → l.at ≡ at → (present_of tables f s ≡ l.one) ⊎ (present_of tables f s ≡ l.two)
        → ((e : List ℕ) → low tables f s e ≡ true → (has_code_entry tables (flight_key tables f) (present_of tables f s) e || l.extra e) ≡ true)
        → Good tables c (set_stance stances j (Left l))
    left l key_is at_is shows hi =
        let key = flight_key tables f in
        let p = present_of tables f s in
        let v' = Left l in
        let near = near_same tables c key in
        let only = elsewhere tables c stances j at f s g is in
        let loc = local_of tables c stances j at f s g is in
        let cell = own_cell tables c stances j at f s g is in
        let self = set_self stances j v' in
        assemble tables c c stances j key v' g near only tt (λ i _. g.owns i)
        (subst (λ (y : Option Cell). KeyGood tables y (is_there c) (set_stance stances j v') key) (sym cell) (record {
          held = subst (λ (v : Stance). IsHolder v key at p) (sym self) (key_is, at_is, shows);
          lower = λ e n h. loc.lower e n (or_first (has_code_entry tables key p e) _ (nothing_more (has_code_entry tables key p e) (sym (ap (λ (v : Stance). has_code_entry tables key p e || due_by v e) self) ∙ h)));
          upper = λ e n h. ap (λ (v : Stance). has_code_entry tables key p e || extra_by v e) self ∙ hi e (loc.upper e n h);
        }))
        (λ γ. limits_kept tables c c stances j key v' g near only γ (λ h. claim_here tables c stances j at f s g is γ
        ∙ or_first (in_group tables γ key p) _ (nothing_more (in_group tables γ key p) (sym (ap (λ (y : Option Cell). claims_at tables y (set_stance stances j v') γ key) cell ∙ ap (λ (v : Stance). in_group tables γ key p || passed_by v γ) self) ∙ h))))

  -- ---- a client that holds nothing
  module _ (c : Content) (stances : ℕ → Stance) (j : ℕ) (g : Good tables c stances) (is : stances j ≡ Idle) where
    idle_never : (k : List ℕ) → NotAt (stances j) k
    idle_never k m p h = subst (λ (v : Stance). IsHolder v k m p) is h

    pub idle : (v' : Stance) → Owns c j v' → Good tables c (set_stance stances j v')
    idle v' owned = record {
      owns = stance_set tables stances j v' (λ i w. Owns c i w) owned (λ i _. g.owns i);
      keys = λ k. key_kept tables (cell_at c k) (cell_at c k) (is_there c) (is_there c) stances j v' k (idle_never k) refl (λ e n. refl) (g.keys k);
      limits = λ γ. fewer (group_bound tables γ) (claims tables c (set_stance stances j v') γ) (claims tables c stances γ) (λ k h. ap (λ b. in_group tables γ k (present_at_cell (cell_at c k)) || b) (sym ((same_at tables (cell_at c k) stances j v' k (idle_never k) (g.keys k).held).passed γ)) ∙ h) (g.limits γ);
    }

    -- the take
    pub taking : AreWritable tables → (at : ℕ) (f : Flight) → FlightFits tables f → cell_of (held_value j at f.read) ≡ Held j at f.read → get c (flight_key tables f) ≡ f.read
        → Good tables (written_content (flight_key tables f) (Some (held_value j at f.read)) c) (set_stance stances j (Holds (hold_of tables at f (checking tables f (flight_checks tables f)))))
    taking sound at f fits back found =
        let key = flight_key tables f in
        let s = checking tables f (flight_checks tables f) in
        let v' = Holds (hold_of tables at f s) in
        let x = Some (held_value j at f.read) in
        let d = written_content key x c in
        let space = key_space tables f.write in
        let near = near_row tables c key x space in
        let only = λ (a : List ℕ) (_ : a ≡ key → ⊥). idle_never a in
        let before = plain_cell tables c key f.read sound fits.read space found in
        let k = subst (λ (y : Option Cell). KeyGood tables y (is_there c) stances key) before (g.keys key) in
        let same = present_checking tables sound f fits (flight_checks tables f) in
        let owned : OwnsAt tables d j at f s = (
          space,
          get_here key x c ∙ ap (λ (p : Option (List ℕ)). Some (held_value j at p)) (sym same),
          ap (λ (p : Option (List ℕ)). cell_of (held_value j at p)) same ∙ back ∙ ap (λ (p : Option (List ℕ)). Held j at p) (sym same),
        ) in
        assemble tables c d stances j key v' g near only owned
        (λ i _. others_row tables c key x i (stances i) (λ m p e. plain_not_held f.read i m p (sym before ∙ e)) (g.owns i))
        (flying_key tables d stances j at f s owned (record {
          lower = λ e n h. row_keeps c key e x space n ∙ plain_lower f.read (is_there c) stances key k e n (low_checking tables sound f fits (flight_checks tables f) e h);
          upper = λ e n h. high_checking tables sound f fits (flight_checks tables f) e (plain_upper f.read (is_there c) stances key k e n (sym (row_keeps c key e x space n) ∙ h));
        }))
        (λ γ. limits_kept tables c d stances j key v' g near only γ (λ h. ap (λ (y : Option Cell). claims_at tables y stances γ key) before ∙ plain_claim f.read stances γ key
        ∙ or_first (in_group tables γ key f.read) false (claim_checking tables sound f fits (flight_checks tables f) γ (sym (ap (λ (y : Option Cell). claims_at tables y (set_stance stances j v') γ key) (owned_cell tables d j at f s owned) ∙ ap (λ (v : Stance). in_group tables γ key (present_of tables f s) || passed_by v γ) (set_self stances j v')) ∙ h))))
