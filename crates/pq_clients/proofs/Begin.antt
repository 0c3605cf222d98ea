-- What holds before the first step.
use Rattle.std.proofs.Common.{◌≡◌, ℕ, ◌+◌, ◌^◌, ◌≤◌, ◌<◌, ◌==◌, nat_lt, true, false, cond, ◌&&◌, List, [], ◌∷◌, length, Option, Some, None, is_some, refl, sym, ap, ◌∙◌, subst, arith}
use Rattle.std.specs.List.{AllByRecursion, sum_by}
use Rattle.std.specs.FinMap.{get}
use Rattle.std.proofs.lemmas.Bool.{false≢true, eqb-true}
use Rattle.std.proofs.lemmas.Bool.Decides.{nat_tests}
use Rattle.std.proofs.lemmas.List.Sums.{sum_by-cons}
use Rattle.pq_base.specs.Members.{In}
use Rattle.pq_base.proofs.Members.{each_in}
use Rattle.pq_base.specs.Values.{has_null}
use Rattle.pq_base.specs.declared.value.Value.{Value}
use Rattle.pq_schema.specs.declared.table.Table.{Table}
use Rattle.pq_schema.specs.Candidates.{no_limit}
use Rattle.pq_schema.specs.Tables.{table_at}
use Rattle.pq_content.specs.Pairs.{Pair, is_in_space, AreBeside, content_pairs}
use Rattle.pq_content.specs.Tables.{Rows, Keeps, IsTableNumber, IsWithinLimit}
use Rattle.pq_store.specs.Content.{Content}
use Rattle.pq_index_keep.proofs.Inserting.{each_is, each_by}
use Rattle.pq_index_keep.specs.Effects.{limit_at}
use Rattle.pq_index_keep.specs.Sound.{AreWritable}
use Rattle.pq_clients.specs.Held.{Cell, present_in}
use Rattle.pq_clients.specs.Flights.{has_entry, entry_keys}
use Rattle.pq_clients.specs.Clients.{View}
use Rattle.pq_clients.specs.Runs.{begun}
use Rattle.pq_clients.specs.Promises.{IsFresh, Begins}
use Rattle.pq_clients.specs.Invariant.{IsRowAt, MayStandAt, Names, has_code_entry, Group, is_limit, shares, row_in_group, in_group, group_bound, Stance, Idle, Owns, cell_at, is_there, KeyGood, Each, Different, claims, claims_at, Good, stance_of, ViewFits, IsShaped}
use Rattle.pq_clients.proofs.Basics.{and_of, shared_of, nothing_more, cell_is, no_cell}
use Rattle.pq_clients.proofs.Owners.{one_owner, entry_space}
use Rattle.pq_clients.proofs.Cells.{plain, plain_cell, free_cell}
use Rattle.pq_clients.proofs.Coded.{no_entries, entry_of_code, group_of_code}
use Rattle.pq_clients.proofs.Landing.{plain_good, plain_claim}
use Rattle.pq_clients.proofs.BeginRows.{AreSound, key_at, code_at, at_row, their_content, get_own, row_pair_is, entry_pair_is, entries_there, OfGroup, AllOfGroup, group_holds}
use Rattle.pq_clients.proofs.Whole.{differ_from, stances_of, Holding}
use Rattle.pq_clients.proofs.Seen.{nothing_grouped}

pub sound_rows : (tables : List Table) (rows : Rows) → Keeps tables rows → AreSound tables rows
sound_rows tables rows k = record { known = k.known; fit = k.fit; short = k.short; apart = k.apart }

module _ (tables : List Table) (sound : AreWritable tables) (others : List Pair) (beside : AreBeside others) (rows : Rows) (h : AreSound tables rows) where
  abbrev c0 : Content
  c0 = their_content tables others beside rows h

  -- the code of a row's pair
  abbrev Plainly : List ℕ → Option (List ℕ) → Type 0
  Plainly k p = MayStandAt tables k p × (cell_at c0 k ≡ plain p)

  own_entries : (e : ℕ × List Value) → In e rows → (q : List ℕ) → has_code_entry tables (key_at tables e) (Some (code_at tables e)) q ≡ has_entry q (entry_keys e.0 (table_at tables e.0) e.1)
  unfolding at_row
  own_entries e i q = entry_of_code tables sound (key_at tables e) (code_at tables e) q (at_row tables rows h e i)

  own_group : (e : ℕ × List Value) → In e rows → (γ : Group) → in_group tables γ (key_at tables e) (Some (code_at tables e)) ≡ row_in_group tables γ e.0 (Some e.1)
  unfolding at_row
  own_group e i γ = group_of_code tables sound γ (key_at tables e) (code_at tables e) (at_row tables rows h e i)

  row_stands : (k v : List ℕ) → is_in_space 2 k ≡ true → get c0 k ≡ Some v → IsRowAt tables k v
  row_stands k v space is =
      let own = row_pair_is tables others beside rows h k v space is in
      let at = at_row tables rows h own.0 own.1 in
      subst (λ (k : List ℕ). IsRowAt tables k v) (sym own.2) (subst (λ (v : List ℕ). IsRowAt tables (key_at tables own.0) v) (sym own.3) at)

  pub begins_shaped : IsShaped tables c0 (get c0)
  begins_shaped = record {
    rows = λ k v space is. subst (λ (x : Cell). MayStandAt tables k (present_in x)) (sym (free_cell tables k v sound (row_stands k v space is))) (row_stands k v space is);
    entries = λ q v space is. let e = entry_pair_is tables others beside rows h q v space is in ((key_at tables e.0, e.2), e.3);
    beside = λ q out. refl;
  }

  plainly : (k : List ℕ) → (p : Option (List ℕ)) × MayStandAt tables k p × (cell_at c0 k ≡ plain p) × (is_in_space 2 k ≡ true → get c0 k ≡ p)
  plainly k =
      elim (is_in_space 2 k) as (λ b. is_in_space 2 k ≡ b → (p : Option (List ℕ)) × MayStandAt tables k p × (cell_at c0 k ≡ plain p) × (b ≡ true → get c0 k ≡ p)) [
        | true ↦ λ space. by_get (get c0 k) refl space
        | false ↦ λ space. (None, tt, no_cell c0 k space, λ wrong. absurd (false≢true wrong))
      ] refl
    where
      by_get : (o : Option (List ℕ)) → get c0 k ≡ o → is_in_space 2 k ≡ true → (p : Option (List ℕ)) × MayStandAt tables k p × (cell_at c0 k ≡ plain p) × (true ≡ true → get c0 k ≡ p)
      by_get None is space = (None, tt, cell_is c0 k None space is, λ _. is)
      by_get (Some v) is space = let at = row_stands k v space is in (Some v, at, plain_cell tables c0 k (Some v) sound at space is, λ _. is)

  key_good : (stances : ℕ → Stance) (k : List ℕ) → KeyGood tables (cell_at c0 k) (is_there c0) stances k
  key_good stances k =
      let p = plainly k in
      subst (λ (x : Option Cell). KeyGood tables x (is_there c0) stances k) (sym p.2) (plain_good tables p.0 (is_there c0) stances k
      (λ e n there. lower p.0 p.3 e n there)
      (λ e n there. upper p.0 p.3 e n there))
    where
      in_space : (e : List ℕ) → Names tables k e → is_in_space 2 k ≡ true
      in_space e n = subst (λ (k : List ℕ). is_in_space 2 k ≡ true) n.key_is refl

      lower : (p : Option (List ℕ)) → (is_in_space 2 k ≡ true → get c0 k ≡ p) → (e : List ℕ) → Names tables k e → has_code_entry tables k p e ≡ true → is_there c0 e ≡ true
      lower p is e n there = by p (is (in_space e n)) there
        where
          by : (p : Option (List ℕ)) → get c0 k ≡ p → has_code_entry tables k p e ≡ true → is_there c0 e ≡ true
          by None none there = absurd (false≢true (sym (no_entries tables k e) ∙ there))
          by (Some v) some there =
              let own = row_pair_is tables others beside rows h k v (in_space e n) some in
              entries_there tables others beside rows h own.0 own.1 e (sym (own_entries own.0 own.1 e)
              ∙ ap (λ (v : List ℕ). has_code_entry tables (key_at tables own.0) (Some v) e) (sym own.3) ∙ ap (λ (k : List ℕ). has_code_entry tables k (Some v) e) (sym own.2) ∙ there)

      upper : (p : Option (List ℕ)) → (is_in_space 2 k ≡ true → get c0 k ≡ p) → (e : List ℕ) → Names tables k e → is_there c0 e ≡ true → has_code_entry tables k p e ≡ true
      upper p is e n there = by (get c0 e) refl there
        where
          by : (o : Option (List ℕ)) → get c0 e ≡ o → is_some o ≡ true → has_code_entry tables k p e ≡ true
          by None none wrong = absurd (false≢true wrong)
          by (Some v) some _ =
              let own = entry_pair_is tables others beside rows h e v (entry_space tables k e n) some in
              let same : k ≡ key_at tables own.0 = one_owner tables k (key_at tables own.0) e n own.2 in
              let found : p ≡ Some (code_at tables own.0) = sym (is (in_space e n)) ∙ ap (get c0) same ∙ get_own tables others beside rows h own.0 own.1 in
              ap (λ (p : Option (List ℕ)). has_code_entry tables k p e) found ∙ ap (λ (k : List ℕ). has_code_entry tables k (Some (code_at tables own.0)) e) same ∙ own_entries own.0 own.1 e ∙ own.4

  group_found : (stances : ℕ → Stance) (γ : Group) (k : List ℕ) → claims tables c0 stances γ k ≡ true → (is_limit tables γ ≡ true) × (has_null γ.values ≡ false) × IsTableNumber tables γ.table × OfGroup tables γ.table (limit_at (table_at tables γ.table) γ.place).cols γ.values k rows
  group_found stances γ k claimed =
      let p = plainly k in
      let grouped = nothing_more (in_group tables γ k p.0) (sym (ap (λ (x : Option Cell). claims_at tables x stances γ k) p.2 ∙ plain_claim tables p.0 stances γ k) ∙ claimed) in
      by p.0 p.1 p.3 grouped
    where
      by : (p : Option (List ℕ)) → MayStandAt tables k p → (is_in_space 2 k ≡ true → get c0 k ≡ p) → in_group tables γ k p ≡ true → (is_limit tables γ ≡ true) × (has_null γ.values ≡ false) × IsTableNumber tables γ.table × OfGroup tables γ.table (limit_at (table_at tables γ.table) γ.place).cols γ.values k rows
      by None stands is grouped = absurd (false≢true (sym (nothing_grouped tables γ k) ∙ grouped))
      by (Some v) stands is grouped =
          let space : is_in_space 2 k ≡ true = subst (λ (k : List ℕ). is_in_space 2 k ≡ true) stands.key_is refl in
          let own = row_pair_is tables others beside rows h k v space (is space) in
          let e = own.0 in
          let in_row = sym (own_group e own.1 γ) ∙ ap (λ (v : List ℕ). in_group tables γ (key_at tables e) (Some v)) (sym own.3) ∙ ap (λ (k : List ℕ). in_group tables γ k (Some v)) (sym own.2) ∙ grouped in
          let cols = (limit_at (table_at tables γ.table) γ.place).cols in
          let parts = and_of (e.0 == γ.table) (is_limit tables γ && shares cols γ.values e.1) in_row in
          let inner = and_of (is_limit tables γ) (shares cols γ.values e.1) parts.1 in
          let shared = shared_of cols γ.values e.1 inner.1 in
          let table : e.0 ≡ γ.table = eqb-true e.0 γ.table parts.0 in
          (inner.0, shared.0, subst (λ (t : ℕ). IsTableNumber tables t) table (each_in (λ (e : ℕ × List Value). IsTableNumber tables e.0) rows h.known e own.1), (e, own.1, table, shared.1, own.2))

  pub begins_good : (stances : ℕ → Stance) → ((i : ℕ) → stances i ≡ Idle) → ((t : ℕ) → IsTableNumber tables t → AllByRecursion (IsWithinLimit t rows) (table_at tables t).limits) → Good tables c0 stances
  begins_good stances idle limits = record {
    owns = λ j. subst (λ (s : Stance). Owns c0 j s) (sym (idle j)) tt;
    keys = λ k. key_good stances k;
    limits = λ γ ks d each. by γ ks d each;
  }
    where
      all_found : (γ : Group) (ks : List (List ℕ)) → Each (claims tables c0 stances γ) ks → AllOfGroup tables γ.table (limit_at (table_at tables γ.table) γ.place).cols γ.values ks rows
      all_found γ [] each = tt
      all_found γ (k ∷ ks) each = ((group_found stances γ k each.0).3, all_found γ ks each.1)

      less_than : (a b : ℕ) → nat_lt a b ≡ true → a < b
      less_than a b h = grind (arith, nat_tests)

      by : (γ : Group) (ks : List (List ℕ)) → Different ks → Each (claims tables c0 stances γ) ks → length ks ≤ group_bound tables γ
      by γ [] d each = omega arith
      by γ (k ∷ ks) d each =
          let first = group_found stances γ k each.0 in
          let limit = limit_at (table_at tables γ.table) γ.place in
          let within : IsWithinLimit γ.table rows limit = each_is (IsWithinLimit γ.table rows) (table_at tables γ.table).limits (limits γ.table first.2) γ.place no_limit (less_than γ.place (length (table_at tables γ.table).limits) first.0) in
          let most = group_holds tables γ.table limit.cols γ.values rows (k ∷ ks) d (all_found γ (k ∷ ks) each) in
          let few = within γ.values first.1 in
          omega arith

-- ---- the clients

module _ (tables : List Table) where
  fresh_view : (v : View) → IsFresh tables v → length v.writes < 2 ^ 32 → ViewFits tables v
  fresh_view v h few = subst (λ (w : View). ViewFits tables w) (sym h.fresh) (record { small = h.small; from_one = omega arith; writes = h.writes; few = few; next = tt })

  fresh_views : (vs : List View) → AllByRecursion (IsFresh tables) vs → sum_by (λ v. length v.writes) vs < 2 ^ 32 → AllByRecursion (ViewFits tables) vs
  fresh_views [] all few = tt
  fresh_views (v ∷ vs) all few =
      let parts = sum_by-cons (λ (v : View). length v.writes) v vs in
      (fresh_view v all.0 (first (length v.writes) (sum_by (λ v. length v.writes) vs) (sum_by (λ v. length v.writes) (v ∷ vs)) (2 ^ 32) parts few), fresh_views vs all.1 (second (length v.writes) (sum_by (λ v. length v.writes) vs) (sum_by (λ v. length v.writes) (v ∷ vs)) (2 ^ 32) parts few))
    where
      first : (a b n limit : ℕ) → n ≡ a + b → n < limit → a < limit
      first a b n limit e h = omega arith

      second : (a b n limit : ℕ) → n ≡ a + b → n < limit → b < limit
      second a b n limit e h = omega arith

  fresh_idle : (vs : List View) → AllByRecursion (IsFresh tables) vs → (i : ℕ) → stances_of tables vs i ≡ Idle
  fresh_idle [] all i = refl
  fresh_idle (v ∷ vs) all i = elim (i == v.number) as (λ b. cond b (stance_of tables v) (stances_of tables vs i) ≡ Idle) [ true ↦ ap (stance_of tables) all.0.fresh | false ↦ fresh_idle vs all.1 i ]

  -- all of it holds at the beginning
  pub begins_holding : (rows : Rows) (others : List Pair) (clients : List View) → (b : Begins tables rows others clients) → Holding tables b.sound (get (content_pairs tables rows others)) (begun (content_pairs tables rows others) clients)
  begins_holding rows others clients b =
      let all = each_by (IsFresh tables) clients b.fresh.each in
      let rows_are = sound_rows tables rows b.keeps in
      record {
        differ = differ_from clients b.fresh.differ;
        views = fresh_views clients all b.fresh.few;
        shaped = begins_shaped tables b.sound others b.beside rows rows_are;
        good = begins_good tables b.sound others b.beside rows rows_are (stances_of tables clients) (fresh_idle clients all) b.keeps.limits;
      }
