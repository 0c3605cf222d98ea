-- Within which bound an opening is, over every store and over one that opens to a model.
use Rattle.std.proofs.Common.{◌≡◌, ℕ, ◌+◌, ◌≤◌, length, Option, Some, None, List, refl, sym, ap, subst, arith, inl, inr}
use Rattle.std.specs.Prelude.{IfSome, MatchOption}
use Rattle.std.specs.FinMap.{get}
use Rattle.std.proofs.lemmas.Option.{same_Some}
use Rattle.pq_base.specs.declared.number.Bound.{Bound}
use Rattle.pq_key_code.specs.KeyCode.{intent_key}
use Rattle.pq_schema.specs.Schema.{Schema}
use Rattle.pq_schema.specs.Valid.{IsValid}
use Rattle.pq_content.specs.Standing.{IsIntent, SettlesTo}
use Rattle.pq_content.specs.Tables.{rows_of}
use Rattle.pq_store.specs.Content.{Content}
use Rattle.pq_store.specs.Counts.{Counts}
use Rattle.pq_intent.specs.Counting.{CountsChanges as CountsOf, HasNumbers, IsIntentOfMany, HasChanges, settled_of}
use Rattle.pq_intent.specs.Settling.{IsSettled, Settles}
use Rattle.pq_intent.specs.Spending.{TakesAtMost, settling_bound, IsWithinSettling, IsWithinSettlingOf}
use Rattle.pq_intent.specs.declared.settles.Settled.{Settled}
use Rattle.pq_builds.specs.Bounds.{bound}
use Rattle.pq_builds.specs.Stages.{Takes, IsWithinBuild as BuildsWithin, left_ops}
use Rattle.pq_catalog.specs.declared.format.Mark.{Mark}
use Rattle.pq_opening.specs.declared.begun.Begun.{Begun}
use Rattle.pq_catalog.specs.Model.{Model}
use Rattle.pq_opening.specs.Opening.{none_added, opening_of, completion_bound, opening_bound, intent_ops, catalog_in, AreFewRows, IsStarted, IsAsMarked, rows_of_mark, HasBuild, IsOpeningBound}
use Rattle.pq_catalog.specs.Stands.{Opens, Holds}
use Rattle.pq_opening.specs.Within.{IsSomeOpeningBound, IsBounded, StopsWithin, IsWithinOpening}
use Rattle.pq_catalog.proofs.Made.{small_of}
use Rattle.pq_opening.proofs.Openings.{opened_length}
use Rattle.pq_opening.proofs.Reopening.{mark_held, held_tells}
use Rattle.pq_opening.proofs.Starting.{opens_rests, changes_of, bound_as, few_settled}

-- ---- over every store

settled_ops : (changes : Option ℕ) (n : Settled) → n ≡ settled_of changes → n.used.ops + 1 ≡ 2 + intent_ops changes
settled_ops None n is = omega (arith, ap (λ (x : Settled). x.used.ops) is)
settled_ops (Some changes) n is = omega (arith, ap (λ (x : Settled). x.used.ops) is)

-- the bound of what was opened after a settling
abbrev most_after : Settled → Option ℕ → Bound
most_after n rows = bound (n.used.ops + 1 + (completion_bound rows).ops) (257 + (completion_bound rows).entries)

some_bound : (n : Settled) (rows : Option ℕ) → HasNumbers n → AreFewRows rows → IsSomeOpeningBound (most_after n rows)
some_bound n rows h few = record {
  changes = h.changes;
  few_changes = h.few;
  rows = rows;
  few_rows = few;
  is = ap (λ (k : ℕ). bound (k + (completion_bound rows).ops) (257 + (completion_bound rows).entries)) (settled_ops h.changes n h.is);
}

pub is_bounded : (schema : Schema) (s : Begun) (n : Settled) (before after : Counts) → HasNumbers n → IsStarted schema s n before after → IsBounded (opening_of s)
is_bounded schema s n before after h started =
    let one = few_settled n h in
    let few = started.few in
    let ops = ap (λ (x : Begun). x.used.ops) started.is in
    let limit = ap (λ (x : Begun). x.bound.ops) started.is in
    let entries = ap (λ (x : Begun). x.used.entries) started.is in
    let room = ap (λ (x : Begun). x.bound.entries) started.is in
    record {
      most = subst IsSomeOpeningBound (sym (ap (λ (x : Begun). x.bound) started.is)) (some_bound n started.rows h started.few_rows);
      ops = omega (arith, ops, limit);
      entries = omega (arith, entries, room, one, few);
    }

-- the settling gave up
pub settle_within : (before after : Counts) → IsWithinSettling before after → StopsWithin before after
settle_within before after w =
    let ops = w.takes.ops in
    let entries = w.takes.entries in
    record {
      most = opening_bound (Some w.changes) None;
      some = record { changes = Some w.changes; few_changes = w.few; rows = None; few_rows = tt; is = refl };
      ops = omega arith;
      entries = omega arith;
    }

module _ (n : Settled) (h : HasNumbers n) (before at : Counts) (at_ops : at.ops ≡ before.ops + n.used.ops) (at_entries : at.entries ≡ before.entries + n.used.entries) where
  -- the reading of the catalog did
  pub read_within : (after : Counts) → TakesAtMost (bound 1 257) at after → StopsWithin before after
  read_within after t =
      let ops = t.ops in
      let entries = t.entries in
      let one = few_settled n h in
      record { most = most_after n None; some = some_bound n None h tt; ops = omega arith; entries = omega arith }

  -- the completion did
  pub finish_within : (found : ℕ) (last after : Counts) → found ≤ 256 → Takes 1 found at last → BuildsWithin left_ops last after → StopsWithin before after
  finish_within found last after few takes w =
      let read_ops = takes.ops_are in
      let read_entries = takes.entries_are in
      let ops = w.ops in
      let entries = w.entries in
      let one = few_settled n h in
      record { most = most_after n (Some w.count); some = some_bound n (Some w.count) h w.few; ops = omega arith; entries = omega arith }

-- ---- over a store that opens to a model

changes_at : (o : Option (List ℕ)) (c settled : Content) → MatchOption o (settled ≡ c) (IsIntent c settled) → (changes : Option ℕ) × MatchOption o (changes ≡ None) (λ value. IsIntentOfMany value changes)
changes_at None c settled h = (None, refl)
changes_at (Some value) c settled h =
    (Some (length h.changes), record { changes = h.changes; intent = record { code = sym h.code; coded = h.coded; intended = h.intended }; many_are = refl })

changes_in : (c settled : Content) → SettlesTo c settled → (changes : Option ℕ) × HasChanges c changes
unfolding SettlesTo
changes_in c settled h = changes_at (get c intent_key) c settled h

build_held : (m : Model) (pairs : Content) → Holds m pairs → (rows : Option ℕ) × HasBuild m pairs rows
build_held m pairs (inl same) = (None, same)
build_held m pairs (inr f) = (Some (length (rows_of f.made.table m.rows)), (f, refl))

settles_own : (c : Content) (m : Model) (opens : Opens (Some c) m) → SettlesTo c opens.pairs
settles_own c m opens = subst (λ (x : Content). SettlesTo x opens.pairs) (same_Some opens.settles.pairs c (sym opens.settles.told)) opens.settles.settles

bound_at : (c : Content) (m : Model) (changes : Option ℕ) → HasChanges c changes → Opens (Some c) m → (rows : Option ℕ) × IsOpeningBound m c (opening_bound changes rows)
bound_at c m changes has opens =
    let b = build_held m opens.pairs opens.holds in
    (b.0, record { changes = changes; has_changes = has; settled = opens.pairs; settles = settles_own c m opens; rows = b.0; has_build = b.1; is = refl })

in_opening : (changes rows : Option ℕ) (before after : Counts) → TakesAtMost (settling_bound changes) before after → TakesAtMost (opening_bound changes rows) before after
in_opening None rows before after t =
    let ops = t.ops in
    let entries = t.entries in
    record { ops = omega arith; entries = omega arith }
in_opening (Some n) rows before after t =
    let ops = t.ops in
    let entries = t.entries in
    record { ops = omega arith; entries = omega arith }

-- the settling gave up
pub settle_own : (old : Option Content) (m : Model) (before after : Counts) → Opens old m → IfSome old (IsWithinSettlingOf before after) → IfSome old (IsWithinOpening m before after)
settle_own None m before after opens within = tt
settle_own (Some c) m before after opens within =
    let h = changes_in c opens.pairs (settles_own c m opens) in
    let b = bound_at c m h.0 h.1 opens in
    record { most = opening_bound h.0 b.0; is = b.1; takes = in_opening h.0 b.0 before after (within h.0 h.1) }

-- a catalog that tells a model's schema has a pair for each definition
few_pairs : (m : Model) (pairs : Content) → IsValid m.schema → Holds m pairs → length (catalog_in pairs) ≤ 256
few_pairs m pairs valid holds =
    let long = opened_length (catalog_in pairs) none_added (m.schema, mark_held m pairs holds) (held_tells m pairs valid holds) in
    let few = small_of m.schema valid in
    omega (arith, long, few)

module _ (n : Settled) (h : HasNumbers n) (before at : Counts) (at_ops : at.ops ≡ before.ops + n.used.ops) (at_entries : at.entries ≡ before.entries + n.used.entries) where
  -- the reading of the catalog did
  pub read_own : (old mid : Option Content) (m : Model) (after : Counts) → IfSome old (λ pairs. CountsOf pairs n) → ((settled : Content) → Settles old settled → IsSettled mid settled) → Opens old m
      → IfSome mid (λ pairs. TakesAtMost (bound 1 (length (catalog_in pairs))) at after) → IfSome old (IsWithinOpening m before after)
  read_own None mid m after counts made opens within = tt
  read_own (Some c) mid m after counts made opens within =
      let w = changes_of (get c intent_key) n counts in
      let b = bound_at c m w.0 w.1 opens in
      let r = opens_rests (Some c) mid made m opens in
      let t : TakesAtMost (bound 1 (length (catalog_in r.pairs))) at after = subst (λ (o : Option Content). IfSome o (λ pairs. TakesAtMost (bound 1 (length (catalog_in pairs))) at after)) r.told within in
      let ops = t.ops in
      let entries = t.entries in
      let few = few_pairs m r.pairs r.valid r.holds in
      let one = few_settled n h in
      let same = w.2 in
      record { most = opening_bound w.0 b.0; is = b.1; takes = record { ops = omega arith; entries = omega arith } }

  -- the completion did
  pub finish_own : (old mid : Option Content) (m : Model) (mark : Mark) (found : ℕ) (last after : Counts) → IfSome old (λ pairs. CountsOf pairs n) → ((settled : Content) → Settles old settled → IsSettled mid settled) → Opens old m → IsAsMarked mark mid m
      → found ≤ 256 → Takes 1 found at last → TakesAtMost (completion_bound (rows_of_mark mark m)) last after → IfSome old (IsWithinOpening m before after)
  finish_own None mid m mark found last after counts made opens stands few takes within = tt
  finish_own (Some c) mid m mark found last after counts made opens stands few takes within =
      let read_ops = takes.ops_are in
      let read_entries = takes.entries_are in
      let ops = within.ops in
      let entries = within.entries in
      let one = few_settled n h in
      let most = most_after n (rows_of_mark mark m) in
      record { most = most; is = bound_as c mid n m mark most counts made opens stands refl; takes = record { ops = omega arith; entries = omega arith } }
