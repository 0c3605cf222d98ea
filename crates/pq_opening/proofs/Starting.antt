-- What the opening of a store promises, from its settling and the reading of its catalog to the completion of a build.
use Rattle.std.proofs.Common.{◌≡◌, ℕ, ◌+◌, ◌≤◌, length, Option, Some, None, Result, Ok, Err, refl, sym, ap, ◌∙◌, subst, arith, inl, inr}
use Rattle.std.specs.Prelude.{IfSome, IfOk, OnOk, OnErr, List, MatchOption}
use Rattle.std.specs.FinMap.{get}
use Rattle.std.proofs.lemmas.Option.{same_Some}
use Rattle.pq_base.specs.declared.number.Bound.{Bound}
use Rattle.pq_schema.specs.declared.made.Made.{Made}
use Rattle.pq_schema.specs.Schema.{Schema}
use Rattle.pq_schema.specs.Valid.{IsValid}
use Rattle.pq_content.specs.Pairs.{Pair}
use Rattle.pq_content.specs.Standing.{SettlesTo}
use Rattle.pq_content.specs.Tables.{Keeps}
use Rattle.pq_tallies.specs.Counters.{AreFewRows}
use Rattle.pq_tallies.specs.Defined.{counters_in}
use Rattle.pq_store.specs.Content.{Content}
use Rattle.pq_key_code.specs.KeyCode.{intent_key}
use Rattle.pq_builds.specs.Bounds.{bound}
use Rattle.pq_builds.specs.Stages.{ShowsLeft}
use Rattle.pq_builds.specs.declared.target.NewQuery.{NewQuery}
use Rattle.pq_builds.specs.declared.target.Target.{Target}
use Rattle.pq_intent.specs.Counting.{CountsChanges as CountsOf, CountsIntent, HasNumbers, IsIntentOfMany, nothing_settled, settled_of}
use Rattle.pq_intent.specs.Errors.{ShowsNoIntent}
use Rattle.pq_store.specs.Breaks.{IsUndamaged}
use Rattle.pq_intent.specs.Settling.{IsSettled, Settles, LeavesSettled}
use Rattle.pq_intent.specs.declared.settles.Settled.{Settled}
use Rattle.pq_store.specs.Counts.{Counts}
use Rattle.pq_store.specs.declared.damage.Broke.{Broke}
use Rattle.pq_store.specs.declared.damage.Broke.TheVariants.{Failed, NoMem, Damaged}
use Rattle.pq_catalog.specs.declared.format.Mark.{Mark}
use Rattle.pq_catalog.specs.declared.format.Mark.TheVariants.{Ready, Building}
use Rattle.pq_opening.specs.declared.begun.Begun.{Begun}
use Rattle.pq_catalog.specs.Model.{Model}
use Rattle.pq_opening.specs.Opening.{SchemaAndMark, none_added, opening_of, started_of, completion_bound, added_from, catalog_in, IsStarted, IsLeft, IsAsMarked, rows_of_made, rows_left, rows_of_mark, TellsSchema, NamesPair, NamesFlaw, HasFewLeft, ShowsMarked, intent_ops, HasBuild, IsOpeningBound, IsOpening}
use Rattle.pq_catalog.specs.Stands.{HoldsModel, Stands, Opens, Holds, IsFillingLast, content_of}
use Rattle.pq_opening.proofs.Lefts.{filling_in_opens}
use Rattle.pq_opening.proofs.Reopening.{schema_in, mark_in, mark_held, held_tells}
use Rattle.pq_catalog.proofs.Standing.{settled_opens}

-- ---- a content at rest

-- the rows keep valid definitions, no group of a counter has too many, and the content is told and holds the model
pub record Rests (content : Option Content) (m : Model) : Type 0 where
  pub valid : IsValid m.schema
  pub keeps : Keeps m.schema.tables m.rows
  pub few : AreFewRows (counters_in m.schema) m.rows
  pub pairs : Content
  pub told : content ≡ Some pairs
  pub holds : Holds m pairs

pub opens_kept : (old new : Option Content) → ((settled : Content) → Settles old settled → Settles new settled) → (m : Model) → Opens old m → Opens new m
opens_kept old new kept m opens = record { valid = opens.valid; keeps = opens.keeps; few = opens.few; pairs = opens.pairs; settles = kept opens.pairs opens.settles; holds = opens.holds }

-- after a settling it is settled
pub opens_rests : (old mid : Option Content) → ((settled : Content) → Settles old settled → IsSettled mid settled) → (m : Model) → Opens old m → Rests mid m
opens_rests old mid made m opens = record { valid = opens.valid; keeps = opens.keeps; few = opens.few; pairs = opens.pairs; told = (made opens.pairs opens.settles).told; holds = opens.holds }

rests_by : (content : Option Content) (m : Model) (pairs : Content) → IsValid m.schema → Keeps m.schema.tables m.rows → AreFewRows (counters_in m.schema) m.rows → content ≡ Some pairs → Holds m pairs → Opens content m
rests_by content m pairs valid keeps few is (inl same) = settled_opens (record { valid = valid; keeps = keeps; few = few; told = is ∙ ap (λ (c : Content). Some c) same })
rests_by content m pairs valid keeps few is (inr f) = filling_in_opens content m (record { valid = valid; keeps = keeps; few = few; pairs = pairs; told = is; filling = f })

pub rests_opens : (content : Option Content) (m : Model) → Rests content m → Opens content m
rests_opens content m r = rests_by content m r.pairs r.valid r.keeps r.few r.told r.holds

-- what its catalog tells is the model's schema, and the mark how its content stands
module _ (content : Option Content) (m : Model) where
  by_holds : (pairs : Content) (a : SchemaAndMark) → IsValid m.schema → Keeps m.schema.tables m.rows → AreFewRows (counters_in m.schema) m.rows → content ≡ Some pairs → Holds m pairs → added_from none_added (catalog_in pairs) ≡ Ok a → (a.0 ≡ m.schema) × IsAsMarked a.1 content m
  by_holds pairs a valid keeps few is (inl same) at =
      let e = sym at ∙ held_tells m pairs valid (inl same) in
      let mark_is : a.1 ≡ Ready = ap mark_in e in
      (ap schema_in e, subst (λ (k : Mark). IsAsMarked k content m) (sym mark_is) (record { valid = valid; keeps = keeps; few = few; told = is ∙ ap (λ (c : Content). Some c) same }))
  by_holds pairs a valid keeps few is (inr f) at =
      let e = sym at ∙ held_tells m pairs valid (inr f) in
      let mark_is : a.1 ≡ Building = ap mark_in e in
      (ap schema_in e, subst (λ (k : Mark). IsAsMarked k content m) (sym mark_is) (record { valid = valid; keeps = keeps; few = few; pairs = pairs; told = is; filling = f }))

  pub rests_as : (a : SchemaAndMark) → Rests content m → IfSome content (λ pairs. added_from none_added (catalog_in pairs) ≡ Ok a) → (a.0 ≡ m.schema) × IsAsMarked a.1 content m
  rests_as a r at = by_holds r.pairs a r.valid r.keeps r.few r.told r.holds (subst (λ (o : Option Content). IfSome o (λ pairs. added_from none_added (catalog_in pairs) ≡ Ok a)) r.told at)

  not_both : (p : Pair) (a : SchemaAndMark) → ◌≡◌ {A = Result SchemaAndMark Pair} (Err p) (Ok a) → ⊥
  not_both p a e = absurd (cc)

  pub rests_sound : (broke : Broke) → Rests content m → IfSome content (λ pairs. NamesPair pairs broke) → IsUndamaged broke
  rests_sound Failed r names = tt
  rests_sound NoMem r names = tt
  rests_sound (Damaged damage) r names =
      let at = subst (λ (o : Option Content). IfSome o (λ pairs. NamesPair pairs (Damaged damage))) r.told names in
      not_both (damage.key, at.0) (m.schema, mark_held m r.pairs r.holds) (sym at.2 ∙ held_tells m r.pairs r.valid r.holds)

-- how the content stands after the reading
module _ (old mid now : Option Content) (made : (settled : Content) → Settles old settled → IsSettled mid settled) (same : now ≡ mid) (schema : Schema) (mark : Mark)
    (read : IfSome mid (λ pairs. added_from none_added (catalog_in pairs) ≡ Ok (schema, mark))) (m : Model) (opens : Opens old m) where
  pub read_mid : (schema ≡ m.schema) × IsAsMarked mark mid m
  read_mid = rests_as mid m (schema, mark) (opens_rests old mid made m opens) read

  pub read_now : (schema ≡ m.schema) × IsAsMarked mark now m
  read_now = (read_mid.0, subst (λ (o : Option Content). IsAsMarked mark o m) (sym same) read_mid.1)

  pub finished_stands : (new : Option Content) (settled : Settled) (before after : Counts) (s : Begun) → IsStarted schema s settled before after
      → ((m : Model) → m.schema ≡ schema → IsAsMarked mark now m → HoldsModel new m) → Stands new s.planned m
  finished_stands new settled before after s started stands =
      let k = read_now in
      record { settled = stands m (sym k.0) k.1; known = ap (λ (x : Begun). x.planned) started.is ∙ k.0 }

-- ---- the line of an opening

pub changes_of : (o : Option (List ℕ)) (n : Settled) → MatchOption o (n ≡ nothing_settled) (λ value. CountsIntent value n)
    → (changes : Option ℕ) × MatchOption o (changes ≡ None) (λ value. IsIntentOfMany value changes) × (n.used.ops + 1 ≡ 2 + intent_ops changes)
changes_of None n is = (None, refl, omega (arith, ap (λ (x : Settled). x.used.ops) is))
changes_of (Some value) n is = (Some (length is.changes), record { changes = is.changes; intent = is.intent; many_are = refl }, omega (arith, ap (λ (x : Settled). x.used.ops) is.counts))

build_over : (m : Model) (settled pairs : Content) → IsFillingLast m pairs → pairs ≡ settled → HasBuild m settled (Some (rows_left m))
build_over m settled pairs f same =
    subst (λ (c : Content). HasBuild m c (Some (rows_left m))) same (f, ap (λ (o : Option Made). rows_of_made o m.rows) f.last)

build_of_mark : (mark : Mark) (content : Option Content) (m : Model) (settled : Content) → content ≡ Some settled → IsAsMarked mark content m → HasBuild m settled (rows_of_mark mark m)
build_of_mark Ready content m settled is s = same_Some settled (content_of m) (sym is ∙ s.told)
build_of_mark Building content m settled is f = build_over m settled f.pairs f.filling (same_Some f.pairs settled (sym f.told ∙ is))

pub bound_as : (c : Content) (mid : Option Content) (n : Settled) (m : Model) (mark : Mark) (most : Bound)
    → CountsOf c n → ((settled : Content) → Settles (Some c) settled → IsSettled mid settled) → Opens (Some c) m → IsAsMarked mark mid m
    → most ≡ bound (n.used.ops + 1 + (completion_bound (rows_of_mark mark m)).ops) (257 + (completion_bound (rows_of_mark mark m)).entries) → IsOpeningBound m c most
bound_as c mid n m mark most counts made opens stands is =
    let w = changes_of (get c intent_key) n counts in
    let rows = rows_of_mark mark m in
    let ops : n.used.ops + 1 + (completion_bound rows).ops ≡ 2 + intent_ops w.0 + (completion_bound rows).ops = ap (λ (k : ℕ). k + (completion_bound rows).ops) w.2 in
    let there : opens.settles.pairs ≡ c = same_Some opens.settles.pairs c (sym opens.settles.told) in
    record {
      changes = w.0;
      has_changes = w.1;
      settled = opens.pairs;
      settles = subst (λ (x : Content). SettlesTo x opens.pairs) there opens.settles.settles;
      rows = rows;
      has_build = build_of_mark mark mid m opens.pairs (made opens.pairs opens.settles).told stands;
      is = is ∙ ap (λ (k : ℕ). bound k (257 + (completion_bound rows).entries)) ops;
    }

pub most_as : (old mid : Option Content) (n : Settled) (m : Model) (mark : Mark) (s : Begun) (schema : Schema) (found : ℕ)
    → IfSome old (λ pairs. CountsOf pairs n) → ((settled : Content) → Settles old settled → IsSettled mid settled) → Opens old m → IsAsMarked mark mid m → s ≡ started_of schema n found (rows_of_mark mark m)
    → IfSome old (λ pairs. IsOpeningBound m pairs s.bound)
most_as None mid n m mark s schema found counts made opens stands is = tt
most_as (Some c) mid n m mark s schema found counts made opens stands is = bound_as c mid n m mark s.bound counts made opens stands (ap (λ (x : Begun). x.bound) is)

some_entries : (o : Option ℕ) (n : Settled) → n ≡ settled_of o → n.used.entries ≤ 1
some_entries None n is = omega (arith, ap (λ (x : Settled). x.used.entries) is)
some_entries (Some changes) n is = omega (arith, ap (λ (x : Settled). x.used.entries) is)

pub few_settled : (n : Settled) → HasNumbers n → n.used.entries ≤ 1
few_settled n h = some_entries h.changes n h.is

pub opens_as : (old mid : Option Content) (n : Settled) (m : Model) (mark : Mark) (s : Begun) (schema : Schema)
    → IfSome old (λ pairs. CountsOf pairs n) → HasNumbers n → ((settled : Content) → Settles old settled → IsSettled mid settled) → Opens old m → schema ≡ m.schema → IsAsMarked mark mid m → length schema.definitions ≤ 256
    → s ≡ started_of schema n (length schema.definitions) (rows_of_mark mark m) → IsOpening old m (opening_of s)
opens_as old mid n m mark s schema counts numbers made opens same stands few is =
    let most = few_settled n numbers in
    let used = ap (λ (x : Begun). x.used.entries) is in
    let ops = ap (λ (x : Begun). x.used.ops) is in
    let limit = ap (λ (x : Begun). x.bound.ops) is in
    let room = ap (λ (x : Begun). x.bound.entries) is in
    record {
      defs = ap (λ (x : Begun). x.defs) is ∙ ap (λ (x : Schema). length x.definitions) same;
      most = most_as old mid n m mark s schema (length schema.definitions) counts made opens stands is;
      ops = omega (arith, ops, limit);
      entries = omega (arith, used, room, most, few);
    }

-- ---- what the catalog tells

pub tells_schema : (old mid now : Option Content) (schema planned : Schema) (mark : Mark) → now ≡ mid → IfSome old (λ pairs. LeavesSettled pairs mid) → IfSome mid (λ pairs. added_from none_added (catalog_in pairs) ≡ Ok (schema, mark))
    → IfSome now (HasFewLeft schema mark) → planned ≡ schema → IfSome old (λ pairs. TellsSchema pairs planned)
tells_schema None mid now schema planned mark at are read few same = tt
tells_schema (Some c) mid now schema planned mark at are read few same = record {
  settled = are.settled;
  settles = are.settles;
  mark = mark;
  opened = subst (λ (o : Option Content). IfSome o (λ pairs. added_from none_added (catalog_in pairs) ≡ Ok (schema, mark))) are.stands.told read ∙ ap (λ (x : Schema). Ok (x, mark)) (sym same);
  few = subst (λ (x : Schema). HasFewLeft x mark are.settled) (sym same) (subst (λ (o : Option Content). IfSome o (HasFewLeft schema mark)) (at ∙ are.stands.told) few);
}

-- few enough rows, where so many were completed

-- ---- flaws

pub settle_flaw : (old : Option Content) (broke : Broke) → IfSome old (λ pairs. ShowsNoIntent pairs broke) → IfSome old (λ pairs. NamesFlaw pairs broke)
settle_flaw None broke shows = tt
settle_flaw (Some c) Failed shows = tt
settle_flaw (Some c) NoMem shows = tt
settle_flaw (Some c) (Damaged damage) shows = inl (shows.0, shows.2, inl (shows.1, shows.3, shows.4))

pub read_flaw : (old mid : Option Content) (broke : Broke) → IfSome old (λ pairs. LeavesSettled pairs mid) → IfSome mid (λ pairs. NamesPair pairs broke) → IfSome old (λ pairs. NamesFlaw pairs broke)
read_flaw None mid broke are names = tt
read_flaw (Some c) mid Failed are names = tt
read_flaw (Some c) mid NoMem are names = tt
read_flaw (Some c) mid (Damaged damage) are names =
    let at = subst (λ (o : Option Content). IfSome o (λ pairs. NamesPair pairs (Damaged damage))) are.stands.told names in
    inl (at.0, at.1, inr (are.settled, are.settles, at.2))

pub build_flaw : (old mid now : Option Content) (schema : Schema) (mark : Mark) (broke : Broke) → now ≡ mid → IfSome old (λ pairs. LeavesSettled pairs mid) → IfSome mid (λ pairs. added_from none_added (catalog_in pairs) ≡ Ok (schema, mark))
    → IfSome now (λ c. ShowsMarked schema mark c broke) → IfSome old (λ pairs. NamesFlaw pairs broke)
build_flaw None mid now schema mark broke same are read shows = tt
build_flaw (Some c) mid now schema mark Failed same are read shows = tt
build_flaw (Some c) mid now schema mark NoMem same are read shows = tt
build_flaw (Some c) mid now schema mark (Damaged damage) same are read shows =
    let at = subst (λ (o : Option Content). IfSome o (λ pairs. added_from none_added (catalog_in pairs) ≡ Ok (schema, mark))) are.stands.told read in
    let shown = subst (λ (o : Option Content). IfSome o (λ c. ShowsMarked schema mark c (Damaged damage))) (same ∙ are.stands.told) shows in
    inr (record {
      settled = are.settled;
      settles = are.settles;
      schema = schema;
      left = at ∙ ap (λ (k : Mark). Ok (schema, k)) shown.0;
      shows = shown.1;
    })

pub marked_shown : (schema : Schema) (target : Target) (query : NewQuery) (old : Option Content) (broke : Broke) → IsLeft schema target query → IfSome old (λ c. ShowsLeft target query c broke) → IfSome old (λ c. ShowsMarked schema Building c broke)
marked_shown schema target query None broke left shows = tt
marked_shown schema target query (Some c) Failed left shows = tt
marked_shown schema target query (Some c) NoMem left shows = tt
marked_shown schema target query (Some c) (Damaged damage) left shows = (refl, (target, query, left, shows))

-- ---- two clauses of one result

pub both_ok : {A E : Type 0} (r : Result A E) (P Q : A → Type 0) → IfOk r P → IfOk r Q → IfOk r (λ x. P x × Q x)
both_ok (Ok x) P Q p q = (p, q)
both_ok (Err e) P Q p q = tt

pub either_way : {A E P : Type 0} (r : Result A E) → OnOk r P → OnErr r P → P
either_way (Ok x) p q = p
either_way (Err e) p q = q
