-- The effect of the first write of some, and of those behind it.
use Rattle.std.proofs.Common.{◌≡◌, ◌≤◌, ◌<◌, ◌+◌, ℕ, suc, Bool, true, false, cond, List, [], ◌∷◌, length, map, Option, Some, Result, Ok, Err, refl, sym, ap, ◌∙◌, subst, arith}
use Rattle.std.specs.Ordering.{eq_by_cmp}
use Rattle.std.specs.Prelude.{All, MatchResult, slice_get}
use Rattle.std.proofs.lemmas.Bool.{le-leb, lt-leb}
use Rattle.std.proofs.lemmas.List.{length-map}
use Rattle.pq_base.specs.declared.refusal.Refusal.{Refusal}
use Rattle.pq_row_code.specs.declared.changes.Change.{Change as Coded}
use Rattle.pq_schema.specs.Schema.{Schema}
use Rattle.pq_content.specs.Pairs.{Change, Pair, changed_content}
use Rattle.pq_content.specs.Standing.{change_of, AreIntended, may_intend}
use Rattle.pq_content.specs.Tables.{Rows}
use Rattle.pq_store.specs.Content.{Content, key_cmp}
use Rattle.pq_pending.specs.Pending.{with_change, with_changes, nothing_ahead, Ahead, AreDistinct, seen_content}
use Rattle.pq_pending.proofs.Contents.{with_seen}
use Rattle.pq_pending.proofs.Lists.{seen_none, with_all, with_length, with_length_least}
use Rattle.pq_index_keep.specs.Promises.{IsShortChange}
use Rattle.pq_index_keep.specs.declared.plan.Planned.TheVariants as whole
use Rattle.pq_index_keep.specs.declared.write.Write.{Write}
use Rattle.pq_index_keep.proofs.Inserting.{each_is, each_by}
use Rattle.pq_tallies.specs.Counters.{HoldsCounted, all_pairs}
use Rattle.pq_tallies.specs.Defined.{counters_in}
use Rattle.pq_tallies.specs.Writes.{counted_effect}
use Rattle.pq_counters.specs.Whole.{AreWhole, MakesWhole, PlansWhole, CanRefuseWhole, changes_by, whole_changes}
use Rattle.pq_batch.specs.Batches.{Batched, Unmade, InBatch, TooLong, made_on, made_from, unless_long, changes_length, batch_effect}
use Rattle.pq_batch.specs.From.{AreAhead, FinishesAs, MakesFrom, PlansAs, PlansFrom, CanRefuseFrom, RefusesFrom}
use Rattle.pq_batch.specs.Promises.{IsBatchWithin, MakesBatch, PlansBatch, RefusesBatch}
use Rattle.pq_batch.specs.declared.plan.PlannedBatch.{PlannedBatch}
use Rattle.pq_batch.specs.declared.plan.PlannedBatch.TheVariants as planned

-- ---- the changes of one write more

ahead_with : (old : List Change) (more : List Coded) → AreAhead old → All IsShortChange (map change_of more) → AreIntended (map change_of more) → AreAhead (with_changes old (map change_of more))
ahead_with old more h short intended = record {
  short = with_all IsShortChange old (map change_of more) h.short short;
  intended = each_by May (with_changes old (map change_of more)) (with_all May old (map change_of more) (each_is May old h.intended) (each_is May (map change_of more) intended));
}
  where
    May : Change → Type 0
    May change = may_intend change.0 ≡ true

one_some : (changes : List Change) (change : Change) → 1 ≤ length (with_change changes change)
one_some [] change = omega arith
one_some (first ∷ rest) change =
    elim (eq_by_cmp key_cmp first.0 change.0) as (λ b. 1 ≤ length (cond b (change ∷ rest) (first ∷ with_change rest change))) [ true ↦ omega arith | false ↦ omega arith ]

some_with : (old more : List Change) → 1 ≤ length more → 1 ≤ length (with_changes old more)
some_with old [] some = absurd (omega arith)
some_with old (change ∷ more) some = omega (arith, one_some old change, with_length_least (with_change old change) more)

module _ (schema : Schema) (write : Write) (old later : List Change) (more : List Coded) (later_is : later ≡ with_changes old (map change_of more)) (whole : AreWhole (whole_changes schema write) more) where
  pub later_some : 1 ≤ length later
  later_some =
      let some = whole.some in
      omega (arith, ap length later_is, some_with old (map change_of more) (omega (arith, length-map more change_of)))

  pub later_few : length later ≤ length old + whole_changes schema write
  later_few =
      let few = whole.few in
      omega (arith, ap length later_is, with_length old (map change_of more), length-map more change_of)

  pub later_ahead : AreAhead old → All IsShortChange (map change_of more) → AreAhead later
  later_ahead h short = subst (λ (changes : List Change). AreAhead changes) (sym later_is) (ahead_with old more h short whole.intended)

-- ---- over the rows that the changes before make

pub record HasNext (schema : Schema) (rows : Rows) (others : List Pair) (write : Write) (told : Option Content) (later : List Change) (more : List Coded) : Type 0 where
  pub made : Rows
  pub is : counted_effect schema rows write ≡ Ok made
  pub changes : map change_of more ≡ changes_by schema rows write
  pub holds : HoldsCounted (seen_content later told) schema made others

pub has_next : (schema : Schema) (rows : Rows) (others : List Pair) (write : Write) (told : Option Content) (old later : List Change) (more : List Coded) → AreDistinct old → later ≡ with_changes old (map change_of more)
    → HoldsCounted (seen_content old told) schema rows others → PlansWhole schema rows others write (whole.Changes more) → HasNext schema rows others write told later more
has_next schema rows others write told old later more apart later_is holds plans = by (counted_effect schema rows write) refl plans
  where
    by : (result : Result Rows Refusal) → counted_effect schema rows write ≡ result → MatchResult result (MakesWhole schema rows others write more) (λ refusal. ⊥) → HasNext schema rows others write told later more
    by (Ok made) is makes = record {
      made = made;
      is = is;
      changes = makes.changes_are;
      holds = record {
        keeps = makes.keeps;
        few = makes.few;
        beside = holds.beside;
        is = ap (λ changes. seen_content changes told) later_is ∙ with_seen old (map change_of more) apart told
            ∙ ap (seen_content (map change_of more)) holds.is ∙ ap Some makes.content;
      };
    }
    by (Err why) is makes = absurd makes

module _ (schema : Schema) (place : ℕ) (rows : Rows) (old : List Change) (all : List Write) (write : Write) (writes : List Write) (cut : all ≡ write ∷ writes) where
  -- the first write is refused
  pub refused_first : (why : Refusal) → counted_effect schema rows write ≡ Err why → unless_long (made_from schema place rows old all) ≡ Err (InBatch place why)
  unfolding made_from
  refused_first why is =
      ap (λ (ws : List Write). unless_long (made_from schema place rows old ws)) cut
      ∙ ap (λ (result : Result Rows Refusal). unless_long (made_on place result (λ made. made_from schema (place + 1) made (with_changes old (changes_by schema rows write)) writes))) is

  -- or it makes these rows and changes
  made_first : (made : Rows) → counted_effect schema rows write ≡ Ok made → made_from schema place rows old all ≡ made_from schema (place + 1) made (with_changes old (changes_by schema rows write)) writes
  unfolding made_from
  made_first made is =
      ap (made_from schema place rows old) cut
      ∙ ap (λ (result : Result Rows Refusal). made_on place result (λ made. made_from schema (place + 1) made (with_changes old (changes_by schema rows write)) writes)) is

  pub plans_first : (before : Content) (others : List Pair) (told : Option Content) (later : List Change) (more : List Coded) (result : PlannedBatch) → later ≡ with_changes old (map change_of more)
      → (next : HasNext schema rows others write told later more) → PlansFrom schema (place + 1) next.made later writes before others result → PlansFrom schema place rows old all before others result
  plans_first before others told later more result later_is next plans =
      let changes : later ≡ with_changes old (changes_by schema rows write) = later_is ∙ ap (with_changes old) next.changes in
      let same : made_from schema (place + 1) next.made later writes ≡ made_from schema place rows old all =
      ap (λ (ahead : List Change). made_from schema (place + 1) next.made ahead writes) changes ∙ sym (made_first next.made next.is) in
      subst (λ (effect : Result Batched Unmade). PlansAs schema before others (unless_long effect) result) same plans

-- ---- behind the last write

inside : (x y : Content) → Some x ≡ Some y → x ≡ y
inside x y is = cc

last_as : (schema : Schema) (place : ℕ) (rows : Rows) (old : List Change) (before : Content) (others : List Pair) (result : PlannedBatch) → FinishesAs old result → HoldsCounted (seen_content old (Some before)) schema rows others
    → PlansFrom schema place rows old [] before others result
unfolding made_from
last_as schema place rows old before others (planned.Changes all) finishes holds =
    subst (λ (fits : Bool). PlansAs schema before others (cond fits (Ok rows) (Err (TooLong (changes_length old)))) (planned.Changes all)) (sym (le-leb (changes_length old) 1048576 finishes.1))
    (record {
      content = ap (λ (changes : List Change). changed_content changes before) finishes.0 ∙ inside _ _ holds.is;
      keeps = holds.keeps;
      few = holds.few;
    })
last_as schema place rows old before others (planned.Refused at cause) finishes holds = absurd finishes
last_as schema place rows old before others (planned.TooLong long) finishes holds =
    let is : long ≡ changes_length old = finishes.0 in
    let more : 1048576 < long = finishes.1 in
    ap (λ (fits : Bool). cond fits (Ok rows) (Err (TooLong (changes_length old)))) (lt-leb (changes_length old) 1048576 (omega arith))
    ∙ ap (λ (n : ℕ). Err (TooLong n)) (sym is)

pub plans_last : (schema : Schema) (place : ℕ) (rows : Rows) (old : List Change) (all : List Write) (told : Option Content) (before : Content) (others : List Pair) (result : PlannedBatch) → all ≡ [] → told ≡ Some before → FinishesAs old result
    → HoldsCounted (seen_content old told) schema rows others → PlansFrom schema place rows old all before others result
plans_last schema place rows old all told before others result none at finishes holds =
    subst (λ (ws : List Write). PlansFrom schema place rows old ws before others result) (sym none)
    (last_as schema place rows old before others result finishes (subst (λ (content : Option Content). HoldsCounted (seen_content old content) schema rows others) at holds))

-- ---- at which places, and how many changes

pub within_more : (less most : ℕ) (result : PlannedBatch) → less ≤ most → IsBatchWithin less result → IsBatchWithin most result
within_more less most (planned.Changes changes) more whole = let few = whole.few in record {
  some = whole.some;
  few = omega arith;
  coded = whole.coded;
  intended = whole.intended;
}
within_more less most (planned.Refused place cause) more whole = whole
within_more less most (planned.TooLong length) more whole = whole

module _ (schema : Schema) (all : List Write) (write : Write) (writes : List Write) (cut : all ≡ write ∷ writes) (place : ℕ) where
  pub refuses_first : (cause : Refusal) → CanRefuseWhole schema write cause → CanRefuseFrom schema all place place cause
  refuses_first cause can = record { write = write; before = 0; at = omega arith; there = ap (λ (ws : List Write). slice_get ws 0) cut; can = can }

  pub refuses_later : (result : PlannedBatch) → RefusesFrom schema writes (place + 1) result → RefusesFrom schema all place result
  refuses_later (planned.Changes changes) can = can
  refuses_later (planned.Refused at cause) can =
      let is = can.at in
      record { write = can.write; before = suc can.before; at = omega arith; there = ap (λ (ws : List Write). slice_get ws (suc can.before)) cut ∙ can.there; can = can.can }
  refuses_later (planned.TooLong length) can = can

-- ---- a whole batch

refuses_batch : (schema : Schema) (writes : List Write) (result : PlannedBatch) → RefusesFrom schema writes 1 result → RefusesBatch schema writes result
refuses_batch schema writes (planned.Changes changes) can = can
refuses_batch schema writes (planned.Refused place cause) can = record { write = can.write; before = can.before; at = can.at; there = can.there; can = can.can }
refuses_batch schema writes (planned.TooLong length) can = can

plans_batch : (schema : Schema) (rows : Rows) (others : List Pair) (writes : List Write) (result : PlannedBatch) → PlansFrom schema 1 rows [] writes (all_pairs schema.tables (counters_in schema) rows others) others result → PlansBatch schema rows others writes result
unfolding batch_effect
plans_batch schema rows others writes (planned.Changes changes) plans = by (unless_long (made_from schema 1 rows [] writes)) plans
  where
    by : (effect : Result Rows Unmade) → MatchResult effect (MakesFrom schema (all_pairs schema.tables (counters_in schema) rows others) others changes) (λ why. ⊥) → MatchResult effect (MakesBatch schema rows others changes) (λ why. ⊥)
    by (Ok made) makes = record { content = makes.content; keeps = makes.keeps; few = makes.few }
    by (Err why) makes = makes
plans_batch schema rows others writes (planned.Refused place cause) plans = plans
plans_batch schema rows others writes (planned.TooLong length) plans = plans

-- what is told of the writes behind no changes, of those of the batch
pub plans_all : (schema : Schema) (told : Option Content) (ahead : Ahead) (writes all : List Write) (result : PlannedBatch) → ahead ≡ nothing_ahead → all ≡ writes
    → ((before : Content) (rows : Rows) (others : List Pair) → told ≡ Some before → HoldsCounted (seen_content ahead.changes told) schema rows others → PlansFrom schema 1 rows ahead.changes all before others result)
    → (rows : Rows) (others : List Pair) → HoldsCounted told schema rows others → PlansBatch schema rows others writes result
plans_all schema told ahead writes all result none is plans rows others holds =
    let behind : (before : Content) (rows : Rows) (others : List Pair) → told ≡ Some before → HoldsCounted (seen_content [] told) schema rows others → PlansFrom schema 1 rows [] all before others result =
    subst (λ (a : Ahead). (before : Content) (rows : Rows) (others : List Pair) → told ≡ Some before → HoldsCounted (seen_content a.changes told) schema rows others → PlansFrom schema 1 rows a.changes all before others result) none plans in
    plans_batch schema rows others writes result
    (subst (λ (ws : List Write). PlansFrom schema 1 rows [] ws (all_pairs schema.tables (counters_in schema) rows others) others result) is
    (behind (all_pairs schema.tables (counters_in schema) rows others) rows others holds.is (subst (λ (content : Option Content). HoldsCounted content schema rows others) (sym (seen_none told)) holds)))
