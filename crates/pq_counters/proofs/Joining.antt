-- The changes of rows and entries and behind them those of counters, as one list.
use Rattle.std.proofs.Common.{◌≡◌, ℕ, ◌+◌, ◌||◌, Bool, true, false, List, [], ◌∷◌, ◌++◌, length, map, Option, Some, None, Result, Ok, Err, inr, refl, sym, ap, ◌∙◌, subst, arith, length-append}
use Rattle.std.specs.Prelude.{All, IfSome, MatchResult}
use Rattle.std.specs.List.{AllByRecursion}
use Rattle.std.proofs.lemmas.List.{map-append}
use Rattle.pq_base.proofs.Members.{each_append}
use Rattle.pq_base.specs.declared.refusal.Refusal.{Refusal}
use Rattle.pq_base.specs.declared.value.Value.{Value}
use Rattle.pq_row_code.specs.Changes.{IsChange}
use Rattle.pq_row_code.specs.declared.changes.Change.{Change as Coded}
use Rattle.pq_schema.specs.Definitions.{or_ok}
use Rattle.pq_schema.specs.Schema.{Schema}
use Rattle.pq_schema.specs.Valid.{IsValid}
use Rattle.pq_schema.specs.declared.table.Table.{Table}
use Rattle.pq_content.specs.Pairs.{Pair, Change, changed_content, is_of_rows, is_of_counters}
use Rattle.pq_content.specs.Standing.{change_of, AreIntended, may_intend}
use Rattle.pq_content.specs.Tables.{Rows}
use Rattle.pq_store.specs.Content.{Content}
use Rattle.pq_calls.specs.World.{World, Affords, Reads}
use Rattle.pq_index_keep.proofs.Inserting.{each_by, each_is}
use Rattle.pq_index_keep.proofs.Narrow.{valid_writable}
use Rattle.pq_index_keep.specs.Bounds.{most_changes, tests_behind}
use Rattle.pq_index_keep.specs.Effects.{effect, changes_of}
use Rattle.pq_index_keep.specs.Promises.{ArePlanned, MakesRows, Plans, IsReadFor, PassesTests, FitsItsTable, HasOwn}
use Rattle.pq_index_keep.specs.Sound.{IsWrite}
use Rattle.pq_index_keep.specs.declared.plan.Planned.{Planned}
use Rattle.pq_index_keep.specs.declared.plan.Planned.TheVariants as planned
use Rattle.pq_index_keep.specs.declared.write.Write.{Write}
use Rattle.pq_tallies.specs.Counters.{all_pairs, counter_pairs}
use Rattle.pq_tallies.specs.Defined.{counters_in}
use Rattle.pq_tallies.specs.Writes.{counted_effect, full_refusal, unless_full}
use Rattle.pq_counters.specs.Bounds.{all_moves, counter_reads, whole_bound, whole_ops}
use Rattle.pq_counters.specs.Promises.{IsCounterChange, AreCounterChanges, MakesCounts, RefusesAsFull}
use Rattle.pq_counters.specs.Whole.{whole_reads, reads_behind, whole_changes, AreWhole, CountsBy, HasWhole, MakesWhole, RefusesWhole, PlansWhole}
use Rattle.pq_counters.proofs.Small.{few_row_changes, moves_few, some_changes, more_ops}

-- ---- what an intent may hold

rows_intended : (changes : List Change) → AllByRecursion (λ change. is_of_rows change.0 ≡ true) changes → AreIntended changes
rows_intended [] h = tt
rows_intended (c ∷ cs) h = (ap (λ b. b || is_of_counters c.0) h.0, rows_intended cs h.1)

counters_intended : (changes : List Coded) → AllByRecursion IsCounterChange changes → AreIntended (map change_of changes)
counters_intended [] h = tt
counters_intended (c ∷ cs) h = (ap (λ b. is_of_rows c.key || b) h.0.of_counters ∙ either (is_of_rows c.key), counters_intended cs h.1)
  where
    either : (b : Bool) → (b || true) ≡ true
    either true = refl
    either false = refl

counters_coded : (changes : List Coded) → AllByRecursion IsCounterChange changes → AllByRecursion IsChange changes
counters_coded [] h = tt
counters_coded (c ∷ cs) h = (h.0.coded, counters_coded cs h.1)

pub are_whole : (schema : Schema) (w : Write) (changes more all : List Coded) → IsValid schema → IsWrite schema.tables w → ArePlanned (most_changes schema.tables w) changes → AreCounterChanges (all_moves (counters_in schema) w) more → all ≡ changes ++ more → AreWhole (whole_changes schema w) all
are_whole schema w changes more all v may p c is = subst (AreWhole (whole_changes schema w)) (sym is) parts
  where
    long : length (changes ++ more) ≡ length changes + length more
    long = length-append changes more

    each : AllByRecursion IsCounterChange more
    each = each_by IsCounterChange more c.each

    parts : AreWhole (whole_changes schema w) (changes ++ more)
    parts =
        let some = p.some in
        let few = p.few in
        let others = c.few in
        let rows = few_row_changes schema.tables w (valid_writable v) may in
        let moves = moves_few schema w v in
        record {
          some = omega (arith, long);
          few = omega (arith, long);
          coded = record {
            few = omega (arith, long);
            each = each_is IsChange (changes ++ more) (each_append IsChange changes more (each_by IsChange changes p.coded.each) (counters_coded more each));
          };
          intended = subst AreIntended (sym (map-append change_of changes more)) (each_append (λ change. may_intend change.0 ≡ true) (map change_of changes) (map change_of more) (rows_intended (map change_of changes) p.of_rows) (counters_intended more each));
        }

-- ---- the changes of the row that was read, and those of counters

pub has_whole : (schema : Schema) (told : Option Content) (w : Write) (old : Option (List Value)) (changes more all : List Coded) → IfSome told (λ content. IsReadFor schema.tables w content old) → IfSome told (PassesTests schema.tables w old) → FitsItsTable schema.tables w old → HasOwn schema.tables w old (map change_of changes) → All IsCounterChange more
    → CountsBy schema w old told (planned.Changes more) → all ≡ changes ++ more → HasWhole schema told w all
has_whole schema told w old changes more all read passed fits own counted counts both = record {
  old = old;
  rows = map change_of changes;
  counts = more;
  are = ap (map change_of) both ∙ map-append change_of changes more;
  read = read;
  passed = passed;
  fits = fits;
  own = own;
  counted = counted;
  moves = counts (map change_of changes) own;
}

-- ---- the effect, where counters count

module _ (schema : Schema) (rows : Rows) (others : List Pair) (w : Write) where
  -- a write that has no effect
  pub effect_refused : (why : Refusal) → effect schema.tables rows w ≡ Err why → PlansWhole schema rows others w (planned.Refused why)
  unfolding counted_effect
  effect_refused why is = ap (unless_full (full_refusal schema rows w)) is

  pub full_refused : (made : Rows) (why : Refusal) → effect schema.tables rows w ≡ Ok made → full_refusal schema rows w ≡ Some why → PlansWhole schema rows others w (planned.Refused why)
  unfolding counted_effect
  full_refused made why is full = ap (unless_full (full_refusal schema rows w)) is ∙ ap (λ (o : Option Refusal). or_ok o made) full

  counted_made : (made : Rows) → effect schema.tables rows w ≡ Ok made → full_refusal schema rows w ≡ None → counted_effect schema rows w ≡ Ok made
  unfolding counted_effect
  counted_made made is none = ap (unless_full (full_refusal schema rows w)) is ∙ ap (λ (o : Option Refusal). or_ok o made) none

  pub whole_made : (made : Rows) (changes more all : List Coded) → effect schema.tables rows w ≡ Ok made → MakesRows schema.tables rows (counter_pairs (counters_in schema) rows ++ others) w changes made → MakesCounts schema rows others w made more → all ≡ changes ++ more → PlansWhole schema rows others w (planned.Changes all)
  whole_made made changes more all is r m both =
      subst (λ (result : Result Rows Refusal). MatchResult result (MakesWhole schema rows others w all) (λ refusal. ⊥)) (sym (counted_made made is m.no_full))
      (record {
        changes_are = parts ∙ ap (λ (l : List Change). changes_of schema.tables rows w ++ l) m.changes_are;
        content = ap (λ (l : List Change). changed_content l (all_pairs schema.tables (counters_in schema) rows others)) parts ∙ m.content;
        keeps = r.keeps;
        few = m.few;
      })
    where
      parts : map change_of all ≡ changes_of schema.tables rows w ++ map change_of more
      parts = ap (map change_of) both ∙ map-append change_of changes more ∙ ap (λ (l : List Change). l ++ map change_of more) r.changes_are

-- where the write has an effect, its rows
pub record HasMade (tables : List Table) (rows : Rows) (others : List Pair) (w : Write) (changes : List Coded) : Type 0 where
  pub made : Rows
  pub is : effect tables rows w ≡ Ok made
  pub makes : MakesRows tables rows others w changes made

pub has_made : (tables : List Table) (rows : Rows) (others : List Pair) (w : Write) (changes : List Coded) → Plans tables rows others w (planned.Changes changes) → HasMade tables rows others w changes
has_made tables rows others w changes h = by (effect tables rows w) refl h
  where
    by : (r : Result Rows Refusal) → effect tables rows w ≡ r → MatchResult r (MakesRows tables rows others w changes) (λ refusal. ⊥) → HasMade tables rows others w changes
    by (Ok made) is makes = record { made = made; is = is; makes = makes }
    by (Err why) is makes = absurd makes

-- ---- what is left

-- enough for the counters' reads behind those of the tests
pub left_for_counters : (removers : ℕ) (schema : Schema) (w : Write) (a b : World) → Reads a b (tests_behind removers schema.tables w).ops (tests_behind removers schema.tables w).entries → Affords a.allowed (reads_behind removers schema w).ops (reads_behind removers schema w).entries → Affords b.allowed (counter_reads (counters_in schema) w) (counter_reads (counters_in schema) w)
left_for_counters removers schema w a b r left = let ops = left.ops_left in let entries = left.entries_left in record { ops_left = omega (arith, r.spent_ops, r.few_ops); entries_left = omega (arith, r.spent_entries, r.few_entries) }

-- enough for the changes behind all reads
pub left_for_changes : (schema : Schema) (w : Write) (a b : World) → Reads a b (whole_reads schema w).ops (whole_reads schema w).entries → Affords a.allowed (whole_bound schema w).ops (whole_bound schema w).entries → Affords b.allowed (whole_ops schema w) 0
left_for_changes schema w a b r left =
    let ops = left.ops_left in
    let more = more_ops (most_changes schema.tables w) (all_moves (counters_in schema) w) (some_changes schema.tables w) in
    record { ops_left = omega (arith, r.spent_ops, r.few_ops); entries_left = omega arith }

-- ---- refusals

pub refuses_full : (schema : Schema) (w : Write) (p : Planned) → RefusesAsFull schema p → RefusesWhole schema w p
refuses_full schema w (planned.Changes changes) h = tt
refuses_full schema w (planned.Refused why) h = inr h
