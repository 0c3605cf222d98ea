-- From the changes for a row that goes and one that comes to those of a write.
use Rattle.std.proofs.Common.{◌≡◌, true, List, ◌++◌, Option, Some, None, Ok, refl, ap, ◌∙◌}
use Rattle.std.specs.Prelude.{option_map}
use Rattle.pq_base.specs.declared.value.Value.{Value}
use Rattle.pq_base.proofs.Members.{each_append, each_flat_map}
use Rattle.pq_schema.specs.Schema.{Schema}
use Rattle.pq_schema.specs.Valid.{IsValid}
use Rattle.pq_content.specs.Pairs.{Pair, Change, changed_content, content_pairs}
use Rattle.pq_content.specs.Standing.{AreIntended, may_intend}
use Rattle.pq_content.specs.Tables.{Rows, Keeps}
use Rattle.pq_index_keep.specs.Effects.{effect, changes_of}
use Rattle.pq_index_keep.specs.Sound.{IsWrite}
use Rattle.pq_index_keep.specs.declared.write.Write.{Write}
use Rattle.pq_tallies.specs.Counters.{counter_pairs, all_pairs, AreFewRows, AreBesideCounters}
use Rattle.pq_tallies.specs.Defined.{NumberedCounter, counters_in}
use Rattle.pq_tallies.specs.Moves.{GroupMove, move_in, left_changes, joined_changes, move_changes, first_full}
use Rattle.pq_tallies.specs.Writes.{written_table, old_row, new_row, counter_changes, counter_full, full_refusal}
use Rattle.pq_tallies.proofs.Defined.{schema_counters}
use Rattle.pq_tallies.proofs.Effects.{effect_written, pairs_changed, changed-append, stay_few}
use Rattle.pq_tallies.proofs.Told.{are_numbered, all_beside}
use Rattle.pq_tallies.proofs.Written.{each_turns, counters_changed}

module _ (schema : Schema) (rows made : Rows) (w : Write) (keeps : Keeps schema.tables rows) (is : effect schema.tables rows w ≡ Ok made) where
  -- over the rows of the write, its changes of the counters' pairs make theirs
  pub counter_part : (others : List Pair) → IsValid schema → AreBesideCounters others → changed_content (counter_changes schema rows w) (content_pairs schema.tables made (counter_pairs (counters_in schema) rows ++ others)) ≡ all_pairs schema.tables (counters_in schema) made others
  unfolding counter_changes
  counter_part others valid beside =
      let tables = schema.tables in
      let cs = counters_in schema in
      let t = written_table w in
      let old = old_row tables rows w in
      let new = new_row tables rows w in
      counters_changed tables rows made others t old new cs (each_turns tables rows t old new made keeps (effect_written tables rows made w is)) (are_numbered tables cs (schema_counters schema valid)) beside

  -- all changes of a write
  pub whole_write : (others : List Pair) → IsValid schema → AreBesideCounters others → IsWrite schema.tables w → changed_content (changes_of schema.tables rows w ++ counter_changes schema rows w) (all_pairs schema.tables (counters_in schema) rows others) ≡ all_pairs schema.tables (counters_in schema) made others
  whole_write others valid beside may =
      let cs = counters_in schema in
      changed-append (changes_of schema.tables rows w) (counter_changes schema rows w) (all_pairs schema.tables cs rows others)
      ∙ ap (changed_content (counter_changes schema rows w)) (pairs_changed schema.tables rows made (counter_pairs cs rows ++ others) w keeps (all_beside others rows cs beside) may is)
      ∙ counter_part others valid beside

  -- where no counter is full, no group gets too many rows
  pub few_after : AreFewRows (counters_in schema) rows → full_refusal schema rows w ≡ None → AreFewRows (counters_in schema) made
  unfolding full_refusal
  few_after few none =
      let tables = schema.tables in
      let cs = counters_in schema in
      let t = written_table w in
      let old = old_row tables rows w in
      let new = new_row tables rows w in
      stay_few tables rows made t old new keeps (effect_written tables rows made w is) cs few (none_first (first_full cs rows t old new) none)
    where
      none_first : (o : Option NumberedCounter) → option_map counter_full o ≡ None → o ≡ None
      none_first None h = refl
      none_first (Some c) h = absurd (cc)

-- ---- what an intent may hold

left_intended : (rows : Rows) (c : NumberedCounter) (group : Option (List Value)) → AreIntended (left_changes rows c group)
left_intended rows c None = tt
left_intended rows c (Some values) = (refl, tt)

joined_intended : (rows : Rows) (c : NumberedCounter) (group : Option (List Value)) → AreIntended (joined_changes rows c group)
joined_intended rows c None = tt
joined_intended rows c (Some values) = (refl, tt)

move_intended : (rows : Rows) (c : NumberedCounter) (m : GroupMove) → AreIntended (move_changes rows c m)
move_intended rows c m = each_append (λ (change : Change). may_intend change.0 ≡ true) (left_changes rows c m.from) (joined_changes rows c m.to) (left_intended rows c m.from) (joined_intended rows c m.to)

pub changes_intended : (schema : Schema) (rows : Rows) (w : Write) → AreIntended (counter_changes schema rows w)
unfolding counter_changes
changes_intended schema rows w =
    let t = written_table w in
    let old = old_row schema.tables rows w in
    let new = new_row schema.tables rows w in
    each_flat_map (λ (change : Change). may_intend change.0 ≡ true) (λ (c : NumberedCounter). move_changes rows c (move_in t old new c)) (counters_in schema) (λ c i. move_intended rows c (move_in t old new c))
