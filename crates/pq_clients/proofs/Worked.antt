-- A schema with an index, a limit and a foreign key, and rows: the premises are met; an UPDATE, a DELETE and a refusal that undoes an entry, computed.
use Rattle.std.proofs.Common.{◌≡◌, ℕ, zero, suc, pos, List, [], ◌∷◌, ◌++◌, length, Some, None, refl, ap, ◌∙◌, arith}
use Rattle.std.proofs.lemmas.List.Sums.{length-filter, count_by-le-length}
use lib.Count.{ones}
use Rattle.std.specs.FinMap.{insert, get-empty, get-insert, get-remove, entries-insert}
use Rattle.std.specs.Cmp.Lexicographic.{nat_list_cmp_total}
use Rattle.std.specs.Prelude.{All, IsSome, false, filter, ◌<◌, ◌≤◌, ◌^◌, ◌==◌}
use Rattle.std.specs.List.{AllByRecursion, IsDistinct}
use Rattle.pq_base.specs.Columns.{set_of}
use Rattle.pq_base.specs.declared.refusal.Refusal.TheVariants as refusal
use Rattle.pq_base.specs.declared.value.ColType.TheVariants as type
use Rattle.pq_base.specs.declared.value.Dir.TheVariants.{Asc}
use Rattle.pq_base.specs.declared.value.Value.{Value}
use Rattle.pq_base.specs.declared.value.Value.TheVariants as value
use Rattle.pq_key_code.specs.KeyCode.{row_key, entry_key}
use Rattle.pq_row_code.specs.RowReading.{row_decoded, fields_at, cell_at, front_at, field_at}
use Rattle.pq_row_code.specs.StoredRow.{filled_decoded, short_decoded, filled}
use Rattle.pq_schema.specs.Rows.{Rows, IsWithinLimit, agrees}
use Rattle.pq_schema.specs.Sequences.{group_access}
use Rattle.pq_schema.specs.Sound.{IsSized, AreKeyColumns, IsMadeLimit, IsMadeForeign, IsMade}
use Rattle.pq_base.specs.Values.{has_null, is_nullable}
use Rattle.pq_schema.specs.Tables.{table_at, type_at}
use Rattle.pq_schema.specs.declared.table.Column.{Column}
use Rattle.pq_schema.specs.declared.table.Foreign.{Foreign}
use Rattle.pq_schema.specs.declared.table.Index.{Index}
use Rattle.pq_schema.specs.declared.table.Limit.{Limit}
use Rattle.pq_schema.specs.declared.table.Table.{Table}
use Rattle.pq_content.specs.Pairs.{content_pairs}
use Rattle.pq_content.specs.Tables.{Keeps, stored_code}
use Rattle.pq_index_keep.proofs.Inserting.{each_is}
use Rattle.pq_row_keys.specs.Groups.{group_key}
use Rattle.pq_index_keep.specs.Sound.{IsWritable, AreWritable, IsWrite}
use Rattle.pq_index_keep.specs.declared.write.Write.{Write}
use Rattle.pq_index_keep.specs.declared.write.Write.TheVariants as write
use Rattle.pq_def_read.specs.declared.write.Setting.TheVariants as setting
use Rattle.pq_store.specs.Content.{Content, key_cmp}
use Rattle.pq_clients.specs.declared.outcome.Outcome.TheVariants as outcome
use Rattle.pq_clients.specs.declared.outcome.Told.{Told}
use Rattle.pq_clients.specs.Held.{held_value, cell_of}
use Rattle.pq_clients.specs.Flights.{Flight, Parent, Child, pair_key, old_row, new_row, new_code, entry_keys, old_entries, new_entries, flight_checks, flight_tests, group_front, tested_front}
use Rattle.pq_clients.specs.Clients.{Checking, Releasing, Testing, Putting, Clearing, Undoing, Next, Reading, Flying, View, new_view}
use Rattle.pq_clients.specs.Steps.{counted, DoneUnseen}
use Rattle.pq_clients.specs.Present.{present_rows}
use Rattle.pq_clients.specs.Runs.{Event, Run, begun, run}
use Rattle.pq_clients.specs.Promises.{calls_of_write, made_writes, IsFresh, Begins, HoldsThroughout}
use Rattle.pq_clients.proofs.Examples.{no_pairs, entries_none, pair, turns, tell, key_columns, small_number}
use Rattle.pq_clients.proofs.Rounds.{run-append}
use Rattle.pq_clients.proofs.Holding.{holds_throughout}

-- a table of numbers, and one whose rows name one of them each, at most one row for each number
abbrev parents : Table
parents = record { name = 112 ∷ []; columns = record { name = 105 ∷ []; ty = type.Int } ∷ []; fillers = None ∷ []; key = 0 ∷ []; limits = []; foreign = []; indexes = [] }

abbrev children : Table
children = record {
  name = 99 ∷ [];
  columns = record { name = 105 ∷ []; ty = type.Int } ∷ record { name = 117 ∷ []; ty = type.Int } ∷ [];
  fillers = None ∷ None ∷ [];
  key = 0 ∷ [];
  limits = record { n = 1; cols = 1 ∷ [] } ∷ [];
  foreign = record { cols = 1 ∷ []; table = 1 } ∷ [];
  indexes = record { cols = record { col = 1; dir = Asc } ∷ [] } ∷ [];
}

abbrev both : List Table
both = parents ∷ children ∷ []

abbrev one : ℕ → List Value
one a = value.Int (pos a) ∷ []

abbrev rows : Rows
rows = (1, one 1) ∷ (1, one 2) ∷ (2, pair 1 1) ∷ []

-- ---- the premises

first_column : AreKeyColumns 1 (0 ∷ [])
unfolding ones
first_column = record { some = omega arith; few = omega arith; inside = each_is (λ col. col < 1) (0 ∷ []) (omega arith, tt); different = refl }

made_parents : IsMade both 1 parents
made_parents = record {
  some_columns = omega arith;
  few_columns = omega arith;
  sized = each_is (λ (column : Column). IsSized column.ty) parents.columns (tt, tt);
  fillers = (tt, tt);
  key = first_column;
  plain = each_is (λ col. is_nullable (type_at parents.columns col) ≡ false) parents.key (refl, tt);
  few_limits = omega arith;
  limits = each_is (IsMadeLimit 1) [] tt;
  few_foreign = omega arith;
  foreign = each_is (IsMadeForeign both 1 parents.columns) [] tt;
  few_indexes = omega arith;
  indexes = each_is (λ (index : Index). All (λ part. part.col < 1) index.cols) [] tt;
  limit_groups = each_is (λ (limit : Limit). IsSome (group_access parents (set_of limit.cols))) [] tt;
  foreign_groups = each_is (λ (foreign : Foreign). IsSome (group_access parents (set_of foreign.cols))) [] tt;
}

second_column : AreKeyColumns 2 (1 ∷ [])
unfolding ones
second_column = record { some = omega arith; few = omega arith; inside = each_is (λ col. col < 2) (1 ∷ []) (omega arith, tt); different = refl }

grouped : IsSome (group_access children (set_of (1 ∷ [])))
unfolding ones
grouped = refl

made_children : IsMade both 2 children
made_children = record {
  some_columns = omega arith;
  few_columns = omega arith;
  sized = each_is (λ (column : Column). IsSized column.ty) children.columns (tt, (tt, tt));
  fillers = (tt, (tt, tt));
  key = key_columns;
  plain = each_is (λ col. is_nullable (type_at children.columns col) ≡ false) children.key (refl, tt);
  few_limits = omega arith;
  limits = each_is (IsMadeLimit 2) children.limits (record { cols = second_column; from_one = omega arith; most = omega arith }, tt);
  few_foreign = omega arith;
  foreign = each_is (IsMadeForeign both 2 children.columns) children.foreign (record { inside = second_column.inside; different = second_column.different; from_one = omega arith; earlier = omega arith; shape = refl }, tt);
  few_indexes = omega arith;
  indexes = each_is (λ (index : Index). All (λ part. part.col < 2) index.cols) children.indexes (each_is (λ part. part.col < 2) (record { col = 1; dir = Asc } ∷ []) (omega arith, tt), tt);
  limit_groups = each_is (λ (limit : Limit). IsSome (group_access children (set_of limit.cols))) children.limits (grouped, tt);
  foreign_groups = each_is (λ (foreign : Foreign). IsSome (group_access children (set_of foreign.cols))) children.foreign (grouped, tt);
}

writable : AreWritable both
writable = each_is (IsWritable both) both (
  record { number = 1; made = made_parents; narrow = each_is (λ (index : Index). length index.cols ≤ 36) [] tt },
  (record { number = 2; made = made_children; narrow = each_is (λ (index : Index). length index.cols ≤ 36) children.indexes (omega arith, tt) }, tt),
)

keeps : Keeps both rows
keeps = record {
  schema = record {
    known = ((omega arith, omega arith), ((omega arith, omega arith), ((omega arith, omega arith), tt)));
    fit = ((small_number 1 (omega arith), tt), ((small_number 2 (omega arith), tt), ((small_number 1 (omega arith), (small_number 1 (omega arith), tt)), tt)));
    apart = ((refl, (refl, tt)), ((refl, tt), (tt, tt)));
    limits = λ t number. limit_kept t number.0 number.1;
    foreign = (tt, (tt, (((λ plain. refl), tt), tt)));
  };
  short = (omega arith, (omega arith, (omega arith, tt)));
}
  where
    few : (values : List Value) → has_null values ≡ false → length (filter (agrees (1 ∷ []) values) (pair 1 1 ∷ [])) ≤ 1
    few values plain = omega (arith, length-filter (agrees (1 ∷ []) values) (pair 1 1 ∷ []), count_by-le-length (agrees (1 ∷ []) values) (pair 1 1 ∷ []))

    limit_kept : (t : ℕ) → 1 ≤ t → t ≤ 2 → AllByRecursion (IsWithinLimit t rows) (table_at both t).limits
    limit_kept zero low high = absurd (omega arith)
    limit_kept (suc zero) low high = tt
    limit_kept (suc (suc zero)) low high = (few, tt)
    limit_kept (suc (suc (suc n))) low high = absurd (omega arith)

-- the first client moves the row to the other number, the second deletes it, the third inserts another
abbrev moves : Write
moves = write.Update 2 (one 1) (record { col = 1; to = setting.Is (value.Int (pos 2)) } ∷ []) []

abbrev deletes : Write
deletes = write.Delete 2 (one 1) []

abbrev inserts : Write
inserts = write.Insert 2 (pair 5 1)

abbrev clients : List View
clients = new_view 1 (moves ∷ []) ∷ new_view 2 (deletes ∷ []) ∷ new_view 3 (inserts ∷ []) ∷ []

fresh_client : (i : ℕ) (w : Write) → 1 ≤ i → i < 2 ^ 32 → IsWrite both w → IsFresh both (new_view i (w ∷ []))
fresh_client i w from small fits = record { fresh = refl; from_one = from; small = small; writes = each_is (IsWrite both) (w ∷ []) (fits, tt) }

different : IsDistinct ◌==◌ (1 ∷ 2 ∷ 3 ∷ [])
unfolding IsDistinct
different = ((refl, (refl, tt)), ((refl, tt), (tt, tt)))

begins : Begins both rows [] clients
begins = record {
  sound = writable;
  keeps = keeps;
  beside = tt;
  fresh = record {
    each = each_is (IsFresh both) clients (
      fresh_client 1 moves (omega arith) (omega arith) (record { number = (omega arith, omega arith); fits = (small_number 1 (omega arith), tt); each = (record { inside = omega arith; fits = small_number 2 (omega arith); other = refl }, tt); tested = (omega arith, tt) }),
      (
        fresh_client 2 deletes (omega arith) (omega arith) (record { number = (omega arith, omega arith); fits = (small_number 1 (omega arith), tt); tested = (omega arith, tt) }),
        (fresh_client 3 inserts (omega arith) (omega arith) (record { number = (omega arith, omega arith); fits = (small_number 5 (omega arith), (small_number 1 (omega arith), tt)); short = omega arith }), tt),
      ),
    );
    differ = different;
    few = omega arith;
  };
}

holds : (events : List Event) → HoldsThroughout both rows [] clients events
holds events = holds_throughout both rows [] clients begins events

-- ---- the content at the beginning

abbrev entry_of : ℕ → ℕ → List ℕ
entry_of up id = entry_key 2 1 (Asc ∷ Asc ∷ []) (value.Int (pos up) ∷ value.Int (pos id) ∷ [])

abbrev child_row : List ℕ
child_row = row_key 2 (one 1)

abbrev with_parents : Content → Content
with_parents c = insert (insert c (row_key 1 (one 2)) (stored_code parents (one 2))) (row_key 1 (one 1)) (stored_code parents (one 1))

abbrev at_first : Content
at_first = with_parents (insert (insert no_pairs (entry_of 1 1) []) child_row (stored_code children (pair 1 1)))

is_first : content_pairs both rows [] ≡ at_first
unfolding content_pairs ones
is_first = refl

-- what some steps and then others tell
told_by_parts : (xs ys : List Event) (r between : Run) (told : List Told) → run both r xs ≡ between → (run both between ys).told ≡ told → (run both r (xs ++ ys)).told ≡ told
told_by_parts xs ys r between told first behind = ap (λ (r : Run). r.told) (run-append both xs ys r ∙ ap (λ (r : Run). run both r ys) first) ∙ behind

-- ---- an UPDATE that moves an entry

abbrev mover : Next → View
mover next = record (new_view 1 (moves ∷ [])) { next = next }

abbrev move : Flight
move = record { write = moves; read = Some (stored_code children (pair 1 1)) }

abbrev alone : Content → View → Run
alone c v = begun c (v ∷ [])

abbrev held_by : ℕ → Content → List Value → Content
held_by client c row = insert c child_row (held_value client 1 (Some (stored_code children row)))

-- it holds the key
moves_take : run both (alone at_first (mover Reading)) (turns (0 ∷ 0 ∷ [])) ≡ alone (held_by 1 at_first (pair 1 1)) (mover (Flying move (Checking (Parent 0 1 (row_key 1 (one 2))) [])))
unfolding ones pair_key held_value cell_of old_row new_row new_code entry_keys old_entries new_entries flight_checks flight_tests group_key group_front tested_front counted present_rows filled_decoded short_decoded filled row_decoded fields_at cell_at front_at field_at
moves_take = simp (get-insert {X = List ℕ} nat_list_cmp_total, get-remove {X = List ℕ} nat_list_cmp_total, get-empty {X = List ℕ} key_cmp)

-- its parent is there, and the new entry is added
moves_add : run both (alone (held_by 1 at_first (pair 1 1)) (mover (Flying move (Checking (Parent 0 1 (row_key 1 (one 2))) [])))) (turns (0 ∷ 0 ∷ []))
    ≡ alone (insert (held_by 1 at_first (pair 1 1)) (entry_of 2 1) []) (mover (Flying move (Testing 0 [] [])))
unfolding ones pair_key held_value cell_of old_row new_row new_code entry_keys old_entries new_entries flight_checks flight_tests group_key group_front tested_front counted present_rows filled_decoded short_decoded filled row_decoded fields_at cell_at front_at field_at
moves_add = simp (get-insert {X = List ℕ} nat_list_cmp_total, get-remove {X = List ℕ} nat_list_cmp_total, get-empty {X = List ℕ} key_cmp)

-- no row is in the group of its new number but its own
moves_test : run both (alone (insert (held_by 1 at_first (pair 1 1)) (entry_of 2 1) []) (mover (Flying move (Testing 0 [] [])))) (turns (0 ∷ []))
    ≡ alone (insert (held_by 1 at_first (pair 1 1)) (entry_of 2 1) []) (mover (Flying move Putting))
unfolding ones pair_key held_value cell_of old_row new_row new_code entry_keys old_entries new_entries flight_checks flight_tests group_key group_front tested_front counted present_rows filled_decoded short_decoded filled row_decoded fields_at cell_at front_at field_at
moves_test = simp (entries-insert {X = List ℕ} nat_list_cmp_total, entries_none)

-- its row is put
abbrev moved : Run
moved = record {
  content = held_by 1 (insert (held_by 1 at_first (pair 1 1)) (entry_of 2 1) []) (pair 1 2);
  clients = mover (Flying move (Clearing (entry_of 1 1) [])) ∷ [];
  told = [];
  puts = record { client = 1; number = 1 } ∷ [];
}

moves_put : run both (alone (insert (held_by 1 at_first (pair 1 1)) (entry_of 2 1) []) (mover (Flying move Putting))) (turns (0 ∷ [])) ≡ moved
unfolding ones pair_key held_value cell_of old_row new_row new_code entry_keys old_entries new_entries flight_checks flight_tests group_key group_front tested_front counted present_rows filled_decoded short_decoded filled row_decoded fields_at cell_at front_at field_at
moves_put = simp (get-insert {X = List ℕ} nat_list_cmp_total, get-remove {X = List ℕ} nat_list_cmp_total, get-empty {X = List ℕ} key_cmp)

-- the old entry is removed, and the key is free
moves_free : (run both moved (turns (0 ∷ 0 ∷ []))).told ≡ tell 1 1 outcome.Done ∷ []
unfolding ones pair_key held_value cell_of old_row new_row new_code entry_keys old_entries new_entries flight_checks flight_tests group_key group_front tested_front counted present_rows filled_decoded short_decoded filled row_decoded fields_at cell_at front_at field_at
moves_free = simp (get-insert {X = List ℕ} nat_list_cmp_total, get-remove {X = List ℕ} nat_list_cmp_total, get-empty {X = List ℕ} key_cmp)

-- all its calls: eight, where nine are the most
told_move : (run both (alone at_first (mover Reading)) (turns (0 ∷ 0 ∷ []) ++ (turns (0 ∷ 0 ∷ []) ++ (turns (0 ∷ []) ++ (turns (0 ∷ []) ++ turns (0 ∷ 0 ∷ [])))))).told ≡ tell 1 1 outcome.Done ∷ []
told_move =
    told_by_parts (turns (0 ∷ 0 ∷ [])) (turns (0 ∷ 0 ∷ []) ++ (turns (0 ∷ []) ++ (turns (0 ∷ []) ++ turns (0 ∷ 0 ∷ [])))) (alone at_first (mover Reading)) (alone (held_by 1 at_first (pair 1 1)) (mover (Flying move (Checking (Parent 0 1 (row_key 1 (one 2))) [])))) (tell 1 1 outcome.Done ∷ []) moves_take
    (told_by_parts (turns (0 ∷ 0 ∷ [])) (turns (0 ∷ []) ++ (turns (0 ∷ []) ++ turns (0 ∷ 0 ∷ []))) (alone (held_by 1 at_first (pair 1 1)) (mover (Flying move (Checking (Parent 0 1 (row_key 1 (one 2))) [])))) (alone (insert (held_by 1 at_first (pair 1 1)) (entry_of 2 1) []) (mover (Flying move (Testing 0 [] [])))) (tell 1 1 outcome.Done ∷ []) moves_add
    (told_by_parts (turns (0 ∷ [])) (turns (0 ∷ []) ++ turns (0 ∷ 0 ∷ [])) (alone (insert (held_by 1 at_first (pair 1 1)) (entry_of 2 1) []) (mover (Flying move (Testing 0 [] [])))) (alone (insert (held_by 1 at_first (pair 1 1)) (entry_of 2 1) []) (mover (Flying move Putting))) (tell 1 1 outcome.Done ∷ []) moves_test
    (told_by_parts (turns (0 ∷ [])) (turns (0 ∷ 0 ∷ [])) (alone (insert (held_by 1 at_first (pair 1 1)) (entry_of 2 1) []) (mover (Flying move Putting))) moved (tell 1 1 outcome.Done ∷ []) moves_put moves_free)))

bound_of_move : calls_of_write both moves ≡ 9
bound_of_move = refl

-- ---- a DELETE that is done

abbrev deleter : Next → View
deleter next = record (new_view 2 (deletes ∷ [])) { next = next }

abbrev deletion : Flight
deletion = record { write = deletes; read = Some (stored_code children (pair 1 1)) }

-- no table names the row's, so its put comes next
deletes_take : run both (alone at_first (deleter Reading)) (turns (0 ∷ 0 ∷ [])) ≡ alone (held_by 2 at_first (pair 1 1)) (deleter (Flying deletion Putting))
unfolding ones pair_key held_value cell_of old_row new_row new_code entry_keys old_entries new_entries flight_checks flight_tests group_key group_front tested_front counted present_rows filled_decoded short_decoded filled row_decoded fields_at cell_at front_at field_at
deletes_take = simp (get-insert {X = List ℕ} nat_list_cmp_total, get-remove {X = List ℕ} nat_list_cmp_total, get-empty {X = List ℕ} key_cmp)

abbrev deleted : Run
deleted = record {
  content = insert (held_by 2 at_first (pair 1 1)) child_row (held_value 2 1 None);
  clients = deleter (Flying deletion (Clearing (entry_of 1 1) [])) ∷ [];
  told = [];
  puts = record { client = 2; number = 1 } ∷ [];
}

deletes_put : run both (alone (held_by 2 at_first (pair 1 1)) (deleter (Flying deletion Putting))) (turns (0 ∷ [])) ≡ deleted
unfolding ones pair_key held_value cell_of old_row new_row new_code entry_keys old_entries new_entries flight_checks flight_tests group_key group_front tested_front counted present_rows filled_decoded short_decoded filled row_decoded fields_at cell_at front_at field_at
deletes_put = simp (get-insert {X = List ℕ} nat_list_cmp_total, get-remove {X = List ℕ} nat_list_cmp_total, get-empty {X = List ℕ} key_cmp)

deletes_free : (run both deleted (turns (0 ∷ 0 ∷ []))).told ≡ tell 2 1 outcome.Done ∷ []
unfolding ones pair_key held_value cell_of old_row new_row new_code entry_keys old_entries new_entries flight_checks flight_tests group_key group_front tested_front counted present_rows filled_decoded short_decoded filled row_decoded fields_at cell_at front_at field_at
deletes_free = simp (get-insert {X = List ℕ} nat_list_cmp_total, get-remove {X = List ℕ} nat_list_cmp_total, get-empty {X = List ℕ} key_cmp)

-- all its calls: five, which are the most
told_delete : (run both (alone at_first (deleter Reading)) (turns (0 ∷ 0 ∷ []) ++ (turns (0 ∷ []) ++ turns (0 ∷ 0 ∷ [])))).told ≡ tell 2 1 outcome.Done ∷ []
told_delete =
    told_by_parts (turns (0 ∷ 0 ∷ [])) (turns (0 ∷ []) ++ turns (0 ∷ 0 ∷ [])) (alone at_first (deleter Reading)) (alone (held_by 2 at_first (pair 1 1)) (deleter (Flying deletion Putting))) (tell 2 1 outcome.Done ∷ []) deletes_take
    (told_by_parts (turns (0 ∷ [])) (turns (0 ∷ 0 ∷ [])) (alone (held_by 2 at_first (pair 1 1)) (deleter (Flying deletion Putting))) deleted (tell 2 1 outcome.Done ∷ []) deletes_put deletes_free)

bound_of_delete : calls_of_write both deletes ≡ 5
bound_of_delete = refl

-- ---- a refusal that undoes an entry

abbrev inserter : Next → View
inserter next = record (new_view 3 (inserts ∷ [])) { next = next }

abbrev insertion : Flight
insertion = record { write = inserts; read = None }

abbrev added_row : Content
added_row = insert (insert at_first (row_key 2 (one 5)) (held_value 3 1 None)) (entry_of 1 5) []

inserts_take : run both (alone at_first (inserter Reading)) (turns (0 ∷ 0 ∷ [])) ≡ alone (insert at_first (row_key 2 (one 5)) (held_value 3 1 None)) (inserter (Flying insertion (Checking (Parent 0 1 (row_key 1 (one 1))) [])))
unfolding ones pair_key held_value cell_of old_row new_row new_code entry_keys old_entries new_entries flight_checks flight_tests group_key group_front tested_front counted present_rows filled_decoded short_decoded filled row_decoded fields_at cell_at front_at field_at
inserts_take = simp (get-insert {X = List ℕ} nat_list_cmp_total, get-remove {X = List ℕ} nat_list_cmp_total, get-empty {X = List ℕ} key_cmp)

inserts_add : run both (alone (insert at_first (row_key 2 (one 5)) (held_value 3 1 None)) (inserter (Flying insertion (Checking (Parent 0 1 (row_key 1 (one 1))) [])))) (turns (0 ∷ 0 ∷ []))
    ≡ alone added_row (inserter (Flying insertion (Testing 0 [] [])))
unfolding ones pair_key held_value cell_of old_row new_row new_code entry_keys old_entries new_entries flight_checks flight_tests group_key group_front tested_front counted present_rows filled_decoded short_decoded filled row_decoded fields_at cell_at front_at field_at
inserts_add = simp (get-insert {X = List ℕ} nat_list_cmp_total, get-remove {X = List ℕ} nat_list_cmp_total, get-empty {X = List ℕ} key_cmp)

-- the group has two then, where one is the most
inserts_test : run both (alone added_row (inserter (Flying insertion (Testing 0 [] [])))) (turns (0 ∷ []))
    ≡ alone added_row (inserter (Flying insertion (Undoing (entry_of 1 5) [] (refusal.Cardinality children.name 1 1))))
unfolding ones pair_key held_value cell_of old_row new_row new_code entry_keys old_entries new_entries flight_checks flight_tests group_key group_front tested_front counted present_rows filled_decoded short_decoded filled row_decoded fields_at cell_at front_at field_at
inserts_test = simp (entries-insert {X = List ℕ} nat_list_cmp_total, entries_none)

-- the entry is removed, the key is free, and the refusal is told
inserts_undo : (run both (alone added_row (inserter (Flying insertion (Undoing (entry_of 1 5) [] (refusal.Cardinality children.name 1 1))))) (turns (0 ∷ 0 ∷ []))).told
    ≡ tell 3 1 (outcome.Refused (refusal.Cardinality children.name 1 1)) ∷ []
unfolding ones pair_key held_value cell_of old_row new_row new_code entry_keys old_entries new_entries flight_checks flight_tests group_key group_front tested_front counted present_rows filled_decoded short_decoded filled row_decoded fields_at cell_at front_at field_at
inserts_undo = simp (get-insert {X = List ℕ} nat_list_cmp_total, get-remove {X = List ℕ} nat_list_cmp_total, get-empty {X = List ℕ} key_cmp)

-- all its calls: seven, where eight are the most
told_insert : (run both (alone at_first (inserter Reading)) (turns (0 ∷ 0 ∷ []) ++ (turns (0 ∷ 0 ∷ []) ++ (turns (0 ∷ []) ++ turns (0 ∷ 0 ∷ []))))).told ≡ tell 3 1 (outcome.Refused (refusal.Cardinality children.name 1 1)) ∷ []
told_insert =
    told_by_parts (turns (0 ∷ 0 ∷ [])) (turns (0 ∷ 0 ∷ []) ++ (turns (0 ∷ []) ++ turns (0 ∷ 0 ∷ []))) (alone at_first (inserter Reading)) (alone (insert at_first (row_key 2 (one 5)) (held_value 3 1 None)) (inserter (Flying insertion (Checking (Parent 0 1 (row_key 1 (one 1))) [])))) (tell 3 1 (outcome.Refused (refusal.Cardinality children.name 1 1)) ∷ []) inserts_take
    (told_by_parts (turns (0 ∷ 0 ∷ [])) (turns (0 ∷ []) ++ turns (0 ∷ 0 ∷ [])) (alone (insert at_first (row_key 2 (one 5)) (held_value 3 1 None)) (inserter (Flying insertion (Checking (Parent 0 1 (row_key 1 (one 1))) [])))) (alone added_row (inserter (Flying insertion (Testing 0 [] [])))) (tell 3 1 (outcome.Refused (refusal.Cardinality children.name 1 1)) ∷ []) inserts_add
    (told_by_parts (turns (0 ∷ [])) (turns (0 ∷ 0 ∷ [])) (alone added_row (inserter (Flying insertion (Testing 0 [] [])))) (alone added_row (inserter (Flying insertion (Undoing (entry_of 1 5) [] (refusal.Cardinality children.name 1 1))))) (tell 3 1 (outcome.Refused (refusal.Cardinality children.name 1 1)) ∷ []) inserts_test inserts_undo))

bound_of_insert : calls_of_write both inserts ≡ 8
bound_of_insert = refl

-- ---- refusals of parents and children

-- a row that another names isn't deleted
abbrev removes : Write
removes = write.Delete 1 (one 1) []

abbrev remover : Next → View
remover next = record (new_view 4 (removes ∷ [])) { next = next }

abbrev removal : Flight
removal = record { write = removes; read = Some (stored_code parents (one 1)) }

abbrev held_parent : Content
held_parent = insert at_first (row_key 1 (one 1)) (held_value 4 1 (Some (stored_code parents (one 1))))

removes_take : run both (alone at_first (remover Reading)) (turns (0 ∷ 0 ∷ [])) ≡ alone held_parent (remover (Flying removal (Checking (Child 2 0 (group_key 2 children (1 ∷ []) (one 1))) [])))
unfolding ones pair_key held_value cell_of old_row new_row new_code entry_keys old_entries new_entries flight_checks flight_tests group_key group_front tested_front counted present_rows filled_decoded short_decoded filled row_decoded fields_at cell_at front_at field_at
removes_take = simp (get-insert {X = List ℕ} nat_list_cmp_total, get-remove {X = List ℕ} nat_list_cmp_total, get-empty {X = List ℕ} key_cmp)

removes_count : run both (alone held_parent (remover (Flying removal (Checking (Child 2 0 (group_key 2 children (1 ∷ []) (one 1))) [])))) (turns (0 ∷ []))
    ≡ alone held_parent (remover (Flying removal (Releasing (refusal.Referenced children.name 1))))
unfolding ones pair_key held_value cell_of old_row new_row new_code entry_keys old_entries new_entries flight_checks flight_tests group_key group_front tested_front counted present_rows filled_decoded short_decoded filled row_decoded fields_at cell_at front_at field_at
removes_count = simp (entries-insert {X = List ℕ} nat_list_cmp_total, entries_none)

removes_release : (run both (alone held_parent (remover (Flying removal (Releasing (refusal.Referenced children.name 1))))) (turns (0 ∷ []))).told ≡ tell 4 1 (outcome.Refused (refusal.Referenced children.name 1)) ∷ []
unfolding ones pair_key held_value cell_of old_row new_row new_code entry_keys old_entries new_entries flight_checks flight_tests group_key group_front tested_front counted present_rows filled_decoded short_decoded filled row_decoded fields_at cell_at front_at field_at
removes_release = simp (get-insert {X = List ℕ} nat_list_cmp_total, get-remove {X = List ℕ} nat_list_cmp_total, get-empty {X = List ℕ} key_cmp)

-- a row that names none isn't inserted
abbrev orphans : Write
orphans = write.Insert 2 (pair 5 9)

told_orphan : (run both (alone at_first (new_view 5 (orphans ∷ []))) (turns (0 ∷ 0 ∷ 0 ∷ 0 ∷ []))).told ≡ tell 5 1 (outcome.Refused (refusal.NoParent children.name 1)) ∷ []
unfolding ones pair_key held_value cell_of old_row new_row new_code entry_keys old_entries new_entries flight_checks flight_tests group_key group_front tested_front counted present_rows filled_decoded short_decoded filled row_decoded fields_at cell_at front_at field_at
told_orphan = simp (get-insert {X = List ℕ} nat_list_cmp_total, get-remove {X = List ℕ} nat_list_cmp_total, get-empty {X = List ℕ} key_cmp)

-- ---- a put that is done and fails: the client is told Failed, the key stays held, and the write counts as made

abbrev unseen : Run
unseen = record {
  content = moved.content;
  clients = record (mover (Flying move Putting)) { over = Some outcome.Failed } ∷ [];
  told = tell 1 1 outcome.Failed ∷ [];
  puts = [];
}

fails_put : run both (alone (insert (held_by 1 at_first (pair 1 1)) (entry_of 2 1) []) (mover (Flying move Putting))) (record { place = 0; fate = DoneUnseen } ∷ []) ≡ unseen
unfolding ones pair_key held_value cell_of old_row new_row new_code entry_keys old_entries new_entries flight_checks flight_tests group_key group_front tested_front counted present_rows filled_decoded short_decoded filled row_decoded fields_at cell_at front_at field_at
fails_put = simp (get-insert {X = List ℕ} nat_list_cmp_total, get-remove {X = List ℕ} nat_list_cmp_total, get-empty {X = List ℕ} key_cmp)

made_unseen : made_writes both (new_view 1 (moves ∷ []) ∷ []) unseen ≡ moves ∷ []
unfolding ones pair_key held_value cell_of old_row new_row new_code entry_keys old_entries new_entries flight_checks flight_tests group_key group_front tested_front counted present_rows filled_decoded short_decoded filled row_decoded fields_at cell_at front_at field_at
made_unseen = simp (get-insert {X = List ℕ} nat_list_cmp_total, get-remove {X = List ℕ} nat_list_cmp_total, get-empty {X = List ℕ} key_cmp)
