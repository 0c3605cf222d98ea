-- What the effect of a write makes of the rows, of the pairs and of the tallies.
use Rattle.std.proofs.Common.{◌≡◌, ℕ, ◌+◌, ◌≤◌, ◌<◌, Bool, true, false, cond, not, ◌&&◌, ◌==◌, List, [], ◌∷◌, ◌++◌, length, filter, Option, Some, None, Ok, refl, sym, ap, ◌∙◌, subst, arith}
use Rattle.std.specs.List.{AllByRecursion}
use Rattle.std.specs.List as lists
use Rattle.std.specs.Prelude.{option_map}
use Rattle.std.proofs.lemmas.Bool.{leb-false}
use Rattle.pq_base.specs.declared.refusal.Refusal.{Refusal}
use Rattle.pq_base.specs.declared.value.Value.{Value}
use Rattle.pq_base.specs.Values.{has_null}
use Rattle.pq_base.specs.Answers.{or_else}
use Rattle.pq_schema.specs.Definitions.{or_ok}
use Rattle.pq_schema.specs.declared.table.Table.{Table}
use Rattle.pq_schema.specs.Tables.{table_at}
use Rattle.pq_content.specs.Pairs.{Pair, Change, AreBeside, changed_content, content_pairs}
use Rattle.pq_content.specs.Tables.{Rows, Keeps, rows_of, row_at, rows_without, agrees, cells, key_of, same_values}
use Rattle.pq_content.proofs.Deletes.{delete_row}
use Rattle.pq_content.proofs.Keeping.{row_found}
use Rattle.pq_content.proofs.Updates.{update_row}
use Rattle.pq_content.proofs.Values.{same_from_test}
use Rattle.pq_content.proofs.Writes.{insert_row}
use Rattle.pq_store.specs.Content.{Content, written_content}
use Rattle.pq_index_keep.specs.Effects.{effect, changes_of, updated_rows, update_of, deleted_rows, removal_of, insert_refusal, update_refusal, child_refusal, condition_refusal, held_refusal}
use Rattle.pq_index_keep.specs.Sound.{IsWrite, IsUpdate}
use Rattle.pq_index_keep.specs.Tested.{with_sets, scope_of}
use Rattle.pq_index_keep.specs.declared.write.Cond.{Cond}
use Rattle.pq_index_keep.specs.declared.write.SetCol.{SetCol}
use Rattle.pq_index_keep.specs.declared.write.Write.{Write}
use Rattle.pq_index_keep.specs.declared.write.Write.TheVariants as write
use Rattle.pq_index_keep.proofs.Updating.{kept_key}
use Rattle.pq_tallies.specs.Defined.{NumberedCounter}
use Rattle.pq_tallies.specs.Counters.{tally, counted_rows, most_count, AreFewRows}
use Rattle.pq_tallies.specs.Moves.{no_move, moved, is_full_group, lacks_count, first_full}
use Rattle.pq_tallies.specs.Writes.{written_table, old_row, new_row}
use Rattle.pq_tallies.proofs.Written.{Written, turn, plain_at, tally_left}
use Rattle.pq_tallies.proofs.Written.Written.{comes, goes, turns}

-- ---- the rows

ok_is : (o : Option Refusal) (rows made : Rows) → or_ok o rows ≡ Ok made → rows ≡ made
ok_is None rows made h = cc
ok_is (Some refusal) rows made h = absurd (cc)

module _ (tables : List Table) (rows made : Rows) (t : ℕ) (key : List Value) where
  updated : (sets : List SetCol) (conds : List Cond) (o : Option (List Value)) → row_at tables rows t key ≡ o → updated_rows tables rows t key sets conds o ≡ Ok made → Written tables rows t o (option_map (with_sets sets) o) made
  updated sets conds None found is = absurd (cc)
  updated sets conds (Some old) found is = subst (Written tables rows t (Some old) (Some (with_sets sets old))) (ok_is (or_else (held_refusal (table_at tables t) sets conds old) (update_refusal tables rows (scope_of sets) t old (with_sets sets old))) ((t, with_sets sets old) ∷ rows_without tables t key rows) made is) (turns key old (with_sets sets old) found)

  deleted : (conds : List Cond) (o : Option (List Value)) → row_at tables rows t key ≡ o → deleted_rows tables rows t key conds o ≡ Ok made → Written tables rows t o None made
  deleted conds None found is = absurd (cc)
  deleted conds (Some old) found is = subst (Written tables rows t (Some old) None) (ok_is (or_else (condition_refusal (table_at tables t) conds old) (child_refusal rows t key 1 tables)) (rows_without tables t key rows) made is) (goes key old found)

pub effect_written : (tables : List Table) (rows made : Rows) (w : Write) → effect tables rows w ≡ Ok made → Written tables rows (written_table w) (old_row tables rows w) (new_row tables rows w) made
unfolding effect
effect_written tables rows made (write.Insert t row) is = subst (Written tables rows t None (Some row)) (ok_is (insert_refusal tables rows t row) ((t, row) ∷ rows) made is) (comes row)
effect_written tables rows made (write.Update t key sets conds) is = updated tables rows made t key sets conds (row_at tables rows t key) refl is
effect_written tables rows made (write.Delete t key conds) is = deleted tables rows made t key conds (row_at tables rows t key) refl is

-- ---- the rows' pairs

module _ (tables : List Table) (rows made : Rows) (others : List Pair) (keeps : Keeps tables rows) (beside : AreBeside others) (t : ℕ) (key : List Value) where
  pairs_updated : (sets : List SetCol) (conds : List Cond) → IsUpdate tables t key sets conds → (o : Option (List Value)) → row_at tables rows t key ≡ o → updated_rows tables rows t key sets conds o ≡ Ok made → changed_content (update_of (table_at tables t) t sets o) (content_pairs tables rows others) ≡ content_pairs tables made others
  pairs_updated sets conds w None found is = absurd (cc)
  pairs_updated sets conds w (Some old) found is =
      let table = table_at tables t in
      let new = with_sets sets old in
      let own : key_of table old ≡ key = (row_found tables rows t key old keeps found).key_is in
      let here : row_at tables rows t (key_of table old) ≡ Some old = ap (row_at tables rows t) own ∙ found in
      update_row tables rows others t old new keeps beside here (sym (kept_key table sets old w.each))
      ∙ ap (λ (k : List Value). content_pairs tables ((t, new) ∷ rows_without tables t k rows) others) own
      ∙ ap (λ (l : Rows). content_pairs tables l others) (ok_is (or_else (held_refusal table sets conds old) (update_refusal tables rows (scope_of sets) t old new)) ((t, new) ∷ rows_without tables t key rows) made is)

  pairs_deleted : (conds : List Cond) (o : Option (List Value)) → row_at tables rows t key ≡ o → deleted_rows tables rows t key conds o ≡ Ok made → changed_content (removal_of (table_at tables t) t o) (content_pairs tables rows others) ≡ content_pairs tables made others
  pairs_deleted conds None found is = absurd (cc)
  pairs_deleted conds (Some old) found is =
      delete_row tables rows others t key old keeps beside found
      ∙ ap (λ (l : Rows). content_pairs tables l others) (ok_is (or_else (condition_refusal (table_at tables t) conds old) (child_refusal rows t key 1 tables)) (rows_without tables t key rows) made is)

pub pairs_changed : (tables : List Table) (rows made : Rows) (others : List Pair) (w : Write) → Keeps tables rows → AreBeside others → IsWrite tables w → effect tables rows w ≡ Ok made → changed_content (changes_of tables rows w) (content_pairs tables rows others) ≡ content_pairs tables made others
unfolding effect changes_of
pairs_changed tables rows made others (write.Insert t row) keeps beside may is =
    insert_row tables rows others t row
    ∙ ap (λ (l : Rows). content_pairs tables l others) (ok_is (insert_refusal tables rows t row) ((t, row) ∷ rows) made is)
pairs_changed tables rows made others (write.Update t key sets conds) keeps beside may is = pairs_updated tables rows made others keeps beside t key sets conds may (row_at tables rows t key) refl is
pairs_changed tables rows made others (write.Delete t key conds) keeps beside may is = pairs_deleted tables rows made others keeps beside t key conds (row_at tables rows t key) refl is

pub changed-append : (xs ys : List Change) (content : Content) → changed_content (xs ++ ys) content ≡ changed_content ys (changed_content xs content)
changed-append [] ys content = refl
changed-append (x ∷ xs) ys content = changed-append xs ys (written_content x.0 x.1 content)

-- ---- tallies

-- one where a row is in this group
abbrev pub one_in : ℕ → NumberedCounter → List Value → List Value → ℕ
one_in t c v row = cond ((t == c.table) && (plain_at c row && agrees c.cols v row)) 1 0

pub tally_comes : (rows : Rows) (c : NumberedCounter) (t : ℕ) (row v : List Value) → tally ((t, row) ∷ rows) c v ≡ tally rows c v + one_in t c v row
tally_comes rows c t row v =
    let all = rows_of c.table rows in
    let rs = counted_rows c rows in
    let own = filter (agrees c.cols v) rs in
    elim (t == c.table) as (λ b. length (filter (agrees c.cols v) (filter (plain_at c) (cond b (row ∷ all) all))) ≡ length own + cond (b && (plain_at c row && agrees c.cols v row)) 1 0) [
      | true ↦ elim (plain_at c row) as (λ b. length (filter (agrees c.cols v) (cond b (row ∷ rs) rs)) ≡ length own + cond (b && agrees c.cols v row) 1 0) [
        | true ↦ elim (agrees c.cols v row) as (λ b. length (cond b (row ∷ own) own) ≡ length own + cond b 1 0) [ true ↦ omega arith | false ↦ omega arith ]
        | false ↦ omega arith
      ]
      | false ↦ omega arith
    ]

pub tally_goes : (tables : List Table) (rows : Rows) (c : NumberedCounter) (t : ℕ) (key old v : List Value) → Keeps tables rows → row_at tables rows t key ≡ Some old → tally (rows_without tables t key rows) c v + one_in t c v old ≡ tally rows c v
tally_goes tables rows c t key old v keeps found = sym (tally_left tables rows keeps t key old found c v)

pub tally_stays : (tables : List Table) (rows : Rows) (c : NumberedCounter) (t : ℕ) (key old new v : List Value) → Keeps tables rows → row_at tables rows t key ≡ Some old → cells c.cols old ≡ cells c.cols new → tally ((t, new) ∷ rows_without tables t key rows) c v ≡ tally rows c v
tally_stays tables rows c t key old new v keeps found same =
    tally_comes (rows_without tables t key rows) c t new v
    ∙ ap (λ (x : List Value). tally (rows_without tables t key rows) c v + cond ((t == c.table) && (not (has_null x) && same_values x v)) 1 0) (sym same)
    ∙ tally_goes tables rows c t key old v keeps found

-- a row with these values is in this group alone
in_group : (c : NumberedCounter) (row v : List Value) → agrees c.cols v row ≡ true → cells c.cols row ≡ v
in_group c row v is = same_from_test (cells c.cols row) v is

-- a row that comes into a group with room
room_in : (rows : Rows) (c : NumberedCounter) (row v : List Value) → (n : ℕ) → n ≤ tally rows c v → tally rows c v ≤ most_count → (null : Bool) → is_full_group rows c (cond null None (Some (cells c.cols row))) ≡ false → (own : Bool) → agrees c.cols v row ≡ own → n + cond (not null && own) 1 0 ≤ most_count
room_in rows c row v n less most true room own is = omega arith
room_in rows c row v n less most false room true is =
    let below : tally rows c v < most_count = subst (λ (x : List Value). tally rows c x < most_count) (in_group c row v is) (leb-false most_count (tally rows c (cells c.cols row)) room) in
    omega arith
room_in rows c row v n less most false room false is = omega arith

few_comes : (rows : Rows) (c : NumberedCounter) (t : ℕ) (row : List Value) → ((v : List Value) → tally rows c v ≤ most_count) → lacks_count rows t None (Some row) c ≡ false → (v : List Value) → tally ((t, row) ∷ rows) c v ≤ most_count
few_comes rows c t row few room v =
    let most = few v in
    let more = tally_comes rows c t row v in
    elim (t == c.table) as (λ b. is_full_group rows c (cond b (moved c None (Some row)) no_move).to ≡ false → tally ((t, row) ∷ rows) c v ≡ tally rows c v + cond (b && (plain_at c row && agrees c.cols v row)) 1 0 → tally ((t, row) ∷ rows) c v ≤ most_count) [
      | true ↦ λ room more. subst (λ (m : ℕ). m ≤ most_count) (sym more) (room_in rows c row v (tally rows c v) (omega arith) most (has_null (cells c.cols row)) room (agrees c.cols v row) refl)
      | false ↦ λ _ more. omega arith
    ] room more

few_goes : (tables : List Table) (rows : Rows) (c : NumberedCounter) (t : ℕ) (key old : List Value) → Keeps tables rows → row_at tables rows t key ≡ Some old → ((v : List Value) → tally rows c v ≤ most_count) → (v : List Value) → tally (rows_without tables t key rows) c v ≤ most_count
few_goes tables rows c t key old keeps found few v =
    let most = few v in
    let less = tally_goes tables rows c t key old v keeps found in
    omega arith

few_turns : (tables : List Table) (rows : Rows) (c : NumberedCounter) (t : ℕ) (key old new : List Value) → Keeps tables rows → row_at tables rows t key ≡ Some old → ((v : List Value) → tally rows c v ≤ most_count) → lacks_count rows t (Some old) (Some new) c ≡ false → (v : List Value) → tally ((t, new) ∷ rows_without tables t key rows) c v ≤ most_count
few_turns tables rows c t key old new keeps found few room v =
    let rest = rows_without tables t key rows in
    let made = (t, new) ∷ rest in
    let most = few v in
    let less = tally_goes tables rows c t key old v keeps found in
    let fewer : tally rest c v ≤ tally rows c v = omega arith in
    let more = tally_comes rest c t new v in
    elim (t == c.table) as (λ b. is_full_group rows c (cond b (moved c (Some old) (Some new)) no_move).to ≡ false → tally rest c v + cond (b && (plain_at c old && agrees c.cols v old)) 1 0 ≡ tally rows c v → tally made c v ≡ tally rest c v + cond (b && (plain_at c new && agrees c.cols v new)) 1 0 → tally made c v ≤ most_count) [
      | true ↦ λ room less more. elim (same_values (cells c.cols old) (cells c.cols new)) as (λ b. same_values (cells c.cols old) (cells c.cols new) ≡ b → is_full_group rows c (turn b c old new).to ≡ false → tally made c v ≤ most_count) [
        | true ↦ λ same _.
            let one : cond (plain_at c old && agrees c.cols v old) 1 0 ≡ cond (plain_at c new && agrees c.cols v new) 1 0 = ap (λ (x : List Value). cond (not (has_null x) && same_values x v) 1 0) (same_from_test (cells c.cols old) (cells c.cols new) same) in
            let stays : tally made c v ≡ tally rows c v = more ∙ ap (λ (m : ℕ). tally rest c v + m) (sym one) ∙ less in
            subst (λ (m : ℕ). m ≤ most_count) (sym stays) most
        | false ↦ λ _ room. subst (λ (m : ℕ). m ≤ most_count) (sym more) (room_in rows c new v (tally rest c v) fewer most (has_null (cells c.cols new)) room (agrees c.cols v new) refl)
      ] refl room
      | false ↦ λ _ less more. omega arith
    ] room less more

few_made : (tables : List Table) (rows : Rows) (t : ℕ) (old new : Option (List Value)) (made : Rows) → Keeps tables rows → Written tables rows t old new made → (c : NumberedCounter) → ((v : List Value) → tally rows c v ≤ most_count) → lacks_count rows t old new c ≡ false → (v : List Value) → tally made c v ≤ most_count
few_made tables rows t old new made keeps (comes row) c few room = few_comes rows c t row few room
few_made tables rows t old new made keeps (goes key row found) c few room = few_goes tables rows c t key row keeps found few
few_made tables rows t old new made keeps (turns key row next found) c few room = few_turns tables rows c t key row next keeps found few room

none_passes : {X : Type 0} (p : X → Bool) (xs : List X) → lists.find p xs ≡ None → AllByRecursion (λ x. p x ≡ false) xs
none_passes p [] none = tt
none_passes p (x ∷ xs) none =
    elim (p x) as (λ b. cond b (Some x) (lists.find p xs) ≡ None → (b ≡ false) × AllByRecursion (λ y. p y ≡ false) xs) [
      | true ↦ λ none. absurd (cc)
      | false ↦ λ none. (refl, none_passes p xs none)
    ] none

-- where no group that grows is full, none gets too many rows
pub stay_few : (tables : List Table) (rows made : Rows) (t : ℕ) (old new : Option (List Value)) → Keeps tables rows → Written tables rows t old new made → (cs : List NumberedCounter) → AreFewRows cs rows → first_full cs rows t old new ≡ None → AreFewRows cs made
stay_few tables rows made t old new keeps written cs few none = each cs few (none_passes (lacks_count rows t old new) cs none)
  where
    each : (ds : List NumberedCounter) → AreFewRows ds rows → AllByRecursion (λ (c : NumberedCounter). lacks_count rows t old new c ≡ false) ds → AreFewRows ds made
    each [] few room = tt
    each (d ∷ ds) few room = (few_made tables rows t old new made keeps written d few.0 room.0, each ds few.1 room.1)
