-- What a content has at the keys of groups, and which numbers have which codes.
use Rattle.std.proofs.Common.{◌≡◌, ℕ, ◌+◌, ◌≤◌, ◌<◌, ◌^◌, inl, inr, Bool, true, false, cond, ◌||◌, List, [], ◌∷◌, ◌++◌, map, Option, Some, None, refl, sym, ap, ◌∙◌, subst, arith}
use Rattle.std.specs.List.{AllByRecursion}
use Rattle.std.specs.Prelude.{nat_lt}
use Rattle.std.specs.FinMap.{find, get}
use Rattle.std.specs.Int.{w64, from_be_bytes}
use Rattle.std.proofs.lemmas.Bool.{false≢true, or_parts, ltb-false, ltb-true}
use Rattle.std.proofs.lemmas.Nat.{from_be_bytes-to_be_bytes_8}
use Rattle.pq_base.specs.declared.value.Value.{Value}
use Rattle.pq_base.specs.Members.{In}
use Rattle.pq_base.proofs.Members.{each_in, each_append, each_flat_map, each_weaker}
use Rattle.pq_schema.specs.declared.table.Table.{Table}
use Rattle.pq_schema.specs.Schema.{Schema}
use Rattle.pq_content.specs.Pairs.{Pair, AreBeside, AreOfCounters, HoldsRows, is_of_rows, is_of_counters}
use Rattle.pq_content.specs.Tables.{Rows, AllOfKinds, Keeps, cells}
use Rattle.pq_content.proofs.Find.{find_rest, find_front}
use Rattle.pq_store.specs.Content.{key_cmp, Content}
use Rattle.pq_index_keep.proofs.Inserting.{each_by}
use Rattle.pq_tallies.specs.Counters.{tally, counted_rows, most_count, next_count, counter_key, count_code, stored_count, counter_pair, group_pairs, counter_pairs, all_pairs, AreBesideCounters, HoldsCounted}
use Rattle.pq_tallies.specs.Defined.{NumberedCounter, IsCounter, AreInOrder, AreCounters, group_types, counters_in}
use Rattle.pq_tallies.proofs.Keys.{of_counter, its_own, of_none_behind}
use Rattle.pq_tallies.proofs.GroupPairs.{read}
use Rattle.pq_tallies.proofs.Written.{AreNumbered, counted_kinds, no_pair, no_pairs_behind, get_counter}

-- ---- counters in order

both_numbers : (tables : List Table) (m : ℕ) (cs : List NumberedCounter) → AllByRecursion (λ (d : NumberedCounter). m < d.number) cs → AllByRecursion (IsCounter tables) cs → AllByRecursion (λ (d : NumberedCounter). (m < d.number) × (d.number < 65536)) cs
both_numbers tables m [] less each = tt
both_numbers tables m (c ∷ cs) less each = ((less.0, each.0.number), both_numbers tables m cs less.1 each.1)

numbered : (tables : List Table) (cs : List NumberedCounter) → AllByRecursion (IsCounter tables) cs → AreInOrder cs → AreNumbered cs
numbered tables [] each order = tt
numbered tables (c ∷ cs) each order = (both_numbers tables c.number cs order.0 each.1, numbered tables cs each.1 order.1)

pub are_numbered : (tables : List Table) (cs : List NumberedCounter) → AreCounters tables cs → AreNumbered cs
are_numbered tables cs h = numbered tables cs (each_by (IsCounter tables) cs h.each) h.order

-- ---- a get of a group's key

-- a key of a counter is looked up among its own pairs
find_own : (rows : Rows) (cs : List NumberedCounter) (c : NumberedCounter) (v : List Value) → AreNumbered cs → In c cs → find key_cmp (counter_key c.number v) (counter_pairs cs rows) ≡ find key_cmp (counter_key c.number v) (group_pairs rows c)
find_own rows [] c v order i = absurd i
find_own rows (d ∷ ds) c v order (inl same) =
    let q = counter_key c.number v in
    let behind : AllByRecursion (λ (e : NumberedCounter). (c.number < e.number) × (e.number < 65536)) ds = subst (λ (x : NumberedCounter). AllByRecursion (λ (e : NumberedCounter). (x.number < e.number) × (e.number < 65536)) ds) same order.0 in
    ap (λ (x : NumberedCounter). find key_cmp q (group_pairs rows x ++ counter_pairs ds rows)) same
    ∙ find_front key_cmp q (group_pairs rows c) (counter_pairs ds rows) (no_pairs_behind q c.number (its_own c.number v) rows ds behind)
find_own rows (d ∷ ds) c v order (inr i) =
    let q = counter_key c.number v in
    let less = each_in (λ (e : NumberedCounter). (d.number < e.number) × (e.number < 65536)) ds order.0 c i in
    find_rest key_cmp q (group_pairs rows d) (counter_pairs ds rows) (no_pair (of_counter d.number) q (apart less.0 less.1 (of_counter d.number q) refl) rows d (its_own d.number))
    ∙ find_own rows ds c v order.1 i
  where
    apart : d.number < c.number → c.number < 65536 → (b : Bool) → of_counter d.number (counter_key c.number v) ≡ b → of_counter d.number (counter_key c.number v) ≡ false
    apart less small true is = absurd (false≢true (sym (of_none_behind d.number c.number (counter_key c.number v) less small is) ∙ its_own c.number v))
    apart less small false is = is

pub get_group : (tables : List Table) (cs : List NumberedCounter) (rows : Rows) (others : List Pair) (c : NumberedCounter) (v : List Value) → Keeps tables rows → AreCounters tables cs → AreBesideCounters others → In c cs → AllOfKinds (group_types tables c) v
    → get (all_pairs tables cs rows others) (counter_key c.number v) ≡ stored_count (tally rows c v)
get_group tables cs rows others c v keeps counters beside i kinds =
    get_counter tables rows others rows cs (counter_key c.number v) beside refl
    ∙ find_own rows cs c v (are_numbered tables cs counters) i
    ∙ read c.number c.cols (group_types tables c) (tally rows c) v (counted_rows c rows) kinds (counted_kinds tables c rows keeps.fit)

-- ---- what stands beside the rows

-- all of them are of the counters' space
pub of_counters : (rows : Rows) (cs : List NumberedCounter) → AreOfCounters (counter_pairs cs rows)
of_counters rows cs = each_flat_map (λ (pair : Pair). is_of_counters pair.0 ≡ true) (group_pairs rows) cs (λ c i. own c (counted_rows c rows))
  where
    own : (c : NumberedCounter) (rs : List (List Value)) → AllByRecursion (λ (pair : Pair). is_of_counters pair.0 ≡ true) (map (λ row. counter_pair rows c (cells c.cols row)) rs)
    own c [] = tt
    own c (r ∷ rs) = (refl, own c rs)

counters_beside : (rows : Rows) (cs : List NumberedCounter) → AreBeside (counter_pairs cs rows)
counters_beside rows cs = each_flat_map (λ (pair : Pair). is_of_rows pair.0 ≡ false) (group_pairs rows) cs (λ c i. own c (counted_rows c rows))
  where
    own : (c : NumberedCounter) (rs : List (List Value)) → AllByRecursion (λ (pair : Pair). is_of_rows pair.0 ≡ false) (map (λ row. counter_pair rows c (cells c.cols row)) rs)
    own c [] = tt
    own c (r ∷ rs) = (refl, own c rs)

others_beside : (others : List Pair) → AreBesideCounters others → AreBeside others
others_beside others h = each_weaker (λ (pair : Pair). (is_of_rows pair.0 || is_of_counters pair.0) ≡ false) (λ (pair : Pair). is_of_rows pair.0 ≡ false) (λ pair both. (or_parts (is_of_rows pair.0) (is_of_counters pair.0) both).0) others h

pub all_beside : (others : List Pair) (rows : Rows) (cs : List NumberedCounter) → AreBesideCounters others → AreBeside (counter_pairs cs rows ++ others)
all_beside others rows cs h = each_append (λ (pair : Pair). is_of_rows pair.0 ≡ false) (counter_pairs cs rows) others (counters_beside rows cs) (others_beside others h)

-- the rows' pairs, with the counters' among the others
pub holds_rows : (told : Option Content) (schema : Schema) (rows : Rows) (others : List Pair) → HoldsCounted told schema rows others → HoldsRows told schema.tables rows (counter_pairs (counters_in schema) rows ++ others)
holds_rows told schema rows others h = record { keeps = h.keeps; beside = all_beside others rows (counters_in schema) h.beside; is = h.is }

-- ---- codes of numbers

pub code_apart : (m n : ℕ) → m < 2 ^ 64 → n < 2 ^ 64 → count_code m ≡ count_code n → m ≡ n
code_apart m n small less same = sym (from_be_bytes-to_be_bytes_8 m small) ∙ ap (from_be_bytes w64) same ∙ from_be_bytes-to_be_bytes_8 n less

pub joins : (m n : ℕ) → m ≡ n → n ≤ most_count → next_count m ≡ None → n ≡ most_count
joins m n same few none =
    elim (nat_lt m most_count) as (λ b. nat_lt m most_count ≡ b → cond b (Some (m + 1)) None ≡ None → n ≡ most_count) [
      | true ↦ λ _ is. absurd (cc)
      | false ↦ λ is _. let most = ltb-false m most_count is in omega arith
    ] refl none

pub joins_more : (m n next : ℕ) → m ≡ n → next_count m ≡ Some next → (n < most_count) × (next ≡ n + 1)
joins_more m n next same is =
    elim (nat_lt m most_count) as (λ b. nat_lt m most_count ≡ b → cond b (Some (m + 1)) None ≡ Some next → (n < most_count) × (next ≡ n + 1)) [
      | true ↦ λ less is. let lt = ltb-true m most_count less in let one : m + 1 ≡ next = cc in (omega arith, omega arith)
      | false ↦ λ _ is. absurd (cc)
    ] refl is
