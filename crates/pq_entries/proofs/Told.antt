-- What the pairs of a range tell of a content, and what is read of them.
use Rattle.std.proofs.Common.{◌≡◌, ℕ, zero, suc, ◌≤◌, true, cond, ◌==◌, inl, inr, List, [], ◌∷◌, ◌++◌, length, get_or, map, take, drop, replicate, Option, Some, None, IsTrue, refl, sym, ap, ◌∙◌, subst, arith}
use Rattle.std.specs.Prelude.{All, IfSome, IsSome, IfOk, IfErr, Result, Ok, Err}
use Rattle.std.specs.List.{AllByRecursion}
use Rattle.std.specs.FinMap.{find, get, entries, get-entries}
use Rattle.std.specs.Ordering.{is_eq, ordering_reverse}
use Rattle.std.specs.declared.cmp.Ordering.{Ordering}
use Rattle.std.specs.declared.cmp.Ordering.TheVariants.{Less}
use Rattle.std.proofs.lemmas.Bool.{eqb-true, false≢true, and_parts}
use Rattle.std.proofs.lemmas.List.{length-map, length-replicate, take-map}
use Rattle.std.proofs.lemmas.Option.{none-some}
use Rattle.pq_base.specs.Members.{In}
use Rattle.pq_base.specs.Shapes.{RowShape}
use Rattle.pq_base.specs.Values.{IsType, AllFit}
use Rattle.pq_base.specs.declared.value.ColType.{ColType}
use Rattle.pq_base.specs.declared.value.Dir.{Dir}
use Rattle.pq_base.specs.declared.value.Dir.TheVariants.{Asc}
use Rattle.pq_base.specs.declared.value.Value.{Value}
use Rattle.pq_base.proofs.Members.{all_member, at_in, in_filter, in_take, map_in}
use Rattle.pq_key_code.specs.KeyCode.{IsBytes, row_key, code_of}
use Rattle.pq_key_code.specs.KeyReading.{key_at}
use Rattle.pq_key_code.proofs.Reading.{key_takes, key_again}
use Rattle.pq_base.proofs.TypeFits.{length_from_fits}
use Rattle.pq_row_code.specs.StoredRow.{code_as}
use Rattle.pq_row_code.proofs.Stored.{code_as_injective}
use Rattle.pq_schema.specs.declared.table.Access.{Access}
use Rattle.pq_schema.specs.declared.table.Access.TheVariants.{Primary, Secondary}
use Rattle.pq_schema.specs.declared.table.KeyPart.{KeyPart}
use Rattle.pq_schema.specs.declared.table.Table.{Table}
use Rattle.pq_schema.specs.Keys.{key_types, dirs_of}
use Rattle.pq_schema.specs.Rows.{IsTableNumber, types_of, shape_of}
use Rattle.pq_schema.specs.Sequences.{IsAccess, columns_of, primary_sequence, sequence_of}
use Rattle.pq_schema.specs.Tables.{table_at, type_at, types_at}
use Rattle.pq_store.specs.Content.{Content, entry, is_within, is_rising, key_cmp, pairs_within, IsPartOf}
use Rattle.pq_store.specs.declared.damage.Broke.{Broke}
use Rattle.pq_store.specs.declared.damage.Broke.TheVariants.{Failed, NoMem, Damaged}
use Rattle.pq_store.specs.declared.damage.Damage.{Damage}
use Rattle.pq_store.specs.declared.store.Pair.{Pair as Found}
use Rattle.pq_store.proofs.Places.{is_below_all, first_below, rest_rises, itself, turned}
use Rattle.pq_store.proofs.Uses.{rises}
use Rattle.pq_calls.specs.Keys.{sequence_key, sequence_types}
use Rattle.pq_calls.specs.World.{World, Explains, where_told}
use Rattle.pq_content.specs.Pairs.{Pair, row_pair}
use Rattle.pq_content.specs.Tables.{value_of, values_of, key_of}
use Rattle.pq_content.proofs.Keys.{sequences_apart}
use Rattle.pq_content.proofs.Ranges.{in_range, range-cons}
use Rattle.pq_content.proofs.Scans.{columns_of-primary}
use Rattle.pq_content.proofs.TableRows.{dirs_of-primary, values_of-primary}
use Rattle.pq_schema.proofs.TypeKinds.{kinds_from_fit}
use Rattle.pq_content.proofs.Values.{sequence_fits}
use Rattle.pq_nodes.specs.Operators.{ShowsRead, no_row, no_key}
use Rattle.pq_entries.specs.Entries.{Begins, AreEnds, key_front, AreOfRange, OfEachRange, IsUnread, IsNoRowPair, IsNoKeyPair, OneShows, AreRowsWithin, AreKeysWithin, AreFirstRows, AreFirstValues, IsKeyThere, pair_of}

-- ---- pairs of a range

-- a key that is smaller than all is smaller than that of each
below_member : (key : List ℕ) (pairs : List Pair) (pair : Pair) → IsTrue (is_below_all key pairs) → In pair pairs → key_cmp key pair.0 ≡ Less
below_member key [] pair below here = absurd here
below_member key (e ∷ pairs) pair below (inl same) =
    let first : key_cmp key e.0 ≡ Less = grind (arith, below) in
    ap (λ (p : Pair). key_cmp key p.0) (sym same) ∙ first
below_member key (e ∷ pairs) pair below (inr later) = below_member key pairs pair (grind (arith, below)) later

-- a pair of a rising list is found by its key
found_member : (pairs : List Pair) (pair : Pair) → IsTrue (is_rising pairs) → In pair pairs → find key_cmp pair.0 pairs ≡ Some pair.1
found_member [] pair rising here = absurd here
found_member (e ∷ pairs) pair rising (inl same) =
    ap (λ (o : Ordering). cond (is_eq o) (Some e.1) (find key_cmp pair.0 pairs)) (ap (λ (p : Pair). key_cmp p.0 e.0) (sym same) ∙ itself e.0)
    ∙ ap (λ (p : Pair). Some p.1) same
found_member (e ∷ pairs) pair rising (inr later) =
    let less = below_member e.0 pairs pair (first_below e pairs rising) later in
    let above = turned pair.0 e.0 ∙ ap ordering_reverse less in
    ap (λ (o : Ordering). cond (is_eq o) (Some e.1) (find key_cmp pair.0 pairs)) above
    ∙ found_member pairs pair (rest_rises e pairs rising) later

-- a pair of a range is the content's
pub within_there : (content : Content) (low high : List ℕ) (limit : ℕ) (pair : Pair) → In pair (take limit (pairs_within content low high)) → get content pair.0 ≡ Some pair.1
within_there content low high limit pair here =
    get-entries content pair.0
    ∙ found_member (entries content) pair (rises content) (in_filter (is_within low high) pair (entries content) (in_take limit pair (pairs_within content low high) here)).0

-- a key between two that begin with the same bytes begins with them
begins_between : (front low high key : List ℕ) → in_range (front ++ low) (front ++ high) key ≡ true → Begins front key
begins_between [] low high key h = (key, refl)
begins_between (x ∷ front) low high [] h = absurd (false≢true h)
begins_between (x ∷ front) low high (y ∷ key) h =
    let parts = and_parts (y == x) (in_range (front ++ low) (front ++ high) key) (sym (range-cons x y (front ++ low) (front ++ high) key) ∙ h) in
    let rest = begins_between front low high key parts.1 in
    let first = eqb-true y x parts.0 in
    (rest.0, λ i. first i ∷ rest.1 i)

within_begins : (t : ℕ) (access : Access) (low high : List ℕ) (pair : Pair) → AreEnds t access low high → is_within low high pair ≡ true → Begins (key_front t access) pair.0
within_begins t access low high pair ends within =
    begins_between (key_front t access) ends.from.0 ends.upto.0 pair.0
    (subst (λ (l : List ℕ). in_range l (key_front t access ++ ends.upto.0) pair.0 ≡ true) ends.from.1
    (subst (λ (h : List ℕ). in_range low h pair.0 ≡ true) ends.upto.1 within))

pub part_begins : (t : ℕ) (access : Access) (low high : List ℕ) (limit : ℕ) (pairs : List Found) (pair : Pair) → AreEnds t access low high → IsPartOf low high limit (map entry pairs) → In pair (map entry pairs) → Begins (key_front t access) pair.0
part_begins t access low high limit pairs pair ends part here = within_begins t access low high pair ends (all_member (λ (p : Pair). is_within low high p ≡ true) (map entry pairs) part.within pair here)

-- so its keys are long enough
pub part_long : (t : ℕ) (access : Access) (low high : List ℕ) (limit : ℕ) (pairs : List Found) → AreEnds t access low high → IsPartOf low high limit (map entry pairs) → All (λ (pair : Found). length (key_front 0 access) ≤ length pair.key) pairs
part_long t access low high limit pairs ends part = λ i d less.
    long access (get_or pairs i d).key (part_begins t access low high limit pairs (entry (get_or pairs i d)) ends part (map_in entry (get_or pairs i d) pairs (at_in pairs i d less)))
  where
    long : (access : Access) (key : List ℕ) → Begins (key_front t access) key → length (key_front 0 access) ≤ length key
    long Primary key b = let same = ap (λ (l : List ℕ). length l) b.1 in omega (arith, same)
    long (Secondary index) key b = let same = ap (λ (l : List ℕ). length l) b.1 in omega (arith, same)

-- ---- what a pair that is the code of nothing shows

module _ (tables : List Table) (t : ℕ) (number : IsTableNumber tables t) (content : Content) (pair : Pair) (damage : Damage) (there : get content pair.0 ≡ Some pair.1) where
  abbrev table : Table
  table = table_at tables t

  key_shape : length (key_types table) ≡ length (replicate (length table.key) Asc)
  key_shape = length-map table.key (type_at table.columns) ∙ sym (length-replicate (length table.key) Asc)

  pub no_row_shows : Begins (key_front t Primary) pair.0 → IsNoRowPair (shape_of table) pair damage → ShowsRead tables content damage
  no_row_shows b shown =
      let ts = key_types table in
      let ds = replicate (length table.key) Asc in
      let rest = b.0 in
      let bytes : IsBytes (2 ∷ t ∷ rest) = subst IsBytes b.1 shown.tells.bytes in
      let at = shown.tells.at ∙ b.1 in
      elim (key_at ts ds rest) as (λ o. key_at ts ds rest ≡ o → ShowsRead tables content damage) [
        | None ↦ λ none. no_key record {
          table = t;
          access = Primary;
          rest = rest;
          value = pair.1;
          number = number;
          is_access = tt;
          at = at;
          has = shown.tells.has;
          there = ap (get content) shown.tells.at ∙ there;
          no_values = λ values fits is. none_left values (subst (λ (cols : List ℕ). AllFit (types_at table.columns cols) values) (columns_of-primary table.key) fits) (is ∙ at) none;
        }
        | Some values ↦ λ is.
            let taken = key_takes ts ds rest values key_shape bytes.1.1 is in
            let key : 2 ∷ t ∷ rest ≡ row_key t values = ap (λ (c : List ℕ). 2 ∷ t ∷ c) (sym taken.1 ∙ as_long values taken.0) in
            no_row record {
              table = t;
              key = values;
              number = number;
              kinds = kinds_from_fit ts values taken.0;
              shown = record {
                code = pair.1;
                at = at ∙ key;
                has = shown.tells.has;
                no_row = shown.no_row;
                there = ap (get content) (sym (b.1 ∙ key)) ∙ there;
              };
            }
      ] refl
    where
      as_long : (values : List Value) → AllFit (key_types table) values → code_of (replicate (length table.key) Asc) values ≡ code_of (replicate (length values) Asc) values
      as_long values fits = ap (λ (n : ℕ). code_of (replicate n Asc) values) (sym (length_from_fits (key_types table) values fits ∙ length-map table.key (type_at table.columns)))

      none_left : (values : List Value) → AllFit (key_types table) values → row_key t values ≡ 2 ∷ t ∷ b.0 → key_at (key_types table) (replicate (length table.key) Asc) b.0 ≡ None → ⊥
      none_left values fits is none =
          let code : code_of (replicate (length values) Asc) values ≡ b.0 = ap (drop 2) is in
          none-some values (sym none ∙ ap (key_at (key_types table) (replicate (length table.key) Asc)) (sym code ∙ sym (as_long values fits)) ∙ key_again (key_types table) (replicate (length table.key) Asc) values key_shape fits)

  pub no_key_shows : (access : Access) → IsAccess table access → Begins (key_front t access) pair.0 → IsNoKeyPair (sequence_types table access) (dirs_of (sequence_of table access)) (length (key_front 0 access)) pair damage → ShowsRead tables content damage
  no_key_shows access is_access b shown = no_key record {
    table = t;
    access = access;
    rest = b.0;
    value = pair.1;
    number = number;
    is_access = is_access;
    at = shown.tells.at ∙ b.1 ∙ front_is access;
    has = shown.tells.has;
    there = ap (get content) shown.tells.at ∙ there;
    no_values = λ values fits is. shown.no_values values fits (behind access values fits (is ∙ shown.tells.at));
  }
    where
      no_code : (ds : List Dir) → code_of ds [] ≡ []
      no_code [] = refl
      no_code (d ∷ ds) = refl

      front_is : (access : Access) → key_front t access ++ b.0 ≡ sequence_key t table access [] ++ b.0
      front_is Primary = refl
      front_is (Secondary index) = ap (λ (c : List ℕ). 3 ∷ t ∷ index ∷ c ++ b.0) (sym (no_code (dirs_of (sequence_of table (Secondary index)))))

      behind : (access : Access) (values : List Value) → AllFit (sequence_types table access) values → sequence_key t table access values ≡ pair.0 → code_of (dirs_of (sequence_of table access)) values ≡ drop (length (key_front 0 access)) pair.0
      behind Primary values fits is =
          let cols = columns_of-primary table.key in
          let fit = subst (λ (cols : List ℕ). AllFit (types_at table.columns cols) values) cols fits in
          let long : length table.key ≡ length values = sym (length_from_fits (key_types table) values fit ∙ length-map table.key (type_at table.columns)) in
          ap (λ (ds : List Dir). code_of ds values) (dirs_of-primary table.key ∙ ap (λ (n : ℕ). replicate n Asc) long) ∙ ap (drop 2) is
      behind (Secondary index) values fits is = ap (drop 3) is

-- an error of decoding pairs of a range says what the content shows
unread_shows : (shows : Pair → Damage → Type 0) (tables : List Table) (told : Option Content) (low high : List ℕ) (limit : ℕ) (pairs : List Found) → ((pair : Pair) (content : Content) (damage : Damage) → In pair (map entry pairs) → get content pair.0 ≡ Some pair.1 → shows pair damage → ShowsRead tables content damage) → IfSome told (λ content. map entry pairs ≡ take limit (pairs_within content low high)) → (error : Broke) → IsUnread (OneShows shows (map entry pairs)) error → IsUnread (where_told (ShowsRead tables) told) error
unread_shows shows tables told low high limit pairs each is Failed h = absurd h
unread_shows shows tables told low high limit pairs each is NoMem h = tt
unread_shows shows tables told low high limit pairs each is (Damaged damage) (pair, here, shown) = by_told told is
  where
    by_told : (told : Option Content) → IfSome told (λ content. map entry pairs ≡ take limit (pairs_within content low high)) → where_told (ShowsRead tables) told damage
    by_told None is = tt
    by_told (Some content) is = each pair content damage here (within_there content low high limit pair (subst (In pair) is here)) shown

-- it explains why a read of them gave up
pub unread_explains : (shows : Option Content → Damage → Type 0) (a b : World) (error : Broke) → IsUnread (shows a.told) error → Explains shows a b error
unread_explains shows a b Failed h = absurd h
unread_explains shows a b NoMem h = tt
unread_explains shows a b (Damaged damage) h = h

-- ---- what holds of each range that pairs are of

pub ok_each : {A E : Type 0} (t : ℕ) (access : Access) (pairs : List Found) (result : Result A E) (P : Option Content → List ℕ → List ℕ → ℕ → A → Type 0) → ((told : Option Content) (low high : List ℕ) (limit : ℕ) → AreOfRange t access told low high limit pairs → IfOk result (P told low high limit))
    → IfOk result (λ x. OfEachRange t access pairs (λ told low high limit. P told low high limit x))
ok_each t access pairs (Ok x) P h = h
ok_each t access pairs (Err error) P h = tt

pub err_each : {A E : Type 0} (t : ℕ) (access : Access) (pairs : List Found) (result : Result A E) (P : Option Content → List ℕ → List ℕ → ℕ → E → Type 0) → ((told : Option Content) (low high : List ℕ) (limit : ℕ) → AreOfRange t access told low high limit pairs → IfErr result (P told low high limit))
    → IfErr result (λ e. OfEachRange t access pairs (λ told low high limit. P told low high limit e))
err_each t access pairs (Ok x) P h = tt
err_each t access pairs (Err error) P h = h

-- ---- what is read of pairs that are those of rows

-- a map that tells apart what it is asked of
images_same : {X Y : Type 0} (f : X → Y) (P : X → Type 0) → ((x y : X) → P x → P y → f x ≡ f y → x ≡ y) → (xs ys : List X) → AllByRecursion P xs → AllByRecursion P ys → map f xs ≡ map f ys → xs ≡ ys
images_same f P apart [] [] p q e = refl
images_same f P apart [] (y ∷ ys) p q e = cc
images_same f P apart (x ∷ xs) [] p q e = cc
images_same f P apart (x ∷ xs) (y ∷ ys) p q e =
    let first : f x ≡ f y = cc in
    let rest : map f xs ≡ map f ys = cc in
    let head = apart x y p.0 q.0 first in
    let tail = images_same f P apart xs ys p.1 q.1 rest in
    λ i. head i ∷ tail i

map_both : {X Y Z : Type 0} (f : X → Y) (g : Y → Z) (xs : List X) → map g (map f xs) ≡ map (λ x. g (f x)) xs
map_both f g [] = refl
map_both f g (x ∷ xs) = ap (λ l. g (f x) ∷ l) (map_both f g xs)

map_alike : {X Y : Type 0} (f g : X → Y) → ((x : X) → f x ≡ g x) → (xs : List X) → map f xs ≡ map g xs
map_alike f g same [] = refl
map_alike f g same (x ∷ xs) = λ i. same x i ∷ map_alike f g same xs i

each_taken : {X : Type 0} (P : X → Type 0) (n : ℕ) (xs : List X) → AllByRecursion P xs → AllByRecursion P (take n xs)
each_taken P zero xs all = tt
each_taken P (suc n) [] all = tt
each_taken P (suc n) (x ∷ xs) all = (all.0, each_taken P n xs all.1)

-- what is made of the pairs is made of the first rows
of_rows : {Y : Type 0} (make : Pair → Y) (pair : List Value → Pair) (content : Content) (low high : List ℕ) (limit : ℕ) (pairs : List Found) (rows : List (List Value)) → map entry pairs ≡ take limit (pairs_within content low high) → pairs_within content low high ≡ map pair rows → map (λ p. make (entry p)) pairs ≡ map (λ row. make (pair row)) (take limit rows)
of_rows make pair content low high limit pairs rows told is =
    sym (map_both entry make pairs)
    ∙ ap (map make) (told ∙ ap (take limit) is ∙ take-map pair limit rows)
    ∙ map_both pair make (take limit rows)

pub rows_read : (t : ℕ) (own : Table) (told : Option Content) (low high : List ℕ) (limit : ℕ) (pairs : List Found) (found : List (List Value)) → All IsType (types_of own) → AllByRecursion (AllFit (types_of own)) found → map (code_as (shape_of own)) found ≡ map (λ (pair : Found). pair.value) pairs → IfSome told (λ content. map entry pairs ≡ take limit (pairs_within content low high)) → IfSome told (AreFirstRows t own low high limit found)
rows_read t own None low high limit pairs found types fit codes is = tt
rows_read t own (Some content) low high limit pairs found types fit codes is = λ rows fits range.
    images_same (code_as (shape_of own)) (AllFit (types_of own)) (λ x y p q e. code_as_injective (shape_of own) x y types p q e) found (take limit rows) fit (each_taken (AllFit (types_of own)) limit rows fits)
    (codes ∙ of_rows (λ (p : Pair). p.1) (row_pair t own) content low high limit pairs rows is range)

pub keys_read : (t : ℕ) (own : Table) (access : Access) (told : Option Content) (low high : List ℕ) (limit : ℕ) (pairs : List Found) (found : List (List Value)) → AllByRecursion (AllFit (sequence_types own access)) found → map (code_of (dirs_of (sequence_of own access))) found ≡ map (λ (pair : Found). drop (length (key_front 0 access)) pair.key) pairs → IfSome told (λ content. map entry pairs ≡ take limit (pairs_within content low high)) → IfSome told (AreFirstValues t own access low high limit found)
keys_read t own access None low high limit pairs found fit codes is = tt
keys_read t own access (Some content) low high limit pairs found fit codes is = λ rows fits range.
    let sequence = sequence_of own access in
    let types = sequence_types own access in
    let n = length (key_front 0 access) in
    images_same (code_of (dirs_of sequence)) (AllFit types) apart found (map (values_of sequence) (take limit rows)) fit (values_fit (take limit rows) (each_taken (AllFit (types_of own)) limit rows fits))
    (codes
    ∙ of_rows (λ (p : Pair). drop n p.0) (pair_of t own access) content low high limit pairs rows is range
    ∙ map_alike (λ row. drop n (pair_of t own access row).0) (λ row. code_of (dirs_of sequence) (values_of sequence row)) (own_code access) (take limit rows)
    ∙ sym (map_both (values_of sequence) (code_of (dirs_of sequence)) (take limit rows)))
  where
    apart : (x y : List Value) → AllFit (sequence_types own access) x → AllFit (sequence_types own access) y → code_of (dirs_of (sequence_of own access)) x ≡ code_of (dirs_of (sequence_of own access)) y → x ≡ y
    apart x y p q e =
        let types = sequence_types own access in
        let long = length_from_fits types x p in
        let width = length-map (columns_of (sequence_of own access)) (type_at own.columns) in
        let columns = length-map (sequence_of own access) (λ (part : KeyPart). part.col) in
        let dirs = length-map (sequence_of own access) (λ (part : KeyPart). part.dir) in
        sequences_apart types (dirs_of (sequence_of own access)) x y (kinds_from_fit types x p) (kinds_from_fit types y q) (omega (arith, long, width, columns, dirs)) e

    values_fit : (rows : List (List Value)) → AllByRecursion (AllFit (types_of own)) rows → AllByRecursion (AllFit (sequence_types own access)) (map (values_of (sequence_of own access)) rows)
    values_fit [] all = tt
    values_fit (row ∷ rows) all = (sequence_fits own (sequence_of own access) row all.0, values_fit rows all.1)

    own_code : (access : Access) (row : List Value) → drop (length (key_front 0 access)) (pair_of t own access row).0 ≡ code_of (dirs_of (sequence_of own access)) (values_of (sequence_of own access) row)
    own_code Primary row =
        ap (λ (n : ℕ). code_of (replicate n Asc) (key_of own row)) (length-map own.key (value_of row))
        ∙ (λ i. code_of (sym (dirs_of-primary own.key) i) (sym (values_of-primary own.key row) i))
    own_code (Secondary index) row = refl

-- the key of the values that are read is the pair's
own_key : (t : ℕ) (own : Table) (access : Access) (values : List Value) → AllFit (sequence_types own access) values → (key : List ℕ) (b : Begins (key_front t access) key) → code_of (dirs_of (sequence_of own access)) values ≡ drop (length (key_front 0 access)) key → sequence_key t own access values ≡ key
own_key t own Primary values fits key b code =
    let fit = subst (λ (cols : List ℕ). AllFit (types_at own.columns cols) values) (columns_of-primary own.key) fits in
    let long : length values ≡ length own.key = length_from_fits (key_types own) values fit ∙ length-map own.key (type_at own.columns) in
    let turned : code_of (replicate (length values) Asc) values ≡ code_of (dirs_of (primary_sequence own)) values = ap (λ (n : ℕ). code_of (replicate n Asc) values) long ∙ ap (λ (ds : List Dir). code_of ds values) (sym (dirs_of-primary own.key)) in
    ap (λ (c : List ℕ). 2 ∷ t ∷ c) (turned ∙ code ∙ ap (drop 2) b.1) ∙ sym b.1
own_key t own (Secondary index) values fits key b code = ap (λ (c : List ℕ). 3 ∷ t ∷ index ∷ c) (code ∙ ap (drop 3) b.1) ∙ sym b.1

-- the keys that are read are the content's
pub keys_there : (t : ℕ) (table : Table) (access : Access) (content : Content) (pairs : List Found) (found : List (List Value)) → AllByRecursion (AllFit (sequence_types table access)) found → map (code_of (dirs_of (sequence_of table access))) found ≡ map (λ (pair : Found). drop (length (key_front 0 access)) pair.key) pairs → ((pair : Pair) → In pair (map entry pairs) → Begins (key_front t access) pair.0) → ((pair : Pair) → In pair (map entry pairs) → get content pair.0 ≡ Some pair.1) → AllByRecursion (IsKeyThere t table access (Some content)) found
keys_there t own access content [] [] fit codes begins there = tt
keys_there t own access content (pair ∷ pairs) [] fit codes begins there = tt
keys_there t own access content [] (values ∷ found) fit codes begins there = cc
keys_there t own access content (pair ∷ pairs) (values ∷ found) fit codes begins there =
    let dirs = dirs_of (sequence_of own access) in
    let n = length (key_front 0 access) in
    let first : code_of dirs values ≡ drop n pair.key = cc in
    let rest : map (code_of dirs) found ≡ map (λ (p : Found). drop n p.key) pairs = cc in
    let b = begins (entry pair) (inl refl) in (
      subst (λ (k : List ℕ). IsSome (get content k)) (sym (own_key t own access values fit.0 (pair.key) b first)) (subst IsSome (sym (there (entry pair) (inl refl))) refl),
      keys_there t own access content pairs found fit.1 rest (λ p here. begins p (inr here)) (λ p here. there p (inr here)),
    )

-- ---- what is read of any content

rows_within : (own : Table) (told : Option Content) (low high : List ℕ) (limit : ℕ) (pairs : List Found) (found : List (List Value)) → map (code_as (shape_of own)) found ≡ map (λ (pair : Found). pair.value) pairs → IfSome told (λ content. map entry pairs ≡ take limit (pairs_within content low high)) → IfSome told (AreRowsWithin own low high limit found)
rows_within own None low high limit pairs found codes is = tt
rows_within own (Some content) low high limit pairs found codes is = codes ∙ sym (map_both entry (λ (p : Pair). p.1) pairs) ∙ ap (map (λ (p : Pair). p.1)) is

keys_again : (t : ℕ) (own : Table) (access : Access) (pairs : List Found) (found : List (List Value)) → AllByRecursion (AllFit (sequence_types own access)) found → map (code_of (dirs_of (sequence_of own access))) found ≡ map (λ (pair : Found). drop (length (key_front 0 access)) pair.key) pairs → ((pair : Pair) → In pair (map entry pairs) → Begins (key_front t access) pair.0) → map (sequence_key t own access) found ≡ map (λ (pair : Found). pair.key) pairs
keys_again t own access [] [] fit codes begins = refl
keys_again t own access (pair ∷ pairs) [] fit codes begins = cc
keys_again t own access [] (values ∷ found) fit codes begins = cc
keys_again t own access (pair ∷ pairs) (values ∷ found) fit codes begins =
    let dirs = dirs_of (sequence_of own access) in
    let n = length (key_front 0 access) in
    let first : code_of dirs values ≡ drop n pair.key = cc in
    let rest : map (code_of dirs) found ≡ map (λ (p : Found). drop n p.key) pairs = cc in
    let head = own_key t own access values fit.0 pair.key (begins (entry pair) (inl refl)) first in
    let tail = keys_again t own access pairs found fit.1 rest (λ p here. begins p (inr here)) in
    λ i. head i ∷ tail i

keys_within : (t : ℕ) (own : Table) (access : Access) (told : Option Content) (low high : List ℕ) (limit : ℕ) (pairs : List Found) (found : List (List Value)) → map (sequence_key t own access) found ≡ map (λ (pair : Found). pair.key) pairs → IfSome told (λ content. map entry pairs ≡ take limit (pairs_within content low high)) → IfSome told (AreKeysWithin t own access low high limit found)
keys_within t own access None low high limit pairs found keys is = tt
keys_within t own access (Some content) low high limit pairs found keys is = keys ∙ sym (map_both entry (λ (p : Pair). p.0) pairs) ∙ ap (map (λ (p : Pair). p.0)) is

-- ---- the answers of ranges

module _ (tables : List Table) (t : ℕ) (number : IsTableNumber tables t) (low high : List ℕ) (limit : ℕ) (pairs : List Found) (part : IsPartOf low high limit (map entry pairs)) (told : Option Content) (is : IfSome told (λ content. map entry pairs ≡ take limit (pairs_within content low high))) where
  pub rows_unread : (shape : RowShape) → shape ≡ shape_of (table_at tables t) → AreEnds t Primary low high → {A : Type 0} (result : Result A Broke) → IfErr result (IsUnread (OneShows (IsNoRowPair shape) (map entry pairs))) → IfErr result (IsUnread (where_told (ShowsRead tables) told))
  rows_unread shape same ends (Ok x) h = tt
  rows_unread shape same ends (Err error) h =
      unread_shows (IsNoRowPair shape) tables told low high limit pairs
      (λ pair content damage here there shown. no_row_shows tables t number content pair damage there (part_begins t Primary low high limit pairs pair ends part here) (subst (λ (s : RowShape). IsNoRowPair s pair damage) same shown))
      is error h

  pub rows_coded : (shape : RowShape) → shape ≡ shape_of (table_at tables t) → (result : Result (List (List Value)) Broke) → IfOk result (λ rows. map (code_as shape) rows ≡ map (λ (pair : Found). pair.value) pairs) → IfOk result (λ rows. IfSome told (AreRowsWithin (table_at tables t) low high limit rows))
  rows_coded shape same (Err error) codes = tt
  rows_coded shape same (Ok rows) codes = rows_within (table_at tables t) told low high limit pairs rows (subst (λ (s : RowShape). map (code_as s) rows ≡ map (λ (pair : Found). pair.value) pairs) same codes) is

  pub rows_answered : (shape : RowShape) → shape ≡ shape_of (table_at tables t) → All IsType shape.types → (result : Result (List (List Value)) Broke) → IfOk result (λ rows. map (code_as shape) rows ≡ map (λ (pair : Found). pair.value) pairs) → IfOk result (AllByRecursion (AllFit shape.types)) → IfOk result (λ rows. IfSome told (AreFirstRows t (table_at tables t) low high limit rows))
  rows_answered shape same known (Err error) codes fit = tt
  rows_answered shape same known (Ok rows) codes fit =
      rows_read t (table_at tables t) told low high limit pairs rows (subst (λ (s : RowShape). All IsType s.types) same known) (subst (λ (s : RowShape). AllByRecursion (AllFit s.types) rows) same fit)
      (subst (λ (s : RowShape). map (code_as s) rows ≡ map (λ (pair : Found). pair.value) pairs) same codes) is

  pub keys_unread : (access : Access) → IsAccess (table_at tables t) access → (types : List ColType) (dirs : List Dir) (skipped : ℕ) → types ≡ sequence_types (table_at tables t) access → dirs ≡ dirs_of (sequence_of (table_at tables t) access) → skipped ≡ length (key_front 0 access) → AreEnds t access low high → {A : Type 0} (result : Result A Broke) → IfErr result (IsUnread (OneShows (IsNoKeyPair types dirs skipped) (map entry pairs))) → IfErr result (IsUnread (where_told (ShowsRead tables) told))
  keys_unread access is_access types dirs skipped same turned behind ends (Ok x) h = tt
  keys_unread access is_access types dirs skipped same turned behind ends (Err error) h =
      unread_shows (IsNoKeyPair types dirs skipped) tables told low high limit pairs
      (λ pair content damage here there shown. no_key_shows tables t number content pair damage there access is_access (part_begins t access low high limit pairs pair ends part here)
      (subst (λ (n : ℕ). IsNoKeyPair (sequence_types (table_at tables t) access) (dirs_of (sequence_of (table_at tables t) access)) n pair damage) behind
      (subst (λ (ds : List Dir). IsNoKeyPair (sequence_types (table_at tables t) access) ds skipped pair damage) turned
      (subst (λ (ts : List ColType). IsNoKeyPair ts dirs skipped pair damage) same shown))))
      is error h

  pub keys_answered : (access : Access) (types : List ColType) (dirs : List Dir) (skipped : ℕ) → types ≡ sequence_types (table_at tables t) access → dirs ≡ dirs_of (sequence_of (table_at tables t) access) → skipped ≡ length (key_front 0 access) → (result : Result (List (List Value)) Broke) → IfOk result (λ found. map (code_of dirs) found ≡ map (λ (pair : Found). drop skipped pair.key) pairs) → IfOk result (AllByRecursion (AllFit types)) → IfOk result (λ found. IfSome told (AreFirstValues t (table_at tables t) access low high limit found))
  keys_answered access types dirs skipped same turned behind (Err error) codes fit = tt
  keys_answered access types dirs skipped same turned behind (Ok found) codes fit =
      keys_read t (table_at tables t) access told low high limit pairs found (subst (λ (ts : List ColType). AllByRecursion (AllFit ts) found) same fit)
      (subst (λ (n : ℕ). map (code_of (dirs_of (sequence_of (table_at tables t) access))) found ≡ map (λ (pair : Found). drop n pair.key) pairs) behind
      (subst (λ (ds : List Dir). map (code_of ds) found ≡ map (λ (pair : Found). drop skipped pair.key) pairs) turned codes))
      is

  pub keys_keyed : (access : Access) → AreEnds t access low high → (types : List ColType) (dirs : List Dir) (skipped : ℕ) → types ≡ sequence_types (table_at tables t) access → dirs ≡ dirs_of (sequence_of (table_at tables t) access) → skipped ≡ length (key_front 0 access) → (result : Result (List (List Value)) Broke) → IfOk result (λ found. map (code_of dirs) found ≡ map (λ (pair : Found). drop skipped pair.key) pairs) → IfOk result (AllByRecursion (AllFit types)) → IfOk result (λ found. IfSome told (AreKeysWithin t (table_at tables t) access low high limit found))
  keys_keyed access ends types dirs skipped same turned behind (Err error) codes fit = tt
  keys_keyed access ends types dirs skipped same turned behind (Ok found) codes fit =
      keys_within t (table_at tables t) access told low high limit pairs found
      (keys_again t (table_at tables t) access pairs found (subst (λ (ts : List ColType). AllByRecursion (AllFit ts) found) same fit)
      (subst (λ (n : ℕ). map (code_of (dirs_of (sequence_of (table_at tables t) access))) found ≡ map (λ (pair : Found). drop n pair.key) pairs) behind
      (subst (λ (ds : List Dir). map (code_of ds) found ≡ map (λ (pair : Found). drop skipped pair.key) pairs) turned codes))
      (λ pair here. part_begins t access low high limit pairs pair ends part here))
      is

  pub keys_are_there : (access : Access) → AreEnds t access low high → (types : List ColType) (dirs : List Dir) (skipped : ℕ) → types ≡ sequence_types (table_at tables t) access → dirs ≡ dirs_of (sequence_of (table_at tables t) access) → skipped ≡ length (key_front 0 access) → (result : Result (List (List Value)) Broke) → IfOk result (λ found. map (code_of dirs) found ≡ map (λ (pair : Found). drop skipped pair.key) pairs) → IfOk result (AllByRecursion (AllFit types)) → IfOk result (AllByRecursion (IsKeyThere t (table_at tables t) access told))
  keys_are_there access ends types dirs skipped same turned behind (Err error) codes fit = tt
  keys_are_there access ends types dirs skipped same turned behind (Ok found) codes fit =
      elim told as (λ (o : Option Content). IfSome o (λ content. map entry pairs ≡ take limit (pairs_within content low high)) → AllByRecursion (IsKeyThere t (table_at tables t) access o) found) [
        | None ↦ λ _. untold found
        | Some content ↦ λ is.
            keys_there t (table_at tables t) access content pairs found (subst (λ (ts : List ColType). AllByRecursion (AllFit ts) found) same fit)
            (subst (λ (n : ℕ). map (code_of (dirs_of (sequence_of (table_at tables t) access))) found ≡ map (λ (pair : Found). drop n pair.key) pairs) behind
            (subst (λ (ds : List Dir). map (code_of ds) found ≡ map (λ (pair : Found). drop skipped pair.key) pairs) turned codes))
            (λ pair here. part_begins t access low high limit pairs pair ends part here)
            (λ pair here. within_there content low high limit pair (subst (In pair) is here))
      ] is
    where
      untold : (found : List (List Value)) → AllByRecursion (IsKeyThere t (table_at tables t) access None) found
      untold [] = tt
      untold (values ∷ found) = (tt, untold found)

-- as many are read as there are pairs
pub long_read : {Y : Type 0} (f : List Value → Y) (g : Found → Y) (pairs : List Found) (result : Result (List (List Value)) Broke) → IfOk result (λ found. map f found ≡ map g pairs) → IfOk result (λ found. length found ≡ length pairs)
long_read f g pairs (Err error) h = tt
long_read f g pairs (Ok found) h =
    let same = ap (λ (l : List _). length l) h in
    let a = length-map found f in
    let b = length-map pairs g in
    omega (arith, same, a, b)

-- at most as many as the range may have
pub few_of : (low high : List ℕ) (limit : ℕ) (pairs : List Found) → IsPartOf low high limit (map entry pairs) → (result : Result (List (List Value)) Broke) → IfOk result (λ found. length found ≡ length pairs) → IfOk result (λ found. length found ≤ limit)
few_of low high limit pairs part (Err error) h = tt
few_of low high limit pairs part (Ok found) h =
    let few = part.few in
    let c = length-map pairs entry in
    omega (arith, few, h, c)

pub fit_as : (types types' : List ColType) → types ≡ types' → (result : Result (List (List Value)) Broke) → IfOk result (AllByRecursion (AllFit types)) → IfOk result (AllByRecursion (AllFit types'))
fit_as types types' same result h = subst (λ (ts : List ColType). IfOk result (AllByRecursion (AllFit ts))) same h
