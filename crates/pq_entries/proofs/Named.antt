-- The rows that entries name, of the values that were answered for their keys.
use Rattle.std.proofs.Common.{◌≡◌, ℕ, ◌+◌, ◌<◌, ◌≤◌, inl, inr, List, [], ◌∷◌, ◌++◌, length, get_or, map, take, Option, Some, None, refl, sym, ap, ◌∙◌, subst}
use Rattle.std.specs.Prelude.{All, IfSome, IfOk, IsSome, Result, Ok, Err, zip}
use Rattle.std.specs.FinMap.{get}
use Rattle.std.specs.List.{AllZip, AllByRecursion}
use Rattle.std.proofs.lemmas.List.{map-append, take_all, take_more}
use Rattle.std.proofs.lemmas.List.Elements.{All-nil, All-cons}
use Rattle.std.proofs.lemmas.Option.{none-some}
use Rattle.pq_base.specs.Members.{In}
use Rattle.pq_base.specs.Shapes.{RowShape}
use Rattle.pq_base.specs.Values.{IsType, AllFit}
use Rattle.pq_base.specs.declared.value.Value.{Value}
use Rattle.pq_key_code.specs.KeyCode.{row_key}
use Rattle.pq_schema.specs.declared.table.Access.TheVariants.{Secondary}
use Rattle.pq_schema.specs.declared.table.Table.{Table}
use Rattle.pq_schema.specs.Sequences.{index_sequence, index_numbered}
use Rattle.pq_schema.specs.Tables.{table_at}
use Rattle.pq_store.specs.Breaks.{IsAnswered}
use Rattle.pq_store.specs.Content.{Content}
use Rattle.pq_store.specs.Rounds.{IsValueOf, IsValueAnswered}
use Rattle.pq_store.specs.declared.damage.Broke.{Broke}
use Rattle.pq_store.specs.declared.damage.Broke.TheVariants.{Failed, NoMem, Damaged}
use Rattle.pq_store.specs.declared.damage.Damage.{Damage}
use Rattle.pq_calls.specs.Evidence.{IsRead, IsUnreadRow}
use Rattle.pq_calls.specs.Keys.{sequence_types, named_key}
use Rattle.pq_calls.specs.World.{World, Explains, where_told}
use Rattle.pq_content.specs.Pairs.{Pair, HoldsRows}
use Rattle.pq_content.specs.Tables.{Rows, rows_of, types_of, shape_of, values_of, stored_code}
use Rattle.pq_nodes.specs.Operators.{ShowsRead}
use Rattle.pq_entries.specs.Entries.{IsSequence, AreNamedRows, IsEntryThere, IsUnread, IsNoNamedRow, OneNamesNoRow, named_at, named_value}
use Rattle.pq_entries.proofs.Fetched.{fetch_explains, missing_shows, fetched}
use Rattle.pq_entries.proofs.Zipped.{zipped_in, at_in_zip}

-- ---- one key and its value

abbrev by_some : {X : Type 0} → X → Option X → X
by_some d None = d
by_some d (Some x) = x

of_some : {X : Type 0} (x y : X) → Some x ≡ Some y → x ≡ y
of_some x y e = ap (by_some x) e

pub unread_named : (shape : RowShape) (key code : List ℕ) (broke : Broke) → IsUnreadRow shape key code broke → IsUnread (IsNoNamedRow shape (Some key) (Some code)) broke
unread_named shape key code Failed h = absurd h
unread_named shape key code NoMem h = tt
unread_named shape key code (Damaged damage) h = record { at = ap Some h.0; has = h.1; no_row = h.2 }

-- what one of them shows
pub one_names : (shape : RowShape) (asked codes : List (Option (List ℕ))) (i : ℕ) (at code : Option (List ℕ)) → i < length asked → length codes ≡ length asked → at ≡ get_or asked i at → code ≡ get_or codes i code → (broke : Broke) → IsUnread (IsNoNamedRow shape at code) broke → IsUnread (OneNamesNoRow shape asked codes) broke
one_names shape asked codes i at code less long at_is code_is Failed h = absurd h
one_names shape asked codes i at code less long at_is code_is NoMem h = tt
one_names shape asked codes i at code less long at_is code_is (Damaged damage) h = ((at, code), at_in_zip asked codes i at code less long at_is code_is, h)

-- one value more
pub code_more : {X Y : Type 0} (f : Y → X) (xs : List X) (ys zs : List Y) (i : ℕ) (x : X) (y : Y) → i < length xs → x ≡ get_or xs i x → x ≡ f y → zs ≡ ys ++ y ∷ [] → take i xs ≡ map f ys → take (i + 1) xs ≡ map f zs
code_more f xs ys zs i x y less is made pushed so_far =
    let both : take i xs ++ x ∷ [] ≡ map f ys ++ f y ∷ [] = λ j. so_far j ++ made j ∷ [] in
    take_more xs i x less ∙ ap (λ z. take i xs ++ z ∷ []) (sym is) ∙ both ∙ sym (map-append f ys (y ∷ [])) ∙ ap (map f) (sym pushed)

pub codes_all : {X Y : Type 0} (f : Y → X) (xs : List X) (ys : List Y) (i : ℕ) → length xs ≤ i → take i xs ≡ map f ys → xs ≡ map f ys
codes_all f xs ys i less so_far = sym (take_all i xs less) ∙ so_far

-- ---- all of them

-- the damage was answered
pub named_answered : (answers : List ℕ → Option (List ℕ) → Type 0) (shape : RowShape) (asked codes : List (Option (List ℕ))) → AllZip (IsValueAnswered answers) asked codes → (broke : Broke) → IsUnread (OneNamesNoRow shape asked codes) broke → IsAnswered answers broke
named_answered answers shape asked codes all Failed h = absurd h
named_answered answers shape asked codes all NoMem h = tt
named_answered answers shape asked codes all (Damaged damage) (one, here, shown) =
    subst (λ (o : Option (List ℕ)). IsValueAnswered answers (Some damage.key) o) (sym shown.has)
    (subst (λ (o : Option (List ℕ)). IsValueAnswered answers o one.1) (sym shown.at) (zipped_in (IsValueAnswered answers) asked codes one all here))

pub all_asked : (t : ℕ) (table : Table) (index : ℕ) (found : List (List Value)) → All IsSome (map (named_at t table index) found)
all_asked t table index [] = All-nil IsSome
all_asked t table index (values ∷ found) = All-cons IsSome (named_at t table index values) (map (named_at t table index) found) refl (all_asked t table index found)

module _ (tables : List Table) (t index : ℕ) (is : IsSequence tables t (Secondary index)) where
  abbrev table : Table
  table = table_at tables t

  abbrev key : List Value → List Value
  key values = named_key table (Secondary index) values

  abbrev coded : List Value → Option (List ℕ)
  coded row = Some (stored_code table row)

  -- ---- why it gives up

  module _ (a b : World) where
    one_explains : (values : List Value) (code : Option (List ℕ)) (damage : Damage) → AllFit (sequence_types table (Secondary index)) values → IsEntryThere t table index a.told values → IsValueOf a.told (named_at t table index values) code → IsNoNamedRow (shape_of table) (named_at t table index values) code damage → where_told (ShowsRead tables) a.told damage
    one_explains values None damage fits there value shown =
        subst (λ (o : Option (List ℕ)). where_told (ShowsRead tables) a.told (record { key = damage.key; value = o })) (sym shown.has)
        (missing_shows tables t index values (key values) damage.key is fits refl (of_some _ _ shown.at) a.told there (unread a.told value))
      where
        unread : (told : Option Content) → IsValueOf told (named_at t table index values) None → IfSome told (λ content. IsRead (shape_of table) (get content (row_key t (key values))) None)
        unread None value = tt
        unread (Some content) value = subst (λ (o : Option (List ℕ)). IsRead (shape_of table) o None) value tt
    one_explains values (Some code) damage fits there value shown =
        fetch_explains tables t index values is fits a b (Damaged damage) record {
          code = code;
          at = of_some _ _ shown.at;
          has = shown.has;
          no_row = shown.no_row;
          there = held a.told value;
        }
      where
        held : (told : Option Content) → IsValueOf told (named_at t table index values) (Some code) → IfSome told (λ content. get content (row_key t (key values)) ≡ Some code)
        held None value = tt
        held (Some content) value = sym value

    pub named_explains : (found : List (List Value)) (codes : List (Option (List ℕ))) → AllByRecursion (AllFit (sequence_types table (Secondary index))) found → AllByRecursion (IsEntryThere t table index a.told) found → AllZip (IsValueOf a.told) (map (named_at t table index) found) codes → (broke : Broke) → IsUnread (OneNamesNoRow (shape_of table) (map (named_at t table index) found) codes) broke → Explains (where_told (ShowsRead tables)) a b broke
    named_explains found codes fit there values Failed h = absurd h
    named_explains found codes fit there values NoMem h = tt
    named_explains found codes fit there values (Damaged damage) (one, here, shown) = go found codes fit there values here
      where
        go : (found : List (List Value)) (codes : List (Option (List ℕ))) → AllByRecursion (AllFit (sequence_types table (Secondary index))) found → AllByRecursion (IsEntryThere t table index a.told) found → AllZip (IsValueOf a.told) (map (named_at t table index) found) codes → In one (zip (map (named_at t table index) found) codes) → where_told (ShowsRead tables) a.told damage
        go [] codes fit there values here = absurd here
        go (v ∷ found) [] fit there values here = absurd here
        go (v ∷ found) (c ∷ codes) fit there values (inl same) =
            one_explains v c damage fit.0 there.0 values.0
            (subst (λ (p : Option (List ℕ) × Option (List ℕ)). IsNoNamedRow (shape_of table) p.0 p.1 damage) (sym same) shown)
        go (v ∷ found) (c ∷ codes) fit there values (inr later) = go found codes fit.1 there.1 values.1 later

  -- ---- what is found

  values_are : (content : Content) (found : List (List Value)) (codes : List (Option (List ℕ))) → AllZip (IsValueOf (Some content)) (map (named_at t table index) found) codes → map (named_value t table index content) found ≡ codes
  values_are content [] [] h = refl
  values_are content [] (c ∷ codes) h = absurd h
  values_are content (v ∷ found) [] h = absurd h
  values_are content (v ∷ found) (c ∷ codes) h = λ i. sym h.0 i ∷ values_are content found codes h.1 i

  pub named_codes : (told : Option Content) (found : List (List Value)) (codes : List (Option (List ℕ))) (rows : List (List Value)) → AllZip (IsValueOf told) (map (named_at t table index) found) codes → codes ≡ map coded rows → IfSome told (AreNamedRows t table index found rows)
  named_codes None found codes rows values is = tt
  named_codes (Some content) found codes rows values is = values_are content found codes values ∙ is

  -- over a content that holds rows they are the rows that were meant
  pub named_wanted : All IsType (types_of table) → (told : Option Content) (found named : List (List Value)) → AllByRecursion (AllFit (types_of table)) named → IfSome told (AreNamedRows t table index found named) → (rows : Rows) (others : List Pair) (wanted : List (List Value)) → HoldsRows told tables rows others → AllByRecursion (λ row. In row (rows_of t rows)) wanted
      → found ≡ map (values_of (index_sequence table (index_numbered table index))) wanted → named ≡ wanted
  named_wanted types None found named fit codes rows others wanted holds all same = absurd (none-some _ holds.is)
  named_wanted types (Some content) found named fit codes rows others wanted holds all same =
      go wanted named all fit (ap (map (named_value t table index content)) (sym same) ∙ codes)
    where
      own : List Value → List Value
      own = values_of (index_sequence table (index_numbered table index))

      go : (wanted named : List (List Value)) → AllByRecursion (λ row. In row (rows_of t rows)) wanted → AllByRecursion (AllFit (types_of table)) named → map (named_value t table index content) (map (values_of (index_sequence table (index_numbered table index))) wanted) ≡ map coded named → named ≡ wanted
      go [] [] all fit codes = refl
      go [] (n ∷ named) all fit codes = cc
      go (w ∷ wanted) [] all fit codes = cc
      go (w ∷ wanted) (n ∷ named) all fit codes =
          let values = values_of (index_sequence table (index_numbered table index)) w in
          let first : named_value t table index content values ≡ coded n = cc in
          let rest : map (named_value t table index content) (map (values_of (index_sequence table (index_numbered table index))) wanted) ≡ map coded named = cc in
          let read : IsRead (shape_of table) (get content (row_key t (key values))) (Some n) = subst (λ (o : Option (List ℕ)). IsRead (shape_of table) o (Some n)) (sym first) (fit.0, refl) in
          let head : n ≡ w = fetched tables t index values (key values) n types refl (Some content) read rows others w holds all.0 refl in
          let tail = go wanted named all.1 fit.1 rest in
          λ i. head i ∷ tail i

  pub all_wanted : All IsType (types_of table) → (told : Option Content) (found : List (List Value)) (result : Result (List (List Value)) Broke) → IfOk result (AllByRecursion (AllFit (types_of table))) → IfOk result (λ named. IfSome told (AreNamedRows t table index found named))
      → IfOk result (λ named. (rows : Rows) (others : List Pair) (wanted : List (List Value)) → HoldsRows told tables rows others → AllByRecursion (λ row. In row (rows_of t rows)) wanted → found ≡ map (values_of (index_sequence table (index_numbered table index))) wanted → named ≡ wanted)
  all_wanted types told found (Err why) fit codes = tt
  all_wanted types told found (Ok named) fit codes = λ rows others wanted holds all same. named_wanted types told found named fit codes rows others wanted holds all same
