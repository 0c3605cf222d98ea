-- What the values that were asked for at once make of the inputs.
use Rattle.std.proofs.Common.{◌≡◌, ◌⊎◌, inl, inr, ◌<◌, ◌≤◌, ◌-◌, ℕ, zero, suc, Bool, true, false, cond, List, [], ◌∷◌, ◌++◌, length, map, take, get_or, Option, None, Some, refl, sym, ap, subst, ◌∙◌, arith}
use Rattle.std.specs.Prelude.{IfSome, IfNone, option_to_list}
use Rattle.std.specs.FinMap.{get}
use Rattle.std.specs.List.{AllZip, AllByRecursion}
use Rattle.std.proofs.lemmas.List.{append-nil, length-append, length-map, length_push}
use Rattle.std.proofs.lemmas.Bool.{cases_lt}
use Rattle.pq_base.specs.Shapes.{RowShape}
use Rattle.pq_base.proofs.Members.{each_append}
use Rattle.pq_base.specs.Values.{has_null, AllFit}
use Rattle.pq_base.specs.declared.value.Value.{Value}
use Rattle.pq_key_code.specs.KeyCode.{row_key}
use Rattle.pq_schema.specs.declared.query.Query.{Query}
use Rattle.pq_schema.specs.declared.table.Table.{Table}
use Rattle.pq_schema.specs.Relations.{relation_at, table_of}
use Rattle.pq_schema.specs.Rows.{types_of, shape_of}
use Rattle.pq_schema.specs.Schema.{Schema}
use Rattle.pq_schema.specs.Valid.{IsValid}
use Rattle.pq_store.specs.Breaks.{IsAnswered}
use Rattle.pq_store.specs.Content.{Content}
use Rattle.pq_store.specs.Rounds.{IsValueOf, IsValueAnswered}
use Rattle.pq_store.specs.declared.damage.Broke.{Broke}
use Rattle.pq_store.specs.declared.damage.Broke.TheVariants.{Failed, NoMem, Damaged}
use Rattle.pq_calls.specs.Evidence.{IsRead, IsNoRowAt}
use Rattle.pq_calls.specs.World.{World, Explains, where_told}
use Rattle.pq_entries.proofs.Zipped.{zipped_at}
use Rattle.pq_nodes.specs.Combos.{FitsTables}
use Rattle.pq_nodes.specs.Inverse.{IsLookup}
use Rattle.pq_nodes.specs.Operators.{IsAsked, ShowsRead}
use Rattle.pq_operands.specs.Ties.{cells_tied}
use Rattle.pq_plan.specs.Answer.{question, row_of}
use Rattle.pq_plan.proofs.Fixed.{last, earlier_row}
use Rattle.pq_plan.specs.Meaning.{key_of}
use Rattle.pq_plan.specs.Running.{matching}
use Rattle.pq_fk_join.specs.Joined.{tied_at, IsUnreadFrom, AddsRead, IsTiedRow, IsPartner, AddsJoined, AddsLookedUp}
use Rattle.pq_fk_join.proofs.Partners.{partner_explains, partner_code, none_code, partner_is, partner_none}
use Rattle.pq_fk_join.proofs.Coded.{adds_one}

-- ---- lists

pub map_at : {A B : Type 0} (f : A → B) (xs : List A) (i : ℕ) (x : A) (y : B) → i < length xs → x ≡ get_or xs i x → y ≡ get_or (map f xs) i y → y ≡ f x
map_at f [] i x y less at at' = absurd (omega arith)
map_at f (w ∷ xs) zero x y less at at' = at' ∙ ap f (sym at)
map_at f (w ∷ xs) (suc i) x y less at at' = map_at f xs i x y (omega arith) at at'

pub seam_at : {A : Type 0} (ys : List A) (x : A) (zs : List A) → x ≡ get_or (ys ++ x ∷ zs) (length ys) x
seam_at [] x zs = refl
seam_at (y ∷ ys) x zs = seam_at ys x zs

-- ---- one input

no_row_read : (shape : RowShape) (code : Option (List ℕ)) (row : Option (List Value)) → IsRead shape code row → code ≡ None → row ≡ None
no_row_read shape None None h none = refl
no_row_read shape None (Some row) h none = absurd h
no_row_read shape (Some code) None h none = absurd h
no_row_read shape (Some code) (Some row) h none = absurd (subst (λ o. IfSome o (λ _. ⊥)) (sym none) tt)

read_of : (shape : RowShape) (told : Option Content) (key : List ℕ) (code : Option (List ℕ)) (row : Option (List Value)) → IfSome told (λ content. code ≡ get content key) → IsRead shape code row → IfSome told (λ content. IsRead shape (get content key) row)
read_of shape None key code row is read = tt
read_of shape (Some content) key code row is read = subst (λ o. IsRead shape o row) is read

there_of : (told : Option Content) (key code : List ℕ) → IfSome told (λ content. Some code ≡ get content key) → IfSome told (λ content. get content key ≡ Some code)
there_of None key code is = tt
there_of (Some content) key code is = sym is

unread_shown : (shape : RowShape) (key : List ℕ) (a b : World) (code : Option (List ℕ)) (why : Broke) → IsValueOf a.told (Some key) code → IsUnreadFrom shape (Some key) code why → Explains (IsNoRowAt shape key) a b why
unread_shown shape key a b None why value h = absurd h
unread_shown shape key a b (Some code) Failed value h = absurd h
unread_shown shape key a b (Some code) NoMem value h = tt
unread_shown shape key a b (Some code) (Damaged damage) value h = record { code = code; at = h.0; has = h.1; no_row = h.2; there = there_of a.told key code value }

unread_answered : (answers : List ℕ → Option (List ℕ) → Type 0) (shape : RowShape) (key : List ℕ) (code : Option (List ℕ)) (why : Broke) → answers key code → IsUnreadFrom shape (Some key) code why → IsAnswered answers why
unread_answered answers shape key None why answered h = absurd h
unread_answered answers shape key (Some code) Failed answered h = absurd h
unread_answered answers shape key (Some code) NoMem answered h = tt
unread_answered answers shape key (Some code) (Damaged damage) answered h =
    subst (λ (k : List ℕ). answers k damage.value) (sym h.0) (subst (λ (o : Option (List ℕ)). answers key o) (sym h.1) answered)

-- an input followed by a row of the next relation fits
fits_next : (tables : List Table) (query : Query) (rel : ℕ) → 1 ≤ rel → (input : List (List Value)) (row : List Value) → FitsTables tables query (rel - 1) input → AllFit (types_of (table_of tables query rel)) row → FitsTables tables query rel (input ++ row ∷ [])
fits_next tables query rel low input row fits own =
    let long = fits.long in
    let more = length_push input row in
    record {
      long = omega (arith, more, long, low);
      rows = λ j from upto. elim (cases_lt j rel) [
        | inl before ↦ subst (AllFit (types_of (table_of tables query j))) (sym (earlier_row input (row ∷ []) j from (omega (arith, long, before)))) (fits.rows j from (omega (arith, before)))
        | inr after ↦
            let same : j ≡ rel = omega (arith, after, upto) in
            subst (λ (n : ℕ). AllFit (types_of (table_of tables query n)) (row_of n (input ++ row ∷ []))) (sym same)
            (subst (AllFit (types_of (table_of tables query rel))) (sym (last input row rel (omega (arith, long, low)))) own)
      ];
    }

module _ (s : Schema) (query : Query) (params : List Value) (rel : ℕ) (input : List (List Value)) (asked : IsAsked s.tables query params) (is : IsLookup s.tables query rel) (fits : FitsTables s.tables query (rel - 1) input) where
  abbrev number : ℕ
  number = (relation_at query rel).table

  abbrev table : Table
  table = table_of s.tables query rel

  abbrev key : List Value
  key = cells_tied query params rel input table.key

  abbrev at : Option (List ℕ)
  at = tied_at s.tables query params rel input

  at_none : has_null key ≡ true → at ≡ None
  at_none null = ap (λ (b : Bool). cond b None (Some (row_key number key))) null

  at_some : has_null key ≡ false → at ≡ Some (row_key number key)
  at_some plain = ap (λ (b : Bool). cond b None (Some (row_key number key))) plain

  module _ (answers : List ℕ → Option (List ℕ) → Type 0) (code : Option (List ℕ)) (answered : IsValueAnswered answers at code) where
    pub no_value : IfNone at (code ≡ None)
    no_value = by (has_null key) refl
      where
        by : (b : Bool) → has_null key ≡ b → IfNone at (code ≡ None)
        by true null = subst (λ (o : Option (List ℕ)). IfNone o (code ≡ None)) (sym (at_none null)) (subst (λ (o : Option (List ℕ)). IsValueAnswered answers o code) (at_none null) answered)
        by false plain = subst (λ (o : Option (List ℕ)). IfNone o (code ≡ None)) (sym (at_some plain)) tt

    module _ (a b : World) (value : IsValueOf a.told at code) (why : Broke) (unread : IsUnreadFrom (shape_of table) at code why) where
      pub partner_stops : Explains (where_told (ShowsRead s.tables)) a b why × IsAnswered answers why
      partner_stops = by (has_null key) refl
        where
          by : (c : Bool) → has_null key ≡ c → Explains (where_told (ShowsRead s.tables)) a b why × IsAnswered answers why
          by true null = absurd (subst (λ (o : Option (List ℕ)). IsUnreadFrom (shape_of table) o code why) (at_none null) unread)
          by false plain =
              let there = at_some plain in
              let own : IsUnreadFrom (shape_of table) (Some (row_key number key)) code why = subst (λ (o : Option (List ℕ)). IsUnreadFrom (shape_of table) o code why) there unread in (
                partner_explains s query params rel input asked is fits number table key refl refl refl a b why
                    (unread_shown (shape_of table) (row_key number key) a b code why (subst (λ (o : Option (List ℕ)). IsValueOf a.told o code) there value) own),
                unread_answered answers (shape_of table) (row_key number key) code why (subst (λ (o : Option (List ℕ)). IsValueAnswered answers o code) there answered) own,
              )

    module _ (valid : IsValid s) (told : Option Content) (value : IsValueOf told at code) (row : Option (List Value)) (read : IsRead (shape_of table) code row) where
      tied_row : IsTiedRow told s.tables query params rel input row × IsPartner told s.tables query params rel input row
      tied_row = by (has_null key) refl
        where
          by : (b : Bool) → has_null key ≡ b → IsTiedRow told s.tables query params rel input row × IsPartner told s.tables query params rel input row
          by true null =
              let none : row ≡ None = no_row_read (shape_of table) code row read (subst (λ (o : Option (List ℕ)). IsValueAnswered answers o code) (at_none null) answered) in (
                subst (λ (o : Option (List Value)). IsTiedRow told s.tables query params rel input o) (sym none) (none_code s query params rel input asked is fits number table key refl refl refl told null),
                subst (λ (o : Option (List Value)). IsPartner told s.tables query params rel input o) (sym none) (partner_none s query params rel input asked is fits number table key refl refl refl told null),
              )
          by false plain =
              let found = read_of (shape_of table) told (row_key number key) code row (subst (λ (o : Option (List ℕ)). IsValueOf told o code) (at_some plain) value) read in (
                partner_code s query params rel input asked is fits number table key refl refl refl valid told row found plain,
                partner_is s query params rel input asked is fits number table key refl refl refl valid told row found plain,
              )

  -- ---- what is added for it
  module _ (answers : List ℕ → Option (List ℕ) → Type 0) (code : Option (List ℕ)) (answered : IsValueAnswered answers at code) (valid : IsValid s) (told : Option Content) (value : IsValueOf told at code) (before after : List (List (List Value))) (adds : AddsRead (shape_of table) input code before after) where
    tied : IsTiedRow told s.tables query params rel input adds.row × IsPartner told s.tables query params rel input adds.row
    tied = tied_row answers code answered valid told value adds.row adds.read

    pub adds_joined : AddsJoined told s.tables query params rel (input ∷ []) before after
    adds_joined = subst (λ (l : List (List (List Value))). AddsJoined told s.tables query params rel (input ∷ []) before l) (sym adds.is)
        (adds_one s.tables query params rel told input is.relation.from_one fits before adds.row tied.0)

    pub adds_looked_up : AddsLookedUp told s.tables query params rel (input ∷ []) before after
    adds_looked_up rows others holds =
        let q = question s.tables query rows params in
        adds.is ∙ ap (λ l. before ++ map (λ row. input ++ row ∷ []) l) (tied.1 rows others holds)
        ∙ ap (λ l. before ++ l) (sym (append-nil (map (λ row. input ++ row ∷ []) (take 1 (matching q rel (key_of q rel) input)))))

    pub adds_fit : AllByRecursion (FitsTables s.tables query rel) before → AllByRecursion (FitsTables s.tables query rel) after
    adds_fit all = subst (AllByRecursion (FitsTables s.tables query rel)) (sym adds.is) (each code adds.row adds.read)
      where
        each : (code : Option (List ℕ)) (row : Option (List Value)) → IsRead (shape_of table) code row → AllByRecursion (FitsTables s.tables query rel) (before ++ map (λ row. input ++ row ∷ []) (option_to_list row))
        each code None read = each_append (FitsTables s.tables query rel) before [] all tt
        each None (Some row) read = absurd read
        each (Some code) (Some row) read = each_append (FitsTables s.tables query rel) before ((input ++ row ∷ []) ∷ []) all (fits_next s.tables query rel is.relation.from_one input row fits read.0, tt)

-- ---- the place of an input among all

pub none_asked : (answers : List ℕ → Option (List ℕ) → Type 0) (at code : Option (List ℕ)) → IsValueAnswered answers at code → IfNone at (code ≡ None)
none_asked answers None code h = h
none_asked answers (Some _) code h = tt

module _ {X : Type 0} (at_of : X → Option (List ℕ)) (inputs yielded : List X) (input : X) (rest : List X) (whole : yielded ++ input ∷ rest ≡ inputs) (asked codes : List (Option (List ℕ))) (asked_is : asked ≡ map at_of inputs) (place : ℕ) (place_is : place ≡ length yielded) (at code : Option (List ℕ)) (at_is : at ≡ get_or asked place at) (code_is : code ≡ get_or codes place code) where
  within : place < length inputs
  within =
      let long = length-append yielded (input ∷ rest) in
      let same = ap length whole in
      omega (arith, long, same, place_is)

  within_asked : place < length asked
  within_asked = let long = ap length asked_is ∙ length-map inputs at_of in omega (arith, long, within)

  input_here : input ≡ get_or inputs place input
  input_here = subst (λ (l : List X). input ≡ get_or l place input) whole (subst (λ (n : ℕ). input ≡ get_or (yielded ++ input ∷ rest) n input) (sym place_is) (seam_at yielded input rest))

  pub at_here : at ≡ at_of input
  at_here = map_at at_of inputs place input at within input_here (subst (λ (l : List (Option (List ℕ))). at ≡ get_or l place at) asked_is at_is)

  pub asked_here : (R : Option (List ℕ) → Option (List ℕ) → Type 0) → AllZip R asked codes → R at code
  asked_here R h = zipped_at R asked codes place at code h within_asked at_is code_is

module _ (s : Schema) (query : Query) (params : List Value) (rel : ℕ) (input : List (List Value)) (asked : IsAsked s.tables query params) (is : IsLookup s.tables query rel) (fits : FitsTables s.tables query (rel - 1) input) (own : Table) (own_is : own ≡ table_of s.tables query rel) (at : Option (List ℕ)) (at_is : at ≡ tied_at s.tables query params rel input) (answers : List ℕ → Option (List ℕ) → Type 0) (code : Option (List ℕ)) (answered : IsValueAnswered answers at code) where
  its_answer : IsValueAnswered answers (tied_at s.tables query params rel input) code
  its_answer = subst (λ (o : Option (List ℕ)). IsValueAnswered answers o code) at_is answered

  pub join_stops : (a b : World) → IsValueOf a.told at code → (why : Broke) → (why ≡ NoMem) ⊎ IsUnreadFrom (shape_of own) at code why → Explains (where_told (ShowsRead s.tables)) a b why × IsAnswered answers why
  join_stops a b value why h = elim h [
    | inl none ↦ subst (λ (w : Broke). Explains (where_told (ShowsRead s.tables)) a b w × IsAnswered answers w) (sym none) (tt, tt)
    | inr unread ↦
        partner_stops s query params rel input asked is fits answers code its_answer a b (subst (λ (o : Option (List ℕ)). IsValueOf a.told o code) at_is value) why
        (subst (λ (o : Option (List ℕ)). IsUnreadFrom (shape_of (table_of s.tables query rel)) o code why) at_is
        (subst (λ (t : Table). IsUnreadFrom (shape_of t) at code why) own_is unread))
  ]

  module _ (valid : IsValid s) (told : Option Content) (value : IsValueOf told at code) (before after : List (List (List Value))) (adds : AddsRead (shape_of own) input code before after) where
    its_value : IsValueOf told (tied_at s.tables query params rel input) code
    its_value = subst (λ (o : Option (List ℕ)). IsValueOf told o code) at_is value

    its_adds : AddsRead (shape_of (table_of s.tables query rel)) input code before after
    its_adds = subst (λ (t : Table). AddsRead (shape_of t) input code before after) own_is adds

    pub one_joined : AddsJoined told s.tables query params rel (input ∷ []) before after
    one_joined = adds_joined s query params rel input asked is fits answers code its_answer valid told its_value before after its_adds

    pub one_looked_up : AddsLookedUp told s.tables query params rel (input ∷ []) before after
    one_looked_up = adds_looked_up s query params rel input asked is fits answers code its_answer valid told its_value before after its_adds

    pub one_fits : AllByRecursion (FitsTables s.tables query rel) before → AllByRecursion (FitsTables s.tables query rel) after
    one_fits = adds_fit s query params rel input asked is fits answers code its_answer valid told its_value before after its_adds
