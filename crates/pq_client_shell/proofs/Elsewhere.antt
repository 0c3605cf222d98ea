-- What clients leave of a table on which none of them makes a write.
use Rattle.std.proofs.Common.{◌≡◌, ℕ, zero, suc, ◌==◌, true, false, cond, not, List, [], ◌∷◌, ◌++◌, Some, None, slice_get, IsPermutation, ◌⊎◌, inl, inr, refl, sym, ap, ◌∙◌, subst}
use Rattle.std.specs.List.{AllByRecursion}
use Rattle.std.specs.List as lists
use Rattle.std.proofs.lemmas.Bool.{false≢true, eqb-true, and_parts}
use Rattle.std.proofs.lemmas.List.Sorted.{IsPermutation-refl, IsPermutation-sym, IsPermutation-trans, IsPermutation-cons, IsPermutation-middle}
use Rattle.pq_base.specs.Members.{In}
use Rattle.pq_base.specs.Values.{AllFit}
use Rattle.pq_base.specs.declared.value.Value.{Value}
use Rattle.pq_base.proofs.Members.{each_in, each_append, in_from_find}
use Rattle.pq_schema.specs.declared.table.Table.{Table}
use Rattle.pq_schema.specs.Tables.{table_at}
use Rattle.pq_content.specs.Pairs.{Pair}
use Rattle.pq_content.specs.Tables.{Rows, AllOfKinds, AreApart, IsTableNumber, agrees, has_key, key_of, key_types, row_at, rows_of, rows_without, types_of}
use Rattle.pq_content.proofs.Gets.{EachFits}
use Rattle.pq_content.proofs.TableRows.{AreRows, rows_are}
use Rattle.pq_content.proofs.Values.{key_of_kinds, same_values_itself}
use Rattle.pq_index_keep.specs.Tested.{with_sets}
use Rattle.pq_index_keep.specs.declared.write.Write.{Write}
use Rattle.pq_index_keep.specs.declared.write.Write.TheVariants as write
use Rattle.pq_tallies.specs.Writes.{written_table}
use Rattle.pq_clients.specs.Clients.{View, write_at}
use Rattle.pq_clients.specs.Present.{found_write, present_rows, rows_after, rows_after_all, updated_row, write_named, writes_named}
use Rattle.pq_clients.specs.Promises.{HoldsThroughout, all_puts, made_writes, reached}
use Rattle.pq_clients.specs.Runs.{Event}
use Rattle.pq_clients.specs.declared.outcome.Wrote.{Wrote}
use Rattle.pq_clients.proofs.BeginRows.{row_found_at}

-- ---- lists with the same members

-- no member comes twice
abbrev pub Once : {X : Type 0} → List X → Type 0
Once [] = Unit {0}
Once (x ∷ xs) = (In x xs → ⊥) × Once xs

record CutAt {X : Type 0} (x : X) (xs : List X) : Type 0 where
  pub front : List X
  pub back : List X
  pub is : xs ≡ front ++ x ∷ back

cut_at : {X : Type 0} (x : X) (xs : List X) → In x xs → CutAt x xs
cut_at x [] i = absurd i
cut_at x (y ∷ ys) (inl same) = record { front = []; back = ys; is = ap (λ z. z ∷ ys) same }
cut_at x (y ∷ ys) (inr i) =
    let c = cut_at x ys i in
    record { front = y ∷ c.front; back = c.back; is = ap (λ zs. y ∷ zs) c.is }

module _ {X : Type 0} (x : X) where
  in_middle : (v : X) (fs bs : List X) → In v (fs ++ x ∷ bs) → (x ≡ v) ⊎ In v (fs ++ bs)
  in_middle v [] bs (inl same) = inl same
  in_middle v [] bs (inr i) = inr i
  in_middle v (f ∷ fs) bs (inl same) = inr (inl same)
  in_middle v (f ∷ fs) bs (inr i) = elim (in_middle v fs bs i) [ inl same ↦ inl same | inr j ↦ inr (inr j) ]

  middle_in : (v : X) (fs bs : List X) → In v (fs ++ bs) → In v (fs ++ x ∷ bs)
  middle_in v [] bs i = inr i
  middle_in v (f ∷ fs) bs (inl same) = inl same
  middle_in v (f ∷ fs) bs (inr i) = inr (middle_in v fs bs i)

  here_in : (fs bs : List X) → In x (fs ++ x ∷ bs)
  here_in [] bs = inl refl
  here_in (f ∷ fs) bs = inr (here_in fs bs)

  once_middle : (fs bs : List X) → Once (fs ++ x ∷ bs) → Once (x ∷ (fs ++ bs))
  once_middle [] bs once = once
  once_middle (f ∷ fs) bs once =
      let rest = once_middle fs bs once.1 in (
        λ i. elim i [
          | inl same ↦ once.0 (subst (λ (v : X). In v (fs ++ x ∷ bs)) (sym same) (here_in fs bs))
          | inr j ↦ rest.0 j
        ],
        ((λ i. once.0 (middle_in f fs bs i)), rest.1),
      )

pub permuted : {X : Type 0} (xs ys : List X) → Once xs → Once ys → ((v : X) → In v xs → In v ys) → ((v : X) → In v ys → In v xs) → IsPermutation xs ys
permuted [] [] once other there back = IsPermutation-refl []
permuted [] (y ∷ ys) once other there back = absurd (back y (inl refl))
permuted {X} (x ∷ xs) ys once other there back =
    let c = cut_at x ys (there x (inl refl)) in
    let rest = c.front ++ c.back in
    let own : Once (x ∷ rest) = once_middle x c.front c.back (subst (λ (l : List X). Once l) c.is other) in
    let p : IsPermutation xs rest =
    permuted xs rest once.1 own.1
    (λ v i. elim (in_middle x v c.front c.back (subst (λ (l : List X). In v l) c.is (there v (inr i)))) [
      | inl same ↦ absurd (once.0 (subst (λ (w : X). In w xs) (sym same) i))
      | inr j ↦ j
    ])
    (λ v i. elim (back v (subst (λ (l : List X). In v l) (sym c.is) (middle_in x v c.front c.back i))) [
      | inl same ↦ absurd (own.0 (subst (λ (w : X). In w rest) (sym same) i))
      | inr j ↦ j
    ]) in
    subst (λ (l : List X). IsPermutation (x ∷ xs) l) (sym c.is)
    (IsPermutation-trans (x ∷ xs) (x ∷ rest) (c.front ++ x ∷ c.back) (IsPermutation-cons x xs rest p)
    (IsPermutation-sym (c.front ++ x ∷ c.back) (x ∷ rest) (IsPermutation-middle c.front x c.back)))

-- ---- the rows of one table

once_rows : (table : Table) (rows : List (List Value)) → AreRows table rows → Once rows
once_rows table [] h = tt
once_rows table (row ∷ rows) h = (
  λ i. false≢true (sym (each_in (λ (other : List Value). agrees table.key (key_of table row) other ≡ false) rows h.1 row i) ∙ same_values_itself (key_of table row)),
  once_rows table rows h.2,
)

pub in_whole : (t : ℕ) (rows : Rows) (row : List Value) → In row (rows_of t rows) → In (t, row) rows
in_whole t [] row i = absurd i
in_whole t (e ∷ es) row i =
    elim (e.0 == t) as (λ b. (e.0 == t) ≡ b → In row (cond b (e.1 ∷ rows_of t es) (rows_of t es)) → (e ≡ (t, row)) ⊎ In (t, row) es) [
      | true ↦ λ is i. elim i [ inl same ↦ inl (λ k. (eqb-true e.0 t is k, same k)) | inr j ↦ inr (in_whole t es row j) ]
      | false ↦ λ _ i. inr (in_whole t es row i)
    ] refl i

-- ---- writes on other tables

-- it is on another table
abbrev pub IsElsewhere : ℕ → Write → Type 0
IsElsewhere t w = (written_table w == t) ≡ false

module _ (tables : List Table) (t : ℕ) where
  without_kept : (u : ℕ) (key : List Value) (rows : Rows) → (u == t) ≡ false → rows_of t (rows_without tables u key rows) ≡ rows_of t rows
  without_kept u key [] other = refl
  without_kept u key (e ∷ es) other =
      let rest = without_kept u key es other in
      let left = rows_without tables u key es in
      elim (has_key tables u key e) as (λ b. has_key tables u key e ≡ b → rows_of t (cond (not b) (e ∷ left) left) ≡ cond (e.0 == t) (e.1 ∷ rows_of t es) (rows_of t es)) [
        | true ↦ λ is.
            let at : e.0 ≡ u = eqb-true e.0 u (and_parts (e.0 == u) (agrees (table_at tables u).key key e.1) is).0 in
            rest ∙ sym (ap (λ b. cond b (e.1 ∷ rows_of t es) (rows_of t es)) (ap (λ n. n == t) at ∙ other))
        | false ↦ λ _. ap (λ (l : List (List Value)). cond (e.0 == t) (e.1 ∷ l) l) rest
      ] refl

  changed_kept : (u : ℕ) (key row : List Value) (rows : Rows) → (u == t) ≡ false → rows_of t ((u, row) ∷ rows_without tables u key rows) ≡ rows_of t rows
  changed_kept u key row rows other =
      let left = rows_of t (rows_without tables u key rows) in
      ap (λ b. cond b (row ∷ left) left) other ∙ without_kept u key rows other

  after_kept : (rows : Rows) (w : Write) → IsElsewhere t w → rows_of t (rows_after tables rows w) ≡ rows_of t rows
  after_kept rows (write.Insert u row) other = changed_kept u (key_of (table_at tables u) row) row rows other
  after_kept rows (write.Update u key sets conds) other =
      elim (row_at tables rows u key) as (λ o. rows_of t (updated_row tables u key sets rows o) ≡ rows_of t rows) [
        | None ↦ refl
        | Some old ↦ changed_kept u key (with_sets sets old) rows other
      ]
  after_kept rows (write.Delete u key conds) other = without_kept u key rows other

  pub all_kept : (ws : List Write) (rows : Rows) → AllByRecursion (IsElsewhere t) ws → rows_of t (rows_after_all tables rows ws) ≡ rows_of t rows
  all_kept [] rows all = refl
  all_kept (w ∷ ws) rows all = all_kept ws (rows_after tables rows w) all.1 ∙ after_kept rows w all.0

-- ---- the writes that were made

module _ (P : Write → Type 0) where
  place_all : (ws : List Write) (i : ℕ) → AllByRecursion P ws → AllByRecursion P (found_write (slice_get ws i))
  place_all [] i all = tt
  place_all (w ∷ ws) zero all = (all.0, tt)
  place_all (w ∷ ws) (suc i) all = place_all ws i all.1

  found_all : (ws : List Write) (n : ℕ) → AllByRecursion P ws → AllByRecursion P (found_write (write_at ws n))
  found_all ws zero all = tt
  found_all ws (suc i) all = place_all ws i all

  named_all : (vs : List View) (wrote : Wrote) → AllByRecursion (λ (v : View). AllByRecursion P v.writes) vs → AllByRecursion P (write_named vs wrote)
  named_all [] wrote all = tt
  named_all (v ∷ vs) wrote all =
      elim (v.number == wrote.client) as (λ b. AllByRecursion P (cond b (found_write (write_at v.writes wrote.number)) (write_named vs wrote))) [
        | true ↦ found_all v.writes wrote.number all.0
        | false ↦ named_all vs wrote all.1
      ]

  pub all_named : (vs : List View) (puts : List Wrote) → AllByRecursion (λ (v : View). AllByRecursion P v.writes) vs → AllByRecursion P (writes_named vs puts)
  all_named vs [] all = tt
  all_named vs (wrote ∷ puts) all = each_append P (write_named vs wrote) (writes_named vs puts) (named_all vs wrote all) (all_named vs puts all)

-- ---- the rows that are present

module _ (tables : List Table) (rows : Rows) (others : List Pair) (clients : List View) (events : List Event) (fit : EachFits tables rows) (apart : AreApart tables rows) (holds : HoldsThroughout tables rows others clients events)
    (t : ℕ) (number : IsTableNumber tables t) (elsewhere : AllByRecursion (λ (v : View). AllByRecursion (IsElsewhere t) v.writes) clients) where
  abbrev present : Rows
  present = present_rows tables (reached tables rows others clients events).content

  same_at : (key : List Value) → AllOfKinds (key_types (table_at tables t)) key → row_at tables present t key ≡ row_at tables rows t key
  same_at key kinds =
      let r = reached tables rows others clients events in
      holds.shows.present t key number kinds
      ∙ ap (λ (l : List (List Value)). lists.find (agrees (table_at tables t).key key) l)
      (all_kept tables t (made_writes tables clients r) rows (all_named (IsElsewhere t) clients (all_puts tables r) elsewhere))

  key_kinds : (es : Rows) → EachFits tables es → (row : List Value) → In row (rows_of t es) → AllOfKinds (key_types (table_at tables t)) (key_of (table_at tables t) row)
  key_kinds es fits row i = key_of_kinds (table_at tables t) row (each_in (λ (e : ℕ × List Value). AllFit (types_of (table_at tables e.0)) e.1) es fits (t, row) (in_whole t es row i))

  -- a table on which no client makes a write has its rows still, their order apart
  pub rows_kept : IsPermutation (rows_of t rows) (rows_of t present)
  rows_kept =
      let table = table_at tables t in
      permuted (rows_of t rows) (rows_of t present)
      (once_rows table (rows_of t rows) (rows_are tables rows t fit apart))
      (once_rows table (rows_of t present) (rows_are tables present t holds.kept.fit holds.kept.apart))
      (λ row i. in_from_find (agrees table.key (key_of table row)) (rows_of t present) row
      (same_at (key_of table row) (key_kinds rows fit row i) ∙ row_found_at tables rows apart (t, row) (in_whole t rows row i)))
      (λ row i. in_from_find (agrees table.key (key_of table row)) (rows_of t rows) row
      (sym (same_at (key_of table row) (key_kinds present holds.kept.fit row i)) ∙ row_found_at tables present holds.kept.apart (t, row) (in_whole t present row i)))
