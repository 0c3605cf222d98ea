-- Entries of some pairs, and then of others.
use Rattle.std.proofs.Common.{◌≡◌, ℕ, zero, suc, true, List, [], ◌∷◌, ◌++◌, map, take, Option, Some, None, refl, sym, ap, ◌∙◌, subst, inl, inr}
use Rattle.std.specs.Prelude.{IfSome}
use Rattle.std.specs.List.{AllByRecursion}
use Rattle.std.specs.Option.{option_map}
use Rattle.std.specs.FinMap.{insert}
use Rattle.std.proofs.lemmas.List.{map-append}
use Rattle.pq_base.specs.declared.value.Value.{Value}
use Rattle.pq_base.specs.Shapes.{RowShape}
use Rattle.pq_base.specs.Values.{AllFit}
use Rattle.pq_row_code.specs.StoredRow.{code_as}
use Rattle.pq_store.specs.Content.{Content, written_content, pairs_within}
use Rattle.pq_content.specs.Pairs.{Pair, Change, changed_content, is_in_space}
use Rattle.pq_intent.specs.Changing.{MayChange}
use Rattle.pq_builds.specs.declared.target.Target.{Target}
use Rattle.pq_builds.specs.Filling.{target_shape, entry_at, entry_change, entered_rows, AreDecoded, Enters, EntersSome, IsEntryIn}
use Rattle.pq_builds.proofs.Ranges.{range_insert}

each_append : {X : Type 0} (P : X → Type 0) (xs ys : List X) → AllByRecursion P xs → AllByRecursion P ys → AllByRecursion P (xs ++ ys)
each_append P [] ys g h = h
each_append P (x ∷ xs) ys g h = (g.0, each_append P xs ys g.1 h)

changed-append : (xs ys : List Change) (c : Content) → changed_content (xs ++ ys) c ≡ changed_content ys (changed_content xs c)
changed-append [] ys c = refl
changed-append (x ∷ xs) ys c = changed-append xs ys (written_content x.0 x.1 c)

pub entered-append : (target : Target) (xs ys : List (List Value)) (c : Content) → entered_rows target (xs ++ ys) c ≡ entered_rows target ys (entered_rows target xs c)
entered-append target xs ys c = ap (λ (l : List Change). changed_content l c) (map-append (entry_change target) xs ys) ∙ changed-append (map (entry_change target) xs) (map (entry_change target) ys) c

decoded-append : (shape : RowShape) (ps qs : List Pair) (xs ys : List (List Value)) → AreDecoded shape ps xs → AreDecoded shape qs ys → AreDecoded shape (ps ++ qs) (xs ++ ys)
decoded-append shape ps qs xs ys a b = record {
  fit = each_append (AllFit shape.types) xs ys a.fit b.fit;
  codes = map-append (code_as shape) xs ys ∙ (λ i. a.codes i ++ b.codes i) ∙ sym (map-append (λ (pair : Pair). pair.1) ps qs);
}

-- ---- none, one, more

pub enters_none : (target : Target) (c : Content) → Enters target [] c (Some c)
enters_none target c = record { rows = []; decoded = record { fit = tt; codes = refl }; is = refl }

pub enters_then : (target : Target) (ps qs : List Pair) (old mid : Content) (now : Option Content) → Enters target ps old (Some mid) → Enters target qs mid now → Enters target (ps ++ qs) old now
enters_then target ps qs old mid now a b =
    let mid_is : mid ≡ entered_rows target a.rows old = some_same mid (entered_rows target a.rows old) a.is in
    record {
      rows = a.rows ++ b.rows;
      decoded = decoded-append (target_shape target) ps qs a.rows b.rows a.decoded b.decoded;
      is = b.is ∙ ap (λ (c : Content). Some (entered_rows target b.rows c)) mid_is ∙ ap (λ (c : Content). Some c) (sym (entered-append target a.rows b.rows old));
    }
  where
    some_same : (x y : Content) → Some x ≡ Some y → x ≡ y
    some_same x y e = cc

-- ---- on contents that may not be told

pub enters_more : (target : Target) (ps qs : List Pair) (old mid now : Option Content) → IfSome old (λ c. Enters target ps c mid) → IfSome mid (λ c. Enters target qs c now) → IfSome old (λ c. Enters target (ps ++ qs) c now)
enters_more target ps qs None mid now a b = tt
enters_more target ps qs (Some c) mid now a b =
    let d = entered_rows target a.rows c in
    enters_then target ps qs c d now (record { rows = a.rows; decoded = a.decoded; is = refl }) (subst (λ (o : Option Content). IfSome o (λ c. Enters target qs c now)) a.is b)

take_front : (m : ℕ) (xs ys : List Pair) → (n : ℕ) × (take n (xs ++ ys) ≡ take m xs)
take_front zero xs ys = (0, refl)
take_front (suc m) [] ys = (0, refl)
take_front (suc m) (x ∷ xs) ys = let r = take_front m xs ys in (suc r.0, ap (λ (l : List Pair). x ∷ l) r.1)

take_back : (m : ℕ) (xs ys : List Pair) → (n : ℕ) × (take n (xs ++ ys) ≡ xs ++ take m ys)
take_back m [] ys = (m, refl)
take_back m (x ∷ xs) ys = let r = take_back m xs ys in (suc r.0, ap (λ (l : List Pair). x ∷ l) r.1)

pub some_front : (target : Target) (ps qs : List Pair) (c : Content) (now : Option Content) → EntersSome target ps c now → EntersSome target (ps ++ qs) c now
some_front target ps qs c now e =
    let t = take_front e.many ps qs in
    record { many = t.0; enters = subst (λ (l : List Pair). Enters target l c now) (sym t.1) e.enters }

pub some_back : (target : Target) (ps qs : List Pair) (old mid : Content) (now : Option Content) → Enters target ps old (Some mid) → EntersSome target qs mid now → EntersSome target (ps ++ qs) old now
some_back target ps qs old mid now a e =
    let t = take_back e.many ps qs in
    record { many = t.0; enters = subst (λ (l : List Pair). Enters target l old now) (sym t.1) (enters_then target ps (take e.many qs) old mid now a e.enters) }

pub some_more : (target : Target) (ps qs : List Pair) (old mid now : Option Content) → IfSome old (λ c. Enters target ps c mid) → IfSome mid (λ c. EntersSome target qs c now) → IfSome old (λ c. EntersSome target (ps ++ qs) c now)
some_more target ps qs None mid now a b = tt
some_more target ps qs (Some c) mid now a b =
    let d = entered_rows target a.rows c in
    some_back target ps qs c d now (record { rows = a.rows; decoded = a.decoded; is = refl }) (subst (λ (o : Option Content). IfSome o (λ c. EntersSome target qs c now)) a.is b)

pub some_none : (target : Target) (ps : List Pair) (old now : Option Content) → now ≡ old → IfSome old (λ c. EntersSome target ps c now)
some_none target ps None now same = tt
some_none target ps (Some c) now same = record { many = 0; enters = subst (λ (o : Option Content). Enters target [] c o) (sym same) (enters_none target c) }

-- ---- one entry

one_row : (target : Target) (pair : Pair) (key : List ℕ) (c : Content) → IsEntryIn target pair key → Enters target (pair ∷ []) c (Some (insert c key []))
one_row target pair key c e = record {
  rows = e.row ∷ [];
  decoded = record { fit = (e.fits, tt); codes = ap (λ (code : List ℕ). code ∷ []) e.code };
  is = ap (λ (k : List ℕ). Some (insert c k [])) e.is;
}

pub one_made : (target : Target) (pair : Pair) (key : List ℕ) (old now : Option Content) → IsEntryIn target pair key → now ≡ option_map (written_content key (Some [])) old → IfSome old (λ c. Enters target (pair ∷ []) c now)
one_made target pair key None now e made = tt
one_made target pair key (Some c) now e made = subst (λ (o : Option Content). Enters target (pair ∷ []) c o) (sym made) (one_row target pair key c e)

pub one_stopped : (target : Target) (pair : Pair) (key : List ℕ) (old now : Option Content) → IsEntryIn target pair key → MayChange (key, Some []) old now → IfSome old (λ c. EntersSome target (pair ∷ []) c now)
one_stopped target pair key old now e (inl same) = some_none target (pair ∷ []) old now same
one_stopped target pair key None now e (inr made) = tt
one_stopped target pair key (Some c) now e (inr made) = record { many = 1; enters = one_made target pair key (Some c) now e made }

-- ---- ranges of rows are as they were

pub range_entered : (target : Target) (rows : List (List Value)) (c : Content) (low high : List ℕ) → is_in_space 2 low ≡ true → is_in_space 2 high ≡ true → pairs_within (entered_rows target rows c) low high ≡ pairs_within c low high
range_entered target [] c low high low_in high_in = refl
range_entered target (row ∷ rows) c low high low_in high_in =
    range_entered target rows (insert c (entry_at target row) []) low high low_in high_in
    ∙ range_insert 2 c low high (entry_at target row) [] low_in high_in refl
