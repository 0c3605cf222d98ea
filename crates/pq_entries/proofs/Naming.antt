-- Rows that entries name, one after the other.
use Rattle.std.proofs.Common.{◌≡◌, ℕ, ◌+◌, ◌<◌, ◌≤◌, List, [], ◌∷◌, length, get_or, map, take, Option, Some, None, sym, ◌∙◌, subst}
use Rattle.std.specs.Prelude.{IfSome, IfOk, Result, Ok, Err}
use Rattle.std.specs.List.{AllByRecursion}
use Rattle.pq_base.specs.Members.{In}
use Rattle.pq_base.specs.Values.{AllFit}
use Rattle.pq_base.specs.declared.value.Value.{Value}
use Rattle.pq_base.proofs.Members.{at_in, each_in, each_by_in, in_take}
use Rattle.pq_schema.specs.declared.table.Table.{Table}
use Rattle.pq_schema.specs.declared.table.Access.{Access}
use Rattle.pq_schema.specs.declared.table.Access.TheVariants.{Primary, Secondary}
use Rattle.pq_schema.specs.Sequences.{index_sequence, index_numbered}
use Rattle.pq_schema.specs.Tables.{table_at}
use Rattle.pq_store.specs.Content.{Content, pairs_within}
use Rattle.pq_store.specs.declared.damage.Broke.{Broke}
use Rattle.pq_calls.specs.Calls.{Uses, seen_world}
use Rattle.pq_calls.specs.Keys.{sequence_types}
use Rattle.pq_calls.specs.World.{World, Affords, Reads}
use Rattle.pq_calls.specs.declared.calls.Calls.{Calls}
use Rattle.pq_calls.proofs.Steps.{reads_then, reads_within, rest_left}
use Rattle.pq_content.specs.Pairs.{Pair, HoldsRows, content_pairs}
use Rattle.pq_content.specs.Tables.{Rows, Keeps, rows_of, types_of, values_of}
use Rattle.pq_plan.proofs.Kept.{row_fits}
use Rattle.pq_entries.specs.Entries.{AreRowsWithin, AreKeysWithin, AreNamedRows, AreSequenceRows, AreFirstRows, AreFirstValues, pair_of}

-- ---- one call after another

pub uses_then : {S L : Type 0} (content : S → Option Content) (faults : S → ℕ) (a b c : Calls S L) (o e p q o' e' : ℕ) → Uses content faults a b o e → Uses content faults b c p q → o + p ≤ o' → e + q ≤ e' → Uses content faults a c o' e'
uses_then content faults a b c o e p q o' e' r s ops entries = record {
  same_store = s.same_store ∙ r.same_store;
  same_allowance = s.same_allowance ∙ r.same_allowance;
  same_meter = s.same_meter ∙ r.same_meter;
  reads = reads_then _ _ _ o e p q o' e' r.reads s.reads ops entries;
}

pub uses_within : {S L : Type 0} (content : S → Option Content) (faults : S → ℕ) (a b : Calls S L) (o e o' e' : ℕ) → Uses content faults a b o e → o ≤ o' → e ≤ e' → Uses content faults a b o' e'
uses_within content faults a b o e o' e' r ops entries = record {
  same_store = r.same_store;
  same_allowance = r.same_allowance;
  same_meter = r.same_meter;
  reads = reads_within _ _ o e o' e' r.reads ops entries;
}

pub share_left : {S L : Type 0} (content : S → Option Content) (faults : S → ℕ) (a b : Calls S L) (o e p q o' e' : ℕ) → Uses content faults a b o e → Affords a.allowance.now o' e' → o + p ≤ o' → e + q ≤ e' → Affords b.allowance.now p q
share_left content faults a b o e p q o' e' r left ops entries = rest_left (seen_world content faults a) (seen_world content faults b) o e p q o' e' r.reads left ops entries

-- what a content holds it holds after calls that read
pub holds_later : (a b : World) (o e : ℕ) (tables : List Table) (rows : Rows) (others : List Pair) → Reads a b o e → HoldsRows a.told tables rows others → HoldsRows b.told tables rows others
holds_later a b o e tables rows others r s = record { keeps = s.keeps; beside = s.beside; is = r.same ∙ s.is }

-- ---- the row at hand

pub item_in : {X : Type 0} (xs : List X) (i : ℕ) (x : X) → i < length xs → x ≡ get_or xs i x → In x xs
item_in xs i x low at = subst (λ y. In y xs) (sym at) (at_in xs i x low)

pub each_item : {X : Type 0} (P : X → Type 0) (xs : List X) (i : ℕ) (x : X) → AllByRecursion P xs → i < length xs → x ≡ get_or xs i x → P x
each_item P xs i x all low at = each_in P xs all x (item_in xs i x low at)

-- ---- the rows of any content

-- the rows of a sequence
pub rows_sequence : (t : ℕ) (table : Table) (access : Access) (low high : List ℕ) (limit : ℕ) (told : Option Content) → access ≡ Primary → (result : Result (List (List Value)) Broke) → IfOk result (λ found. IfSome told (AreRowsWithin table low high limit found)) → IfOk result (λ found. IfSome told (AreSequenceRows t table access low high limit found))
rows_sequence t table access low high limit told is result h = subst (λ (a : Access). IfOk result (λ found. IfSome told (AreSequenceRows t table a low high limit found))) (sym is) h

pub named_sequence : (t index : ℕ) (table : Table) (access : Access) (low high : List ℕ) (limit : ℕ) (told now : Option Content) (values items : List (List Value)) → access ≡ Secondary index → now ≡ told → items ≡ values → AllByRecursion (AllFit (sequence_types table (Secondary index))) values → IfSome told (AreKeysWithin t table (Secondary index) low high limit values) → (result : Result (List (List Value)) Broke)
    → IfOk result (λ named. IfSome now (AreNamedRows t table index items named))
    → IfOk result (λ found. IfSome told (AreSequenceRows t table access low high limit found))
named_sequence t index table access low high limit told now values items is same seen fit keys (Err error) h = tt
named_sequence t index table access low high limit told now values items is same seen fit keys (Ok found) h =
    subst (λ (a : Access). IfSome told (AreSequenceRows t table a low high limit found)) (sym is)
    (all told keys (subst (λ (o : Option Content). IfSome o (AreNamedRows t table index values found)) same
    (subst (λ (l : List (List Value)). IfSome now (AreNamedRows t table index l found)) seen h)))
  where
    all : (told : Option Content) → IfSome told (AreKeysWithin t table (Secondary index) low high limit values) → IfSome told (AreNamedRows t table index values found) → IfSome told (AreSequenceRows t table (Secondary index) low high limit found)
    all None keys named = tt
    all (Some content) keys named = record { values = values; fit = fit; within = keys; named = named }

-- ---- what a content of rows has in a range

-- rows of a table that keeps its definition fit
within_fit : (tables : List Table) (rows : Rows) (t : ℕ) → Keeps tables rows → (within : List (List Value)) → AllByRecursion (λ row. In row (rows_of t rows)) within → AllByRecursion (AllFit (types_of (table_at tables t))) within
within_fit tables rows t keeps [] all = tt
within_fit tables rows t keeps (row ∷ within) all = (row_fits tables rows keeps.schema t row all.0, within_fit tables rows t keeps within all.1)

within_taken : (P : List Value → Type 0) (n : ℕ) (within : List (List Value)) → AllByRecursion P within → AllByRecursion P (take n within)
within_taken P n within all = each_by_in P (take n within) (λ row here. each_in P within all row (in_take n row within here))

-- over a content that holds rows, the first of those in the range are found
abbrev pub FindsFirst : List Table → ℕ → Access → List ℕ → List ℕ → ℕ → Option Content → List (List Value) → Type 0
FindsFirst tables t access low high limit told found =
    (rows : Rows) (others : List Pair) (within : List (List Value)) → HoldsRows told tables rows others → AllByRecursion (λ row. In row (rows_of t rows)) within
    → pairs_within (content_pairs tables rows others) low high ≡ map (pair_of t (table_at tables t) access) within → found ≡ take limit within

pub rows_first : (tables : List Table) (t : ℕ) (access : Access) (low high : List ℕ) (limit : ℕ) (told : Option Content) → access ≡ Primary → (result : Result (List (List Value)) Broke) → IfOk result (λ found. IfSome told (AreFirstRows t (table_at tables t) low high limit found)) → IfOk result (FindsFirst tables t access low high limit told)
rows_first tables t access low high limit told is (Err error) h = tt
rows_first tables t access low high limit told is (Ok found) h = λ rows others within holds all range.
    let first = subst (λ (o : Option Content). IfSome o (AreFirstRows t (table_at tables t) low high limit found)) holds.is h in
    first within (within_fit tables rows t holds.keeps within all) (subst (λ (a : Access). pairs_within (content_pairs tables rows others) low high ≡ map (pair_of t (table_at tables t) a) within) is range)

pub named_first : (tables : List Table) (t index : ℕ) (access : Access) (low high : List ℕ) (limit : ℕ) (a b : World) (o e : ℕ) (values items : List (List Value)) → access ≡ Secondary index → Reads a b o e → items ≡ values → IfSome a.told (AreFirstValues t (table_at tables t) (Secondary index) low high limit values) → (result : Result (List (List Value)) Broke)
    → IfOk result (λ named. (rows : Rows) (others : List Pair) (wanted : List (List Value)) → HoldsRows b.told tables rows others → AllByRecursion (λ row. In row (rows_of t rows)) wanted → items ≡ map (values_of (index_sequence (table_at tables t) (index_numbered (table_at tables t) index))) wanted → named ≡ wanted)
    → IfOk result (FindsFirst tables t access low high limit a.told)
named_first tables t index access low high limit a b o e values items is reads same read (Err error) h = tt
named_first tables t index access low high limit a b o e values items is reads same read (Ok named) h = λ rows others within holds all range.
    let table = table_at tables t in
    let first = subst (λ (o : Option Content). IfSome o (AreFirstValues t table (Secondary index) low high limit values)) holds.is read in
    let found = first within (within_fit tables rows t holds.keeps within all) (subst (λ (a : Access). pairs_within (content_pairs tables rows others) low high ≡ map (pair_of t table a) within) is range) in
    h rows others (take limit within) (holds_later a b o e tables rows others reads holds) (within_taken (λ row. In row (rows_of t rows)) limit within all)
    (same ∙ found)
