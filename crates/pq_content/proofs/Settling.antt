-- Changes that are written by an intent, and what a content settles to at each moment.
use Rattle.std.proofs.Common.{◌≡◌, ℕ, ◌+◌, true, false, cond, ◌||◌, List, [], ◌∷◌, ◌++◌, map, Option, Some, None, MatchOption, take, refl, sym, ap, ◌∙◌, subst}
use Rattle.std.specs.Ordering.{eq_by_cmp}
use Rattle.std.specs.List.{AllByRecursion}
use Rattle.std.specs.Cmp.Lexicographic.{nat_list_cmp_total}
use Rattle.std.specs.FinMap.{get, insert, remove, get-insert, get-remove}
use Rattle.std.proofs.lemmas.Bool.{false≢true}
use Rattle.pq_row_code.specs.declared.changes.Change.{Change as Coded}
use Rattle.pq_row_code.specs.Changes.{changes_code, AreChanges}
use Rattle.pq_row_code.proofs.ChangeLists.{changes_code_injective}
use Rattle.pq_base.specs.declared.value.Value.{Value}
use Rattle.pq_schema.specs.declared.table.Index.{Index}
use Rattle.pq_schema.specs.declared.table.Table.{Table}
use Rattle.pq_schema.specs.Sequences.{index_sequence}
use Rattle.pq_content.specs.Pairs.{Pair, Change, changed_content, puts, removals, entry_pair, entries_from, pairs_of_row, entry_changes, update_changes, is_of_rows, is_of_counters}
use Rattle.pq_store.specs.Content.{key_cmp, Content}
use Rattle.pq_content.specs.Tables.{same_values, values_of}
use Rattle.pq_content.specs.Standing.{change_of, AreIntended, IsIntent, SettlesTo, may_intend, AreOfRows}
use Rattle.pq_key_code.specs.KeyCode.{intent_key}
use Rattle.pq_content.proofs.Changes.{same_content, after, get-changed, touches, after_untouched, changed_again, untouched_before}
use Rattle.pq_content.proofs.Keys.{key_itself, same_key}

-- ---- the intent's key among changes of other keys

-- no change that an intent may hold is of the intent's key
pub no_intent_change : (cs : List Change) → AreIntended cs → touches cs intent_key ≡ false
no_intent_change [] h = refl
no_intent_change (c ∷ cs) h =
    elim (eq_by_cmp key_cmp intent_key c.0) as (λ b. eq_by_cmp key_cmp intent_key c.0 ≡ b → (b || touches cs intent_key) ≡ false) [
      | true ↦ λ is. absurd (false≢true (ap may_intend (same_key intent_key c.0 is) ∙ h.0))
      | false ↦ λ _. no_intent_change cs h.1
    ] refl

get-without_intent : (c : Content) (v : List ℕ) (q : List ℕ) → get c intent_key ≡ None → get (remove (insert c intent_key v) intent_key) q ≡ get c q
get-without_intent c v q none =
    get-remove nat_list_cmp_total (insert c intent_key v) intent_key q
    ∙ ap (cond (eq_by_cmp key_cmp q intent_key) None) (get-insert nat_list_cmp_total c intent_key v q)
    ∙ elim (eq_by_cmp key_cmp q intent_key) as (λ b. eq_by_cmp key_cmp q intent_key ≡ b → cond b None (cond b (Some v) (get c q)) ≡ get c q) [
      | true ↦ λ is. sym none ∙ ap (get c) (sym (same_key q intent_key is))
      | false ↦ λ _. refl
    ] refl

pub intent_removed : (c : Content) (v : List ℕ) → get c intent_key ≡ None → remove (insert c intent_key v) intent_key ≡ c
intent_removed c v none = same_content _ _ (λ q. get-without_intent c v q none)

-- changes of other keys and the removal of the intent can change places
pub changed-remove : (cs : List Change) (c : Content) → touches cs intent_key ≡ false → remove (changed_content cs c) intent_key ≡ changed_content cs (remove c intent_key)
changed-remove cs c other = same_content _ _ (λ q.
    get-remove nat_list_cmp_total (changed_content cs c) intent_key q
    ∙ ap (cond (eq_by_cmp key_cmp q intent_key) None) (get-changed cs c q)
    ∙ elim (eq_by_cmp key_cmp q intent_key) as (λ b. eq_by_cmp key_cmp q intent_key ≡ b → cond b None (after cs q (get c q)) ≡ after cs q (cond b None (get c q))) [
      | true ↦ λ is. sym (after_untouched cs q None (ap (touches cs) (same_key q intent_key is) ∙ other))
      | false ↦ λ _. refl
    ] refl
    ∙ ap (after cs q) (sym (get-remove nat_list_cmp_total c intent_key q))
    ∙ sym (get-changed cs (remove c intent_key) q))

pub get-intent : (cs : List Change) (c : Content) → touches cs intent_key ≡ false → get (changed_content cs c) intent_key ≡ get c intent_key
get-intent cs c other = get-changed cs c intent_key ∙ after_untouched cs intent_key (get c intent_key) other

-- ---- a commit

-- from the write of the intent on, the content settles to the changed one, whichever changes are made
pub settles_partway : (c : Content) (cs : List Coded) (n : ℕ) → get c intent_key ≡ None → AreChanges cs → AreIntended (map change_of cs) → SettlesTo (changed_content (take n (map change_of cs)) (insert c intent_key (changes_code cs))) (changed_content (map change_of cs) c)
unfolding SettlesTo
settles_partway c cs n none coded intended =
    let all = map change_of cs in
    let v = changes_code cs in
    let start = insert c intent_key v in
    let now = changed_content (take n all) start in
    let goal = changed_content all c in
    let other : touches all intent_key ≡ false = no_intent_change all intended in
    let early : touches (take n all) intent_key ≡ false = untouched_before n all intent_key other in
    let found : get now intent_key ≡ Some v =
    get-intent (take n all) start early
    ∙ get-insert nat_list_cmp_total c intent_key v intent_key
    ∙ ap (λ b. cond b (Some v) (get c intent_key)) (key_itself intent_key) in
    let makes : goal ≡ remove (changed_content all now) intent_key =
    ap (changed_content all) (sym (intent_removed c v none))
    ∙ sym (changed-remove all start other)
    ∙ ap (λ (x : Content). remove x intent_key) (sym (changed_again n all start)) in
    subst (λ (o : Option (List ℕ)). MatchOption o (goal ≡ now) (IsIntent now goal)) (sym found) (record { changes = cs; code = refl; coded = coded; intended = intended; makes = makes })

-- and after the removal of the intent it is the changed one
pub settled_at_last : (c : Content) (cs : List Change) (v : List ℕ) → get c intent_key ≡ None → AreIntended cs → remove (changed_content cs (insert c intent_key v)) intent_key ≡ changed_content cs c
settled_at_last c cs v none intended = changed-remove cs (insert c intent_key v) (no_intent_change cs intended) ∙ ap (changed_content cs) (intent_removed c v none)

-- no intent is there after it
pub no_intent_after : (c : Content) (cs : List Change) → get c intent_key ≡ None → AreIntended cs → get (changed_content cs c) intent_key ≡ None
no_intent_after c cs none intended = get-intent cs c (no_intent_change cs intended) ∙ none

-- ---- an opening

-- where an intent is found, what the content settles to stays the same at each call that makes its changes
pub settles_again : (c p : Content) (v : List ℕ) (n : ℕ) (intent : IsIntent c p v) → get c intent_key ≡ Some v → SettlesTo (changed_content (take n (map change_of intent.changes)) c) p
unfolding SettlesTo
settles_again c p v n intent found =
    let all = map change_of intent.changes in
    let now = changed_content (take n all) c in
    let other : touches all intent_key ≡ false = no_intent_change all intent.intended in
    let still : get now intent_key ≡ Some v = get-intent (take n all) c (untouched_before n all intent_key other) ∙ found in
    subst (λ (o : Option (List ℕ)). MatchOption o (p ≡ now) (IsIntent now p)) (sym still) (record { changes = intent.changes; code = intent.code; coded = intent.coded; intended = intent.intended; makes = intent.makes ∙ ap (λ (x : Content). remove x intent_key) (sym (changed_again n all c)) })

-- an intent's value tells its changes
pub one_intent : (c p : Content) (v : List ℕ) (intent : IsIntent c p v) (cs : List Coded) → AreChanges cs → v ≡ changes_code cs → p ≡ remove (changed_content (map change_of cs) c) intent_key
one_intent c p v intent cs coded code =
    intent.makes ∙ ap (λ (ds : List Coded). remove (changed_content (map change_of ds) c) intent_key) (changes_code_injective intent.changes cs intent.coded coded (sym intent.code ∙ code))

-- a content settles to one
pub settles_once : (c p r : Content) → SettlesTo c p → SettlesTo c r → p ≡ r
unfolding SettlesTo
settles_once c p r g h =
    elim (get c intent_key) as (λ o. MatchOption o (p ≡ c) (IsIntent c p) → MatchOption o (r ≡ c) (IsIntent c r) → p ≡ r) [
      | None ↦ λ g h. g ∙ sym h
      | Some v ↦ λ g h. one_intent c p v g h.changes h.coded h.code ∙ sym h.makes
    ] g h

-- a content with no intent settles to itself, and to nothing else
pub settles_to_itself : (c : Content) → get c intent_key ≡ None → SettlesTo c c
unfolding SettlesTo
settles_to_itself c none = subst (λ (o : Option (List ℕ)). MatchOption o (c ≡ c) (IsIntent c c)) (sym none) refl

-- where an intent is found, it is of this content
pub intent_found : (c p : Content) (v : List ℕ) → get c intent_key ≡ Some v → SettlesTo c p → IsIntent c p v
unfolding SettlesTo
intent_found c p v found h = subst (λ (o : Option (List ℕ)). MatchOption o (p ≡ c) (IsIntent c p)) found h

-- ---- changes of rows

-- the key of each pair of a row is of rows or entries
abbrev IsRowKey : List ℕ → Type 0
IsRowKey key = is_of_rows key ≡ true

-- what a write may change, an intent may hold
pub rows_intended : (cs : List Change) → AreOfRows cs → AreIntended cs
rows_intended [] h = tt
rows_intended (c ∷ cs) h = (ap (λ of. of || is_of_counters c.0) h.0, rows_intended cs h.1)

entries_of_rows : (t i : ℕ) (table : Table) (indexes : List Index) (row : List Value) → AllByRecursion (λ (pair : Pair). IsRowKey pair.0) (entries_from t i table indexes row)
entries_of_rows t i table [] row = tt
entries_of_rows t i table (index ∷ indexes) row = (refl, entries_of_rows t (i + 1) table indexes row)

pairs_of_rows : (t : ℕ) (table : Table) (row : List Value) → AllByRecursion (λ (pair : Pair). IsRowKey pair.0) (pairs_of_row t table row)
pairs_of_rows t table row = (refl, entries_of_rows t 1 table table.indexes row)

puts_of : (ps : List Pair) → AllByRecursion (λ (pair : Pair). IsRowKey pair.0) ps → AreOfRows (puts ps)
puts_of [] h = tt
puts_of (p ∷ ps) h = (h.0, puts_of ps h.1)

removals_of : (ps : List Pair) → AllByRecursion (λ (pair : Pair). IsRowKey pair.0) ps → AreOfRows (removals ps)
removals_of [] h = tt
removals_of (p ∷ ps) h = (h.0, removals_of ps h.1)

-- the changes of an insert, of a delete and of an update
pub inserts_of_rows : (t : ℕ) (table : Table) (row : List Value) → AreOfRows (puts (pairs_of_row t table row))
inserts_of_rows t table row = puts_of (pairs_of_row t table row) (pairs_of_rows t table row)

pub deletes_of_rows : (t : ℕ) (table : Table) (row : List Value) → AreOfRows (removals (pairs_of_row t table row))
deletes_of_rows t table row = removals_of (pairs_of_row t table row) (pairs_of_rows t table row)

entry_changes_of_rows : (t i : ℕ) (table : Table) (indexes : List Index) (old new : List Value) → AreOfRows (entry_changes t i table indexes old new)
entry_changes_of_rows t i table [] old new = tt
entry_changes_of_rows t i table (index ∷ indexes) old new =
    let sequence = index_sequence table index in
    let rest = entry_changes_of_rows t (i + 1) table indexes old new in
    elim (same_values (values_of sequence old) (values_of sequence new)) as (λ b. AreOfRows (cond b [] (((entry_pair t i sequence old).0, None) ∷ ((entry_pair t i sequence new).0, Some []) ∷ []) ++ entry_changes t (i + 1) table indexes old new)) [
      | true ↦ rest
      | false ↦ (refl, (refl, rest))
    ]

pub updates_of_rows : (t : ℕ) (table : Table) (old new : List Value) → AreOfRows (update_changes t table old new)
updates_of_rows t table old new = (refl, entry_changes_of_rows t 1 table table.indexes old new)
