-- The range of a group lies within one sequence of its table, so each write that removes pairs removes at most one of it.
use Rattle.std.proofs.Common.{◌≡◌, ◌≤◌, ◌==◌, ℕ, Bool, true, false, ◌&&◌, List, [], ◌∷◌, refl, sym, ◌∙◌, arith}
use Rattle.pq_base.specs.declared.value.Value.{Value}
use Rattle.pq_key_code.specs.KeyCode.{past_code}
use Rattle.pq_schema.specs.declared.table.Access.{Access}
use Rattle.pq_schema.specs.declared.table.Access.TheVariants.{Primary, Secondary}
use Rattle.pq_schema.specs.declared.table.Table.{Table}
use Rattle.pq_content.specs.Pairs.{Change}
use Rattle.pq_content.proofs.Ranges.{in_range, range-cons}
use Rattle.pq_calls.specs.Keys.{sequence_key}
use Rattle.pq_row_keys.specs.Groups.{access_of, group_key, first_values}
use Rattle.pq_pending.specs.Pending.{lies_within, is_of_sequence, removals_within, RemovesAtMost}
use Rattle.pq_pending.proofs.Lists.{removed_within}

first_of : (a b : Bool) → (a && b) ≡ true → a ≡ true
first_of true b h = refl
first_of false b h = h

second_of : (a b : Bool) → (a && b) ≡ true → b ≡ true
second_of true b h = h
second_of false b h = absurd (cc)

-- a key of a range whose ends share a byte begins with it, and the rest lies in the range of the rests
shares : (x y : ℕ) (low high rest : List ℕ) → in_range (x ∷ low) (x ∷ high) (y ∷ rest) ≡ true → ((y == x) && in_range low high rest) ≡ true
shares x y low high rest h = sym (range-cons x y low high rest) ∙ h

within_rows : (t : ℕ) (low high key : List ℕ) → in_range (2 ∷ t ∷ low) (2 ∷ t ∷ high) key ≡ true → is_of_sequence t Primary key ≡ true
within_rows t low high [] h = absurd (cc)
within_rows t low high (space ∷ []) h =
    absurd (cc (second_of (space == 2) _ (shares 2 space (t ∷ low) (t ∷ high) [] h)))
within_rows t low high (space ∷ table ∷ code) h =
    let first = shares 2 space (t ∷ low) (t ∷ high) (table ∷ code) h in
    let rest = shares t table low high code (second_of (space == 2) _ first) in
    (λ i. first_of (space == 2) _ first i && first_of (table == t) _ rest i)

within_entries : (t n : ℕ) (low high key : List ℕ) → in_range (3 ∷ t ∷ n ∷ low) (3 ∷ t ∷ n ∷ high) key ≡ true → is_of_sequence t (Secondary n) key ≡ true
within_entries t n low high [] h = absurd (cc)
within_entries t n low high (space ∷ []) h =
    absurd (cc (second_of (space == 3) _ (shares 3 space (t ∷ n ∷ low) (t ∷ n ∷ high) [] h)))
within_entries t n low high (space ∷ table ∷ []) h =
    let first = shares 3 space (t ∷ n ∷ low) (t ∷ n ∷ high) (table ∷ []) h in
    absurd (cc (second_of (table == t) _ (shares t table (n ∷ low) (n ∷ high) [] (second_of (space == 3) _ first))))
within_entries t n low high (space ∷ table ∷ index ∷ code) h =
    let first = shares 3 space (t ∷ n ∷ low) (t ∷ n ∷ high) (table ∷ index ∷ code) h in
    let second = shares t table (n ∷ low) (n ∷ high) (index ∷ code) (second_of (space == 3) _ first) in
    let third = shares n index low high code (second_of (table == t) _ second) in
    (λ i. first_of (space == 3) _ first i && (first_of (table == t) _ second i && first_of (index == n) _ third i))

-- the keys under these values of a sequence are of it
under_sequence : (t : ℕ) (table : Table) (access : Access) (values : List Value) (key : List ℕ) → lies_within (sequence_key t table access values) (past_code (sequence_key t table access values)) key ≡ true → is_of_sequence t access key ≡ true
under_sequence t table Primary values key h = within_rows t _ _ key h
under_sequence t table (Secondary n) values key h = within_entries t n _ _ key h

-- of the range of a group no more pairs are removed than there are writes that remove pairs
pub group_removals : (t : ℕ) (table : Table) (cols : List ℕ) (values : List Value) (most : ℕ) (changes : List Change) → RemovesAtMost most changes → removals_within (group_key t table cols values) (past_code (group_key t table cols values)) changes ≤ most
unfolding group_key
group_removals t table cols values most changes thin =
    let access = access_of table cols in
    let low = group_key t table cols values in
    let some = removed_within low (past_code low) t access changes (under_sequence t table access (first_values table access cols values)) in
    omega (arith, some, thin t access)
