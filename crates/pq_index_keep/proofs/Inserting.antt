-- What an INSERT makes of settled pairs, and what its tests need.
use Rattle.std.proofs.Common.{◌≡◌, ℕ, zero, suc, ◌+◌, ◌-◌, ◌≤◌, ◌<◌, Bool, true, false, cond, not, ◌&&◌, ltb, List, [], ◌∷◌, length, map, get_or, Option, Some, None, refl, sym, ap, subst, ◌∙◌, arith}
use Rattle.std.specs.Prelude.{All, IsSome, MatchResult, find, is_some, is_none, option_map}
use Rattle.std.specs.List.{AllByRecursion, position, prefix_len}
use Rattle.std.proofs.lemmas.Bool.{leb-false, ltb-false, ltb-true}
use Rattle.std.proofs.lemmas.Option.{none-some, same_Some}
use Rattle.pq_base.specs.Answers.{or_else}
use Rattle.pq_base.specs.declared.refusal.Refusal.{Refusal}
use Rattle.pq_base.specs.declared.value.Value.{Value}
use Rattle.pq_base.specs.Values.{AllFit, has_null}
use Rattle.pq_row_code.specs.declared.changes.Change.{Change as Coded}
use Rattle.pq_schema.specs.Definitions.{refused_if, or_ok}
use Rattle.pq_schema.specs.Tables.{no_table, table_at}
use Rattle.pq_schema.specs.declared.table.Foreign.{Foreign}
use Rattle.pq_schema.specs.declared.table.Limit.{Limit}
use Rattle.pq_schema.specs.declared.table.Table.{Table}
use Rattle.pq_content.specs.Pairs.{Pair, Change, pairs_of_row, puts, changed_content, content_pairs}
use Rattle.pq_content.specs.Standing.{change_of}
use Rattle.pq_content.specs.Tables.{Rows, IsTableNumber, HasRoom, HasParent, types_of, types_at, key_types, key_of, cells, row_at, group_of}
use Rattle.pq_content.proofs.Keeping.{keeps_insert}
use Rattle.pq_schema.proofs.TypeKinds.{kinds_as, kinds_flip, kinds_from_fit}
use Rattle.pq_content.proofs.Values.{fit_at}
use Rattle.pq_content.proofs.Writes.{insert_row}
use Rattle.pq_store.specs.Content.{Content}
use Rattle.pq_index_keep.specs.Effects.{effect, changes_of, insert_refusal, lacks_parent, lacks_room, no_parent, no_room, is_missing, is_full}
use Rattle.pq_index_keep.specs.Promises.{HoldsRows, IsTested, MakesRows, Plans}
use Rattle.pq_index_keep.specs.Sound.{AreWritable, IsWritable, IsInsert}
use Rattle.pq_index_keep.specs.declared.plan.Planned.TheVariants as planned
use Rattle.pq_index_keep.specs.declared.write.Scope.TheVariants as scope
use Rattle.pq_index_keep.specs.declared.write.Write.TheVariants as write

-- ---- no refusal

pub or_none : (a b : Option Refusal) → or_else a b ≡ None → (a ≡ None) × (b ≡ None)
or_none None b h = (refl, h)
or_none (Some r) b h = absurd (cc)

pub mapped_none : {X Y : Type 0} (f : X → Y) (o : Option X) → option_map f o ≡ None → o ≡ None
mapped_none f None h = refl
mapped_none f (Some x) h = absurd (cc)

pub first_none : {X : Type 0} (p : X → Bool) (f : X → Refusal) (x : X) (xs : List X) → option_map f (find p (x ∷ xs)) ≡ None → (p x ≡ false) × (option_map f (find p xs) ≡ None)
first_none p f x xs h =
    elim (p x) as (λ b. option_map f (cond b (Some x) (find p xs)) ≡ None → (b ≡ false) × (option_map f (find p xs) ≡ None)) [
      | true ↦ λ e. absurd (cc)
      | false ↦ λ e. (refl, e)
    ] h

pub not_refused : (b : Bool) (why : Refusal) → refused_if b why ≡ None → b ≡ false
not_refused true why h = absurd (cc)
not_refused false why h = refl

all_fail : {X : Type 0} (p : X → Bool) (xs : List X) → length xs ≤ prefix_len (λ x. not (p x)) xs → AllByRecursion (λ x. p x ≡ false) xs
all_fail p [] h = tt
all_fail {X} p (x ∷ xs) h =
    elim (p x) as (λ b. p x ≡ b → suc (length xs) ≤ cond (not b) (1 + prefix_len (λ (y : X). not (p y)) xs) 0 → AllByRecursion (λ (y : X). p y ≡ false) (x ∷ xs)) [
      | true ↦ λ is long. absurd (omega arith)
      | false ↦ λ is long. (is, all_fail p xs (omega arith))
    ] refl h

not_less : (a b : ℕ) → cond (ltb a b) (Some a) None ≡ None → ltb a b ≡ false
not_less a b h = elim (ltb a b) as (λ c. cond c (Some a) None ≡ None → c ≡ false) [ true ↦ λ e. absurd (cc) | false ↦ λ e. refl ] h

pub none_passes : {X : Type 0} (p : X → Bool) (xs : List X) → position p xs ≡ None → AllByRecursion (λ x. p x ≡ false) xs
none_passes {X} p xs h = all_fail p xs (ltb-false (prefix_len (λ (x : X). not (p x)) xs) (length xs) (not_less (prefix_len (λ (x : X). not (p x)) xs) (length xs) h))

inside_of : (a b i : ℕ) → cond (ltb a b) (Some a) None ≡ Some i → i < b
inside_of a b i h = elim (ltb a b) as (λ c. ltb a b ≡ c → cond c (Some a) None ≡ Some i → i < b) [
  | true ↦ λ less e. subst (λ (n : ℕ). n < b) (same_Some a i e) (ltb-true a b less)
  | false ↦ λ less e. absurd (none-some i e)
] refl h

pub position_inside : {X : Type 0} (p : X → Bool) (xs : List X) (i : ℕ) → position p xs ≡ Some i → i < length xs
position_inside {X} p xs i h = inside_of (prefix_len (λ (x : X). not (p x)) xs) (length xs) i h

pub each_weaker : {X : Type 0} (P Q : X → Type 0) → ((x : X) → P x → Q x) → (xs : List X) → AllByRecursion P xs → AllByRecursion Q xs
each_weaker P Q f [] h = tt
each_weaker P Q f (x ∷ xs) h = (f x h.0, each_weaker P Q f xs h.1)

pub each_is : {X : Type 0} (P : X → Type 0) (xs : List X) → AllByRecursion P xs → All P xs
each_is P [] h zero d lt = absurd (omega arith)
each_is P [] h (suc k) d lt = absurd (omega arith)
each_is P (x ∷ xs) h zero d lt = h.0
each_is P (x ∷ xs) h (suc k) d lt = each_is P xs h.1 k d (omega arith)

pub each_by : {X : Type 0} (P : X → Type 0) (xs : List X) → All P xs → AllByRecursion P xs
each_by P [] h = tt
each_by P (x ∷ xs) h = (h zero x (omega arith), each_by P xs (λ k d lt. h (suc k) d (omega arith)))

pub there_is : (o : Option (List Value)) → is_none o ≡ false → IsSome o
there_is None h = absurd (cc)
there_is (Some row) h = refl

pub nothing : (o : Option (List Value)) → is_some o ≡ false → o ≡ None
nothing None h = refl
nothing (Some row) h = absurd (cc)

-- what is asked of values without NULL
pub unless_null : (null b : Bool) → (not null && b) ≡ false → null ≡ false → b ≡ false
unless_null true b h plain = absurd cc
unless_null false b h plain = h

pub has_room : (rows : Rows) (t : ℕ) (row : List Value) (limit : Limit) → (not (has_null (cells limit.cols row)) && is_full rows t row limit) ≡ false → HasRoom t rows row limit
has_room rows t row limit h plain =
    let full = unless_null (has_null (cells limit.cols row)) (is_full rows t row limit) h plain in
    let most = leb-false limit.n (length (group_of t limit.cols (cells limit.cols row) rows)) full in
    omega arith

-- ---- tables over which writes are planned

pub writable_at : (tables : List Table) (t : ℕ) → AreWritable tables → IsTableNumber tables t → IsWritable tables (table_at tables t)
writable_at tables t sound number = sound (t - 1) no_table (omega (arith, number.0, number.1))

pub is_tested : (tables : List Table) (t : ℕ) (row : List Value) → AreWritable tables → IsTableNumber tables t → AllFit (types_of (table_at tables t)) row → IsTested tables (table_at tables t) row
is_tested tables t row sound number fits =
    let table = table_at tables t in
    let w = writable_at tables t sound number in
    record {
      fits = fits;
      parents = λ k d lt.
          let f = get_or table.foreign k d in
          let shape = (w.made.foreign k d lt).shape in
          kinds_as (key_types (table_at tables f.table)) (types_at table.columns f.cols) (cells f.cols row)
          (kinds_flip (key_types (table_at tables f.table)) (types_at table.columns f.cols) ∙ shape)
          (kinds_from_fit (types_at table.columns f.cols) (cells f.cols row) (fit_at table f.cols row fits));
    }

-- ---- the effect

module _ (tables : List Table) (rows : Rows) (others : List Pair) (t : ℕ) (row : List Value) where
  pub insert_refused : (refusal : Refusal) → Some refusal ≡ insert_refusal tables rows t row → Plans tables rows others (write.Insert t row) (planned.Refused refusal)
  unfolding effect
  insert_refused refusal is = ap (λ (o : Option Refusal). or_ok o ((t, row) ∷ rows)) (sym is)

  pub insert_made : (told : Option Content) (changes : List Coded) → HoldsRows told tables rows others → IsInsert tables t row → None ≡ insert_refusal tables rows t row → map change_of changes ≡ puts (pairs_of_row t (table_at tables t) row)
      → Plans tables rows others (write.Insert t row) (planned.Changes changes)
  unfolding effect changes_of
  insert_made told changes s w none made =
      let table = table_at tables t in
      let parts = or_none _ _ (sym none) in
      let tests = or_none _ _ parts.1 in
      let absent : row_at tables rows t (key_of table row) ≡ None = nothing _ (not_refused _ _ parts.0) in
      let parents : AllByRecursion (HasParent tables rows row) table.foreign =
      each_weaker (λ (f : Foreign). lacks_parent tables rows scope.All row f ≡ false) (HasParent tables rows row) (λ f h plain. there_is (row_at tables rows f.table (cells f.cols row)) (unless_null (has_null (cells f.cols row)) (is_missing tables rows row f) h plain)) table.foreign
      (none_passes (lacks_parent tables rows scope.All row) table.foreign (mapped_none (no_parent table) _ tests.0)) in
      let rooms : AllByRecursion (HasRoom t rows row) table.limits =
      each_weaker (λ (l : Limit). lacks_room rows scope.All None t row l ≡ false) (HasRoom t rows row) (λ l h. has_room rows t row l h) table.limits
      (none_passes (lacks_room rows scope.All None t row) table.limits (mapped_none (no_room table) _ tests.1)) in
      let makes : MakesRows tables rows others (write.Insert t row) changes ((t, row) ∷ rows) = record {
        changes_are = made;
        content = ap (λ (cs : List Change). changed_content cs (content_pairs tables rows others)) made ∙ insert_row tables rows others t row;
        keeps = keeps_insert tables rows t row s.keeps w.number w.fits w.short absent rooms parents;
      } in
      subst (λ (o : Option Refusal). MatchResult (or_ok o ((t, row) ∷ rows)) (MakesRows tables rows others (write.Insert t row) changes) (λ (refusal : Refusal). ⊥)) none makes
