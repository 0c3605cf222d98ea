-- The relations of FROM and the columns that are named are there.
use Rattle.std.proofs.Common.{◌≡◌, ℕ, ◌+◌, ◌≤◌, Bool, false, inl, List, [], ◌∷◌, ◌++◌, length, map, filter_map, position, option_map, Option, Some, None, Result, Ok, Err, refl, subst, arith}
use Rattle.std.specs.Prelude.{IfSome, IfOk}
use Rattle.std.specs.List.{AllByRecursion, IsDistinct, list_any}
use Rattle.std.specs.Str.{bytes_eq}
use Rattle.std.proofs.lemmas.Bool.{or_parts}
use Rattle.std.proofs.lemmas.List.Quantifiers.{position-Some}
use Rattle.std.proofs.lemmas.Option.{none-some, same_Some}
use Rattle.pq_base.specs.declared.refusal.Stopped.{Stopped}
use Rattle.pq_base.specs.Answers.{Answers}
use Rattle.pq_base.specs.declared.refusal.Refusal.TheVariants as refusal
use Rattle.pq_base.specs.declared.value.ColType.TheVariants as type
use Rattle.pq_schema.specs.ColumnNames.{no_column}
use Rattle.pq_schema.specs.Definitions.{refused_if}
use Rattle.pq_schema.specs.Relations.{no_relation}
use Rattle.pq_schema.specs.Resolved.{IsRelation}
use Rattle.pq_schema.specs.Schema.{Schema, find_table, find_column, has_name}
use Rattle.pq_schema.specs.declared.query.ColRef.{ColRef}
use Rattle.pq_schema.specs.declared.query.Relation.{Relation}
use Rattle.pq_schema.specs.declared.table.Table.{Table}
use Rattle.pq_schema.proofs.Numbered.{table_there}
use Rattle.pq_base.specs.Members.{In}
use Rattle.pq_base.proofs.Members.{in_range}
use Rattle.pq_query_read.specs.declared.select.RefDef.{RefDef}
use Rattle.pq_query_read.specs.declared.select.RelationDef.{RelationDef}
use Rattle.pq_query_read.proofs.Spelled.{IsRelationDef}
use Rattle.pq_query_read.specs.Trying.{◌>>=◌, or_refused, passed_unless, each_after}
use Rattle.pq_query_read.proofs.Parameters.{in_found}
use Rattle.pq_query_read.proofs.Trying.{SameOk, both, there, not_so, same_answer, each_keeps}
use Rattle.pq_query_read.specs.Columns.{columns_at, has_alias, IsIn, numbers, named_in, only, ref_by, ref_of}
use Rattle.pq_query_read.specs.Resolving.{alias_of, relation_of}

-- ---- lists whose keys differ

pub push_each : {X : Type 0} (P : X → Type 0) (xs : List X) (y : X) → AllByRecursion P xs → P y → AllByRecursion P (xs ++ y ∷ [])
push_each P [] y all at = (at, tt)
push_each P (x ∷ xs) y all at = (all.0, push_each P xs y all.1 at)

push_mapped : {X K : Type 0} (P : K → Type 0) (g : X → K) (xs : List X) (y : X) → AllByRecursion P (map g xs) → P (g y) → AllByRecursion P (map g (xs ++ y ∷ []))
push_mapped P g [] y all at = (at, tt)
push_mapped P g (x ∷ xs) y all at = (all.0, push_mapped P g xs y all.1 at)

-- one more, whose key none of them has
pub distinct_push : {X K : Type 0} (e : K → K → Bool) (g : X → K) (xs : List X) (y : X) → list_any (λ x. e (g x) (g y)) xs ≡ false → IsDistinct e (map g xs) → IsDistinct e (map g (xs ++ y ∷ []))
unfolding IsDistinct
distinct_push e g [] y none all = (tt, tt)
distinct_push e g (x ∷ xs) y none all =
    let parts = or_parts (e (g x) (g y)) (list_any (λ x. e (g x) (g y)) xs) none in
    (push_mapped (λ k. e (g x) k ≡ false) g xs y all.0 parts.0, distinct_push e g xs y parts.1 all.1)

pub nothing_distinct : {K : Type 0} (e : K → K → Bool) → IsDistinct e []
unfolding IsDistinct
nothing_distinct e = tt

-- ---- FROM

module _ (schema : Schema) where
  record AreApart (relations : List Relation) : Type 0 where
    all : AllByRecursion (IsRelation schema.tables) relations
    apart : IsDistinct bytes_eq (map (λ relation. relation.alias) relations)

  relation_kept : (before : List Relation) (def : RelationDef) (relation : Relation) → IsRelationDef def → AreApart before → relation_of schema before def ≡ Ok relation → AreApart (before ++ relation ∷ [])
  relation_kept before def relation name known is =
      subst (λ (r : Relation). AreApart (before ++ r ∷ [])) (same_answer made relation ends.2) (record {
        all = push_each (IsRelation schema.tables) before made known.all (record { from_one = number.0; there = number.1; alias = name });
        apart = distinct_push bytes_eq (λ relation. relation.alias) before made free known.apart;
      })
    where
      starts : (table : ℕ) × (or_refused (refusal.NoTable def.table) (find_table schema def.table) ≡ Ok table) × ((passed_unless (refused_if (list_any (has_alias (alias_of def)) before) (refusal.Alias (alias_of def))) >>= λ free. Ok (record { table = table; alias = alias_of def })) ≡ Ok relation)
      starts = both (or_refused (refusal.NoTable def.table) (find_table schema def.table)) (λ table. passed_unless (refused_if (list_any (has_alias (alias_of def)) before) (refusal.Alias (alias_of def))) >>= λ free. Ok (record { table = table; alias = alias_of def })) relation is

      made : Relation
      made = record { table = starts.0; alias = alias_of def }

      ends : (u : Unit {0}) × (passed_unless (refused_if (list_any (has_alias (alias_of def)) before) (refusal.Alias (alias_of def))) ≡ Ok u) × SameOk made relation
      ends = both (passed_unless (refused_if (list_any (has_alias (alias_of def)) before) (refusal.Alias (alias_of def)))) (λ free. Ok made) relation starts.2

      number : (1 ≤ starts.0) × (starts.0 ≤ length schema.tables)
      number = subst (λ (o : Option ℕ). IfSome o (λ n. (1 ≤ n) × (n ≤ length schema.tables))) (there (refusal.NoTable def.table) (find_table schema def.table) starts.0 starts.1) (table_there schema def.table)

      free : list_any (has_alias (alias_of def)) before ≡ false
      free = not_so (list_any (has_alias (alias_of def)) before) (refusal.Alias (alias_of def)) ends.0 ends.1

  pub relations_made : (defs : List RelationDef) (relations : List Relation) → AllByRecursion IsRelationDef defs → each_after (relation_of schema) [] defs ≡ Ok relations
      → AllByRecursion (IsRelation schema.tables) relations × IsDistinct bytes_eq (map (λ relation. relation.alias) relations)
  relations_made defs relations names is =
      let made = each_keeps (relation_of schema) IsRelationDef AreApart relation_kept defs [] relations names (record { all = tt; apart = nothing_distinct bytes_eq }) is in
      (made.all, made.apart)

-- ---- lists

only_one : (refs : List ColRef) (ref : ColRef) → only refs ≡ Some ref → In ref refs
only_one [] ref is = absurd (none-some ref is)
only_one (r ∷ []) ref is = inl (same_Some r ref is)
only_one (r ∷ s ∷ rs) ref is = absurd (none-some ref is)

-- ---- columns

module _ (tables : List Table) (relations : List Relation) where
  named_found : (name : List ℕ) (rel : ℕ) (ref : ColRef) → 1 ≤ rel → rel ≤ length relations → named_in tables relations name rel ≡ Some ref → IsIn tables relations ref
  named_found name rel ref low high is = by (find_column (columns_at tables relations rel) name) refl is
    where
      by : (o : Option ℕ) → find_column (columns_at tables relations rel) name ≡ o → option_map (λ col. record { rel = rel; col = col }) o ≡ Some ref → IsIn tables relations ref
      by None at is = absurd (none-some ref is)
      by (Some col) at is =
          let within = (position-Some (has_name name) (columns_at tables relations rel) col (record { name = []; ty = type.Bool }) at).0 in
          subst (IsIn tables relations) (same_Some (record { rel = rel; col = col }) ref is) (record { from_one = low; there = high; inside = within })

  pub ref_found : (def : RefDef) (ref : ColRef) → ref_of tables relations def ≡ Ok ref → IsIn tables relations ref
  ref_found def ref is = by def.second is
    where
      by : (second : Option (List ℕ)) → ref_by tables relations def.first second ≡ Ok ref → IsIn tables relations ref
      by None is =
          let one = only_one (filter_map (named_in tables relations def.first) (numbers tables relations)) ref (there (no_column def.first) (only (filter_map (named_in tables relations def.first) (numbers tables relations))) ref is) in
          let at = in_found (named_in tables relations def.first) ref (numbers tables relations) one in
          let range = in_range at.0 1 (length relations) at.1 in
          named_found def.first at.0 ref range.0 (let high = range.1 in omega (arith, high)) at.2
      by (Some name) is =
          let parts = both (or_refused (refusal.Alias def.first) (position (has_alias def.first) relations)) (λ place. or_refused (no_column name) (named_in tables relations name (place + 1))) ref is in
          let at = (position-Some (has_alias def.first) relations parts.0 no_relation (there (refusal.Alias def.first) (position (has_alias def.first) relations) parts.0 parts.1)).0 in
          named_found name (parts.0 + 1) ref (omega arith) (omega (arith, at)) (there (no_column name) (named_in tables relations name (parts.0 + 1)) ref parts.2)

  ref_named : (before : List ColRef) (def : RefDef) (ref : ColRef) → Unit {0} → AllByRecursion (IsIn tables relations) before → ref_of tables relations def ≡ Ok ref → AllByRecursion (IsIn tables relations) (before ++ ref ∷ [])
  ref_named before def ref u all is = push_each (IsIn tables relations) before ref all (ref_found def ref is)

  any_def : (defs : List RefDef) → AllByRecursion (λ def. Unit {0}) defs
  any_def [] = tt
  any_def (def ∷ defs) = (tt, any_def defs)

  pub refs_found : (defs : List RefDef) (refs : List ColRef) → each_after (λ before def. ref_of tables relations def) [] defs ≡ Ok refs → AllByRecursion (IsIn tables relations) refs
  refs_found defs refs is = each_keeps (λ before def. ref_of tables relations def) (λ def. Unit {0}) (AllByRecursion (IsIn tables relations)) ref_named defs [] refs (any_def defs) tt is

  pub answer_there : (first : List ℕ) (second : Option (List ℕ)) (r : Result ColRef Stopped) → Answers r (ref_by tables relations first second) → IfOk r (IsIn tables relations)
  answer_there first second (Ok ref) is = ref_found (record { first = first; second = second }) ref is
  answer_there first second (Err e) is = tt
