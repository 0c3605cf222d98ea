-- What a told content has at the keys of groups.
use Rattle.std.proofs.Common.{◌≡◌, ℕ, ◌≤◌, true, false, cond, ◌==◌, List, Option, Some, None, refl, sym, ◌∙◌, subst, arith}
use Rattle.std.specs.Prelude.{IfSome}
use Rattle.std.specs.FinMap.{get}
use Rattle.std.proofs.lemmas.Bool.{eqb-true}
use Rattle.pq_base.specs.declared.value.Value.{Value}
use Rattle.pq_base.specs.Members.{In}
use Rattle.pq_base.proofs.Members.{each_in}
use Rattle.pq_schema.specs.Schema.{Schema}
use Rattle.pq_schema.specs.Valid.{IsValid}
use Rattle.pq_content.specs.Pairs.{Pair}
use Rattle.pq_content.specs.Tables.{Rows, AllOfKinds}
use Rattle.pq_store.specs.Content.{Content}
use Rattle.pq_tallies.specs.Counters.{tally, most_count, counter_key, count_code, stored_count, all_pairs, HoldsCounted}
use Rattle.pq_tallies.specs.Defined.{NumberedCounter, counters_in, group_types}
use Rattle.pq_tallies.proofs.Defined.{schema_counters}
use Rattle.pq_tallies.proofs.Told.{code_apart, get_group}
use Rattle.pq_counters.specs.Evidence.{IsCounted}
use Rattle.pq_counters.specs.Steps.{TellsCount}

pub tells_count : (told : Option Content) (schema : Schema) (rows : Rows) (others : List Pair) (c : NumberedCounter) (v : List Value) → IsValid schema → HoldsCounted told schema rows others → In c (counters_in schema) → AllOfKinds (group_types schema.tables c) v → TellsCount told (counter_key c.number v) (tally rows c v)
tells_count told schema rows others c v valid h i kinds = record {
  content = all_pairs schema.tables (counters_in schema) rows others;
  is = h.is;
  has = get_group schema.tables (counters_in schema) rows others c v h.keeps (schema_counters schema valid) h.beside i kinds;
  few = each_in (λ (d : NumberedCounter). (values : List Value) → tally rows d values ≤ most_count) (counters_in schema) h.few c i v;
}

-- what is read of a group is its number of rows
pub counted_is : (m n : ℕ) → m ≤ most_count → n ≤ most_count → IsCounted (stored_count n) m → m ≡ n
counted_is m n few most h =
    elim (n == 0) as (λ b. (n == 0) ≡ b → IsCounted (cond b None (Some (count_code n))) m → m ≡ n) [
      | true ↦ λ is read. read ∙ sym (none n is)
      | false ↦ λ _ read. code_apart m n (omega arith) (omega arith) read.0
    ] refl h
  where
    none : (n : ℕ) → (n == 0) ≡ true → n ≡ 0
    none n is = omega (arith, eqb-true n 0 is)

-- the number that was read is the one that the content tells
pub told_is : (told : Option Content) (key : List ℕ) (m n : ℕ) → IfSome told (λ content. IsCounted (get content key) m) → m ≤ most_count → TellsCount told key n → m ≡ n
told_is told key m n read few t =
    let here : IsCounted (get t.content key) m = subst (λ (o : Option Content). IfSome o (λ content. IsCounted (get content key) m)) t.is read in
    counted_is m n few t.few (subst (λ (o : Option (List ℕ)). IsCounted o m) t.has here)
