-- From the changes for a row that goes and one that comes to those of a write.
use Rattle.std.proofs.Common.{◌≡◌, List, [], ◌++◌, map, Option, None, Ok, sym, ap, ◌∙◌, subst, arith}
use Rattle.std.specs.Prelude.{option_map}
use Rattle.pq_base.specs.declared.value.Value.{Value}
use Rattle.pq_schema.specs.Schema.{Schema}
use Rattle.pq_schema.specs.Valid.{IsValid}
use Rattle.pq_content.specs.Pairs.{Pair, Change, changed_content}
use Rattle.pq_content.specs.Standing.{change_of}
use Rattle.pq_content.specs.Tables.{Rows}
use Rattle.pq_store.specs.Content.{Content}
use Rattle.pq_index_keep.specs.Effects.{effect, changes_of}
use Rattle.pq_index_keep.specs.Sound.{IsWrite}
use Rattle.pq_index_keep.specs.declared.plan.Planned.{Planned}
use Rattle.pq_index_keep.specs.declared.plan.Planned.TheVariants.{Changes, Refused}
use Rattle.pq_index_keep.specs.declared.write.Write.{Write}
use Rattle.pq_tallies.specs.Counters.{all_pairs, HoldsCounted}
use Rattle.pq_tallies.specs.Defined.{counters_in}
use Rattle.pq_tallies.specs.Writes.{written_table, old_row, new_row, counter_changes, counter_full, full_refusal}
use Rattle.pq_counters.specs.Bounds.{all_moves}
use Rattle.pq_counters.specs.Promises.{Counts, MakesCounts}
use Rattle.pq_counters.specs.Steps.{PlansMoves}
use Rattle.pq_tallies.proofs.Counting.{whole_write, few_after}
use Rattle.pq_counters.proofs.Moving.{write_within, nothing_moves}

-- what the steps plan is what the write counts
module _ (told : Option Content) (schema : Schema) (rows made : Rows) (others : List Pair) (w : Write) (v : IsValid schema) (may : IsWrite schema.tables w) (s : HoldsCounted told schema rows others) (is : effect schema.tables rows w ≡ Ok made) where
  by_write : (planned : Planned) → PlansMoves (counters_in schema) rows (written_table w) (old_row schema.tables rows w) (new_row schema.tables rows w) planned → Counts schema rows others w made planned
  unfolding counter_changes full_refusal
  by_write (Changes changes) h =
      let same : map change_of changes ≡ counter_changes schema rows w = h.0 in
      let none : full_refusal schema rows w ≡ None = ap (option_map counter_full) h.1 in
      record {
        changes_are = same;
        no_full = none;
        content = ap (λ (l : List Change). changed_content (changes_of schema.tables rows w ++ l) (all_pairs schema.tables (counters_in schema) rows others)) same
            ∙ whole_write schema rows made w s.keeps is others v s.beside may;
        few = few_after schema rows made w s.keeps is s.few none;
      }
  by_write (Refused why) h = h

  pub write_counts : (old new : Option (List Value)) (planned : Planned) → old_row schema.tables rows w ≡ old → new_row schema.tables rows w ≡ new → PlansMoves (counters_in schema) rows (written_table w) old new planned → Counts schema rows others w made planned
  write_counts old new planned was comes h =
      by_write planned
      (subst (λ (o : Option (List Value)). PlansMoves (counters_in schema) rows (written_table w) o (new_row schema.tables rows w) planned) (sym was)
      (subst (λ (o : Option (List Value)). PlansMoves (counters_in schema) rows (written_table w) old o planned) (sym comes) h))

  -- a write of which no counter's group changes
  pub nothing_counts : all_moves (counters_in schema) w ≡ 0 → MakesCounts schema rows others w made []
  nothing_counts zero =
      let most = write_within schema.tables rows (counters_in schema) w in
      let still = nothing_moves rows (written_table w) (old_row schema.tables rows w) (new_row schema.tables rows w) (counters_in schema) (omega arith) in
      by_write (Changes []) (sym still.0, still.1)
