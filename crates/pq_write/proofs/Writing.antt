-- What a write makes of what a content stands for.
use Rattle.std.proofs.Common.{◌≡◌, ℕ, List, [], Option, Some, None, Result, Ok, Err, refl, sym, ap, ◌∙◌, subst, inl, inr, ◌⊎◌}
use Rattle.std.specs.Prelude.{MatchResult, IfSome}
use Rattle.pq_base.specs.declared.number.Bound.{Bound}
use Rattle.pq_base.specs.declared.refusal.Refusal.{Refusal}
use Rattle.pq_row_code.specs.declared.changes.Change.{Change}
use Rattle.pq_schema.specs.Schema.{Schema}
use Rattle.pq_print.specs.declared.report.End.TheVariants as end
use Rattle.pq_content.specs.Pairs.{Pair, HoldsRows, content_pairs}
use Rattle.pq_content.specs.Tables.{Rows, Keeps}
use Rattle.pq_store.specs.Content.{Content}
use Rattle.pq_store.specs.Counts.{Counts, AllowedCounts}
use Rattle.pq_store.specs.Breaks.{IsUndamaged}
use Rattle.pq_store.specs.declared.damage.Broke.{Broke}
use Rattle.pq_store.specs.declared.damage.Broke.TheVariants as broke
use Rattle.pq_intent.specs.Settling.{HasIntent}
use Rattle.pq_index_keep.specs.declared.plan.Planned.{Planned}
use Rattle.pq_index_keep.specs.declared.plan.Planned.TheVariants as planned
use Rattle.pq_index_keep.specs.declared.write.Write.{Write}
use Rattle.pq_tallies.specs.Counters.{HoldsCounted}
use Rattle.pq_tallies.specs.Writes.{counted_effect}
use Rattle.pq_counters.specs.Bounds.{whole_bound}
use Rattle.pq_counters.specs.Evidence.{ShowsCounted}
use Rattle.pq_counters.specs.Whole.{ChangesWhole, HasWhole, MakesWhole, PlansWhole}
use Rattle.pq_calls.specs.World.{world, Explains, Reads, where_told}
use Rattle.pq_nodes.specs.Operators.{no_row}
use Rattle.pq_catalog.specs.Model.{Model}
use Rattle.pq_statement.specs.Actions.{Writes}
use Rattle.pq_reports.specs.Evidence.{TellsEvidence}
use Rattle.pq_reports.specs.Promise.{LacksMemory}
use Rattle.pq_reports.specs.Step.{action_step, report_of, report_step, effected_as, write_step}
use Rattle.pq_catalog.specs.Stands.{Stands, content_of, catalog_pairs, others_of}
use Rattle.pq_catalog.proofs.Counted.{others_beside, settled_counted}
use Rattle.pq_write.proofs.Changing.{IsChange, MakesStep}

pub settled_rows : (old : Option Content) (schema : Schema) (m : Model) → Stands old schema m → HoldsRows old schema.tables m.rows (others_of m)
unfolding content_of
settled_rows old schema m s = record {
  keeps = subst (λ (x : Schema). Keeps x.tables m.rows) (sym s.known) s.settled.keeps;
  beside = others_beside m;
  is = s.settled.told ∙ ap (λ (x : Schema). Some (content_pairs x.tables m.rows (others_of m))) (sym s.known);
}

-- ---- what the plan is told of the content

abbrev pub Planning : Option Content → Schema → Write → Planned → Type 0
Planning old schema write q = (rows : Rows) (others : List Pair) → HoldsCounted old schema rows others → PlansWhole schema rows others write q

write_lacks : (write : Write) (old now : Option Content) (error : Broke) → (error ≡ broke.NoMem → (now ≡ old) ⊎ HasIntent now) → LacksMemory (Ok (Writes write)) old now error
write_lacks write old now broke.Failed lacks = tt
write_lacks write old now broke.NoMem lacks = lacks refl
write_lacks write old now (broke.Damaged damage) lacks = tt

module _ (number : ℕ) (write : Write) (schema : Schema) (most : Bound) (is_most : most ≡ whole_bound schema write) where
  pub write_is_change : IsChange schema (Writes write) most (λ content. HasWhole schema (Some content) write)
  write_is_change = record {
    bound = ap (λ (b : Bound). Some b) (sym is_most);
    same = refl;
    writes = λ none. none;
    unread = λ n report. tt;
    lacks = write_lacks write;
    leaves = λ content now stops. stops;
    makes = λ content now report made. made;
    kind = λ report lines. lines;
    rows = λ content before after. tt;
  }

  effected : (m : Model) → schema ≡ m.schema → (made : Result Rows Refusal) → counted_effect schema m.rows write ≡ made → action_step m number (Writes write) ≡ effected_as m number most made
  unfolding write_step
  effected m known made is =
      ap (λ (b : Bound). effected_as m number b (counted_effect m.schema m.rows write)) (ap (λ (x : Schema). whole_bound x write) (sym known) ∙ sym is_most)
      ∙ ap (effected_as m number most) (ap (λ (x : Schema). counted_effect x m.rows write) (sym known) ∙ is)

  -- what is planned over a content that is told
  pub write_planned : (changes : List Change) (old : Option Content) (q : Planned) → q ≡ planned.Changes changes → ChangesWhole schema old write q → IfSome old (λ content. HasWhole schema (Some content) write changes)
  write_planned changes None q is own = tt
  write_planned changes (Some content) q is own = subst (ChangesWhole schema (Some content) write) is own

  -- refused, over a model
  pub write_refused : (why : Refusal) (old : Option Content) (q : Planned) → q ≡ planned.Refused why → Planning old schema write q
      → (m : Model) → Stands old schema m → action_step m number (Writes write) ≡ report_step m (report_of number [] (end.Refused why) most)
  write_refused why old q is answer m s =
      effected m s.known (Err why) (subst (PlansWhole schema m.rows (catalog_pairs schema) write) is (answer m.rows (catalog_pairs schema) (settled_counted old schema m s)))

  -- made
  made_by : (changes : List Change) (m : Model) → schema ≡ m.schema → (r : Result Rows Refusal) → counted_effect schema m.rows write ≡ r → MatchResult r (MakesWhole schema m.rows (catalog_pairs schema) write changes) (λ refusal. ⊥)
      → MakesStep number (Writes write) schema most changes m
  made_by changes m known (Ok made) is makes = record { made = made; content = makes.content; keeps = makes.keeps; few = makes.few; step = effected m known (Ok made) is }
  made_by changes m known (Err why) is makes = absurd makes

  pub write_made : (changes : List Change) (old : Option Content) (q : Planned) → q ≡ planned.Changes changes → Planning old schema write q
      → (m : Model) → Stands old schema m → MakesStep number (Writes write) schema most changes m
  write_made changes old q is answer m s =
      made_by changes m s.known (counted_effect schema m.rows write) refl
      (subst (PlansWhole schema m.rows (catalog_pairs schema) write) is (answer m.rows (catalog_pairs schema) (settled_counted old schema m s)))

-- ---- damage

-- what explains damage shows it
pub explained_shown : (old : Option Content) (schema : Schema) (error : Broke) (f0 f1 : ℕ) (given left : AllowedCounts) (before after : Counts) (now : Option Content) (ops entries : ℕ) → Reads (world old f0 given before) (world now f1 left after) ops entries
    → Explains (where_told (ShowsCounted schema)) (world old f0 given before) (world now f1 left after) error → IfSome old (λ content. TellsEvidence schema content error)
explained_shown None schema error f0 f1 given left before after now ops entries reads explains = tt
explained_shown (Some content) schema broke.Failed f0 f1 given left before after now ops entries reads explains = tt
explained_shown (Some content) schema broke.NoMem f0 f1 given left before after now ops entries reads explains = tt
explained_shown (Some content) schema (broke.Damaged damage) f0 f1 given left before after now ops entries reads (inl none) = inl (no_row none)
explained_shown (Some content) schema (broke.Damaged damage) f0 f1 given left before after now ops entries reads (inr counted) = inr (inl counted)

-- over a content that stands no damage is told
pub settled_sound : (old : Option Content) (schema : Schema) (error : Broke) → ((rows : Rows) (others : List Pair) → HoldsCounted old schema rows others → IsUndamaged error) → (m : Model) → Stands old schema m → IsUndamaged error
settled_sound old schema error undamaged m s = undamaged m.rows (catalog_pairs schema) (settled_counted old schema m s)
