-- The plan of a write that is made alone: no changes are ahead of it.
use Rattle.std.proofs.Common.{lit≤, ◌≡◌, ℕ, ◌+◌, ◌*◌, ◌≤◌, List, [], Option, Result, sym, ap, ◌∙◌, subst, arith}
use Rattle.std.specs.Prelude.{IfOk, IfErr}
use Rattle.std.proofs.lemmas.Result.{IfOk-weaker, IfErr-weaker}
use Rattle.pq_base.specs.declared.number.Bound.{Bound}
use Rattle.pq_schema.specs.Schema.{Schema}
use Rattle.pq_content.specs.Pairs.{Change, Pair}
use Rattle.pq_content.specs.Tables.{Rows}
use Rattle.pq_store.specs.Breaks.{IsAnswered, IsUndamaged}
use Rattle.pq_store.specs.Content.{Content}
use Rattle.pq_store.specs.Counts.{Counts, AllowedCounts}
use Rattle.pq_store.specs.declared.damage.Broke.{Broke}
use Rattle.pq_store.specs.declared.damage.Damage.{Damage}
use Rattle.pq_calls.specs.World.{world, Affords, Reads, Explains}
use Rattle.pq_pending.specs.Pending.{Ahead, nothing_ahead, seen_content, seen_answers}
use Rattle.pq_pending.proofs.Lists.{seen_none}
use Rattle.pq_index_keep.specs.declared.plan.Planned.{Planned}
use Rattle.pq_index_keep.specs.declared.write.Write.{Write}
use Rattle.pq_tallies.specs.Counters.{HoldsCounted}
use Rattle.pq_counters.specs.Bounds.{whole_bound}
use Rattle.pq_counters.specs.Whole.{ChangesWhole, PlansWhole, reads_behind, whole_reads, whole_rounds}

module _ (ahead : Ahead) (none : ahead ≡ nothing_ahead) where
  pub few_ahead : ahead.removers ≤ 256
  few_ahead = subst (λ (n : ℕ). n ≤ 256) (sym (ap (λ (a : Ahead). a.removers) none)) (lit≤ tt)

  changes_none : ahead.changes ≡ []
  changes_none = ap (λ (a : Ahead). a.changes) none

  seen : (told : Option Content) → seen_content ahead.changes told ≡ told
  seen told = ap (λ (cs : List Change). seen_content cs told) changes_none ∙ seen_none told

  module _ (schema : Schema) (write : Write) where
    alone_bound : (reads_behind ahead.removers schema write).entries ≡ (whole_reads schema write).entries
    alone_bound = ap (λ (a : Ahead). (reads_behind a.removers schema write).entries) none ∙ omega arith

    pub alone_share : (allowed : AllowedCounts) → Affords allowed (whole_bound schema write).ops (whole_bound schema write).entries
        → Affords allowed (reads_behind ahead.removers schema write).ops (reads_behind ahead.removers schema write).entries
    alone_share allowed share = record { ops_left = omega (arith, share.ops_left); entries_left = omega (arith, share.entries_left, alone_bound) }

    pub alone_asks : (before after : ℕ) → after ≤ before + whole_rounds ahead.changes schema write → after ≤ before + whole_rounds [] schema write
    alone_asks before after few = subst (λ (cs : List Change). after ≤ before + whole_rounds cs schema write) changes_none few

    pub alone_reads : (old now : Option Content) (f0 f1 : ℕ) (given left : AllowedCounts) (before after : Counts)
        → Reads (world (seen_content ahead.changes old) f0 given before) (world (seen_content ahead.changes now) f1 left after) (reads_behind ahead.removers schema write).ops (reads_behind ahead.removers schema write).entries
        → Reads (world old f0 given before) (world now f1 left after) (whole_reads schema write).ops (whole_reads schema write).entries
    alone_reads old now f0 f1 given left before after reads = record {
      same = sym (seen now) ∙ reads.same ∙ seen old;
      later = reads.later;
      granted = reads.granted;
      spent_ops = reads.spent_ops;
      spent_entries = reads.spent_entries;
      rise_ops = reads.rise_ops;
      rise_entries = reads.rise_entries;
      few_ops = reads.few_ops;
      few_entries = subst (λ (n : ℕ). after.entries ≤ before.entries + n) alone_bound reads.few_entries;
    }

    pub alone_answer : (old : Option Content) (result : Result Planned Broke)
        → IfOk result (λ planned. (rows : Rows) (others : List Pair) → HoldsCounted (seen_content ahead.changes old) schema rows others → PlansWhole schema rows others write planned)
        → IfOk result (λ planned. (rows : Rows) (others : List Pair) → HoldsCounted old schema rows others → PlansWhole schema rows others write planned)
    alone_answer old result answer = subst (λ (o : Option Content). IfOk result (λ planned. (rows : Rows) (others : List Pair) → HoldsCounted o schema rows others → PlansWhole schema rows others write planned)) (seen old) answer

    pub alone_own : (old : Option Content) (result : Result Planned Broke) → IfOk result (ChangesWhole schema (seen_content ahead.changes old) write) → IfOk result (ChangesWhole schema old write)
    alone_own old result own = subst (λ (o : Option Content). IfOk result (ChangesWhole schema o write)) (seen old) own

  pub alone_undamaged : (schema : Schema) (old : Option Content) (result : Result Planned Broke)
      → IfErr result (λ error. (rows : Rows) (others : List Pair) → HoldsCounted (seen_content ahead.changes old) schema rows others → IsUndamaged error)
      → IfErr result (λ error. (rows : Rows) (others : List Pair) → HoldsCounted old schema rows others → IsUndamaged error)
  alone_undamaged schema old result undamaged = subst (λ (o : Option Content). IfErr result (λ error. (rows : Rows) (others : List Pair) → HoldsCounted o schema rows others → IsUndamaged error)) (seen old) undamaged

  pub alone_cause : (shows : Option Content → Damage → Type 0) (old now : Option Content) (f0 f1 : ℕ) (given left : AllowedCounts) (before after : Counts) (ops entries : ℕ) (result : Result Planned Broke)
      → Reads (world (seen_content ahead.changes old) f0 given before) (world (seen_content ahead.changes now) f1 left after) ops entries
      → IfErr result (Explains shows (world (seen_content ahead.changes old) f0 given before) (world (seen_content ahead.changes now) f1 left after))
      → IfErr result (Explains shows (world old f0 given before) (world now f1 left after))
  alone_cause shows old now f0 f1 given left before after ops entries result reads cause =
      subst (λ (o : Option Content). IfErr result (Explains shows (world old f0 given before) (world o f1 left after))) (seen now)
      (subst (λ (o : Option Content). IfErr result (Explains shows (world o f0 given before) (world (seen_content ahead.changes now) f1 left after))) (seen old) cause)

  pub alone_answered : (answers : List ℕ → Option (List ℕ) → Type 0) (result : Result Planned Broke) → IfErr result (IsAnswered (seen_answers answers ahead.changes)) → IfErr result (IsAnswered answers)
  alone_answered answers result answered = subst (λ (cs : List Change). IfErr result (IsAnswered (seen_answers answers cs))) changes_none answered
