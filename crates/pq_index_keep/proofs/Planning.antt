-- What is promised of a plan that refuses, and of one of a row that is there.
use Rattle.std.proofs.Common.{◌≡◌, ℕ, List, Option, Some, None}
use Rattle.pq_base.specs.declared.refusal.Refusal.{Refusal}
use Rattle.pq_base.specs.declared.value.Value.{Value}
use Rattle.pq_content.specs.Pairs.{Pair}
use Rattle.pq_content.specs.Tables.{Rows, row_at}
use Rattle.pq_schema.specs.Tables.{table_at}
use Rattle.pq_schema.specs.declared.table.Table.{Table}
use Rattle.pq_store.specs.Content.{Content}
use Rattle.pq_index_keep.specs.Effects.{condition_refusal}
use Rattle.pq_index_keep.specs.Promises.{HoldsRows, Plans, IsPlanOf, IsPlanWhere, IsHeldPlan}
use Rattle.pq_index_keep.specs.Refusals.{RefusesAs}
use Rattle.pq_index_keep.specs.declared.plan.Planned.{Planned}
use Rattle.pq_index_keep.specs.declared.plan.Planned.TheVariants.{Refused}
use Rattle.pq_index_keep.specs.declared.write.Cond.{Cond}
use Rattle.pq_index_keep.specs.declared.write.Write.{Write}

pub refused_plan : (tables : List Table) (told : Option Content) (write : Write) (old : Option (List Value)) (why : Refusal) → RefusesAs tables write (Refused why) → IsPlanOf tables told write old (Refused why)
refused_plan tables told write old why can = record { within = tt; own = tt; short = tt; thin = tt; can = can; passed = tt }

module _ (tables : List Table) (told : Option Content) (t : ℕ) (key old : List Value) (write : List Cond → Write) where
  pub refused_where : (why : Refusal) → ((conds : List Cond) → RefusesAs tables (write conds) (Refused why))
      → ((rows : Rows) (others : List Pair) → HoldsRows told tables rows others → Some old ≡ row_at tables rows t key → (conds : List Cond) → condition_refusal (table_at tables t) conds old ≡ None → Plans tables rows others (write conds) (Refused why))
      → IsPlanWhere tables told t key old write (Refused why)
  refused_where why can answer = record {
    within = λ conds. tt;
    own = λ conds holds. tt;
    short = tt;
    thin = λ conds. tt;
    can = can;
    passed = λ conds. tt;
    answer = answer;
  }

  -- of conditions that hold of it
  pub held_plan : (planned : Planned) → IsPlanWhere tables told t key old write planned → (conds : List Cond) → condition_refusal (table_at tables t) conds old ≡ None → IsHeldPlan tables told (write conds) t key old planned
  held_plan planned plan conds holds = record {
    plan = record {
      within = plan.within conds;
      own = plan.own conds holds;
      short = plan.short;
      thin = plan.thin conds;
      can = plan.can conds;
      passed = plan.passed conds;
    };
    answer = λ rows others s found. plan.answer rows others s found conds holds;
  }
