use Rattle.std.proofs.Common.{◌≡◌, ℕ, ◌<◌, List, fold, take, get_or, length, sym, ap, ◌∙◌, subst}
use Rattle.pq_schema.specs.Sequences.{groups, with_group}
use Rattle.pq_schema.specs.Sound.{IsTable, AreColumns}
use Rattle.pq_schema.proofs.Accepted.{sound_taken, group_at}
use Rattle.pq_definitions.proofs.new_table.with_groups.Goals as goal

pub with_group-requires-clause-table : goal.with_group-requires-clause-table
with_group-requires-clause-table c =
    let table = c.args.table in
    let i = c.loop-cols.cols-index in
    let all : c.items-cols-items.result.now ≡ groups table = c.items-cols-items.ensures ∙ c.in_ok-groups.ensures in
    let there = subst (λ (gs : List (List ℕ)). i < length gs) all c.loop-cols-test.true in
    subst IsTable (sym (c.loop-cols.invariant ∙ ap (λ (gs : List (List ℕ)). fold with_group table (take i gs)) all)) (sound_taken table i c.requires there)

pub with_group-requires-clause-cols : goal.with_group-requires-clause-cols
with_group-requires-clause-cols c =
    let table = c.args.table in
    let i = c.loop-cols.cols-index in
    let all : c.items-cols-items.result.now ≡ groups table = c.items-cols-items.ensures ∙ c.in_ok-groups.ensures in
    let there = subst (λ (gs : List (List ℕ)). i < length gs) all c.loop-cols-test.true in
    subst AreColumns (sym (c.items.ensures ∙ c.cols-item.is ∙ ap (λ (gs : List (List ℕ)). get_or gs i c.cols-item.result) all)) (group_at table i c.cols-item.result c.requires there)
