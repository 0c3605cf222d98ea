use Rattle.std.proofs.Common.{◌≡◌, ◌+◌, ◌-◌, ℕ, List, ◌∷◌, length, take, drop, map, Option, refl, sym, ap, ◌∙◌, subst, arith}
use Rattle.std.specs.Prelude.{All}
use Rattle.std.proofs.lemmas.Result.{IfOk-weaker, IfErr-weaker}
use Rattle.pq_content.specs.Standing.{change_of}
use Rattle.pq_store.specs.Content.{Content}
use Rattle.pq_calls.specs.Calls.{seen_world}
use Rattle.pq_calls.specs.World.{where_told}
use Rattle.pq_pending.specs.Pending.{with_changes, seen_content, RemovesAtMost}
use Rattle.pq_index_keep.specs.Bounds.{removers_of}
use Rattle.pq_index_keep.specs.Promises.{IsShortChange, IsShortWithin, RemovesFew}
use Rattle.pq_index_keep.specs.declared.plan.Planned.{Planned}
use Rattle.pq_index_keep.specs.declared.write.Write.{Write}
use Rattle.pq_tallies.specs.Counters.{HoldsCounted}
use Rattle.pq_counters.specs.Evidence.{ShowsCounted}
use Rattle.pq_counters.specs.Whole.{AreWhole, HasWhole, ChangesWhole, IsWholeWithin, PlansWhole, RefusesWhole, whole_changes}
use Rattle.pq_batch.specs.From.{ShowsFrom}
use Rattle.pq_batch.proofs.Nexts.{HasNext, has_next, later_some, later_few, later_ahead, refused_first, plans_first, plans_last, within_more, refuses_first, refuses_later}
use Rattle.pq_batch.proofs.Rounds.{write_behind, rounds_first}
use Rattle.pq_batch.proofs.Shown.{cause_here, answered_here, behind_last, behind_later, causes_later, answers_later}
use Rattle.pq_batch.proofs.Worlds.{causes_before, cut_first, cut_none, each_rest, changes_cut, first_share, rest_share, uses_first, uses_both}
use Rattle.pq_batch.proofs.plan.+plan_from.Goals as goal

pub returns-in_default-clause-answer : goal.returns-in_default-clause-answer
returns-in_default-clause-answer g t c before rows others at holds =
    plans_last c.args.catalog.now c.args.place rows c.args.pending.changes c.args.writes.now (g.S.Store.content c.args.calls.now.store.now) before others c.finished.result
    (cut_none c.args.writes.now c.in_default.len_below) at c.finished.ensures.finishes holds

pub returns-in_default-clause-own : goal.returns-in_default-clause-own
returns-in_default-clause-own g t c =
    behind_last c.args.catalog.now (g.S.Store.content c.args.calls.now.store.now) c.args.writes.now c.args.pending.changes c.finished.result
    (cut_none c.args.writes.now c.in_default.len_below) c.finished.ensures.finishes

pub plan_next-requires-clause-share : goal.plan_next-requires-clause-share
plan_next-requires-clause-share g t c =
    let all = c.args.writes.now in
    let write = c.write-item.result in
    first_share c.args.catalog.now all write (take (length all - 1) (drop 1 all)) (cut_first all write c.in-len1-up.len_at_least c.write-item.is) c.args.pending.removers (c.args.pending.removers + removers_of write) refl
    c.args.calls.now.allowance.now c.requires.share

pub with-requires-clause-thin : goal.with-requires-clause-thin
with-requires-clause-thin g t c =
    let thin : RemovesAtMost (removers_of c.write-item.result) (map change_of c.in-Ok-Changes.changes) = subst (λ (plan : Planned). RemovesFew c.write-item.result plan) c.in-Ok-Changes.field-0-is c.in-Ok-Changes.ensures.thin in
    subst (λ (n : ℕ). RemovesAtMost n (map change_of c.in-Ok-Changes.changes)) (sym c.removers_of.ensures.removers) thin

pub returns-in_err-pending-in-Ok-Changes-clause-uses : goal.returns-in_err-pending-in-Ok-Changes-clause-uses
returns-in_err-pending-in-Ok-Changes-clause-uses g t c =
    let all = c.args.writes.now in
    let write = c.write-item.result in
    uses_first c.args.catalog.now all write (take (length all - 1) (drop 1 all)) (cut_first all write c.in-len1-up.len_at_least c.write-item.is) c.args.pending.removers (c.args.pending.removers + removers_of write) refl
    g.S.Store.content g.S.Store.faults c.args.calls.now c.plan_next.new.calls c.in-Ok-Changes.ensures.uses

pub plan_from-requires : goal.plan_from-requires
plan_from-requires g t c κs within =
    let schema = c.args.catalog.now in
    let all = c.args.writes.now in
    let write = c.write-item.result in
    let rest : List Write = take (length all - 1) (drop 1 all) in
    let cut : all ≡ write ∷ rest = cut_first all write c.in-len1-up.len_at_least c.write-item.is in
    let more = c.in-Ok-Changes.changes in
    let old = c.args.pending.changes in
    let later = c.in_ok-pending-in-Ok-Changes.pending in
    let changes_is : later.changes ≡ with_changes old (map change_of more) = ap (λ a. a.changes) c.in_ok-pending-in-Ok-Changes.ensures in
    let removers_is : later.removers ≡ c.args.pending.removers + removers_of write =
    ap (λ a. a.removers) c.in_ok-pending-in-Ok-Changes.ensures ∙ ap (λ (n : ℕ). c.args.pending.removers + n) c.removers_of.ensures.removers in
    let whole : AreWhole (whole_changes schema write) more = subst (λ (plan : Planned). IsWholeWithin (whole_changes schema write) plan) c.in-Ok-Changes.field-0-is c.in-Ok-Changes.ensures.plan in
    let short : All IsShortChange (map change_of more) = subst (λ (plan : Planned). IsShortWithin plan) c.in-Ok-Changes.field-0-is c.in-Ok-Changes.ensures.short in
    let long : length all ≡ length (write ∷ rest) = ap length cut in
    let one = c.removers_of.ensures.few in
    let one_is = c.removers_of.ensures.removers in (
      omega arith,
      (
        within.0,
        (
          within.1,
          (
            each_rest schema all write rest cut c.requires.each,
            (
              omega arith,
              (
                omega arith,
                (
                  omega (arith, later_some schema write old later.changes more changes_is whole),
                  (
                    omega (arith, later_few schema write old later.changes more changes_is whole, changes_cut schema all write rest cut),
                    (
                      later_ahead schema write old later.changes more changes_is whole c.requires.ahead short,
                      rest_share schema all write rest cut c.args.pending.removers later.removers removers_is g.S.Store.content g.S.Store.faults c.args.calls.now c.plan_next.new.calls c.in-Ok-Changes.ensures.uses c.requires.share,
                    ),
                  ),
                ),
              ),
            ),
          ),
        ),
      ),
    )

pub returns-in-Err-clause-uses : goal.returns-in-Err-clause-uses
returns-in-Err-clause-uses g t c =
    let all = c.args.writes.now in
    let write = c.write-item.result in
    uses_first c.args.catalog.now all write (take (length all - 1) (drop 1 all)) (cut_first all write c.in-len1-up.len_at_least c.write-item.is) c.args.pending.removers (c.args.pending.removers + removers_of write) refl
    g.S.Store.content g.S.Store.faults c.args.calls.now c.plan_next.new.calls c.in-Err.ensures.uses

pub returns-in-Err-clause-cause : goal.returns-in-Err-clause-cause
returns-in-Err-clause-cause g t c =
    cause_here c.args.catalog.now c.args.writes.now c.args.pending.changes c.in-len1-up.len_at_least c.in-Err.error (where_told (ShowsCounted c.args.catalog.now))
    (seen_world g.S.Store.content g.S.Store.faults c.args.calls.now) (seen_world g.S.Store.content g.S.Store.faults c.plan_next.new.calls) c.in-Err.ensures.cause

pub returns-in-Err-clause-answered : goal.returns-in-Err-clause-answered
returns-in-Err-clause-answered g t c =
    answered_here c.args.catalog.now c.args.writes.now c.args.pending.changes c.in-len1-up.len_at_least c.in-Err.error g.S.Store.answers c.in-Err.ensures.answered

pub returns-in-Ok-Refused-clause-uses : goal.returns-in-Ok-Refused-clause-uses
returns-in-Ok-Refused-clause-uses g t c =
    let all = c.args.writes.now in
    let write = c.write-item.result in
    uses_first c.args.catalog.now all write (take (length all - 1) (drop 1 all)) (cut_first all write c.in-len1-up.len_at_least c.write-item.is) c.args.pending.removers (c.args.pending.removers + removers_of write) refl
    g.S.Store.content g.S.Store.faults c.args.calls.now c.plan_next.new.calls c.in-Ok-Refused.ensures.uses

pub returns-in-Ok-Refused-clause-can : goal.returns-in-Ok-Refused-clause-can
returns-in-Ok-Refused-clause-can g t c =
    let all = c.args.writes.now in
    let write = c.write-item.result in
    refuses_first c.args.catalog.now all write (take (length all - 1) (drop 1 all)) (cut_first all write c.in-len1-up.len_at_least c.write-item.is) c.args.place c.in-Ok-Refused.cause
    (subst (λ (plan : Planned). RefusesWhole c.args.catalog.now write plan) c.in-Ok-Refused.field-0-is c.in-Ok-Refused.ensures.can)

pub returns-in-Ok-Refused-clause-answer : goal.returns-in-Ok-Refused-clause-answer
returns-in-Ok-Refused-clause-answer g t c before rows others at holds =
    let all = c.args.writes.now in
    let write = c.write-item.result in
    refused_first c.args.catalog.now c.args.place rows c.args.pending.changes all write (take (length all - 1) (drop 1 all)) (cut_first all write c.in-len1-up.len_at_least c.write-item.is) c.in-Ok-Refused.cause
    (subst (λ (plan : Planned). PlansWhole c.args.catalog.now rows others write plan) c.in-Ok-Refused.field-0-is (c.in-Ok-Refused.ensures.answer rows others holds))

pub returns-in_ok-pending-in-Ok-Changes-clause-uses : goal.returns-in_ok-pending-in-Ok-Changes-clause-uses
returns-in_ok-pending-in-Ok-Changes-clause-uses g t c =
    let all = c.args.writes.now in
    let write = c.write-item.result in
    let later = c.in_ok-pending-in-Ok-Changes.pending in
    let removers_is : later.removers ≡ c.args.pending.removers + removers_of write =
    ap (λ a. a.removers) c.in_ok-pending-in-Ok-Changes.ensures ∙ ap (λ (n : ℕ). c.args.pending.removers + n) c.removers_of.ensures.removers in
    uses_both c.args.catalog.now all write (take (length all - 1) (drop 1 all)) (cut_first all write c.in-len1-up.len_at_least c.write-item.is) c.args.pending.removers later.removers removers_is
    g.S.Store.content g.S.Store.faults c.args.calls.now c.plan_next.new.calls c.in-Ok-Changes.ensures.uses c.plan_from.new.calls c.plan_from.ensures.uses

pub returns-in_ok-pending-in-Ok-Changes-clause-cause : goal.returns-in_ok-pending-in-Ok-Changes-clause-cause
returns-in_ok-pending-in-Ok-Changes-clause-cause g t c =
    let schema = c.args.catalog.now in
    let all = c.args.writes.now in
    let write = c.write-item.result in
    let rest : List Write = take (length all - 1) (drop 1 all) in
    let old = c.args.pending.changes in
    let later = c.in_ok-pending-in-Ok-Changes.pending in
    let told = g.S.Store.content c.args.calls.now.store.now in
    let own : HasWhole schema (seen_content old told) write c.in-Ok-Changes.changes =
    subst (λ (plan : Planned). ChangesWhole schema (seen_content old told) write plan) c.in-Ok-Changes.field-0-is c.in-Ok-Changes.ensures.own in
    let shows = where_told (ShowsCounted schema) in
    causes_later schema all write rest (cut_first all write c.in-len1-up.len_at_least c.write-item.is) old later.changes c.in-Ok-Changes.changes (ap (λ a. a.changes) c.in_ok-pending-in-Ok-Changes.ensures) c.plan_from.result
    shows (seen_world g.S.Store.content g.S.Store.faults c.args.calls.now) (seen_world g.S.Store.content g.S.Store.faults c.plan_from.new.calls) own
    (causes_before g.S.Store.content g.S.Store.faults c.args.calls.now c.plan_next.new.calls c.plan_from.new.calls (ShowsFrom schema rest later.changes shows) _ _ c.in-Ok-Changes.ensures.uses c.plan_from.result c.plan_from.ensures.cause)

pub returns-in_ok-pending-in-Ok-Changes-clause-answered : goal.returns-in_ok-pending-in-Ok-Changes-clause-answered
returns-in_ok-pending-in-Ok-Changes-clause-answered g t c =
    let schema = c.args.catalog.now in
    let all = c.args.writes.now in
    let write = c.write-item.result in
    let rest : List Write = take (length all - 1) (drop 1 all) in
    let old = c.args.pending.changes in
    let later = c.in_ok-pending-in-Ok-Changes.pending in
    let told = g.S.Store.content c.args.calls.now.store.now in
    let own : HasWhole schema (seen_content old told) write c.in-Ok-Changes.changes =
    subst (λ (plan : Planned). ChangesWhole schema (seen_content old told) write plan) c.in-Ok-Changes.field-0-is c.in-Ok-Changes.ensures.own in
    answers_later schema all write rest (cut_first all write c.in-len1-up.len_at_least c.write-item.is) old later.changes c.in-Ok-Changes.changes (ap (λ a. a.changes) c.in_ok-pending-in-Ok-Changes.ensures) c.plan_from.result
    g.S.Store.answers (seen_content old told) own c.plan_from.ensures.answered

pub returns-in_ok-pending-in-Ok-Changes-clause-undamaged : goal.returns-in_ok-pending-in-Ok-Changes-clause-undamaged
returns-in_ok-pending-in-Ok-Changes-clause-undamaged g t c =
    let write = c.write-item.result in
    let more = c.in-Ok-Changes.changes in
    let later = c.in_ok-pending-in-Ok-Changes.pending in
    let told = g.S.Store.content c.args.calls.now.store.now in
    IfErr-weaker c.plan_from.result _ _ (λ error undamaged rows others holds.
    let next : HasNext c.args.catalog.now rows others write told later.changes more =
    has_next c.args.catalog.now rows others write told c.args.pending.changes later.changes more c.known.ensures.distinct (ap (λ a. a.changes) c.in_ok-pending-in-Ok-Changes.ensures) holds
    (subst (λ (plan : Planned). PlansWhole c.args.catalog.now rows others write plan) c.in-Ok-Changes.field-0-is (c.in-Ok-Changes.ensures.answer rows others holds)) in
    undamaged next.made others (subst (λ (content : Option Content). HoldsCounted (seen_content later.changes content) c.args.catalog.now next.made others) (sym c.in-Ok-Changes.ensures.uses.reads.same) next.holds))
    c.plan_from.ensures.undamaged

pub returns-in_ok-pending-in-Ok-Changes-clause-plan : goal.returns-in_ok-pending-in-Ok-Changes-clause-plan
returns-in_ok-pending-in-Ok-Changes-clause-plan g t c =
    let schema = c.args.catalog.now in
    let all = c.args.writes.now in
    let write = c.write-item.result in
    let rest : List Write = take (length all - 1) (drop 1 all) in
    let more = c.in-Ok-Changes.changes in
    let later = c.in_ok-pending-in-Ok-Changes.pending in
    let whole : AreWhole (whole_changes schema write) more = subst (λ (plan : Planned). IsWholeWithin (whole_changes schema write) plan) c.in-Ok-Changes.field-0-is c.in-Ok-Changes.ensures.plan in
    let few = later_few schema write c.args.pending.changes later.changes more (ap (λ a. a.changes) c.in_ok-pending-in-Ok-Changes.ensures) whole in
    let sum = changes_cut schema all write rest (cut_first all write c.in-len1-up.len_at_least c.write-item.is) in
    IfOk-weaker c.plan_from.result _ _ (λ result within. within_more _ _ result (omega (arith, few, sum)) within) c.plan_from.ensures.plan

pub returns-in_ok-pending-in-Ok-Changes-clause-own : goal.returns-in_ok-pending-in-Ok-Changes-clause-own
returns-in_ok-pending-in-Ok-Changes-clause-own g t c =
    let schema = c.args.catalog.now in
    let all = c.args.writes.now in
    let write = c.write-item.result in
    let rest : List Write = take (length all - 1) (drop 1 all) in
    let old = c.args.pending.changes in
    let later = c.in_ok-pending-in-Ok-Changes.pending in
    let told = g.S.Store.content c.args.calls.now.store.now in
    let own : HasWhole schema (seen_content old told) write c.in-Ok-Changes.changes =
    subst (λ (plan : Planned). ChangesWhole schema (seen_content old told) write plan) c.in-Ok-Changes.field-0-is c.in-Ok-Changes.ensures.own in
    IfOk-weaker c.plan_from.result _ _ (λ result behind.
    behind_later schema all write rest (cut_first all write c.in-len1-up.len_at_least c.write-item.is) old later.changes c.in-Ok-Changes.changes (ap (λ a. a.changes) c.in_ok-pending-in-Ok-Changes.ensures)
    told (g.S.Store.content c.plan_next.new.calls.store.now) result c.in-Ok-Changes.ensures.uses.reads.same own behind) c.plan_from.ensures.own

pub returns-in-Err-clause-rounds : goal.returns-in-Err-clause-rounds
returns-in-Err-clause-rounds g t c =
    let schema = c.args.catalog.now in
    let all = c.args.writes.now in
    let write = c.write-item.result in
    let few = c.in-Err.ensures.rounds in
    let behind = write_behind c.args.pending.changes schema write in
    let both = rounds_first schema all write (take (length all - 1) (drop 1 all)) (cut_first all write c.in-len1-up.len_at_least c.write-item.is) in
    omega (arith, few, behind, both)

pub returns-in-Ok-Refused-clause-rounds : goal.returns-in-Ok-Refused-clause-rounds
returns-in-Ok-Refused-clause-rounds g t c =
    let schema = c.args.catalog.now in
    let all = c.args.writes.now in
    let write = c.write-item.result in
    let few = c.in-Ok-Refused.ensures.rounds in
    let behind = write_behind c.args.pending.changes schema write in
    let both = rounds_first schema all write (take (length all - 1) (drop 1 all)) (cut_first all write c.in-len1-up.len_at_least c.write-item.is) in
    omega (arith, few, behind, both)

pub returns-in_err-pending-in-Ok-Changes-clause-rounds : goal.returns-in_err-pending-in-Ok-Changes-clause-rounds
returns-in_err-pending-in-Ok-Changes-clause-rounds g t c =
    let schema = c.args.catalog.now in
    let all = c.args.writes.now in
    let write = c.write-item.result in
    let few = c.in-Ok-Changes.ensures.rounds in
    let behind = write_behind c.args.pending.changes schema write in
    let both = rounds_first schema all write (take (length all - 1) (drop 1 all)) (cut_first all write c.in-len1-up.len_at_least c.write-item.is) in
    omega (arith, few, behind, both)

pub returns-in_ok-pending-in-Ok-Changes-clause-rounds : goal.returns-in_ok-pending-in-Ok-Changes-clause-rounds
returns-in_ok-pending-in-Ok-Changes-clause-rounds g t c =
    let schema = c.args.catalog.now in
    let all = c.args.writes.now in
    let write = c.write-item.result in
    let few = c.in-Ok-Changes.ensures.rounds in
    let more = c.plan_from.ensures.rounds in
    let behind = write_behind c.args.pending.changes schema write in
    let both = rounds_first schema all write (take (length all - 1) (drop 1 all)) (cut_first all write c.in-len1-up.len_at_least c.write-item.is) in
    omega (arith, few, behind, both, more)

pub returns-in_ok-pending-in-Ok-Changes-clause-can : goal.returns-in_ok-pending-in-Ok-Changes-clause-can
returns-in_ok-pending-in-Ok-Changes-clause-can g t c =
    let all = c.args.writes.now in
    let write = c.write-item.result in
    IfOk-weaker c.plan_from.result _ _ (λ result can. refuses_later c.args.catalog.now all write (take (length all - 1) (drop 1 all)) (cut_first all write c.in-len1-up.len_at_least c.write-item.is) c.args.place result can) c.plan_from.ensures.can

pub returns-in_ok-pending-in-Ok-Changes-clause-answer : goal.returns-in_ok-pending-in-Ok-Changes-clause-answer
returns-in_ok-pending-in-Ok-Changes-clause-answer g t c =
    let all = c.args.writes.now in
    let write = c.write-item.result in
    let rest : List Write = take (length all - 1) (drop 1 all) in
    let more = c.in-Ok-Changes.changes in
    let later = c.in_ok-pending-in-Ok-Changes.pending in
    let told = g.S.Store.content c.args.calls.now.store.now in
    let changes_is : later.changes ≡ with_changes c.args.pending.changes (map change_of more) = ap (λ a. a.changes) c.in_ok-pending-in-Ok-Changes.ensures in
    IfOk-weaker c.plan_from.result _ _ (λ result plans before rows others at holds.
    let next : HasNext c.args.catalog.now rows others write told later.changes more =
    has_next c.args.catalog.now rows others write told c.args.pending.changes later.changes more c.known.ensures.distinct changes_is holds
    (subst (λ (plan : Planned). PlansWhole c.args.catalog.now rows others write plan) c.in-Ok-Changes.field-0-is (c.in-Ok-Changes.ensures.answer rows others holds)) in
    plans_first c.args.catalog.now c.args.place rows c.args.pending.changes all write rest (cut_first all write c.in-len1-up.len_at_least c.write-item.is) before others told later.changes more result changes_is next
    (plans before next.made others (c.in-Ok-Changes.ensures.uses.reads.same ∙ at)
    (subst (λ (content : Option Content). HoldsCounted (seen_content later.changes content) c.args.catalog.now next.made others) (sym c.in-Ok-Changes.ensures.uses.reads.same) next.holds)))
    c.plan_from.ensures.answer
