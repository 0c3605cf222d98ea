use Rattle.std.proofs.Common.{◌≡◌, ℕ, ◌∙◌, ◌+◌, ◌∷◌, Ok, Err, List, Result, length, drop, refl, sym, ap, subst, arith, add-one, drop-cons}
use Rattle.pq_base.specs.Answers.{Answers}
use Rattle.pq_base.specs.declared.refusal.Refusal.{Refusal}
use Rattle.pq_base.specs.declared.refusal.Stopped.{Stopped}
use Rattle.pq_index_keep.specs.Checking.{checked_write}
use Rattle.pq_index_keep.specs.declared.write.Write.{Write}
use Rattle.pq_statement.specs.Actions.{Misreads, batch_action}
use Rattle.pq_statement.specs.Batches.{checked_writes}
use Rattle.pq_statement.proofs.Batches.{all_checked, each_more, first_refused, front_none, length_more, none_left, one_more}
use Rattle.pq_statement.proofs.requests.asked_writes.Goals as goal

pub loop-def-init : goal.loop-def-init
loop-def-init c = rw c.new-writes.ensures (record { each = tt; count = refl; place = refl; is = front_none (checked_writes c.args.catalog.now 1 c.args.defs.now) })

pub returns-in-Err-Refused : goal.returns-in-Err-Refused
returns-in-Err-Refused c =
    let cut : drop c.loop-def.def-index c.args.defs.now ≡ c.def-item.result ∷ drop (c.loop-def.def-index + 1) c.args.defs.now =
    drop-cons c.args.defs.now c.loop-def.def-index c.def-item.result c.loop-def-test.true ∙ rw (add-one, ← c.def-item.is) in
    let why : checked_write c.args.catalog.now c.def-item.result ≡ Err c.in-Err-Refused.cause =
    subst (λ (s : Stopped). Answers {A = Write} (Err s) (checked_write c.args.catalog.now c.def-item.result)) c.in-Err-Refused.field-0-is c.in-Err-Refused.ensures.answer in
    ap (λ (r : Result (List Write) (ℕ × Refusal)). Ok (batch_action r)) (first_refused c.args.catalog.now c.args.defs.now c.loop-def.def-index c.loop-def.place c.loop-def.writes c.loop-def.invariant.is c.def-item.result c.in-Err-Refused.cause cut why)
    ∙ ap (λ (x : Refusal). Ok (Misreads c.loop-def.place x)) (sym c.in-Err-Refused.cause-is)

pub loop-def-preserved : goal.loop-def-preserved
loop-def-preserved c =
    let cut : drop c.loop-def.def-index c.args.defs.now ≡ c.def-item.result ∷ drop (c.loop-def.def-index + 1) c.args.defs.now =
    drop-cons c.args.defs.now c.loop-def.def-index c.def-item.result c.loop-def-test.true ∙ rw (add-one, ← c.def-item.is) in
    rw c.in_ok-push-in-Ok.ensures.ok (record {
      each = each_more c.args.catalog.now c.loop-def.writes c.in-Ok.write c.loop-def.invariant.each c.in-Ok.ensures.write;
      count = length_more c.loop-def.writes c.in-Ok.write ∙ ap (λ (n : ℕ). n + 1) c.loop-def.invariant.count;
      place = ap (λ (n : ℕ). n + 1) c.loop-def.invariant.place;
      is = one_more c.args.catalog.now c.args.defs.now c.loop-def.def-index c.loop-def.place c.loop-def.writes c.loop-def.invariant.is c.def-item.result c.in-Ok.write cut c.in-Ok.ensures.answer;
    })

pub returns : goal.returns
returns c =
    let end = c.loop-def.auto.def-index-end in
    let stop = c.loop-def-test.false in
    let all : c.loop-def.def-index ≡ length c.args.defs.now = omega (arith, end, stop) in (
      record { some = omega (arith, c.requires.some, c.loop-def.invariant.count, all); few = omega (arith, c.requires.few, c.loop-def.invariant.count, all); each = c.loop-def.invariant.each },
      ap (λ (r : Result (List Write) (ℕ × Refusal)). Ok (batch_action r))
          (all_checked c.args.catalog.now c.args.defs.now c.loop-def.def-index c.loop-def.place c.loop-def.writes c.loop-def.invariant.is (none_left c.args.defs.now c.loop-def.def-index all)),
    )
