use Rattle.std.proofs.Common.{◌∙◌, sym, ap, ◌*◌, ◌-◌, ◌+◌, ◌/◌, ◌%◌, Some, arith}
use Rattle.pq_fill.specs.Script.{sub}
use Rattle.pq_fill.proofs.Places.{at_definition, at_user, at_sub, at_thought, at_run, past_end}
use Rattle.pq_fill.proofs.script.item_at.Goals as goal

pub returns-then-place-lt4 : goal.returns-then-place-lt4
returns-then-place-lt4 c = sym (at_definition c.args.users c.args.place (omega arith) ∙ c.definition_at.ensures)

pub returns-then-place-users : goal.returns-then-place-users
returns-then-place-users c = sym (at_user c.args.users c.args.place _ (omega arith) (omega arith))

pub returns-then-place-users-2 : goal.returns-then-place-users-2
returns-then-place-users-2 c =
    let place = c.args.place - 4 - c.args.users in
    let e = c.followed-followed.ensures in
    let long = ap (λ k. c.args.users * k) e in
    let less = c.if-place-users-2.true in
    sym (at_sub c.args.users c.args.place place (omega arith) (omega (arith, long, less)) ∙ ap (λ k. Some (sub c.args.users (place / k) (place % k + 1))) (sym e) ∙ ap (λ item. Some item) (sym c.sub.ensures))

pub returns-then-place-users-3 : goal.returns-then-place-users-3
returns-then-place-users-3 c =
    let e = ap (λ k. c.args.users * k) c.followed-followed.ensures in
    sym (at_thought c.args.users c.args.place _ (omega arith) (omega (arith, e)) (omega arith))

pub returns-then-place-users-4 : goal.returns-then-place-users-4
returns-then-place-users-4 c =
    let e = ap (λ k. c.args.users * k) c.followed-followed.ensures in
    sym (at_run c.args.users c.args.place _ (omega (arith, e)) (omega arith))

pub returns : goal.returns
returns c =
    let e = ap (λ k. c.args.users * k) c.followed-followed.ensures in
    sym (past_end c.args.users c.args.place (omega (arith, e)))
