use Rattle.std.proofs.Common.{◌≡◌, ◌∙◌, subst, List, ℕ, Some}
use Rattle.std.specs.Option.{option_map}
use Rattle.std.proofs.lemmas.Result.{on_ok_weaker, on_err_weaker}
use Rattle.pq_store.specs.Content.{written_content}
use Rattle.pq_intent.specs.Changing.{MayChange}
use Rattle.pq_builds.proofs.Staging.{ready, may_ready}
use Rattle.pq_builds.proofs.build.finish.Goals as goal

pub returns-clause-ready : goal.returns-clause-ready
returns-clause-ready g c =
    let value_is = c.items-3.ensures ∙ c.in_ok-value.ensures in
    on_ok_weaker c.put.result (λ made. ready c.args.target.now c.args.query.now c.items-3.result.now c.args.count (g.S.Store.content c.args.store.now) (g.S.Store.content c.fill_rows.new.store) (g.S.Store.content c.put.new.store) value_is c.in_ok-fill_rows.ensures.enters
    (subst (λ (k : List ℕ). g.S.Store.content c.put.new.store ≡ option_map (written_content k (Some c.items-3.result.now)) (g.S.Store.content c.fill_rows.new.store)) c.items-2.ensures made)) c.put.ensures.made

pub returns-clause-stopped : goal.returns-clause-stopped
returns-clause-stopped g c =
    let value_is = c.items-3.ensures ∙ c.in_ok-value.ensures in
    on_err_weaker c.put.result (λ may. may_ready c.args.target.now c.args.query.now c.items-3.result.now c.args.count (g.S.Store.content c.args.store.now) (g.S.Store.content c.fill_rows.new.store) (g.S.Store.content c.put.new.store) value_is c.in_ok-fill_rows.ensures.enters
    (subst (λ (k : List ℕ). MayChange (k, Some c.items-3.result.now) (g.S.Store.content c.fill_rows.new.store) (g.S.Store.content c.put.new.store)) c.items-2.ensures may)) c.put.ensures.stopped
