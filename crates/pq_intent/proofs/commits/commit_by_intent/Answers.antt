use Rattle.std.proofs.Common.{◌≡◌, ◌∙◌, ap, sym, subst, refl, inl, inr, ℕ, None, Some, [], ◌∷◌, ◌++◌, map, List, rules}
use Rattle.std.specs.FinMap.{insert}
use Rattle.pq_key_code.specs.KeyCode.{intent_key}
use Rattle.std.specs.Option.{option_map}
use Rattle.std.proofs.lemmas.Bool.{false≢true}
use Rattle.pq_store.specs.Content.{written_content}
use Rattle.std.proofs.lemmas.Result.{on_ok_weaker, on_err_weaker}
use Rattle.pq_row_code.specs.Changes.{changes_code}
use Rattle.pq_content.specs.Pairs.{Change}
use Rattle.pq_content.specs.Standing.{change_of}
use Rattle.pq_intent.specs.Changing.{content_after, IsPartway, StopsBefore}
use Rattle.pq_intent.proofs.Steps.{on_err_holds}
use Rattle.pq_intent.proofs.Ends.{with_removal, steps_are, settles_itself, whole_made, partway_behind, commit_started, commit_stopped, commit_made}
use Rattle.pq_intent.proofs.Wanting.{stops_first, stops_behind}
use Rattle.pq_intent.proofs.commits.commit_by_intent.Goals as goal

pub returns-in_err-key-clause-stopped : goal.returns-in_err-key-clause-stopped
returns-in_err-key-clause-stopped g c = on_err_holds c.from_residual.result (λ pairs s. inl (settles_itself _ pairs s.told s.no_intent))

pub returns-in_err-code-clause-stopped : goal.returns-in_err-code-clause-stopped
returns-in_err-code-clause-stopped g c = on_err_holds c.from_residual-in_err-code.result (λ pairs s. inl (settles_itself _ pairs s.told s.no_intent))

pub returns-in_err-key-2-clause-stopped : goal.returns-in_err-key-2-clause-stopped
returns-in_err-key-2-clause-stopped g c =
    let code : c.items.result.now ≡ changes_code c.args.changes.now = c.items.ensures ∙ c.in_ok-code.ensures in
    on_err_holds c.from_residual-in_err-key-2.result (λ pairs s. commit_started pairs c.args.changes.now s.no_intent c.requires.coded c.requires.intended (g.S.Store.content c.put_intent.new.store) c.items.result.now code (c.in_err-key-2.ensures.stopped pairs s))

pub returns-clause-made : goal.returns-clause-made
returns-clause-made g c =
    let steps : map change_of c.items-3.result.now ++ (c.items-2.result.now, None) ∷ [] ≡ with_removal c.args.changes.now = steps_are c.items-3.result.now c.args.changes.now c.items-2.result.now c.items-3.ensures (c.items-2.ensures ∙ c.in_ok-key-2.ensures.back) in
    on_ok_weaker c.finish.result (λ made pairs s. commit_made pairs c.args.changes.now s.no_intent c.requires.coded c.requires.intended (g.S.Store.content c.put_intent.new.store) (g.S.Store.content c.finish.new.store) c.items.result.now (c.in_ok-key-2.ensures.put pairs s)
    (made ∙ ap (λ (l : List Change). content_after l (g.S.Store.content c.put_intent.new.store)) steps)) c.finish.ensures.makes.made

pub returns-clause-stopped : goal.returns-clause-stopped
returns-clause-stopped g c =
    let code : c.items.result.now ≡ changes_code c.args.changes.now = c.items.ensures ∙ c.in_ok-code.ensures in
    let steps : map change_of c.items-3.result.now ++ (c.items-2.result.now, None) ∷ [] ≡ with_removal c.args.changes.now = steps_are c.items-3.result.now c.args.changes.now c.items-2.result.now c.items-3.ensures (c.items-2.ensures ∙ c.in_ok-key-2.ensures.back) in
    on_err_weaker c.finish.result (λ partway pairs s. commit_stopped pairs c.args.changes.now s.no_intent c.requires.coded c.requires.intended (g.S.Store.content c.put_intent.new.store) (g.S.Store.content c.finish.new.store) c.items.result.now code (c.in_ok-key-2.ensures.put pairs s)
    (subst (λ (l : List Change). IsPartway l (g.S.Store.content c.put_intent.new.store) (g.S.Store.content c.finish.new.store)) steps partway)) c.finish.ensures.makes.stopped

pub returns-in_err-key-clause-memory : goal.returns-in_err-key-clause-memory
returns-in_err-key-clause-memory g c = λ want pairs s. inl (refl, refl)

pub returns-in_err-code-clause-memory : goal.returns-in_err-code-clause-memory
returns-in_err-code-clause-memory g c = λ want pairs s. inl (refl, refl)

pub returns-in_err-key-2-clause-memory : goal.returns-in_err-key-2-clause-memory
returns-in_err-key-2-clause-memory g c = λ want pairs s. inr (stops_first _ _ _ _ _ c.put_intent.ensures.one (c.in_err-key-2.ensures.memory (search rules)))

pub returns-clause-memory : goal.returns-clause-memory
returns-clause-memory g c = λ want pairs s.
    let code : c.items.result.now ≡ changes_code c.args.changes.now = c.items.ensures ∙ c.in_ok-code.ensures in
    let steps : map change_of c.items-3.result.now ++ (c.items-2.result.now, None) ∷ [] ≡ with_removal c.args.changes.now = steps_are c.items-3.result.now c.args.changes.now c.items-2.result.now c.items-3.ensures (c.items-2.ensures ∙ c.in_ok-key-2.ensures.back) in
    let put = c.in_ok-key-2.ensures.put pairs s ∙ ap (λ (v : List ℕ). Some (insert pairs intent_key v)) code ∙ ap (content_after ((intent_key, Some (changes_code c.args.changes.now)) ∷ [])) (sym s.told) in
    inr (stops_behind (intent_key, Some (changes_code c.args.changes.now)) (with_removal c.args.changes.now) c.args.meter.now c.put_intent.new.meter c.finish.new.meter (g.S.Store.content c.args.store.now) (g.S.Store.content c.put_intent.new.store) (g.S.Store.content c.finish.new.store) c.put_intent.ensures.one put
    (subst (λ (l : List Change). StopsBefore l c.put_intent.new.meter c.finish.new.meter (g.S.Store.content c.put_intent.new.store) (g.S.Store.content c.finish.new.store)) steps (c.finish.ensures.makes.memory want)))

pub returns-clause-whole : goal.returns-clause-whole
returns-clause-whole g c =
    let steps : map change_of c.items-3.result.now ++ (c.items-2.result.now, None) ∷ [] ≡ with_removal c.args.changes.now = steps_are c.items-3.result.now c.args.changes.now c.items-2.result.now c.items-3.ensures (c.items-2.ensures ∙ c.in_ok-key-2.ensures.back) in
    on_ok_weaker c.finish.result (λ made. whole_made c.args.changes.now (g.S.Store.content c.args.store.now) (g.S.Store.content c.put_intent.new.store) (g.S.Store.content c.finish.new.store) c.items.result.now c.requires.coded c.requires.intended (λ has. false≢true (c.in_ok-key-2.ensures.taken has).0) c.in_ok-key-2.ensures.put
    (made ∙ ap (λ (l : List Change). content_after l (g.S.Store.content c.put_intent.new.store)) steps)) c.finish.ensures.makes.made

pub returns-clause-partway : goal.returns-clause-partway
returns-clause-partway g c =
    let code : c.items.result.now ≡ changes_code c.args.changes.now = c.items.ensures ∙ c.in_ok-code.ensures in
    let steps : map change_of c.items-3.result.now ++ (c.items-2.result.now, None) ∷ [] ≡ with_removal c.args.changes.now = steps_are c.items-3.result.now c.args.changes.now c.items-2.result.now c.items-3.ensures (c.items-2.ensures ∙ c.in_ok-key-2.ensures.back) in
    let put = c.in_ok-key-2.ensures.made ∙ ap (λ (v : List ℕ). option_map (written_content intent_key (Some v)) (g.S.Store.content c.args.store.now)) code in
    on_err_weaker c.finish.result (λ partway. partway_behind (intent_key, Some (changes_code c.args.changes.now)) (with_removal c.args.changes.now) (g.S.Store.content c.args.store.now) (g.S.Store.content c.put_intent.new.store) (g.S.Store.content c.finish.new.store) put
    (subst (λ (l : List Change). IsPartway l (g.S.Store.content c.put_intent.new.store) (g.S.Store.content c.finish.new.store)) steps partway)) c.finish.ensures.makes.stopped
