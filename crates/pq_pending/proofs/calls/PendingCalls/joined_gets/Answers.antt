use Rattle.std.proofs.Common.{◌≡◌, List, length, map, Option, ℕ, sym, ap, subst, ◌∙◌}
use Rattle.std.specs.List.{AllZip}
use Rattle.std.proofs.lemmas.List.{length-map}
use Rattle.pq_store.specs.Rounds.{IsValueOf, IsValueAnswered}
use Rattle.pq_pending.specs.Calls.{seen, answers_of}
use Rattle.pq_pending.specs.Gets.{open_key, joined_values}
use Rattle.pq_pending.proofs.Joining.{joined_length, joined_are, joined_answered}
use Rattle.pq_pending.proofs.calls.PendingCalls.joined_gets.Goals as goal

pub returns-clause-long : goal.returns-clause-long
returns-clause-long g c =
    let keys = c.args.keys.now in
    let changes = c.args.self.now.pending.now.changes in
    let is : c.in_ok-joined_values.field-0 ≡ joined_values changes keys c.in_ok-stored.stored =
    c.in_ok-joined_values.ensures
    ∙ ap (λ pending. joined_values pending.now.changes keys c.items-2.result.now) c.in_ok-stored.ensures.asks.uses.same_pending
    ∙ ap (joined_values changes keys) c.items-2.ensures in
    let long : length c.in_ok-stored.stored ≡ length keys =
    c.in_ok-stored.ensures.long ∙ ap length (c.items.ensures ∙ c.in_ok-asked.ensures) ∙ length-map keys (open_key changes) in
    ap length is ∙ joined_length changes keys c.in_ok-stored.stored long

pub returns-clause-answer : goal.returns-clause-answer
returns-clause-answer g c =
    let keys = c.args.keys.now in
    let changes = c.args.self.now.pending.now.changes in
    let store = g.S.Store.content c.args.self.now.store.now in
    let is : c.in_ok-joined_values.field-0 ≡ joined_values changes keys c.in_ok-stored.stored =
    c.in_ok-joined_values.ensures
    ∙ ap (λ pending. joined_values pending.now.changes keys c.items-2.result.now) c.in_ok-stored.ensures.asks.uses.same_pending
    ∙ ap (joined_values changes keys) c.items-2.ensures in
    let stored : AllZip (IsValueOf store) (map (open_key changes) keys) c.in_ok-stored.stored =
    subst (λ (ks : List (Option (List ℕ))). AllZip (IsValueOf store) ks c.in_ok-stored.stored) (c.items.ensures ∙ c.in_ok-asked.ensures) c.in_ok-stored.ensures.answer in
    subst (λ (vs : List (Option (List ℕ))). AllZip (IsValueOf (seen g.S.Store.content c.args.self.now)) keys vs) (sym is)
    (joined_are changes c.known.ensures.distinct store keys c.in_ok-stored.stored stored)

pub returns-clause-answers : goal.returns-clause-answers
returns-clause-answers g c =
    let keys = c.args.keys.now in
    let changes = c.args.self.now.pending.now.changes in
    let answers = g.S.Store.answers in
    let is : c.in_ok-joined_values.field-0 ≡ joined_values changes keys c.in_ok-stored.stored =
    c.in_ok-joined_values.ensures
    ∙ ap (λ pending. joined_values pending.now.changes keys c.items-2.result.now) c.in_ok-stored.ensures.asks.uses.same_pending
    ∙ ap (joined_values changes keys) c.items-2.ensures in
    let stored : AllZip (IsValueAnswered answers) (map (open_key changes) keys) c.in_ok-stored.stored =
    subst (λ (ks : List (Option (List ℕ))). AllZip (IsValueAnswered answers) ks c.in_ok-stored.stored) (c.items.ensures ∙ c.in_ok-asked.ensures) c.in_ok-stored.ensures.answers in
    subst (λ (vs : List (Option (List ℕ))). AllZip (IsValueAnswered (answers_of answers c.args.self.now)) keys vs) (sym is)
    (joined_answered answers changes keys c.in_ok-stored.stored stored)
