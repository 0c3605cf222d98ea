use Rattle.std.proofs.Common.{List, Option, map, sum_by, sym, ap, subst, ◌∙◌, ℕ}
use Rattle.std.specs.List.{AllZip}
use Rattle.std.proofs.lemmas.List.{length-map}
use Rattle.pq_store.specs.Rounds.{IsValueOf, one_if_some}
use Rattle.pq_parts.specs.Asking as asking
use Rattle.pq_parts.proofs.Put.{put_all, put_nothing}
use Rattle.pq_parts.proofs.part.Part.gets.Goals as goal

pub returns-then-number_of-eq0-clause-put : goal.returns-then-number_of-eq0-clause-put
returns-then-number_of-eq0-clause-put g c =
    put_nothing _ (map (asking.own_key c.args.self.now.from c.args.until.now) c.args.keys.now) c.args.found.now.items (c.requires.long ∙ sym (length-map c.args.keys.now _))
    (sym (c.number_of.ensures ∙ ap (sum_by one_if_some) (c.items.ensures ∙ c.in_ok-own.ensures)) ∙ c.if-number_of-eq0.true)

pub returns-clause-put : goal.returns-clause-put
returns-clause-put g c =
    let told = g.S.Store.content c.args.self.now.store in
    let own = map (asking.own_key c.args.self.now.from c.args.until.now) c.args.keys.now in
    let old = c.args.found.now.items in
    let values = c.in_ok-values.values in
    let answer : AllZip (IsValueOf told) own values =
    subst (λ (l : List (Option (List ℕ))). AllZip (IsValueOf told) l values) (c.items-2.ensures ∙ c.in_ok-own.ensures) c.in_ok-values.ensures.answer in
    subst (λ (l : List (Option (List ℕ))). asking.AreAnswersPut (asking.IsTold told) own old l) (sym (c.put_answers.ensures ∙ ap (λ l. asking.put_answers l values old) (c.items-3.ensures ∙ c.in_ok-own.ensures)))
    (put_all (asking.IsTold told) (IsValueOf told) (λ key value h. h) own values old (c.requires.long ∙ sym (length-map c.args.keys.now _)) answer)
