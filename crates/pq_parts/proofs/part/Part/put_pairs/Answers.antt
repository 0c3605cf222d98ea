use Rattle.std.proofs.Common.{List, Option, map, sum_by, sym, ap, subst, ◌∙◌}
use Rattle.std.specs.List.{AllZip}
use Rattle.std.proofs.lemmas.List.{length-map}
use Rattle.pq_store.specs.declared.store.Ends.{Ends}
use Rattle.pq_store.specs.declared.store.Pair.{Pair}
use Rattle.pq_store.specs.Rounds.{ArePairsOf, IsPartAsked, one_if_some}
use Rattle.pq_parts.specs.Asking as asking
use Rattle.pq_parts.proofs.Put.{put_all, put_nothing}
use Rattle.pq_parts.proofs.Ranged.{both_told}
use Rattle.pq_parts.proofs.part.Part.put_pairs.Goals as goal

pub returns-then-number_of-eq0-clause-put : goal.returns-then-number_of-eq0-clause-put
returns-then-number_of-eq0-clause-put g c =
    put_nothing _ (map (asking.own_ask c.args.self.now.from c.args.until.now) c.args.asks.now) c.args.found.now.items (c.requires.long ∙ sym (length-map c.args.asks.now _))
    (sym (c.number_of.ensures ∙ ap (sum_by one_if_some) (c.items.ensures ∙ c.in_ok-own.ensures)) ∙ c.if-number_of-eq0.true)

pub returns-clause-put : goal.returns-clause-put
returns-clause-put g c =
    let told = g.S.Store.content c.args.self.now.store in
    let limit = c.args.limit in
    let own = map (asking.own_ask c.args.self.now.from c.args.until.now) c.args.asks.now in
    let old = c.args.found.now.items in
    let parts = c.in_ok-parts.parts in
    let own_is = c.items-2.ensures ∙ c.in_ok-own.ensures in
    let answer : AllZip (ArePairsOf told limit) own parts = subst (λ (l : List (Option Ends)). AllZip (ArePairsOf told limit) l parts) own_is c.in_ok-parts.ensures.answer in
    let part : AllZip (IsPartAsked limit) own parts = subst (λ (l : List (Option Ends)). AllZip (IsPartAsked limit) l parts) own_is c.in_ok-parts.ensures.parts in
    subst (λ (l : List (List Pair)). asking.AreAnswersPut (asking.ArePairsTold told limit) own old l) (sym (c.put_answers.ensures ∙ ap (λ l. asking.put_answers l parts old) (c.items-3.ensures ∙ c.in_ok-own.ensures)))
    (put_all (asking.ArePairsTold told limit) (λ asked found. ArePairsOf told limit asked found × IsPartAsked limit asked found) (λ ends found h. record { answer = h.0; part = h.1 }) own parts old (c.requires.long ∙ sym (length-map c.args.asks.now _))
    (both_told told limit own parts answer part))
