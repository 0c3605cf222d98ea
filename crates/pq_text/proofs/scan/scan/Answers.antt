use Rattle.std.proofs.Common.{◌≡◌, ◌++◌, ℕ, List, [], Option, Some, None, refl, length, drop, ap, sym, subst, ◌∙◌}
use Rattle.std.proofs.lemmas.List.{append-nil}
use Rattle.pq_text.specs.Tokens.{tokens_from, tokens_of, with_behind, InOrder, HaveForms}
use Rattle.pq_text.specs.declared.token.Token.{Token}
use Rattle.pq_text.proofs.Spans.{tokens_in_order, tokens_have_forms}
use Rattle.pq_text.proofs.scan.scan.Goals as goal

none_behind : (text : List ℕ) (next : Option Token) → ((t : Token) → next ≡ Some t → ⊥) → with_behind text next ≡ []
none_behind text None isnt = refl
none_behind text (Some t) isnt = absurd (isnt t refl)

all_found : (text : List ℕ) (at : ℕ) (tokens : List Token) (next : Option Token) → ((t : Token) → next ≡ Some t → ⊥)
    → tokens_from 0 at (drop at text) ≡ with_behind text next → tokens ++ tokens_from 0 at (drop at text) ≡ tokens_of text
    → tokens ≡ tokens_of text
all_found text at tokens next isnt is found =
    sym (append-nil tokens) ∙ ap (λ (ts : List Token). tokens ++ ts) (sym (is ∙ none_behind text next isnt)) ∙ found

pub returns-clause-order : goal.returns-clause-order
returns-clause-order c =
    subst (InOrder 0 (length c.args.text.now))
    (sym (all_found c.args.text.now c.tokens.at c.tokens.tokens c.next_token.result c.in_default.not-Some c.next_token.ensures.found c.tokens.invariant.1))
    (tokens_in_order c.args.text.now)

pub returns-clause-slices : goal.returns-clause-slices
returns-clause-slices c =
    subst (HaveForms c.args.text.now)
    (sym (all_found c.args.text.now c.tokens.at c.tokens.tokens c.next_token.result c.in_default.not-Some c.next_token.ensures.found c.tokens.invariant.1))
    (tokens_have_forms c.args.text.now)
