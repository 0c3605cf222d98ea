use Rattle.std.proofs.Common.{◌≡◌, ℕ, ◌+◌, ◌≤◌, Bool, true, false, List, Option, refl, sym, ap, subst, ◌∙◌, length}
use Rattle.std.specs.Prelude.{IfSome, not}
use Rattle.std.specs.Str.{bytes_eq}
use Rattle.pq_key_code.specs.KeyCode.{catalog_key}
use Rattle.pq_schema.specs.Schema.{Schema}
use Rattle.pq_store.specs.Content.{entry}
use Rattle.pq_opening.proofs.Openings.{text_some, pair_formatted}
use Rattle.pq_opening.proofs.opening.with_pair.Goals as goal

pub formatted-requires : goal.formatted-requires
formatted-requires c =
    subst (λ (o : Option Schema). IfSome o (λ (s : Schema). 1 ≤ length s.definitions)) (sym c.in_ok-next-in-Some.ensures) (text_some c.args.planned _)

key_found : (a b key next : List ℕ) (other : Bool) → other ≡ not (bytes_eq a b) → other ≡ false → a ≡ key → b ≡ next → bytes_eq key next ≡ true
key_found a b key next other is same at there = by (bytes_eq a b) refl (sym is ∙ same)
  where
    by : (x : Bool) → bytes_eq a b ≡ x → not x ≡ false → bytes_eq key next ≡ true
    by true found _ = (λ i. bytes_eq (sym at i) (sym there i)) ∙ found
    by false found wrong = absurd (cc)

pub returns-in_ok-next-in-Some : goal.returns-in_ok-next-in-Some
returns-in_ok-next-in-Some c =
    pair_formatted c.args.planned (entry c.args.pair.now) c.items-3.result.now c.items-in-Some.result.now c.in-Some.mark c.in-Some.text c.in_ok-next-in-Some.next c.formatted.result
    (key_found c.items.result.now c.items-2.result.now c.args.pair.now.key (catalog_key (length c.args.planned.definitions + 1)) c.ne.result c.ne.ensures c.if-ne.false c.items.ensures
    (c.items-2.ensures ∙ c.in_ok-key.ensures ∙ ap (λ n. catalog_key (n + 1)) (c.defs.ensures.defs ∙ ap (λ (s : Schema). length s.definitions) c.catalog.ensures)))
    c.items-3.ensures c.items-in-Some.ensures (sym c.in_ok-mark.ensures ∙ c.in-Some.is) c.in_ok-next-in-Some.ensures c.formatted.ensures
