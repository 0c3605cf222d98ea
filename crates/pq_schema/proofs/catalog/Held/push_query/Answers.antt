use Rattle.std.proofs.Common.{◌≡◌, ◌+◌, ◌++◌, ◌∷◌, [], ◌≤◌, length, refl, sym, ap, ◌∙◌, subst, rules}
use Rattle.std.specs.Prelude.{IfSome, option_map}
use Rattle.pq_schema.specs.declared.made.Definition.TheVariants.{OfQuery}
use Rattle.std.specs.String.{string_bytes}
use Rattle.pq_schema.specs.Numbered.{AreNumbered, PutsNumber}
use Rattle.pq_schema.specs.Schema.{Schema, with_query, with_wanted, made_of}
use Rattle.pq_schema.specs.Valid.{IsValid}
use Rattle.pq_schema.specs.Valid.IsValid.{then_query}
use Rattle.pq_schema.proofs.Numbered.{catalog_as, same_numbered, query_numbered}
use Rattle.pq_schema.proofs.Valid.{valid_sound, wanted_there}
use Rattle.pq_schema.proofs.catalog.Held.push_query.Goals as goal

pub put_wanted-requires : goal.put_wanted-requires
put_wanted-requires c =
    subst (λ (s : Schema). IfSome c.args.wanted (λ new. (1 ≤ new.table) × (new.table ≤ length s.tables))) (sym c.self.view_is)
    (wanted_there c.args.self.now.tables c.args.query c.args.wanted c.requires.defined.resolved c.requires.defined.chosen)

pub returns-clause-ok : goal.returns-clause-ok
returns-clause-ok c =
    let inside = c.self.inside in
    let definition = OfQuery c.args.query (option_map made_of c.args.wanted) in
    let tables = c.in_ok-put_wanted.ensures.ok ∙ ap (λ (s : Schema). with_wanted s.tables c.args.wanted) c.self.view_is in
    let last : c.put_last.new.items.items ≡ inside.definitions.items ++ definition ∷ [] =
    c.put_last.ensures ∙ (λ i. c.make_room.ensures.items i ++ OfQuery c.args.query (c.made_by-made.ensures i) ∷ []) in
    let definitions = last ∙ ap (λ (s : Schema). s.definitions ++ definition ∷ []) c.self.view_is in
    λ i. record { tables = tables i; definitions = definitions i }

pub invariant_of-self-2 : goal.invariant_of-self-2
invariant_of-self-2 c =
    let inside = c.self.inside in
    let now = c.args.self.now in
    let query = c.args.query in
    let name = c.in_ok-name.name in
    let tns = inside.table_numbers.entries in
    let qns = inside.query_numbers.entries in
    let next = with_query now query c.args.wanted in
    let whole = returns-clause-ok c in
    let long : c.len.result ≡ length inside.definitions.items = search rules in
    let mid = c.make_room.new.numbers.entries in
    let put_in = c.put_number.new.numbers.entries in
    let numbered = same_numbered now tns qns (subst (λ (s : Schema). AreNumbered s tns qns) c.self.view_is c.self.invariant.1) tns mid (λ n. refl) c.make_room.ensures.numbers in
    let put : PutsNumber (string_bytes name) (length now.definitions + 1) mid put_in =
    subst (λ n. PutsNumber (string_bytes name) (n + 1) mid put_in) (long ∙ ap (λ (s : Schema). length s.definitions) c.self.view_is) c.put_number.ensures in
    catalog_as next _ _ tns put_in
    (ap (λ (s : Schema). s.tables) whole) (ap (λ (s : Schema). s.definitions) whole)
    (valid_sound (then_query now query c.args.wanted (subst IsValid c.self.view_is c.self.invariant.0.valid) c.requires.defined))
    (query_numbered now tns mid numbered (string_bytes name) query c.args.wanted put_in (c.in_ok-name.ensures.ok ∙ c.as_str.ensures) c.requires.free put)
