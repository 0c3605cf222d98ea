use Rattle.std.proofs.Common.{◌≡◌, ℕ, List, length, sym, ap, ◌∙◌, subst}
use Rattle.std.proofs.lemmas.List.{length-map}
use Rattle.std.specs.List.{AllByRecursion}
use Rattle.pq_base.specs.Values.{AllFit}
use Rattle.pq_base.specs.declared.value.Value.{Value}
use Rattle.pq_schema.specs.Rows.{types_of}
use Rattle.pq_schema.specs.Tables.{table_at}
use Rattle.pq_nodes.specs.Combos.{FitsTables}
use Rattle.pq_scan.specs.Candidates.{place_in, kept_in}
use Rattle.pq_scan.proofs.Fetching.{kept_held, places_there, behind_length, behind_fit}
use Rattle.pq_scan.proofs.Gathered.{fetched}
use Rattle.pq_scan.proofs.fetch.combos_of.Goals as goal

pub rows_of-requires-clause-held : goal.rows_of-requires-clause-held
rows_of-requires-clause-held g c =
    kept_held c.args.scan.now (g.S.Store.content c.args.calls.now.store.now) (length c.args.inputs.now) c.args.candidates c.requires.candidates
    c.in_ok-places.field-0.held c.in_ok-places.ensures.held

pub behind_each-requires-clause-there : goal.behind_each-requires-clause-there
behind_each-requires-clause-there g c =
    places_there c.args.scan.now (g.S.Store.content c.args.calls.now.store.now) (length c.args.inputs.now) c.args.candidates c.requires.candidates
    c.items.result.now (c.items.ensures ∙ c.in_ok-places.ensures.places)

pub returns-clause-size : goal.returns-clause-size
returns-clause-size g c =
    let rows = c.in_ok-rows.rows in
    let candidates = c.args.candidates in
    let places = c.items.result.now in
    let as_held : length rows ≡ length candidates = c.in_ok-rows.ensures.long ∙ ap (λ (l : List (List Value)). length l) c.in_ok-places.ensures.held ∙ length-map candidates kept_in in
    let as_placed : length places ≡ length candidates = ap (λ (l : List ℕ). length l) (c.items.ensures ∙ c.in_ok-places.ensures.places) ∙ length-map candidates place_in in
    ap (λ (l : List (List (List Value))). length l) c.in_ok-behind_each.ensures
    ∙ behind_length c.args.inputs.now places rows (as_held ∙ sym as_placed) ∙ as_held

pub returns-clause-fit : goal.returns-clause-fit
returns-clause-fit g c =
    let scan = c.args.scan.now in
    let tables = scan.catalog.now.tables in
    let rows = c.in_ok-rows.rows in
    let there = places_there scan (g.S.Store.content c.args.calls.now.store.now) (length c.args.inputs.now) c.args.candidates c.requires.candidates c.items.result.now (c.items.ensures ∙ c.in_ok-places.ensures.places) in
    subst (AllByRecursion (FitsTables tables scan.query.now scan.rel)) (sym c.in_ok-behind_each.ensures)
    (behind_fit c.args.inputs.now tables scan.query.now scan.rel c.requires.ready.relation.from_one c.requires.inputs c.items.result.now there rows
    (subst (λ (n : ℕ). AllByRecursion (AllFit (types_of (table_at tables n))) rows) c.requires.ready.sound.number_is c.in_ok-rows.ensures.fit))

pub returns-clause-codes : goal.returns-clause-codes
returns-clause-codes g c =
    fetched c.args.scan.now (g.S.Store.content c.args.calls.now.store.now) c.args.inputs.now c.args.candidates c.in_ok-places.field-0.held c.in_ok-rows.rows c.items.result.now _
    c.in_ok-rows.ensures.codes c.in_ok-places.ensures.held (c.items.ensures ∙ c.in_ok-places.ensures.places) c.in_ok-behind_each.ensures
