use Rattle.std.proofs.Common.{◌≤◌, length, Option, sym, subst}
use Rattle.std.specs.List.{AllByRecursion}
use Rattle.std.specs.Option.{option_copied}
use Rattle.pq_store.specs.Content.{Content}
use Rattle.pq_calls.proofs.Steps.{rest_left}
use Rattle.pq_scan.specs.Candidates.{IsCandidate, AreCombosOf}
use Rattle.pq_scan.proofs.Gathered.{scanned}
use Rattle.pq_scan.proofs.Merged.{stop_scan_made}
use Rattle.pq_scan.proofs.Running.{fetch_rounds, fetch_within, first_kept, first_length}
use Rattle.pq_scan.proofs.Steps.{spends_then}
use Rattle.pq_scan.proofs.scanning.run.Goals as goal

pub combos_of-requires-clause-candidates : goal.combos_of-requires-clause-candidates
combos_of-requires-clause-candidates g c =
    let scan = c.args.scan.now in
    let n = length c.args.inputs.now in
    let told = g.S.Store.content c.args.calls.now.store.now in
    subst (λ (o : Option Content). AllByRecursion (IsCandidate scan o n) c.in_ok-first.first) (sym c.gather.ensures.spends.uses.reads.same)
    (first_kept (IsCandidate scan told n) c.args.k c.in_ok-found.found c.in_ok-first.first c.in_ok-first.ensures c.in_ok-found.ensures.kept)

pub combos_of-requires-clause-share : goal.combos_of-requires-clause-share
combos_of-requires-clause-share g c =
    let few : length c.in_ok-first.first ≤ c.args.k = first_length c.args.k c.in_ok-found.found c.in_ok-first.first c.in_ok-first.ensures in
    let share = fetch_within c.args.scan.now.access c.args.scan.now.rel (length c.args.inputs.now) c.args.k (length c.in_ok-first.first) few in
    rest_left _ _ _ _ _ _ _ _ c.gather.ensures.spends.uses.reads c.requires.share share.0 share.1

pub returns-clause-spends : goal.returns-clause-spends
returns-clause-spends g c =
    let few : length c.in_ok-first.first ≤ c.args.k = first_length c.args.k c.in_ok-found.found c.in_ok-first.first c.in_ok-first.ensures in
    let share = fetch_within c.args.scan.now.access c.args.scan.now.rel (length c.args.inputs.now) c.args.k (length c.in_ok-first.first) few in
    spends_then g.S.Store _ _ _ _ _ _ _ _ _ _ _ _ c.gather.ensures.spends c.combos_of.ensures.spends share.0 share.1 (fetch_rounds c.args.scan.now.access)

pub returns-clause-answer : goal.returns-clause-answer
returns-clause-answer g c = λ rows others h.
    let scan = c.args.scan.now in
    let told = g.S.Store.content c.args.calls.now.store.now in
    let inputs = c.args.inputs.now in
    let first = c.in_ok-first.first in
    let found = c.in_ok-combos_of.field-0 in
    stop_scan_made scan c.requires.ready rows (option_copied c.args.after) c.requires.cursor c.args.k told others h inputs c.requires.inputs
    c.in_ok-found.found first (c.in_ok-found.ensures.answer rows others h) c.in_ok-first.ensures found
    (subst (λ (o : Option Content). AreCombosOf scan o inputs first found) c.gather.ensures.spends.uses.reads.same c.in_ok-combos_of.ensures.answer)

pub returns-clause-codes : goal.returns-clause-codes
returns-clause-codes g c =
    scanned c.args.scan.now (option_copied c.args.after) c.args.k (g.S.Store.content c.args.calls.now.store.now) (g.S.Store.content c.gather.new.calls.store.now) c.args.inputs.now c.in_ok-combos_of.field-0
    c.in_ok-found.found c.in_ok-first.first c.gather.ensures.spends.uses.reads.same c.in_ok-found.ensures.codes c.in_ok-first.ensures c.in_ok-combos_of.ensures.codes
