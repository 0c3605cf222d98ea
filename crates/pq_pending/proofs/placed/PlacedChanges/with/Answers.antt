use Rattle.std.proofs.Common.{ℕ, ◌++◌, List, [], ◌∷◌, map, refl, sym, ap, ◌∙◌, subst}
use Rattle.std.specs.Global.{Vec}
use Rattle.std.specs.List.{position}
use Rattle.indexmap.specs.IndexMap.{insert_entry}
use Rattle.pq_content.specs.Standing.{change_of}
use Rattle.pq_row_code.specs.declared.changes.Change.{Change as Coded}
use Rattle.pq_pending.proofs.Places.{with_at, with_none}
use Rattle.pq_pending.proofs.Placing.{same_bytes, put_over, put_last}
use Rattle.pq_pending.specs.Pending.{with_change}
use Rattle.pq_pending.specs.Placed.{HavePlaces, is_of}
use Rattle.pq_pending.proofs.placed.PlacedChanges.with.Goals as goal

pub invariant_of-result : goal.invariant_of-result
invariant_of-result c =
    let key = c.args.change.key in
    put_over c.self.inside.places.entries c.self.inside.changes.items c.self.invariant c.in-Some.place c.args.change
    (ap (position (is_of key)) c.self.view_is ∙ ap (λ k. position (is_of k) c.args.self) (sym c.items.ensures) ∙ sym c.place-found.ensures ∙ c.in-Some.is)

pub returns-in-Some : goal.returns-in-Some
returns-in-Some c =
    let key = c.args.change.key in
    with_at key c.self.inside.changes.items c.in-Some.place c.args.change refl
    (ap (position (is_of key)) c.self.view_is ∙ ap (λ k. position (is_of k) c.args.self) (sym c.items.ensures) ∙ sym c.place-found.ensures ∙ c.in-Some.is)
    ∙ ap (λ (changes : List Coded). with_change (map change_of changes) (change_of c.args.change)) c.self.view_is

pub invariant_of-result-in-None : goal.invariant_of-result-in-None
invariant_of-result-in-None c =
    let key = c.args.change.key in
    let items = c.self.inside.changes.items in
    let copy = c.in_ok-key-in-None.key in
    subst (λ (changes : List Coded). HavePlaces c.insert.new.self.entries changes) (sym c.in_ok-push-in-None.ensures.items)
    (subst (λ (places : List (Vec ℕ × ℕ)). HavePlaces places (items ++ c.args.change ∷ []))
    (sym (c.in_ok-insert-in-None.ensures.entries ∙ ap (insert_entry same_bytes c.self.inside.places.entries copy) (c.len.ensures ∙ c.self.inside.changes.ok.0)))
    (put_last c.self.inside.places.entries items c.self.invariant c.args.change copy (c.in_ok-key-in-None.ensures.items ∙ c.items-in-None.ensures)
    (ap (position (is_of key)) c.self.view_is ∙ ap (λ k. position (is_of k) c.args.self) (sym c.items.ensures) ∙ sym c.place-found.ensures ∙ c.in-None.is)))

pub returns-in_ok-push-in-None : goal.returns-in_ok-push-in-None
returns-in_ok-push-in-None c =
    let key = c.args.change.key in
    let items = c.self.inside.changes.items in
    ap (map change_of) c.in_ok-push-in-None.ensures.items
    ∙ with_none key items c.args.change refl
    (ap (position (is_of key)) c.self.view_is ∙ ap (λ k. position (is_of k) c.args.self) (sym c.items.ensures) ∙ sym c.place-found.ensures ∙ c.in-None.is)
    ∙ ap (λ (changes : List Coded). with_change (map change_of changes) (change_of c.args.change)) c.self.view_is
