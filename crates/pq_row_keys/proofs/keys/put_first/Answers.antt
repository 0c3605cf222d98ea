use Rattle.std.proofs.Common.{ℕ, ◌≤◌, ap, sym, ◌∙◌, arith, count_ones}
use Rattle.pq_base.specs.Columns.{set_of}
use Rattle.std.specs.Prelude.{slice_get}
use Rattle.pq_schema.specs.Sequences.{columns_of, then_key}
use Rattle.pq_row_keys.specs.Groups.{values_from}
use Rattle.pq_schema.specs.Keys.{given_value}
use Rattle.pq_row_keys.proofs.CodedKeys.{place_put, place_end}
use Rattle.pq_row_keys.proofs.keys.put_first.Goals as goal

pub loop-place-preserved : goal.loop-place-preserved
loop-place-preserved c =
    place_put (given_value c.args.cols.now (values_from c.args.source c.args.cols.now c.args.values.now)) (then_key c.args.parts.now (set_of (columns_of c.args.parts.now)) c.args.key.now) c.loop-place.place c.in-Some.part _ _ _
    (ap (λ (s : ℕ). slice_get (then_key c.args.parts.now s c.args.key.now) c.loop-place.place) (sym c.columns_in-set.ensures) ∙ sym c.part_at.ensures ∙ c.in-Some.is) c.loop-place.invariant c.in_ok-put_from-in-Some.ensures

pub returns-in-None : goal.returns-in-None
returns-in-None c =
    let few : c.loop-place.place ≤ count_ones (set_of c.args.cols.now) = rw (← c.of.ensures, ← c.count-place-end.ensures) (omega arith) in
    place_end (given_value c.args.cols.now (values_from c.args.source c.args.cols.now c.args.values.now)) (then_key c.args.parts.now (set_of (columns_of c.args.parts.now)) c.args.key.now) c.loop-place.place (count_ones (set_of c.args.cols.now)) _ _
    (ap (λ (s : ℕ). slice_get (then_key c.args.parts.now s c.args.key.now) c.loop-place.place) (sym c.columns_in-set.ensures) ∙ sym c.part_at.ensures ∙ c.in-None.is) few c.loop-place.invariant
