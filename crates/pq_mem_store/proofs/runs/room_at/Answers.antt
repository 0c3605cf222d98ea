use Rattle.std.proofs.Common.{◌<◌, ◌∙◌, length, ap, sym, subst, IsTrue}
use Rattle.std.specs.List.{flat_map}
use Rattle.pq_store.specs.Content.{is_rising}
use Rattle.pq_mem_store.specs.Runs.{all_have, IsSeat}
use Rattle.pq_mem_store.proofs.Seats.{same_set, have_same, cut_same, have_cut, seat_set, unchanged, parted}
use Rattle.pq_mem_store.proofs.runs.room_at.Goals as goal

pub returns-in_err-cut-clause-same : goal.returns-in_err-cut-clause-same
returns-in_err-cut-clause-same g c =
    let items = c.in_ok-reserve.ensures.items in
    let within = subst (λ rs. c.seat-at.result < length rs) (c.as_slice.ensures.value ∙ sym items) c.seat-at.ensures.0 in
    same_set g.R.Begins.pairs c.reserve.new.self.items c.seat-at.result c.index_mut.result.now c.cut.new.self c.index_mut.ensures.value within c.in_err-cut.ensures.err ∙ ap (flat_map g.R.Begins.pairs) items

pub returns-in_err-cut-clause-have : goal.returns-in_err-cut-clause-have
returns-in_err-cut-clause-have g c =
    let items = c.in_ok-reserve.ensures.items in
    let within = subst (λ rs. c.seat-at.result < length rs) (c.as_slice.ensures.value ∙ sym items) c.seat-at.ensures.0 in
    let have = subst (λ rs. IsTrue (all_have g.R.Begins.pairs rs)) (sym items) c.requires.have in
    have_same g.R.Begins.pairs c.reserve.new.self.items c.seat-at.result c.index_mut.result.now c.cut.new.self c.index_mut.ensures.value within c.in_err-cut.ensures.err have

pub returns-in-None-clause-same : goal.returns-in-None-clause-same
returns-in-None-clause-same g c =
    let items = c.in_ok-reserve.ensures.items in
    let within = subst (λ rs. c.seat-at.result < length rs) (c.as_slice.ensures.value ∙ sym items) c.seat-at.ensures.0 in
    same_set g.R.Begins.pairs c.reserve.new.self.items c.seat-at.result c.index_mut.result.now c.cut.new.self c.index_mut.ensures.value within (unchanged g.R.Begins.pairs c.in_ok-cut.field-0 _ _ c.in-None.is c.in_ok-cut.ensures.ok) ∙ ap (flat_map g.R.Begins.pairs) items

pub returns-in-None-clause-have : goal.returns-in-None-clause-have
returns-in-None-clause-have g c =
    let items = c.in_ok-reserve.ensures.items in
    let within = subst (λ rs. c.seat-at.result < length rs) (c.as_slice.ensures.value ∙ sym items) c.seat-at.ensures.0 in
    let have = subst (λ rs. IsTrue (all_have g.R.Begins.pairs rs)) (sym items) c.requires.have in
    have_same g.R.Begins.pairs c.reserve.new.self.items c.seat-at.result c.index_mut.result.now c.cut.new.self c.index_mut.ensures.value within (unchanged g.R.Begins.pairs c.in_ok-cut.field-0 _ _ c.in-None.is c.in_ok-cut.ensures.ok) have

pub returns-in-None-clause-at : goal.returns-in-None-clause-at
returns-in-None-clause-at g c =
    let seat = subst (λ rs. IsSeat g.R.Begins.pairs rs c.args.key.now c.seat-at.result) (c.as_slice.ensures.value ∙ sym c.in_ok-reserve.ensures.items) c.seat-at.ensures in
    seat_set g.R.Begins.pairs c.reserve.new.self.items c.seat-at.result c.cut.new.self c.args.key.now seat

pub with_part-requires-clause-have : goal.with_part-requires-clause-have
with_part-requires-clause-have g c =
    let items = c.in_ok-reserve.ensures.items in
    let within = subst (λ rs. c.seat-at.result < length rs) (c.as_slice.ensures.value ∙ sym items) c.seat-at.ensures.0 in
    let have = subst (λ rs. IsTrue (all_have g.R.Begins.pairs rs)) (sym items) c.requires.have in
    let parts = parted g.R.Begins.pairs c.in_ok-cut.field-0 c.in-Some.part _ _ c.in-Some.is c.in_ok-cut.ensures.ok in
    have_cut g.R.Begins.pairs c.reserve.new.self.items c.seat-at.result c.index_mut.result.now c.cut.new.self c.in-Some.part c.index_mut.ensures.value within parts.0 have parts.1 parts.2

pub with_part-requires-clause-rising : goal.with_part-requires-clause-rising
with_part-requires-clause-rising g c =
    let items = c.in_ok-reserve.ensures.items in
    let within = subst (λ rs. c.seat-at.result < length rs) (c.as_slice.ensures.value ∙ sym items) c.seat-at.ensures.0 in
    let parts = parted g.R.Begins.pairs c.in_ok-cut.field-0 c.in-Some.part _ _ c.in-Some.is c.in_ok-cut.ensures.ok in
    subst (λ ps. IsTrue (is_rising ps)) (sym (cut_same g.R.Begins.pairs c.reserve.new.self.items c.seat-at.result c.index_mut.result.now c.cut.new.self c.in-Some.part c.index_mut.ensures.value within parts.0 ∙ ap (flat_map g.R.Begins.pairs) items)) c.requires.rising

pub returns-in-Some-clause-same : goal.returns-in-Some-clause-same
returns-in-Some-clause-same g c =
    let items = c.in_ok-reserve.ensures.items in
    let within = subst (λ rs. c.seat-at.result < length rs) (c.as_slice.ensures.value ∙ sym items) c.seat-at.ensures.0 in
    let parts = parted g.R.Begins.pairs c.in_ok-cut.field-0 c.in-Some.part _ _ c.in-Some.is c.in_ok-cut.ensures.ok in
    ap (flat_map g.R.Begins.pairs) c.with_part.ensures.items
    ∙ cut_same g.R.Begins.pairs c.reserve.new.self.items c.seat-at.result c.index_mut.result.now c.cut.new.self c.in-Some.part c.index_mut.ensures.value within parts.0 ∙ ap (flat_map g.R.Begins.pairs) items

pub returns-in-Some-clause-have : goal.returns-in-Some-clause-have
returns-in-Some-clause-have g c =
    let items = c.in_ok-reserve.ensures.items in
    let within = subst (λ rs. c.seat-at.result < length rs) (c.as_slice.ensures.value ∙ sym items) c.seat-at.ensures.0 in
    let have = subst (λ rs. IsTrue (all_have g.R.Begins.pairs rs)) (sym items) c.requires.have in
    let parts = parted g.R.Begins.pairs c.in_ok-cut.field-0 c.in-Some.part _ _ c.in-Some.is c.in_ok-cut.ensures.ok in
    subst (λ rs. IsTrue (all_have g.R.Begins.pairs rs)) (sym c.with_part.ensures.items)
    (have_cut g.R.Begins.pairs c.reserve.new.self.items c.seat-at.result c.index_mut.result.now c.cut.new.self c.in-Some.part c.index_mut.ensures.value within parts.0 have parts.1 parts.2)
