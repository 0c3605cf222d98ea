use Rattle.std.proofs.Common.{◌≡◌, ◌+◌, ◌-◌, ◌/◌, [], length, get_or, map, Some, ap, ◌∙◌, arith}
use Rattle.std.proofs.lemmas.List.{length-map}
use Rattle.std.specs.declared.cmp.Ordering.TheVariants.{Less, Equal, Greater}
use Rattle.pq_base.specs.Words.{uppercase_byte, texts}
use Rattle.pq_base.proofs.WordOrder.{below_middle, above_middle, none_is, same_word}
use Rattle.pq_base.proofs.word_table.find.Goals as goal
use Rattle.std.specs.Ordering.{nat_cmp}
use Rattle.std.specs.Cmp.Lexicographic.{slice_cmp}

pub halves-preserved-in-Less : goal.halves-preserved-in-Less
halves-preserved-in-Less c =
    let i = c.halves.invariant in
    let len : length (texts c.args.words.now) ≡ length c.args.words.now = simp length-map in
    let is : slice_cmp nat_cmp (get_or (texts c.args.words.now) (c.halves.low + (c.halves.high - c.halves.low) / 2) []) (map uppercase_byte c.args.word.now) ≡ Less = cc in
    (omega arith, i.1, below_middle (texts c.args.words.now) (map uppercase_byte c.args.word.now) (c.halves.low + (c.halves.high - c.halves.low) / 2) c.requires (omega arith) is, i.3)

pub halves-preserved : goal.halves-preserved
halves-preserved c =
    let i = c.halves.invariant in
    let len : length (texts c.args.words.now) ≡ length c.args.words.now = simp length-map in
    let is : slice_cmp nat_cmp (get_or (texts c.args.words.now) (c.halves.low + (c.halves.high - c.halves.low) / 2) []) (map uppercase_byte c.args.word.now) ≡ Greater = cc in
    (omega arith, omega arith, i.2, above_middle (texts c.args.words.now) (map uppercase_byte c.args.word.now) (c.halves.low + (c.halves.high - c.halves.low) / 2) c.requires is)

pub returns-in-Equal-clause-found : goal.returns-in-Equal-clause-found
returns-in-Equal-clause-found c =
    let is : slice_cmp nat_cmp c.text_at.result.now (map uppercase_byte c.args.word.now) ≡ Equal = cc in
    c.text_at.ensures.get ∙ ap (λ (w : _). Some w) (same_word c.text_at.result.now (map uppercase_byte c.args.word.now) is)

pub returns-clause-none : goal.returns-clause-none
returns-clause-none c = λ place e.
    none_is (texts c.args.words.now) (map uppercase_byte c.args.word.now) c.halves.low c.halves.high c.halves.invariant.2 c.halves.invariant.3 c.halves-test.false place e
