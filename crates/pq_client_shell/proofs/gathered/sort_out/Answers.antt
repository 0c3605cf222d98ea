use Rattle.std.proofs.Common.{rules}
use Rattle.pq_index_keep.specs.Sound.{IsWrite}
use Rattle.pq_client_shell.specs.Writes.{IsUncounted}
use Rattle.pq_client_shell.proofs.Sorting.{writes_more, lines_more, skips_more, writes_end, lines_end, skips_end, made_more, few_more}
use Rattle.pq_client_shell.proofs.gathered.sort_out.Goals as goal

pub loop-piece-preserved : goal.loop-piece-preserved
loop-piece-preserved c =
    let s = c.args.catalog.now in
    let ps = c.args.pieces.now in
    let i = c.loop-piece.piece-index in
    let so_far = c.loop-piece.invariant in
    let found = c.in_ok-found.found in
    let is = c.in_ok-found.ensures.is in
    record {
      number = search rules;
      writes = writes_more s ps i c.piece-item.result c.loop-piece-test.true c.piece-item.is _ _ _ found so_far.writes is c.in_ok-add.ensures.writes;
      made = made_more (IsWrite s.tables) _ _ found so_far.made c.in_ok-found.ensures.write c.in_ok-add.ensures.writes;
      uncounted = made_more (IsUncounted s) _ _ found so_far.uncounted c.in_ok-found.ensures.uncounted c.in_ok-add.ensures.writes;
      few = few_more _ _ found i so_far.few c.in_ok-add.ensures.writes;
      lines = lines_more s ps i c.piece-item.result c.loop-piece-test.true c.piece-item.is c.loop-piece.number _ _ _ found so_far.lines is c.in_ok-add.ensures.lines;
      skipped = skips_more s ps i c.piece-item.result c.loop-piece-test.true c.piece-item.is _ _ found so_far.skipped is c.in_ok-add.ensures.skipped;
    }

pub returns-clause-writes : goal.returns-clause-writes
returns-clause-writes c = writes_end _ c.args.pieces.now c.loop-piece.piece-index _ _ c.loop-piece-test.false c.loop-piece.invariant.writes

pub returns-clause-lines : goal.returns-clause-lines
returns-clause-lines c = lines_end _ _ c.args.pieces.now c.loop-piece.piece-index _ _ c.loop-piece-test.false c.loop-piece.invariant.lines

pub returns-clause-skipped : goal.returns-clause-skipped
returns-clause-skipped c = skips_end _ c.args.pieces.now c.loop-piece.piece-index _ c.loop-piece-test.false c.loop-piece.invariant.skipped
