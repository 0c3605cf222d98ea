use Rattle.pq_print.proofs.Quotes.{doubled_more}
use Rattle.pq_print.proofs.value.put_chars.Goals as goal

pub loop-c-preserved : goal.loop-c-preserved
loop-c-preserved c = doubled_more _ _ _ c.loop-c.yielded c.in-Some.c c.loop-c.invariant c.in_ok-put_char.ensures
