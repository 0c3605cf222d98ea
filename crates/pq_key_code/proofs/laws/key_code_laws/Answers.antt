use Rattle.pq_key_code.proofs.Order.{codes_cmp, prefix_free_lem, above_lem, below_lem, past_cmp, codes_apart, prefix_cmp, range_lem, in_range_lem}
use Rattle.pq_key_code.proofs.laws.key_code_laws.Goals as goal

pub returns-clause-order : goal.returns-clause-order
returns-clause-order c = codes_cmp

pub returns-clause-prefix_free : goal.returns-clause-prefix_free
returns-clause-prefix_free c = prefix_free_lem

pub returns-clause-above : goal.returns-clause-above
returns-clause-above c = above_lem

pub returns-clause-below : goal.returns-clause-below
returns-clause-below c = below_lem

pub returns-clause-past_order : goal.returns-clause-past_order
returns-clause-past_order c = past_cmp

pub returns-clause-apart : goal.returns-clause-apart
returns-clause-apart c = codes_apart

pub returns-clause-range : goal.returns-clause-range
returns-clause-range c = range_lem

pub returns-clause-in_range : goal.returns-clause-in_range
returns-clause-in_range c = in_range_lem

pub returns-clause-prefix_order : goal.returns-clause-prefix_order
returns-clause-prefix_order c = prefix_cmp
