use Rattle.pq_content.proofs.Others.{get_other, insert_other, no_intent, rising_catalog_range, no_pairs}
use Rattle.pq_content.proofs.laws.catalog_laws.Goals as goal

pub returns-clause-get : goal.returns-clause-get
returns-clause-get c = get_other

pub returns-clause-put : goal.returns-clause-put
returns-clause-put c = insert_other

pub returns-clause-no_intent : goal.returns-clause-no_intent
returns-clause-no_intent c = no_intent

pub returns-clause-range : goal.returns-clause-range
returns-clause-range c = rising_catalog_range

pub returns-clause-nothing : goal.returns-clause-nothing
returns-clause-nothing c = no_pairs
