use Rattle.std.proofs.lemmas.List.{length-map}
use Rattle.pq_counters.specs.Groups.{asked_key}
use Rattle.pq_counters.proofs.steps.found_values.Goals as goal

pub gets-requires : goal.gets-requires
gets-requires g c = rw (c.items.ensures, c.in_ok-keys.ensures, length-map c.args.groups.now asked_key) c.requires

pub returns-clause-asks : goal.returns-clause-asks
returns-clause-asks g c = record {
  uses = rw (c.items.ensures, c.in_ok-keys.ensures, length-map c.args.groups.now asked_key) at c.gets.ensures.asks.uses;
  cause = c.gets.ensures.asks.cause;
  answered = c.gets.ensures.asks.answered;
}

pub returns-clause-long : goal.returns-clause-long
returns-clause-long g c = rw (c.items.ensures, c.in_ok-keys.ensures, length-map c.args.groups.now asked_key) at c.gets.ensures.long

pub returns-clause-answer : goal.returns-clause-answer
returns-clause-answer g c = rw (c.items.ensures, c.in_ok-keys.ensures) at c.gets.ensures.answer

pub returns-clause-answers : goal.returns-clause-answers
returns-clause-answers g c = rw (c.items.ensures, c.in_ok-keys.ensures) at c.gets.ensures.answers
