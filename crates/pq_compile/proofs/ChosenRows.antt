-- What known queries are compiled to, and why they are refused, by computation.
use Rattle.std.proofs.Common.{◌≡◌, [], ◌∷◌, map, replicate, Some, None, Ok, Err, refl}
use lib.Count.{ones}
use Rattle.pq_base.specs.declared.value.Value.TheVariants as value
use Rattle.pq_base.specs.declared.value.Dir.TheVariants.{Desc}
use Rattle.pq_base.specs.declared.number.Choice.TheVariants.{Whole, Stop}
use Rattle.pq_base.specs.declared.count_word.TheConstants as count_word
use Rattle.pq_base.specs.declared.refusal.Refusal.TheVariants as refusal
use Rattle.pq_schema.specs.declared.table.Table.{Table}
use Rattle.pq_base.specs.declared.op.Op.TheVariants as op
use Rattle.pq_schema.specs.declared.query.Operand.TheVariants as operand
use Rattle.pq_schema.specs.declared.query.Query.{Query}
use Rattle.pq_schema.specs.declared.query.Relation.{Relation}
use Rattle.pq_schema.specs.declared.query.Stop.TheVariants as stop
use Rattle.pq_schema.specs.Costs.{bound}
use Rattle.pq_schema.specs.Sequences.{ascending_part}
use Rattle.pq_schema.proofs.Rows.{users, tables, home, in_city, friends, pred, col, k, kx, g, chain, chain_two}
use Rattle.pq_schema.specs.Wanted.{chosen_candidate}

-- the least candidate at a stop, with a new index
home_chosen : chosen_candidate tables home ≡ Ok (record {
  best = record { choice = Stop 2; bound = bound 111 1110 };
  wanted = Some (record { table = 3; number = 1; index = record { cols = ascending_part 0 ∷ record { col = 1; dir = Desc } ∷ [] } });
})
unfolding ones
home_chosen = refl

-- without an index, since the primary sequence serves
friends_chosen : chosen_candidate tables (friends []) ≡ Ok (record { best = record { choice = Stop 1; bound = bound 11 20 }; wanted = None })
unfolding ones
friends_chosen = refl

roman_chosen : chosen_candidate tables (friends (pred (col 2 1) op.Eq (operand.Const (value.Text [])) ∷ [])) ≡ Ok (record { best = record { choice = Whole; bound = bound 101 200 }; wanted = None })
unfolding ones
roman_chosen = refl

-- an index of the table does not serve, so a second is wanted
kx_chosen : chosen_candidate (k ∷ []) kx ≡ Ok (record {
  best = record { choice = Stop 1; bound = bound 4 6 };
  wanted = Some (record { table = 1; number = 2; index = record { cols = ascending_part 2 ∷ [] } });
})
unfolding ones
kx_chosen = refl

-- the same query, each relation of which has the number of its table as its alias
abbrev pub named : Query → Query
named query = record query { relations = map (λ (r : Relation). record r { alias = r.table ∷ [] }) query.relations }

-- no bound: the alias is that of the first relation without one
city_refused : chosen_candidate tables (named (in_city stop.All)) ≡ Err (refusal.NoBound (1 ∷ []))
unfolding ones
city_refused = refl

-- another test than an equality doesn't bound the relation, and no stop is placed there
not_city_refused : chosen_candidate tables (named (record (in_city (stop.Limit 10)) { preds = pred (col 1 1) op.Ne (operand.Const (value.Text [])) ∷ [] })) ≡ Err (refusal.NoBound (1 ∷ []))
unfolding ones
not_city_refused = refl

-- the subscriptions of an owner are bounded, their thoughts are not
home_refused : chosen_candidate tables (named (record home { stop = stop.All })) ≡ Err (refusal.NoBound (3 ∷ []))
unfolding ones
home_refused = refl

-- a bound of just 50,000 entries, and one that is larger
chain_accepted : chosen_candidate (g 200 ∷ g 249 ∷ []) chain_two ≡ Ok (record { best = record { choice = Whole; bound = bound 201 50000 }; wanted = None })
unfolding ones
chain_accepted = refl

chain_refused : chosen_candidate (g 200 ∷ g 250 ∷ []) chain_two ≡ Err (refusal.BoundLarge 201 50200)
unfolding ones
chain_refused = refl

three_refused : chosen_candidate (g 100 ∷ []) (chain (1 ∷ 1 ∷ 1 ∷ [])) ≡ Err (refusal.BoundLarge 10101 1010100)
unfolding ones
three_refused = refl

-- sixteen indexes that do not serve
abbrev pub full : Table
full = record users { indexes = replicate 16 (record { cols = ascending_part 0 ∷ ascending_part 1 ∷ [] }) }

full_refused : chosen_candidate (full ∷ []) (in_city (stop.Limit 10)) ≡ Err (refusal.Count count_word.INDEXES)
unfolding ones
full_refused = refl
