-- Sums of operations and entries.
use Rattle.std.specs.Prelude.{ℕ, ◌+◌, ◌*◌, Bool, nat_lt, ◌==◌, ◌&&◌, ◌||◌, if◌then◌else◌}
use Rattle.pq_base.specs.declared.number.Bound.{Bound}

abbrev pub bound : ℕ → ℕ → Bound
bound ops entries = record { ops = ops; entries = entries }

abbrev pub plus : Bound → Bound → Bound
plus a b = bound (a.ops + b.ops) (a.entries + b.entries)

abbrev pub times : ℕ → Bound → Bound
times n a = bound (n * a.ops) (n * a.entries)

-- a limit of n rows, in the primary sequence or over an index
abbrev pub limit_cost : Bool → ℕ → Bound
limit_cost primary n = if primary then bound 1 n else bound (1 + n) (2 * n)

-- N(i), the inputs of the next relation, and the cost so far
pub record ReachedCost : Type 0 where
  pub inputs : ℕ
  pub cost : Bound

abbrev pub start : ReachedCost
start = record { inputs = 1; cost = bound 0 0 }

-- for each input one read, which gives at most so many rows
abbrev pub read_each : ℕ → Bound → ReachedCost → ReachedCost
read_each size cost before = record {
  inputs = before.inputs * size;
  cost = plus before.cost (times before.inputs cost);
}

-- a range of k entries for each input, then the first k, each of which is fetched unless the primary sequence serves
abbrev pub read_stop : ℕ → Bool → ReachedCost → ReachedCost
read_stop k served before = record {
  inputs = k;
  cost = plus (plus before.cost (bound before.inputs (before.inputs * k))) (if served then bound 0 0 else bound k k);
}

-- fewer operations, or as many and fewer entries
abbrev pub is_less : Bound → Bound → Bool
is_less a b = nat_lt a.ops b.ops || a.ops == b.ops && nat_lt a.entries b.entries
