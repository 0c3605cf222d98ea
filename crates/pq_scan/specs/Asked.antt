-- What a scan asks for an input, and what the answer makes.
use Rattle.std.specs.Prelude.{◌≡◌, ℕ, cond, List, [], ◌++◌, length, map, Option, None, Some, IfSome}
use Rattle.std.specs.List.{AllByRecursion}
use Rattle.pq_base.specs.declared.value.Value.{Value}
use Rattle.pq_store.specs.declared.store.Ends.{Ends}
use Rattle.pq_store.specs.declared.store.Pair.{Pair}
use Rattle.pq_entries.specs.Entries.{OfEachRange, key_front}
use Rattle.pq_operands.specs.Ties.{cells_tied}
use Rattle.pq_serving.specs.Scanning.{constant, passes}
use Rattle.pq_scan.specs.declared.prepared.Scan.{Scan}
use Rattle.pq_scan.specs.Candidates.{Candidate, scanned_table, AreHeldWithin, AreFirst, IsHeld, candidate_at}
use Rattle.pq_scan.specs.Inputs.{Input, input_with, low_code, high_code}
use Rattle.pq_scan.specs.Prepared.{asked_over}

-- the ties and constants of an input
abbrev pub input_at : Scan → List (List Value) → Input
input_at scan combo = input_with scan combo (cells_tied scan.query.now scan.params.now scan.rel combo scan.front)

-- the range of an input, strictly after a cursor
abbrev pub range_of : Scan → Option (List Value) → List (List Value) → Ends
range_of scan after combo =
    record {
      low = key_front scan.number scan.access ++ low_code scan combo (input_at scan combo) after;
      high = key_front scan.number scan.access ++ high_code scan combo (input_at scan combo);
    }

-- the range that is asked for an input; none where it doesn't pass
abbrev pub range_asked : Scan → Option (List Value) → List (List Value) → Option Ends
range_asked scan after combo = cond (passes (asked_over scan []) scan.rel combo) (Some (range_of scan after combo)) None

-- the constants of an input that passes
abbrev pub constants_asked : Scan → List (List Value) → List (Option Value)
constants_asked scan combo =
    cond (passes (asked_over scan []) scan.rel combo) (map (constant (asked_over scan []) scan.rel combo) scan.items) []

-- what is kept of the rows of whatever range the pairs are of, one for each pair, comes behind what was there
pub record AddsHeld (scan : Scan) (constants : List (Option Value)) (place : ℕ) (pairs : List Pair)
    (before after : List Candidate) : Type 0 where
  pub held : List (List Value)
  pub long : length held ≡ length pairs
  pub fit : OfEachRange scan.number scan.access pairs
      (λ told low high limit. AllByRecursion (IsHeld scan told) held)
  pub within : OfEachRange scan.number scan.access pairs (λ told low high limit.
      IfSome told (AreHeldWithin scan.number (scanned_table scan) scan.access low high limit held))
  pub first : OfEachRange scan.number scan.access pairs (λ told low high limit.
      IfSome told (AreFirst scan.number (scanned_table scan) scan.access low high limit held))
  pub is : after ≡ before ++ map (candidate_at scan constants place) held
