-- What is the same for all rows of an input, and the ends of its range.
use Rattle.std.specs.Prelude.{◌≡◌, ℕ, List, [], map, Option}
use Rattle.pq_base.specs.declared.value.Value.{Value}
use Rattle.pq_serving.specs.Scanning.{constant}
use Rattle.pq_operands.specs.Ties.{cells_tied}
use Rattle.pq_scan.specs.declared.keys.Edge.TheVariants.{At, Past}
use Rattle.pq_scan.specs.declared.keys.End.TheVariants.{Low, High}
use Rattle.pq_scan.specs.declared.prepared.Scan.{Scan}
use Rattle.pq_scan.specs.Ends.{started_key, end_code}
use Rattle.pq_scan.specs.Prepared.{asked_over}

pub record Input : Type 0 where
  pub ties : List Value
  pub constants : List (Option Value)

-- with these tied values
abbrev pub input_with : Scan → List (List Value) → List Value → Input
input_with scan combo ties =
    record { ties = ties; constants = map (constant (asked_over scan []) scan.rel combo) scan.items }

pub record IsInputAt (scan : Scan) (combo : List (List Value)) (input : Input) : Type 0 where
  pub ties_is : input.ties ≡ cells_tied scan.query.now scan.params.now scan.rel combo scan.front
  pub constants_is : input.constants ≡ map (constant (asked_over scan []) scan.rel combo) scan.items

-- where the range of an input starts, strictly after a cursor, and before which code it ends
abbrev pub low_code : Scan → List (List Value) → Input → Option (List Value) → List ℕ
low_code scan combo input after =
    started_key scan.dirs input.ties scan.position_dirs input.constants after (end_code scan combo input.ties Low At)

abbrev pub high_code : Scan → List (List Value) → Input → List ℕ
high_code scan combo input = end_code scan combo input.ties High Past
