-- A source and a sink in memory whose listed calls fail.
use Rattle.std.specs.Prelude.{ℕ, ◌+◌, ◌-◌, ◌==◌, ◌||◌, min, Bool, List, length, if◌then◌else◌}
use Rattle.std.specs.List.{list_any}

-- which calls are to fail, numbered from 1; how many were made, up to the last number; how many of these failed
pub record Calls : Type 0 where
  pub fails : List ℕ
  pub made : ℕ
  pub faults : ℕ

-- one more, up to the last number
abbrev pub raised_count : ℕ → ℕ
raised_count n = min (n + 1) 18446744073709551615

-- the next call is listed
abbrev pub is_listed : Calls → Bool
is_listed calls = list_any (λ number. number == calls.made + 1) calls.fails

-- one call more, which failed or not
abbrev pub calls_after : Bool → Calls → Calls
calls_after failed calls = record {
  fails = calls.fails;
  made = raised_count calls.made;
  faults = if failed
      then raised_count calls.faults else calls.faults;
}

-- what a source in memory has left, and how many bytes it gave
pub record GivenBytes : Type 0 where
  pub left : List ℕ
  pub count : ℕ
  pub calls : Calls

-- what a sink in memory holds, and how many bytes it holds at most
pub record TakenBytes : Type 0 where
  pub held : List ℕ
  pub room : ℕ
  pub calls : Calls

abbrev pub is_full_sink : TakenBytes → Bool
is_full_sink sink = sink.room - length sink.held == 0

-- the next write fails
abbrev pub is_refusing : TakenBytes → Bool
is_refusing sink = is_listed sink.calls || is_full_sink sink
