use Rattle.std.proofs.Common.{◌≡◌, ◌+◌, ◌-◌, ◌≤◌, length, take, drop}
use Rattle.std.specs.Option.{option_map}
use Rattle.pq_text.specs.Cutting.{state_behind, is_solid, first_cut}
use Rattle.pq_text.proofs.splitter.scan.Given as goal

abbrev pub invariant-bytes : goal.invariant-bytes
invariant-bytes l =
    record {
      within : l.len ≤ length l.bytes;
      cut : first_cut l.fn.start l.bytes ≡ option_map (λ n. l.len + n) (first_cut l.state (drop l.len l.bytes));
      state : l.state ≡ state_behind l.fn.start (take l.len l.bytes);
      solid : l.solid ≡ is_solid l.fn.start (take l.len l.bytes);
    }

abbrev pub decreases-bytes : goal.decreases-bytes
decreases-bytes l = length l.bytes - l.len
