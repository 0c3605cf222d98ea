-- The opening of a run.
use Rattle.std.proofs.Common.{◌≡◌, ℕ, ◌+◌, List, [], Option, Some, None, refl, sym, ap, ◌∙◌, subst, add-zero, arith}
use Rattle.std.specs.Prelude.{IfSome, length}
use Rattle.std.specs.Io.KnownBytes.{append_known}
use Rattle.pq_fill.specs.declared.words.Form.{Form}
use Rattle.pq_fill.specs.declared.words.Form.TheVariants.{Run, Check, Fill}
use Rattle.pq_schema.specs.Schema.{Schema, empty_schema}
use Rattle.pq_schema.specs.Valid.{IsValid, empty}
use Rattle.pq_store.specs.Breaks.{IfDamaged, IsUndamaged}
use Rattle.pq_store.specs.Content.{Content}
use Rattle.pq_store.specs.Counts.{Counts}
use Rattle.pq_store.specs.declared.damage.Broke.{Broke}
use Rattle.pq_store.specs.declared.damage.Broke.TheVariants as broke
use Rattle.pq_print.specs.Report.{opening_line}
use Rattle.pq_print.specs.declared.report.Opened.{Opened}
use Rattle.pq_check.specs.Checks.{without_rows}
use Rattle.pq_catalog.specs.Model.{Model}
use Rattle.pq_opening.specs.Opening.{IsOpeningBound, IsQuiet, LeavesFlawed, LeavesRead, LeavesStopped, NamesFlaw, IsOpening}
use Rattle.pq_opening.proofs.Leaving.{left_stops}
use Rattle.pq_catalog.specs.Stands.{Opens, Stands}
use Rattle.pq_opening.specs.Within.{IsBounded, IsWithinOpening, StopsWithin}
use Rattle.pq_shell.specs.Fold.{Moment}
use Rattle.pq_shell.specs.Forms.{HasOpening}
use Rattle.pq_shell.specs.Making.{moment}
use Rattle.pq_shell.specs.Openings.{OpensWith, StoppedOpening}
use Rattle.pq_console.specs.Stops.{CutsOff, stop_of_broke}
use Rattle.pq_shell.specs.declared.run.Begun.{Begun}
use Rattle.pq_console.specs.declared.stop.Stop.{Stop}
use Rattle.pq_console.specs.declared.stop.Stop.TheVariants as stops
use Rattle.pq_console.proofs.Known.{append_known-none}

-- a store that was opened
pub begun_store : (f : Form) → HasOpening f → (begun : Begun) (old now : Option Content) (h h' : Option (List ℕ)) (before after : Counts) (opened : Opened) → opened.used ≡ begun.used → IsValid begun.session
    → IsBounded opened → ((m : Model) → Opens old m → IsOpening old m opened) → ((m : Model) → Opens old m → Stands now begun.session m) → h' ≡ append_known h (opening_line opened)
    → after.ops ≡ before.ops + opened.used.ops → after.entries ≡ before.entries + opened.used.entries → opened.defs ≡ length begun.session.definitions → IfSome old (λ c. LeavesRead c now)
    → OpensWith f begun (moment old h before) (moment now h' after)
begun_store Run some begun old now h h' before after opened used valid bounded opens stands text ops entries defs left =
    record { opening = record { opened = opened; opens = λ m is. (opens m is, stands m is); bounded = λ _. bounded; left = λ _. left; valid = valid; defs = defs; text = text; ops = ops; entries = entries }; used_is = used }
begun_store Check some begun old now h h' before after opened used valid bounded opens stands text ops entries defs left = absurd some
begun_store (Fill n) some begun old now h h' before after opened used valid bounded opens stands text ops entries defs left =
    record { opening = record { opened = opened; opens = λ m is. (opens m is, stands m is); bounded = λ _. bounded; left = λ _. left; valid = valid; defs = defs; text = text; ops = ops; entries = entries }; used_is = used }

-- a check opens none
pub begun_none : (begun : Begun) (a : Moment) → begun.session ≡ empty_schema → begun.used ≡ record { ops = 0; entries = 0 } → OpensWith Check begun a a
begun_none begun a none used = record {
  opening = record {
    opened = record { defs = 0; bound = record { ops = 0; entries = 0 }; used = record { ops = 0; entries = 0 } };
    opens = λ m is. (tt, is ∙ ap without_rows (sym none));
    bounded = λ opening. absurd opening;
    left = λ opening. absurd opening;
    defs = ap (λ (s : Schema). length s.definitions) (sym none);
    valid = subst IsValid (sym none) empty;
    text = sym (append_known-none a.held);
    ops = sym (add-zero a.counts.ops);
    entries = sym (add-zero a.counts.entries);
  };
  used_is = sym used;
}

-- what is left where it stopped
left_and_quiet : (old now : Option Content) → IfSome old (λ c. LeavesStopped c now) → IfSome old (λ c. IsQuiet c → now ≡ Some c)
    → IfSome old (λ c. LeavesStopped c now × (IsQuiet c → now ≡ Some c))
left_and_quiet None now stops rests = tt
left_and_quiet (Some c) now stops rests = (stops, rests)

-- the session broke off at the opening
pub broke_opening : (error : Broke) (old now : Option Content) (h : Option (List ℕ)) (before after : Counts) → ((m : Model) → Opens old m → Opens now m) → ((m : Model) → Opens old m → IsUndamaged error)
    → StopsWithin before after → ((m : Model) → Opens old m → IfSome old (IsWithinOpening m before after)) → IfSome old (λ content. NamesFlaw content error)
    → IfSome old (λ c. IfDamaged (λ damage. LeavesFlawed c now) error) → IfSome old (λ c. LeavesStopped c now) → IfSome old (λ c. IsQuiet c → now ≡ Some c)
    → StoppedOpening (stop_of_broke error) (moment old h before) (moment now h after)
broke_opening broke.Failed old now h before after kept sound within own flaw left stops rests =
    record { part = []; text = sym (append_known-none h); part_is = (refl, within); left = left_and_quiet old now stops rests; stands = λ m s. (kept m s, own m s) }
broke_opening broke.NoMem old now h before after kept sound within own flaw left stops rests =
    record { part = []; text = sym (append_known-none h); part_is = (refl, within); left = left_and_quiet old now stops rests; stands = λ m s. (kept m s, own m s) }
broke_opening (broke.Damaged damage) old now h before after kept sound within own flaw left stops rests =
    record { part = []; text = sym (append_known-none h); part_is = (refl, within, flaw); left = left; stands = λ m s. absurd (sound m s) }

-- what was opened took what its line tells
module _ (old now : Option Content) (before after : Counts) (opened : Opened) (bounded : IsBounded opened) (ops : after.ops ≡ before.ops + opened.used.ops)
    (entries : after.entries ≡ before.entries + opened.used.entries) (opens : (m : Model) → Opens old m → IsOpening old m opened)
    (left : IfSome old (λ c. LeavesRead c now)) (rests : IfSome old (λ c. IsQuiet c → now ≡ Some c)) where
  opened_within : StopsWithin before after
  opened_within = record {
    most = opened.bound;
    some = bounded.most;
    ops = omega (arith, ops, bounded.ops);
    entries = omega (arith, entries, bounded.entries);
  }

  opened_own : (content : Option Content) (m : Model) → IfSome content (λ pairs. IsOpeningBound m pairs opened.bound) → IfSome content (IsWithinOpening m before after)
  opened_own None m is = tt
  opened_own (Some pairs) m is = record {
    most = opened.bound;
    is = is;
    takes = record { ops = omega (arith, ops, bounded.ops); entries = omega (arith, entries, bounded.entries) };
  }

  -- the run stopped while the opening's line was written
  pub cut_opening : (stop : Stop) (h h' : Option (List ℕ)) → ((m : Model) → Opens old m → Opens now m) → CutsOff stop (opening_line opened) h h'
      → StoppedOpening stop (moment old h before) (moment now h' after)
  cut_opening stops.StoreFailed h h' stands cut = absurd cut
  cut_opening (stops.Damaged damage) h h' stands cut = absurd cut
  cut_opening stops.NoMem h h' stands cut = record {
    part = [];
    text = cut ∙ sym (append_known-none h);
    part_is = (refl, opened_within);
    left = left_and_quiet old now (left_stops old now left) rests;
    stands = λ m s. (stands m s, opened_own old m (opens m s).most);
  }
  cut_opening stops.WriteFailed h h' stands cut = record {
    part = cut.0;
    text = cut.2;
    part_is = record { opened = opened; cut = cut.1; bounded = bounded; ops = ops; entries = entries; is_its = opens };
    left = left;
    stands = λ m s. (stands m s, opened_own old m (opens m s).most);
  }
