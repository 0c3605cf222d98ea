-- How a run ends.
use Rattle.std.proofs.Common.{◌≡◌, ℕ, ◌+◌, inl, inr, Bool, true, false, ◌||◌, Option, Result, Ok, Err, IfOk, IfErr, List, [], ◌∷◌, ◌++◌, length, refl, sym, ap, ◌∙◌, subst, arith, lit≤, true≢false, append-nil}
use Rattle.std.proofs.lemmas.List.{length-map}
use Rattle.std.specs.Io.KnownBytes.{append_known, prepend_known}
use Rattle.pq_fill.specs.declared.words.Form.{Form}
use Rattle.pq_fill.specs.declared.words.Form.TheVariants.{Run, Check, Fill}
use Rattle.pq_schema.specs.Schema.{Schema}
use Rattle.pq_store.specs.Content.{Content}
use Rattle.pq_store.specs.Counts.{Counts}
use Rattle.pq_store.specs.declared.damage.Damage.{Damage}
use Rattle.pq_text.specs.declared.piece.Piece.{Piece}
use Rattle.pq_text.specs.Pieces.{pieces_of, rest_of, is_unfinished}
use Rattle.pq_text.specs.Summaries.{start_summary, pieces_from, unfinished_from, Summary}
use Rattle.pq_text.proofs.Cuts.{pieces_from-start, unfinished_from-start}
use Rattle.pq_print.specs.Report.{damage_line, printed_report}
use Rattle.pq_print.specs.declared.report.Opened.{Opened}
use Rattle.pq_print.specs.declared.report.Report.{Report}
use Rattle.pq_check.specs.Checks.{without_rows}
use Rattle.pq_catalog.specs.Model.{Model}
use Rattle.pq_catalog.proofs.Standing.{settled_opens}
use Rattle.pq_shell.specs.Answered.{IsAnsweredStop}
use Rattle.pq_shell.specs.Fold.{Moment, PassesItem, ServedItems, StoppedItem}
use Rattle.pq_shell.specs.Forms.{HasItems, HasOpening, OpensAt, StandsIn, close, shown_report}
use Rattle.pq_shell.specs.Items.{Item, Cut, Rest, cut_items, rest_items, items_of}
use Rattle.pq_shell.specs.Making.{ReadsSource, MakesItem, moment}
use Rattle.pq_shell.specs.Openings.{Opening, StoppedOpening}
use Rattle.pq_console.specs.Reading.{TookBytes}
use Rattle.pq_shell.specs.Run.{RunWorld, FinishedRun, BrokenRun, HasRead, IsReadInParts, Ends, EndsDamaged, Closes, IsPlain, OpensFor, status_of, written_world}
use Rattle.pq_shell.specs.Run.BrokenRun.{AtOpening, AtItem, AtClose}
use Rattle.pq_shell.specs.Serving.{FedPieces, ConsumedSource, StoppedAmong, ReportsRest, StoppedAtRest, has_rest, rest_report, rest_text}
use Rattle.pq_console.specs.Stops.{CutsOff}
use Rattle.pq_console.specs.declared.reading.Ending.{Ending}
use Rattle.pq_console.specs.declared.reading.Ending.TheVariants.{Whole, Faulted, TooLong}
use Rattle.pq_shell.specs.declared.serving.Ended.{Ended}
use Rattle.pq_shell.specs.declared.serving.Progress.{Progress}
use Rattle.pq_shell.specs.declared.status.Status.{Status}
use Rattle.pq_shell.specs.declared.status.Status.TheVariants as status
use Rattle.pq_console.specs.declared.stop.Stop.{Stop}
use Rattle.pq_console.specs.declared.stop.Stop.TheVariants as stops
use Rattle.pq_console.proofs.Known.{append_known-none}
use Rattle.pq_shell.proofs.Folding.{Made-one, Served-append, Served-one, Stopped-after, Stopped-writing, Rises-none, from_done, from_number, length_after}

-- what stands opens
pub stands_opens : (f : Form) (content : Option Content) (s : Schema) (m : Model) → StandsIn f content s m → OpensAt f content m
stands_opens Run content s m is = settled_opens is.settled
stands_opens Check content s m is = tt
stands_opens (Fill n) content s m is = settled_opens is.settled

-- ---- the pieces and the rest of a script

-- no piece ends in no bytes
none_from : (s : Summary) → pieces_from s [] ≡ []
unfolding pieces_from
none_from s = refl

-- a splitter that was fed a script from its start has told its pieces
told_all : {bytes : List ℕ} {told : List Piece} {to : Summary} → FedPieces start_summary bytes told to → told ≡ pieces_of bytes
told_all {bytes = bytes} {told = told} {to = to} fed =
    sym (sym (pieces_from-start bytes) ∙ ap (pieces_from start_summary) (sym (append-nil bytes)) ∙ fed.pieces [] ∙ ap (λ v. told ++ v) (none_from to) ∙ append-nil told)

rest_all : {bytes : List ℕ} {told : List Piece} {to : Summary} → FedPieces start_summary bytes told to → unfinished_from to [] ≡ is_unfinished (rest_of bytes)
rest_all {bytes = bytes} fed = sym (fed.rest []) ∙ ap (unfinished_from start_summary) (append-nil bytes) ∙ unfinished_from-start bytes

-- what is run: the pieces that were told, and the rest where there is one
items_all : (ending : Ending) {bytes : List ℕ} {told : List Piece} {to : Summary} → FedPieces start_summary bytes told to → cut_items told ++ rest_items (has_rest ending to) ≡ items_of ending bytes
items_all Whole {bytes = bytes} {told = told} {to = to} fed = ap (λ v. cut_items v ++ rest_items (unfinished_from to [])) (told_all fed) ∙ ap (λ v. cut_items (pieces_of bytes) ++ rest_items v) (rest_all fed)
items_all Faulted {told = told} fed = append-nil (cut_items told) ∙ ap cut_items (told_all fed)
items_all TooLong {told = told} fed = append-nil (cut_items told) ∙ ap cut_items (told_all fed)

rest_passed : (n : ℕ) (s : Schema) (content : Option Content) → PassesItem s Rest (rest_report n) content content
rest_passed n s content = record { reads = λ _. refl; refused = λ _. (refl, refl); kind = λ accepted. absurd (accepted tt); tells = λ accepted. absurd (accepted tt) }

-- the rest is an item that is refused, whatever the form
rest_made : (f : Form) → ReadsSource f → (n : ℕ) (s : Schema) (content : Option Content) (counts : Counts) → MakesItem f Rest n s s content content counts counts (rest_report n)
rest_made Run read n s content counts = record {
  is = record { number_is = refl; bound_is = refl; few_ops = omega arith; few_entries = omega arith; unread_is = refl; can = refl; defined_is = tt };
  next_is = refl;
  matches = λ m is. record { same = refl; ops = omega arith; entries = omega arith };
  stands = λ m is. is;
  rises = record { ops = omega arith; entries = omega arith };
  still = λ _. refl;
  passes = λ _. rest_passed n s content;
  unopened = λ _. (refl, refl);
}
rest_made Check read n s content counts = record {
  is = record { number_is = refl; bound_is = refl; few_ops = omega arith; few_entries = omega arith; unread_is = refl; can = refl; defined_is = tt };
  next_is = refl;
  matches = λ m is. record { same = refl; ops = omega arith; entries = omega arith };
  stands = λ m is. ap (λ (x : Model). without_rows x.schema) is;
  rises = record { ops = omega arith; entries = omega arith };
  still = λ _. refl;
  passes = λ some. absurd some;
  unopened = λ _. (refl, refl);
}
rest_made (Fill k) read n s content counts = absurd read

shown_printed : (f : Form) → ReadsSource f → (n : ℕ) → shown_report f (rest_report n) ≡ printed_report (rest_report n)
shown_printed Run read n = refl
shown_printed Check read n = refl
shown_printed (Fill k) read n = absurd read

-- the rest is reported, where there is one
served_rest : (f : Form) → ReadsSource f → (s : Schema) (a : Moment) (h' : Option (List ℕ)) (n : ℕ) (flag refused : Bool) → h' ≡ append_known a.held (rest_text flag n)
    → ServedItems f s s a (moment a.content h' a.counts) n (rest_items flag) refused (refused || flag)
served_rest f read s a h' n true refused text =
    Served-one refused (refused || true) (Made-one f Rest n s s a.content a.content a.held h' a.counts a.counts (rest_report n) (rest_made f read n s a.content a.counts) (text ∙ ap (append_known a.held) (sym (shown_printed f read n)))) refl
served_rest f read s a h' n false refused text = record {
  reports = [];
  made = record { told = refl; folds = λ m is. (is, tt); still = λ _. refl; passes = λ _. refl; text = text; rises = Rises-none a.counts };
  refusal = refl;
}

-- what was read and made from the start of a script
record FromStart (f : Form) (ending : Ending) (left left_now : Option (List ℕ)) (first last : Schema) (from to : Moment) (now : Progress) : Type 0 where
  bytes : List ℕ
  took : TookBytes ending left left_now bytes
  told : List Piece
  fed : FedPieces start_summary bytes told now.splitter
  served : ServedItems f first last from to 1 (cut_items told) false now.tally.refused
  counted : now.tally.count + 1 ≡ 1 + length (cut_items told)

from_start : {f : Form} {ending : Ending} {left left' : Option (List ℕ)} {s t : Schema} {a b : Moment} {p q : Progress} → p.splitter ≡ start_summary → p.tally.count ≡ 0 → p.tally.refused ≡ false → ConsumedSource f ending left left' s t a b p q → FromStart f ending left left' s t a b q
from_start {f = f} {s = s} {t = t} {a = a} {b = b} {p = p} {q = q} fresh none clean c =
    let progressed = c.progressed in
    let told = progressed.told in
    let number : p.tally.count + 1 ≡ 1 = omega (arith, none) in
    record {
      bytes = c.bytes;
      took = c.took;
      told = told;
      fed = subst (λ s. FedPieces s c.bytes told q.splitter) fresh progressed.fed;
      served = subst (λ y. ServedItems f s t a b 1 (cut_items told) y q.tally.refused) clean (subst (λ n. ServedItems f s t a b n (cut_items told) p.tally.refused q.tally.refused) number progressed.served);
      counted = omega (arith, progressed.counted, none, length-map told Cut);
    }

-- of a form that reads, the items are those of the bytes
read_items : (f : Form) → ReadsSource f → (ending : Ending) (left left' : Option (List ℕ)) (bytes : List ℕ) (items : List Item) → TookBytes ending left left' bytes → items ≡ items_of ending bytes → HasItems f ending left left' items
read_items Run read ending left left' bytes items took same = (bytes, took, same)
read_items Check read ending left left' bytes items took same = (bytes, took, same)
read_items (Fill n) read ending left left' bytes items took same = absurd read

read_parts : (f : Form) → ReadsSource f → (left left' : Option (List ℕ)) (reported : ℕ) → IsReadInParts left left' reported → HasRead f left left' reported
read_parts Run read left left' reported is = is
read_parts Check read left left' reported is = is
read_parts (Fill n) read left left' reported is = absurd read

-- nothing closes it
closes_none : (f : Form) → ReadsSource f → (opened : Opened) (reports : List Report) (held : Option (List ℕ)) → held ≡ append_known held (close f opened reports)
closes_none Run read opened reports held = sym (append_known-none held)
closes_none Check read opened reports held = sym (append_known-none held)
closes_none (Fill n) read opened reports held = absurd read

-- a rest is there only where the source was read to its end
whole_taken : (ending : Ending) (splitter : Summary) (left left' : Option (List ℕ)) (bytes : List ℕ) → has_rest ending splitter ≡ true → TookBytes ending left left' bytes → left ≡ prepend_known bytes left'
whole_taken Whole splitter left left' bytes is took = took.0
whole_taken Faulted splitter left left' bytes is took = took.0
whole_taken TooLong splitter left left' bytes is took = absurd (true≢false (sym is))

-- ---- a script that was read

abbrev pub at_end : Option (List ℕ) → Moment → RunWorld
at_end left a = record { left = left; moment = a }

abbrev pub with_held : Moment → Option (List ℕ) → Moment
with_held a held = record a { held = held }

module _ {f : Form} (read : ReadsSource f) {left left' : Option (List ℕ)} {s t : Schema} {a b c : Moment} {p q : Progress} {ending : Ending} (fresh : p.splitter ≡ start_summary) (none : p.tally.count ≡ 0) where
  module _ (clean : p.tally.refused ≡ false) (opening : Opening f s a b) (consumed : ConsumedSource f ending left left' s t b c p q) (h' : Option (List ℕ)) where
    abbrev from : FromStart f ending left left' s t b c q
    from = from_start fresh none clean consumed

    abbrev flag : Bool
    flag = has_rest ending q.splitter

    pub Finished-of : (ended : Ended) → ReportsRest ending q ended c.held h' → FinishedRun f ended.ending ended.refused (at_end left a) (at_end left' (with_held c h'))
    Finished-of ended rest =
        let last : ServedItems f t t c (with_held c h') (1 + length (cut_items from.told)) (rest_items flag) q.tally.refused (q.tally.refused || flag) =
        subst (λ n. ServedItems f t t c (with_held c h') n (rest_items flag) q.tally.refused (q.tally.refused || flag)) from.counted (served_rest f read t c h' (q.tally.count + 1) flag q.tally.refused rest.text) in
        let all = Served-append from.served last in
        subst (λ e. FinishedRun f e ended.refused (at_end left a) (at_end left' (with_held c h'))) (sym rest.ending_is)
        (record {
          items = cut_items from.told ++ rest_items flag;
          held = h';
          read = read_items f read ending left left' from.bytes (cut_items from.told ++ rest_items flag) from.took (items_all ending from.fed);
          ran = record { reports = all.reports; first = s; last = t; between = b; opening = opening; made = all.made };
          text = closes_none f read opening.opened all.reports h';
          refusal = rest.refused_is ∙ all.refusal;
        })

    -- the run stopped at the rest
    pub Stopped-at_rest : {answers : List ℕ → Option (List ℕ) → Type 0} (stop : Stop) → StoppedAtRest stop ending q c.held h' → BrokenRun answers f stop (at_end left a) (at_end left' (with_held c h'))
    Stopped-at_rest {answers = answers} stop rest =
        let n = q.tally.count + 1 in
        let here : StoppedItem answers f stop t c (with_held c h') n (Rest ∷ []) =
        Stopped-writing f stop Rest n t t c.content c.content c.held h' c.counts c.counts (rest_report n) (rest_made f read n t c.content c.counts) (λ m. stands_opens f c.content t m)
        (subst (λ text. CutsOff stop text c.held h') (sym (shown_printed f read n)) rest.cut) in
        let last = from_number from.counted here in
        let all = Stopped-after from.served.made last in
        let long = length_after from.served.made last in
        AtItem (record {
          ending = ending;
          items = cut_items from.told ++ Rest ∷ [];
          first = s;
          between = b;
          read = read_items f read ending left left' from.bytes (cut_items from.told ++ Rest ∷ []) from.took (ap (λ flag. cut_items from.told ++ rest_items flag) (sym rest.some_rest) ∙ items_all ending from.fed);
          opening = opening;
          stopped = all;
          in_parts = read_parts f read left left' (length all.done) (record {
            early = from.bytes;
            late = [];
            taken = whole_taken ending q.splitter left left' from.bytes rest.some_rest from.took ∙ ap (λ v. prepend_known v left') (sym (append-nil from.bytes));
            few = lit≤ tt;
            reported_all = omega (arith, ap length (told_all from.fed), length-map from.told Cut, long);
          });
        })

-- the run stopped among the pieces
pub Stopped-among : {answers : List ℕ → Option (List ℕ) → Type 0} {f : Form} (read : ReadsSource f) {stop : Stop} {left left' : Option (List ℕ)} {s : Schema} {a b c : Moment} {p : Progress} → p.splitter ≡ start_summary → p.tally.count ≡ 0
    → Opening f s a b → StoppedAmong answers f stop left left' s b c p → BrokenRun answers f stop (at_end left a) (at_end left' c)
Stopped-among {f = f} read {left = left} {left' = left'} {s = s} {b = b} {p = p} fresh none opening among =
    let number : p.tally.count + 1 ≡ 1 = omega (arith, none) in
    let whole = among.early ++ among.late in
    let pieces : (bytes : List ℕ) → pieces_from p.splitter bytes ≡ pieces_of bytes = λ bytes. ap (λ s. pieces_from s bytes) fresh ∙ pieces_from-start bytes in
    let stopped = from_number number among.stopped in
    let same = ap length (from_done number among.stopped) in
    AtItem (record {
      ending = Faulted;
      items = cut_items (pieces_from p.splitter whole);
      first = s;
      between = b;
      read = read_items f read Faulted left left' whole (cut_items (pieces_from p.splitter whole)) among.took (ap cut_items (pieces whole));
      opening = opening;
      stopped = stopped;
      in_parts = read_parts f read left left' (length stopped.done) (record {
        early = among.early;
        late = among.late;
        taken = among.took.0;
        few = among.few;
        reported_all = omega (arith, ap length (pieces among.early), among.reported, same);
      });
    })

-- the run stopped at the opening
pub Stopped-opening : {answers : List ℕ → Option (List ℕ) → Type 0} (f : Form) (stop : Stop) (left : Option (List ℕ)) (a b : Moment) → HasOpening f → StoppedOpening stop a b → IsAnsweredStop answers stop → BrokenRun answers f stop (at_end left a) (at_end left b)
Stopped-opening f stop left a b some stopped answered = AtOpening (record { some = some; unread = refl; stopped = stopped; answered = answered })

-- ---- each status

finished : (answers : List ℕ → Option (List ℕ) → Type 0) (f : Form) (ending : Ending) (refused : Bool) (before now : RunWorld) → FinishedRun f ending refused before now → Ends answers f (status_of ending refused) before now
finished answers f Whole false before now is = is
finished answers f Whole true before now is = is
finished answers f Faulted refused before now is = (refused, is)
finished answers f TooLong refused before now is = (refused, is)

damaged : {answers : List ℕ → Option (List ℕ) → Type 0} (f : Form) (is : Status) (damage : Damage) (before mid : RunWorld) (h' : Option (List ℕ)) → BrokenRun answers f (stops.Damaged damage) before mid → EndsDamaged is damage.key mid.moment.held h' → Ends answers f is before (written_world mid h')
damaged f status.Damaged damage before mid h' broken ends = record { damage = damage; held = mid.moment.held; line = damage_line damage.key; broken = broken; tail = refl; text = ends }
damaged f status.WriteFault damage before mid h' broken ends = inr (record { damage = damage; held = mid.moment.held; line = ends.0; broken = broken; tail = ends.1; text = ends.2 })
damaged f status.NoMem damage before mid h' broken ends = inr (record { damage = damage; held = mid.moment.held; line = []; broken = broken; tail = refl; text = ends ∙ sym (append_known-none mid.moment.held) })
damaged f status.Good damage before mid h' broken ends = absurd ends
damaged f status.SomeRefused damage before mid h' broken ends = absurd ends
damaged f status.Usage damage before mid h' broken ends = absurd ends
damaged f status.ReadFault damage before mid h' broken ends = absurd ends
damaged f status.StoreFault damage before mid h' broken ends = absurd ends
damaged f status.TooLong damage before mid h' broken ends = absurd ends

at_status : (answers : List ℕ → Option (List ℕ) → Type 0) (f : Form) (is expected : Status) (before mid : RunWorld) (h' : Option (List ℕ)) → is ≡ expected → h' ≡ mid.moment.held → Ends answers f expected before mid → Ends answers f is before (written_world mid h')
at_status answers f is expected before mid h' same kept ends = subst (λ k. Ends answers f is before (written_world mid k)) (sym kept) (subst (λ s. Ends answers f s before mid) (sym same) ends)

pub Ends-of : (answers : List ℕ → Option (List ℕ) → Type 0) (f : Form) (outcome : Result Ended Stop) (is : Status) (before mid : RunWorld) (h' : Option (List ℕ)) → IfOk outcome (λ ended. FinishedRun f ended.ending ended.refused before mid) → IfErr outcome (λ stop. BrokenRun answers f stop before mid)
    → Closes outcome is mid.moment.held h' → Ends answers f is before (written_world mid h')
Ends-of answers f (Ok ended) is before mid h' ok err closes = at_status answers f is (status_of ended.ending ended.refused) before mid h' closes.0 closes.1 (finished answers f ended.ending ended.refused before mid ok)
Ends-of answers f (Err stops.StoreFailed) is before mid h' ok err closes = at_status answers f is status.StoreFault before mid h' closes.0 closes.1 err
Ends-of answers f (Err stops.WriteFailed) is before mid h' ok err closes = at_status answers f is status.WriteFault before mid h' closes.0 closes.1 (inl err)
Ends-of answers f (Err stops.NoMem) is before mid h' ok err closes = at_status answers f is status.NoMem before mid h' closes.0 closes.1 (inl err)
Ends-of answers f (Err (stops.Damaged damage)) is before mid h' ok err closes = damaged f is damage before mid h' err closes

-- ---- completeness

abbrev IsWhole : Ending → Type 0
IsWhole Whole = Unit {0}
IsWhole Faulted = ⊥
IsWhole TooLong = ⊥

-- over what opens no damage is found, and a check finds none
sound : {answers : List ℕ → Option (List ℕ) → Type 0} (f : Form) (damage : Damage) (before now : RunWorld) → BrokenRun answers f (stops.Damaged damage) before now → OpensFor f before.moment.content → ⊥
sound Run damage before now (AtOpening b) opens = (b.stopped.stands (opens tt).0 (opens tt).1).1
sound Run damage before now (AtItem b) opens = (b.stopped.stands (opens tt).0 (b.opening.opens (opens tt).0 (opens tt).1).1).1
sound Run damage before now (AtClose b) opens = b.part_is
sound Check damage before now (AtOpening b) opens = b.some
sound Check damage before now (AtItem b) opens = b.stopped.part_is.0
sound Check damage before now (AtClose b) opens = b.part_is
sound (Fill n) damage before now (AtOpening b) opens = (b.stopped.stands (opens tt).0 (opens tt).1).1
sound (Fill n) damage before now (AtItem b) opens = (b.stopped.stands (opens tt).0 (b.opening.opens (opens tt).0 (opens tt).1).1).1
sound (Fill n) damage before now (AtClose b) opens = b.part_is

-- a form that fails at the store opens it
opens_store : {answers : List ℕ → Option (List ℕ) → Type 0} (f : Form) (before now : RunWorld) → BrokenRun answers f stops.StoreFailed before now → HasOpening f
opens_store f before now (AtOpening b) = b.some
opens_store f before now (AtItem b) = b.stopped.part_is.0
opens_store f before now (AtClose b) = absurd b.part_is

-- and one that ends short of the source's end reads it
reads_source : (f : Form) (ending : Ending) (left left' : Option (List ℕ)) (items : List Item) → HasItems f ending left left' items → (ending ≡ Whole → ⊥) → ReadsSource f
reads_source Run ending left left' items read other = tt
reads_source Check ending left left' items read other = tt
reads_source (Fill n) ending left left' items read other = other read.0

-- where no fault came, the script wasn't too long and the store opens, the run is plain
pub Ends-plain : (answers : List ℕ → Option (List ℕ) → Type 0) (f : Form) (is : Status) (before now : RunWorld) → Ends answers f is before now → OpensFor f before.moment.content → (ReadsSource f → is ≡ status.TooLong → ⊥) → (ReadsSource f → is ≡ status.ReadFault → ⊥)
    → (is ≡ status.WriteFault → ⊥) → (HasOpening f → is ≡ status.StoreFault → ⊥) → IsPlain is
Ends-plain answers f status.Good before now ends opens long read write store = tt
Ends-plain answers f status.SomeRefused before now ends opens long read write store = tt
Ends-plain answers f status.NoMem before now ends opens long read write store = tt
Ends-plain answers f status.Usage before now ends opens long read write store = ends
Ends-plain answers f status.ReadFault before now ends opens long read write store =
    read (reads_source f Faulted before.left now.left ends.1.items ends.1.read (λ e. subst IsWhole (sym e) tt)) refl
Ends-plain answers f status.WriteFault before now ends opens long read write store = write refl
Ends-plain answers f status.StoreFault before now ends opens long read write store = store (opens_store f before now ends) refl
Ends-plain answers f status.TooLong before now ends opens long read write store =
    long (reads_source f TooLong before.left now.left ends.1.items ends.1.read (λ e. subst IsWhole (sym e) tt)) refl
Ends-plain answers f status.Damaged before now ends opens long read write store = sound f ends.damage before _ ends.broken opens

-- by another name of the form
pub Ends-plain-as : (answers : List ℕ → Option (List ℕ) → Type 0) (f g : Form) (is : Status) (before now : RunWorld) → f ≡ g → Ends answers f is before now → OpensFor g before.moment.content → (ReadsSource g → is ≡ status.TooLong → ⊥) → (ReadsSource g → is ≡ status.ReadFault → ⊥)
    → (is ≡ status.WriteFault → ⊥) → (HasOpening g → is ≡ status.StoreFault → ⊥) → IsPlain is
Ends-plain-as answers f g is before now same ends = Ends-plain answers g is before now (subst (λ (x : Form). Ends answers x is before now) same ends)
