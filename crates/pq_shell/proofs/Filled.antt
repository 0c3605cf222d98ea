-- The statements of the generated script, made one after the other.
use Rattle.std.proofs.Common.{◌≡◌, ℕ, ◌+◌, ◌-◌, ◌*◌, ◌≤◌, ◌<◌, suc, Bool, true, false, ◌||◌, List, [], ◌∷◌, ◌++◌, length, map, take, drop, Option, Some, None, inl, inr, refl, sym, ap, ◌∙◌, subst, arith, length-append}
use Rattle.std.specs.Prelude.{fold, option_map, slice_get, zip}
use Rattle.std.specs.List.{list_any}
use Rattle.std.specs.Io.KnownBytes.{append_known}
use Rattle.std.proofs.Math.Nat.{min-le_left}
use Rattle.std.proofs.Math.Seq.{take-suc}
use Rattle.std.proofs.lemmas.List.{length-map, length-take-le, take-append-drop, take_all}
use Rattle.std.proofs.lemmas.List.Folds.{list_any-append}
use Rattle.std.proofs.lemmas.List.Sums.{fold-append}
use Rattle.std.proofs.lemmas.Option.{get_or_from_slice_get, none-some, slice_get-map, slice_get_cases, slice_get_within}
use Rattle.pq_base.specs.declared.number.Used.{Used}
use Rattle.std.proofs.lemmas.Nat.{mul-le}
use Rattle.pq_fill.proofs.Places.{statements_long}
use Rattle.pq_fill.specs.Script.{fill_kinds, fill_script, followed_user}
use Rattle.pq_fill.specs.Summary.{no_reports, summary_of, summary_text, with_report}
use Rattle.pq_fill.specs.declared.item.Kind.{Kind}
use Rattle.pq_fill.specs.declared.numbers.Numbers.{Numbers}
use Rattle.pq_fill.specs.declared.words.Form.TheVariants.{Fill}
use Rattle.pq_schema.specs.Schema.{Schema}
use Rattle.pq_store.specs.Content.{Content}
use Rattle.pq_store.specs.Counts.{Counts}
use Rattle.pq_text.specs.declared.piece.Piece.TheVariants as piece
use Rattle.pq_print.specs.Report.{is_refusal}
use Rattle.pq_print.specs.declared.report.Opened.{Opened}
use Rattle.pq_print.specs.declared.report.Report.{Report}
use Rattle.pq_shell.specs.Filling.{Fills}
use Rattle.pq_shell.specs.Fold.{Moment, MadeReports, StoppedItem}
use Rattle.pq_shell.specs.Forms.{fill_items}
use Rattle.pq_shell.specs.Items.{Item, Cut}
use Rattle.pq_shell.specs.Making.{BreaksAt, MakesItem, moment}
use Rattle.pq_shell.specs.Openings.{OpensWith}
use Rattle.pq_console.specs.Outside.{IsCut}
use Rattle.pq_shell.specs.Run.{BrokenRun, FinishedRun, RanItems}
use Rattle.pq_shell.specs.Run.BrokenRun.{AtItem, AtClose}
use Rattle.pq_console.specs.Stops.{CutsOff}
use Rattle.pq_shell.specs.declared.filling.Filled.{Filled}
use Rattle.pq_console.specs.declared.reading.Ending.TheVariants.{Whole}
use Rattle.pq_shell.specs.declared.run.Begun.{Begun}
use Rattle.pq_console.specs.declared.stop.Stop.{Stop}
use Rattle.pq_console.specs.declared.stop.Stop.TheVariants as stops
use Rattle.pq_shell.proofs.Ending.{at_end, stands_opens, with_held}
use Rattle.pq_shell.proofs.Folding.{Made-append, Made-none, Made-one, Stopped-after, Stopped-before, Stopped-between, among_items, from_number}
use Rattle.pq_console.proofs.Known.{append_known-none}

-- ---- lists

-- one item more
take_next : {A : Type 0} (xs : List A) (k : ℕ) (x : A) → slice_get xs k ≡ Some x → take (k + 1) xs ≡ take k xs ++ x ∷ []
take_next xs k x at =
    let more : k + 1 ≡ suc k = omega arith in
    ap (λ n. take n xs) more ∙ take-suc xs k x (slice_get_within xs k x at) ∙ ap (λ y. take k xs ++ y ∷ []) (get_or_from_slice_get xs k x x at)

zip_next : {A B : Type 0} (xs : List A) (ys : List B) (x : A) (y : B) → length xs ≡ length ys → zip (xs ++ x ∷ []) (ys ++ y ∷ []) ≡ zip xs ys ++ (x, y) ∷ []
zip_next [] [] x y long = refl
zip_next [] (b ∷ ys) x y long = absurd (omega (arith, long))
zip_next (a ∷ xs) [] x y long = absurd (omega (arith, long))
zip_next (a ∷ xs) (b ∷ ys) x y long = ap (λ zs. (a, b) ∷ zs) (zip_next xs ys x y (omega (arith, long)))

-- ---- the items of the script

many_items : (n : ℕ) → length (fill_items n) ≡ length (fill_script n)
many_items n = length-map (map piece.Statement (fill_script n)) Cut ∙ length-map (fill_script n) piece.Statement

item_at : (n k : ℕ) (text : List ℕ) → slice_get (fill_script n) k ≡ Some text → slice_get (fill_items n) k ≡ Some (Cut (piece.Statement text))
item_at n k text at =
    slice_get-map Cut (map piece.Statement (fill_script n)) k ∙ ap (option_map Cut) (slice_get-map piece.Statement (fill_script n) k ∙ ap (option_map piece.Statement) at)

-- before the end there is a statement
pub never_past : {A : Type 0} (xs : List A) (k : ℕ) → k < length xs → slice_get xs k ≡ None → ⊥
never_past xs k within none =
    elim (slice_get_cases xs k).1 [
      | inl there ↦ none-some there.0 (sym none ∙ there.2)
      | inr past ↦ absurd (omega (arith, past.0, within))
    ]

-- there are not many
pub few_statements : (n : ℕ) → 1 ≤ n → n ≤ 20000 → length (fill_script n) < 1000000
few_statements n one few =
    let five : followed_user n ≤ 5 = min-le_left 5 (n - 1) in
    let subs : n * followed_user n ≤ 20000 * 5 = mul-le n (followed_user n) 20000 5 few five in
    omega (arith, statements_long n, subs, few)

-- ---- one more statement

-- the first so many statements were made and noted
pub record FillsSome (n : ℕ) (first last : Schema) (used : Used) (from to : Moment) (made : ℕ) (filled : Filled)
    : Type 0 where
  pub reports : List Report
  pub made_are : MadeReports (Fill n) first last from to 1 (take made (fill_items n)) reports
  pub noted : filled.summary ≡ fold with_report (no_reports used) (zip (take made (fill_kinds n)) reports)
  pub refused_is : filled.refused ≡ list_any is_refusal reports

-- as many reports as statements
pub record FillsSoFar (n : ℕ) (first last : Schema) (used : Used) (from to : Moment) (made : ℕ) (filled : Filled) : Type 0 where
  pub some : FillsSome n first last used from to made filled
  pub long : length some.reports ≡ made
  pub noted : filled.summary.reports ≡ made

pub none_filled : (n : ℕ) (s : Schema) (used : Used) (a : Moment) (filled : Filled) → filled.summary ≡ no_reports used → filled.refused ≡ list_any is_refusal [] → FillsSoFar n s s used a a 0 filled
none_filled n s used a filled summary refused = record {
  some = record { reports = []; made_are = Made-none (Fill n) s a 1; noted = summary; refused_is = refused };
  long = refl;
  noted = ap (λ (x : Numbers). x.reports) summary;
}

module _ (n made : ℕ) (text : List ℕ) (kind : Kind) (text_at : slice_get (fill_script n) made ≡ Some text) (kind_at : slice_get (fill_kinds n) made ≡ Some kind) (used : Used) where
  abbrev item : Item
  item = Cut (piece.Statement text)

  made_before : length (take made (fill_items n)) ≡ made
  made_before =
      let within = slice_get_within (fill_script n) made text text_at in
      length-take-le made (fill_items n) (omega (arith, within, many_items n))

  kinds_before : length (take made (fill_kinds n)) ≡ made
  kinds_before =
      let within = slice_get_within (fill_kinds n) made kind kind_at in
      length-take-le made (fill_kinds n) (omega (arith, within))

  number : made + 1 ≡ 1 + length (take made (fill_items n))
  number = omega (arith, made_before)

  -- the statement was made and noted
  pub filled_next : (first last next : Schema) (from : Moment) (old now : Option Content) (held : Option (List ℕ)) (before after : Counts) (filled filled_now : Filled) (report : Report)
      → FillsSoFar n first last used from (moment old held before) made filled → MakesItem (Fill n) item (made + 1) last next old now before after report
      → filled_now.summary ≡ with_report filled.summary (kind, report) → filled_now.refused ≡ (filled.refused || is_refusal report)
      → FillsSoFar n first next used from (moment now held after) (made + 1) filled_now
  filled_next first last next from old now held before after filled filled_now report so_far makes summary refused =
      let some = so_far.some in
      let here = Made-one (Fill n) item (made + 1) last next old now held held before after report makes (sym (append_known-none held)) in
      let on : MadeReports (Fill n) last next (moment old held before) (moment now held after) (1 + length (take made (fill_items n))) (item ∷ []) (report ∷ []) =
      subst (λ k. MadeReports (Fill n) last next (moment old held before) (moment now held after) k (item ∷ []) (report ∷ [])) number here in
      let all = Made-append some.made_are on in
      let reports = some.reports ++ report ∷ [] in
      let noted : filled_now.summary ≡ fold with_report (no_reports used) (zip (take (made + 1) (fill_kinds n)) reports) =
      summary ∙ ap (λ (x : Numbers). with_report x (kind, report)) some.noted
      ∙ sym (ap (λ ks. fold with_report (no_reports used) (zip ks reports)) (take_next (fill_kinds n) made kind kind_at)
      ∙ ap (fold with_report (no_reports used)) (zip_next (take made (fill_kinds n)) some.reports kind report (kinds_before ∙ sym so_far.long))
      ∙ fold-append with_report (no_reports used) (zip (take made (fill_kinds n)) some.reports) ((kind, report) ∷ [])) in
      record {
        some = record {
          reports = reports;
          made_are = subst (λ items. MadeReports (Fill n) first next from (moment now held after) 1 items reports) (sym (take_next (fill_items n) made item (item_at n made text text_at))) all;
          noted = noted;
          refused_is = refused ∙ ap (λ v. v || is_refusal report) some.refused_is ∙ sym (list_any-append is_refusal some.reports (report ∷ []) ∙ or-last (list_any is_refusal some.reports) (is_refusal report));
        };
        long = omega (arith, length-append some.reports (report ∷ []), so_far.long);
        noted = ap (λ (x : Numbers). x.reports) summary ∙ counted_more (filled.summary) ∙ ap (λ k. k + 1) so_far.noted;
      }
    where
      or-last : (a b : Bool) → (a || (b || false)) ≡ (a || b)
      or-last true b = refl
      or-last false true = refl
      or-last false false = refl

      counted_more : (x : Numbers) → (with_report x (kind, report)).reports ≡ x.reports + 1
      counted_more x = refl

  -- the run stopped at it
  pub stopped_next : {answers : List ℕ → Option (List ℕ) → Type 0} (stop : Stop) (first last : Schema) (from : Moment) (old now : Option Content) (held : Option (List ℕ)) (before after : Counts) (filled : Filled)
      → FillsSoFar n first last used from (moment old held before) made filled → BreaksAt answers (Fill n) stop item (made + 1) last old now before after
      → StoppedItem answers (Fill n) stop first from (moment now held after) 1 (fill_items n)
  stopped_next {answers = answers} stop first last from old now held before after filled so_far breaks =
      let here : StoppedItem answers (Fill n) stop last (moment old held before) (moment now held after) (1 + length (take made (fill_items n))) (item ∷ []) = from_number number (breaks held) in
      let all = Stopped-after so_far.some.made_are here in
      let some : StoppedItem answers (Fill n) stop first from (moment now held after) 1 (take (made + 1) (fill_items n)) = among_items (sym (take_next (fill_items n) made item (item_at n made text text_at))) all in
      among_items (take-append-drop (made + 1) (fill_items n)) (Stopped-before (drop (made + 1) (fill_items n)) some)

-- there was no memory for the text of the next one
pub stopped_before : {answers : List ℕ → Option (List ℕ) → Type 0} (n made : ℕ) (used : Used) (first last : Schema) (from : Moment) (to : Moment) (filled : Filled) → made ≤ length (fill_script n) → FillsSoFar n first last used from to made filled
    → StoppedItem answers (Fill n) stops.NoMem first from to 1 (fill_items n)
stopped_before {answers = answers} n made used first last from to filled within so_far =
    let here = Stopped-between {answers = answers} (Fill n) last to (1 + length (take made (fill_items n))) (drop made (fill_items n)) (λ m. stands_opens (Fill n) to.content last m) in
    among_items (take-append-drop made (fill_items n)) (Stopped-after so_far.some.made_are here)

-- all were made
pub all_filled : (n made : ℕ) (used : Used) (first last : Schema) (from to : Moment) (filled : Filled) → length (fill_script n) ≤ made → length (fill_kinds n) ≡ length (fill_script n) → FillsSoFar n first last used from to made filled
    → Fills n first used from to filled
all_filled n made used first last from to filled all kinds so_far =
    let some = so_far.some in
    let items : take made (fill_items n) ≡ fill_items n = take_all made (fill_items n) (omega (arith, all, many_items n)) in
    let every : take made (fill_kinds n) ≡ fill_kinds n = take_all made (fill_kinds n) (omega (arith, all, kinds)) in
    record {
      reports = some.reports;
      last = last;
      made = subst (λ xs. MadeReports (Fill n) first last from to 1 xs some.reports) items some.made_are;
      noted = some.noted ∙ ap (λ ks. fold with_report (no_reports used) (zip ks some.reports)) every;
      refused_is = some.refused_is;
    }

-- ---- the whole run

-- what was noted is the summary of the reports
noted_all : (n : ℕ) (used : Used) (first : Schema) (b c : Moment) (filled : Filled) (fills : Fills n first used b c filled) (opened : Opened) → opened.used ≡ used → filled.summary ≡ summary_of n opened fills.reports
unfolding summary_of
noted_all n used first b c filled fills opened same = fills.noted ∙ ap (λ (u : Used). fold with_report (no_reports u) (zip (fill_kinds n) fills.reports)) (sym same)

module _ (n : ℕ) (left : Option (List ℕ)) (begun : Begun) (a b c : Moment) (opens : OpensWith (Fill n) begun a b) where
  pub stops_filling : {answers : List ℕ → Option (List ℕ) → Type 0} (stop : Stop) → StoppedItem answers (Fill n) stop begun.session b c 1 (fill_items n) → BrokenRun answers (Fill n) stop (at_end left a) (at_end left c)
  stops_filling stop stopped = AtItem (record {
    ending = Whole;
    items = fill_items n;
    first = begun.session;
    between = b;
    read = (refl, refl, refl);
    opening = opens.opening;
    stopped = stopped;
    in_parts = refl;
  })

  module _ (h' : Option (List ℕ)) (filled : Filled) (fills : Fills n begun.session begun.used b c filled) where
    abbrev ran : RanItems (Fill n) a c (fill_items n)
    ran = record { reports = fills.reports; first = begun.session; last = fills.last; between = b; opening = opens.opening; made = fills.made }

    summed : summary_text n filled.summary ≡ summary_text n (summary_of n opens.opening.opened fills.reports)
    summed = ap (summary_text n) (noted_all n begun.used begun.session b c filled fills opens.opening.opened opens.used_is)

    pub finishes_filling : h' ≡ append_known c.held (summary_text n filled.summary) → FinishedRun (Fill n) Whole filled.refused (at_end left a) (at_end left (with_held c h'))
    finishes_filling text = record {
      items = fill_items n;
      held = c.held;
      read = (refl, refl, refl);
      ran = ran;
      text = text ∙ ap (append_known c.held) summed;
      refusal = fills.refused_is;
    }

    pub stops_closing : {answers : List ℕ → Option (List ℕ) → Type 0} (stop : Stop) → CutsOff stop (summary_text n filled.summary) c.held h' → BrokenRun answers (Fill n) stop (at_end left a) (at_end left (with_held c h'))
    stops_closing stops.StoreFailed cut = absurd cut
    stops_closing (stops.Damaged damage) cut = absurd cut
    stops_closing stops.NoMem cut = AtClose (record {
      items = fill_items n;
      held = c.held;
      part = [];
      read = (refl, refl, refl);
      ran = ran;
      text = cut ∙ sym (append_known-none c.held);
      part_is = refl;
    })
    stops_closing stops.WriteFailed cut = AtClose (record {
      items = fill_items n;
      held = c.held;
      part = cut.0;
      read = (refl, refl, refl);
      ran = ran;
      text = cut.2;
      part_is = subst (IsCut cut.0) summed cut.1;
    })
