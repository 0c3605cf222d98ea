-- Items that were made, one after the other, and stops among them.
use Rattle.std.proofs.Common.{◌≡◌, ℕ, ◌+◌, Bool, true, false, ◌||◌, List, [], ◌∷◌, ◌++◌, length, Option, Some, None, inl, inr, refl, sym, ap, ◌∙◌, subst, arith, add-zero, append_assoc, append-nil, length-append}
use Rattle.std.proofs.lemmas.Grind.{common_steps, flat_map-append}
use Rattle.std.proofs.lemmas.List.Folds.{list_any-append}
use Rattle.std.specs.List.{flat_map, sum_by, list_any}
use Rattle.std.specs.Io.KnownBytes.{append_known}
use Rattle.pq_fill.specs.declared.words.Form.{Form}
use Rattle.pq_fill.specs.declared.words.Form.TheVariants.{Run, Check, Fill}
use Rattle.pq_schema.specs.Schema.{Schema}
use Rattle.pq_store.specs.Content.{Content}
use Rattle.pq_store.specs.Counts.{Counts}
use Rattle.pq_intent.specs.Spending.{TakesAtMost}
use Rattle.pq_print.specs.declared.report.Report.{Report}
use Rattle.pq_print.specs.Report.{is_refusal}
use Rattle.pq_statement.specs.Actions.{asked_bound}
use Rattle.pq_catalog.specs.Model.{Model}
use Rattle.pq_reports.specs.Matches.{Matches}
use Rattle.pq_reports.specs.Promise.{IsWithinFixed}
use Rattle.pq_reports.specs.Making.{IsWithinAsked, LeavesAsked}
use Rattle.pq_reports.proofs.Promises.{none_within, same_left, within_none, within_reported}
use Rattle.pq_shell.specs.Fold.{Moment, IsReport, Reports, RisesBy, IsWithinItem, IsWithinStep, IsPart, AreStill, BreaksItem, KeepsItem, PassesOn, AnswersItem, after, ReportedItems, Halts, MadeReports, ServedItems, ShowsDamage, StoppedItem, schema_behind}
use Rattle.pq_shell.specs.Forms.{StandsIn, OpensAt, asked_item, item_step, shown_report}
use Rattle.pq_shell.specs.Items.{Item}
use Rattle.pq_shell.specs.Making.{MakesItem, moment}
use Rattle.pq_console.specs.Stops.{CutsOff}
use Rattle.pq_console.specs.declared.stop.Stop.{Stop}
use Rattle.pq_console.specs.declared.stop.Stop.TheVariants as stops
use Rattle.pq_console.proofs.Known.{append_known-append, append_known-none}

-- a number goes on by one more item
goes_on : (n : ℕ) (item : Item) (items : List Item) → n + length (item ∷ items) ≡ (n + 1) + length items
goes_on n item items = omega arith

-- ---- what is folded

pub after-append : (f : Form) (m : Model) (n : ℕ) (xs ys : List Item) → after f m n (xs ++ ys) ≡ after f (after f m n xs) (n + length xs) ys
after-append f m n [] ys = ap (λ k. after f m k ys) (sym (add-zero n))
after-append f m n (x ∷ xs) ys =
    after-append f (item_step f m n x).model (n + 1) xs ys ∙ ap (λ k. after f (after f (item_step f m n x).model (n + 1) xs) k ys) (sym (goes_on n x xs))

Reported-append : (f : Form) (m : Model) (n : ℕ) (xs ys : List Item) (rs ss : List Report) → ReportedItems f m n xs rs → ReportedItems f (after f m n xs) (n + length xs) ys ss → ReportedItems f m n (xs ++ ys) (rs ++ ss)
Reported-append f m n [] ys [] ss h k = subst (λ i. ReportedItems f m i ys ss) (add-zero n) k
Reported-append f m n [] ys (r ∷ rs) ss h k = absurd h
Reported-append f m n (x ∷ xs) ys [] ss h k = absurd h
Reported-append f m n (x ∷ xs) ys (r ∷ rs) ss h k =
    (h.0, Reported-append f (item_step f m n x).model (n + 1) xs ys rs ss h.1 (subst (λ i. ReportedItems f (after f (item_step f m n x).model (n + 1) xs) i ys ss) (goes_on n x xs) k))

pub Reports-append : (first mid last : Schema) (n : ℕ) (xs ys : List Item) (rs ss : List Report) → Reports first n xs rs mid → Reports mid (n + length xs) ys ss last → Reports first n (xs ++ ys) (rs ++ ss) last
Reports-append first mid last n [] ys [] ss h k = subst (λ (s : Schema). Reports s n ys ss last) h (subst (λ i. Reports mid i ys ss last) (add-zero n) k)
Reports-append first mid last n [] ys (r ∷ rs) ss h k = absurd h
Reports-append first mid last n (x ∷ xs) ys [] ss h k = absurd h
Reports-append first mid last n (x ∷ xs) ys (r ∷ rs) ss h k =
    (h.0, Reports-append (schema_behind first x r) mid last (n + 1) xs ys rs ss h.1 (subst (λ i. Reports mid i ys ss last) (goes_on n x xs) k))

-- of items that change nothing each part is so
still-append : (first mid : Schema) (n : ℕ) (xs ys : List Item) (rs ss : List Report) → Reports first n xs rs mid → AreStill first (xs ++ ys) (rs ++ ss) → AreStill first xs rs × AreStill mid ys ss
still-append first mid n [] ys [] ss told all = (tt, subst (λ (s : Schema). AreStill s ys ss) (sym told) all)
still-append first mid n [] ys (r ∷ rs) ss told all = absurd told
still-append first mid n (x ∷ xs) ys [] ss told all = absurd told
still-append first mid n (x ∷ xs) ys (r ∷ rs) ss told all =
    let rest = still-append (schema_behind first x r) mid (n + 1) xs ys rs ss told.1 all.1 in
    ((all.0, rest.0), rest.1)

-- what is made of one part after another
passes-append : (first mid : Schema) (n : ℕ) (xs ys : List Item) (rs ss : List Report) (a b c : Option Content) → Reports first n xs rs mid → PassesOn first xs rs a b → PassesOn mid ys ss b c → PassesOn first (xs ++ ys) (rs ++ ss) a c
passes-append first mid n [] ys [] ss a b c told p q = subst (λ (s : Schema). PassesOn s ys ss a c) told (subst (λ (x : Option Content). PassesOn mid ys ss x c) p q)
passes-append first mid n [] ys (r ∷ rs) ss a b c told p q = absurd told
passes-append first mid n (x ∷ xs) ys [] ss a b c told p q = absurd told
passes-append first mid n (x ∷ xs) ys (r ∷ rs) ss a b c told p q = (p.0, p.1, passes-append (schema_behind first x r) mid (n + 1) xs ys rs ss p.0 b c told.1 p.2 q)

sum-append : (g : Report → ℕ) (rs ss : List Report) → sum_by g (rs ++ ss) ≡ sum_by g rs + sum_by g ss
sum-append g rs ss = grind (arith, common_steps)

pub Rises-append : {a b c : Counts} (rs ss : List Report) → RisesBy rs a b → RisesBy ss b c → RisesBy (rs ++ ss) a c
Rises-append rs ss p q = record {
  ops = omega (arith, p.ops, q.ops, sum-append (λ r. r.used.ops) rs ss);
  entries = omega (arith, p.entries, q.entries, sum-append (λ r. r.used.entries) rs ss);
}

pub Rises-none : (c : Counts) → RisesBy [] c c
Rises-none c = record { ops = sym (add-zero c.ops); entries = sym (add-zero c.entries) }

-- ---- items that were made

pub Made-none : (f : Form) (s : Schema) (a : Moment) (n : ℕ) → MadeReports f s s a a n [] []
Made-none f s a n = record { told = refl; folds = λ m is. (is, tt); still = λ _. refl; passes = λ _. refl; text = sym (append_known-none a.held); rises = Rises-none a.counts }

pub Made-append : {f : Form} {r s t : Schema} {a b c : Moment} {n : ℕ} {xs ys : List Item} {rs ss : List Report} → MadeReports f r s a b n xs rs → MadeReports f s t b c (n + length xs) ys ss → MadeReports f r t a c n (xs ++ ys) (rs ++ ss)
Made-append {f = f} {r = r} {s = s} {t = t} {a = a} {b = b} {c = c} {n = n} {xs = xs} {ys = ys} {rs = rs} {ss = ss} p q = record {
  told = Reports-append r s t n xs ys rs ss p.told q.told;
  folds = λ m is.
      let first = p.folds m is in
      let second = q.folds (after f m n xs) first.0 in
      (subst (StandsIn f c.content t) (sym (after-append f m n xs ys)) second.0, Reported-append f m n xs ys rs ss first.1 second.1);
  still = λ all.
      let parts = still-append r s n xs ys rs ss p.told all in
      q.still parts.1 ∙ p.still parts.0;
  passes = λ some. passes-append r s n xs ys rs ss a.content b.content c.content p.told (p.passes some) (q.passes some);
  text = q.text ∙ ap (λ k. append_known k (flat_map (shown_report f) ss)) p.text ∙ append_known-append a.held _ _ ∙ ap (append_known a.held) (sym (flat_map-append (shown_report f) rs ss));
  rises = Rises-append rs ss p.rises q.rises;
}

-- one item was made, and what is shown of its report is out
pub Made-one : (f : Form) (item : Item) (n : ℕ) (s t : Schema) (old now : Option Content) (h h' : Option (List ℕ)) (before after : Counts) (report : Report)
    → MakesItem f item n s t old now before after report → h' ≡ append_known h (shown_report f report) → MadeReports f s t (moment old h before) (moment now h' after) n (item ∷ []) (report ∷ [])
Made-one f item n s t old now h h' before after report made text = record {
  told = (made.is, made.next_is);
  folds = λ m is. (made.stands m is, (made.matches m is, tt));
  still = λ all. made.still all.0;
  passes = λ some. (now, made.passes some, refl);
  text = text ∙ ap (append_known h) (sym (append-nil (shown_report f report)));
  rises = made.rises;
}

or-false : (b : Bool) → b ≡ (b || false)
or-false true = refl
or-false false = refl

or-assoc : (a b c : Bool) → ((a || b) || c) ≡ (a || (b || c))
or-assoc true b c = refl
or-assoc false b c = refl

pub Served-none : (f : Form) (s : Schema) (a : Moment) (n : ℕ) (any : Bool) → ServedItems f s s a a n [] any any
Served-none f s a n any = record { reports = []; made = Made-none f s a n; refusal = or-false any }

pub Served-append : {f : Form} {r s t : Schema} {a b c : Moment} {n : ℕ} {xs ys : List Item} {y y' y'' : Bool} → ServedItems f r s a b n xs y y' → ServedItems f s t b c (n + length xs) ys y' y'' → ServedItems f r t a c n (xs ++ ys) y y''
Served-append {y = y} p q = record {
  reports = p.reports ++ q.reports;
  made = Made-append p.made q.made;
  refusal = q.refusal ∙ ap (λ v. v || list_any is_refusal q.reports) p.refusal ∙ or-assoc y _ _ ∙ ap (λ v. y || v) (sym (list_any-append is_refusal p.reports q.reports));
}

pub Served-one : {f : Form} {s t : Schema} {a b : Moment} {n : ℕ} {item : Item} {report : Report} (y y' : Bool) → MadeReports f s t a b n (item ∷ []) (report ∷ []) → y' ≡ (y || is_refusal report) → ServedItems f s t a b n (item ∷ []) y y'
Served-one {report = report} y y' made refusal = record { reports = report ∷ []; made = made; refusal = refusal ∙ ap (λ v. y || v) (or-false (is_refusal report)) }

-- ---- stops

-- for want of memory, where nothing was done
same_broken : (s : Schema) (x : Item) (old now : Option Content) (before after : Counts) → now ≡ old → after ≡ before → BreaksItem (λ content. LeavesAsked s (asked_item s x) content now) s x old before after
same_broken s x None now before after same none = tt
same_broken s x (Some content) now before after same none =
    (same_left s (asked_item s x) (Some content) now same, subst (IsWithinAsked (asked_item s x) content before) (sym none) (none_within (asked_item s x) content before))

pub kept_same : (s : Schema) (items : List Item) (old now : Option Content) (before after : Counts) → now ≡ old → after ≡ before → KeepsItem stops.NoMem s items old now before after
kept_same s [] old now before after same none = same
kept_same s (x ∷ xs) old now before after same none = inl (same_broken s x old now before after same none)

within_more : (s : Schema) (todo more : List Item) (before now : Counts) → IsWithinItem s todo before now → IsWithinItem s (todo ++ more) before now
within_more s [] [] before now h = h
within_more s [] (y ∷ ys) before now h = subst (IsWithinFixed (asked_bound s (asked_item s y)) before) (sym h) (within_none (asked_bound s (asked_item s y)) before)
within_more s (x ∷ xs) ys before now h = h

part_more : (f : Form) (stop : Stop) (s : Schema) (n : ℕ) (todo more : List Item) (part : List ℕ) (before now : Counts) (found left : Option Content) → IsPart f stop s n todo part before now found left → IsPart f stop s n (todo ++ more) part before now found left
part_more f stops.StoreFailed s n todo more part before now found left h = (h.0, h.1, within_more s todo more before now h.2)
part_more f stops.NoMem s n todo more part before now found left h = (h.0, within_more s todo more before now h.1)
part_more f (stops.Damaged damage) s n todo more part before now found left h = (h.0, h.1, within_more s todo more before now h.2)
part_more f stops.WriteFailed s n [] more part before now found left h = absurd h
part_more f stops.WriteFailed s n (x ∷ xs) more part before now found left h = h

halts_more : (f : Form) (stop : Stop) (m : Model) (n : ℕ) (todo more : List Item) (now : Option Content) (part : List ℕ) → Halts f stop m n todo now part → Halts f stop m n (todo ++ more) now part
halts_more f stops.StoreFailed m n [] [] now part h = h
halts_more f stops.StoreFailed m n [] (y ∷ ys) now part h = inl h
halts_more f stops.StoreFailed m n (x ∷ xs) ys now part h = h
halts_more f stops.NoMem m n [] [] now part h = h
halts_more f stops.NoMem m n [] (y ∷ ys) now part h = inl h
halts_more f stops.NoMem m n (x ∷ xs) ys now part h = h
halts_more f stops.WriteFailed m n [] more now part h = absurd h
halts_more f stops.WriteFailed m n (x ∷ xs) more now part h = h
halts_more f (stops.Damaged damage) m n todo more now part h = absurd h

kept_more : (stop : Stop) (s : Schema) (todo more : List Item) (old now : Option Content) (before after : Counts) → (todo ≡ [] → after ≡ before) → KeepsItem stop s todo old now before after → KeepsItem stop s (todo ++ more) old now before after
kept_more stops.StoreFailed s [] [] old now before after none h = h
kept_more stops.StoreFailed s [] (y ∷ ys) old now before after none h = same_broken s y old now before after h (none refl)
kept_more stops.StoreFailed s (x ∷ xs) more old now before after none h = h
kept_more stops.WriteFailed s todo more old now before after none h = tt
kept_more stops.NoMem s [] more old now before after none h = kept_same s more old now before after h (none refl)
kept_more stops.NoMem s (x ∷ xs) more old now before after none h = h
kept_more (stops.Damaged damage) s [] more old now before after none h = absurd h
kept_more (stops.Damaged damage) s (x ∷ xs) more old now before after none h = h

shown_more : (stop : Stop) (s : Schema) (todo more : List Item) (now : Option Content) → ShowsDamage stop s todo now → ShowsDamage stop s (todo ++ more) now
shown_more stops.StoreFailed s todo more now h = tt
shown_more stops.WriteFailed s todo more now h = tt
shown_more stops.NoMem s todo more now h = tt
shown_more (stops.Damaged damage) s [] more now h = absurd h
shown_more (stops.Damaged damage) s (x ∷ xs) more now h = h

answered_more : (answers : List ℕ → Option (List ℕ) → Type 0) (stop : Stop) (s : Schema) (todo more : List Item) → AnswersItem answers stop s todo → AnswersItem answers stop s (todo ++ more)
answered_more answers stops.StoreFailed s todo more h = tt
answered_more answers stops.WriteFailed s todo more h = tt
answered_more answers stops.NoMem s todo more h = tt
answered_more answers (stops.Damaged damage) s [] more h = absurd h
answered_more answers (stops.Damaged damage) s (x ∷ xs) more h = h

-- where nothing is at hand, nothing was used for it
part_none : (f : Form) (stop : Stop) (s : Schema) (n : ℕ) (part : List ℕ) (before now : Counts) (found left : Option Content) → IsPart f stop s n [] part before now found left → now ≡ before
part_none f stops.StoreFailed s n part before now found left h = h.2
part_none f stops.NoMem s n part before now found left h = h.1
part_none f (stops.Damaged damage) s n part before now found left h = h.2
part_none f stops.WriteFailed s n part before now found left h = absurd h

-- which is within any bound
step_none : (f : Form) (m : Model) (n : ℕ) (items : List Item) (c : Counts) → IsWithinStep f m n items c c
step_none f m n [] c = tt
step_none f m n (x ∷ xs) c = record { ops = omega arith; entries = omega arith }

step_more : (f : Form) (m : Model) (n : ℕ) (todo more : List Item) (before now : Counts) → (todo ≡ [] → now ≡ before) → IsWithinStep f m n todo before now → IsWithinStep f m n (todo ++ more) before now
step_more f m n [] more before now none h = subst (IsWithinStep f m n more before) (sym (none refl)) (step_none f m n more before)
step_more f m n (x ∷ xs) more before now none h = h

-- a run that stopped among some items stopped among these and more
pub Stopped-before : {answers : List ℕ → Option (List ℕ) → Type 0} {f : Form} {stop : Stop} {s : Schema} {a b : Moment} {n : ℕ} {xs : List Item} (ys : List Item) → StoppedItem answers f stop s a b n xs → StoppedItem answers f stop s a b n (xs ++ ys)
Stopped-before {answers = answers} {f = f} {stop = stop} {b = b} {n = n} ys p = record {
  done = p.done;
  todo = p.todo ++ ys;
  reports = p.reports;
  last = p.last;
  part = p.part;
  between = p.between;
  begun = p.begun;
  among = ap (λ zs. zs ++ ys) p.among ∙ append_assoc p.done p.todo ys;
  told = p.told;
  text = p.text;
  rises = p.rises;
  part_is = part_more f stop p.last (n + length p.done) p.todo ys p.part p.between b.counts p.begun b.content p.part_is;
  shown = shown_more stop p.last p.todo ys b.content p.shown;
  answered = answered_more answers stop p.last p.todo ys p.answered;
  still = p.still;
  passes = p.passes;
  kept = kept_more stop p.last p.todo ys p.begun b.content p.between b.counts
      (λ none. part_none f stop p.last (n + length p.done) p.part p.between b.counts p.begun b.content (subst (λ (items : List Item). IsPart f stop p.last (n + length p.done) items p.part p.between b.counts p.begun b.content) none p.part_is)) p.kept;
  stands = λ m is. let q = p.stands m is in (q.0, halts_more f stop (after f m n p.done) (n + length p.done) p.todo ys b.content p.part q.1);
  own = λ m is. step_more f (after f m n p.done) (n + length p.done) p.todo ys p.between b.counts
      (λ none. part_none f stop p.last (n + length p.done) p.part p.between b.counts p.begun b.content (subst (λ (items : List Item). IsPart f stop p.last (n + length p.done) items p.part p.between b.counts p.begun b.content) none p.part_is)) (p.own m is);
}

-- some items were made, and then the run stopped among others
pub Stopped-after : {answers : List ℕ → Option (List ℕ) → Type 0} {f : Form} {stop : Stop} {r s : Schema} {a b c : Moment} {n : ℕ} {xs ys : List Item} {rs : List Report} → MadeReports f r s a b n xs rs → StoppedItem answers f stop s b c (n + length xs) ys → StoppedItem answers f stop r a c n (xs ++ ys)
Stopped-after {f = f} {stop = stop} {r = r} {s = s} {a = a} {b = b} {c = c} {n = n} {xs = xs} {ys = ys} {rs = rs} p q =
    let number : (n + length xs) + length q.done ≡ n + length (xs ++ q.done) = omega (arith, length-append xs q.done) in
    record {
      done = xs ++ q.done;
      todo = q.todo;
      reports = rs ++ q.reports;
      last = q.last;
      part = q.part;
      between = q.between;
      begun = q.begun;
      among = ap (λ zs. xs ++ zs) q.among ∙ sym (append_assoc xs q.done q.todo);
      told = Reports-append r s q.last n xs q.done rs q.reports p.told q.told;
      text = q.text ∙ ap (λ k. append_known k (flat_map (shown_report f) q.reports ++ q.part)) p.text ∙ append_known-append a.held _ _ ∙ ap (append_known a.held) (sym (append_assoc (flat_map (shown_report f) rs) (flat_map (shown_report f) q.reports) q.part) ∙ ap (λ t. t ++ q.part) (sym (flat_map-append (shown_report f) rs q.reports)));
      rises = Rises-append rs q.reports p.rises q.rises;
      part_is = subst (λ k. IsPart f stop q.last k q.todo q.part q.between c.counts q.begun c.content) number q.part_is;
      shown = q.shown;
      answered = q.answered;
      still = λ all.
          let parts = still-append r s n xs q.done rs q.reports p.told all in
          q.still parts.1 ∙ p.still parts.0;
      passes = λ some. passes-append r s n xs q.done rs q.reports a.content b.content q.begun p.told (p.passes some) (q.passes some);
      kept = q.kept;
      stands = λ m is.
          let first = p.folds m is in
          let second = q.stands (after f m n xs) first.0 in (
            Reported-append f m n xs q.done rs q.reports first.1 second.0,
            subst (λ k. Halts f stop (after f m n (xs ++ q.done)) k q.todo c.content q.part) number (subst (λ k. Halts f stop k ((n + length xs) + length q.done) q.todo c.content q.part) (sym (after-append f m n xs q.done)) second.1),
          );
      own = λ m is.
          let first = p.folds m is in
          subst (λ k. IsWithinStep f (after f m n (xs ++ q.done)) k q.todo q.between c.counts) number
          (subst (λ (x : Model). IsWithinStep f x ((n + length xs) + length q.done) q.todo q.between c.counts) (sym (after-append f m n xs q.done)) (q.own (after f m n xs) first.0));
    }

-- the run stopped before any of these items was reported
pub Stopped-at : {answers : List ℕ → Option (List ℕ) → Type 0} (f : Form) (stop : Stop) (s : Schema) (a b : Moment) (n : ℕ) (items : List Item) (part : List ℕ) → b.held ≡ append_known a.held part
    → IsPart f stop s n items part a.counts b.counts a.content b.content → ShowsDamage stop s items b.content → AnswersItem answers stop s items → KeepsItem stop s items a.content b.content a.counts b.counts
    → ((m : Model) → StandsIn f a.content s m → Halts f stop m n items b.content part) → ((m : Model) → StandsIn f a.content s m → IsWithinStep f m n items a.counts b.counts) → StoppedItem answers f stop s a b n items
Stopped-at f stop s a b n items part text is shown answered kept halts own = record {
  done = [];
  todo = items;
  reports = [];
  last = s;
  part = part;
  between = a.counts;
  begun = a.content;
  among = refl;
  told = refl;
  text = text;
  rises = Rises-none a.counts;
  part_is = subst (λ k. IsPart f stop s k items part a.counts b.counts a.content b.content) (sym (add-zero n)) is;
  shown = shown;
  answered = answered;
  still = λ _. refl;
  passes = λ _. refl;
  kept = kept;
  stands = λ m is. (tt, subst (λ k. Halts f stop m k items b.content part) (sym (add-zero n)) (halts m is));
  own = λ m is. subst (λ k. IsWithinStep f m k items a.counts b.counts) (sym (add-zero n)) (own m is);
}

within_nothing : (s : Schema) (items : List Item) (c : Counts) → IsWithinItem s items c c
within_nothing s [] c = refl
within_nothing s (x ∷ xs) c = within_none (asked_bound s (asked_item s x)) c

halts_same : (f : Form) (m : Model) (n : ℕ) (items : List Item) (now : Option Content) → OpensAt f now m → Halts f stops.NoMem m n items now []
halts_same f m n [] now h = h
halts_same f m n (x ∷ xs) now h = inl h

-- the run stopped for want of memory before the next item was read whole
pub Stopped-between : {answers : List ℕ → Option (List ℕ) → Type 0} (f : Form) (s : Schema) (a : Moment) (n : ℕ) (items : List Item) → ((m : Model) → StandsIn f a.content s m → OpensAt f a.content m) → StoppedItem answers f stops.NoMem s a a n items
Stopped-between f s a n items opens =
    Stopped-at f stops.NoMem s a a n items [] (sym (append_known-none a.held)) (refl, within_nothing s items a.counts) tt tt (kept_same s items a.content a.content a.counts a.counts refl refl) (λ m is. halts_same f m n items a.content (opens m is)) (λ m is. step_none f m n items a.counts)

-- what a report tells as used is within the bound of its item
within_item : (s : Schema) (n : ℕ) (item : Item) (report : Report) (before after : Counts) → IsReport s n item report → RisesBy (report ∷ []) before after → IsWithinFixed (asked_bound s (asked_item s item)) before after
within_item s n item report before after is rises =
    let ops = rises.ops in
    let entries = rises.entries in
    within_reported (asked_bound s (asked_item s item)) report before after is.bound_is (omega (arith, ops)) (omega (arith, entries)) is.few_ops is.few_entries

-- and within that of the step that it matches
matched_within : (expected report : Report) (before after : Counts) → Matches expected report → RisesBy (report ∷ []) before after → TakesAtMost expected.bound before after
matched_within expected report before after matches rises =
    let ops = rises.ops in
    let entries = rises.entries in
    record { ops = omega (arith, ops, matches.ops); entries = omega (arith, entries, matches.entries) }

-- what was done of an item for whose report memory was wanting
kept_made : (f : Form) (item : Item) (n : ℕ) (s t : Schema) (old now : Option Content) (before after : Counts) (report : Report) → MakesItem f item n s t old now before after report → KeepsItem stops.NoMem s (item ∷ []) old now before after
kept_made Run item n s t old now before after report made = inr (report, made.passes tt)
kept_made Check item n s t old now before after report made =
    let none = made.unopened (λ some. some) in
    kept_same s (item ∷ []) old now before after none.0 none.1
kept_made (Fill k) item n s t old now before after report made = inr (report, made.passes tt)

-- the run stopped while this item was reported
pub Stopped-writing : {answers : List ℕ → Option (List ℕ) → Type 0} (f : Form) (stop : Stop) (item : Item) (n : ℕ) (s t : Schema) (old now : Option Content) (h h' : Option (List ℕ)) (before after : Counts) (report : Report)
    → MakesItem f item n s t old now before after report → ((m : Model) → StandsIn f now t m → OpensAt f now m) → CutsOff stop (shown_report f report) h h'
    → StoppedItem answers f stop s (moment old h before) (moment now h' after) n (item ∷ [])
Stopped-writing f stops.StoreFailed item n s t old now h h' before after report made opens cut = absurd cut
Stopped-writing f (stops.Damaged damage) item n s t old now h h' before after report made opens cut = absurd cut
Stopped-writing f stops.NoMem item n s t old now h h' before after report made opens cut =
    Stopped-at f stops.NoMem s (moment old h before) (moment now h' after) n (item ∷ []) [] (cut ∙ sym (append_known-none h))
    (refl, within_item s n item report before after made.is made.rises) tt tt (kept_made f item n s t old now before after report made) (λ m is. inr (opens (item_step f m n item).model (made.stands m is)))
    (λ m is. matched_within (item_step f m n item).report report before after (made.matches m is) made.rises)
Stopped-writing f stops.WriteFailed item n s t old now h h' before after report made opens cut =
    Stopped-at f stops.WriteFailed s (moment old h before) (moment now h' after) n (item ∷ []) cut.0 cut.2
    (report, made.is, cut.1, made.rises, made.passes) tt tt tt (λ m is. (report, made.matches m is, cut.1, opens (item_step f m n item).model (made.stands m is)))
    (λ m is. matched_within (item_step f m n item).report report before after (made.matches m is) made.rises)

-- the items by another name
pub among_items : {answers : List ℕ → Option (List ℕ) → Type 0} {f : Form} {stop : Stop} {s : Schema} {a b : Moment} {n : ℕ} {xs ys : List Item} → xs ≡ ys → StoppedItem answers f stop s a b n xs → StoppedItem answers f stop s a b n ys
among_items same p = record {
  done = p.done;
  todo = p.todo;
  reports = p.reports;
  last = p.last;
  part = p.part;
  between = p.between;
  begun = p.begun;
  among = sym same ∙ p.among;
  told = p.told;
  text = p.text;
  rises = p.rises;
  part_is = p.part_is;
  shown = p.shown;
  answered = p.answered;
  still = p.still;
  passes = p.passes;
  kept = p.kept;
  stands = p.stands;
  own = p.own;
}

-- and numbered from the same number by another name
pub from_number : {answers : List ℕ → Option (List ℕ) → Type 0} {f : Form} {stop : Stop} {s : Schema} {a b : Moment} {n k : ℕ} {xs : List Item} → n ≡ k → StoppedItem answers f stop s a b n xs → StoppedItem answers f stop s a b k xs
from_number {f = f} {stop = stop} {s = s} {b = b} same p = record {
  done = p.done;
  todo = p.todo;
  reports = p.reports;
  last = p.last;
  part = p.part;
  between = p.between;
  begun = p.begun;
  among = p.among;
  told = subst (λ i. Reports s i p.done p.reports p.last) same p.told;
  text = p.text;
  rises = p.rises;
  part_is = subst (λ i. IsPart f stop p.last (i + length p.done) p.todo p.part p.between b.counts p.begun b.content) same p.part_is;
  shown = p.shown;
  answered = p.answered;
  still = p.still;
  passes = p.passes;
  kept = p.kept;
  stands = λ m is.
      let q = p.stands m is in (
        subst (λ i. ReportedItems f m i p.done p.reports) same q.0,
        subst (λ i. Halts f stop (after f m i p.done) (i + length p.done) p.todo b.content p.part) same q.1,
      );
  own = λ m is. subst (λ i. IsWithinStep f (after f m i p.done) (i + length p.done) p.todo p.between b.counts) same (p.own m is);
}

-- what was made before a stop
pub length_after : {answers : List ℕ → Option (List ℕ) → Type 0} {f : Form} {stop : Stop} {r s : Schema} {a b c : Moment} {n : ℕ} {xs ys : List Item} {rs : List Report} (p : MadeReports f r s a b n xs rs) (q : StoppedItem answers f stop s b c (n + length xs) ys)
    → length (Stopped-after p q).done ≡ length xs + length q.done
unfolding Stopped-after
length_after {xs = xs} p q = length-append xs q.done

pub among_done : {answers : List ℕ → Option (List ℕ) → Type 0} {f : Form} {stop : Stop} {s : Schema} {a b : Moment} {n : ℕ} {xs ys : List Item} (same : xs ≡ ys) (p : StoppedItem answers f stop s a b n xs) → (among_items same p).done ≡ p.done
unfolding among_items
among_done same p = refl

pub from_done : {answers : List ℕ → Option (List ℕ) → Type 0} {f : Form} {stop : Stop} {s : Schema} {a b : Moment} {n k : ℕ} {xs : List Item} (same : n ≡ k) (p : StoppedItem answers f stop s a b n xs) → (from_number same p).done ≡ p.done
unfolding from_number
from_done same p = refl
