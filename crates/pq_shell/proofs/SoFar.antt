-- The loop over the reads of a source.
use Rattle.std.proofs.Common.{◌≡◌, ℕ, ◌+◌, ◌≤◌, List, [], ◌++◌, length, take, Option, refl, sym, ap, ◌∙◌, arith, length-append}
use Rattle.std.specs.Io.KnownBytes.{prepend_known, IsAtEnd}
use Rattle.pq_fill.specs.declared.words.Form.{Form}
use Rattle.pq_schema.specs.Schema.{Schema}
use Rattle.pq_text.specs.Summaries.{pieces_from}
use Rattle.pq_shell.specs.Fold.{Moment, StoppedItem}
use Rattle.pq_shell.specs.Items.{cut_items}
use Rattle.pq_console.specs.Reading.{TookBytes, script_limit}
use Rattle.pq_shell.specs.Serving.{ProgressedRun, ConsumedSource, StoppedAmong}
use Rattle.pq_console.specs.declared.reading.Ending.{Ending}
use Rattle.pq_console.specs.declared.reading.Ending.TheVariants.{Whole, Faulted}
use Rattle.pq_shell.specs.declared.serving.Progress.{Progress}
use Rattle.pq_console.specs.declared.stop.Stop.{Stop}
use Rattle.pq_console.proofs.Known.{prepend_known-append, prepend_known-none}
use Rattle.pq_shell.proofs.Parts.{Progressed-none, Progressed-append, stopped_later}

-- so many bytes were read, and all of them were fed
pub record ReadSoFar (f : Form) (taken : ℕ) (left left_now : Option (List ℕ)) (first last : Schema) (from to : Moment) (old now : Progress) : Type 0 where
  pub bytes : List ℕ
  pub long : length bytes ≡ taken
  pub read : left ≡ prepend_known bytes left_now
  pub progressed : ProgressedRun f first last from to bytes old now

-- nothing was read
pub SoFar-start : (f : Form) (left : Option (List ℕ)) (s : Schema) (a : Moment) (p : Progress) → ReadSoFar f 0 left left s s a a p p
SoFar-start f left s a p = record { bytes = []; long = refl; read = sym (prepend_known-none left); progressed = Progressed-none f s a p }

-- a part more was read, and fed
pub SoFar-more : {f : Form} {taken : ℕ} {left mid now : Option (List ℕ)} {s t u : Schema} {a b c : Moment} {p q r : Progress} (n : ℕ) (part : List ℕ) → ReadSoFar f taken left mid s t a b p q
    → mid ≡ prepend_known part now → length part ≡ n → ProgressedRun f t u b c part q r → ReadSoFar f (taken + n) left now s u a c p r
SoFar-more {now = now} n part so_far next long more = record {
  bytes = so_far.bytes ++ part;
  long = length-append so_far.bytes part ∙ omega (arith, so_far.long, long);
  read = so_far.read ∙ ap (prepend_known so_far.bytes) next ∙ sym (prepend_known-append so_far.bytes part now);
  progressed = Progressed-append so_far.progressed more;
}

-- what was taken: what was read so far, and this
pub SoFar-taken : {f : Form} {taken : ℕ} {left mid : Option (List ℕ)} {s t : Schema} {a b : Moment} {p q : Progress} (now : Option (List ℕ)) (part : List ℕ) (limit : ℕ) → ReadSoFar f taken left mid s t a b p q
    → mid ≡ prepend_known part now → taken + length part ≤ limit → (bytes : List ℕ) × (left ≡ prepend_known bytes now) × (length bytes ≤ limit)
SoFar-taken now part limit so_far next short =
    (so_far.bytes ++ part, so_far.read ∙ ap (prepend_known so_far.bytes) next ∙ sym (prepend_known-append so_far.bytes part now), omega (arith, so_far.long, short, length-append so_far.bytes part))

-- the reading ended
pub SoFar-faulted : {f : Form} {taken : ℕ} {left mid now : Option (List ℕ)} {s t : Schema} {a b : Moment} {p q : Progress} → ReadSoFar f taken left mid s t a b p q → now ≡ mid → taken ≤ script_limit → ConsumedSource f Faulted left now s t a b p q
SoFar-faulted so_far same short = record {
  bytes = so_far.bytes;
  took = (so_far.read ∙ ap (prepend_known so_far.bytes) (sym same), omega (arith, so_far.long, short));
  progressed = so_far.progressed;
}

pub SoFar-whole : {f : Form} {taken : ℕ} {left mid now : Option (List ℕ)} {s t : Schema} {a b : Moment} {p q : Progress} (n : ℕ) (room : List ℕ) → ReadSoFar f taken left mid s t a b p q
    → mid ≡ prepend_known (take n room) now → n ≡ 0 → IsAtEnd now → taken ≤ script_limit → ConsumedSource f Whole left now s t a b p q
SoFar-whole {mid = mid} {now = now} n room so_far next none end short =
    let same : mid ≡ now = next ∙ ap (λ k. prepend_known (take k room) now) none ∙ prepend_known-none now in
    record {
      bytes = so_far.bytes;
      took = (so_far.read ∙ ap (prepend_known so_far.bytes) same, end, omega (arith, so_far.long, short));
      progressed = so_far.progressed;
    }

pub SoFar-past : {f : Form} {taken : ℕ} {left mid now : Option (List ℕ)} {s t : Schema} {a b : Moment} {p q : Progress} (ending : Ending) → ReadSoFar f taken left mid s t a b p q → taken ≡ script_limit
    → ((bytes : List ℕ) → length bytes ≡ script_limit → (l : Option (List ℕ)) → l ≡ prepend_known bytes mid → TookBytes ending l now bytes) → ConsumedSource f ending left now s t a b p q
SoFar-past {left = left} ending so_far full took = record {
  bytes = so_far.bytes;
  took = took so_far.bytes (so_far.long ∙ full) left so_far.read;
  progressed = so_far.progressed;
}

-- the run stopped in the part that was read last
pub SoFar-stopped : {answers : List ℕ → Option (List ℕ) → Type 0} {f : Form} {taken : ℕ} {left mid now : Option (List ℕ)} {s t : Schema} {a b c : Moment} {p q : Progress} {stop : Stop} (n : ℕ) (part : List ℕ) → ReadSoFar f taken left mid s t a b p q
    → mid ≡ prepend_known part now → length part ≡ n → n ≤ 4096 → taken + n ≤ script_limit → StoppedItem answers f stop t b c (q.tally.count + 1) (cut_items (pieces_from q.splitter part)) → StoppedAmong answers f stop left now s a c p
SoFar-stopped {now = now} n part so_far next long small short stopped =
    let later = stopped_later part so_far.progressed stopped in
    record {
      early = so_far.bytes;
      late = part;
      took = (so_far.read ∙ ap (prepend_known so_far.bytes) next ∙ sym (prepend_known-append so_far.bytes part now), omega (arith, so_far.long, long, short, length-append so_far.bytes part));
      few = omega (arith, long, small);
      stopped = later.stopped;
      reported = later.reported;
    }
