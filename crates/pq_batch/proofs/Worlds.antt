-- What one call after another reads and tells, where each sees the changes of those before.
use Rattle.std.proofs.Common.{◌≡◌, ◌≤◌, ◌<◌, ◌+◌, ◌-◌, ◌*◌, ℕ, List, [], ◌∷◌, length, take, drop, get_or, Option, Result, Ok, Err, inl, inr, refl, sym, ap, ◌∙◌, subst, arith}
use Rattle.std.specs.Prelude.{IfErr}
use Rattle.std.specs.List.{AllByRecursion}
use Rattle.std.proofs.lemmas.List.{take_all}
use Rattle.std.proofs.lemmas.List.Sums.{sum_by-cons}
use Rattle.pq_base.specs.declared.number.Bound.{Bound}
use Rattle.pq_schema.specs.Schema.{Schema}
use Rattle.pq_content.specs.Pairs.{Change}
use Rattle.pq_store.specs.Content.{Content, HasRisen}
use Rattle.pq_store.specs.Counts.{Counts, AllowedCounts}
use Rattle.pq_store.specs.declared.damage.Broke.{Broke}
use Rattle.pq_store.specs.declared.damage.Broke.TheVariants.{Failed, NoMem, Damaged}
use Rattle.pq_store.specs.declared.damage.Damage.{Damage}
use Rattle.pq_calls.specs.Calls.{Uses, Fails, seen_world}
use Rattle.pq_calls.specs.World.{World, world, Affords, Reads, Explains}
use Rattle.pq_calls.specs.declared.calls.Calls.{Calls}
use Rattle.pq_calls.proofs.Steps.{reads_then, reads_within, rest_left}
use Rattle.pq_pending.specs.Pending.{seen_content}
use Rattle.pq_index_keep.specs.Bounds.{removers_of}
use Rattle.pq_index_keep.specs.Sound.{IsWrite}
use Rattle.pq_index_keep.specs.declared.write.Write.{Write}
use Rattle.pq_counters.specs.Whole.{reads_behind, whole_changes}
use Rattle.pq_batch.specs.Batches.{both, batch_reads, batch_changes}
use Rattle.pq_batch.specs.From.{ShowsSeen}

-- ---- without the changes that were seen

module _ (changes : List Change) (told told' : Option Content) (faults faults' : ℕ) (allowed allowed' : AllowedCounts) (used used' : Counts) where
  pub plain_reads : (ops entries : ℕ) → told' ≡ told → Reads (world (seen_content changes told) faults allowed used) (world (seen_content changes told') faults' allowed' used') ops entries
      → Reads (world told faults allowed used) (world told' faults' allowed' used') ops entries
  plain_reads ops entries same r = record {
    same = same;
    later = r.later;
    granted = r.granted;
    spent_ops = r.spent_ops;
    spent_entries = r.spent_entries;
    rise_ops = r.rise_ops;
    rise_entries = r.rise_entries;
    few_ops = r.few_ops;
    few_entries = r.few_entries;
  }

  pub plain_causes : {A : Type 0} (shows : Option Content → Damage → Type 0) (result : Result A Broke) → IfErr result (Explains shows (world (seen_content changes told) faults allowed used) (world (seen_content changes told') faults' allowed' used'))
      → IfErr result (Explains (ShowsSeen changes shows) (world told faults allowed used) (world told' faults' allowed' used'))
  plain_causes shows (Ok value) h = h
  plain_causes shows (Err Failed) h = h
  plain_causes shows (Err NoMem) h = h
  plain_causes shows (Err (Damaged damage)) h = h

-- ---- a later cause

risen_before : (a b c : ℕ) → a ≤ b → HasRisen b c → HasRisen a c
risen_before a b c before risen = elim risen [ inl less ↦ inl (omega arith) | inr top ↦ inr top ]

explained_before : (shows : Option Content → Damage → Type 0) (a b c : World) (ops entries : ℕ) → Reads a b ops entries → (error : Broke) → Explains shows b c error → Explains shows a c error
explained_before shows a b c ops entries r Failed h = risen_before a.faults b.faults c.faults r.later h
explained_before shows a b c ops entries r NoMem h = h
explained_before shows a b c ops entries r (Damaged damage) h = subst (λ (told : Option Content). shows told damage) r.same h

-- ---- parts of sums

sum_least : (n a b : ℕ) → n ≡ a + b → a ≤ n
sum_least n a b is = omega arith

sum_most : (n a b : ℕ) → n ≡ a + b → a + b ≤ n
sum_most n a b is = omega arith

afford_less : (allowed : AllowedCounts) (ops entries o e : ℕ) → Affords allowed ops entries → o ≤ ops → e ≤ entries → Affords allowed o e
afford_less allowed ops entries o e left less_ops less_entries = record { ops_left = omega arith; entries_left = omega arith }

module _ {S L : Type 0} (content : S → Option Content) (faults : S → ℕ) (a b c : Calls S L) where
  pub causes_before : {A : Type 0} (shows : Option Content → Damage → Type 0) (ops entries : ℕ) → Uses content faults a b ops entries → (result : Result A Broke) → IfErr result (Fails shows content faults b c) → IfErr result (Fails shows content faults a c)
  causes_before shows ops entries r (Ok value) h = h
  causes_before shows ops entries r (Err error) h = explained_before shows (seen_world content faults a) (seen_world content faults b) (seen_world content faults c) ops entries r.reads error h

-- ---- the first of some writes, and those behind it

pub cut_first : {X : Type 0} (whole : List X) (first : X) → 1 ≤ length whole → first ≡ get_or whole 0 first → whole ≡ first ∷ take (length whole - 1) (drop 1 whole)
cut_first [] first some is = absurd (omega arith)
cut_first (x ∷ xs) first some is = ap (λ y. y ∷ xs) (sym is) ∙ ap (λ rest. first ∷ rest) (sym (take_all (length (x ∷ xs) - 1) xs (omega arith)))

pub cut_none : {X : Type 0} (whole : List X) → length whole < 1 → whole ≡ []
cut_none [] none = refl
cut_none (x ∷ xs) none = absurd (omega arith)

-- each write changes few pairs
pub batch_few : (schema : Schema) → ((write : Write) → IsWrite schema.tables write → whole_changes schema write ≤ 41) → (writes : List Write) → AllByRecursion (IsWrite schema.tables) writes → batch_changes schema writes ≤ 41 * length writes
batch_few schema few [] each = omega arith
batch_few schema few (write ∷ writes) each = omega (arith, sum_by-cons (whole_changes schema) write writes, few write each.0, batch_few schema few writes each.1)

module _ (schema : Schema) (whole : List Write) (write : Write) (writes : List Write) (cut : whole ≡ write ∷ writes) where
  pub each_rest : AllByRecursion (IsWrite schema.tables) whole → AllByRecursion (IsWrite schema.tables) writes
  each_rest each = (subst (λ (ws : List Write). AllByRecursion (IsWrite schema.tables) ws) cut each).1

  pub changes_cut : batch_changes schema whole ≡ whole_changes schema write + batch_changes schema writes
  changes_cut = ap (batch_changes schema) cut ∙ sum_by-cons (whole_changes schema) write writes

  module _ (removers later : ℕ) (later_is : later ≡ removers + removers_of write) where
    reads_cut : batch_reads schema removers whole ≡ both (reads_behind removers schema write) (batch_reads schema later writes)
    unfolding batch_reads
    reads_cut = ap (batch_reads schema removers) cut ∙ ap (λ n. both (reads_behind removers schema write) (batch_reads schema n writes)) (sym later_is)

    ops_cut : (batch_reads schema removers whole).ops ≡ (reads_behind removers schema write).ops + (batch_reads schema later writes).ops
    ops_cut = ap (λ (bound : Bound). bound.ops) reads_cut

    entries_cut : (batch_reads schema removers whole).entries ≡ (reads_behind removers schema write).entries + (batch_reads schema later writes).entries
    entries_cut = ap (λ (bound : Bound). bound.entries) reads_cut

    pub first_share : (allowed : AllowedCounts) → Affords allowed (batch_reads schema removers whole).ops (batch_reads schema removers whole).entries
        → Affords allowed (reads_behind removers schema write).ops (reads_behind removers schema write).entries
    first_share allowed left = afford_less allowed _ _ _ _ left (sum_least _ _ _ ops_cut) (sum_least _ _ _ entries_cut)

    module _ {S L : Type 0} (content : S → Option Content) (faults : S → ℕ) (a b : Calls S L) (r : Uses content faults a b (reads_behind removers schema write).ops (reads_behind removers schema write).entries) where
      pub rest_share : Affords a.allowance.now (batch_reads schema removers whole).ops (batch_reads schema removers whole).entries → Affords b.allowance.now (batch_reads schema later writes).ops (batch_reads schema later writes).entries
      rest_share left = rest_left (seen_world content faults a) (seen_world content faults b) _ _ _ _ _ _ r.reads left (sum_most _ _ _ ops_cut) (sum_most _ _ _ entries_cut)

      pub uses_first : Uses content faults a b (batch_reads schema removers whole).ops (batch_reads schema removers whole).entries
      uses_first = record {
        same_store = r.same_store;
        same_allowance = r.same_allowance;
        same_meter = r.same_meter;
        reads = reads_within _ _ _ _ _ _ r.reads (sum_least _ _ _ ops_cut) (sum_least _ _ _ entries_cut);
      }

      pub uses_both : (c : Calls S L) → Uses content faults b c (batch_reads schema later writes).ops (batch_reads schema later writes).entries → Uses content faults a c (batch_reads schema removers whole).ops (batch_reads schema removers whole).entries
      uses_both c s = record {
        same_store = s.same_store ∙ r.same_store;
        same_allowance = s.same_allowance ∙ r.same_allowance;
        same_meter = s.same_meter ∙ r.same_meter;
        reads = reads_then _ _ _ _ _ _ _ _ _ r.reads s.reads (sum_most _ _ _ ops_cut) (sum_most _ _ _ entries_cut);
      }
