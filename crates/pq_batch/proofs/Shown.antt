-- Behind whose changes the damage of a batch shows.
use Rattle.std.proofs.Common.{◌≡◌, ◌≤◌, ℕ, suc, List, [], ◌∷◌, length, map, take, Option, None, Result, refl, sym, ap, subst, arith}
use Rattle.std.specs.Prelude.{IfErr}
use Rattle.std.proofs.lemmas.Result.{IfErr-weaker}
use Rattle.pq_row_code.specs.declared.changes.Change.{Change as Coded}
use Rattle.pq_schema.specs.Schema.{Schema}
use Rattle.pq_content.specs.Pairs.{Change}
use Rattle.pq_content.specs.Standing.{change_of}
use Rattle.pq_store.specs.Breaks.{IsAnswered}
use Rattle.pq_store.specs.Content.{Content}
use Rattle.pq_store.specs.declared.damage.Broke.{Broke}
use Rattle.pq_store.specs.declared.damage.Broke.TheVariants.{Failed, NoMem, Damaged}
use Rattle.pq_store.specs.declared.damage.Damage.{Damage}
use Rattle.pq_calls.specs.World.{World, Explains}
use Rattle.pq_pending.specs.Pending.{with_changes, seen_content, seen_answers}
use Rattle.pq_index_keep.specs.declared.write.Write.{Write}
use Rattle.pq_counters.specs.Whole.{HasWhole}
use Rattle.pq_batch.specs.From.{FinishesAs, ShowsSeen, ShowsFrom, AnswersFrom}
use Rattle.pq_batch.specs.Promises.{AreBehind, AreOfWritesBefore, ChangesBehind}
use Rattle.pq_batch.specs.declared.plan.PlannedBatch.{PlannedBatch}
use Rattle.pq_batch.specs.declared.plan.PlannedBatch.TheVariants as planned

-- ---- damage that shows in one way, in another one

module _ (a b : World) (P Q : Option Content → Damage → Type 0) (more : (damage : Damage) → P a.told damage → Q a.told damage) where
  cause_as : (error : Broke) → Explains P a b error → Explains Q a b error
  cause_as Failed h = h
  cause_as NoMem h = h
  cause_as (Damaged damage) h = more damage h

module _ (P Q : List ℕ → Option (List ℕ) → Type 0) (more : (key : List ℕ) (value : Option (List ℕ)) → P key value → Q key value) where
  answered_as : (error : Broke) → IsAnswered P error → IsAnswered Q error
  answered_as Failed h = h
  answered_as NoMem h = h
  answered_as (Damaged damage) h = more damage.key damage.value h

-- ---- of the first write

before_first : (schema : Schema) (told : Option Content) (all : List Write) (old : List Change) → 1 ≤ length all → AreOfWritesBefore schema told all old old
before_first schema told all old some = record { place = 0; within = omega (arith, some); made = refl }

module _ (schema : Schema) (all : List Write) (old : List Change) (some : 1 ≤ length all) (error : Broke) where
  pub cause_here : (shows : Option Content → Damage → Type 0) (a b : World) → Explains (ShowsSeen old shows) a b error → Explains (ShowsFrom schema all old shows) a b error
  cause_here shows a b h =
      cause_as a b (ShowsSeen old shows) (ShowsFrom schema all old shows) (λ damage shown. (old, before_first schema a.told all old some, shown)) error h

  pub answered_here : (answers : List ℕ → Option (List ℕ) → Type 0) → IsAnswered (seen_answers answers old) error → IsAnswered (AnswersFrom schema all old answers) error
  answered_here answers h =
      answered_as (seen_answers answers old) (AnswersFrom schema all old answers) (λ key value given. (old, before_first schema None all old some, given)) error h

-- ---- the changes of all writes

pub behind_last : (schema : Schema) (told : Option Content) (all : List Write) (old : List Change) (result : PlannedBatch) → all ≡ [] → FinishesAs old result → ChangesBehind schema told all old result
behind_last schema told all old (planned.Changes changes) none finishes =
    subst (λ (ws : List Write). AreBehind schema told ws old (map change_of changes)) (sym none) finishes.0
behind_last schema told all old (planned.Refused place cause) none finishes = tt
behind_last schema told all old (planned.TooLong length) none finishes = tt

-- ---- of the writes behind it

-- whatever the store tells, they are changes of some row
untold : (schema : Schema) (told : Option Content) (write : Write) (changes : List Coded) → HasWhole schema told write changes → HasWhole schema None write changes
untold schema told write changes h = record {
  old = h.old;
  rows = h.rows;
  counts = h.counts;
  are = h.are;
  read = tt;
  passed = tt;
  fits = h.fits;
  own = h.own;
  counted = h.counted;
  moves = tt;
}

module _ (schema : Schema) (all : List Write) (write : Write) (writes : List Write) (cut : all ≡ write ∷ writes) (old later : List Change) (more : List Coded) (later_is : later ≡ with_changes old (map change_of more)) where
  behind_first : (told : Option Content) (after : List Change) → HasWhole schema (seen_content old told) write more → AreOfWritesBefore schema told writes later after → AreOfWritesBefore schema told all old after
  behind_first told after own h =
      let within = h.within in
      record {
        place = suc h.place;
        within = omega (arith, ap length cut);
        made = subst (λ (ws : List Write). AreBehind schema told (take (suc h.place) ws) old after) (sym cut)
            (more, own, subst (λ (changes : List Change). AreBehind schema told (take h.place writes) changes after) later_is h.made);
      }

  pub behind_later : (told now : Option Content) (result : PlannedBatch) → now ≡ told → HasWhole schema (seen_content old told) write more → ChangesBehind schema now writes later result → ChangesBehind schema told all old result
  behind_later told now (planned.Changes changes) same own h =
      let rest : AreBehind schema told writes (with_changes old (map change_of more)) (map change_of changes) =
      subst (λ (before : List Change). AreBehind schema told writes before (map change_of changes)) later_is
      (subst (λ (content : Option Content). AreBehind schema content writes later (map change_of changes)) same h) in
      subst (λ (ws : List Write). AreBehind schema told ws old (map change_of changes)) (sym cut) (more, own, rest)
  behind_later told now (planned.Refused place cause) same own h = tt
  behind_later told now (planned.TooLong length) same own h = tt

  module _ {A : Type 0} (result : Result A Broke) where
    pub causes_later : (shows : Option Content → Damage → Type 0) (a b : World) → HasWhole schema (seen_content old a.told) write more → IfErr result (Explains (ShowsFrom schema writes later shows) a b)
        → IfErr result (Explains (ShowsFrom schema all old shows) a b)
    causes_later shows a b own =
        IfErr-weaker result (Explains (ShowsFrom schema writes later shows) a b) (Explains (ShowsFrom schema all old shows) a b)
        (cause_as a b (ShowsFrom schema writes later shows) (ShowsFrom schema all old shows) (λ damage shown. (shown.0, behind_first a.told shown.0 own shown.1, shown.2)))

    pub answers_later : (answers : List ℕ → Option (List ℕ) → Type 0) (told : Option Content) → HasWhole schema told write more → IfErr result (IsAnswered (AnswersFrom schema writes later answers))
        → IfErr result (IsAnswered (AnswersFrom schema all old answers))
    answers_later answers told own =
        IfErr-weaker result (IsAnswered (AnswersFrom schema writes later answers)) (IsAnswered (AnswersFrom schema all old answers))
        (answered_as (AnswersFrom schema writes later answers) (AnswersFrom schema all old answers) (λ key value given. (given.0, behind_first None given.0 (untold schema told write more own) given.1, given.2)))
