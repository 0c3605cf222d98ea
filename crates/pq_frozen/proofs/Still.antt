-- What only reads leaves the model as it is; and a call over a store that never fails is told no more than want of memory.
use Rattle.std.proofs.Common.{◌≡◌, ℕ, ◌+◌, ◌≤◌, ◌<◌, ◌++◌, [], ◌∷◌, List, length, drop, get_or, Some, Result, Ok, Err, refl, sym, ap, ◌∙◌, subst, arith, inl, inr}
use Rattle.std.specs.Prelude.{IfOk, IfErr, All}
use Rattle.std.proofs.lemmas.List.{append_assoc, append-nil, drop_all, drop_more}
use Rattle.std.proofs.lemmas.List.Elements.{All-drop, All-head}
use Rattle.std.proofs.lemmas.Option.{same_Some}
use Rattle.pq_base.specs.declared.refusal.Refusal.{Refusal}
use Rattle.pq_print.specs.declared.report.Report.{Report}
use Rattle.pq_schema.specs.Schema.{Schema}
use Rattle.pq_text.specs.declared.piece.Piece.{Piece}
use Rattle.pq_store.specs.Content.{Content, HasRisen, HasBrokeCause}
use Rattle.pq_store.specs.Breaks.{IsUndamaged}
use Rattle.pq_store.specs.declared.damage.Broke.{Broke}
use Rattle.pq_store.specs.declared.damage.Broke.TheVariants.{Failed, NoMem, Damaged}
use Rattle.pq_opening.specs.declared.begun.Begun.{Begun}
use Rattle.pq_statement.specs.Actions.{Action, Creates, Adds, Writes, Batches, Misreads, Prepares, Explains, Runs, Counts, Reads, Shows, Selects, action_of}
use Rattle.pq_reports.specs.Matches.{Matches}
use Rattle.pq_catalog.specs.Model.{Model}
use Rattle.pq_opening.specs.Opening.{IsOpening, opening_of}
use Rattle.pq_reports.specs.Promise.{OnlyReads}
use Rattle.pq_catalog.specs.Stands.{HoldsModel, Opens, Stands}
use Rattle.pq_reports.specs.Step.{acted_as, read_step, step}
use Rattle.pq_catalog.proofs.Standing.{settled_opens}
use Rattle.pq_frozen.specs.Frozen.{Stilled}
use Rattle.pq_frozen.specs.Reading.{AllRead, AreAnswers, model_behind}

-- ---- the model

stays : (m : Model) (number : ℕ) (asked : Result Action Refusal) → OnlyReads asked → (acted_as m number asked).model ≡ m
unfolding read_step
stays m number (Ok (Creates table)) reads = absurd reads
stays m number (Ok (Adds def)) reads = absurd reads
stays m number (Ok (Writes write)) reads = absurd reads
stays m number (Ok (Batches writes)) reads = absurd reads
stays m number (Ok (Misreads place cause)) reads = refl
stays m number (Ok (Prepares plan)) reads = absurd reads
stays m number (Ok (Explains plan)) reads = refl
stays m number (Ok (Runs running)) reads = refl
stays m number (Ok (Counts def)) reads = absurd reads
stays m number (Ok (Reads reading)) reads = refl
stays m number (Ok Shows) reads = refl
stays m number (Ok (Selects plan)) reads = refl
stays m number (Err why) reads = refl

pub step_stays : (m : Model) (number : ℕ) (piece : Piece) → OnlyReads (action_of m.schema piece) → (step m number piece).model ≡ m
unfolding step
step_stays m number piece reads = stays m number (action_of m.schema piece) reads

-- ---- what breaks off

no_rise : HasRisen 0 0 → ⊥
no_rise (inl less) = omega (less, arith)
no_rise (inr end) = omega (end, arith)

told_no_memory : (broke : Broke) → (broke ≡ Failed → ⊥) → IsUndamaged broke → broke ≡ NoMem
told_no_memory Failed failed sound = absurd (failed refl)
told_no_memory NoMem failed sound = refl
told_no_memory (Damaged damage) failed sound = absurd sound

no_memory : {A : Type 0} (P Q : Model → Type 0) → ((m : Model) → Q m → P m) → (result : Result A Broke) → HasBrokeCause 0 0 result
    → IfErr result (λ broke. (m : Model) → P m → IsUndamaged broke) → IfErr result (λ broke. (m : Model) → Q m → broke ≡ NoMem)
no_memory P Q leads (Ok made) cause sound = tt
no_memory P Q leads (Err broke) cause sound = λ m holds. told_no_memory broke (λ is. no_rise (cause.failed (ap Err is))) (sound m (leads m holds))

-- ---- an opening, and a statement

pub opened : (old now : Content) (result : Result Begun Broke)
    → IfOk result (λ s. (m : Model) → Opens (Some old) m → IsOpening (Some old) m (opening_of s))
    → IfOk result (λ s. (m : Model) → Opens (Some old) m → Stands (Some now) s.planned m)
    → IfOk result (λ s. (m : Model) → HoldsModel (Some old) m → IsOpening (Some old) m (opening_of s) × Stands (Some now) s.planned m)
opened old now (Ok s) line stands = λ m holds. (line m (settled_opens holds), stands m (settled_opens holds))
opened old now (Err broke) line stands = tt

pub answered : (old now : Content) (session : Schema) (number : ℕ) (piece : Piece) (result : Result (Schema × Report) Broke)
    → IfOk result (λ p. (m : Model) → Stands (Some old) session m → Matches (step m number piece).report p.1)
    → IfOk result (λ p. (m : Model) → Stands (Some old) session m → Stands (Some now) p.0 (step m number piece).model)
    → IfOk result (λ p. (m : Model) → Stands (Some old) session m → OnlyReads (action_of session piece)
    → Matches (step m number piece).report p.1 × Stands (Some now) p.0 m)
answered old now session number piece (Ok p) matches made = λ m s reads.
    let known : OnlyReads (action_of m.schema piece) = subst (λ (schema : Schema). OnlyReads (action_of schema piece)) s.known reads in
    (matches m s, subst (λ (n : Model). Stands (Some now) p.0 n) (step_stays m number piece known) (made m s))
answered old now session number piece (Err broke) matches made = tt

pub open_no_memory : (old : Content) (result : Result Begun Broke) → HasBrokeCause 0 0 result
    → IfErr result (λ broke. (m : Model) → Opens (Some old) m → IsUndamaged broke)
    → IfErr result (λ broke. (m : Model) → HoldsModel (Some old) m → broke ≡ NoMem)
open_no_memory old = no_memory (λ m. Opens (Some old) m) (λ m. HoldsModel (Some old) m) (λ m holds. settled_opens holds)

pub answer_no_memory : (old : Content) (session : Schema) (result : Result (Schema × Report) Broke) → HasBrokeCause 0 0 result
    → IfErr result (λ broke. (m : Model) → Stands (Some old) session m → IsUndamaged broke)
    → IfErr result (λ broke. (m : Model) → Stands (Some old) session m → broke ≡ NoMem)
answer_no_memory old session = no_memory (λ m. Stands (Some old) session m) (λ m. Stands (Some old) session m) (λ m stands. stands)

-- ---- statements one behind the other

-- so many pieces are answered, and whatever answers the others completes the reports
pub record IsReading (m : Model) (pieces : List Piece) (place : ℕ) (held : Content) (session : Schema) (reports : List Report) : Type 0 where
  pub stands : Stands (Some held) session m
  pub rest : (more : List Report) → AreAnswers m (place + 1) (drop place pieces) more → AreAnswers m 1 pieces (reports ++ more)

pub read_none : (m : Model) (pieces : List Piece) (held : Content) (session : Schema) (reports : List Report) → reports ≡ [] → Stands (Some held) session m
    → IsReading m pieces 0 held session reports
read_none m pieces held session reports none stands = record {
  stands = stands;
  rest = λ more answers. subst (λ (rs : List Report). AreAnswers m 1 pieces (rs ++ more)) (sym none) answers;
}

-- the piece at a place reads, over the definitions that the session has
pub known_reads : (m : Model) (pieces : List Piece) (place : ℕ) (piece : Piece) (session : Schema) (held : Content) → drop place pieces ≡ piece ∷ drop (place + 1) pieces
    → AllRead m.schema pieces → Stands (Some held) session m → OnlyReads (action_of session piece)
known_reads m pieces place piece session held cut all stands =
    let rest : All (λ (p : Piece). OnlyReads (action_of m.schema p)) (piece ∷ drop (place + 1) pieces) =
    subst (λ (ps : List Piece). All (λ (p : Piece). OnlyReads (action_of m.schema p)) ps) cut (All-drop (λ (p : Piece). OnlyReads (action_of m.schema p)) place pieces all) in
    subst (λ (schema : Schema). OnlyReads (action_of schema piece)) (sym stands.known) (All-head (λ (p : Piece). OnlyReads (action_of m.schema p)) piece (drop (place + 1) pieces) rest)

-- the piece at a place, and those behind it
pub cut_at : (pieces : List Piece) (place : ℕ) (piece : Piece) → place < length pieces → piece ≡ get_or pieces place piece → drop place pieces ≡ piece ∷ drop (place + 1) pieces
cut_at pieces place piece within is = drop_more pieces place piece within ∙ ap (λ (p : Piece). p ∷ drop (place + 1) pieces) (sym is)

pub read_next : (m : Model) (pieces : List Piece) (place number : ℕ) (piece : Piece) (held now : Content) (session next : Schema) (reports longer : List Report) (report : Report)
    → number ≡ place + 1 → drop place pieces ≡ piece ∷ drop (place + 1) pieces → longer ≡ reports ++ report ∷ [] → AllRead m.schema pieces
    → IsReading m pieces place held session reports
    → (Stands (Some held) session m → OnlyReads (action_of session piece) → Matches (step m number piece).report report × Stands (Some now) next m)
    → IsReading m pieces (place + 1) now next longer
read_next m pieces place number piece held now session next reports longer report is cut pushed all reading answers =
    let reads : OnlyReads (action_of session piece) = known_reads m pieces place piece session held cut all reading.stands in
    let made : Matches (step m number piece).report report × Stands (Some now) next m = answers reading.stands reads in
    let told : Matches (step m (place + 1) piece).report report = subst (λ (n : ℕ). Matches (step m n piece).report report) is made.0 in
    record {
      stands = made.1;
      rest = λ more others.
          let behind : AreAnswers m (place + 1) (drop place pieces) (report ∷ more) =
          subst (λ (ps : List Piece). AreAnswers m (place + 1) ps (report ∷ more)) (sym cut) (told, others) in
          subst (λ (rs : List Report). AreAnswers m 1 pieces rs) (sym (ap (λ (rs : List Report). rs ++ more) pushed ∙ append_assoc reports (report ∷ []) more))
          (reading.rest (report ∷ more) behind);
    }

-- one model has one content
pub held_still : (old now : Content) (session : Schema) (m : Model) → HoldsModel (Some old) m → Stands (Some now) session m → now ≡ old
held_still old now session m holds stands = same_Some now old (stands.settled.told ∙ sym holds.told)

-- so many pieces are made, and the others lead from the model that stands then to that behind all
pub record IsMade (m : Model) (pieces : List Piece) (place : ℕ) (now : Content) (session : Schema) : Type 0 where
  pub reached : Model
  pub stands : Stands (Some now) session reached
  pub rest : model_behind reached (place + 1) (drop place pieces) ≡ model_behind m 1 pieces

pub made_none : (m : Model) (pieces : List Piece) (now : Content) (session : Schema) → Stands (Some now) session m → IsMade m pieces 0 now session
made_none m pieces now session stands = record { reached = m; stands = stands; rest = refl }

pub made_next : (m : Model) (pieces : List Piece) (place number : ℕ) (piece : Piece) (old now : Content) (session next : Schema)
    → number ≡ place + 1 → drop place pieces ≡ piece ∷ drop (place + 1) pieces → IsMade m pieces place old session
    → ((n : Model) → Stands (Some old) session n → Stands (Some now) next (step n number piece).model)
    → IsMade m pieces (place + 1) now next
made_next m pieces place number piece old now session next is cut made step_made = record {
  reached = (step made.reached (place + 1) piece).model;
  stands = subst (λ (n : ℕ). Stands (Some now) next (step made.reached n piece).model) is (step_made made.reached made.stands);
  rest = sym (ap (λ (ps : List Piece). model_behind made.reached (place + 1) ps) cut) ∙ made.rest;
}

pub made_all : (m : Model) (pieces : List Piece) (place : ℕ) (now : Content) (session : Schema) → length pieces ≤ place → IsMade m pieces place now session
    → HoldsModel (Some now) (model_behind m 1 pieces)
made_all m pieces place now session past made =
    let none : drop place pieces ≡ [] = drop_all place pieces past in
    subst (λ (n : Model). HoldsModel (Some now) n) (sym (ap (λ (ps : List Piece). model_behind made.reached (place + 1) ps) none) ∙ made.rest) made.stands.settled

pub read_whole : (m : Model) (pieces : List Piece) (place : ℕ) (held : Content) (session : Schema) (reports : List Report) → length pieces ≤ place
    → IsReading m pieces place held session reports → AreAnswers m 1 pieces reports
read_whole m pieces place held session reports past reading =
    let none : drop place pieces ≡ [] = drop_all place pieces past in
    subst (λ (rs : List Report). AreAnswers m 1 pieces rs) (append-nil reports)
    (reading.rest [] (subst (λ (ps : List Piece). AreAnswers m (place + 1) ps []) (sym none) tt))

-- what is pinned is what was there
pub pinned_holds : (pinned : Stilled) (now : Content) (m : Model) → pinned ≡ record { held = now; refused = 0 } → HoldsModel (Some now) m → HoldsModel (Some pinned.held) m
pinned_holds pinned now m is holds = subst (λ (content : Content). HoldsModel (Some content) m) (sym (ap (λ (store : Stilled). store.held) is)) holds
