-- What an opening leaves of a told content, and that it leaves a quiet one as it is.
use Rattle.std.proofs.Common.{◌≡◌, ℕ, ◌⊎◌, Option, Some, None, Result, Ok, Err, refl, sym, ap, ◌∙◌, subst, inl, inr}
use Rattle.std.specs.Prelude.{IfSome, IfOk, IfErr, OnOk, OnErr, length}
use Rattle.std.specs.FinMap.{get}
use Rattle.std.proofs.lemmas.Option.{same_Some}
use Rattle.pq_key_code.specs.KeyCode.{intent_key}
use Rattle.pq_schema.specs.Schema.{Schema}
use Rattle.pq_schema.specs.Valid.{IsValid}
use Rattle.pq_content.specs.Tables.{Keeps}
use Rattle.pq_content.specs.Standing.{SettlesTo}
use Rattle.pq_content.proofs.Settling.{settles_to_itself, settles_once}
use Rattle.pq_tallies.specs.Counters.{AreFewRows}
use Rattle.pq_tallies.specs.Defined.{counters_in}
use Rattle.pq_builds.specs.Filling.{row_pairs_in}
use Rattle.pq_builds.specs.Stages.{IsReady, StopsFilling}
use Rattle.pq_builds.specs.declared.target.NewQuery.{NewQuery}
use Rattle.pq_builds.specs.declared.target.Target.{Target}
use Rattle.pq_intent.specs.Settling.{LeavesSettled, StopsSettling}
use Rattle.pq_store.specs.Breaks.{IfDamaged, IsUndamaged}
use Rattle.pq_store.specs.Content.{Content}
use Rattle.pq_store.specs.declared.damage.Broke.{Broke}
use Rattle.pq_store.specs.declared.damage.Broke.TheVariants.{Failed, NoMem, Damaged}
use Rattle.pq_catalog.specs.declared.format.Mark.{Mark}
use Rattle.pq_catalog.specs.declared.format.Mark.TheVariants.{Ready, Building}
use Rattle.pq_catalog.specs.Model.{Model}
use Rattle.pq_opening.specs.Opening.{IsLeft, IsQuiet, GoesOnLeft, LeavesFlawed, LeavesMarked, LeavesRead, LeavesStopped, added_from, catalog_in, none_added}
use Rattle.pq_catalog.specs.Stands.{HoldsModel, Opens, Holds, content_of}
use Rattle.pq_opening.proofs.Reopening.{mark_in, catalog_tells, held_tells}
use Rattle.pq_catalog.proofs.Standing.{no_intent_in}

-- ---- what the completion of a build leaves

pub itself : (old : Option Content) → IfSome old (λ c. old ≡ Some c)
itself None = tt
itself (Some c) = refl

-- it was ended, or it gave up
pub index_stops : {E : Type 0} (target : Target) (query : NewQuery) (old now : Option Content) (result : Result ℕ E)
    → IfOk result (λ count. IfSome old (λ c. (length (row_pairs_in target.table c) ≡ count) × IsReady target query c now)) → OnErr result (IfSome old (λ c. StopsFilling target query c now))
    → IfSome old (λ c. StopsFilling target query c now)
index_stops target query None now result ready ended = tt
index_stops target query (Some c) now (Ok count) ready ended = inr ready.1
index_stops target query (Some c) now (Err broke) ready ended = ended

pub nothing_done : (schema : Schema) (old : Option Content) → IfSome old (λ c. GoesOnLeft schema c old)
nothing_done schema None = tt
nothing_done schema (Some c) = inl refl

pub gone_on : (schema : Schema) (target : Target) (query : NewQuery) (old now : Option Content) → IsLeft schema target query → IfSome old (λ c. StopsFilling target query c now) → IfSome old (λ c. GoesOnLeft schema c now)
gone_on schema target query None now left stops = tt
gone_on schema target query (Some c) now left stops = inr (target, query, left, stops)

-- ---- what an opening leaves

-- the settling found damage
pub settled_flawed : (old mid : Option Content) (broke : Broke) → (IsUndamaged broke ⊎ (mid ≡ old)) → IfSome old (λ c. IfDamaged (λ damage. LeavesFlawed c mid) broke)
settled_flawed None mid broke kept = tt
settled_flawed (Some c) mid Failed kept = tt
settled_flawed (Some c) mid NoMem kept = tt
settled_flawed (Some c) mid (Damaged damage) (inl sound) = absurd sound
settled_flawed (Some c) mid (Damaged damage) (inr same) = inl same

-- the reading of the catalog did
pub read_flawed : (old mid now : Option Content) (broke : Broke) → now ≡ mid → IfSome old (λ pairs. LeavesSettled pairs mid) → IfSome old (λ c. IfDamaged (λ damage. LeavesFlawed c now) broke)
read_flawed None mid now broke same are = tt
read_flawed (Some c) mid now Failed same are = tt
read_flawed (Some c) mid now NoMem same are = tt
read_flawed (Some c) mid now (Damaged damage) same are = inr (inl (subst (LeavesSettled c) (sym same) are))

-- the catalog was read, and what is built was gone on with
pub left_read : (old mid now new : Option Content) (schema : Schema) (mark : Mark) → now ≡ mid → IfSome old (λ pairs. LeavesSettled pairs mid)
    → IfSome mid (λ pairs. added_from none_added (catalog_in pairs) ≡ Ok (schema, mark)) → IfSome now (λ c. LeavesMarked schema mark c new) → IfSome old (λ c. LeavesRead c new)
left_read None mid now new schema mark same are told left = tt
left_read (Some c) mid now new schema mark same are told left = record {
  settled = are.settled;
  settles = are.settles;
  schema = schema;
  mark = mark;
  read = subst (λ (o : Option Content). IfSome o (λ pairs. added_from none_added (catalog_in pairs) ≡ Ok (schema, mark))) are.stands.told told;
  left = subst (λ (o : Option Content). IfSome o (λ x. LeavesMarked schema mark x new)) (same ∙ are.stands.told) left;
}

pub left_flawed : (old new : Option Content) (broke : Broke) → IfSome old (λ c. LeavesRead c new) → IfSome old (λ c. IfDamaged (λ damage. LeavesFlawed c new) broke)
left_flawed None new broke left = tt
left_flawed (Some c) new Failed left = tt
left_flawed (Some c) new NoMem left = tt
left_flawed (Some c) new (Damaged damage) left = inr (inr left)

-- ---- where it stops, for whatever cause

-- in the settling
pub settled_stops : (old mid : Option Content) → IfSome old (λ c. StopsSettling c mid) → IfSome old (λ c. LeavesStopped c mid)
settled_stops None mid stops = tt
settled_stops (Some c) mid (inl same) = inr (inl same)
settled_stops (Some c) mid (inr part) = inl part

-- in the reading of the catalog
pub read_stops : (old mid now : Option Content) → now ≡ mid → IfSome old (λ pairs. LeavesSettled pairs mid) → IfSome old (λ c. LeavesStopped c now)
read_stops None mid now same are = tt
read_stops (Some c) mid now same are = inr (inr (inl (subst (LeavesSettled c) (sym same) are)))

-- behind it
pub left_stops : (old new : Option Content) → IfSome old (λ c. LeavesRead c new) → IfSome old (λ c. LeavesStopped c new)
left_stops None new left = tt
left_stops (Some c) new left = inr (inr (inr left))

-- ---- a quiet content

pub settled_quiet : (old mid : Option Content) → IfSome old (λ pairs. get pairs intent_key ≡ None → mid ≡ old) → IfSome old (λ c. IsQuiet c → mid ≡ Some c)
settled_quiet None mid rests = tt
settled_quiet (Some c) mid rests = λ q. rests q.no_intent

pub read_quiet : (old mid now : Option Content) → now ≡ mid → IfSome old (λ pairs. get pairs intent_key ≡ None → mid ≡ old) → IfSome old (λ c. IsQuiet c → now ≡ Some c)
read_quiet None mid now same rests = tt
read_quiet (Some c) mid now same rests = λ q. same ∙ rests q.no_intent

unmarked : (c : Content) (new : Option Content) (schema : Schema) (mark : Mark) → IsQuiet c → added_from none_added (catalog_in c) ≡ Ok (schema, mark) → LeavesMarked schema mark c new → new ≡ Some c
unmarked c new schema Ready q told left = left
unmarked c new schema Building q told left = absurd (q.no_build schema told)

pub left_quiet : (old mid now new : Option Content) (schema : Schema) (mark : Mark) → now ≡ mid → IfSome old (λ pairs. get pairs intent_key ≡ None → mid ≡ old)
    → IfSome mid (λ pairs. added_from none_added (catalog_in pairs) ≡ Ok (schema, mark)) → IfSome now (λ c. LeavesMarked schema mark c new) → IfSome old (λ c. IsQuiet c → new ≡ Some c)
left_quiet None mid now new schema mark same rests told left = tt
left_quiet (Some c) mid now new schema mark same rests told left = λ q.
    let at : mid ≡ Some c = rests q.no_intent in
    unmarked c new schema mark q (subst (λ (o : Option Content). IfSome o (λ pairs. added_from none_added (catalog_in pairs) ≡ Ok (schema, mark))) at told)
    (subst (λ (o : Option Content). IfSome o (λ x. LeavesMarked schema mark x new)) (same ∙ at) left)

-- so what was read of it was nothing to go on with
pub quiet_stays : (old now : Option Content) → IfSome old (λ c. LeavesRead c now) → IfSome old (λ c. IsQuiet c → now ≡ Some c)
quiet_stays None now left = tt
quiet_stays (Some c) now left = λ q.
    let one : left.settled ≡ c = settles_once c left.settled c left.settles (settles_to_itself c q.no_intent) in
    unmarked c now left.schema left.mark q (subst (λ (x : Content). added_from none_added (catalog_in x) ≡ Ok (left.schema, left.mark)) one left.read)
    (subst (λ (x : Content). LeavesMarked left.schema left.mark x now) one left.left)

-- ---- what a model's content is

not_ready : Ready ≡ Building → ⊥
not_ready e = absurd (cc)

-- a model's own content is quiet
pub held_quiet : (content : Content) (m : Model) → HoldsModel (Some content) m → IsQuiet content
held_quiet content m s = subst IsQuiet (sym (same_Some content (content_of m) s.told)) (record {
  no_intent = no_intent_in m;
  no_build = λ schema tells. not_ready (ap mark_in (sym (catalog_tells m s.valid) ∙ tells));
})

own_held : (content : Content) (m : Model) → IsQuiet content → IsValid m.schema → Keeps m.schema.tables m.rows → AreFewRows (counters_in m.schema) m.rows → Holds m content → HoldsModel (Some content) m
own_held content m q valid keeps few (inl same) = record { valid = valid; keeps = keeps; few = few; told = ap (λ (c : Content). Some c) same }
own_held content m q valid keeps few (inr f) = absurd (q.no_build m.schema (held_tells m content valid (inr f)))

-- and a quiet one that opens to a model is its own
pub quiet_own : (content : Content) (m : Model) → Opens (Some content) m → IsQuiet content → HoldsModel (Some content) m
quiet_own content m opens q =
    let there : opens.settles.pairs ≡ content = same_Some opens.settles.pairs content (sym opens.settles.told) in
    let one : opens.pairs ≡ content = settles_once content opens.pairs content (subst (λ (c : Content). SettlesTo c opens.pairs) there opens.settles.settles) (settles_to_itself content q.no_intent) in
    own_held content m q opens.valid opens.keeps opens.few (subst (Holds m) one opens.holds)

-- ---- whatever is answered

pub on_ok_holds : {A E P : Type 0} (r : Result A E) → P → OnOk r P
on_ok_holds (Ok x) p = p
on_ok_holds (Err e) p = tt

pub if_err_holds : {A E : Type 0} (r : Result A E) (P : E → Type 0) → ((e : E) → P e) → IfErr r P
if_err_holds (Ok x) P p = tt
if_err_holds (Err e) P p = p e
