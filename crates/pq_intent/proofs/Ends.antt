-- What a commit and a settling leave, at whichever call they stop.
use Rattle.std.proofs.Common.{◌≡◌, ℕ, suc, ◌≤◌, ◌<◌, length, get_or, arith, List, [], ◌∷◌, ◌++◌, map, take, Option, Some, None, cond, refl, sym, ap, ◌∙◌, subst, ◌⊎◌, inl, inr}
use Rattle.std.specs.Prelude.{MatchOption, Bool, false, true, is_none, IfSome, if◌then◌else◌}
use Rattle.std.specs.Option.{option_map}
use Rattle.std.proofs.lemmas.Bool.{false≢true}
use Rattle.pq_store.specs.declared.store.Guard.TheVariants.{Absent}
use Rattle.pq_store.specs.Content.{admits, after_write, written_content, Content}
use Rattle.pq_store.specs.Breaks.{IsPresent}
use Rattle.std.proofs.lemmas.Option.{same_Some, none-some}
use Rattle.std.specs.Cmp.Lexicographic.{nat_list_cmp_total}
use Rattle.std.specs.FinMap.{get, insert, remove, get-remove}
use Rattle.pq_row_code.specs.declared.changes.Change.{Change as Coded}
use Rattle.pq_row_code.specs.Changes.{changes_code, AreChanges}
use Rattle.pq_content.specs.Pairs.{Change, changed_content}
use Rattle.pq_content.specs.Standing.{change_of, AreIntended, IsIntent, SettlesTo}
use Rattle.pq_key_code.specs.KeyCode.{intent_key}
use Rattle.pq_content.proofs.Keys.{key_itself}
use Rattle.pq_content.proofs.Settling.{settles_partway, settled_at_last, settles_again, settles_once, settles_to_itself, intent_found, no_intent_after}
use Rattle.pq_intent.specs.Changing.{content_after, commit_writes, intent_writes, IsPartway, MayChange}
use Rattle.pq_intent.specs.Settling.{IsIntentOf, IsNoIntent, IsSettled, Settles, HasIntent, LeavesSettled, StopsSettling}
use Rattle.pq_intent.proofs.Steps.{after_none, after-append, partway_last, take_split}

-- the changes of an intent, and its removal
abbrev pub with_removal : List Coded → List Change
with_removal changes = map change_of changes ++ (intent_key, None) ∷ []

pub steps_are : (xs ys : List Coded) (k : List ℕ) → xs ≡ ys → k ≡ intent_key → map change_of xs ++ (k, None) ∷ [] ≡ with_removal ys
steps_are xs ys k e h = λ i. map change_of (e i) ++ (h i, None) ∷ []

-- ---- a content that has no intent

pub settles_itself : (new : Option Content) (c : Content) → new ≡ Some c → get c intent_key ≡ None → Settles new c
settles_itself new c told none = record { pairs = c; told = told; settles = settles_to_itself c none }

-- ---- from the intent on

after_removal : (cs : List Coded) (start : Content) → content_after (with_removal cs) (Some start) ≡ Some (remove (changed_content (map change_of cs) start) intent_key)
after_removal cs start = after-append (map change_of cs) ((intent_key, None) ∷ []) (Some start)

-- what is left partway settles to the goal, where it does so after some of the changes, and is the goal after all
through : (cs : List Coded) (start goal : Content) (new : Option Content)
    → ((n : ℕ) → SettlesTo (changed_content (take n (map change_of cs)) start) goal) → remove (changed_content (map change_of cs) start) intent_key ≡ goal → get goal intent_key ≡ None
    → IsPartway (with_removal cs) (Some start) new → Settles new goal
through cs start goal new partway last none p =
    elim (take_split p.made (map change_of cs) (intent_key, None)) as (λ _. Settles new goal) [
      | inl r ↦ record { pairs = changed_content (take r.0 (map change_of cs)) start; told = p.is ∙ ap (λ (l : List Change). content_after l (Some start)) r.1; settles = partway r.0 }
      | inr r ↦ settles_itself new goal (p.is ∙ ap (λ (l : List Change). content_after l (Some start)) r ∙ after_removal cs start ∙ ap Some last) none
    ]

-- ---- a commit

module _ (c : Content) (cs : List Coded) (none : get c intent_key ≡ None) (coded : AreChanges cs) (intended : AreIntended (map change_of cs)) where
  pub commit_started : (new : Option Content) (v : List ℕ) → v ≡ changes_code cs → (new ≡ Some c) ⊎ (new ≡ Some (insert c intent_key v)) → Settles new c ⊎ Settles new (changed_content (map change_of cs) c)
  commit_started new v code (inl same) = inl (settles_itself new c same none)
  commit_started new v code (inr made) = inr (record { pairs = insert c intent_key (changes_code cs); told = made ∙ ap (λ (w : List ℕ). Some (insert c intent_key w)) code; settles = settles_partway c cs 0 none coded intended })

  pub commit_stopped : (mid new : Option Content) (v : List ℕ) → v ≡ changes_code cs → mid ≡ Some (insert c intent_key v) → IsPartway (with_removal cs) mid new → Settles new c ⊎ Settles new (changed_content (map change_of cs) c)
  commit_stopped mid new v code is p =
      let start = insert c intent_key (changes_code cs) in
      inr (through cs start (changed_content (map change_of cs) c) new (λ n. settles_partway c cs n none coded intended) (settled_at_last c (map change_of cs) (changes_code cs) none intended) (no_intent_after c (map change_of cs) none intended)
      (subst (λ (o : Option Content). IsPartway (with_removal cs) o new) (is ∙ ap (λ (w : List ℕ). Some (insert c intent_key w)) code) p))

  pub commit_made : (mid new : Option Content) (v : List ℕ) → mid ≡ Some (insert c intent_key v) → new ≡ content_after (with_removal cs) mid → new ≡ Some (changed_content (map change_of cs) c)
  commit_made mid new v is made = made ∙ ap (content_after (with_removal cs)) is ∙ after_removal cs (insert c intent_key v) ∙ ap Some (settled_at_last c (map change_of cs) v none intended)

-- the intent's key is there already
some_of : (o : Option (List ℕ)) → is_none o ≡ false → (v : List ℕ) × (o ≡ Some v)
some_of None h = absurd (false≢true (sym h))
some_of (Some v) h = (v, refl)

pub there_already : (old : Option Content) (key k : List ℕ) (done : Bool) → key ≡ intent_key → k ≡ key → done ≡ false → IfSome old (λ pairs. done ≡ admits Absent (get pairs k)) → IfSome old (λ pairs. IsPresent intent_key pairs (record { key = key; value = None }))
there_already None key k done is same refused answer = tt
there_already (Some c) key k done is same refused answer =
    let v = some_of (get c intent_key) (ap (λ (q : List ℕ). is_none (get c q)) (sym (same ∙ is)) ∙ sym answer ∙ refused) in
    record { value = v.0; at = is; has = refl; there = v.1 }

-- it was put, whatever else the content had
pub put_made : (old new : Option Content) (k v : List ℕ) (done : Bool) → done ≡ true → k ≡ intent_key → IfSome old (λ pairs. done ≡ admits Absent (get pairs k)) → new ≡ option_map (after_write Absent k (Some v)) old
    → new ≡ option_map (written_content intent_key (Some v)) old
put_made None new k v done holds same answer is = is
put_made (Some c) new k v done holds same answer is = is ∙ ap (λ (b : Bool). Some (if b then insert c k v else c)) (sym answer ∙ holds) ∙ ap (λ (q : List ℕ). Some (insert c q v)) same

no_intent_in : (c : Content) (found : Option (List ℕ)) → get c intent_key ≡ found → (HasIntent (Some c) → ⊥) → get c intent_key ≡ None
no_intent_in c None found taken = found
no_intent_in c (Some v) found taken = absurd (taken (record { pairs = c; told = refl; value = v; found = found }))

-- what is made over an intent that could be put is all of it
pub whole_made : (cs : List Coded) (old mid new : Option Content) (v : List ℕ) → AreChanges cs → AreIntended (map change_of cs) → (HasIntent old → ⊥) → ((pairs : Content) → IsSettled old pairs → mid ≡ Some (insert pairs intent_key v))
    → new ≡ content_after (with_removal cs) mid → IfSome old (λ pairs. new ≡ Some (changed_content (map change_of cs) pairs))
whole_made cs None mid new v coded intended taken put made = tt
whole_made cs (Some c) mid new v coded intended taken put made =
    let none = no_intent_in c (get c intent_key) refl taken in
    commit_made c cs none coded intended mid new v (put c (record { told = refl; no_intent = none })) made

-- partway behind the first one
pub partway_behind : (x : Change) (xs : List Change) (old mid new : Option Content) → mid ≡ content_after (x ∷ []) old → IsPartway xs mid new → IsPartway (x ∷ xs) old new
partway_behind x xs old mid new made p = record { made = suc p.made; is = p.is ∙ ap (content_after (take p.made xs)) made ∙ sym (after-append (x ∷ []) (take p.made xs) old) }

-- one change is made or not
pub one_stopped : (c : Content) (x : Coded) (old new : Option Content) → IsSettled old c → AreIntended (map change_of (x ∷ [])) → MayChange (change_of x) old new → Settles new c ⊎ Settles new (changed_content (map change_of (x ∷ [])) c)
one_stopped c x old new s intended (inl same) = inl (settles_itself new c (same ∙ s.told) s.no_intent)
one_stopped c x old new s intended (inr made) = inr (settles_itself new (changed_content (map change_of (x ∷ [])) c) (made ∙ ap (content_after (change_of x ∷ [])) s.told) (no_intent_after c (map change_of (x ∷ [])) s.no_intent intended))

single : (cs : List Coded) (x : Coded) → 1 ≤ length cs → length cs < 2 → x ≡ get_or cs 0 x → cs ≡ x ∷ []
single [] x some few is = absurd (omega arith)
single (y ∷ []) x some few is = ap (λ (z : Coded). z ∷ []) (sym is)
single (y ∷ z ∷ cs) x some few is = absurd (omega arith)

pub single_is : (cs items : List Coded) (x : Coded) → items ≡ cs → 1 ≤ length items → length items < 2 → x ≡ get_or items 0 x → cs ≡ x ∷ []
single_is cs items x same some few at = sym same ∙ single items x some few at

pub single_whole : (cs : List Coded) (x : Coded) (old new : Option Content) → cs ≡ x ∷ [] → new ≡ option_map (written_content x.key x.new) old → IfSome old (λ pairs. new ≡ Some (changed_content (map change_of cs) pairs))
single_whole cs x None new is made = tt
single_whole cs x (Some c) new is made = made ∙ ap (λ (l : List Coded). Some (changed_content (map change_of l) c)) (sym is)

pub single_partway : (cs : List Coded) (x : Coded) (old new : Option Content) → cs ≡ x ∷ [] → MayChange (change_of x) old new → IsPartway (commit_writes cs) old new
single_partway cs x old new is may = subst (λ (l : List Coded). IsPartway (commit_writes l) old new) (sym is) (partway_last [] (change_of x) old old new (sym (after_none old)) may)

-- more changes are made by an intent
pub more_writes : (cs : List Coded) → 2 ≤ length cs → commit_writes cs ≡ intent_writes cs
more_writes [] more = absurd (omega arith)
more_writes (x ∷ []) more = absurd (omega arith)
more_writes (x ∷ y ∷ cs) more = refl

pub single_stopped : (cs items : List Coded) (x : Coded) (old new : Option Content) → items ≡ cs → 1 ≤ length items → length items < 2 → x ≡ get_or items 0 x → AreIntended (map change_of cs) → MayChange (change_of x) old new
    → (c : Content) → IsSettled old c → Settles new c ⊎ Settles new (changed_content (map change_of cs) c)
single_stopped cs items x old new same some few at intended may c s =
    let is : cs ≡ x ∷ [] = sym same ∙ single items x some few at in
    subst (λ (l : List Coded). Settles new c ⊎ Settles new (changed_content (map change_of l) c)) (sym is) (one_stopped c x old new s (subst (λ (l : List Coded). AreIntended (map change_of l)) is intended) may)

-- ---- a settling

get_removed : (c : Content) → get (remove c intent_key) intent_key ≡ None
get_removed c = get-remove nat_list_cmp_total c intent_key intent_key ∙ ap (λ b. cond b None (get c intent_key)) (key_itself intent_key)

module _ (c : Content) (value : List ℕ) (cs : List Coded) (found : get c intent_key ≡ Some value) (intent : IsIntentOf cs value) where
  is_intent : IsIntent c (remove (changed_content (map change_of cs) c) intent_key) value
  is_intent = record { changes = cs; code = sym intent.code; coded = intent.coded; intended = intent.intended; makes = refl }

  settles_made : SettlesTo c (remove (changed_content (map change_of cs) c) intent_key)
  unfolding SettlesTo
  settles_made = subst (λ (o : Option (List ℕ)). MatchOption o (remove (changed_content (map change_of cs) c) intent_key ≡ c) (IsIntent c (remove (changed_content (map change_of cs) c) intent_key))) (sym found) is_intent

  pub settle_made : (old new : Option Content) → old ≡ Some c → new ≡ content_after (with_removal cs) old → LeavesSettled c new
  settle_made old new told made = record {
    settled = remove (changed_content (map change_of cs) c) intent_key;
    settles = settles_made;
    stands = record { told = made ∙ ap (content_after (with_removal cs)) told ∙ after_removal cs c; no_intent = get_removed (changed_content (map change_of cs) c) };
  }

  pub settle_stopped : (old new : Option Content) (settled : Content) → old ≡ Some c → IsPartway (with_removal cs) old new → Settles old settled → Settles new settled
  unfolding is_intent
  settle_stopped old new settled told p s =
      let same : s.pairs ≡ c = same_Some _ _ (sym s.told ∙ told) in
      let is : remove (changed_content (map change_of cs) c) intent_key ≡ settled = settles_once c (remove (changed_content (map change_of cs) c) intent_key) settled settles_made (subst (λ (d : Content). SettlesTo d settled) same s.settles) in
      subst (Settles new) is
      (through cs c (remove (changed_content (map change_of cs) c) intent_key) new (λ n. settles_again c (remove (changed_content (map change_of cs) c) intent_key) value n is_intent found) refl (get_removed (changed_content (map change_of cs) c))
      (subst (λ (o : Option Content). IsPartway (with_removal cs) o new) told p))

-- what is there after a settling is what the content settled to
pub made_settled : (c settled : Content) (old new : Option Content) → old ≡ Some c → LeavesSettled c new → Settles old settled → IsSettled new settled
made_settled c settled old new told made s =
    let same : s.pairs ≡ c = same_Some _ _ (sym s.told ∙ told) in
    subst (IsSettled new) (settles_once c made.settled settled made.settles (subst (λ (d : Content). SettlesTo d settled) same s.settles)) made.stands

-- a content without an intent is settled
pub nothing_made : (c : Content) (new : Option Content) → get c intent_key ≡ None → new ≡ Some c → LeavesSettled c new
nothing_made c new none told = record { settled = c; settles = settles_to_itself c none; stands = record { told = told; no_intent = none } }

-- a content with a value that is no intent settles to nothing
pub no_settling : (c settled : Content) (value : List ℕ) (old : Option Content) → old ≡ Some c → get c intent_key ≡ Some value → IsNoIntent value → Settles old settled → ⊥
no_settling c settled value old told found never s =
    let same : s.pairs ≡ c = same_Some _ _ (sym s.told ∙ told) in
    let intent = intent_found c settled value found (subst (λ (d : Content). SettlesTo d settled) same s.settles) in
    never intent.changes (record { code = sym intent.code; coded = intent.coded; intended = intent.intended })

-- ---- as a settling finds it

-- what was read at the intent's key
pub record IsRead (old : Option Content) (found : Option (List ℕ)) : Type 0 where
  pub answer : IfSome old (λ pairs. found ≡ get pairs intent_key)

pub is_read : (old : Option Content) (found : Option (List ℕ)) (k key : List ℕ) → k ≡ key → key ≡ intent_key → IfSome old (λ pairs. found ≡ get pairs k) → IsRead old found
is_read old found k key same is answer = record { answer = subst (λ (q : List ℕ). IfSome old (λ pairs. found ≡ get pairs q)) (same ∙ is) answer }

pub none_made : (old new : Option Content) (found : Option (List ℕ)) → IsRead old found → found ≡ None → new ≡ old → IfSome old (λ pairs. LeavesSettled pairs new)
none_made None new found read none same = tt
none_made (Some c) new found read none same = nothing_made c new (sym read.answer ∙ none) same

pub is_made : (old new : Option Content) → IfSome old (λ pairs. LeavesSettled pairs new) → (settled : Content) → Settles old settled → IsSettled new settled
is_made None new made settled s = absurd (none-some s.pairs s.told)
is_made (Some c) new made settled s = made_settled c settled (Some c) new refl made s

pub never_settles : (old : Option Content) (found : Option (List ℕ)) (value : List ℕ) → IsRead old found → found ≡ Some value → IsNoIntent value → (settled : Content) → Settles old settled → ⊥
never_settles None found value read some never settled s = absurd (none-some s.pairs s.told)
never_settles (Some c) found value read some never settled s = no_settling c settled value (Some c) refl (sym read.answer ∙ some) never s

pub changes_made : (old mid new : Option Content) (found : Option (List ℕ)) (value : List ℕ) (cs : List Coded) → IsRead old found → found ≡ Some value → IsIntentOf cs value → mid ≡ old → new ≡ content_after (with_removal cs) mid → IfSome old (λ pairs. LeavesSettled pairs new)
changes_made None mid new found value cs read some intent same made = tt
changes_made (Some c) mid new found value cs read some intent same made = settle_made c value cs (sym read.answer ∙ some) intent mid new same made

pub changes_stopped : (old mid new : Option Content) (found : Option (List ℕ)) (value : List ℕ) (cs : List Coded) → IsRead old found → found ≡ Some value → IsIntentOf cs value → mid ≡ old → IsPartway (with_removal cs) mid new
    → (settled : Content) → Settles old settled → Settles new settled
changes_stopped None mid new found value cs read some intent same p settled s = absurd (none-some s.pairs s.told)
changes_stopped (Some c) mid new found value cs read some intent same p settled s = settle_stopped c value cs (sym read.answer ∙ some) intent mid new settled same p (subst (λ (o : Option Content). Settles o settled) (sym same) s)

-- where a value was read at the intent's key, there is an intent
pub read_rests : (old new : Option Content) (found : Option (List ℕ)) (value : List ℕ) → IsRead old found → found ≡ Some value → IfSome old (λ pairs. get pairs intent_key ≡ None → new ≡ old)
read_rests None new found value read some = tt
read_rests (Some c) new found value read some = λ none. absurd (none-some value (sym none ∙ sym read.answer ∙ some))

-- ---- where it stops

pub stops_unchanged : (old new : Option Content) → new ≡ old → IfSome old (λ pairs. StopsSettling pairs new)
stops_unchanged None new same = tt
stops_unchanged (Some c) new same = inl same

pub stops_partway : (old mid new : Option Content) (found : Option (List ℕ)) (value : List ℕ) (cs : List Coded) → IsRead old found → found ≡ Some value → IsIntentOf cs value → mid ≡ old → IsPartway (with_removal cs) mid new
    → IfSome old (λ pairs. StopsSettling pairs new)
stops_partway None mid new found value cs read some intent same p = tt
stops_partway (Some c) mid new found value cs read some intent same p = inr (record {
  value = value;
  found = sym read.answer ∙ some;
  changes = cs;
  intent = intent;
  partway = subst (λ (o : Option Content). IsPartway (with_removal cs) o new) same p;
})
