-- From the values that are found for the groups that a write moves to what is changed of the counters.
use Rattle.std.proofs.Common.{◌≡◌, ℕ, ◌+◌, ◌-◌, ◌≤◌, ◌<◌, inl, inr, ◌⊎◌, Bool, true, false, nat_le, cond, List, [], ◌∷◌, ◌++◌, length, map, flat_map, Option, Some, None, refl, sym, ap, ◌∙◌, subst, arith, length-append, append_assoc, get_or, take, drop}
use Rattle.std.specs.Prelude.{IfSome, option_map}
use Rattle.std.specs.FinMap.{get}
use Rattle.std.specs.List.{AllByRecursion, AllZip, find, sum_by}
use Rattle.std.proofs.lemmas.Bool.{leb-true, le-leb, false≢true}
use Rattle.std.proofs.lemmas.Option.{none-some}
use Rattle.std.proofs.lemmas.List.{append-nil, take_all}
use Rattle.std.proofs.lemmas.List.Sums.{sum_by-cons}
use Rattle.pq_base.proofs.Members.{each_append}
use Rattle.pq_base.specs.declared.refusal.Refusal.{Refusal}
use Rattle.pq_base.specs.declared.value.Value.{Value}
use Rattle.pq_schema.specs.Counters.{IsCounterNumber}
use Rattle.pq_schema.specs.Schema.{Schema}
use Rattle.pq_schema.specs.Valid.{IsValid}
use Rattle.pq_content.specs.Pairs.{Change, Pair}
use Rattle.pq_content.specs.Standing.{change_of}
use Rattle.pq_content.specs.Tables.{Rows}
use Rattle.pq_store.specs.Breaks.{IsAnswered}
use Rattle.pq_store.specs.Content.{Content}
use Rattle.pq_store.specs.Rounds.{IsValueOf, IsValueAnswered}
use Rattle.pq_store.specs.declared.damage.Broke.{Broke}
use Rattle.pq_store.specs.declared.damage.Broke.TheVariants.{Failed, NoMem, Damaged}
use Rattle.pq_store.specs.declared.damage.Damage.{Damage}
use Rattle.pq_calls.specs.World.{World, Explains}
use Rattle.pq_index_keep.specs.declared.plan.Planned.{Planned}
use Rattle.pq_index_keep.specs.declared.plan.Planned.TheVariants.{Changes, Refused}
use Rattle.pq_tallies.specs.Counters.{tally, most_count, counter_key, stored_count, HoldsCounted}
use Rattle.pq_tallies.specs.Defined.{NumberedCounter, counter_numbered}
use Rattle.pq_tallies.specs.Moves.{group_key, move_in, left_changes, joined_changes, move_changes, moves_changes, is_full_group, lacks_count, first_full}
use Rattle.pq_tallies.specs.Writes.{counter_full}
use Rattle.pq_counters.specs.Evidence.{IsCounted, IsNoCountAt}
use Rattle.pq_counters.specs.Groups.{group_with, groups_of, groups_at, asked_key, value_in, IsMovedGroup, IsFull, PlansFound, PlansGroups, SpoilsGroup, SpoilsFound, SpoilsGroups, IsSpoilt}
use Rattle.pq_counters.specs.Promises.{IfChanges, LeavesKey, JoinsKey, MovesCounts}
use Rattle.pq_counters.specs.Steps.{some_count, moves_of, moves_at, IsSmallKey, MovesLittle, TellsGroup, TellsMove, AreOfTable, PlansMoves, SpoilsLeft, SpoilsFrom, SpoilsTo, SpoilsMoves}
use Rattle.pq_counters.specs.declared.moved.MovedGroup.{MovedGroup}
use Rattle.pq_tallies.proofs.Defined.{numbered_in}
use Rattle.pq_counters.proofs.Moving.{tells_move}
use Rattle.pq_counters.proofs.Told.{told_is}

-- ---- how many, and of which counters

length_with : (comes : Bool) (n : ℕ) (group : Option (List Value)) → length (group_with comes n (group_key n group)) ≡ some_count group
length_with comes n None = refl
length_with comes n (Some v) = refl

length_of : (t : ℕ) (old new : Option (List Value)) (c : NumberedCounter) → length (groups_of t old new c) ≡ moves_of t old new c
length_of t old new c =
    let m = move_in t old new c in
    let from = length_with false c.number m.from in
    let to = length_with true c.number m.to in
    let parts = length-append (group_with false c.number (group_key c.number m.from)) (group_with true c.number (group_key c.number m.to)) in
    omega (arith, from, to, parts)

module _ (schema : Schema) (t : ℕ) (old new : Option (List Value)) where
  abbrev groups : List ℕ → List MovedGroup
  groups numbers = flat_map (groups_at schema t old new) numbers

  pub length_groups : (numbers : List ℕ) → length (groups numbers) ≡ sum_by (moves_at schema t old new) numbers
  length_groups [] = refl
  length_groups (n ∷ ns) =
      let parts = length-append (groups_at schema t old new n) (groups ns) in
      let here = length_of t old new (counter_numbered schema n) in
      let rest = length_groups ns in
      let sum = sum_by-cons (moves_at schema t old new) n ns in
      omega (arith, parts, here, rest, sum)

  each_with : (comes : Bool) (n : ℕ) (group : Option (List Value)) → IsCounterNumber schema n → IsSmallKey (group_key n group) → AllByRecursion (IsMovedGroup schema) (group_with comes n (group_key n group))
  each_with comes n None i s = tt
  each_with comes n (Some v) i s = (record { number = i; small = s; of_counters = refl }, tt)

  pub each_group : (numbers : List ℕ) → AllByRecursion (IsCounterNumber schema) numbers → AllByRecursion (MovesLittle schema t old new) numbers → AllByRecursion (IsMovedGroup schema) (groups numbers)
  each_group [] i s = tt
  each_group (n ∷ ns) i s =
      let m = move_in t old new (counter_numbered schema n) in
      each_append (IsMovedGroup schema) (groups_at schema t old new n) (groups ns)
      (each_append (IsMovedGroup schema) (group_with false n (group_key n m.from)) (group_with true n (group_key n m.to))
      (each_with false n m.from i.0 s.0.from) (each_with true n m.to i.0 s.0.to))
      (each_group ns i.1 s.1)

-- ---- what is found

found_in : (content : Content) (gs : List MovedGroup) (found : List (Option (List ℕ))) → AllZip (IsValueOf (Some content)) (map asked_key gs) found → found ≡ map (value_in content) gs
found_in content [] [] h = refl
found_in content [] (f ∷ fs) h = absurd h
found_in content (g ∷ gs) [] h = absurd h
found_in content (g ∷ gs) (f ∷ fs) h = λ i. h.0 i ∷ found_in content gs fs h.1 i

pub plans_told : (told : Option Content) (schema : Schema) (gs : List MovedGroup) (found : List (Option (List ℕ))) → AllZip (IsValueOf told) (map asked_key gs) found → (planned : Planned) → PlansGroups schema gs found planned → IfSome told (λ content. PlansGroups schema gs (map (value_in content) gs) planned)
plans_told None schema gs found zip planned h = tt
plans_told (Some content) schema gs found zip planned h = subst (λ (f : List (Option (List ℕ))). PlansGroups schema gs f planned) (found_in content gs found zip) h

pub spoilt_explains : (gs : List MovedGroup) (found : List (Option (List ℕ))) (a b : World) (error : Broke) → AllZip (IsValueOf a.told) (map asked_key gs) found → IsSpoilt (SpoilsFound gs found) error → Explains (SpoilsGroups gs) a b error
spoilt_explains gs found a b Failed zip h = absurd h
spoilt_explains gs found a b NoMem zip h = tt
spoilt_explains gs found a b (Damaged damage) zip h = (found, zip, h)

answered_at : (answers : List ℕ → Option (List ℕ) → Type 0) (gs : List MovedGroup) (found : List (Option (List ℕ))) (damage : Damage) → AllZip (IsValueAnswered answers) (map asked_key gs) found → SpoilsFound gs found damage → answers damage.key damage.value
answered_at answers [] found damage zip h = absurd h
answered_at answers (g ∷ gs) [] damage zip h = absurd h
answered_at answers (g ∷ gs) (f ∷ fs) damage zip (inl s) = subst (λ (key : List ℕ). answers key damage.value) (sym s.at) (subst (λ (value : Option (List ℕ)). answers g.at value) (sym s.has) zip.0)
answered_at answers (g ∷ gs) (f ∷ fs) damage zip (inr s) = answered_at answers gs fs damage zip.1 s

pub spoilt_answered : (answers : List ℕ → Option (List ℕ) → Type 0) (gs : List MovedGroup) (found : List (Option (List ℕ))) (error : Broke) → AllZip (IsValueAnswered answers) (map asked_key gs) found → IsSpoilt (SpoilsFound gs found) error → IsAnswered answers error
spoilt_answered answers gs found Failed zip h = tt
spoilt_answered answers gs found NoMem zip h = tt
spoilt_answered answers gs found (Damaged damage) zip h = answered_at answers gs found damage zip h

-- ---- damage

found_there : (told : Option Content) (key : List ℕ) (value : Option (List ℕ)) → IsValueOf told (Some key) value → IfSome told (λ content. get content key ≡ value)
found_there None key value h = tt
found_there (Some content) key value h = sym h

module _ (told : Option Content) (damage : Damage) (n : ℕ) where
  no_count : (key code : List ℕ) (comes : Bool) → IsValueOf told (Some key) (Some code) → SpoilsGroup (record { at = key; number = n; comes = comes }) (Some code) damage → IsNoCountAt key told damage
  no_count key code comes v s = record { code = code; at = s.at; has = s.has; no_count = s.spoilt; there = found_there told key (Some code) v }

  left_spoilt : (key : List ℕ) (value : Option (List ℕ)) → IsValueOf told (Some key) value → SpoilsGroup (record { at = key; number = n; comes = false }) value damage → SpoilsLeft key told damage
  left_spoilt key None v s = inr (record { at = s.at; has = s.has; absent = found_there told key None v })
  left_spoilt key (Some code) v s = inl (no_count key code false v s)

  joined_spoilt : (key : List ℕ) (value : Option (List ℕ)) → IsValueOf told (Some key) value → SpoilsGroup (record { at = key; number = n; comes = true }) value damage → IsNoCountAt key told damage
  joined_spoilt key None v s = absurd (false≢true (sym s.spoilt))
  joined_spoilt key (Some code) v s = no_count key code true v s

  -- behind the groups of one counter
  abbrev Later : List MovedGroup → Type 0
  Later gs = (rest : List (Option (List ℕ))) × AllZip (IsValueOf told) (map asked_key gs) rest × SpoilsFound gs rest damage

  abbrev both : Option (List Value) → Option (List Value) → List MovedGroup
  both from to = group_with false n (group_key n from) ++ group_with true n (group_key n to)

  spoilt_step : (from to : Option (List Value)) (gs : List MovedGroup) (found : List (Option (List ℕ))) → AllZip (IsValueOf told) (map asked_key (both from to ++ gs)) found → SpoilsFound (both from to ++ gs) found damage
      → (SpoilsFrom n from told damage ⊎ SpoilsTo n to told damage) ⊎ Later gs
  spoilt_step None None gs found zip h = inr (found, zip, h)
  spoilt_step None (Some w) gs [] zip h = absurd h
  spoilt_step None (Some w) gs (f ∷ fs) zip (inl s) = inl (inr (joined_spoilt (counter_key n w) f zip.0 s))
  spoilt_step None (Some w) gs (f ∷ fs) zip (inr s) = inr (fs, zip.1, s)
  spoilt_step (Some v) None gs [] zip h = absurd h
  spoilt_step (Some v) None gs (f ∷ fs) zip (inl s) = inl (inl (left_spoilt (counter_key n v) f zip.0 s))
  spoilt_step (Some v) None gs (f ∷ fs) zip (inr s) = inr (fs, zip.1, s)
  spoilt_step (Some v) (Some w) gs [] zip h = absurd h
  spoilt_step (Some v) (Some w) gs (f ∷ fs) zip (inl s) = inl (inl (left_spoilt (counter_key n v) f zip.0 s))
  spoilt_step (Some v) (Some w) gs (f ∷ []) zip (inr s) = absurd s
  spoilt_step (Some v) (Some w) gs (f ∷ e ∷ fs) zip (inr (inl s)) = inl (inr (joined_spoilt (counter_key n w) e zip.1.0 s))
  spoilt_step (Some v) (Some w) gs (f ∷ e ∷ fs) zip (inr (inr s)) = inr (fs, zip.1.1, s)

module _ (schema : Schema) (t : ℕ) (old new : Option (List Value)) (told : Option Content) where
  abbrev all : List ℕ → List MovedGroup
  all numbers = flat_map (groups_at schema t old new) numbers

  spoilt_at : (damage : Damage) (numbers : List ℕ) (found : List (Option (List ℕ))) → AllByRecursion (IsCounterNumber schema) numbers → AllZip (IsValueOf told) (map asked_key (all numbers)) found → SpoilsFound (all numbers) found damage → SpoilsMoves schema t old new told damage
  spoilt_at damage [] found i zip h = absurd h
  spoilt_at damage (n ∷ ns) found i zip h =
      let m = move_in t old new (counter_numbered schema n) in
      let step = spoilt_step told damage n m.from m.to (all ns) found
      (subst (λ (gs : List MovedGroup). AllZip (IsValueOf told) (map asked_key gs) found) refl zip) h in
      elim step [
        | inl here ↦ (n, i.0, here)
        | inr later ↦ spoilt_at damage ns later.0 i.1 later.1 later.2
      ]

  pub groups_explain : (numbers : List ℕ) → AllByRecursion (IsCounterNumber schema) numbers → (a b : World) (error : Broke) → a.told ≡ told → Explains (SpoilsGroups (all numbers)) a b error → Explains (SpoilsMoves schema t old new) a b error
  groups_explain numbers i a b Failed is h = h
  groups_explain numbers i a b NoMem is h = tt
  groups_explain numbers i a b (Damaged damage) is h =
      let here = subst (λ (o : Option Content). SpoilsGroups (all numbers) o damage) is h in
      subst (λ (o : Option Content). SpoilsMoves schema t old new o damage) (sym is) (spoilt_at damage numbers here.0 i here.1 here.2)

-- ---- the changes of one counter

-- the key is there, and its group is full
abbrev FullKey : Content → Option (List ℕ) → Type 0
FullKey content None = ⊥
FullKey content (Some key) = IsCounted (get content key) most_count

module _ (content : Content) (schema : Schema) where
  abbrev Plans : List MovedGroup → List Change → List Change → Option Refusal → Type 0
  Plans gs before after full = PlansFound schema gs (map (value_in content) gs) before after full

  record Turned (n : ℕ) (from to : Option (List Value)) (gs : List MovedGroup) (before after : List Change) (full : Option Refusal) : Type 0 where
    pub left : List Change
    pub joined : List Change
    pub leaves : LeavesKey content (group_key n from) left
    pub joins : JoinsKey content (group_key n to) joined
    pub rest : Plans gs (before ++ (left ++ joined)) after full

  abbrev IsFullHere : ℕ → Option (List Value) → Option Refusal → Type 0
  IsFullHere n to full = (full ≡ Some (counter_full (counter_numbered schema n))) × FullKey content (group_key n to)

  abbrev pair_of : ℕ → Option (List Value) → Option (List Value) → List MovedGroup
  pair_of n from to = group_with false n (group_key n from) ++ group_with true n (group_key n to)

  turned_step : (n : ℕ) (from to : Option (List Value)) (gs : List MovedGroup) (before after : List Change) (full : Option Refusal) → Plans (pair_of n from to ++ gs) before after full → IsFullHere n to full ⊎ Turned n from to gs before after full
  turned_step n None None gs before after full h =
      inr (record { left = []; joined = []; leaves = refl; joins = refl; rest = subst (λ (l : List Change). Plans gs l after full) (sym (append-nil before)) h })
  turned_step n None (Some w) gs before after full (inl h) = inl (h.1, h.0.1)
  turned_step n None (Some w) gs before after full (inr h) =
      let turned = h.1 in
      inr (record { left = []; joined = h.0 ∷ []; leaves = refl; joins = (turned.0, turned.1, turned.2.0, ap (λ (x : Change). x ∷ []) turned.2.1); rest = h.2 })
  turned_step n (Some v) None gs before after full (inl h) = absurd (false≢true h.0.0)
  turned_step n (Some v) None gs before after full (inr h) =
      let turned = h.1 in
      inr (record { left = h.0 ∷ []; joined = []; leaves = (turned.0, turned.1, turned.2.0, turned.2.1, ap (λ (x : Change). x ∷ []) turned.2.2); joins = refl; rest = h.2 })
  turned_step n (Some v) (Some w) gs before after full (inl h) = absurd (false≢true h.0.0)
  turned_step n (Some v) (Some w) gs before after full (inr (change, turned, inl h)) = inl (h.1, h.0.1)
  turned_step n (Some v) (Some w) gs before after full (inr (change, turned, inr h)) =
      let next = h.1 in
      inr (record {
        left = change ∷ [];
        joined = h.0 ∷ [];
        leaves = (turned.0, turned.1, turned.2.0, turned.2.1, ap (λ (x : Change). x ∷ []) turned.2.2);
        joins = (next.0, next.1, next.2.0, ap (λ (x : Change). x ∷ []) next.2.1);
        rest = subst (λ (l : List Change). Plans gs l after full) (append_assoc before (change ∷ []) (h.0 ∷ [])) h.2;
      })

  module _ (t : ℕ) (old new : Option (List Value)) where
    abbrev of_numbers : List ℕ → List MovedGroup
    of_numbers numbers = flat_map (groups_at schema t old new) numbers

    abbrev counters : List ℕ → List NumberedCounter
    counters numbers = map (counter_numbered schema) numbers

    record HasCounts (numbers : List ℕ) (before after : List Change) : Type 0 where
      pub more : List Change
      pub counts : MovesCounts content (counters numbers) t old new more
      pub is : after ≡ before ++ more

    has_counts : (numbers : List ℕ) (before after : List Change) → Plans (of_numbers numbers) before after None → HasCounts numbers before after
    has_counts [] before after h = record { more = []; counts = refl; is = h.1 ∙ sym (append-nil before) }
    has_counts (n ∷ ns) before after h =
        let m = move_in t old new (counter_numbered schema n) in
        elim (turned_step n m.from m.to (of_numbers ns) before after None h) [
          | inl full ↦ absurd (none-some (counter_full (counter_numbered schema n)) full.0)
          | inr turned ↦
              let rest = has_counts ns (before ++ (turned.left ++ turned.joined)) after turned.rest in
              record {
                more = turned.left ++ turned.joined ++ rest.more;
                counts = (turned.left, turned.joined, rest.more, turned.leaves, turned.joins, rest.counts, refl);
                is = rest.is ∙ append_assoc before (turned.left ++ turned.joined) rest.more;
              }
        ]

    pub counted_changes : (numbers : List ℕ) (after : List Change) → Plans (of_numbers numbers) [] after None → MovesCounts content (counters numbers) t old new after
    counted_changes numbers after h =
        let has = has_counts numbers [] after h in
        subst (MovesCounts content (counters numbers) t old new) (sym has.is) has.counts

    -- ---- over rows that the content stands for

    module _ (rows : Rows) where
      abbrev Tells : ℕ → Type 0
      Tells n = TellsMove (Some content) (counter_numbered schema n) (move_in t old new (counter_numbered schema n)) rows

      left_is : (c : NumberedCounter) (from : Option (List Value)) (left : List Change) → TellsGroup (Some content) c from rows → LeavesKey content (group_key c.number from) left → left ≡ left_changes rows c from
      left_is c None left tells h = h
      left_is c (Some v) left tells h =
          h.4 ∙ ap (λ (k : ℕ). (counter_key c.number v, stored_count (k - 1)) ∷ []) (told_is (Some content) (counter_key c.number v) h.0 (tally rows c v) h.1 h.3 tells)

      record IsJoined (c : NumberedCounter) (to : Option (List Value)) (joined : List Change) : Type 0 where
        pub changes : joined ≡ joined_changes rows c to
        pub room : is_full_group rows c to ≡ false

      less_false : (n m : ℕ) → n < m → nat_le m n ≡ false
      less_false n m less =
          elim (nat_le m n) as (λ b. nat_le m n ≡ b → b ≡ false) [
            | true ↦ λ is. let most = leb-true m n is in absurd (omega (arith, most, less))
            | false ↦ λ _. refl
          ] refl

      joined_is : (c : NumberedCounter) (to : Option (List Value)) (joined : List Change) → TellsGroup (Some content) c to rows → JoinsKey content (group_key c.number to) joined → IsJoined c to joined
      joined_is c None joined tells h = record { changes = h; room = refl }
      joined_is c (Some v) joined tells h =
          let less = h.2 in
          let same = told_is (Some content) (counter_key c.number v) h.0 (tally rows c v) h.1 (omega (arith, less)) tells in
          record {
            changes = h.3 ∙ ap (λ (k : ℕ). (counter_key c.number v, stored_count (k + 1)) ∷ []) same;
            room = less_false (tally rows c v) most_count (omega (arith, less, same));
          }

      full_is : (c : NumberedCounter) (to : Option (List Value)) → TellsGroup (Some content) c to rows → FullKey content (group_key c.number to) → is_full_group rows c to ≡ true
      full_is c None tells h = absurd h
      full_is c (Some v) tells h =
          let same = told_is (Some content) (counter_key c.number v) most_count (tally rows c v) h (omega arith) tells in
          le-leb most_count (tally rows c v) (omega (arith, same))

      pub changed_rows : (numbers : List ℕ) (before after : List Change) → AllByRecursion Tells numbers → Plans (of_numbers numbers) before after None → (after ≡ before ++ moves_changes (counters numbers) rows t old new) × (first_full (counters numbers) rows t old new ≡ None)
      changed_rows [] before after tells h = (h.1 ∙ sym (append-nil before), refl)
      changed_rows (n ∷ ns) before after tells h =
          let c = counter_numbered schema n in
          let m = move_in t old new c in
          elim (turned_step n m.from m.to (of_numbers ns) before after None h) [
            | inl full ↦ absurd (none-some (counter_full c) full.0)
            | inr turned ↦
                let left = left_is c m.from turned.left tells.0.from turned.leaves in
                let joined = joined_is c m.to turned.joined tells.0.to turned.joins in
                let here : turned.left ++ turned.joined ≡ move_changes rows c m = ap (λ (l : List Change). l ++ turned.joined) left ∙ ap (λ (l : List Change). left_changes rows c m.from ++ l) joined.changes in
                let rest = changed_rows ns (before ++ (turned.left ++ turned.joined)) after tells.1 turned.rest in (
                  rest.0 ∙ append_assoc before (turned.left ++ turned.joined) (moves_changes (counters ns) rows t old new) ∙ ap (λ (l : List Change). before ++ (l ++ moves_changes (counters ns) rows t old new)) here,
                  ap (λ b. cond b (Some c) (find (lacks_count rows t old new) (counters ns))) joined.room ∙ rest.1,
                )
          ]

      pub refused_rows : (numbers : List ℕ) (before after : List Change) (why : Refusal) → AllByRecursion Tells numbers → Plans (of_numbers numbers) before after (Some why) → option_map counter_full (first_full (counters numbers) rows t old new) ≡ Some why
      refused_rows [] before after why tells h = absurd (none-some why (sym h.0))
      refused_rows (n ∷ ns) before after why tells h =
          let c = counter_numbered schema n in
          let m = move_in t old new c in
          elim (turned_step n m.from m.to (of_numbers ns) before after (Some why) h) [
            | inl full ↦ ap (λ b. option_map counter_full (cond b (Some c) (find (lacks_count rows t old new) (counters ns)))) (full_is c m.to tells.0.to full.1) ∙ sym full.0
            | inr turned ↦
                let joined = joined_is c m.to turned.joined tells.0.to turned.joins in
                ap (λ b. option_map counter_full (cond b (Some c) (find (lacks_count rows t old new) (counters ns)))) joined.room
                ∙ refused_rows ns (before ++ (turned.left ++ turned.joined)) after why tells.1 turned.rest
          ]

      pub planned_rows : (numbers : List ℕ) (planned : Planned) → AllByRecursion Tells numbers → PlansGroups schema (of_numbers numbers) (map (value_in content) (of_numbers numbers)) planned → PlansMoves (counters numbers) rows t old new planned
      planned_rows numbers (Changes changes) tells h = changed_rows numbers [] _ tells h
      planned_rows numbers (Refused why) tells h = refused_rows numbers [] h.0 why tells h.1

-- ---- the same where the content may be told

module _ (schema : Schema) (t : ℕ) (old new : Option (List Value)) (numbers : List ℕ) where
  abbrev moved_all : List MovedGroup
  moved_all = flat_map (groups_at schema t old new) numbers

  abbrev PlansTold : Option Content → Planned → Type 0
  PlansTold told planned = IfSome told (λ content. PlansGroups schema moved_all (map (value_in content) moved_all) planned)

  counted_in : (content : Content) (planned : Planned) → PlansGroups schema moved_all (map (value_in content) moved_all) planned → IfChanges (λ changes. MovesCounts content (map (counter_numbered schema) numbers) t old new (map change_of changes)) planned
  counted_in content (Changes changes) h = counted_changes content schema t old new numbers (map change_of changes) h
  counted_in content (Refused why) h = tt

  pub counted_told : (told : Option Content) (planned : Planned) → PlansTold told planned → IfSome told (λ content. IfChanges (λ changes. MovesCounts content (map (counter_numbered schema) numbers) t old new (map change_of changes)) planned)
  counted_told None planned h = tt
  counted_told (Some content) planned h = counted_in content planned h

  each_tells : (content : Content) (rows : Rows) (others : List Pair) (ns : List ℕ) → IsValid schema → HoldsCounted (Some content) schema rows others → AreOfTable schema.tables t old new → AllByRecursion (IsCounterNumber schema) ns
      → AllByRecursion (λ n. TellsMove (Some content) (counter_numbered schema n) (move_in t old new (counter_numbered schema n)) rows) ns
  each_tells content rows others [] v s is i = tt
  each_tells content rows others (n ∷ ns) v s is i =
      (tells_move (Some content) schema rows others t old new (counter_numbered schema n) v s (numbered_in schema n i.0) is, each_tells content rows others ns v s is i.1)

  pub planned_told : (told : Option Content) (planned : Planned) → IsValid schema → AllByRecursion (IsCounterNumber schema) numbers → PlansTold told planned → (rows : Rows) (others : List Pair) → HoldsCounted told schema rows others → AreOfTable schema.tables t old new
      → PlansMoves (map (counter_numbered schema) numbers) rows t old new planned
  planned_told None planned v i h rows others s is = absurd (none-some _ s.is)
  planned_told (Some content) planned v i h rows others s is = planned_rows content schema t old new rows numbers planned (each_tells content rows others numbers v s is i) h

-- ---- the first group and the value that is found for it

pub cut_first : {X : Type 0} (whole : List X) (first : X) → 1 ≤ length whole → first ≡ get_or whole 0 first → whole ≡ first ∷ take (length whole - 1) (drop 1 whole)
cut_first [] first some is = absurd (omega arith)
cut_first (x ∷ xs) first some is = ap (λ y. y ∷ xs) (sym is) ∙ ap (λ rest. first ∷ rest) (sym (take_all (length (x ∷ xs) - 1) xs (omega arith)))

module _ (schema : Schema) (groups gs : List MovedGroup) (g : MovedGroup) (found fs : List (Option (List ℕ))) (f : Option (List ℕ)) (first : groups ≡ g ∷ gs) where
  pub number_first : AllByRecursion (IsMovedGroup schema) groups → IsCounterNumber schema g.number
  number_first each = (subst (AllByRecursion (IsMovedGroup schema)) first each).0.number

  pub plans_full : found ≡ f ∷ fs → IsFull g f → (why : Refusal) → why ≡ counter_full (counter_numbered schema g.number) → (before : List Change) → PlansFound schema groups found before before (Some why)
  plans_full cut full why is before =
      subst (λ (l : List MovedGroup). PlansFound schema l found before before (Some why)) (sym first)
      (subst (λ (l : List (Option (List ℕ))). PlansFound schema (g ∷ gs) l before before (Some why)) (sym cut) (inl (full, ap (λ (x : Refusal). Some x) is)))
