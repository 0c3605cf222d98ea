-- Some of the changes, and one more.
use Rattle.std.proofs.Common.{◌≡◌, ℕ, zero, suc, ◌+◌, ◌<◌, List, [], ◌∷◌, ◌++◌, length, map, take, get_or, Option, Some, None, refl, sym, ap, ◌∙◌, arith, add-one, ◌⊎◌, inl, inr}
use Rattle.std.specs.Prelude.{Result, Ok, Err, OnErr}
use Rattle.std.specs.Option.{option_map}
use Rattle.pq_row_code.specs.declared.changes.Change.{Change as Coded}
use Rattle.pq_content.specs.Pairs.{Change, changed_content}
use Rattle.pq_store.specs.Content.{Content, written_content}
use Rattle.pq_content.specs.Standing.{change_of}
use Rattle.pq_intent.specs.Changing.{content_after, IsPartway, MayChange}

pub on_err_holds : {A E P : Type 0} (r : Result A E) → P → OnErr r P
on_err_holds (Ok _) p = tt
on_err_holds (Err _) p = p

pub after_none : (old : Option Content) → content_after [] old ≡ old
after_none None = refl
after_none (Some c) = refl

changed-append : (xs ys : List Change) (c : Content) → changed_content (xs ++ ys) c ≡ changed_content ys (changed_content xs c)
changed-append [] ys c = refl
changed-append (x ∷ xs) ys c = changed-append xs ys (written_content x.0 x.1 c)

pub after-append : (xs ys : List Change) (old : Option Content) → content_after (xs ++ ys) old ≡ content_after ys (content_after xs old)
after-append xs ys None = refl
after-append xs ys (Some c) = ap Some (changed-append xs ys c)

take_suc : (cs : List Coded) (i : ℕ) (x : Coded) → i < length cs → x ≡ get_or cs i x → take (suc i) (map change_of cs) ≡ take i (map change_of cs) ++ change_of x ∷ []
take_suc [] i x h e = absurd (omega arith)
take_suc (y ∷ cs) zero x h e = ap (λ (z : Coded). change_of z ∷ []) (sym e)
take_suc (y ∷ cs) (suc i) x h e = ap (λ (l : List Change). change_of y ∷ l) (take_suc cs i x (omega arith) e)

-- the changes up to the next one
pub after_more : (cs : List Coded) (i : ℕ) (x : Coded) (old : Option Content) → i < length cs → x ≡ get_or cs i x
    → content_after (take (i + 1) (map change_of cs)) old ≡ option_map (written_content x.key x.new) (content_after (take i (map change_of cs)) old)
after_more cs i x old h e = rw add-one (ap (λ (l : List Change). content_after l old) (take_suc cs i x h e) ∙ after-append (take i (map change_of cs)) (change_of x ∷ []) old)

pub made_more : (cs : List Coded) (i : ℕ) (x : Coded) (old mid new : Option Content) → i < length cs → x ≡ get_or cs i x
    → mid ≡ content_after (take i (map change_of cs)) old → new ≡ option_map (written_content x.key x.new) mid → new ≡ content_after (take (i + 1) (map change_of cs)) old
made_more cs i x old mid new h e m made = made ∙ ap (option_map (written_content x.key x.new)) m ∙ sym (after_more cs i x old h e)

-- the next one, made or not
pub partway_more : (cs : List Coded) (i : ℕ) (x : Coded) (old mid new : Option Content) → i < length cs → x ≡ get_or cs i x
    → mid ≡ content_after (take i (map change_of cs)) old → MayChange (change_of x) mid new → IsPartway (map change_of cs) old new
partway_more cs i x old mid new h e m (inl same) = record { made = i; is = same ∙ m }
partway_more cs i x old mid new h e m (inr made) = record { made = i + 1; is = made_more cs i x old mid new h e m made }

take_front : (m : ℕ) (xs ys : List Change) → (n : ℕ) × (take n (xs ++ ys) ≡ take m xs)
take_front zero xs ys = (0, refl)
take_front (suc m) [] ys = (0, refl)
take_front (suc m) (x ∷ xs) ys = let r = take_front m xs ys in (suc r.0, ap (λ (l : List Change). x ∷ l) r.1)

-- partway through the first of them
pub partway_front : (xs ys : List Change) (old new : Option Content) → IsPartway xs old new → IsPartway (xs ++ ys) old new
partway_front xs ys old new p =
    let t = take_front p.made xs ys in
    record { made = t.0; is = p.is ∙ ap (λ (l : List Change). content_after l old) (sym t.1) }

take_back : (m : ℕ) (xs ys : List Change) → (n : ℕ) × (take n (xs ++ ys) ≡ xs ++ take m ys)
take_back m [] ys = (m, refl)
take_back m (x ∷ xs) ys = let r = take_back m xs ys in (suc r.0, ap (λ (l : List Change). x ∷ l) r.1)

-- all of the first, and the last one, made or not
pub partway_last : (xs : List Change) (x : Change) (old mid new : Option Content) → mid ≡ content_after xs old → MayChange x mid new → IsPartway (xs ++ x ∷ []) old new
partway_last xs x old mid new m (inl same) =
    let t = take_back 0 xs (x ∷ []) in
    record { made = t.0; is = same ∙ m ∙ sym (after_none (content_after xs old)) ∙ sym (after-append xs [] old) ∙ ap (λ (l : List Change). content_after l old) (sym t.1) }
partway_last xs x old mid new m (inr made) =
    let t = take_back 1 xs (x ∷ []) in
    record { made = t.0; is = made ∙ ap (option_map (written_content x.0 x.1)) m ∙ sym (after-append xs (x ∷ []) old) ∙ ap (λ (l : List Change). content_after l old) (sym t.1) }

pub after_last : (xs : List Change) (x : Change) (old mid new : Option Content) → mid ≡ content_after xs old → new ≡ option_map (written_content x.0 x.1) mid → new ≡ content_after (xs ++ x ∷ []) old
after_last xs x old mid new m made = made ∙ ap (option_map (written_content x.0 x.1)) m ∙ sym (after-append xs (x ∷ []) old)

take_nil : (m : ℕ) → ◌≡◌ {A = List Change} (take m []) []
take_nil zero = refl
take_nil (suc m) = refl

-- some of the changes and the last one: some of them, or all
pub take_split : (m : ℕ) (xs : List Change) (y : Change) → ((n : ℕ) × (take m (xs ++ y ∷ []) ≡ take n xs)) ⊎ (take m (xs ++ y ∷ []) ≡ xs ++ y ∷ [])
take_split zero xs y = inl (0, refl)
take_split (suc m) [] y = inr (ap (λ (l : List Change). y ∷ l) (take_nil m))
take_split (suc m) (x ∷ xs) y =
    elim (take_split m xs y) as (λ _. ((n : ℕ) × (take (suc m) ((x ∷ xs) ++ y ∷ []) ≡ take n (x ∷ xs))) ⊎ (take (suc m) ((x ∷ xs) ++ y ∷ []) ≡ (x ∷ xs) ++ y ∷ [])) [
      | inl r ↦ inl (suc r.0, ap (λ (l : List Change). x ∷ l) r.1)
      | inr r ↦ inr (ap (λ (l : List Change). x ∷ l) r)
    ]
