-- A change list that is read has the bytes that were read, and its bytes are read again.
use Rattle.std.proofs.Common.{◌≡◌, ℕ, zero, suc, ◌-◌, ◌+◌, ◌^◌, ◌≤◌, ◌<◌, false, cond, eqb, ltb, List, [], ◌∷◌, ◌++◌, length, take, drop, Option, Some, None, refl, sym, ap, subst, ◌∙◌, append_assoc, arith, inl, inr}
use Rattle.std.specs.Prelude.{Result, Ok, Err, IfOk, IfSome, IfNone}
use Rattle.std.specs.Int.{w16, w32, to_be_bytes}
use Rattle.std.specs.List.{flat_map, AllByRecursion}
use Rattle.std.proofs.lemmas.Bool.{eqb-true, ltb-false, le-ltb}
use Rattle.std.proofs.lemmas.List.Elements.{All-from_recursion, recursion_from_All}
use Rattle.std.proofs.lemmas.List.{append-nil, length-take, length-append, take-append-drop, take_at, drop_at, nil_from_length}
use Rattle.std.proofs.lemmas.Option.{same_Some}
use Rattle.pq_key_code.specs.KeyReading.{◌>>=◌}
use Rattle.pq_key_code.specs.KeyCode.{IsBytes}
use Rattle.pq_key_code.proofs.Reading.{IsBytes-drop, bind_some, chosen, none_some, guarded, Takes}
use Rattle.pq_row_code.proofs.Widths.{wide16, wide32, bits_takes, bits_again, Takes-then}
use Rattle.pq_row_code.specs.RowReading.{bits_at}
use Rattle.pq_row_code.specs.declared.changes.Change.{Change}
use Rattle.pq_row_code.specs.Changes.{sized_bytes, new_code, change_code, changes_code, IsChange, AreChanges}
use Rattle.pq_row_code.specs.ChangeReading.{sized_at, new_at, change_at, changes_at, list_at}

sized_parts : (bs : List ℕ) (k : ℕ) (after t rest : List ℕ) → Takes bs (to_be_bytes w32 k) after → k < 2 ^ 32 → k ≤ length after → ◌≡◌ {A = List ℕ × List ℕ} (take k after, drop k after) (t, rest) → Takes bs (sized_bytes t) rest × (length t < 2 ^ 32)
sized_parts bs k after t rest front lt long e =
    let len : k ≡ length (take k after) = omega (arith, length-take k after) in
    let second : Takes after (take k after) (drop k after) = record { parts = sym (take-append-drop k after); rest_fits = IsBytes-drop k after front.rest_fits } in
    let both = Takes-then bs (to_be_bytes w32 k) after (take k after) (drop k after) front second in
    let at : Takes bs (sized_bytes (take k after)) (drop k after) × (length (take k after) < 2 ^ 32) = (subst (λ (m : ℕ). Takes bs (to_be_bytes w32 m ++ take k after) (drop k after)) len both, omega arith) in
    subst (λ (x : List ℕ × List ℕ). Takes bs (sized_bytes x.0) x.1 × (length x.0 < 2 ^ 32)) e at

sized_take : (bs t rest : List ℕ) → IsBytes bs → sized_at bs ≡ Some (t, rest) → Takes bs (sized_bytes t) rest × (length t < 2 ^ 32)
unfolding sized_at
sized_take bs t rest f e =
    let k = bind_some (bits_at w32 bs) (λ k. cond (ltb (length k.1) k.0) None (Some (take k.0 k.1, drop k.0 k.1))) (t, rest) e in
    let b = bits_takes w32 (2 ^ 32) wide32 bs k.0.0 k.0.1 f k.1 in
    let g = guarded (ltb (length k.0.1) k.0.0) (take k.0.0 k.0.1, drop k.0.0 k.0.1) (t, rest) k.2 in
    sized_parts bs k.0.0 k.0.1 t rest b.0 b.1 (ltb-false _ _ g.0) g.1

sized_again : (t rest : List ℕ) → length t < 2 ^ 32 → sized_at (sized_bytes t ++ rest) ≡ Some (t, rest)
unfolding sized_at
sized_again t rest lt =
    let long : ltb (length (t ++ rest)) (length t) ≡ false = le-ltb _ _ (omega (arith, length-append t rest)) in
    ap sized_at (append_assoc (to_be_bytes w32 (length t)) t rest) ∙ rw (bits_again w32 (2 ^ 32) wide32 (length t) (t ++ rest) lt, long, take_at t rest (length t) refl, drop_at t rest (length t) refl) refl

new_take : (bs : List ℕ) (o : Option (List ℕ)) (rest : List ℕ) → IsBytes bs → new_at bs ≡ Some (o, rest) → Takes bs (new_code o) rest × IfSome o (λ v. length v < 2 ^ 32)
unfolding new_at
new_take [] o rest f e = none_some _ e
new_take (b ∷ bs) o rest f e =
    elim (chosen (eqb b 0) (Some (None, bs)) (cond (eqb b 1) (sized_at bs >>= λ x. Some (Some x.0, x.1)) None) (Some (o, rest)) e) [
      | inl h ↦ subst (λ (x : Option (List ℕ) × List ℕ). Takes (b ∷ bs) (new_code x.0) x.1 × IfSome x.0 (λ v. length v < 2 ^ 32)) (same_Some _ _ h.1) (record { parts = ap (λ (k : ℕ). k ∷ bs) (eqb-true _ _ h.0); rest_fits = f.1 }, tt)
      | inr h ↦ elim (chosen (eqb b 1) (sized_at bs >>= λ x. Some (Some x.0, x.1)) None (Some (o, rest)) h.1) [
        | inl k ↦
            let y = bind_some (sized_at bs) (λ x. Some (Some x.0, x.1)) (o, rest) k.1 in
            let t = sized_take bs y.0.0 y.0.1 f.1 y.1 in
            subst (λ (x : Option (List ℕ) × List ℕ). Takes (b ∷ bs) (new_code x.0) x.1 × IfSome x.0 (λ v. length v < 2 ^ 32)) (same_Some _ _ y.2)
            (record { parts = ap (λ (m : ℕ). m ∷ bs) (eqb-true _ _ k.0) ∙ ap (λ (r : List ℕ). 1 ∷ r) t.0.parts; rest_fits = t.0.rest_fits }, t.1)
        | inr k ↦ none_some _ k.1
      ]
    ]

new_again : (o : Option (List ℕ)) (rest : List ℕ) → IfSome o (λ v. length v < 2 ^ 32) → new_at (new_code o ++ rest) ≡ Some (o, rest)
unfolding new_at
new_again None rest h = refl
new_again (Some t) rest h = ap (λ (o : Option (List ℕ × List ℕ)). o >>= λ x. Some (Some x.0, x.1)) (sized_again t rest h)

change_take : (bs : List ℕ) (c : Change) (rest : List ℕ) → IsBytes bs → change_at bs ≡ Some (c, rest) → Takes bs (change_code c) rest × IsChange c
unfolding change_at
change_take bs c rest f e =
    let k = bind_some (sized_at bs) (λ k. new_at k.1 >>= λ n. Some (record { key = k.0; new = n.0 }, n.1)) (c, rest) e in
    let n = bind_some (new_at k.0.1) (λ n. Some (record { key = k.0.0; new = n.0 }, n.1)) (c, rest) k.2 in
    let t = sized_take bs k.0.0 k.0.1 f k.1 in
    let u = new_take k.0.1 n.0.0 n.0.1 t.0.rest_fits n.1 in
    let at : Takes bs (sized_bytes k.0.0 ++ new_code n.0.0) n.0.1 × IsChange (record { key = k.0.0; new = n.0.0 }) = (Takes-then bs (sized_bytes k.0.0) k.0.1 (new_code n.0.0) n.0.1 t.0 u.0, record { key = t.1; new = u.1 }) in
    subst (λ (x : Change × List ℕ). Takes bs (change_code x.0) x.1 × IsChange x.0) (same_Some _ _ n.2) at

change_again : (c : Change) (rest : List ℕ) → IsChange c → change_at (change_code c ++ rest) ≡ Some (c, rest)
unfolding change_at
change_again c rest h =
    ap change_at (append_assoc (sized_bytes c.key) (new_code c.new) rest)
    ∙ ap (λ (o : Option (List ℕ × List ℕ)). o >>= λ k. new_at k.1 >>= λ n. Some (record { key = k.0; new = n.0 }, n.1)) (sized_again c.key (new_code c.new ++ rest) h.key)
    ∙ ap (λ (o : Option (Option (List ℕ) × List ℕ)). o >>= λ n. Some (record { key = c.key; new = n.0 }, n.1)) (new_again c.new rest h.new)

changes_take : (n : ℕ) (bs : List ℕ) (cs : List Change) (rest : List ℕ) → IsBytes bs → changes_at n bs ≡ Some (cs, rest) → Takes bs (flat_map change_code cs) rest × (length cs ≡ n) × AllByRecursion IsChange cs
unfolding changes_at
changes_take zero bs cs rest f e = subst (λ (x : List Change × List ℕ). Takes bs (flat_map change_code x.0) x.1 × (length x.0 ≡ 0) × AllByRecursion IsChange x.0) (same_Some _ _ e) (record { parts = refl; rest_fits = f }, refl, tt)
changes_take (suc n) bs cs rest f e =
    let y = bind_some (change_at bs) (λ x. changes_at n x.1 >>= λ y. Some (x.0 ∷ y.0, y.1)) (cs, rest) e in
    let z = bind_some (changes_at n y.0.1) (λ z. Some (y.0.0 ∷ z.0, z.1)) (cs, rest) y.2 in
    let first = change_take bs y.0.0 y.0.1 f y.1 in
    let others = changes_take n y.0.1 z.0.0 z.0.1 first.0.rest_fits z.1 in
    let at : Takes bs (flat_map change_code (y.0.0 ∷ z.0.0)) z.0.1 × (length (y.0.0 ∷ z.0.0) ≡ suc n) × AllByRecursion IsChange (y.0.0 ∷ z.0.0) =
    (Takes-then bs (change_code y.0.0) y.0.1 (flat_map change_code z.0.0) z.0.1 first.0 others.0, ap suc others.1, (first.1, others.2)) in
    subst (λ (x : List Change × List ℕ). Takes bs (flat_map change_code x.0) x.1 × (length x.0 ≡ suc n) × AllByRecursion IsChange x.0) (same_Some _ _ z.2) at

changes_again : (cs : List Change) (rest : List ℕ) → AllByRecursion IsChange cs → changes_at (length cs) (flat_map change_code cs ++ rest) ≡ Some (cs, rest)
unfolding changes_at
changes_again [] rest h = refl
changes_again (c ∷ cs) rest h =
    ap (changes_at (suc (length cs))) (append_assoc (change_code c) (flat_map change_code cs) rest)
    ∙ ap (λ (o : Option (Change × List ℕ)). o >>= λ x. changes_at (length cs) x.1 >>= λ y. Some (x.0 ∷ y.0, y.1)) (change_again c (flat_map change_code cs ++ rest) h.0)
    ∙ ap (λ (o : Option (List Change × List ℕ)). o >>= λ y. Some (c ∷ y.0, y.1)) (changes_again cs rest h.1)

list_take : (bs : List ℕ) (cs : List Change) → IsBytes bs → list_at bs ≡ Some cs → AreChanges cs × (changes_code cs ≡ bs)
unfolding list_at
list_take bs cs f e =
    let k = bind_some (bits_at w16 bs) (λ n. changes_at n.0 n.1 >>= λ x. cond (eqb (length x.1) 0) (Some x.0) None) cs e in
    let y = bind_some (changes_at k.0.0 k.0.1) (λ x. cond (eqb (length x.1) 0) (Some x.0) None) cs k.2 in
    let b = bits_takes w16 (2 ^ 16) wide16 bs k.0.0 k.0.1 f k.1 in
    let t = changes_take k.0.0 k.0.1 y.0.0 y.0.1 b.0.rest_fits y.1 in
    elim (chosen (eqb (length y.0.1) 0) (Some y.0.0) None (Some cs) y.2) [
      | inl h ↦
          let nothing : y.0.1 ≡ [] = nil_from_length y.0.1 (eqb-true _ _ h.0) in
          let both = (Takes-then bs (to_be_bytes w16 k.0.0) k.0.1 (flat_map change_code y.0.0) y.0.1 b.0 t.0).parts in
          let whole : changes_code y.0.0 ≡ bs = sym (both ∙ ap (λ (r : List ℕ). (to_be_bytes w16 k.0.0 ++ flat_map change_code y.0.0) ++ r) nothing ∙ append-nil (to_be_bytes w16 k.0.0 ++ flat_map change_code y.0.0) ∙ ap (λ (n : ℕ). to_be_bytes w16 n ++ flat_map change_code y.0.0) (sym t.1)) in
          let few : length y.0.0 < 2 ^ 16 = rw t.1 b.1 in
          subst (λ (x : List Change). AreChanges x × (changes_code x ≡ bs)) (same_Some _ _ h.1) (record { few = few; each = All-from_recursion IsChange y.0.0 t.2 }, whole)
      | inr h ↦ none_some _ h.1
    ]

list_again : (cs : List Change) → AreChanges cs → list_at (changes_code cs) ≡ Some cs
unfolding list_at
list_again cs h =
    let read : changes_at (length cs) (flat_map change_code cs) ≡ Some (cs, []) = ap (changes_at (length cs)) (sym (append-nil (flat_map change_code cs))) ∙ changes_again cs [] (recursion_from_All IsChange cs h.each) in
    ap (λ (o : Option (ℕ × List ℕ)). o >>= λ n. changes_at n.0 n.1 >>= λ x. cond (eqb (length x.1) 0) (Some x.0) None) (bits_again w16 (2 ^ 16) wide16 (length cs) (flat_map change_code cs) h.few)
    ∙ ap (λ (o : Option (List Change × List ℕ)). o >>= λ x. cond (eqb (length x.1) 0) (Some x.0) None) read

pub is_found : {E : Type 0} (bs : List ℕ) (r : Result (Option (List Change)) E) → IsBytes bs → IfOk r (λ o. o ≡ list_at bs) → IfOk r (λ o. IfSome o (λ cs. AreChanges cs × (changes_code cs ≡ bs)))
is_found bs (Ok (Some cs)) f h = list_take bs cs f (sym h)
is_found bs (Ok None) f h = tt
is_found bs (Err e) f h = tt

pub is_none_left : {E : Type 0} (bs : List ℕ) (r : Result (Option (List Change)) E) → IfOk r (λ o. o ≡ list_at bs) → IfOk r (λ o. IfNone o ((cs : List Change) → AreChanges cs → changes_code cs ≡ bs → ⊥))
is_none_left bs (Ok (Some cs)) h = tt
is_none_left bs (Ok None) h = λ cs fits e. none_some cs (h ∙ ap list_at (sym e) ∙ list_again cs fits)
is_none_left bs (Err e) h = tt

-- ---- what callers build on

-- the bytes tell the change list
pub changes_code_injective : (cs ds : List Change) → AreChanges cs → AreChanges ds → changes_code cs ≡ changes_code ds → cs ≡ ds
changes_code_injective cs ds f g e = same_Some cs ds (sym (list_again cs f) ∙ ap list_at e ∙ list_again ds g)

-- ---- as the loop does it

abbrev pub list_behind : List Change → Option (List Change × List ℕ) → Option (List Change × List ℕ)
list_behind front read = read >>= λ x. Some (front ++ x.0, x.1)

regroup : (front : List Change) (x : Change) (read : Option (List Change × List ℕ)) → list_behind front (read >>= λ y. Some (x ∷ y.0, y.1)) ≡ list_behind (front ++ x ∷ []) read
regroup front x None = refl
regroup front x (Some y) = ap (λ (t : List Change). Some (t, y.1)) (simp append_assoc)

pub goes_on : (front new : List Change) (count i : ℕ) (bs : List ℕ) (x : Change) (after : List ℕ) (total : Option (List Change × List ℕ)) → i < count → change_at bs ≡ Some (x, after) → new ≡ front ++ x ∷ []
    → list_behind front (changes_at (count - i) bs) ≡ total → list_behind new (changes_at (count - (i + 1)) after) ≡ total
unfolding changes_at
goes_on front new count i bs x after total lt e put so_far =
    let k : count - i ≡ suc (count - (i + 1)) = omega arith in
    let one : changes_at (count - i) bs ≡ (changes_at (count - (i + 1)) after >>= λ y. Some (x ∷ y.0, y.1)) = rw (k, e) refl in
    ap (λ (f : List Change). list_behind f (changes_at (count - (i + 1)) after)) put ∙ sym (regroup front x (changes_at (count - (i + 1)) after)) ∙ ap (list_behind front) (sym one) ∙ so_far

pub stops : (front : List Change) (count i : ℕ) (bs : List ℕ) (total : Option (List Change × List ℕ)) → i < count → change_at bs ≡ None → list_behind front (changes_at (count - i) bs) ≡ total → None ≡ total
unfolding changes_at
stops front count i bs total lt e so_far =
    let k : count - i ≡ suc (count - (i + 1)) = omega arith in
    let one : changes_at (count - i) bs ≡ None = rw (k, e) refl in
    ap (list_behind front) (sym one) ∙ so_far

pub is_done : (front : List Change) (count i : ℕ) (bs : List ℕ) (total : Option (List Change × List ℕ)) → count ≤ i → list_behind front (changes_at (count - i) bs) ≡ total → Some (front, bs) ≡ total
unfolding changes_at
is_done front count i bs total le so_far =
    let k : count - i ≡ 0 = omega arith in
    let one : changes_at (count - i) bs ≡ Some ([], bs) = rw k refl in
    ap (λ (t : List Change). Some (t, bs)) (sym (append-nil front)) ∙ ap (list_behind front) (sym one) ∙ so_far
