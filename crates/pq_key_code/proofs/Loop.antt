-- Reading as the loops do it.
use Rattle.std.proofs.Common.{◌≡◌, ◌≢◌, ℕ, ◌+◌, ◌≤◌, ◌<◌, Bool, true, false, cond, List, [], ◌∷◌, ◌++◌, length, drop, get_or, Option, Some, None, refl, sym, ap, ◌∙◌, append_assoc, arith}
use Rattle.std.specs.Prelude.{Result, Ok, Err, IfOk, MatchOption}
use Rattle.std.specs.Str.{IsUtf8, is_utf8}
use Rattle.std.proofs.lemmas.Bool.{ne_eqb, le-ltb}
use Rattle.std.proofs.lemmas.List.{length-drop, drop_more, drop_all, append-nil}
use Rattle.std.proofs.lemmas.Str.{IsUtf8-from_is_utf8, is_utf8-from_IsUtf8}
use Rattle.pq_base.specs.declared.value.Dir.{Dir}
use Rattle.pq_base.specs.declared.value.ColType.{ColType}
use Rattle.pq_base.specs.declared.value.Value.{Value}
use Rattle.pq_key_code.specs.KeyCode.{turned_byte}
use Rattle.pq_key_code.specs.KeyReading.{◌>>=◌, value_behind, text_within, text_value_at, component_at, row_key_at}

-- ---- texts

pub checked_ok : (n : ℕ) (t : List ℕ) → length t ≤ n → IsUtf8 t → text_within n t ≡ Some t
checked_ok n t le u = rw (le-ltb n (length t) le, is_utf8-from_IsUtf8 t u) refl

none_or : (b : Bool) (t : List ℕ) → (b ≡ true → ⊥) → cond b (Some t) None ≡ None
none_or true t h = absurd (h refl)
none_or false t h = refl

pub checked_err : (n : ℕ) (t : List ℕ) → length t ≤ n → (IsUtf8 t → ⊥) → text_within n t ≡ None
checked_err n t le u = rw (le-ltb n (length t) le) (none_or (is_utf8 t) t (λ e. u (IsUtf8-from_is_utf8 t e)))

pub checked_answer : {E : Type 0} (n : ℕ) (bs : List ℕ) (r : Result (Option (List ℕ)) E) → length bs ≤ n → IfOk r (λ o. MatchOption o (IsUtf8 bs → ⊥) (λ t. IsUtf8 bs × (t ≡ bs))) → IfOk r (λ o. o ≡ text_within n bs)
checked_answer n bs (Ok None) le h = sym (checked_err n bs le h)
checked_answer n bs (Ok (Some t)) le h = ap Some h.1 ∙ sym (checked_ok n bs le h.0)
checked_answer n bs (Err e) le h = tt

pub gathered_answer : (n : ℕ) (bs : List ℕ) (o : Option (List ℕ)) → length bs ≤ n → MatchOption o (IsUtf8 bs → ⊥) (λ t. IsUtf8 bs × (t ≡ bs)) → o ≡ text_within n bs
gathered_answer n bs None le h = sym (checked_err n bs le h)
gathered_answer n bs (Some t) le h = ap Some h.1 ∙ sym (checked_ok n bs le h.0)

-- what was read before, and what is still read
abbrev pub texts_behind : List ℕ → Option (List ℕ × List ℕ) → Option (List ℕ × List ℕ)
texts_behind front read = read >>= λ x. Some (front ++ x.0, x.1)

regroup : (front : List ℕ) (b : ℕ) (read : Option (List ℕ × List ℕ)) → texts_behind front (value_behind b read) ≡ texts_behind (front ++ b ∷ []) read
regroup front b None = refl
regroup front b (Some x) = ap (λ (t : List ℕ). Some (t, x.1)) (simp append_assoc)

-- the two bytes at a place
two_at' : (bs : List ℕ) (i : ℕ) → i + 1 < length bs → drop (i + 1) bs ≡ get_or bs (i + 1) 0 ∷ drop (i + 2) bs
two_at' bs i lt = drop_more bs (i + 1) 0 lt ∙ ap (λ (k : ℕ). get_or bs (i + 1) 0 ∷ drop k bs) (omega arith)

pub two_at : (bs : List ℕ) (i : ℕ) → i + 1 < length bs → drop i bs ≡ get_or bs i 0 ∷ get_or bs (i + 1) 0 ∷ drop (i + 2) bs
two_at bs i lt = drop_more bs i 0 (omega arith) ∙ ap (λ (t : List ℕ). get_or bs i 0 ∷ t) (two_at' bs i lt)

pub plain_byte : (d : Dir) (front new bs : List ℕ) (i b : ℕ) (total : Option (List ℕ × List ℕ)) → i + 1 < length bs → b ≡ turned_byte d (get_or bs i 0) → b ≢ 0 → new ≡ front ++ b ∷ []
    → texts_behind front (text_value_at d (drop i bs)) ≡ total → texts_behind new (text_value_at d (drop (i + 1) bs)) ≡ total
unfolding text_value_at
plain_byte d front new bs i b total lt is ne put so_far =
    let one : text_value_at d (drop i bs) ≡ value_behind b (text_value_at d (drop (i + 1) bs)) = rw (two_at bs i lt, ← is, ne_eqb b 0 ne) (ap (λ (t : List ℕ). value_behind b (text_value_at d t)) (sym (two_at' bs i lt))) in
    ap (λ (f : List ℕ). texts_behind f (text_value_at d (drop (i + 1) bs))) put ∙ sym (regroup front b (text_value_at d (drop (i + 1) bs))) ∙ ap (texts_behind front) (sym one) ∙ so_far

pub zero_byte : (d : Dir) (front new bs : List ℕ) (i b c : ℕ) (total : Option (List ℕ × List ℕ)) → i + 1 < length bs → b ≡ turned_byte d (get_or bs i 0) → b ≡ 0 → c ≡ turned_byte d (get_or bs (i + 1) 0) → c ≡ 255 → new ≡ front ++ 0 ∷ []
    → texts_behind front (text_value_at d (drop i bs)) ≡ total → texts_behind new (text_value_at d (drop (i + 2) bs)) ≡ total
unfolding text_value_at
zero_byte d front new bs i b c total lt b-is e c-is f put so_far =
    let one : text_value_at d (drop i bs) ≡ value_behind 0 (text_value_at d (drop (i + 2) bs)) = rw (two_at bs i lt, sym b-is ∙ e, sym c-is ∙ f) refl in
    ap (λ (f : List ℕ). texts_behind f (text_value_at d (drop (i + 2) bs))) put ∙ sym (regroup front 0 (text_value_at d (drop (i + 2) bs))) ∙ ap (texts_behind front) (sym one) ∙ so_far

short_none : (d : Dir) (bs : List ℕ) → length bs ≤ 1 → text_value_at d bs ≡ None
unfolding text_value_at
short_none d [] le = refl
short_none d (b ∷ []) le = refl
short_none d (b ∷ c ∷ bs) le = absurd (omega arith)

pub text_short : (d : Dir) (front bs : List ℕ) (i : ℕ) (total : Option (List ℕ × List ℕ)) → length bs ≤ i + 1 → texts_behind front (text_value_at d (drop i bs)) ≡ total → None ≡ total
text_short d front bs i total le so_far =
    ap (texts_behind front) (sym (short_none d (drop i bs) (omega (arith, length-drop i bs)))) ∙ so_far

-- ---- rows

abbrev pub rows_behind : List Value → Option (List Value × List ℕ) → Option (List Value × List ℕ)
rows_behind front read = read >>= λ x. Some (front ++ x.0, x.1)

pub rows_regroup : (front : List Value) (x : Value) (read : Option (List Value × List ℕ)) → rows_behind front (read >>= λ y. Some (x ∷ y.0, y.1)) ≡ rows_behind (front ++ x ∷ []) read
rows_regroup front x None = refl
rows_regroup front x (Some y) = ap (λ (t : List Value). Some (t, y.1)) (simp append_assoc)

pub row_more : (front new : List Value) (ts : List ColType) (ds : List Dir) (i : ℕ) (t : ColType) (d : Dir) (bs : List ℕ) (x : Value) (after : List ℕ) (total : Option (List Value × List ℕ)) → i < length ts → i < length ds
    → component_at (get_or ts i t) (get_or ds i d) bs ≡ Some (x, after) → new ≡ front ++ x ∷ []
    → rows_behind front (row_key_at (drop i ts) (drop i ds) bs) ≡ total → rows_behind new (row_key_at (drop (i + 1) ts) (drop (i + 1) ds) after) ≡ total
unfolding row_key_at
row_more front new ts ds i t d bs x after total lt ld e put so_far =
    let one : row_key_at (drop i ts) (drop i ds) bs ≡ (row_key_at (drop (i + 1) ts) (drop (i + 1) ds) after >>= λ y. Some (x ∷ y.0, y.1)) = rw (drop_more ts i t lt, drop_more ds i d ld, e) refl in
    ap (λ (f : List Value). rows_behind f (row_key_at (drop (i + 1) ts) (drop (i + 1) ds) after)) put ∙ sym (rows_regroup front x (row_key_at (drop (i + 1) ts) (drop (i + 1) ds) after)) ∙ ap (rows_behind front) (sym one) ∙ so_far

pub row_stop : (front : List Value) (ts : List ColType) (ds : List Dir) (i : ℕ) (t : ColType) (d : Dir) (bs : List ℕ) (total : Option (List Value × List ℕ)) → i < length ts → i < length ds
    → component_at (get_or ts i t) (get_or ds i d) bs ≡ None
    → rows_behind front (row_key_at (drop i ts) (drop i ds) bs) ≡ total → None ≡ total
unfolding row_key_at
row_stop front ts ds i t d bs total lt ld e so_far =
    let one : row_key_at (drop i ts) (drop i ds) bs ≡ None = rw (drop_more ts i t lt, drop_more ds i d ld, e) refl in
    ap (rows_behind front) (sym one) ∙ so_far

pub row_end : (front : List Value) (ts : List ColType) (ds : List Dir) (i : ℕ) (bs : List ℕ) (total : Option (List Value × List ℕ)) → length ts ≤ i
    → rows_behind front (row_key_at (drop i ts) (drop i ds) bs) ≡ total → Some (front, bs) ≡ total
unfolding row_key_at
row_end front ts ds i bs total le so_far =
    let one : row_key_at (drop i ts) (drop i ds) bs ≡ Some ([], bs) = rw (drop_all i ts le) refl in
    ap (λ (t : List Value). Some (t, bs)) (sym (append-nil front)) ∙ ap (rows_behind front) (sym one) ∙ so_far
