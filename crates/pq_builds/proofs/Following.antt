-- One range of rows after the other.
use Rattle.std.proofs.Common.{◌≡◌, ℕ, zero, suc, ◌+◌, ◌-◌, ◌*◌, ◌/◌, ◌%◌, ◌≤◌, ◌<◌, true, min, List, [], ◌∷◌, ◌++◌, length, map, take, drop, get_or, Contains, Option, Some, None, refl, sym, ap, ◌∙◌, subst, arith, ◌⊎◌, inl, inr}
use Rattle.std.specs.Prelude.{IfSome, All}
use Rattle.std.proofs.lemmas.List.{length-take, length-drop, length-append, take_min, take_all, take-take, take-append-drop, drop-drop, drop-take, get_or-drop, length-map, take_more, get_or-map}
use Rattle.pq_store.specs.declared.damage.Broke.{Broke}
use Rattle.pq_store.specs.declared.damage.Broke.TheVariants.{Failed, NoMem, Damaged}
use Rattle.pq_store.specs.Breaks.{IfDamaged}
use Rattle.pq_store.specs.declared.store.Pair.{Pair as Stored}
use Rattle.pq_store.specs.Content.{entry, Content, is_within, pairs_within}
use Rattle.pq_base.specs.Shapes.{RowShape}
use Rattle.pq_content.specs.Pairs.{Pair, is_in_space}
use Rattle.pq_builds.specs.declared.target.Target.{Target}
use Rattle.pq_builds.specs.Filling.{target_shape, entered_rows, first_key, past_key, row_pairs_in, Enters, EntersSome, IsPast, Follows, IsNoRowAmong, IsMiscounted, ShowsRange}
use Rattle.pq_builds.proofs.Ranges.{after_some, range_space}
use Rattle.pq_builds.proofs.Entering.{enters_more, enters_then, some_front, some_back, some_more, range_entered}

-- ---- the first pairs of a list

-- as many as there are among the first n
taken_is : (n m : ℕ) (l : List Pair) → length (take n l) ≡ m → take m l ≡ take n l
taken_is n m l long =
    let same : min n (length l) ≡ m = sym (length-take n l) ∙ long in
    ap (λ (k : ℕ). take k l) (sym same) ∙ take_min n l

pub enough : (n m : ℕ) (l : List Pair) → length (take n l) ≡ m → m ≤ length l
enough n m l long = omega (arith, length-take n l)

-- the last one of a list
pub ends : (l : List Pair) → (l ≡ []) ⊎ ((front : List Pair) × (last : Pair) × (l ≡ front ++ last ∷ []))
ends [] = inl refl
ends (x ∷ l) = elim (ends l) [
  | inl none ↦ inr ([], x, ap (λ (k : List Pair). x ∷ k) none)
  | inr r ↦ inr (x ∷ r.0, r.1, ap (λ (k : List Pair). x ∷ k) r.2)
]

take-add : (m n : ℕ) (l : List Pair) → take (m + n) l ≡ take m l ++ take n (drop m l)
take-add m n l =
    let less : m ≤ m + n = omega arith in
    sym (take-append-drop m (take (m + n) l))
    ∙ (λ i. take-take m (m + n) l less i ++ drop-take m n l i)

-- ---- the key from which the next range comes

past_high : (t : ℕ) → is_in_space 2 (past_key t) ≡ true
past_high t = refl

pub next_space : (low : List ℕ) (t limit : ℕ) (found : List Pair) (next : List ℕ) → is_in_space 2 low ≡ true → All (λ pair. is_within low (past_key t) pair ≡ true) found → IsPast low found next → is_in_space 2 next ≡ true
next_space low t limit found next low_in within past =
    elim (ends found) [
      | inl none ↦ ap (is_in_space 2) (past.none none) ∙ low_in
      | inr r ↦
          let front = r.0 in
          let last = r.1 in
          let place : length front < length found = omega (arith, length-append front (last ∷ []), ap (λ (l : List Pair). length l) r.2) in
          let at : last ≡ get_or found (length front) last = sym (ap (λ (l : List Pair). get_or l (length front) last) r.2 ∙ at_end front last) in
          let own : is_in_space 2 last.0 ≡ true = range_space 2 low (past_key t) last.0 low_in (past_high t) (subst (λ (p : Pair). is_within low (past_key t) p ≡ true) (sym at) (within (length front) last place)) in
          ap (is_in_space 2) (past.last front last r.2) ∙ front_space last.0 own
    ]
  where
    at_end : (front : List Pair) (last : Pair) → get_or (front ++ last ∷ []) (length front) last ≡ last
    at_end [] last = refl
    at_end (f ∷ front) last = at_end front last

    front_space : (k : List ℕ) → is_in_space 2 k ≡ true → is_in_space 2 (k ++ 0 ∷ []) ≡ true
    front_space [] h = cc
    front_space (b ∷ k) h = h

-- ---- one range

pub follows_from : (target : Target) (low : List ℕ) (number : ℕ) (old mid now : Option Content) (found : List Pair) (next : List ℕ)
    → IfSome old (λ c. found ≡ take 256 (pairs_within c low (past_key target.table))) → mid ≡ old → length found ≡ number → IsPast low found next → IfSome mid (λ c. Enters target found c now)
    → IfSome old (λ c. Follows target low number c now next)
follows_from target low number None mid now found next answer same long past enters = tt
follows_from target low number (Some c) mid now found next answer same long past enters =
    let high = past_key target.table in
    let l = pairs_within c low high in
    let many : length (take 256 l) ≡ number = ap (λ (k : List Pair). length k) (sym answer) ∙ long in
    let first : take number l ≡ found = taken_is 256 number l many ∙ sym answer in
    let own : Enters target found c now = subst (λ (o : Option Content). IfSome o (λ c. Enters target found c now)) same enters in
    record {
      many = enough 256 number l many;
      enters = subst (λ (k : List Pair). Enters target k c now) (sym first) own;
      rest = elim (ends found) [
        | inl none ↦
            let zero_is : number ≡ 0 = sym long ∙ ap (λ (k : List Pair). length k) none in
            ap (λ (k : List ℕ). pairs_within c k high) (past.none none) ∙ ap (λ (k : ℕ). drop k l) (sym zero_is)
        | inr r ↦ ap (λ (k : List ℕ). pairs_within c k high) (past.last r.0 r.1 r.2) ∙ after_some c low high number r.0 r.1 (first ∙ r.2)
      ];
    }

pub stops_from : (target : Target) (low : List ℕ) (old mid now : Option Content) (found : List Pair)
    → IfSome old (λ c. found ≡ take 256 (pairs_within c low (past_key target.table))) → mid ≡ old → IfSome mid (λ c. EntersSome target found c now)
    → IfSome old (λ c. EntersSome target (pairs_within c low (past_key target.table)) c now)
stops_from target low None mid now found answer same some = tt
stops_from target low (Some c) mid now found answer same some =
    let l = pairs_within c low (past_key target.table) in
    let own : EntersSome target found c now = subst (λ (o : Option Content). IfSome o (λ c. EntersSome target found c now)) same some in
    let split : found ++ drop 256 l ≡ l = ap (λ (k : List Pair). k ++ drop 256 l) answer ∙ take-append-drop 256 l in
    subst (λ (k : List Pair). EntersSome target k c now) split (some_front target found (drop 256 l) c now own)

-- damage among the first pairs is damage among all
contains_front : (n : ℕ) (l : List Pair) (p : Pair) → Contains (take n l) p → Contains l p
contains_front zero l p (k, less, at) = absurd (omega arith)
contains_front (suc n) [] p (k, less, at) = absurd (omega arith)
contains_front (suc n) (x ∷ l) p (zero, less, at) = (0, omega arith, at)
contains_front (suc n) (x ∷ l) p (suc k, less, at) = let r = contains_front n l p (k, omega arith, at) in (suc r.0, (let low = r.1 in omega arith), r.2)

contains_behind : (n : ℕ) (l : List Pair) (p : Pair) → Contains (drop n l) p → Contains l p
contains_behind n l p (k, less, at) = (n + k, omega (arith, length-drop n l), sym (get_or-drop n l k p) ∙ at)

pub no_row_from : (shape : RowShape) (number t : ℕ) (low : List ℕ) (old : Option Content) (found : List Pair) (broke : Broke)
    → IfSome old (λ c. found ≡ take 256 (pairs_within c low (past_key t))) → IfDamaged (IsNoRowAmong shape found) broke
    → IfSome old (λ c. ShowsRange shape number (pairs_within c low (past_key t)) broke)
no_row_from shape number t low None found broke answer shows = tt
no_row_from shape number t low (Some c) found Failed answer shows = tt
no_row_from shape number t low (Some c) found NoMem answer shows = tt
no_row_from shape number t low (Some c) found (Damaged damage) answer shows =
    inr (record { pair = shows.pair; there = contains_front 256 (pairs_within c low (past_key t)) shows.pair (subst (λ (l : List Pair). Contains l shows.pair) answer shows.there); no_row = shows.no_row })

-- ---- one range after others

pub follows_more : (target : Target) (low : List ℕ) (m n : ℕ) (old mid now : Option Content) (next last : List ℕ) → is_in_space 2 next ≡ true → is_in_space 2 last ≡ true
    → IfSome old (λ c. Follows target low m c mid next) → IfSome mid (λ c. Follows target next n c now last) → IfSome old (λ c. Follows target low (m + n) c now last)
follows_more target low m n None mid now next last next_in last_in a b = tt
follows_more target low m n (Some c) mid now next last next_in last_in a b =
    let high = past_key target.table in
    let l = pairs_within c low high in
    let d = entered_rows target a.enters.rows c in
    let b' : Follows target next n d now last = subst (λ (o : Option Content). IfSome o (λ c. Follows target next n c now last)) a.enters.is b in
    let same : pairs_within d next high ≡ drop m l = range_entered target a.enters.rows c next high next_in refl ∙ a.rest in
    let first : Enters target (take m l) c (Some d) = record { rows = a.enters.rows; decoded = a.enters.decoded; is = refl } in
    let then : Enters target (take n (drop m l)) d now = subst (λ (k : List Pair). Enters target (take n k) d now) same b'.enters in
    let left : length (drop m l) ≡ length l - m = length-drop m l in
    let right : n ≤ length (drop m l) = subst (λ (k : List Pair). n ≤ length k) same b'.many in
    let front = a.many in
    record {
      many = omega arith;
      enters = subst (λ (k : List Pair). Enters target k c now) (sym (take-add m n l)) (enters_then target (take m l) (take n (drop m l)) c d now first then);
      rest = sym (range_entered target a.enters.rows c last high last_in refl) ∙ b'.rest ∙ ap (drop n) same ∙ drop-drop n m l;
    }

pub follows_stops : (target : Target) (low : List ℕ) (m : ℕ) (old mid now : Option Content) (next : List ℕ) → is_in_space 2 next ≡ true
    → IfSome old (λ c. Follows target low m c mid next) → IfSome mid (λ c. EntersSome target (pairs_within c next (past_key target.table)) c now) → IfSome old (λ c. EntersSome target (pairs_within c low (past_key target.table)) c now)
follows_stops target low m None mid now next next_in a b = tt
follows_stops target low m (Some c) mid now next next_in a b =
    let high = past_key target.table in
    let l = pairs_within c low high in
    let d = entered_rows target a.enters.rows c in
    let same : pairs_within d next high ≡ drop m l = range_entered target a.enters.rows c next high next_in refl ∙ a.rest in
    let first : Enters target (take m l) c (Some d) = record { rows = a.enters.rows; decoded = a.enters.decoded; is = refl } in
    let b' : EntersSome target (pairs_within d next high) d now = subst (λ (o : Option Content). IfSome o (λ c. EntersSome target (pairs_within c next high) c now)) a.enters.is b in
    subst (λ (k : List Pair). EntersSome target k c now) (take-append-drop m l)
    (some_back target (take m l) (drop m l) c d now first (subst (λ (k : List Pair). EntersSome target k d now) same b'))

-- where the rows were counted, no range has another number
pub follows_damage : (target : Target) (m number count : ℕ) (old mid : Option Content) (next : List ℕ) (broke : Broke) → is_in_space 2 next ≡ true
    → ((l : List Pair) → length l ≡ count → length (take 256 (drop m l)) ≡ number)
    → IfSome old (λ c. Follows target (first_key target.table) m c mid next) → IfSome mid (λ c. ShowsRange (target_shape target) number (pairs_within c next (past_key target.table)) broke)
    → IfSome old (λ c. length (row_pairs_in target.table c) ≡ count → IfDamaged (IsNoRowAmong (target_shape target) (row_pairs_in target.table c)) broke)
follows_damage target m number count None mid next broke next_in counted a b = tt
follows_damage target m number count (Some c) mid next Failed next_in counted a b = λ _. tt
follows_damage target m number count (Some c) mid next NoMem next_in counted a b = λ _. tt
follows_damage target m number count (Some c) mid next (Damaged damage) next_in counted a b = λ many.
    let high = past_key target.table in
    let l = row_pairs_in target.table c in
    let d = entered_rows target a.enters.rows c in
    let same : pairs_within d next high ≡ drop m l = range_entered target a.enters.rows c next high next_in refl ∙ a.rest in
    let b' : IsMiscounted number (pairs_within d next high) damage ⊎ IsNoRowAmong (target_shape target) (pairs_within d next high) damage = subst (λ (o : Option Content). IfSome o (λ c. ShowsRange (target_shape target) number (pairs_within c next high) (Damaged damage))) a.enters.is b in
    elim b' [
      | inl wrong ↦ absurd (wrong.other (ap (λ (k : List Pair). length (take 256 k)) same ∙ counted l many))
      | inr broken ↦ record { pair = broken.pair; there = contains_behind m l broken.pair (subst (λ (k : List Pair). Contains k broken.pair) same broken.there); no_row = broken.no_row }
    ]

-- at the end
pub follows_all : (target : Target) (n count : ℕ) (old now : Option Content) (next : List ℕ) → n ≡ count
    → IfSome old (λ c. Follows target (first_key target.table) n c now next) → IfSome old (λ c. length (row_pairs_in target.table c) ≡ count → Enters target (row_pairs_in target.table c) c now)
follows_all target n count None now next is a = tt
follows_all target n count (Some c) now next is a = λ many.
    let l = row_pairs_in target.table c in
    let all : take n l ≡ l = take_all n l (omega arith) in
    subst (λ (k : List Pair). Enters target k c now) all a.enters

-- ---- entries of some pairs, one after the other

take_next : (found : List Stored) (i : ℕ) (x : Stored) → i < length found → x ≡ get_or found i x → take (i + 1) (map entry found) ≡ take i (map entry found) ++ entry x ∷ []
take_next found i x within at =
    let long : length (map entry found) ≡ length found = length-map found entry in
    let less : i < length (map entry found) = omega arith in
    take_more (map entry found) i (entry x) less
    ∙ ap (λ (p : Pair). take i (map entry found) ++ p ∷ []) (get_or-map entry found i x (entry x) within ∙ ap entry (sym at))

pub entries_more : (target : Target) (found : List Stored) (i : ℕ) (x : Stored) (old mid now : Option Content) → i < length found → x ≡ get_or found i x
    → IfSome old (λ c. Enters target (take i (map entry found)) c mid) → IfSome mid (λ c. Enters target (entry x ∷ []) c now) → IfSome old (λ c. Enters target (take (i + 1) (map entry found)) c now)
entries_more target found i x old mid now within at a b =
    subst (λ (l : List Pair). IfSome old (λ c. Enters target l c now)) (sym (take_next found i x within at)) (enters_more target (take i (map entry found)) (entry x ∷ []) old mid now a b)

front_all : (target : Target) (n : ℕ) (ps : List Pair) (old now : Option Content) → IfSome old (λ c. EntersSome target (take n ps) c now) → IfSome old (λ c. EntersSome target ps c now)
front_all target n ps None now e = tt
front_all target n ps (Some c) now e = subst (λ (l : List Pair). EntersSome target l c now) (take-append-drop n ps) (some_front target (take n ps) (drop n ps) c now e)

pub entries_stop : (target : Target) (found : List Stored) (i : ℕ) (x : Stored) (old mid now : Option Content) → i < length found → x ≡ get_or found i x
    → IfSome old (λ c. Enters target (take i (map entry found)) c mid) → IfSome mid (λ c. EntersSome target (entry x ∷ []) c now) → IfSome old (λ c. EntersSome target (map entry found) c now)
entries_stop target found i x old mid now within at a b =
    front_all target (i + 1) (map entry found) old now
    (subst (λ (l : List Pair). IfSome old (λ c. EntersSome target l c now)) (sym (take_next found i x within at)) (some_more target (take i (map entry found)) (entry x ∷ []) old mid now a b))

-- ---- what a range answered, at the ends that it was asked for

pub answer_at : (old : Option Content) (found xs : List Pair) (a b low high : List ℕ) → a ≡ low → b ≡ high → xs ≡ found → IfSome old (λ c. found ≡ take 256 (pairs_within c a b)) → IfSome old (λ c. xs ≡ take 256 (pairs_within c low high))
answer_at None found xs a b low high low_is high_is same answer = tt
answer_at (Some c) found xs a b low high low_is high_is same answer = same ∙ answer ∙ (λ i. take 256 (pairs_within c (low_is i) (high_is i)))

pub part_at : (found xs : List Pair) (a b low high : List ℕ) → a ≡ low → b ≡ high → xs ≡ found → All (λ pair. is_within a b pair ≡ true) found → All (λ pair. is_within low high pair ≡ true) xs
part_at found xs a b low high low_is high_is same all =
    subst (λ (l : List ℕ). All (λ (pair : Pair). is_within l high pair ≡ true) xs) low_is
    (subst (λ (h : List ℕ). All (λ (pair : Pair). is_within a h pair ≡ true) xs) high_is
    (subst (λ (ps : List Pair). All (λ (pair : Pair). is_within a b pair ≡ true) ps) (sym same) all))

-- how many rows a range has, where so many were counted

pub counted_full : (full count : ℕ) → full < count / 256 → (l : List Pair) → length l ≡ count → length (take 256 (drop (256 * full) l)) ≡ 256
counted_full full count less l long = omega (arith, length-take 256 (drop (256 * full) l), length-drop (256 * full) l)

pub counted_last : (full count : ℕ) → full ≡ count / 256 → (l : List Pair) → length l ≡ count → length (take 256 (drop (256 * full) l)) ≡ count % 256
counted_last full count is l long = omega (arith, length-take 256 (drop (256 * full) l), length-drop (256 * full) l)

pub one_full : (full : ℕ) → 256 * full + 256 ≡ 256 * (full + 1)
one_full full = omega arith

pub all_full : (full count : ℕ) → full ≡ count / 256 → 256 * full + count % 256 ≡ count
all_full full count is = omega arith
