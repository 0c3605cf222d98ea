-- Writes that are dealt in turn.
use Rattle.std.proofs.Common.{◌≡◌, ℕ, zero, suc, ◌+◌, ◌-◌, ◌*◌, ◌^◌, ◌≤◌, ◌<◌, ◌==◌, ltb, Bool, true, false, cond, List, [], ◌∷◌, ◌++◌, map, length, get_or, set, All, refl, sym, ap, ap₂, ◌∙◌, arith, append_assoc, append-nil}
use Rattle.std.proofs.lemmas.List.{length-map, get_or-map}
use Rattle.std.proofs.lemmas.List.FromFn.{length-range_with_len, get_or-range_with_len}
use Rattle.std.proofs.lemmas.List.Sums.{sum_by-cons}
use Rattle.std.proofs.lemmas.Bool.{eq-eqb, ne_eqb, eqb-false, ltb-true, ltb-false}
use Rattle.std.proofs.Math.Nat.{mul-le-mul_left, mul-le-mul_right}
use Rattle.std.specs.List.{AllByRecursion, range_with_len, sum_by, IsDistinct}
use Rattle.pq_schema.specs.declared.table.Table.{Table}
use Rattle.pq_index_keep.specs.declared.write.Write.{Write}
use Rattle.pq_index_keep.specs.Sound.{IsWrite}
use Rattle.pq_index_keep.proofs.Inserting.{each_is, each_by}
use Rattle.pq_clients.specs.Clients.{View, new_view}
use Rattle.pq_clients.specs.Promises.{IsFresh, AreFresh, calls_of_write}
use Rattle.pq_clients.specs.Promised.{calls_of_client}
use Rattle.pq_clients.specs.Stepping.{IsClient}
use Rattle.pq_client_shell.specs.Dealing.{following, picked, hands, seated, dealt}

-- ---- one write more

-- the place behind writes that are dealt from a place on
abbrev pub behind : ℕ → ℕ → List Write → ℕ
behind k next [] = next
behind k next (w ∷ ws) = behind k (following k next) ws

pub behind_more : (k next : ℕ) (ws : List Write) (w : Write) → behind k next (ws ++ w ∷ []) ≡ following k (behind k next ws)
behind_more k next [] w = refl
behind_more k next (x ∷ xs) w = behind_more k (following k next) xs w

picked_more : (k next place : ℕ) (ws : List Write) (w : Write) → picked k next place (ws ++ w ∷ []) ≡ picked k next place ws ++ cond (behind k next ws == place) (w ∷ []) []
picked_more k next place [] w = append-nil (cond (next == place) (w ∷ []) [])
picked_more k next place (x ∷ xs) w =
    ap (λ ys. cond (next == place) (x ∷ []) [] ++ ys) (picked_more k (following k next) place xs w)
    ∙ sym (append_assoc (cond (next == place) (x ∷ []) []) (picked k (following k next) place xs) (cond (behind k (following k next) xs == place) (w ∷ []) []))

module _ {A : Type 0} (f g : ℕ → A) where
  map_same : (s n : ℕ) → ((p : ℕ) → s ≤ p → g p ≡ f p) → map g (range_with_len s n) ≡ map f (range_with_len s n)
  map_same s zero same = refl
  map_same s (suc n) same = ap₂ (λ x xs. x ∷ xs) (same s (omega arith)) (map_same (s + 1) n (λ p le. same p (omega (arith, le))))

  -- two functions that agree but at one place
  map_but : (s n i : ℕ) (x : A) → i < n → x ≡ g (s + i) → ((p : ℕ) → (p ≡ s + i → ⊥) → g p ≡ f p) → map g (range_with_len s n) ≡ set (map f (range_with_len s n)) i x
  map_but s zero i x short is same = absurd (omega (arith, short))
  map_but s (suc n) zero x short is same =
      ap₂ (λ y ys. y ∷ ys) (ap g (omega arith) ∙ sym is) (map_same (s + 1) n (λ p le. same p (λ e. omega (arith, le, e))))
  map_but s (suc n) (suc i) x short is same =
      ap₂ (λ y ys. y ∷ ys) (same s (λ e. omega (arith, e)))
      (map_but (s + 1) n i x (omega (arith, short)) (is ∙ ap g (omega arith)) (λ p other. same p (λ e. other (omega (arith, e)))))

cond_same : {A : Type 0} (b : Bool) (x y : A) → b ≡ true → cond b x y ≡ x
cond_same true x y e = refl
cond_same false x y e = absurd (cc)

cond_other : {A : Type 0} (b : Bool) (x y : A) → b ≡ false → cond b x y ≡ y
cond_other true x y e = absurd (cc)
cond_other false x y e = refl

-- one write more is dealt to the hand at the place behind those before it
pub hands_more : (k : ℕ) (ws : List Write) (w : Write) (next : ℕ) (hand : List Write) → next ≡ behind k 0 ws → next < k → hand ≡ picked k 0 next ws ++ w ∷ [] → hands k (ws ++ w ∷ []) ≡ set (hands k ws) next hand
hands_more k ws w next hand is short hand_is =
    let z : 0 + next ≡ next = omega arith in
    map_but (λ p. picked k 0 p ws) (λ p. picked k 0 p (ws ++ w ∷ [])) 0 k next hand short
    (hand_is ∙ sym (picked_more k 0 next ws w ∙ ap (λ ys. picked k 0 next ws ++ ys) (cond_same (behind k 0 ws == next) (w ∷ []) [] (eq-eqb (behind k 0 ws) next (sym is)))) ∙ ap (λ p. picked k 0 p (ws ++ w ∷ [])) (sym z))
    (λ p other. picked_more k 0 p ws w ∙ ap (λ ys. picked k 0 p ws ++ ys) (cond_other (behind k 0 ws == p) (w ∷ []) [] (ne_eqb (behind k 0 ws) p (λ e. other (sym e ∙ sym is ∙ sym z)))) ∙ append-nil (picked k 0 p ws))

-- the hand at a place
pub hand_at : (k : ℕ) (ws : List Write) (next : ℕ) (d : List Write) → next < k → get_or (hands k ws) next d ≡ picked k 0 next ws
hand_at k ws next d short =
    get_or-map (λ p. picked k 0 p ws) (range_with_len 0 k) next 0 d (omega (arith, short, length-range_with_len 0 k)) ∙ ap (λ p. picked k 0 p ws) (let z : 0 + next ≡ next = omega arith in get_or-range_with_len 0 k next 0 short ∙ z)

pub hands_length : (k : ℕ) (ws : List Write) → length (hands k ws) ≡ k
hands_length k ws = length-map (range_with_len 0 k) (λ p. picked k 0 p ws) ∙ length-range_with_len 0 k

abbrev no_writes : List Write
no_writes = []

empty_from : (s k : ℕ) → map (λ (p : ℕ). no_writes) (range_with_len s (k + 1)) ≡ map (λ (p : ℕ). no_writes) (range_with_len s k) ++ no_writes ∷ []
empty_from s zero = refl
empty_from s (suc k) =
    let e : suc k + 1 ≡ suc (k + 1) = omega arith in
    ap (λ n. map (λ (p : ℕ). no_writes) (range_with_len s n)) e ∙ ap (λ (xs : List (List Write)). no_writes ∷ xs) (empty_from (s + 1) k)

-- one hand more without a write
pub empty_more : (k : ℕ) → hands (k + 1) [] ≡ hands k [] ++ [] ∷ []
empty_more k = empty_from 0 k

-- ---- what hands have

picked_few : (k next place : ℕ) (ws : List Write) → length (picked k next place ws) ≤ length ws
picked_few k next place [] = omega arith
picked_few k next place (w ∷ ws) = by (next == place) (picked_few k (following k next) place ws)
  where
    by : (b : Bool) → length (picked k (following k next) place ws) ≤ length ws → length (cond b (w ∷ []) [] ++ picked k (following k next) place ws) ≤ length (w ∷ ws)
    by true few = omega (arith, few)
    by false few = omega (arith, few)

picked_all : (P : Write → Type 0) (k next place : ℕ) (ws : List Write) → AllByRecursion P ws → AllByRecursion P (picked k next place ws)
picked_all P k next place [] all = tt
picked_all P k next place (w ∷ ws) all = by (next == place) (picked_all P k (following k next) place ws all.1)
  where
    by : (b : Bool) → AllByRecursion P (picked k (following k next) place ws) → AllByRecursion P (cond b (w ∷ []) [] ++ picked k (following k next) place ws)
    by true rest = (all.0, rest)
    by false rest = rest

map_all : {A : Type 0} (Q : A → Type 0) (f : ℕ → A) (ns : List ℕ) → ((p : ℕ) → Q (f p)) → AllByRecursion Q (map f ns)
map_all Q f [] all = tt
map_all Q f (n ∷ ns) all = (all n, map_all Q f ns all)

pub hands_few : (k : ℕ) (ws : List Write) (most : ℕ) → length ws ≤ most → AllByRecursion (λ (hand : List Write). length hand ≤ most) (hands k ws)
hands_few k ws most few = map_all (λ (hand : List Write). length hand ≤ most) (λ p. picked k 0 p ws) (range_with_len 0 k) (λ p. omega (arith, few, picked_few k 0 p ws))

pub hands_small : (k : ℕ) (ws : List Write) (most : ℕ) → length ws < most → AllByRecursion (λ (hand : List Write). length hand < most) (hands k ws)
hands_small k ws most few = map_all (λ (hand : List Write). length hand < most) (λ p. picked k 0 p ws) (range_with_len 0 k) (λ p. omega (arith, few, picked_few k 0 p ws))

pub hands_all : (P : Write → Type 0) (k : ℕ) (ws : List Write) → AllByRecursion P ws → AllByRecursion (λ (hand : List Write). AllByRecursion P hand) (hands k ws)
hands_all P k ws all = map_all (λ (hand : List Write). AllByRecursion P hand) (λ p. picked k 0 p ws) (range_with_len 0 k) (λ p. picked_all P k 0 p ws all)

-- ---- clients with hands

pub seated_more : (n : ℕ) (hs : List (List Write)) (h : List Write) → seated n (hs ++ h ∷ []) ≡ seated n hs ++ new_view (n + length hs) h ∷ []
seated_more n [] h = ap (λ m. new_view m h ∷ []) (omega arith)
seated_more n (x ∷ hs) h = ap (λ vs. new_view n x ∷ vs) (seated_more (n + 1) hs h ∙ ap (λ m. seated (n + 1) hs ++ new_view m h ∷ []) (omega arith))

pub seated_length : (n : ℕ) (hs : List (List Write)) → length (seated n hs) ≡ length hs
seated_length n [] = refl
seated_length n (h ∷ hs) = ap suc (seated_length (n + 1) hs)

module _ (tables : List Table) where
  fresh : (n : ℕ) (hs : List (List Write)) → 1 ≤ n → n + length hs < 2 ^ 32 → AllByRecursion (λ (hand : List Write). AllByRecursion (IsWrite tables) hand) hs → AllByRecursion (IsFresh tables) (seated n hs)
  fresh n [] one small all = tt
  fresh n (h ∷ hs) one small all = (
    record { fresh = refl; from_one = one; small = omega (arith, small); writes = each_is (IsWrite tables) h all.0 },
    fresh (n + 1) hs (omega arith) (omega (arith, small)) all.1,
  )

  clients : (n : ℕ) (hs : List (List Write)) → AllByRecursion (λ (hand : List Write). length hand < 2 ^ 32) hs → AllByRecursion (λ (hand : List Write). AllByRecursion (IsWrite tables) hand) hs → AllByRecursion (IsClient tables) (seated n hs)
  clients n [] few all = tt
  clients n (h ∷ hs) few all = (
    record { writes = each_is (IsWrite tables) h all.0; few = few.0; from_one = omega arith; next = tt },
    clients (n + 1) hs few.1 all.1,
  )

  pub calls : (n r : ℕ) (hs : List (List Write)) → AllByRecursion (λ (hand : List Write). sum_by (calls_of_write tables) hand ≤ r) hs → AllByRecursion (λ v. calls_of_client tables v ≤ r) (seated n hs)
  calls n r [] all = tt
  calls n r (h ∷ hs) all = (all.0, calls (n + 1) r hs all.1)

apart : (n m : ℕ) (hs : List (List Write)) → n < m → AllByRecursion (λ y. (n == y) ≡ false) (map (λ (v : View). v.number) (seated m hs))
apart n m [] less = tt
apart n m (h ∷ hs) less = (ne_eqb n m (λ e. omega (arith, less, e)), apart n (m + 1) hs (omega (arith, less)))

differ : (n : ℕ) (hs : List (List Write)) → IsDistinct ◌==◌ (map (λ (v : View). v.number) (seated n hs))
unfolding IsDistinct
differ n [] = tt
differ n (h ∷ hs) = (apart n (n + 1) hs (omega arith), differ (n + 1) hs)

writes_few : (n most : ℕ) (hs : List (List Write)) → AllByRecursion (λ (hand : List Write). length hand ≤ most) hs → sum_by (λ (v : View). length v.writes) (seated n hs) ≤ length hs * most
writes_few n most [] all = omega arith
writes_few n most (h ∷ hs) all =
    let rest = writes_few (n + 1) most hs all.1 in
    omega (arith, all.0, rest, sum_by-cons (λ (v : View). length v.writes) (new_view n h) (seated (n + 1) hs))

sixteen : (k n : ℕ) → k ≤ 16 → n ≤ 2 ^ 24 → k * n < 2 ^ 32
sixteen k n few short = omega (arith, few, short, mul-le-mul_right (2 ^ 24) few, mul-le-mul_left k short)

-- clients to whom writes are dealt have taken no step, with different numbers
pub dealt_fresh : (tables : List Table) (k : ℕ) (ws : List Write) → k ≤ 16 → length ws ≤ 2 ^ 24 → All (IsWrite tables) ws → AreFresh tables (dealt k ws)
unfolding dealt
dealt_fresh tables k ws few short all =
    let long = hands_length k ws in
    let most = writes_few 1 (length ws) (hands k ws) (hands_few k ws (length ws) (omega arith)) in
    let product : length (hands k ws) * length ws < 2 ^ 32 = sixteen (length (hands k ws)) (length ws) (omega (arith, few, long)) short in
    record {
      each = each_is (IsFresh tables) (seated 1 (hands k ws)) (fresh tables 1 (hands k ws) (omega arith) (omega (arith, few, long)) (hands_all (IsWrite tables) k ws (each_by (IsWrite tables) ws all)));
      differ = differ 1 (hands k ws);
      few = omega (arith, most, product);
    }

pub dealt_few : (k : ℕ) (ws : List Write) → k ≤ 16 → length ws ≤ 2 ^ 24 → sum_by (λ (v : View). length v.writes) (seated 1 (hands k ws)) < 2 ^ 32
dealt_few k ws few short =
    let long = hands_length k ws in
    let most = writes_few 1 (length ws) (hands k ws) (hands_few k ws (length ws) (omega arith)) in
    omega (arith, most, sixteen (length (hands k ws)) (length ws) (omega (arith, few, long)) short)

pub dealt_clients : (tables : List Table) (k : ℕ) (ws : List Write) → length ws ≤ 2 ^ 24 → All (IsWrite tables) ws → AllByRecursion (IsClient tables) (seated 1 (hands k ws))
dealt_clients tables k ws short all =
    clients tables 1 (hands k ws) (hands_small k ws (2 ^ 32) (omega (arith, short))) (hands_all (IsWrite tables) k ws (each_by (IsWrite tables) ws all))

pub dealt_length : (k : ℕ) (ws : List Write) → length (seated 1 (hands k ws)) ≡ k
dealt_length k ws = seated_length 1 (hands k ws) ∙ hands_length k ws

pub dealt_is : (k : ℕ) (ws : List Write) → dealt k ws ≡ seated 1 (hands k ws)
unfolding dealt
dealt_is k ws = refl

apart_from : (a k : ℕ) → (a ≡ k → ⊥) → a ≤ k → a < k
apart_from a k other le = by (ltb a k) refl
  where
    by : (b : Bool) → ltb a k ≡ b → a < k
    by true e = ltb-true a k e
    by false e = let ge = ltb-false a k e in absurd (other (omega (arith, ge, le)))

pub following_within : (k place next : ℕ) → place < k → next ≡ following k place → next < k
following_within k place next within is = by (place + 1 == k) refl
  where
    by : (b : Bool) → (place + 1 == k) ≡ b → next < k
    by true e = omega (arith, within, is, cond_same (place + 1 == k) 0 (place + 1) e)
    by false e = omega (arith, is, cond_other (place + 1 == k) 0 (place + 1) e, apart_from (place + 1) k (eqb-false (place + 1) k e) (omega (arith, within)))
