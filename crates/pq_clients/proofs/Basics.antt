-- Look-ups after a write of one pair, and members of lists of keys.
use Rattle.std.proofs.Common.{◌≡◌, ℕ, ◌==◌, Bool, true, false, cond, not, ◌&&◌, ◌||◌, ◌⊎◌, inl, inr, List, [], ◌∷◌, Option, Some, None, is_some, refl, sym, ap, ◌∙◌, subst}
use Rattle.std.specs.Prelude.{option_map}
use Rattle.std.specs.Cmp.Lexicographic.{nat_list_cmp_total}
use Rattle.std.specs.FinMap.{get, get-insert, get-remove}
use Rattle.std.proofs.lemmas.Bool.{false≢true, eqb-true}
use Rattle.pq_base.specs.Values.{has_null}
use Rattle.pq_base.specs.declared.value.Value.{Value}
use Rattle.pq_content.specs.Pairs.{is_in_space}
use Rattle.pq_content.specs.Tables.{agrees}
use Rattle.pq_content.proofs.Keys.{same_key, key_itself}
use Rattle.pq_store.specs.Content.{Content, written_content}
use Rattle.pq_clients.specs.Held.{Cell, cell_of}
use Rattle.pq_clients.specs.Flights.{has_entry, left_out}
use Rattle.pq_clients.specs.Invariant.{cell_at, is_there, is_key, shares}

-- ---- tests

pub or_first : (a b : Bool) → a ≡ true → (a || b) ≡ true
or_first true b h = refl
or_first false b h = cc

pub or_second : (a b : Bool) → b ≡ true → (a || b) ≡ true
or_second true b h = refl
or_second false b h = h

pub either_of : (a b : Bool) → (a || b) ≡ true → (a ≡ true) ⊎ (b ≡ true)
either_of true b h = inl refl
either_of false b h = inr h

pub neither_of : (a b : Bool) → (a || b) ≡ false → (a ≡ false) × (b ≡ false)
neither_of false b h = (refl, h)
neither_of true b h = absurd (false≢true (sym h))

pub and_of : (a b : Bool) → (a && b) ≡ true → (a ≡ true) × (b ≡ true)
and_of true b h = (refl, h)
and_of false b h = absurd (false≢true h)

pub nothing_more : (a : Bool) → (a || false) ≡ true → a ≡ true
nothing_more true h = refl
nothing_more false h = h

pub not_true : (a : Bool) → (a ≡ true → ⊥) → a ≡ false
not_true true h = absurd (h refl)
not_true false h = refl

pub from_not : (a : Bool) → not a ≡ true → a ≡ false
from_not true h = absurd (false≢true h)
from_not false h = refl

-- the values of a group have no NULL
pub shared_of : (cols : List ℕ) (values row : List Value) → shares cols values row ≡ true → (has_null values ≡ false) × (agrees cols values row ≡ true)
shared_of cols values row h =
    let parts = and_of (not (has_null values)) (agrees cols values row) h in (from_not (has_null values) parts.0, parts.1)

pub mono : (o a b : Bool) → (a ≡ true → b ≡ true) → (o || a) ≡ true → (o || b) ≡ true
mono true a b f h = refl
mono false a b f h = f h

pub both_mono : (a b x y : Bool) → (a ≡ true → x ≡ true) → (b ≡ true → y ≡ true) → (a || b) ≡ true → (x || y) ≡ true
both_mono true b x y f g h = or_first x y (f refl)
both_mono false b x y f g h = or_second x y (g h)

pub same_tests : (a b : Bool) → (a ≡ true → b ≡ true) → (b ≡ true → a ≡ true) → a ≡ b
same_tests true b f g = sym (f refl)
same_tests false true f g = g refl
same_tests false false f g = refl

-- ---- keys

pub key_apart : (k q : List ℕ) → (k ≡ q → ⊥) → is_key k q ≡ false
key_apart k q h = not_true (is_key k q) (λ e. h (same_key k q e))

-- by cases: this key, or another
pub at_or_not : (k at : List ℕ) (P : List ℕ → Type 0) → P at → ((k ≡ at → ⊥) → P k) → P k
at_or_not k at P here there =
    elim (is_key k at) as (λ b. is_key k at ≡ b → P k) [
      | true ↦ λ is. subst P (sym (same_key k at is)) here
      | false ↦ λ is. there (λ e. false≢true (sym is ∙ ap (is_key k) (sym e) ∙ key_itself k))
    ] refl

pub space_apart : (space : ℕ) (k q : List ℕ) → is_in_space space k ≡ true → is_in_space space q ≡ false → k ≡ q → ⊥
space_apart space k q a b e = false≢true (sym b ∙ ap (is_in_space space) (sym e) ∙ a)

pub not_both : (k : List ℕ) → is_in_space 3 k ≡ true → is_in_space 2 k ≡ false
not_both [] h = absurd (false≢true h)
not_both (b ∷ bs) h = ap (λ (x : ℕ). x == 2) (eqb-true b 3 h)

-- ---- look-ups

pub get-written : (k : List ℕ) (x : Option (List ℕ)) (c : Content) (q : List ℕ) → get (written_content k x c) q ≡ cond (is_key q k) x (get c q)
get-written k None c q = get-remove nat_list_cmp_total c k q
get-written k (Some v) c q = get-insert nat_list_cmp_total c k v q

pub get_here : (k : List ℕ) (x : Option (List ℕ)) (c : Content) → get (written_content k x c) k ≡ x
get_here k x c = get-written k x c k ∙ ap (λ b. cond b x (get c k)) (key_itself k)

pub get_apart : (k : List ℕ) (x : Option (List ℕ)) (c : Content) (q : List ℕ) → (q ≡ k → ⊥) → get (written_content k x c) q ≡ get c q
get_apart k x c q h = get-written k x c q ∙ ap (λ b. cond b x (get c q)) (key_apart q k h)

pub there_here : (k : List ℕ) (x : Option (List ℕ)) (c : Content) → is_there (written_content k x c) k ≡ is_some x
there_here k x c = ap is_some (get_here k x c)

pub there_apart : (k : List ℕ) (x : Option (List ℕ)) (c : Content) (q : List ℕ) → (q ≡ k → ⊥) → is_there (written_content k x c) q ≡ is_there c q
there_apart k x c q h = ap is_some (get_apart k x c q h)

pub there_written : (k : List ℕ) (x : Option (List ℕ)) (c : Content) (q : List ℕ) → is_there (written_content k x c) q ≡ cond (is_key q k) (is_some x) (is_there c q)
there_written k x c q =
    ap is_some (get-written k x c q) ∙ elim (is_key q k) as (λ b. is_some (cond b x (get c q)) ≡ cond b (is_some x) (is_some (get c q))) [ true ↦ refl | false ↦ refl ]

-- ---- cells

abbrev pub as_cell : Option (List ℕ) → Option Cell
as_cell None = None
as_cell (Some bytes) = Some (cell_of bytes)

mapped : (o : Option (List ℕ)) → option_map cell_of o ≡ as_cell o
mapped None = refl
mapped (Some b) = refl

pub cell_is : (c : Content) (k : List ℕ) (x : Option (List ℕ)) → is_in_space 2 k ≡ true → get c k ≡ x → cell_at c k ≡ as_cell x
unfolding cell_at
cell_is c k x space is = ap (λ b. cond b (option_map cell_of (get c k)) None) space ∙ mapped (get c k) ∙ ap as_cell is

pub no_cell : (c : Content) (k : List ℕ) → is_in_space 2 k ≡ false → cell_at c k ≡ None
unfolding cell_at
no_cell c k space = ap (λ b. cond b (option_map cell_of (get c k)) None) space

pub cell_by_get : (c d : Content) (k : List ℕ) → get d k ≡ get c k → cell_at d k ≡ cell_at c k
cell_by_get c d k e = elim (is_in_space 2 k) as (λ b. is_in_space 2 k ≡ b → cell_at d k ≡ cell_at c k) [
  | true ↦ λ is. cell_is d k (get d k) is refl ∙ ap as_cell e ∙ sym (cell_is c k (get c k) is refl)
  | false ↦ λ is. no_cell d k is ∙ sym (no_cell c k is)
] refl

-- ---- members

pub has-left_out : (e : List ℕ) (xs ys : List (List ℕ)) → has_entry e (left_out xs ys) ≡ (has_entry e xs && not (has_entry e ys))
has-left_out e [] ys = refl
has-left_out e (x ∷ xs) ys =
    let ih = has-left_out e xs ys in
    elim (is_key e x) as (λ a. is_key e x ≡ a → has_entry e (cond (not (has_entry x ys)) (x ∷ left_out xs ys) (left_out xs ys)) ≡ ((a || has_entry e xs) && not (has_entry e ys))) [
      | true ↦ λ is. let same : has_entry e ys ≡ has_entry x ys = ap (λ (q : List ℕ). has_entry q ys) (same_key e x is) in
          elim (has_entry x ys) as (λ b. has_entry x ys ≡ b → has_entry e (cond (not b) (x ∷ left_out xs ys) (left_out xs ys)) ≡ not (has_entry e ys)) [
            | true ↦ λ there. ih ∙ ap (λ b. has_entry e xs && not b) (same ∙ there) ∙ and_false (has_entry e xs) ∙ sym (ap not (same ∙ there))
            | false ↦ λ there. ap (λ a. a || has_entry e (left_out xs ys)) is ∙ sym (ap not (same ∙ there))
          ] refl
      | false ↦ λ is. elim (not (has_entry x ys)) as (λ b. has_entry e (cond b (x ∷ left_out xs ys) (left_out xs ys)) ≡ (has_entry e xs && not (has_entry e ys))) [
        | true ↦ ap (λ a. a || has_entry e (left_out xs ys)) is ∙ ih
        | false ↦ ih
      ]
    ] refl
  where
    and_false : (a : Bool) → (a && false) ≡ false
    and_false true = refl
    and_false false = refl
