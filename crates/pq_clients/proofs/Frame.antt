-- What a change at one key leaves at the others.
use Rattle.std.proofs.Common.{◌≡◌, ℕ, ◌==◌, Bool, true, false, cond, ◌||◌, List, [], ◌∷◌, Option, Some, None, refl, sym, ap, ◌∙◌, subst}
use Rattle.std.proofs.lemmas.Bool.{eqb-true, eq-eqb, eqb-false}
use Rattle.pq_schema.specs.declared.table.Table.{Table}
use Rattle.pq_content.specs.Pairs.{is_in_space}
use Rattle.pq_store.specs.Content.{Content, written_content}
use Rattle.pq_clients.specs.Held.{Cell, Free, Held, held_value}
use Rattle.pq_clients.specs.Invariant.{has_code_entry, Names, Group, in_group, group_bound, Stance, Idle, Holds, Left, cell_at, IsHolder, HeldWell, Owns, present_at_cell, due_by, extra_by, passed_by, due_at, extra_at, passed_at, is_there, KeyGood, AtMost, Each, claims_at, claims, Good}
use Rattle.pq_clients.proofs.Basics.{at_or_not, space_apart, not_both, get_apart, there_apart, cell_is, no_cell, cell_by_get}
use Rattle.pq_clients.proofs.Owners.{one_owner, entry_space}

abbrev pub set_stance : (ℕ → Stance) → ℕ → Stance → ℕ → Stance
set_stance stances j s i = cond (i == j) s (stances i)

pub set_self : (stances : ℕ → Stance) (j : ℕ) (s : Stance) → set_stance stances j s j ≡ s
set_self stances j s = ap (λ b. cond b s (stances j)) (eq-eqb j j refl)

abbrev pub NotAt : Stance → List ℕ → Type 0
NotAt s k = (m : ℕ) (p : Option (List ℕ)) → IsHolder s k m p → ⊥

holder_kept : (stances : ℕ → Stance) (j : ℕ) (s : Stance) (k : List ℕ) (i m : ℕ) (p : Option (List ℕ)) → NotAt (stances j) k → IsHolder (stances i) k m p → set_stance stances j s i ≡ stances i
holder_kept stances j s k i m p never h =
    elim (i == j) as (λ b. (i == j) ≡ b → cond b s (stances i) ≡ stances i) [
      | true ↦ λ is. absurd (never m p (subst (λ (i : ℕ). IsHolder (stances i) k m p) (eqb-true i j is) h))
      | false ↦ λ _. refl
    ] refl

pub fewer : (n : ℕ) (p q : List ℕ → Bool) → ((k : List ℕ) → p k ≡ true → q k ≡ true) → AtMost n q → AtMost n p
fewer n p q h most ks d each = most ks d (all ks each)
  where
    all : (ks : List (List ℕ)) → Each p ks → Each q ks
    all [] e = tt
    all (k ∷ ks) e = (h k e.0, all ks e.1)

module _ (tables : List Table) where
  -- a content that differs at one key only
  pub record Near (c d : Content) (at : List ℕ) : Type 0 where
    pub cell : (k : List ℕ) → (k ≡ at → ⊥) → cell_at d k ≡ cell_at c k
    pub marks : (k : List ℕ) → (k ≡ at → ⊥) → (e : List ℕ) → Names tables k e → is_there d e ≡ is_there c e

  pub near_same : (c : Content) (k : List ℕ) → Near c c k
  near_same c k = record { cell = λ j h. refl; marks = λ j h e n. refl }

  pub near_row : (c : Content) (k : List ℕ) (x : Option (List ℕ)) → is_in_space 2 k ≡ true → Near c (written_content k x c) k
  near_row c k x space = record {
    cell = λ a h. cell_by_get c (written_content k x c) a (get_apart k x c a h);
    marks = λ a h e n. there_apart k x c e (λ same. space_apart 2 k e space (not_both e (entry_space tables a e n)) (sym same));
  }

  pub near_entry : (c : Content) (e k : List ℕ) (x : Option (List ℕ)) → Names tables k e → Near c (written_content e x c) k
  near_entry c e k x names = record {
    cell = λ a h. row_cell a;
    marks = λ a h q n. there_apart e x c q (λ same. h (one_owner tables a k e (subst (λ (q : List ℕ). Names tables a q) same n) names));
  }
    where
      row_cell : (a : List ℕ) → cell_at (written_content e x c) a ≡ cell_at c a
      row_cell a = elim (is_in_space 2 a) as (λ b. is_in_space 2 a ≡ b → cell_at (written_content e x c) a ≡ cell_at c a) [
        | true ↦ λ is. cell_by_get c (written_content e x c) a (get_apart e x c a (λ same. space_apart 2 a e is (not_both e (entry_space tables k e names)) same))
        | false ↦ λ is. no_cell (written_content e x c) a is ∙ sym (no_cell c a is)
      ] refl

  -- what is known of a cell that the client's change does not touch
  pub record SameAt (x : Option Cell) (stances after : ℕ → Stance) (k : List ℕ) : Type 0 where
    pub held : HeldWell x after k
    pub due : (e : List ℕ) → due_at x after e ≡ due_at x stances e
    pub extra : (e : List ℕ) → extra_at x after e ≡ extra_at x stances e
    pub passed : (g : Group) → passed_at x after g ≡ passed_at x stances g

  pub same_at : (x : Option Cell) (stances : ℕ → Stance) (j : ℕ) (s : Stance) (k : List ℕ) → NotAt (stances j) k → HeldWell x stances k → SameAt x stances (set_stance stances j s) k
  same_at None stances j s k never h = record { held = tt; due = λ e. refl; extra = λ e. refl; passed = λ g. refl }
  same_at (Some (Free code)) stances j s k never h = record { held = tt; due = λ e. refl; extra = λ e. refl; passed = λ g. refl }
  same_at (Some (Held i m p)) stances j s k never h =
      let e = holder_kept stances j s k i m p never h in
      record {
        held = subst (λ (w : Stance). IsHolder w k m p) (sym e) h;
        due = λ q. ap (λ (w : Stance). due_by w q) e;
        extra = λ q. ap (λ (w : Stance). extra_by w q) e;
        passed = λ g. ap (λ (w : Stance). passed_by w g) e;
      }

  pub key_kept : (x y : Option Cell) (marks after : List ℕ → Bool) (stances : ℕ → Stance) (j : ℕ) (s : Stance) (k : List ℕ) → NotAt (stances j) k → y ≡ x → ((e : List ℕ) → Names tables k e → after e ≡ marks e) → KeyGood tables x marks stances k → KeyGood tables y after (set_stance stances j s) k
  key_kept x y marks after stances j s k never e same g =
      let a = same_at x stances j s k never g.held in
      subst (λ (y : Option Cell). KeyGood tables y after (set_stance stances j s) k) (sym e) (record {
        held = a.held;
        lower = λ q n h. same q n ∙ g.lower q n (ap (λ b. has_code_entry tables k (present_at_cell x) q || b) (sym (a.due q)) ∙ h);
        upper = λ q n h. ap (λ b. has_code_entry tables k (present_at_cell x) q || b) (a.extra q) ∙ g.upper q n (sym (same q n) ∙ h);
      })

  pub stance_set : (stances : ℕ → Stance) (j : ℕ) (s : Stance) (P : ℕ → Stance → Type 0) → P j s → ((i : ℕ) → (i ≡ j → ⊥) → P i (stances i)) → (i : ℕ) → P i (set_stance stances j s i)
  stance_set stances j s P own other i =
      elim (i == j) as (λ b. (i == j) ≡ b → P i (cond b s (stances i))) [
        | true ↦ λ is. subst (λ i. P i s) (sym (eqb-true i j is)) own
        | false ↦ λ is. other i (eqb-false i j is)
      ] refl

  -- all is kept, where the change's own key is good and the limits are kept
  pub assemble : (c d : Content) (stances : ℕ → Stance) (j : ℕ) (k : List ℕ) (s : Stance)
      → Good tables c stances
      → Near c d k
      → ((a : List ℕ) → (a ≡ k → ⊥) → NotAt (stances j) a)
      → Owns d j s
      → ((i : ℕ) → (i ≡ j → ⊥) → Owns d i (stances i))
      → KeyGood tables (cell_at d k) (is_there d) (set_stance stances j s) k
      → ((g : Group) → AtMost (group_bound tables g) (claims tables d (set_stance stances j s) g))
      → Good tables d (set_stance stances j s)
  assemble c d stances j k s g near only own others key lim = record {
    owns = stance_set stances j s (λ i w. Owns d i w) own others;
    keys = λ a. at_or_not a k (λ a. KeyGood tables (cell_at d a) (is_there d) (set_stance stances j s) a) key (λ ne. key_kept (cell_at c a) (cell_at d a) (is_there c) (is_there d) stances j s a (only a ne) (near.cell a ne) (near.marks a ne) (g.keys a));
    limits = lim;
  }

  -- the claims elsewhere are as before
  pub claims_elsewhere : (c d : Content) (stances : ℕ → Stance) (j : ℕ) (k : List ℕ) (s : Stance) → Good tables c stances → Near c d k → ((a : List ℕ) → (a ≡ k → ⊥) → NotAt (stances j) a) → (g : Group) (a : List ℕ) → (a ≡ k → ⊥) → claims tables d (set_stance stances j s) g a ≡ claims tables c stances g a
  claims_elsewhere c d stances j k s good near only g a ne =
      ap (λ (x : Option Cell). claims_at tables x (set_stance stances j s) g a) (near.cell a ne)
      ∙ ap (λ b. in_group tables g a (present_at_cell (cell_at c a)) || b) ((same_at (cell_at c a) stances j s a (only a ne) (good.keys a).held).passed g)

  pub limits_kept : (c d : Content) (stances : ℕ → Stance) (j : ℕ) (k : List ℕ) (s : Stance) → Good tables c stances → Near c d k → ((a : List ℕ) → (a ≡ k → ⊥) → NotAt (stances j) a) → (g : Group) → (claims tables d (set_stance stances j s) g k ≡ true → claims tables c stances g k ≡ true) → AtMost (group_bound tables g) (claims tables d (set_stance stances j s) g)
  limits_kept c d stances j k s good near only g down =
      fewer (group_bound tables g) (claims tables d (set_stance stances j s) g) (claims tables c stances g) (λ a. at_or_not a k (λ a. claims tables d (set_stance stances j s) g a ≡ true → claims tables c stances g a ≡ true) down (λ ne h. sym (claims_elsewhere c d stances j k s good near only g a ne) ∙ h)) (good.limits g)

  -- what another client owns stays
  pub others_row : (c : Content) (k : List ℕ) (x : Option (List ℕ)) (i : ℕ) (s : Stance) → ((m : ℕ) (p : Option (List ℕ)) → cell_at c k ≡ Some (Held i m p) → ⊥) → Owns c i s → Owns (written_content k x c) i s
  others_row c k x i Idle never h = tt
  others_row c k x i (Holds hold) never h =
      (h.0, get_apart k x c hold.key (λ e. never hold.at hold.present (ap (cell_at c) (sym e) ∙ cell_is c hold.key (Some (held_value i hold.at hold.present)) h.0 h.1 ∙ ap (λ (y : Cell). Some y) h.2)) ∙ h.1, h.2)
  others_row c k x i (Left l) never h = tt

  pub others_entry : (c : Content) (e : List ℕ) (x : Option (List ℕ)) (i : ℕ) (s : Stance) → is_in_space 3 e ≡ true → Owns c i s → Owns (written_content e x c) i s
  others_entry c e x i Idle space h = tt
  others_entry c e x i (Holds hold) space h = (h.0, get_apart e x c hold.key (λ same. space_apart 2 hold.key e h.0 (not_both e space) same) ∙ h.1, h.2)
  others_entry c e x i (Left l) space h = tt
