-- The order of the rows plays no part.
use Rattle.std.proofs.Common.{◌≡◌, ℕ, true, false, ◌==◌, inl, inr, List, [], ◌∷◌, ◌++◌, Option, Some, None, flat_map, IsPermutation, refl, sym, ap, ◌∙◌}
use Rattle.std.specs.List.{AllByRecursion}
use Rattle.std.specs.Cmp.Lexicographic.{nat_list_cmp_total}
use Rattle.std.specs.FinMap.{find, get-from_entries}
use Rattle.std.proofs.lemmas.Option.{none-some}
use Rattle.std.proofs.lemmas.Bool.{false≢true, eq-eqb, and_from}
use Rattle.std.proofs.lemmas.List.Sorted.{IsPermutation-sym, Contains-permutation}
use Rattle.pq_base.specs.declared.value.Value.{Value}
use Rattle.pq_base.specs.Values.{AllFit}
use Rattle.pq_schema.specs.declared.table.Table.{Table}
use Rattle.pq_schema.specs.Tables.{table_at}
use Rattle.pq_content.specs.Pairs.{Pair, pairs_of_row, row_pairs, content_pairs}
use Rattle.pq_store.specs.Content.{key_cmp}
use Rattle.pq_content.specs.Tables.{Rows, types_of, key_of, same_values, agrees, has_key, AreApart}
use Rattle.pq_content.proofs.Changes.{same_content}
use Rattle.pq_content.proofs.Find.{find-or_else, or_else}
use Rattle.pq_content.proofs.Gets.{EachFits}
use Rattle.pq_base.proofs.Members.{in_from_contains, contained, each_in}
use Rattle.pq_base.specs.Members.{In}
use Rattle.pq_content.proofs.Owners.{pairs_share}
use Rattle.pq_content.proofs.Values.{same_values_itself}

pub in_permuted : {X : Type 0} (v : X) (xs ys : List X) → IsPermutation xs ys → In v xs → In v ys
in_permuted v xs ys h i = in_from_contains ys v (Contains-permutation xs ys v h (contained v xs i))

-- a later row has another key
clash : (tables : List Table) (g : ℕ × List Value) (rows : Rows) → AllByRecursion (λ h. has_key tables g.0 (key_of (table_at tables g.0) g.1) h ≡ false) rows → (f : ℕ × List Value) → In f rows → g.0 ≡ f.0 → key_of (table_at tables g.0) g.1 ≡ key_of (table_at tables f.0) f.1 → ⊥
clash tables g rows apart f j t k =
    let key = key_of (table_at tables g.0) g.1 in
    let own : key_of (table_at tables g.0) f.1 ≡ key = ap (λ (n : ℕ). key_of (table_at tables n) f.1) t ∙ sym k in
    let has : has_key tables g.0 key f ≡ true = and_from (f.0 == g.0) (agrees (table_at tables g.0).key key f.1) (eq-eqb f.0 g.0 (sym t)) (ap (λ (v : List Value). same_values v key) own ∙ same_values_itself key) in
    false≢true (sym (each_in (λ (h : ℕ × List Value). has_key tables g.0 key h ≡ false) rows apart f j) ∙ has)

-- rows of one table with one key are one row
one_row : (tables : List Table) (rows : Rows) → AreApart tables rows → (e f : ℕ × List Value) → In e rows → In f rows → e.0 ≡ f.0 → key_of (table_at tables e.0) e.1 ≡ key_of (table_at tables f.0) f.1 → e ≡ f
one_row tables [] apart e f i j t k = absurd i
one_row tables (g ∷ rows) apart e f (inl i) (inl j) t k = sym i ∙ j
one_row tables (g ∷ rows) apart e f (inl i) (inr j) t k = absurd (clash tables g rows apart.0 f j (ap (λ (x : ℕ × List Value). x.0) i ∙ t) (ap (λ (x : ℕ × List Value). key_of (table_at tables x.0) x.1) i ∙ k))
one_row tables (g ∷ rows) apart e f (inr i) (inl j) t k = absurd (clash tables g rows apart.0 e i (ap (λ (x : ℕ × List Value). x.0) j ∙ sym t) (ap (λ (x : ℕ × List Value). key_of (table_at tables x.0) x.1) j ∙ sym k))
one_row tables (g ∷ rows) apart e f (inr i) (inr j) t k = one_row tables rows apart.1 e f i j t k

module _ {E V : Type 0} (g : E → List (List ℕ × V)) where
  pub found_piece : (q : List ℕ) (v : V) (es : List E) → find key_cmp q (flat_map g es) ≡ Some v → (e : E) × In e es × (find key_cmp q (g e) ≡ Some v)
  found_piece q v [] h = absurd (none-some v h)
  found_piece q v (e ∷ es) h =
      let own = find key_cmp q (g e) in
      elim own as (λ o. own ≡ o → or_else o (find key_cmp q (flat_map g es)) ≡ Some v → (e' : E) × In e' (e ∷ es) × (find key_cmp q (g e') ≡ Some v)) [
        | None ↦ λ _ h. let r = found_piece q v es h in (r.0, inr r.1, r.2)
        | Some w ↦ λ is h. (e, inl refl, is ∙ h)
      ] refl (sym (find-or_else key_cmp q (g e) (flat_map g es)) ∙ h)

  pub piece_found : (q : List ℕ) (v : V) (es : List E) (e : E) → In e es → find key_cmp q (g e) ≡ Some v → find key_cmp q (flat_map g es) ≡ None → ⊥
  piece_found q v [] e i h none = i
  piece_found q v (f ∷ es) e i h none =
      let own = find key_cmp q (g f) in
      elim own as (λ o. own ≡ o → or_else o (find key_cmp q (flat_map g es)) ≡ None → ⊥) [
        | None ↦ λ is none. elim i [
          | inl s ↦ none-some v (sym is ∙ ap (λ (e : E). find key_cmp q (g e)) s ∙ h)
          | inr j ↦ piece_found q v es e j h none
        ]
        | Some w ↦ λ _ none. none-some w (sym none)
      ] refl (sym (find-or_else key_cmp q (g f) (flat_map g es)) ∙ none)

same_found : (tables : List Table) (es fs : Rows) → EachFits tables es → AreApart tables es → ((e : ℕ × List Value) → In e es → In e fs) → ((e : ℕ × List Value) → In e fs → In e es) → (q : List ℕ) → find key_cmp q (row_pairs tables es) ≡ find key_cmp q (row_pairs tables fs)
same_found tables es fs fits apart there back q =
    let g = λ (e : ℕ × List Value). pairs_of_row e.0 (table_at tables e.0) e.1 in
    let l = find key_cmp q (flat_map g es) in
    let r = find key_cmp q (flat_map g fs) in
    let fit : (e : ℕ × List Value) → In e es → AllFit (types_of (table_at tables e.0)) e.1 = λ e i. each_in (λ (x : ℕ × List Value). AllFit (types_of (table_at tables x.0)) x.1) es fits e i in
    elim l as (λ a. l ≡ a → a ≡ r) [
      | None ↦ λ none. elim r as (λ b. r ≡ b → None ≡ b) [
        | None ↦ λ _. refl
        | Some w ↦ λ is. let f = found_piece g q w fs is in absurd (piece_found g q w es f.0 (back f.0 f.1) f.2 none)
      ] refl
      | Some v ↦ λ is.
          let e = found_piece g q v es is in
          elim r as (λ b. r ≡ b → Some v ≡ b) [
            | None ↦ λ none. absurd (piece_found g q v fs e.0 (there e.0 e.1) e.2 none)
            | Some w ↦ λ found.
                let f = found_piece g q w fs found in
                let share = pairs_share e.0.0 f.0.0 (table_at tables e.0.0) (table_at tables f.0.0) e.0.1 f.0.1 q v w (ap (table_at tables)) (fit e.0 e.1) (fit f.0 (back f.0 f.1)) e.2 f.2 in
                sym e.2 ∙ ap (λ (x : ℕ × List Value). find key_cmp q (g x)) (one_row tables es apart e.0 f.0 e.1 (back f.0 f.1) share.0 share.1) ∙ f.2
          ] refl
    ] refl

-- rows in another order make the same content
pub pairs-IsPermutation : (tables : List Table) (es fs : Rows) (others : List Pair) → EachFits tables es → AreApart tables es → IsPermutation es fs → content_pairs tables es others ≡ content_pairs tables fs others
unfolding content_pairs
pairs-IsPermutation tables es fs others fits apart p =
    let front = λ (rows : Rows). row_pairs tables rows in
    same_content _ _ (λ q.
    get-from_entries nat_list_cmp_total (front es ++ others) q
    ∙ find-or_else key_cmp q (front es) others
    ∙ ap (λ (o : Option (List ℕ)). or_else o (find key_cmp q others)) (same_found tables es fs fits apart (λ e i. in_permuted e es fs p i) (λ e i. in_permuted e fs es (IsPermutation-sym es fs p) i) q)
    ∙ sym (find-or_else key_cmp q (front fs) others)
    ∙ sym (get-from_entries nat_list_cmp_total (front fs ++ others) q))
