-- Pieces that are sorted out.
use Rattle.std.proofs.Common.{◌≡◌, ℕ, ◌+◌, ◌≤◌, ◌<◌, Bool, true, false, ◌||◌, not, is_some, List, [], ◌∷◌, ◌++◌, length, take, drop, get_or, Option, Some, None, IfSome, refl, sym, ap, ◌∙◌, arith, append_assoc, append-nil, length-append}
use Rattle.std.proofs.lemmas.List.{take_more, take_all, drop_more, drop_all}
use Rattle.std.proofs.lemmas.List.Folds.{list_any-append}
use Rattle.std.specs.List.{AllByRecursion, list_any}
use Rattle.pq_schema.specs.Schema.{Schema}
use Rattle.pq_text.specs.declared.piece.Piece.{Piece}
use Rattle.pq_index_keep.specs.declared.write.Write.{Write}
use Rattle.pq_client_shell.specs.Lines.{skipped_text, unless_found}
use Rattle.pq_client_shell.specs.Writes.{one_write, write_of, writes_of, is_skipped}

writes_none : (s : Schema) → writes_of s [] ≡ []
unfolding writes_of
writes_none s = refl

writes_one : (s : Schema) (p : Piece) (ps : List Piece) → writes_of s (p ∷ ps) ≡ one_write (write_of s p) ++ writes_of s ps
unfolding writes_of
writes_one s p ps = refl

text_none : (s : Schema) (n : ℕ) → skipped_text s n [] ≡ []
unfolding skipped_text
text_none s n = refl

text_one : (s : Schema) (n : ℕ) (p : Piece) (ps : List Piece) → skipped_text s n (p ∷ ps) ≡ unless_found n (write_of s p) ++ skipped_text s (n + 1) ps
unfolding skipped_text
text_one s n p ps = refl

module _ (s : Schema) (ps : List Piece) (i : ℕ) (p : Piece) (short : i < length ps) (is : p ≡ get_or ps i p) where
  cut : drop i ps ≡ p ∷ drop (i + 1) ps
  cut = drop_more ps i p short ∙ ap (λ x. x ∷ drop (i + 1) ps) (sym is)

  pub writes_more : (old now all : List Write) (found : Option Write) → old ++ writes_of s (drop i ps) ≡ all → found ≡ write_of s p → now ≡ old ++ one_write found → now ++ writes_of s (drop (i + 1) ps) ≡ all
  writes_more old now all found so_far found_is more =
      ap (λ ws. ws ++ writes_of s (drop (i + 1) ps)) more ∙ append_assoc old (one_write found) (writes_of s (drop (i + 1) ps))
      ∙ ap (λ ws. old ++ ws) (ap (λ f. one_write f ++ writes_of s (drop (i + 1) ps)) found_is ∙ sym (writes_one s p (drop (i + 1) ps)) ∙ ap (writes_of s) (sym cut)) ∙ so_far

  pub lines_more : (n : ℕ) (old now all : List ℕ) (found : Option Write) → old ++ skipped_text s n (drop i ps) ≡ all → found ≡ write_of s p → now ≡ old ++ unless_found n found → now ++ skipped_text s (n + 1) (drop (i + 1) ps) ≡ all
  lines_more n old now all found so_far found_is more =
      ap (λ ws. ws ++ skipped_text s (n + 1) (drop (i + 1) ps)) more ∙ append_assoc old (unless_found n found) (skipped_text s (n + 1) (drop (i + 1) ps))
      ∙ ap (λ ws. old ++ ws) (ap (λ f. unless_found n f ++ skipped_text s (n + 1) (drop (i + 1) ps)) found_is ∙ sym (text_one s n p (drop (i + 1) ps)) ∙ ap (skipped_text s n) (sym cut)) ∙ so_far

  pub skips_more : (old now : Bool) (found : Option Write) → old ≡ list_any (is_skipped s) (take i ps) → found ≡ write_of s p → now ≡ (old || not (is_some found)) → now ≡ list_any (is_skipped s) (take (i + 1) ps)
  skips_more old now found so_far found_is more =
      more ∙ ap (λ b. b || not (is_some found)) so_far ∙ ap (λ f. list_any (is_skipped s) (take i ps) || not (is_some f)) found_is
      ∙ ap (λ b. list_any (is_skipped s) (take i ps) || b) (or_none (is_skipped s p)) ∙ sym (list_any-append (is_skipped s) (take i ps) (p ∷ []))
      ∙ ap (list_any (is_skipped s)) (sym (take_more ps i p short ∙ ap (λ x. take i ps ++ x ∷ []) (sym is)))
    where
      or_none : (b : Bool) → b ≡ (b || false)
      or_none true = refl
      or_none false = refl

pub writes_end : (s : Schema) (ps : List Piece) (i : ℕ) (old all : List Write) → length ps ≤ i → old ++ writes_of s (drop i ps) ≡ all → old ≡ all
writes_end s ps i old all long so_far = sym (append-nil old) ∙ ap (λ ws. old ++ ws) (sym (ap (writes_of s) (drop_all i ps long) ∙ writes_none s)) ∙ so_far

pub lines_end : (s : Schema) (n : ℕ) (ps : List Piece) (i : ℕ) (old all : List ℕ) → length ps ≤ i → old ++ skipped_text s n (drop i ps) ≡ all → old ≡ all
lines_end s n ps i old all long so_far = sym (append-nil old) ∙ ap (λ ws. old ++ ws) (sym (ap (skipped_text s n) (drop_all i ps long) ∙ text_none s n)) ∙ so_far

pub skips_end : (s : Schema) (ps : List Piece) (i : ℕ) (now : Bool) → length ps ≤ i → now ≡ list_any (is_skipped s) (take i ps) → now ≡ list_any (is_skipped s) ps
skips_end s ps i now long so_far = so_far ∙ ap (list_any (is_skipped s)) (take_all i ps long)

all_append : {A : Type 0} (P : A → Type 0) (xs ys : List A) → AllByRecursion P xs → AllByRecursion P ys → AllByRecursion P (xs ++ ys)
all_append P [] ys p q = q
all_append P (x ∷ xs) ys p q = (p.0, all_append P xs ys p.1 q)

found_all : (P : Write → Type 0) (found : Option Write) → IfSome found P → AllByRecursion P (one_write found)
found_all P None p = tt
found_all P (Some w) p = (p, tt)

pub made_more : (P : Write → Type 0) (old now : List Write) (found : Option Write) → AllByRecursion P old → IfSome found P → now ≡ old ++ one_write found → AllByRecursion P now
made_more P old now found all one more = rw more (all_append P old (one_write found) all (found_all P found one))

found_few : (found : Option Write) → length (one_write found) ≤ 1
found_few None = omega arith
found_few (Some w) = omega arith

pub few_more : (old now : List Write) (found : Option Write) (i : ℕ) → length old ≤ i → now ≡ old ++ one_write found → length now ≤ i + 1
few_more old now found i few more = omega (arith, few, ap length more, length-append old (one_write found), found_few found)
