-- Answers that are put at the places of their questions.
use Rattle.std.proofs.Common.{◌≡◌, ℕ, zero, suc, ◌<◌, true, false, List, [], ◌∷◌, ◌++◌, ◌+◌, length, get_or, set, Option, None, Some, is_some, refl, ap, arith}
use Rattle.std.specs.List.{AllZip, sum_by}
use Rattle.std.proofs.lemmas.List.Sums.{sum_by-cons}
use Rattle.pq_store.specs.Rounds.{one_if_some}
use Rattle.pq_parts.specs.Asking.{put_answers, put_answer, AreAnswersPut}

module _ {Q A : Type 0} where
  pub put_nil : (asks : List (Option Q)) (old : List A) → put_answers asks [] old ≡ old
  put_nil [] old = refl
  put_nil (asked ∷ asks) old = refl

  -- one answer more
  pub put_more : (asks : List (Option Q)) (answers : List A) (answer : A) (old : List A) → put_answers asks (answers ++ answer ∷ []) old ≡ put_answer asks (length answers) answer (put_answers asks answers old)
  put_more [] answers answer old = refl
  put_more (asked ∷ asks) [] answer [] = refl
  put_more (None ∷ asks) [] answer (x ∷ old) = ap (λ l. x ∷ l) (put_nil asks old)
  put_more (Some q ∷ asks) [] answer (x ∷ old) = ap (λ l. answer ∷ l) (put_nil asks old)
  put_more (asked ∷ asks) (y ∷ answers) answer [] = refl
  put_more (None ∷ asks) (y ∷ answers) answer (x ∷ old) = ap (λ l. x ∷ l) (put_more asks answers answer old)
  put_more (Some q ∷ asks) (y ∷ answers) answer (x ∷ old) = ap (λ l. y ∷ l) (put_more asks answers answer old)

  -- a place that is written, and one that stays
  pub put_set : (asks : List (Option Q)) (at : ℕ) (asked : Option Q) (answer : A) (old : List A) → at < length asks → asked ≡ get_or asks at asked → is_some asked ≡ true → set old at answer ≡ put_answer asks at answer old
  put_set [] at asked answer old less is some = absurd (omega arith)
  put_set (first ∷ asks) at asked answer [] less is some = refl
  put_set (None ∷ asks) zero asked answer (x ∷ old) less is some = let e = rw is at some in absurd (cc)
  put_set (Some q ∷ asks) zero asked answer (x ∷ old) less is some = refl
  put_set (None ∷ asks) (suc at) asked answer (x ∷ old) less is some = ap (λ l. x ∷ l) (put_set asks at asked answer old (omega arith) is some)
  put_set (Some q ∷ asks) (suc at) asked answer (x ∷ old) less is some = ap (λ l. x ∷ l) (put_set asks at asked answer old (omega arith) is some)

  pub put_kept : (asks : List (Option Q)) (at : ℕ) (asked : Option Q) (answer : A) (old : List A) → at < length asks → asked ≡ get_or asks at asked → is_some asked ≡ false → old ≡ put_answer asks at answer old
  put_kept [] at asked answer old less is none = refl
  put_kept (first ∷ asks) at asked answer [] less is none = refl
  put_kept (None ∷ asks) zero asked answer (x ∷ old) less is none = refl
  put_kept (Some q ∷ asks) zero asked answer (x ∷ old) less is none = let e = rw is at none in absurd (cc)
  put_kept (None ∷ asks) (suc at) asked answer (x ∷ old) less is none = ap (λ l. x ∷ l) (put_kept asks at asked answer old (omega arith) is none)
  put_kept (Some q ∷ asks) (suc at) asked answer (x ∷ old) less is none = ap (λ l. x ∷ l) (put_kept asks at asked answer old (omega arith) is none)

  -- as many stand there as before
  pub put_long : (asks : List (Option Q)) (at : ℕ) (answer : A) (old : List A) → length (put_answer asks at answer old) ≡ length old
  put_long [] at answer old = refl
  put_long (first ∷ asks) at answer [] = refl
  put_long (None ∷ asks) zero answer (x ∷ old) = refl
  put_long (Some q ∷ asks) zero answer (x ∷ old) = refl
  put_long (None ∷ asks) (suc at) answer (x ∷ old) = ap suc (put_long asks at answer old)
  put_long (Some q ∷ asks) (suc at) answer (x ∷ old) = ap suc (put_long asks at answer old)

  -- the answers that a relation has stand where they were asked
  pub put_all : (R : Q → A → Type 0) (T : Option Q → A → Type 0) → ((q : Q) (x : A) → T (Some q) x → R q x) → (asks : List (Option Q)) (answers old : List A) → length old ≡ length asks → AllZip T asks answers
      → AreAnswersPut R asks old (put_answers asks answers old)
  put_all R T one [] [] [] long h = tt
  put_all R T one [] [] (x ∷ old) long h = absurd (omega (arith, long))
  put_all R T one [] (y ∷ answers) old long h = absurd h
  put_all R T one (asked ∷ asks) [] old long h = absurd h
  put_all R T one (asked ∷ asks) (y ∷ answers) [] long h = absurd (omega (arith, long))
  put_all R T one (None ∷ asks) (y ∷ answers) (x ∷ old) long h = (refl, put_all R T one asks answers old (omega (arith, long)) h.1)
  put_all R T one (Some q ∷ asks) (y ∷ answers) (x ∷ old) long h = (one q y h.0, put_all R T one asks answers old (omega (arith, long)) h.1)

  -- nothing was asked
  pub put_nothing : (R : Q → A → Type 0) (asks : List (Option Q)) (old : List A) → length old ≡ length asks → sum_by one_if_some asks ≡ 0 → AreAnswersPut R asks old old
  put_nothing R [] [] long none = tt
  put_nothing R [] (x ∷ old) long none = absurd (omega (arith, long))
  put_nothing R (asked ∷ asks) [] long none = absurd (omega (arith, long))
  put_nothing R (None ∷ asks) (x ∷ old) long none =
      let unasked : Option Q = None in
      let sum = sum_by-cons one_if_some unasked asks in
      (refl, put_nothing R asks old (omega (arith, long)) (omega (arith, sum, none)))
  put_nothing R (Some q ∷ asks) (x ∷ old) long none =
      let sum : sum_by one_if_some (Some q ∷ asks) ≡ 1 + sum_by one_if_some asks = sum_by-cons one_if_some (Some q) asks in
      absurd (omega (arith, sum, none))
