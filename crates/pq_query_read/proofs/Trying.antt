-- What an answer of parts that are tried one after the other tells of them.
use Rattle.std.proofs.Common.{◌≡◌, ◌+◌, Bool, false, List, [], ◌∷◌, ◌++◌, length, Option, Some, None, Result, Ok, Err, refl, sym, ap, subst, arith}
use Rattle.std.specs.List.{AllByRecursion}
use Rattle.std.proofs.lemmas.List.{length_push}
use Rattle.pq_base.specs.declared.refusal.Refusal.{Refusal}
use Rattle.pq_schema.specs.Definitions.{refused_if}
use Rattle.pq_schema.proofs.Accepted.{not_refused}
use Rattle.pq_query_read.specs.Trying.{◌>>=◌, or_refused, passed_unless, each_after}

abbrev pub ok_or_else : {A : Type 0} → A → Result A Refusal → A
ok_or_else other (Ok answer) = answer
ok_or_else other (Err why) = other

abbrev pub IsAnswer : {A : Type 0} → Result A Refusal → Type 0
IsAnswer (Ok answer) = Unit {0}
IsAnswer (Err why) = ⊥

pub no_answer : {A P : Type 0} (why : Refusal) (z : A) → Err why ≡ Ok z → P
no_answer {A} why z is = absurd (subst {A = Result A Refusal} IsAnswer (sym is) tt)

-- the same answer
abbrev pub SameOk : {A : Type 0} → A → A → Type 0
SameOk {A} x z = ◌≡◌ {A = Result A Refusal} (Ok x) (Ok z)

pub same_answer : {A : Type 0} (x z : A) → ◌≡◌ {A = Result A Refusal} (Ok x) (Ok z) → x ≡ z
same_answer {A} x z is = ap {A = Result A Refusal} (ok_or_else x) is

-- both parts gave an answer
pub both : {A B : Type 0} (r : Result A Refusal) (f : A → Result B Refusal) (z : B) → (r >>= f) ≡ Ok z → (x : A) × (r ≡ Ok x) × (f x ≡ Ok z)
both (Ok x) f z is = (x, refl, is)
both (Err why) f z is = no_answer why z is

pub there : {A : Type 0} (why : Refusal) (o : Option A) (x : A) → or_refused why o ≡ Ok x → o ≡ Some x
there why None x is = no_answer why x is
there why (Some y) x is = ap Some (same_answer y x is)

pub no_refusal : (o : Option Refusal) (u : Unit {0}) → passed_unless o ≡ Ok u → o ≡ None
no_refusal None u is = refl
no_refusal (Some why) u is = no_answer why u is

pub not_so : (test : Bool) (why : Refusal) (u : Unit {0}) → passed_unless (refused_if test why) ≡ Ok u → test ≡ false
not_so test why u is = not_refused test why (no_refusal (refused_if test why) u is)

module _ {A B : Type 0} (f : List B → A → Result B Refusal) where
  -- as many as there are
  pub each_long : (xs : List A) (before ys : List B) → each_after f before xs ≡ Ok ys → length ys ≡ length before + length xs
  each_long [] before ys is = let same = ap length (same_answer before ys is) in omega (arith, same)
  each_long (x ∷ xs) before ys is =
      let y = both (f before x) (λ y. each_after f (before ++ y ∷ []) xs) ys is in
      let long = each_long xs (before ++ y.0 ∷ []) ys y.2 in
      let one = length_push before y.0 in
      omega (arith, long, one)

  -- what each further one keeps
  pub each_keeps : (Q : A → Type 0) (I : List B → Type 0) → ((before : List B) (x : A) (y : B) → Q x → I before → f before x ≡ Ok y → I (before ++ y ∷ []))
      → (xs : List A) (before ys : List B) → AllByRecursion Q xs → I before → each_after f before xs ≡ Ok ys → I ys
  each_keeps Q I step [] before ys all holds is = subst I (same_answer before ys is) holds
  each_keeps Q I step (x ∷ xs) before ys all holds is =
      let y = both (f before x) (λ y. each_after f (before ++ y ∷ []) xs) ys is in
      each_keeps Q I step xs (before ++ y.0 ∷ []) ys all.1 (step before x y.0 all.0 holds y.1) y.2
