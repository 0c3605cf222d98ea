-- What is paid for one call after another.
use Rattle.std.proofs.Common.{◌≡◌, ◌≤◌, ◌<◌, ◌+◌, ◌*◌, ℕ, zero, suc, Bool, true, false, List, [], ◌∷◌, ◌++◌, length, take, drop, get_or, position, Option, None, Some, refl, sym, ap, subst, ◌∙◌, arith}
use Rattle.std.proofs.lemmas.Grind.{common_steps}
use Rattle.std.specs.Prelude.{IfSome}
use Rattle.std.specs.List.{AllZip, AllByRecursion, sum_by}
use Rattle.std.proofs.lemmas.List.{take_more, take_all, drop_more}
use Rattle.std.proofs.lemmas.List.Sums.{sum_by_more, sum_by_push}
use Rattle.pq_store.specs.Counts.{Counts, AllowedCounts, charged_counts, raised_counts, spent_counts}
use Rattle.pq_store.specs.Content.{Content}
use Rattle.pq_store.specs.declared.store.Test.{Test}
use Rattle.pq_store.specs.Rounds.{Affords, Pays, is_held, Counted, IsTestCounted, AreTestsCounted, found_entries, least_entries, most_entries}

pub pays_nothing : (a : AllowedCounts) (m : Counts) → Pays a a m m 0 0
pays_nothing a m = record {
  granted = refl;
  spent_ops = refl;
  spent_entries = refl;
  rise_ops = omega arith;
  rise_entries = omega arith;
  few_ops = omega arith;
  few_entries = omega arith;
}

one_paid : (a : AllowedCounts) (m : Counts) (entries most : ℕ) → Affords a 1 most → entries ≤ most → Pays a (spent_counts a entries) m (charged_counts m entries) 1 most
one_paid a m entries most left few = record {
  granted = refl;
  spent_ops = omega (arith, left.ops_left);
  spent_entries = omega (arith, left.entries_left);
  rise_ops = omega arith;
  rise_entries = omega arith;
  few_ops = omega arith;
  few_entries = omega arith;
}

-- one operation and so many entries
pub pays_one : (a b : AllowedCounts) (m n : Counts) (entries most : ℕ) → Affords a 1 most → entries ≤ most → b ≡ spent_counts a entries → n ≡ charged_counts m entries → Pays a b m n 1 most
pays_one a b m n entries most left few spent charged =
    subst (λ (c : AllowedCounts). Pays a c m n 1 most) (sym spent)
    (subst (λ (k : Counts). Pays a (spent_counts a entries) m k 1 most) (sym charged) (one_paid a m entries most left few))

pub pays_then : (a b c : AllowedCounts) (m n k : Counts) (o e p q o' e' : ℕ) → Pays a b m n o e → Pays b c n k p q → o + p ≤ o' → e + q ≤ e' → Pays a c m k o' e'
pays_then a b c m n k o e p q o' e' f g ops entries = record {
  granted = g.granted ∙ f.granted;
  spent_ops = omega (arith, f.spent_ops, g.spent_ops);
  spent_entries = omega (arith, f.spent_entries, g.spent_entries);
  rise_ops = omega (arith, f.rise_ops, g.rise_ops);
  rise_entries = omega (arith, f.rise_entries, g.rise_entries);
  few_ops = omega (arith, f.few_ops, g.few_ops);
  few_entries = omega (arith, f.few_entries, g.few_entries);
}

pub pays_within : (a b : AllowedCounts) (m n : Counts) (o e o' e' : ℕ) → Pays a b m n o e → o ≤ o' → e ≤ e' → Pays a b m n o' e'
pays_within a b m n o e o' e' f ops entries = record {
  granted = f.granted;
  spent_ops = f.spent_ops;
  spent_entries = f.spent_entries;
  rise_ops = f.rise_ops;
  rise_entries = f.rise_entries;
  few_ops = omega (arith, f.few_ops);
  few_entries = omega (arith, f.few_entries);
}

-- what is left behind a first part
pub affords_rest : (a b : AllowedCounts) (m n : Counts) (o e p q o' e' : ℕ) → Pays a b m n o e → Affords a o' e' → o + p ≤ o' → e + q ≤ e' → Affords b p q
affords_rest a b m n o e p q o' e' f left ops entries = record {
  ops_left = omega (arith, f.spent_ops, f.few_ops, left.ops_left);
  entries_left = omega (arith, f.spent_entries, f.few_entries, left.entries_left);
}

-- ---- one item more

all_zip_push : {A B : Type 0} (R : A → B → Type 0) (xs : List A) (ys : List B) (x : A) (y : B) → AllZip R xs ys → R x y → AllZip R (xs ++ x ∷ []) (ys ++ y ∷ [])
all_zip_push R [] [] x y h r = (r, tt)
all_zip_push R [] (w ∷ ys) x y h r = absurd h
all_zip_push R (z ∷ xs) [] x y h r = absurd h
all_zip_push R (z ∷ xs) (w ∷ ys) x y h r = (h.0, all_zip_push R xs ys x y h.1 r)

pub all_zip_more : {A B : Type 0} (R : A → B → Type 0) (xs : List A) (ys : List B) (i : ℕ) (x : A) (y : B) → i < length xs → x ≡ get_or xs i x → AllZip R (take i xs) ys → R x y → AllZip R (take (i + 1) xs) (ys ++ y ∷ [])
all_zip_more R xs ys i x y lt is h r = subst (λ l. AllZip R l (ys ++ y ∷ [])) (ap (λ z. take i xs ++ z ∷ []) is ∙ sym (take_more xs i x lt)) (all_zip_push R (take i xs) ys x y h r)

pub all_more : {A : Type 0} (P : A → Type 0) (xs : List A) (x : A) → AllByRecursion P xs → P x → AllByRecursion P (xs ++ x ∷ [])
all_more P [] x h p = (p, tt)
all_more P (y ∷ xs) x h p = (h.0, all_more P xs x h.1 p)

pub one_more_times : (i n : ℕ) → (i + 1) * n ≡ i * n + n
one_more_times i n = omega arith

position_here : {X : Type 0} (p : X → Bool) (xs : List X) (i : ℕ) (x : X) → i < length xs → x ≡ get_or xs i x → position p (take i xs) ≡ None → p x ≡ true → Some i ≡ position p xs
position_here p [] i x less at none passes = absurd (omega arith)
position_here p (y ∷ xs) zero x less at none passes = grind (arith, common_steps, at, passes)
position_here p (y ∷ xs) (suc i) x less at none passes = grind (arith, common_steps, none, position_here p xs i x (omega arith) at, passes)

-- the first test that holds
pub held_here : (told now : Option Content) (tests : List Test) (i : ℕ) (test : Test) (held : Bool) → i < length tests → test ≡ get_or tests i test → now ≡ told → IfSome told (λ content. position (is_held content) (take i tests) ≡ None) → IfSome now (λ content. held ≡ is_held content test) → held ≡ true
    → IfSome told (λ content. Some i ≡ position (is_held content) tests)
held_here None now tests i test held less at same none one holds = tt
held_here (Some content) now tests i test held less at same none one holds =
    let is : held ≡ is_held content test = subst (λ (o : Option Content). IfSome o (λ c. held ≡ is_held c test)) same one in
    position_here (is_held content) tests i test less at none (sym is ∙ holds)

-- ---- what is counted

pub nothing_raised : (a : Counts) → a ≡ raised_counts a 0 0
nothing_raised a = grind arith

abbrev counts_of : ℕ → ℕ → Counts
counts_of ops entries = record { ops = ops; entries = entries }

same_counts : (o o' e e' : ℕ) → o ≡ o' → e ≡ e' → counts_of o e ≡ counts_of o' e'
same_counts o o' e e' ops entries = ap (λ n. counts_of n e) ops ∙ ap (counts_of o') entries

raised_twice : (a : Counts) (o e p q o' e' : ℕ) → o' ≡ o + p → e' ≡ e + q → raised_counts (raised_counts a o e) p q ≡ raised_counts a o' e'
raised_twice a o e p q o' e' ops entries =
    let first : a.ops + o + p ≡ a.ops + o' = omega arith in
    let second : a.entries + e + q ≡ a.entries + e' = omega arith in
    same_counts _ _ _ _ first second

pub raised_then : (a b c : Counts) (o e p q o' e' : ℕ) → b ≡ raised_counts a o e → c ≡ raised_counts b p q → o' ≡ o + p → e' ≡ e + q → c ≡ raised_counts a o' e'
raised_then a b c o e p q o' e' f g ops entries = g ∙ ap (λ n. raised_counts n p q) f ∙ raised_twice a o e p q o' e' ops entries

-- a round of one question more
pub round_then : {A B : Type 0} (f : A → ℕ) (h : B → ℕ) (a b c : Counts) (xs : List A) (ys zs : List B) (i : ℕ) (x : A) (y : B) → i < length xs → x ≡ get_or xs i x → zs ≡ ys ++ y ∷ []
    → b ≡ raised_counts a (sum_by f (take i xs)) (sum_by h ys) → c ≡ raised_counts b (f x) (h y) → c ≡ raised_counts a (sum_by f (take (i + 1) xs)) (sum_by h zs)
round_then f h a b c xs ys zs i x y less is pushed before one =
    raised_then a b c (sum_by f (take i xs)) (sum_by h ys) (f x) (h y) _ _ before one
    (sum_by_more f xs i x less ∙ ap (λ z. sum_by f (take i xs) + f z) (sym is))
    (ap (sum_by h) pushed ∙ sum_by_push h ys y)

pub nothing_counted : (told : Option Content) (a : Counts) → Counted told a a 0 (λ content. 0) 0 0
nothing_counted None a = record { made = omega arith; found = tt; at_least = omega arith; at_most = omega arith }
nothing_counted (Some content) a = record { made = omega arith; found = omega arith; at_least = omega arith; at_most = omega arith }

counted_twice : (told : Option Content) (a b c : Counts) (o p o' : ℕ) (f g h : Content → ℕ) (l m l' m' l2 m2 : ℕ) → Counted told a b o f l m → Counted told b c p g l' m'
    → o' ≡ o + p → ((content : Content) → h content ≡ f content + g content) → l2 ≡ l + l' → m2 ≡ m + m' → Counted told a c o' h l2 m2
counted_twice None a b c o p o' f g h l m l' m' l2 m2 one two ops sum least most =
    record { made = omega (arith, one.made, two.made); found = tt; at_least = omega (arith, one.at_least, two.at_least); at_most = omega (arith, one.at_most, two.at_most) }
counted_twice (Some content) a b c o p o' f g h l m l' m' l2 m2 one two ops sum least most =
    record { made = omega (arith, one.made, two.made); found = omega (arith, one.found, two.found, sum content); at_least = omega (arith, one.at_least, two.at_least); at_most = omega (arith, one.at_most, two.at_most) }

-- the tests up to a place, none of which holds
abbrev pub AreNoneCounted : Option Content → Counts → Counts → List Test → ℕ → Type 0
AreNoneCounted told before after tests i = Counted told before after i (λ content. sum_by (found_entries content) (take i tests))
    (sum_by (least_entries false) (take i tests)) (sum_by (most_entries false) (take i tests))

-- ---- a test more

module _ (told now : Option Content) (a b c : Counts) (tests : List Test) (i : ℕ) (test : Test) (held : Bool) (less : i < length tests) (is : test ≡ get_or tests i test) (same : now ≡ told)
    (before : AreNoneCounted told a b tests i) (one : IsTestCounted now b c test held) where
  one_told : IsTestCounted told b c test held
  one_told = subst (λ (o : Option Content). IsTestCounted o b c test held) same one

  sum_here : (f : Test → ℕ) → sum_by f (take (i + 1) tests) ≡ sum_by f (take i tests) + f test
  sum_here f = sum_by_more f tests i test less ∙ ap (λ z. sum_by f (take i tests) + f z) (sym is)

  pub none_more : held ≡ false → AreNoneCounted told a c tests (i + 1)
  none_more fails =
      counted_twice told a b c i 1 (i + 1) _ (λ content. found_entries content test) _ _ _ (least_entries false test) (most_entries false test) _ _ before
      (subst (λ h. IsTestCounted told b c test h) fails one_told)
      refl (λ content. sum_here (found_entries content)) (sum_here (least_entries false)) (sum_here (most_entries false))

  only_here : (f : Test → ℕ) → sum_by f (take 1 (drop i tests)) ≡ f test
  only_here f = ap (λ l. sum_by f (take 1 l)) (drop_more tests i test less) ∙ omega arith ∙ ap f (sym is)

  pub held_counted : held ≡ true → AreTestsCounted told a c tests (Some i)
  held_counted holds =
      counted_twice told a b c i 1 (i + 1) _ (λ content. found_entries content test) _ _ _ (least_entries true test) (most_entries true test) _ _ before
      (subst (λ h. IsTestCounted told b c test h) holds one_told)
      refl (λ content. sum_here (found_entries content))
      (ap (λ n. sum_by (least_entries false) (take i tests) + n) (only_here (least_entries true)))
      (ap (λ n. sum_by (most_entries false) (take i tests) + n) (only_here (most_entries true)))

pub none_counted : (told : Option Content) (a b : Counts) (tests : List Test) (i : ℕ) → length tests ≤ i → i ≤ length tests → AreNoneCounted told a b tests i → AreTestsCounted told a b tests None
none_counted told a b tests i more less h =
    let all : take i tests ≡ tests = take_all i tests more in
    let long : i ≡ length tests = omega arith in
    let whole : take (length tests) tests ≡ tests = take_all (length tests) tests (omega arith) in
    record {
      made = h.made ∙ ap (λ n. a.ops + n) long;
      found = subst (λ n. IfSome told (λ content. b.entries ≡ a.entries + sum_by (found_entries content) (take n tests))) long h.found;
      at_least = subst (λ l. a.entries + sum_by (least_entries false) l ≤ b.entries) all h.at_least;
      at_most = subst (λ l. b.entries ≤ a.entries + sum_by (most_entries false) l) all h.at_most;
    }
