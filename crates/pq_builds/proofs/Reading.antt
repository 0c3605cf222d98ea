-- How many entries the ranges of a told content take, and what a completion takes of it at most.
use Rattle.std.proofs.Common.{◌≡◌, ℕ, ◌+◌, ◌-◌, ◌≤◌, true, List, length, map, take, drop, Option, Some, None, ap, ◌∙◌, subst, arith, refl}
use Rattle.std.specs.Prelude.{IfSome}
use Rattle.std.proofs.lemmas.List.{length-take, length-drop, length-map}
use Rattle.pq_store.specs.Content.{Content, entry, pairs_within}
use Rattle.pq_store.specs.Counts.{Counts, charged_counts}
use Rattle.pq_store.specs.declared.store.Pair.{Pair as Stored}
use Rattle.pq_content.specs.Pairs.{Pair, is_in_space}
use Rattle.pq_intent.specs.Spending.{TakesAtMost}
use Rattle.pq_builds.specs.declared.target.NewQuery.{NewQuery}
use Rattle.pq_builds.specs.declared.target.Target.{Target}
use Rattle.pq_builds.specs.Bounds.{left_bound}
use Rattle.pq_builds.specs.Filling.{first_key, past_key, row_pairs_in, entered_rows, EntersSome, Follows}
use Rattle.pq_builds.specs.Standing.{Origin, HoldsFilling, rows_in}
use Rattle.pq_builds.proofs.Entering.{some_none, range_entered}
use Rattle.pq_builds.proofs.Following.{answer_at}
use Rattle.pq_builds.proofs.Standing.{counted_filling}

-- ---- one range

range_read : (t : ℕ) (low : List ℕ) (old : Option Content) (found : List Pair) (before after : ℕ) → IfSome old (λ c. found ≡ take 256 (pairs_within c low (past_key t)))
    → after ≤ before + length found → IfSome old (λ c. after ≤ before + length (pairs_within c low (past_key t)))
range_read t low None found before after answer few = tt
range_read t low (Some c) found before after answer few =
    let long = ap (λ (l : List Pair). length l) answer ∙ length-take 256 (pairs_within c low (past_key t)) in
    omega (arith, few, long)

-- whatever came behind it
pub range_told : (t : ℕ) (low a b : List ℕ) (old : Option Content) (found : List Stored) (before at : Counts) (after : ℕ) → a ≡ low → b ≡ past_key t
    → IfSome old (λ c. map entry found ≡ take 256 (pairs_within c a b)) → at ≡ charged_counts before (length found) → after ≤ at.entries
    → IfSome old (λ c. after ≤ before.entries + length (pairs_within c low (past_key t)))
range_told t low a b old found before at after low_is high_is answer charge few =
    let spent = ap (λ (x : Counts). x.entries) charge in
    range_read t low old (map entry found) before.entries after (answer_at old (map entry found) (map entry found) a b low (past_key t) low_is high_is refl answer)
    (omega (arith, few, spent, length-map found entry))

-- nothing was written
pub some_same : (target : Target) (t : ℕ) (low : List ℕ) (old now : Option Content) → now ≡ old → IfSome old (λ c. EntersSome target (pairs_within c low (past_key t)) c now)
some_same target t low None now same = tt
some_same target t low (Some c) now same = some_none target (pairs_within c low (past_key t)) (Some c) now same

-- ---- ranges after others

pub follows_read : (target : Target) (m count : ℕ) (old mid : Option Content) (next : List ℕ) (before at after : ℕ) → is_in_space 2 next ≡ true
    → IfSome old (λ c. Follows target (first_key target.table) m c mid next) → IfSome mid (λ c. after ≤ at + length (pairs_within c next (past_key target.table)))
    → at ≡ before + m → IfSome old (λ c. length (row_pairs_in target.table c) ≡ count → after ≤ before + count)
follows_read target m count None mid next before at after next_in a b is = tt
follows_read target m count (Some c) mid next before at after next_in a b is = λ many.
    let high = past_key target.table in
    let l = row_pairs_in target.table c in
    let d = entered_rows target a.enters.rows c in
    let same : pairs_within d next high ≡ drop m l = range_entered target a.enters.rows c next high next_in refl ∙ a.rest in
    let few : after ≤ at + length (pairs_within d next high) = subst (λ (o : Option Content). IfSome o (λ c. after ≤ at + length (pairs_within c next high))) a.enters.is b in
    let left : length (pairs_within d next high) ≡ length l - m = ap (λ (k : List Pair). length k) same ∙ length-drop m l in
    let front = a.many in
    omega (arith, few, left, front, many, is)

-- ---- a completion

-- over a content in which the index is being filled, within the completion over the table's rows
pub within_filling : (target : Target) (query : NewQuery) (old : Option Content) (origin : Origin) (before after : Counts) → HoldsFilling origin target query old
    → IfSome old (λ c. TakesAtMost (left_bound (length (row_pairs_in target.table c))) before after) → TakesAtMost (left_bound (rows_in origin target)) before after
within_filling target query old origin before after h within =
    let at = subst (λ (o : Option Content). IfSome o (λ c. TakesAtMost (left_bound (length (row_pairs_in target.table c))) before after)) h.is within in
    subst (λ (n : ℕ). TakesAtMost (left_bound n) before after) (counted_filling origin target query h.new h.target_is h.content h.filling) at
