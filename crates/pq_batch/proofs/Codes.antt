-- The code of short changes.
use Rattle.std.proofs.Common.{◌≡◌, ◌≤◌, ◌<◌, ◌*◌, ◌^◌, ℕ, List, [], ◌∷◌, length, map, Option, Some, None, refl, sym, ap, ◌∙◌, subst, arith}
use Rattle.std.specs.Prelude.{All, IfSome}
use Rattle.std.specs.List.{flat_map, AllByRecursion}
use Rattle.std.proofs.lemmas.List.{length-append, length-map}
use Rattle.std.proofs.lemmas.List.Elements.{All-head, All-tail}
use Rattle.pq_row_code.specs.declared.changes.Change.{Change as Coded}
use Rattle.pq_row_code.specs.Changes.{sized_bytes, new_code, change_code, changes_code, IsChange}
use Rattle.pq_content.specs.Pairs.{Change}
use Rattle.pq_content.specs.Standing.{change_of, AreIntended}
use Rattle.pq_index_keep.specs.Promises.{IsShortChange}
use Rattle.pq_index_keep.proofs.Inserting.{each_is}
use Rattle.pq_counters.specs.Whole.{AreWhole}
use Rattle.pq_batch.specs.Batches.{coded, changes_length}
use Rattle.pq_batch.specs.From.{AreAhead}

pub coded_again : (changes : List Coded) → map coded (map change_of changes) ≡ changes
coded_again [] = refl
coded_again (change ∷ changes) = ap (λ rest. change ∷ rest) (coded_again changes)

pub length_coded : (changes : List Coded) (ahead : List Change) → map change_of changes ≡ ahead → changes_length ahead ≡ length (changes_code changes)
length_coded changes ahead is = ap changes_length (sym is) ∙ ap (λ cs. length (changes_code cs)) (coded_again changes)

new_short : (new : Option (List ℕ)) → IfSome new (λ value. length value ≤ 4096) → length (new_code new) ≤ 4101
new_short None short = omega arith
new_short (Some value) short = omega (arith, short)

one_short : (change : Coded) → IsShortChange (change_of change) → length (change_code change) ≤ 100000
one_short change short =
    let key = short.key in
    omega (arith, new_short change.new short.value, length-append (sized_bytes change.key) (new_code change.new))

all_short : (changes : List Coded) → All IsShortChange (map change_of changes) → length (flat_map change_code changes) ≤ 100000 * length changes
all_short [] short = omega arith
all_short (change ∷ changes) short =
    omega (
      arith,
      length-append (change_code change) (flat_map change_code changes),
      one_short change (All-head IsShortChange (change_of change) (map change_of changes) short),
      all_short changes (All-tail IsShortChange (change_of change) (map change_of changes) short),
    )

-- a batch's changes have few bytes
pub code_short : (changes : List Coded) (ahead : List Change) → map change_of changes ≡ ahead → length ahead ≤ 10496 → AreAhead ahead → length (changes_code changes) < 2 ^ 32
code_short changes ahead is few h =
    let long : length ahead ≡ length changes = ap length (sym is) ∙ length-map changes change_of in
    omega (arith, all_short changes (subst (All IsShortChange) (sym is) h.short))

each_coded : (changes : List Coded) → All IsShortChange (map change_of changes) → AllByRecursion IsChange changes
each_coded [] short = tt
each_coded (change ∷ changes) short =
    (one_coded change (All-head IsShortChange (change_of change) (map change_of changes) short), each_coded changes (All-tail IsShortChange (change_of change) (map change_of changes) short))
  where
    new_coded : (new : Option (List ℕ)) → IfSome new (λ value. length value ≤ 4096) → IfSome new (λ value. length value < 2 ^ 32)
    new_coded None short = tt
    new_coded (Some value) short = omega (arith, short)

    one_coded : (change : Coded) → IsShortChange (change_of change) → IsChange change
    one_coded change short = let key = short.key in record { key = omega arith; new = new_coded change.new short.value }

-- an intent may hold them
pub are_whole : (changes : List Coded) (ahead : List Change) → map change_of changes ≡ ahead → 1 ≤ length ahead → length ahead ≤ 10496 → AreAhead ahead → AreWhole (length ahead) changes
are_whole changes ahead is some few h =
    let long : length ahead ≡ length changes = ap length (sym is) ∙ length-map changes change_of in
    record {
      some = omega arith;
      few = omega arith;
      coded = record { few = omega arith; each = each_is IsChange changes (each_coded changes (subst (All IsShortChange) (sym is) h.short)) };
      intended = subst AreIntended (sym is) h.intended;
    }
