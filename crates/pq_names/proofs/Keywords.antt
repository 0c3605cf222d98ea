-- Looking a word up in a table of words.
use Rattle.std.proofs.Common.{◌≡◌, ℕ, List, [], get_or, Option, Some, None, sym, ap, ◌∙◌}
use Rattle.std.specs.Prelude.{IfSome, IfNone, is_some, position, slice_get, unwrap_or}
use Rattle.std.specs.List.{list_any}
use Rattle.std.specs.Str.{bytes_eq}
use Rattle.std.proofs.lemmas.Bool.{false_from_ne_true}
use Rattle.std.proofs.lemmas.List.Folds.{list_any_at}
use Rattle.std.proofs.lemmas.Option.{slice_get_within, slice_get-get_or, get_or_from_slice_get}
use Rattle.pq_schema.proofs.Counts.{found_place, same_bytes, bytes_same}

-- a word has a place exactly where it is among the words
pub found_among : (word : List ℕ) (words : List (List ℕ)) (found : Option ℕ) → IfSome found (λ place. slice_get words place ≡ Some word) → IfNone found ((place : ℕ) → slice_get words place ≡ Some word → ⊥) → is_some found ≡ list_any (bytes_eq word) words
found_among word words (Some place) here none =
    sym (list_any_at (bytes_eq word) words place word (slice_get_within words place word here) (bytes_same word (get_or words place word) (sym (get_or_from_slice_get words place word word here))))
found_among word words None here none = sym (false_from_ne_true (list_any (bytes_eq word) words) (λ any.
    let at = found_place (bytes_eq word) words [] any in
    let place = unwrap_or (position (bytes_eq word) words) 0 in
    none place (slice_get-get_or words place [] at.0 ∙ ap (λ (w : List ℕ). Some w) (sym (same_bytes word (get_or words place []) at.1)))))
