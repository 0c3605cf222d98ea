use Rattle.std.proofs.Common.{◌≡◌, ℕ, List, Some, sym, ap, ◌∙◌, map, arith, true, false}
use Rattle.std.specs.Prelude.{slice_get, bytes_eq}
use Rattle.pq_base.specs.Words.{uppercase_byte, keywords}
use Rattle.pq_shape.proofs.Places.{keyword_here, keyword_beyond, place_none}
use Rattle.pq_shape.proofs.next.keyword_among.Goals as goal

pub places-init : goal.places-init
places-init c = λ k lt at. let first = (c.requires.among k at).0 in absurd (omega arith)

pub returns-then-is_keyword : goal.returns-then-is_keyword
returns-then-is_keyword c =
    let at : slice_get keywords c.places.place ≡ Some c.as_bytes.result.now = sym (ap (λ (ws : List (List ℕ)). slice_get ws c.places.place) c.keyword_table-table.ensures) ∙ c.word.ensures ∙ ap (λ (v : List ℕ). Some v) (sym c.as_bytes.ensures.value) in
    let is : bytes_eq c.as_bytes.result.now (map uppercase_byte c.args.bytes.now) ≡ true = sym c.is_keyword.ensures ∙ c.if-is_keyword.true in
    keyword_here c.as_bytes.result.now (map uppercase_byte c.args.bytes.now) c.places.place at is

pub places-preserved : goal.places-preserved
places-preserved c =
    let at : slice_get keywords c.places.place ≡ Some c.as_bytes.result.now = sym (ap (λ (ws : List (List ℕ)). slice_get ws c.places.place) c.keyword_table-table.ensures) ∙ c.word.ensures ∙ ap (λ (v : List ℕ). Some v) (sym c.as_bytes.ensures.value) in
    let isnt : bytes_eq c.as_bytes.result.now (map uppercase_byte c.args.bytes.now) ≡ false = sym c.is_keyword.ensures ∙ c.if-is_keyword.false in
    keyword_beyond c.as_bytes.result.now (map uppercase_byte c.args.bytes.now) c.places.place at isnt c.places.invariant

pub returns : goal.returns
returns c = sym (place_none keywords (map uppercase_byte c.args.bytes.now)
    (λ k at. c.places.invariant k (let last = (c.requires.among k at).1 in omega arith) at))
