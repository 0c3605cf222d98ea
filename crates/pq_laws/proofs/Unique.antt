-- A content stands for one schema, and for one set of rows of each table.
use Rattle.std.proofs.Common.{◌≡◌, ℕ, [], Option, Some, None, Result, Ok, refl, sym, ap, ◌∙◌, subst, inl, inr}
use Rattle.std.specs.Prelude.{IsPermutation}
use Rattle.pq_schema.specs.Schema.{Schema}
use Rattle.pq_schema.specs.Valid.{IsValid}
use Rattle.pq_builds.specs.Filling.{row_pairs_in}
use Rattle.pq_builds.proofs.Filled.{rows_filling, one_set}
use Rattle.pq_content.specs.Pairs.{Pair, content_pairs}
use Rattle.pq_content.specs.Standing.{SettlesTo}
use Rattle.pq_content.specs.Tables.{IsTableNumber, Keeps, rows_of}
use Rattle.pq_content.proofs.Keys.{both_beside, catalog_beside, counters_beside}
use Rattle.pq_content.proofs.Settling.{settles_once}
use Rattle.pq_content.proofs.Unique.{one_table}
use Rattle.pq_store.specs.Content.{Content}
use Rattle.pq_catalog.specs.Model.{Model}
use Rattle.pq_opening.specs.Opening.{SchemaAndMark}
use Rattle.pq_catalog.specs.Stands.{Holds, Opens, IsFillingLast, content_of, others_of, pairs_counted, earlier_pairs, earlier_others, last_query}
use Rattle.pq_catalog.proofs.Counted.{counted_space, others_beside}
use Rattle.pq_opening.proofs.Lefts.{earlier_catalog}
use Rattle.pq_catalog.proofs.Made.{types_at}
use Rattle.pq_opening.proofs.Reopening.{schema_in, mark_in, mark_held, held_tells}

-- the rows of a model over a schema
abbrev over : Schema → Model → Model
over schema n = record { schema = schema; rows = n.rows }

pairs_same : (m n : Model) → m.schema ≡ n.schema → content_of m ≡ content_of n
    → content_pairs m.schema.tables m.rows (others_of m) ≡ content_pairs m.schema.tables n.rows (others_of (over m.schema n))
unfolding content_of
pairs_same m n is same = same ∙ ap (λ (s : Schema). content_pairs s.tables n.rows (others_of (over s n))) (sym is)

one_settled_set : (m n : Model) → IsValid m.schema → Keeps m.schema.tables m.rows → Keeps n.schema.tables n.rows → m.schema ≡ n.schema → content_of m ≡ content_of n
    → (t : ℕ) → IsTableNumber m.schema.tables t → IsPermutation (rows_of t m.rows) (rows_of t n.rows)
one_settled_set m n valid keeps keeps' is same t number =
    one_table m.schema.tables m.rows n.rows (others_of m) (others_of (over m.schema n)) t (types_at m.schema t valid number) keeps
    (subst (λ (s : Schema). Keeps s.tables n.rows) (sym is) keeps') (others_beside m) (others_beside (over m.schema n)) (pairs_same m n is same)

-- while an index is being filled
rows_left_in : (m : Model) (content : Content) (t : ℕ) → IsValid m.schema → Keeps m.schema.tables m.rows → IsFillingLast m content → row_pairs_in t content ≡ row_pairs_in t (content_pairs m.schema.tables m.rows [])
rows_left_in m content t valid keeps f =
    rows_filling m.schema.tables m.rows (earlier_others m) f.made (last_query m.schema) content t keeps
    (both_beside (pairs_counted m) (earlier_pairs m.schema) (counters_beside (pairs_counted m) (counted_space m))
    (catalog_beside (earlier_pairs m.schema) (earlier_catalog m.schema valid f.made f.last))) refl f.filling

one_left_set : (m n : Model) (content : Content) → IsValid m.schema → IsValid n.schema → Keeps m.schema.tables m.rows → Keeps n.schema.tables n.rows → m.schema ≡ n.schema → IsFillingLast m content → IsFillingLast n content
    → (t : ℕ) → IsTableNumber m.schema.tables t → IsPermutation (rows_of t m.rows) (rows_of t n.rows)
one_left_set m n content valid valid' keeps keeps' is f g t number =
    one_set m.schema.tables m.rows n.rows t (types_at m.schema t valid number) keeps (subst (λ (s : Schema). Keeps s.tables n.rows) (sym is) keeps')
    (sym (rows_left_in m content t valid keeps f) ∙ rows_left_in n content t valid' keeps' g ∙ ap (λ (s : Schema). row_pairs_in t (content_pairs s.tables n.rows [])) (sym is))

one_held_set : (m n : Model) (content : Content) → IsValid m.schema → IsValid n.schema → Keeps m.schema.tables m.rows → Keeps n.schema.tables n.rows → m.schema ≡ n.schema → (h : Holds m content) → (k : Holds n content)
    → mark_held m content h ≡ mark_held n content k → (t : ℕ) → IsTableNumber m.schema.tables t → IsPermutation (rows_of t m.rows) (rows_of t n.rows)
one_held_set m n content valid valid' keeps keeps' is (inl a) (inl b) marks t number = one_settled_set m n valid keeps keeps' is (sym a ∙ b) t number
one_held_set m n content valid valid' keeps keeps' is (inr f) (inr g) marks t number = one_left_set m n content valid valid' keeps keeps' is f g t number
one_held_set m n content valid valid' keeps keeps' is (inl a) (inr g) marks t number = absurd (cc)
one_held_set m n content valid valid' keeps keeps' is (inr f) (inl b) marks t number = absurd (cc)

-- ---- the same of a content that may have an intent

abbrev pairs_or : Content → Option Content → Content
pairs_or other None = other
pairs_or other (Some pairs) = pairs

module _ (content : Option Content) (m n : Model) (p : Opens content m) (q : Opens content n) where
  -- it settles to one content
  one_content : p.pairs ≡ q.pairs
  one_content =
      let same : q.settles.pairs ≡ p.settles.pairs = ap (pairs_or p.settles.pairs) (sym q.settles.told ∙ p.settles.told) in
      settles_once p.settles.pairs p.pairs q.pairs p.settles.settles (subst (λ (c : Content). SettlesTo c q.pairs) same q.settles.settles)

  held : Holds n p.pairs
  held = subst (Holds n) (sym one_content) q.holds

  one_answer : ◌≡◌ {A = Result SchemaAndMark Pair} (Ok (m.schema, mark_held m p.pairs p.holds)) (Ok (n.schema, mark_held n p.pairs held))
  one_answer = sym (held_tells m p.pairs p.valid p.holds) ∙ held_tells n p.pairs q.valid held

  pub opened_schema : m.schema ≡ n.schema
  opened_schema = ap schema_in one_answer

  pub opened_rows : (t : ℕ) → IsTableNumber m.schema.tables t → IsPermutation (rows_of t m.rows) (rows_of t n.rows)
  opened_rows t number = one_held_set m n p.pairs p.valid q.valid p.keeps q.keeps opened_schema p.holds held (ap mark_in one_answer) t number
