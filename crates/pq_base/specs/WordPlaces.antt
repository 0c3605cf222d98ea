-- The words that the constants of count words and of refusals name.
use Rattle.std.specs.Prelude.{◌≡◌, ℕ, List, [], ◌∷◌, Some, map, codes, slice_get}
use Rattle.pq_base.specs.Words.{counts, refusals}
use Rattle.pq_base.specs.declared.count_word.TheConstants as count
use Rattle.pq_base.specs.declared.refusal_place.TheConstants as place

abbrev pub count_names : List (ℕ × List ℕ)
count_names =
    (count.CARDINALITY, codes "cardinality")
    ∷ (count.COLUMNS, codes "columns")
    ∷ (count.COUNTERS, codes "counters")
    ∷ (count.DEFINITIONS, codes "definitions")
    ∷ (count.FOREIGN, codes "foreign")
    ∷ (count.INDEXES, codes "indexes")
    ∷ (count.KEY, codes "key")
    ∷ (count.LIMIT_COLUMNS, codes "limit_columns")
    ∷ (count.LIMITS, codes "limits")
    ∷ (count.ORDER, codes "order")
    ∷ (count.PREDICATES, codes "predicates")
    ∷ (count.RELATIONS, codes "relations")
    ∷ (count.SELECTED, codes "selected")
    ∷ (count.STOP, codes "stop")
    ∷ (count.TABLES, codes "tables")
    ∷ (count.TEXT, codes "text") ∷ []

abbrev pub refusal_names : List (ℕ × List ℕ)
refusal_names =
    (place.NOT_UTF8, codes "E101")
    ∷ (place.UNFINISHED, codes "E102")
    ∷ (place.STATEMENT_LONG, codes "E103")
    ∷ (place.SYNTAX, codes "E104")
    ∷ (place.NAME_TAKEN, codes "E201")
    ∷ (place.NO_TABLE, codes "E202")
    ∷ (place.NO_COLUMN, codes "E203")
    ∷ (place.REPEATED, codes "E204")
    ∷ (place.FOREIGN_SHAPE, codes "E205")
    ∷ (place.COUNT, codes "E206")
    ∷ (place.TOO_MANY_ROWS, codes "E207")
    ∷ (place.NULLABLE_KEY, codes "E208")
    ∷ (place.NOT_EMPTY, codes "E209")
    ∷ (place.ALIAS, codes "E301")
    ∷ (place.OPERAND_KIND, codes "E302")
    ∷ (place.PARAMS, codes "E303")
    ∷ (place.NO_BOUND, codes "E304")
    ∷ (place.BOUND_LARGE, codes "E305")
    ∷ (place.NO_QUERY, codes "E401")
    ∷ (place.PARAM_VALUE, codes "E402")
    ∷ (place.CURSOR, codes "E403")
    ∷ (place.NOT_PAGED, codes "E404")
    ∷ (place.NO_COUNTER, codes "E405")
    ∷ (place.VALUE_KIND, codes "E501")
    ∷ (place.WRONG_COLUMNS, codes "E502")
    ∷ (place.DUPLICATE_KEY, codes "E503")
    ∷ (place.NO_ROW, codes "E504")
    ∷ (place.NO_PARENT, codes "E505")
    ∷ (place.REFERENCED, codes "E506")
    ∷ (place.CARDINALITY, codes "E507")
    ∷ (place.ROW_LONG, codes "E508")
    ∷ (place.COUNTER_FULL, codes "E510") ∷ []

-- each constant is the place of its word in the table
abbrev pub AreNamedIn : List (List ℕ) → List (ℕ × List ℕ) → Type 0
AreNamedIn table names = map (λ p. slice_get table p.0) names ≡ map (λ p. Some p.1) names

abbrev pub NamesCounts : Type 0
NamesCounts = AreNamedIn counts count_names

abbrev pub NamesRefusals : Type 0
NamesRefusals = AreNamedIn refusals refusal_names
