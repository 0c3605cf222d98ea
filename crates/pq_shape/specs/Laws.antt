-- The words that the keywords' constants name, the soft words, and the marks.
use Rattle.std.specs.Prelude.{◌≡◌, ℕ, List, [], ◌∷◌, Some, map, codes, slice_get}
use Rattle.pq_base.specs.Words.{keywords, softs}
use Rattle.pq_shape.specs.Front.{soft_name}
use Rattle.pq_shape.specs.Shapes.{mark_code, lowercase_bytes}
use Rattle.pq_shape.specs.declared.keyword.TheConstants.{AFTER, AND, AS, ASC, BOOL, BY, CARDINALITY, CREATE, DELETE, DESC, EXPLAIN, FALSE, FOREIGN, FROM, INSERT, INT, INTO, JOIN, KEY, LIMIT, ORDER, PAGINATE, PREPARE, PRIMARY, REFERENCES, RUN, SELECT, SET, SHOW, TABLE, TEXT, TRUE, UPDATE, VALUES, WHERE}
use Rattle.pq_shape.specs.declared.soft.Soft.TheVariants as soft_word
use Rattle.pq_shape.specs.declared.mark.TheConstants.{CLOSE, CLOSE_SQUARE, COLON, COMMA, EQUAL, GREATER, GREATER_EQUAL, LESS, LESS_EQUAL, OPEN, OPEN_SQUARE, POINT, SEMICOLON, STAR, UNEQUAL}

abbrev pub words : List (ℕ × List ℕ)
words =
    (AFTER, codes "AFTER")
    ∷ (AND, codes "AND")
    ∷ (AS, codes "AS")
    ∷ (ASC, codes "ASC")
    ∷ (BOOL, codes "BOOL")
    ∷ (BY, codes "BY")
    ∷ (CARDINALITY, codes "CARDINALITY")
    ∷ (CREATE, codes "CREATE")
    ∷ (DELETE, codes "DELETE")
    ∷ (DESC, codes "DESC")
    ∷ (EXPLAIN, codes "EXPLAIN")
    ∷ (FALSE, codes "FALSE")
    ∷ (FOREIGN, codes "FOREIGN")
    ∷ (FROM, codes "FROM")
    ∷ (INSERT, codes "INSERT")
    ∷ (INT, codes "INT")
    ∷ (INTO, codes "INTO")
    ∷ (JOIN, codes "JOIN")
    ∷ (KEY, codes "KEY")
    ∷ (LIMIT, codes "LIMIT")
    ∷ (ORDER, codes "ORDER")
    ∷ (PAGINATE, codes "PAGINATE")
    ∷ (PREPARE, codes "PREPARE")
    ∷ (PRIMARY, codes "PRIMARY")
    ∷ (REFERENCES, codes "REFERENCES")
    ∷ (RUN, codes "RUN")
    ∷ (SELECT, codes "SELECT")
    ∷ (SET, codes "SET")
    ∷ (SHOW, codes "SHOW")
    ∷ (TABLE, codes "TABLE")
    ∷ (TEXT, codes "TEXT")
    ∷ (TRUE, codes "TRUE")
    ∷ (UPDATE, codes "UPDATE")
    ∷ (VALUES, codes "VALUES")
    ∷ (WHERE, codes "WHERE") ∷ []

abbrev pub marks : List (ℕ × List ℕ)
marks =
    (OPEN, codes "(")
    ∷ (CLOSE, codes ")")
    ∷ (STAR, codes "*")
    ∷ (COMMA, codes ",")
    ∷ (POINT, codes ".")
    ∷ (COLON, codes ":")
    ∷ (SEMICOLON, codes ";")
    ∷ (LESS, codes "<")
    ∷ (EQUAL, codes "=")
    ∷ (GREATER, codes ">")
    ∷ (OPEN_SQUARE, codes "[")
    ∷ (CLOSE_SQUARE, codes "]")
    ∷ (LESS_EQUAL, codes "<=")
    ∷ (UNEQUAL, codes "<>")
    ∷ (GREATER_EQUAL, codes ">=") ∷ []

-- each constant is the place of its word in the keyword table
abbrev pub NamesWords : Type 0
NamesWords = map (λ p. slice_get keywords p.0) words ≡ map (λ p. Some p.1) words

-- each constant is the code of its mark
abbrev pub NamesMarks : Type 0
NamesMarks = map (λ p. mark_code p.1) marks ≡ map (λ p. p.0) marks

-- each soft word is the name that has the letters of a word of the table
abbrev pub NamesSoftWords : Type 0
NamesSoftWords = map soft_name (
    soft_word.Add ∷ soft_word.Alter ∷ soft_word.Batch ∷ soft_word.Column ∷ soft_word.Counter ∷ soft_word.Default
    ∷ soft_word.If ∷ soft_word.Is ∷ soft_word.Null ∷ soft_word.Of ∷ soft_word.Read ∷ []
    ) ≡ map lowercase_bytes softs
