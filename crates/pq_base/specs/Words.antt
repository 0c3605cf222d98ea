-- Tables of words.
use Rattle.std.specs.Prelude.{◌∷◌, codes, ◌≡◌, ℕ, ◌+◌, ◌<◌, List, [], map, length, slice_index_or}
use Rattle.std.specs.Borrow.{Bor}
use Rattle.std.specs.Char.{to_ascii_uppercase}
use Rattle.std.specs.declared.cmp.Ordering.TheVariants.{Less}
use Rattle.std.specs.Ordering.{nat_cmp}
use Rattle.std.specs.Cmp.Lexicographic.{slice_cmp}

abbrev pub uppercase_byte : ℕ → ℕ
uppercase_byte = to_ascii_uppercase

abbrev pub texts : List (Bor (List ℕ)) → List (List ℕ)
texts words = map (λ w. w.now) words

-- each word is below the next, by its bytes
abbrev pub IsRising : List (List ℕ) → Type 0
IsRising words = (k : ℕ) → k + 1 < length words
    → slice_cmp nat_cmp (slice_index_or words k []) (slice_index_or words (k + 1) []) ≡ Less

-- the words that are no names
abbrev pub keywords : List (List ℕ)
keywords =
    codes "AFTER"
    ∷ codes "AND"
    ∷ codes "AS"
    ∷ codes "ASC"
    ∷ codes "BOOL"
    ∷ codes "BY"
    ∷ codes "CARDINALITY"
    ∷ codes "CREATE"
    ∷ codes "DELETE"
    ∷ codes "DESC"
    ∷ codes "EXPLAIN"
    ∷ codes "FALSE"
    ∷ codes "FOREIGN"
    ∷ codes "FROM"
    ∷ codes "INSERT"
    ∷ codes "INT"
    ∷ codes "INTO"
    ∷ codes "JOIN"
    ∷ codes "KEY"
    ∷ codes "LIMIT"
    ∷ codes "ORDER"
    ∷ codes "PAGINATE"
    ∷ codes "PREPARE"
    ∷ codes "PRIMARY"
    ∷ codes "REFERENCES"
    ∷ codes "RUN"
    ∷ codes "SELECT"
    ∷ codes "SET"
    ∷ codes "SHOW"
    ∷ codes "TABLE"
    ∷ codes "TEXT"
    ∷ codes "TRUE"
    ∷ codes "UPDATE"
    ∷ codes "VALUES"
    ∷ codes "WHERE" ∷ []

-- the numbers of refusals
abbrev pub refusals : List (List ℕ)
refusals =
    codes "E101"
    ∷ codes "E102"
    ∷ codes "E103"
    ∷ codes "E104"
    ∷ codes "E201"
    ∷ codes "E202"
    ∷ codes "E203"
    ∷ codes "E204"
    ∷ codes "E205"
    ∷ codes "E206"
    ∷ codes "E207"
    ∷ codes "E208"
    ∷ codes "E209"
    ∷ codes "E301"
    ∷ codes "E302"
    ∷ codes "E303"
    ∷ codes "E304"
    ∷ codes "E305"
    ∷ codes "E401"
    ∷ codes "E402"
    ∷ codes "E403"
    ∷ codes "E404"
    ∷ codes "E405"
    ∷ codes "E406"
    ∷ codes "E501"
    ∷ codes "E502"
    ∷ codes "E503"
    ∷ codes "E504"
    ∷ codes "E505"
    ∷ codes "E506"
    ∷ codes "E507"
    ∷ codes "E508"
    ∷ codes "E510"
    ∷ codes "E511"
    ∷ codes "E512"
    ∷ codes "E513"
    ∷ codes "E514" ∷ []

-- the words for counts outside their limits
abbrev pub counts : List (List ℕ)
counts =
    codes "cardinality"
    ∷ codes "columns"
    ∷ codes "counters"
    ∷ codes "definitions"
    ∷ codes "foreign"
    ∷ codes "indexes"
    ∷ codes "key"
    ∷ codes "limit_columns"
    ∷ codes "limits"
    ∷ codes "order"
    ∷ codes "predicates"
    ∷ codes "relations"
    ∷ codes "selected"
    ∷ codes "stop"
    ∷ codes "tables"
    ∷ codes "text"
    ∷ codes "writes" ∷ []

-- the words that are known in their places alone
abbrev pub softs : List (List ℕ)
softs =
    codes "ADD"
    ∷ codes "ALTER"
    ∷ codes "BATCH"
    ∷ codes "COLUMN"
    ∷ codes "COUNTER"
    ∷ codes "DEFAULT"
    ∷ codes "IF"
    ∷ codes "IS"
    ∷ codes "NULL"
    ∷ codes "OF"
    ∷ codes "READ" ∷ []
