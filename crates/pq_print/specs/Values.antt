-- The texts of values and of rows.
use Rattle.std.specs.Prelude.{ℕ, ◌==◌, if◌then◌else◌, Bool, true, false, List, [], ◌∷◌, ◌++◌, flat_map, codes}
use Rattle.std.specs.Fmt.{signed_decimal}
use Rattle.pq_base.specs.declared.value.Value.{Value}
use Rattle.pq_base.specs.declared.value.Value.TheVariants as value
use Rattle.pq_print.specs.Lists.{separate_texts}

abbrev pub truth_text : Bool → List ℕ
truth_text true = codes "true"
truth_text false = codes "false"

-- a quote is written twice, another byte once
abbrev pub doubled_quotes : ℕ → List ℕ
doubled_quotes byte = if byte == 39 then codes "''" else byte ∷ []

-- between quotes, with each quote in it written twice
abbrev pub quoted_text : List ℕ → List ℕ
quoted_text text = codes "'" ++ flat_map doubled_quotes text ++ codes "'"

abbrev pub value_text : Value → List ℕ
value_text value.Null = codes "NULL"
value_text (value.Int number) = signed_decimal number
value_text (value.Bool truth) = truth_text truth
value_text (value.Text text) = quoted_text text

abbrev pub row_text : List Value → List ℕ
row_text row = codes "row " ++ separate_texts (codes ", ") value_text row
