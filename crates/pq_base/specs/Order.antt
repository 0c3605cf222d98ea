-- The order of values and of rows. Both are total, also across kinds and lengths.
use Rattle.std.specs.Prelude.{List, [], ◌∷◌}
use Rattle.std.specs.Ordering.{nat_cmp, int_cmp, bool_cmp, ordering_then, ordering_reverse}
use Rattle.std.specs.Cmp.Lexicographic.{slice_cmp}
use Rattle.std.specs.declared.cmp.Ordering.{Ordering}
use Rattle.std.specs.declared.cmp.Ordering.TheVariants.{Less, Equal, Greater}
use Rattle.pq_base.specs.declared.value.Value.{Value}
use Rattle.pq_base.specs.declared.value.Value.TheVariants as value
use Rattle.pq_base.specs.declared.value.Dir.{Dir}
use Rattle.pq_base.specs.declared.value.Dir.TheVariants.{Asc, Desc}

-- NULL first, numbers by size, before false and then true, before texts by their bytes
abbrev pub value_cmp : Value → Value → Ordering
value_cmp value.Null value.Null = Equal
value_cmp value.Null (value.Int b) = Less
value_cmp value.Null (value.Bool b) = Less
value_cmp value.Null (value.Text b) = Less
value_cmp (value.Int a) value.Null = Greater
value_cmp (value.Bool a) value.Null = Greater
value_cmp (value.Text a) value.Null = Greater
value_cmp (value.Int a) (value.Int b) = int_cmp a b
value_cmp (value.Int a) (value.Bool b) = Less
value_cmp (value.Int a) (value.Text b) = Less
value_cmp (value.Bool a) (value.Int b) = Greater
value_cmp (value.Bool a) (value.Bool b) = bool_cmp a b
value_cmp (value.Bool a) (value.Text b) = Less
value_cmp (value.Text a) (value.Int b) = Greater
value_cmp (value.Text a) (value.Bool b) = Greater
value_cmp (value.Text a) (value.Text b) = slice_cmp nat_cmp a b

abbrev pub directed_order : Dir → Ordering → Ordering
directed_order Asc order = order
directed_order Desc order = ordering_reverse order

-- by the first place that differs, turned round where it descends; a list before those that it begins
abbrev pub position_cmp : List Dir → List Value → List Value → Ordering
position_cmp ds [] [] = Equal
position_cmp ds [] (y ∷ ys) = Less
position_cmp ds (x ∷ xs) [] = Greater
position_cmp [] (x ∷ xs) (y ∷ ys) = ordering_then (value_cmp x y) (position_cmp [] xs ys)
position_cmp (d ∷ ds) (x ∷ xs) (y ∷ ys) = ordering_then (directed_order d (value_cmp x y)) (position_cmp ds xs ys)
