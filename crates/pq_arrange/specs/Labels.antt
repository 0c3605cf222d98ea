-- The classes of columns as a list of labels, each a column and what stands for its class.
use Rattle.std.specs.Prelude.{◌≡◌, List, [], ◌∷◌, ◌++◌, map, if◌then◌else◌}
use Rattle.pq_schema.specs.declared.query.ColRef.{ColRef}
use Rattle.pq_schema.specs.declared.query.Pred.{Pred}
use Rattle.pq_schema.specs.Resolved.{same_ref}
use Rattle.pq_arrange.specs.declared.labels.Label.{Label}
use Rattle.pq_arrange.specs.Classes.{class_of}

-- what the first label of a column says, and the column itself where there is none
abbrev pub class_in : List Label → ColRef → ColRef
class_in [] ref = ref
class_in (label ∷ labels) ref = if same_ref ref label.column then label.class else class_in labels ref

-- the labels tell the class of each column under these predicates
abbrev pub AreLabelsOf : List Pred → List Label → Type 0
AreLabelsOf preds labels = (ref : ColRef) → class_in labels ref ≡ class_of preds ref

-- the classes of both columns as one
abbrev pub relabelled_column : ColRef → ColRef → Label → Label
relabelled_column class gone label = record {
  column = label.column;
  class = if same_ref label.class gone then class
      else label.class;
}

abbrev pub joined_labels : ColRef → ColRef → List Label → List Label
joined_labels left other labels =
    map (relabelled_column (class_in labels left) (class_in labels other)) labels
    ++ record { column = class_in labels other; class = class_in labels left } ∷ []
