-- Labels after one more equality.
use Rattle.std.proofs.Common.{◌≡◌, Bool, true, false, cond, List, [], ◌∷◌, ◌++◌, map, refl, sym, ap, ◌∙◌}
use Rattle.pq_schema.specs.declared.query.ColRef.{ColRef}
use Rattle.pq_schema.specs.declared.query.Pred.{Pred}
use Rattle.pq_schema.specs.declared.query.Operand.{Operand}
use Rattle.pq_schema.specs.declared.query.Operand.TheVariants as operand
use Rattle.pq_schema.specs.Relations.{is_equality}
use Rattle.pq_schema.specs.Resolved.{same_ref}
use Rattle.pq_arrange.specs.declared.labels.Label.{Label}
use Rattle.pq_arrange.specs.Classes.{class_of, joined_with, merged_classes}
use Rattle.pq_arrange.specs.Labels.{class_in, AreLabelsOf, relabelled_column, joined_labels}

-- where each label of a class says another one, and so does the class itself
merged_in : (class gone : ColRef) (labels : List Label) (ref : ColRef) → class_in (map (relabelled_column class gone) labels ++ record { column = gone; class = class } ∷ []) ref ≡ cond (same_ref (class_in labels ref) gone) class (class_in labels ref)
merged_in class gone [] ref = refl
merged_in class gone (label ∷ labels) ref =
    elim (same_ref ref label.column) as (λ b. cond b (cond (same_ref label.class gone) class label.class) (class_in (map (relabelled_column class gone) labels ++ record { column = gone; class = class } ∷ []) ref) ≡ cond (same_ref (cond b label.class (class_in labels ref)) gone) class (cond b label.class (class_in labels ref))) [
      | true ↦ refl
      | false ↦ merged_in class gone labels ref
    ]

-- an equality of two columns before the others
pub labels_joined : (pred : Pred) (other : ColRef) (preds : List Pred) (labels : List Label) → pred.right ≡ operand.Col other → is_equality pred.op ≡ true → AreLabelsOf preds labels → AreLabelsOf (pred ∷ preds) (joined_labels pred.left other labels)
labels_joined pred other preds labels right equal are ref =
    merged_in (class_in labels pred.left) (class_in labels other) labels ref
    ∙ (λ i. cond (same_ref (are ref i) (are other i)) (are pred.left i) (are ref i))
    ∙ sym (ap (λ (o : Operand). joined_with pred o (class_of preds) ref) right ∙ ap (λ (b : Bool). cond b (merged_classes pred.left other (class_of preds)) (class_of preds) ref) equal)

-- any other predicate
pub labels_kept : (pred : Pred) (preds : List Pred) (labels : List Label) → ((other : ColRef) → pred.right ≡ operand.Col other → is_equality pred.op ≡ false) → AreLabelsOf preds labels → AreLabelsOf (pred ∷ preds) labels
labels_kept pred preds labels other_op are ref = are ref ∙ kept pred.right refl
  where
    kept : (right : Operand) → pred.right ≡ right → class_of preds ref ≡ joined_with pred right (class_of preds) ref
    kept (operand.Const value) e = refl
    kept (operand.Param number) e = refl
    kept (operand.Col other) e = sym (ap (λ (b : Bool). cond b (merged_classes pred.left other (class_of preds)) (class_of preds) ref) (other_op other e))
