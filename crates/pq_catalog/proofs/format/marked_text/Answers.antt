use Rattle.std.proofs.Common.{◌≡◌, true, false, List, ℕ, cond, drop, Option, Some, None, refl, sym, ap, ◌∙◌, subst, arith}
use Rattle.std.specs.Prelude.{IsUtf8, MatchOption, option_map}
use Rattle.std.specs.Str.{is_utf8}
use Rattle.std.proofs.lemmas.List.{take_all, length-drop}
use Rattle.std.proofs.lemmas.Str.{is_utf8-from_IsUtf8, IsUtf8-from_is_utf8}
use Rattle.pq_catalog.specs.declared.format.Mark.{Mark}
use Rattle.pq_catalog.specs.Format.{mark_of, marked_text}
use Rattle.pq_catalog.proofs.format.marked_text.Goals as goal

abbrev with_text : List ℕ → Mark → Mark × List ℕ
with_text text mark = (mark, text)

no_text : (bytes : List ℕ) → (IsUtf8 bytes → ⊥) → is_utf8 bytes ≡ false
no_text bytes none =
    elim (is_utf8 bytes) as (λ b. is_utf8 bytes ≡ b → is_utf8 bytes ≡ false) [
      | true ↦ λ is. absurd (none (IsUtf8-from_is_utf8 bytes is))
      | false ↦ λ is. is
    ] refl

none_is : (value bytes : List ℕ) (found : Option (List ℕ)) → bytes ≡ drop 2 value → found ≡ None → MatchOption found (IsUtf8 bytes → ⊥) (λ text. IsUtf8 bytes × (text ≡ bytes)) → None ≡ marked_text value
none_is value bytes found same is h =
    let none : IsUtf8 bytes → ⊥ = subst (λ (o : Option (List ℕ)). MatchOption o (IsUtf8 bytes → ⊥) (λ text. IsUtf8 bytes × (text ≡ bytes))) is h in
    ap (λ b. cond b (option_map (with_text (drop 2 value)) (mark_of value)) None) (sym (ap is_utf8 (sym same) ∙ no_text bytes none))

some_is : (value bytes text : List ℕ) (found : Option (List ℕ)) (mark : Mark) → bytes ≡ drop 2 value → Some mark ≡ mark_of value → found ≡ Some text → MatchOption found (IsUtf8 bytes → ⊥) (λ text. IsUtf8 bytes × (text ≡ bytes)) → Some (with_text text mark) ≡ marked_text value
some_is value bytes text found mark same is_mark is h =
    let at : IsUtf8 bytes × (text ≡ bytes) = subst (λ (o : Option (List ℕ)). MatchOption o (IsUtf8 bytes → ⊥) (λ text. IsUtf8 bytes × (text ≡ bytes))) is h in
    ap (λ (t : List ℕ). Some (with_text t mark)) (at.1 ∙ same)
    ∙ ap (option_map (with_text (drop 2 value))) is_mark
    ∙ ap (λ b. cond b (option_map (with_text (drop 2 value)) (mark_of value)) None) (sym (ap is_utf8 (sym same) ∙ is_utf8-from_IsUtf8 bytes at.0))

pub returns-in-None : goal.returns-in-None
returns-in-None c = none_is c.args.value.now _ c.in_ok-from_bytes.field-0 (take_all _ (drop 2 c.args.value.now) (omega (arith, length-drop 2 c.args.value.now))) c.in-None.is c.in_ok-from_bytes.ensures

pub returns-in-Some-2 : goal.returns-in-Some-2
returns-in-Some-2 c = some_is c.args.value.now _ c.in-Some-2.text c.in_ok-from_bytes.field-0 c.in-Some.mark (take_all _ (drop 2 c.args.value.now) (omega (arith, length-drop 2 c.args.value.now))) c.in-Some.ensures.answer c.in-Some-2.is c.in_ok-from_bytes.ensures
