use Rattle.std.proofs.Common.{◌≡◌, ◌∙◌, ap, sym, Bool, true, List, [], ◌∷◌, ℕ, length, get_or, codes, arith}
use Rattle.std.specs.Fmt.{decimal}
use Rattle.std.specs.Str.{bytes_eq}
use Rattle.std.proofs.lemmas.Slice.Eq.{bytes_eq-Decides}
use Rattle.pq_fill.proofs.words.form_of.Goals as goal

-- the word is seen as a text, which is compared with this one
spelled : (word seen text : List ℕ) (same : Bool) → seen ≡ word → same ≡ bytes_eq seen text → same ≡ true → word ≡ text
spelled word seen text same s e t = sym s ∙ (bytes_eq-Decides seen text).0 (sym e ∙ t)

one_word : (words : List (List ℕ)) (word text : List ℕ) → length words ≡ 1 → word ≡ get_or words 0 word → word ≡ text → words ≡ text ∷ []
one_word [] word text long is e = absurd (omega arith)
one_word (x ∷ []) word text long is e = ap (λ w. w ∷ []) (sym is ∙ e)
one_word (x ∷ y ∷ ws) word text long is e = absurd (omega arith)

two_words : (words : List (List ℕ)) (first second text other : List ℕ) → length words ≡ 2 → first ≡ get_or words 0 first → second ≡ get_or words 1 second → first ≡ text → second ≡ other → words ≡ text ∷ other ∷ []
two_words [] first second text other long is was e f = absurd (omega arith)
two_words (x ∷ []) first second text other long is was e f = absurd (omega arith)
two_words (x ∷ y ∷ []) first second text other long is was e f = ap (λ w. w ∷ y ∷ []) (sym is ∙ e) ∙ ap (λ w. text ∷ w ∷ []) (sym was ∙ f)
two_words (x ∷ y ∷ z ∷ ws) first second text other long is was e f = absurd (omega arith)

pub returns-in-len1-clause-spelled : goal.returns-in-len1-clause-spelled
returns-in-len1-clause-spelled c =
    one_word c.args.words.now c.word-item.result (codes "run") (omega arith) c.word-item.is
    (spelled c.word-item.result c.as_str.result.now (codes "run") c.eq.result c.as_str.ensures c.eq.ensures c.if-eq.true)

pub returns-in-len1-2-clause-spelled : goal.returns-in-len1-2-clause-spelled
returns-in-len1-2-clause-spelled c =
    one_word c.args.words.now c.word-item-then-words-lt2.result (codes "check") (omega arith) c.word-item-then-words-lt2.is
    (spelled c.word-item-then-words-lt2.result c.as_str-then-words-lt2.result.now (codes "check") c.eq-then-words-lt2.result c.as_str-then-words-lt2.ensures c.eq-then-words-lt2.ensures c.if-eq-2.true)

pub returns-in_ok-users-in-len2-clause-spelled : goal.returns-in_ok-users-in-len2-clause-spelled
returns-in_ok-users-in-len2-clause-spelled c =
    let found = c.in_ok-users-in-len2.ensures.some in (
      found.0,
      found.1,
      two_words c.args.words.now c.word-item-then-words-lt3.result c.number-item.result (codes "fill") (decimal c.in_ok-users-in-len2.users) (omega arith) c.word-item-then-words-lt3.is c.number-item.is
          (spelled c.word-item-then-words-lt3.result c.as_str-then-words-lt3.result.now (codes "fill") c.eq-then-words-lt3.result c.as_str-then-words-lt3.ensures c.eq-then-words-lt3.ensures c.if-eq-3.true)
          (sym c.as_str-in-len2.ensures ∙ found.2),
    )
