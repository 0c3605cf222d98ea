use Rattle.std.proofs.Common.{◌≡◌, ◌∙◌, ap, sym, Bool, true, List, [], ◌∷◌, ℕ, length, get_or, codes, arith}
use Rattle.std.specs.Fmt.{decimal}
use Rattle.std.specs.Str.{bytes_eq}
use Rattle.std.proofs.lemmas.Slice.Eq.{bytes_eq-Decides}
use Rattle.pq_client_shell.proofs.words.clients_of.Goals as goal

-- the word is seen as a text, which is compared with this one
spelled : (word seen text : List ℕ) (same : Bool) → seen ≡ word → same ≡ bytes_eq seen text → same ≡ true → word ≡ text
spelled word seen text same s e t = sym s ∙ (bytes_eq-Decides seen text).0 (sym e ∙ t)

two_words : (words : List (List ℕ)) (first second text other : List ℕ) → length words ≡ 2 → first ≡ get_or words 0 first → second ≡ get_or words 1 second → first ≡ text → second ≡ other → words ≡ text ∷ other ∷ []
two_words [] first second text other long is was e f = absurd (omega arith)
two_words (x ∷ []) first second text other long is was e f = absurd (omega arith)
two_words (x ∷ y ∷ []) first second text other long is was e f = ap (λ w. w ∷ y ∷ []) (sym is ∙ e) ∙ ap (λ w. text ∷ w ∷ []) (sym was ∙ f)
two_words (x ∷ y ∷ z ∷ ws) first second text other long is was e f = absurd (omega arith)

pub returns-in_ok-k-in-len2-clause-spelled : goal.returns-in_ok-k-in-len2-clause-spelled
returns-in_ok-k-in-len2-clause-spelled c =
    let found = c.in_ok-k-in-len2.ensures.some in (
      found.0,
      found.1,
      two_words c.args.words.now c.word-item.result c.number-item.result (codes "clients") (decimal c.in_ok-k-in-len2.k) (omega arith) c.word-item.is c.number-item.is
          (spelled c.word-item.result c.as_str.result.now (codes "clients") c.eq.result c.as_str.ensures c.eq.ensures c.if-eq.true)
          (sym c.as_str-in-len2.ensures ∙ found.2),
    )
