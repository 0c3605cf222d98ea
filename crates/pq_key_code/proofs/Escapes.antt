-- Texts with their zeros escaped.
use Rattle.std.proofs.Common.{◌≡◌, ℕ, zero, suc, ◌+◌, ◌<◌, ◌==◌, false, cond, eqb, List, [], ◌∷◌, ◌++◌, length, map, take, get_or, refl, sym, ap, ◌∙◌, append_assoc, arith}
use Rattle.std.proofs.lemmas.Bool.{ne_eqb}
use Rattle.std.proofs.lemmas.List.{take_more, map-append}
use Rattle.pq_base.specs.declared.value.Dir.{Dir}
use Rattle.pq_base.specs.declared.value.Dir.TheVariants.{Asc}
use Rattle.std.specs.List.{list_any}
use Rattle.pq_key_code.specs.KeyCode.{turned_byte, escaped_text}

pub escaped-append : (p q : List ℕ) → escaped_text (p ++ q) ≡ escaped_text p ++ escaped_text q
escaped-append [] q = refl
escaped-append (zero ∷ p) q = ap (λ (t : List ℕ). 0 ∷ 255 ∷ t) (escaped-append p q)
escaped-append (suc b ∷ p) q = ap (λ (t : List ℕ). suc b ∷ t) (escaped-append p q)

-- what one byte is written as
pub escaped_one : (b : ℕ) → escaped_text (b ∷ []) ≡ cond (eqb b 0) (0 ∷ 255 ∷ []) (b ∷ [])
escaped_one zero = refl
escaped_one (suc b) = rw (ne_eqb (suc b) 0 (λ e. absurd (omega arith))) refl

-- one more byte
pub escaped_more : (d : Dir) (bs : List ℕ) (i : ℕ) → i < length bs → map (turned_byte d) (escaped_text (take (i + 1) bs)) ≡ map (turned_byte d) (escaped_text (take i bs)) ++ map (turned_byte d) (escaped_text (get_or bs i 0 ∷ []))
escaped_more d bs i lt = ap (λ (t : List ℕ). map (turned_byte d) (escaped_text t)) (take_more bs i 0 lt) ∙ ap (map (turned_byte d)) (escaped-append (take i bs) (get_or bs i 0 ∷ [])) ∙ map-append (turned_byte d) (escaped_text (take i bs)) (escaped_text (get_or bs i 0 ∷ []))

-- the same, behind what stood there before
pub escaped_step : (d : Dir) (bs : List ℕ) (i : ℕ) (old out new : List ℕ) → i < length bs → out ≡ old ++ map (turned_byte d) (escaped_text (take i bs)) → new ≡ out ++ map (turned_byte d) (escaped_text (get_or bs i 0 ∷ [])) → new ≡ old ++ map (turned_byte d) (escaped_text (take (i + 1) bs))
escaped_step d bs i old out new lt before put =
    put ∙ ap (λ (o : List ℕ). o ++ map (turned_byte d) (escaped_text (get_or bs i 0 ∷ []))) before
    ∙ append_assoc old (map (turned_byte d) (escaped_text (take i bs))) (map (turned_byte d) (escaped_text (get_or bs i 0 ∷ [])))
    ∙ ap (λ (o : List ℕ). old ++ o) (sym (escaped_more d bs i lt))

-- ascending bytes are as they were
pub ascending : (bs : List ℕ) → map (turned_byte Asc) bs ≡ bs
ascending [] = refl
ascending (b ∷ bs) = ap (λ (t : List ℕ). b ∷ t) (ascending bs)

-- a text without zeros is as it was
pub escaped_plain : (bs : List ℕ) → list_any (λ x. x == 0) bs ≡ false → escaped_text bs ≡ bs
escaped_plain [] none = refl
escaped_plain (zero ∷ bs) none = absurd (cc)
escaped_plain (suc b ∷ bs) none = ap (λ (t : List ℕ). suc b ∷ t) (escaped_plain bs (rw (ne_eqb (suc b) 0 (λ e. absurd (omega arith))) at none))
