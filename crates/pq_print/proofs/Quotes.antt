-- Quotes that are written twice, character by character.
use Rattle.std.proofs.Common.{◌≡◌, ◌≢◌, ◌∙◌, sym, ap, lit<, ℕ, suc, ◌<◌, ◌==◌, ◌||◌, Bool, true, false, List, [], ◌∷◌, ◌++◌, length, get_or, flat_map, codes, refl, arith, encode_utf8, encode_utf8_all, append_assoc, append-nil}
use Rattle.std.proofs.lemmas.Str.{inside_one, encodes-append, encode_ascii}
use Rattle.std.proofs.lemmas.Grind.{flat_map-append}
use Rattle.std.proofs.lemmas.Bool.{ne_eqb, true≢false}
use Rattle.std.specs.List.{list_any}
use Rattle.pq_print.specs.Values.{doubled_quotes}

pub doubled_quote : (c : ℕ) → c ≡ 39 → flat_map doubled_quotes (encode_utf8 c) ≡ codes "''"
doubled_quote c e = rw (e, encode_ascii 39 (lit< tt)) refl

doubled_byte : (b : ℕ) → b ≢ 39 → doubled_quotes b ≡ b ∷ []
doubled_byte b n = rw (ne_eqb b 39 n) refl

doubled_none : (bs : List ℕ) → ((k : ℕ) → k < length bs → get_or bs k 0 ≢ 39) → flat_map doubled_quotes bs ≡ bs
doubled_none [] n = refl
doubled_none (b ∷ bs) n =
    let first : doubled_quotes b ≡ b ∷ [] = doubled_byte b (n 0 (omega arith)) in
    let rest : flat_map doubled_quotes bs ≡ bs = doubled_none bs (λ k h. n (suc k) (omega arith)) in
    rw (first, rest) refl

pub doubled_other : (c : ℕ) → c ≢ 39 → flat_map doubled_quotes (encode_utf8 c) ≡ encode_utf8 c
doubled_other c n =
    doubled_none (encode_utf8 c)
    (λ k h e. n (inside_one c [] (encode_utf8 c) k (sym (append-nil _)) h (omega (arith, e)) ∙ e))

pub doubled_more : (old a b cs : List ℕ) (c : ℕ) → a ≡ old ++ flat_map doubled_quotes (encode_utf8_all cs) → b ≡ a ++ flat_map doubled_quotes (encode_utf8 c) → b ≡ old ++ flat_map doubled_quotes (encode_utf8_all (cs ++ c ∷ []))
doubled_more old a b cs c e f = f ∙ rw (e, encodes-append cs (c ∷ [])) (simp (flat_map-append, append_assoc, append-nil))

plain_step : (b : ℕ) (bs : List ℕ) (q : Bool) → (b == 39) ≡ q → (q || list_any (λ c. c == 39) bs) ≡ false → (list_any (λ c. c == 39) bs ≡ false → flat_map doubled_quotes bs ≡ bs) → flat_map doubled_quotes (b ∷ bs) ≡ b ∷ bs
plain_step b bs true is none rest = absurd (true≢false none)
plain_step b bs false is none rest = rw is (ap (λ (cs : List ℕ). b ∷ cs) (rest none))

-- a text without quotes is as it was
pub doubled_plain : (bs : List ℕ) → list_any (λ b. b == 39) bs ≡ false → flat_map doubled_quotes bs ≡ bs
doubled_plain [] none = refl
doubled_plain (b ∷ bs) none = plain_step b bs (b == 39) refl none (doubled_plain bs)
