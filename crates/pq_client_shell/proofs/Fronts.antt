-- The pieces before the first write.
use Rattle.std.proofs.Common.{◌≡◌, ℕ, ◌+◌, ◌≤◌, ◌<◌, true, false, List, [], ◌∷◌, length, drop, get_or, refl, sym, ap, ◌∙◌, arith}
use Rattle.std.proofs.lemmas.List.{drop_more, drop_all}
use Rattle.std.specs.Prelude.{is_some}
use Rattle.pq_text.specs.declared.piece.Piece.{Piece}
use Rattle.pq_client_shell.specs.Writes.{front_count, written_of}

none_in : front_count [] ≡ 0
unfolding front_count
none_in = refl

at_write : (p : Piece) (ps : List Piece) → is_some (written_of p) ≡ true → front_count (p ∷ ps) ≡ 0
unfolding front_count
at_write p ps writes = rw writes refl

at_other : (p : Piece) (ps : List Piece) → is_some (written_of p) ≡ false → front_count (p ∷ ps) ≡ 1 + front_count ps
unfolding front_count
at_other p ps other = rw other refl

-- so many pieces stand before the place at which a write is found
pub front_here : (ps : List Piece) (i n : ℕ) (p : Piece) → i < length ps → p ≡ get_or ps i p → is_some (written_of p) ≡ true → front_count ps ≡ n + front_count (drop i ps) → n ≡ front_count ps
front_here ps i n p short is writes so_far =
    let cut : drop i ps ≡ p ∷ drop (i + 1) ps = drop_more ps i p short ∙ ap (λ x. x ∷ drop (i + 1) ps) (sym is) in
    omega (arith, so_far, ap front_count cut, at_write p (drop (i + 1) ps) writes)

pub front_next : (ps : List Piece) (i n : ℕ) (p : Piece) → i < length ps → p ≡ get_or ps i p → is_some (written_of p) ≡ false → front_count ps ≡ n + front_count (drop i ps) → front_count ps ≡ (n + 1) + front_count (drop (i + 1) ps)
front_next ps i n p short is other so_far =
    let cut : drop i ps ≡ p ∷ drop (i + 1) ps = drop_more ps i p short ∙ ap (λ x. x ∷ drop (i + 1) ps) (sym is) in
    omega (arith, so_far, ap front_count cut, at_other p (drop (i + 1) ps) other)

pub front_end : (ps : List Piece) (i n : ℕ) → length ps ≤ i → front_count ps ≡ n + front_count (drop i ps) → n ≡ front_count ps
front_end ps i n long so_far = omega (arith, so_far, ap front_count (drop_all i ps long), none_in)
