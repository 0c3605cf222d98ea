-- Printed pieces are cut into their shapes.
use Rattle.std.proofs.Common.{◌≡◌, ℕ, pos, Bool, true, List, [], ◌∷◌, ◌++◌, refl, ap, ◌∙◌, ◌<◌, ◌^◌, negsuc, length, arith}
use Rattle.std.proofs.lemmas.Bool.Decides.{nat_tests}
use Rattle.std.proofs.lemmas.Fmt.{decimal_nonempty}
use Rattle.pq_text.specs.Bytes.{is_mark, is_double_mark}
use Rattle.pq_text.specs.Tokens.{tokens_of}
use Rattle.pq_grammar.specs.Language.{◌⋅◌}
use Rattle.pq_shape.specs.Shapes.{shapes_of, word_shape}
use Rattle.pq_shape.specs.Shape.{Shape}
use Rattle.pq_reread.specs.Printed.{Piece, piece_text, piece_shapes, printed_pieces, shapes_printed, joins_none, joins, IsPiece, ArePieces}
use Rattle.pq_reread.specs.Printed.Piece.{Word, Number, Text, Mark, Space}
use Rattle.pq_reread.proofs.Prints.{Prints, join, respelled, nothing_prints, behind, space, mark_prints, two_marks_print, word_prints, signed_prints, text_prints, whole}

abbrev just : List Shape → List Shape → Type 0
just shapes w = w ≡ shapes

-- a mark of two bytes is one of the marks and another
second_mark : (a b : ℕ) → is_double_mark a b ≡ true → is_mark a ≡ true
second_mark a b double = grind (arith, nat_tests)

piece_prints : (piece : Piece) → IsPiece piece → Prints (just (piece_shapes piece)) joins_none (piece_text piece) (joins piece)
piece_prints (Word w) is = word_prints w (word_shape w) is refl
piece_prints (Number z) is = signed_prints z is
piece_prints (Text t) is = text_prints t is
piece_prints (Mark []) is = absurd cc
piece_prints (Mark (a ∷ [])) is = mark_prints a joins_none is refl
piece_prints (Mark (a ∷ b ∷ [])) is = two_marks_print a b joins_none (second_mark a b is) is refl
piece_prints (Mark (a ∷ b ∷ c ∷ m)) is = absurd cc
piece_prints Space is = space joins_none refl (nothing_prints joins_none)

joined : (front back w : List Shape) → (just front ⋅ just back) w → just (front ++ back) w
joined front back w h = h.parts ∙ ap (λ (v : List Shape). v ++ h.back) h.fits_front ∙ ap (λ (v : List Shape). front ++ v) h.fits_back

piece_some : (piece : Piece) → IsPiece piece → 0 < length (piece_text piece)
piece_some (Word []) is = absurd cc
piece_some (Word (b ∷ w)) is = omega arith
piece_some (Number (pos n)) is = decimal_nonempty n (let small : n < 2 ^ 63 = is.sfits in omega arith)
piece_some (Number (negsuc n)) is = omega arith
piece_some (Text t) is = omega arith
piece_some (Mark []) is = absurd cc
piece_some (Mark (a ∷ m)) is = omega arith
piece_some Space is = omega arith

pieces_print : (t : ℕ → Bool) (pieces : List Piece) → ArePieces t pieces → (u : ℕ → Bool) × Prints (just (shapes_printed pieces)) t (printed_pieces pieces) u
pieces_print t [] are = (t, nothing_prints t)
pieces_print t (piece ∷ pieces) are =
    let first = behind t (piece_text piece) (piece_some piece are.0) are.1 (piece_prints piece are.0) in
    let rest = pieces_print (joins piece) pieces are.2 in
    (rest.0, respelled (joined (piece_shapes piece) (shapes_printed pieces)) (join first rest.1))

pub pieces_cut : (pieces : List Piece) → ArePieces joins_none pieces → shapes_of (printed_pieces pieces) (tokens_of (printed_pieces pieces)) ≡ shapes_printed pieces
pieces_cut pieces are = let p = pieces_print joins_none pieces are in whole (just (shapes_printed pieces)) (printed_pieces pieces) p.0 p.1
