-- How many pieces a script has.
use Rattle.std.proofs.Common.{◌≡◌, ℕ, ◌≤◌, Bool, true, false, cond, List, [], ◌∷◌, length, Option, Some, None, refl, arith, length-append}
use Rattle.pq_text.specs.Pieces.{Place, Plain, behind, is_cut, joined_split, after_front, after_piece, split_from, told_piece, piece_list, all_told, pieces_of}
use Rattle.pq_text.specs.declared.piece.Piece.{Piece}
use Rattle.pq_console.specs.Reading.{TookBytes, script_limit}
use Rattle.pq_console.specs.declared.reading.Ending.{Ending}
use Rattle.pq_console.specs.declared.reading.Ending.TheVariants.{Whole, Faulted, TooLong}

joined_few : (front : List ℕ) (ws : List (List ℕ)) (rest : List ℕ) → length (joined_split front ws rest).pieces ≡ length ws
joined_few front [] rest = refl
joined_few front (w ∷ ws) rest = refl

split_few : (place : Place) (bs : List ℕ) → length (split_from place bs).pieces ≤ length bs
unfolding split_from
split_few place [] = omega arith
split_few place (b ∷ bs) = by (is_cut place b) (split_few Plain bs) (split_few (behind place b bs) bs)
  where
    by : (c : Bool) → length (split_from Plain bs).pieces ≤ length bs → length (split_from (behind place b bs) bs).pieces ≤ length bs → length (cond c (after_piece (b ∷ []) (split_from Plain bs)) (after_front (b ∷ []) (split_from (behind place b bs) bs))).pieces ≤ length (b ∷ bs)
    by true first other = omega (arith, first)
    by false first other = omega (arith, other, joined_few (b ∷ []) (split_from (behind place b bs) bs).pieces (split_from (behind place b bs) bs).rest)

one_few : (o : Option Piece) → length (piece_list o) ≤ 1
one_few None = omega arith
one_few (Some p) = omega arith

told_few : (ws : List (List ℕ)) → length (all_told ws) ≤ length ws
told_few [] = omega arith
told_few (w ∷ ws) = omega (arith, one_few (told_piece w), told_few ws, length-append (piece_list (told_piece w)) (all_told ws))

-- no more than it has bytes
pub pieces_few : (bytes : List ℕ) → length (pieces_of bytes) ≤ length bytes
unfolding pieces_of
pieces_few bytes = omega (arith, told_few (split_from Plain bytes).pieces, split_few Plain bytes)

pub took_few : (ending : Ending) (left left' : Option (List ℕ)) (bytes : List ℕ) → TookBytes ending left left' bytes → length bytes ≤ script_limit
took_few Whole left left' bytes took = took.2
took_few Faulted left left' bytes took = took.1
took_few TooLong left left' bytes took = omega (arith, took.2)
