-- What of a script is run: its pieces, and its rest where that is unfinished.
use Rattle.std.specs.Prelude.{ℕ, Bool, true, false, List, [], ◌∷◌, ◌++◌, map}
use Rattle.pq_text.specs.declared.piece.Piece.{Piece}
use Rattle.pq_text.specs.Pieces.{pieces_of, rest_of, is_unfinished}
use Rattle.pq_console.specs.declared.reading.Ending.{Ending}
use Rattle.pq_console.specs.declared.reading.Ending.TheVariants.{Whole, Faulted, TooLong}

pub data Item : Type 0 where
  Cut : Piece → Item
  Rest : Item

abbrev pub cut_items : List Piece → List Item
cut_items pieces = map Cut pieces

abbrev pub rest_items : Bool → List Item
rest_items true = Rest ∷ []
rest_items false = []

-- what is run of a script that was read so far; the rest has no part where the script was not read to its end
abbrev pub items_of : Ending → List ℕ → List Item
items_of Whole script = cut_items (pieces_of script) ++ rest_items (is_unfinished (rest_of script))
items_of Faulted script = cut_items (pieces_of script)
items_of TooLong script = cut_items (pieces_of script)
