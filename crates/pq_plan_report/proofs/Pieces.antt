-- What is told of pieces, one more each time.
use Rattle.std.proofs.Common.{◌≡◌, ℕ, ◌+◌, ◌≤◌, ◌<◌, Bool, true, false, ◌||◌, List, [], ◌∷◌, ◌++◌, Option, Some, None, if◌then◌else◌, drop, get_or, length, length-append, append_assoc, refl, sym, ap, subst, ◌∙◌, arith}
use Rattle.std.proofs.lemmas.List.{append-nil, drop_more, drop_all}
use Rattle.pq_schema.specs.Schema.{Schema, empty_schema}
use Rattle.pq_text.specs.Pieces.{Place, Plain, after_front, after_piece, all_told, behind, is_cut, joined_split, is_unfinished, piece_list, pieces_of, rest_of, split_from, told_piece as piece_of}
use Rattle.pq_text.specs.declared.piece.Piece.{Piece}
use Rattle.pq_print.specs.Report.{is_refusal}
use Rattle.pq_statement.specs.Actions.{action_of}
use Rattle.pq_plan_report.specs.Plans.{IsSummed}
use Rattle.pq_plan_report.specs.Told.{AreSummed, is_refused, report_of, rest_text, schema_behind, some_refused, told_piece, told_pieces, told_script}
use Rattle.pq_plan_report.specs.declared.telling.Telling.{Telling}

or_assoc : (a b c : Bool) → ((a || b) || c) ≡ (a || (b || c))
or_assoc true b c = refl
or_assoc false b c = refl

or_false : (a : Bool) → (a || false) ≡ a
or_false true = refl
or_false false = refl

-- what is told of the pieces so far and what the others come to are what all come to
pub record ToldSoFar (pieces : List Piece) (done : ℕ) (now : Telling) : Type 0 where
  pub number : now.number ≡ done + 1
  pub text : now.told.text ++ told_pieces now.session now.number (drop done pieces) ≡ told_pieces empty_schema 1 pieces
  pub refused : (now.told.refused || some_refused now.session now.number (drop done pieces)) ≡ some_refused empty_schema 1 pieces
  pub summed : AreSummed now.session now.number (drop done pieces) → AreSummed empty_schema 1 pieces

-- a piece is told behind the others
pub record TellsNext (now next : Telling) (piece : Piece) : Type 0 where
  pub session : next.session ≡ schema_behind now.session now.number piece
  pub number : next.number ≡ now.number + 1
  pub text : next.told.text ≡ now.told.text ++ told_piece now.session now.number piece
  pub refused : next.told.refused ≡ (now.told.refused || is_refusal (report_of now.session now.number piece))
  pub summed : IsSummed now.session (action_of now.session piece)

pub told_none : (pieces : List Piece) (now : Telling) → now.session ≡ empty_schema → now.number ≡ 1 → now.told.text ≡ [] → now.told.refused ≡ false → ToldSoFar pieces 0 now
told_none pieces now session number text refused = record {
  number = number;
  text = λ i. text i ++ told_pieces (session i) (number i) pieces;
  refused = λ i. refused i || some_refused (session i) (number i) pieces;
  summed = λ all. subst (λ (n : ℕ). AreSummed empty_schema n pieces) number (subst (λ (s : Schema). AreSummed s now.number pieces) session all);
}

pub told_next : (pieces : List Piece) (done : ℕ) (now next : Telling) (piece : Piece) → done < length pieces → piece ≡ get_or pieces done piece → ToldSoFar pieces done now → TellsNext now next piece
    → ToldSoFar pieces (done + 1) next
told_next pieces done now next piece within at so_far is =
    let rest = drop (done + 1) pieces in
    let first : drop done pieces ≡ piece ∷ rest = drop_more pieces done piece within ∙ ap (λ (p : Piece). p ∷ rest) (sym at) in
    record {
      number = is.number ∙ ap (λ n. n + 1) so_far.number;
      text = (λ i. is.text i ++ told_pieces (is.session i) (is.number i) rest)
          ∙ append_assoc now.told.text (told_piece now.session now.number piece) (told_pieces (schema_behind now.session now.number piece) (now.number + 1) rest)
          ∙ ap (λ (ps : List Piece). now.told.text ++ told_pieces now.session now.number ps) (sym first) ∙ so_far.text;
      refused = (λ i. is.refused i || some_refused (is.session i) (is.number i) rest)
          ∙ or_assoc now.told.refused (is_refusal (report_of now.session now.number piece)) (some_refused (schema_behind now.session now.number piece) (now.number + 1) rest)
          ∙ ap (λ (ps : List Piece). now.told.refused || some_refused now.session now.number ps) (sym first) ∙ so_far.refused;
      summed = λ all. so_far.summed (subst (AreSummed now.session now.number) (sym first)
          (is.summed, subst (λ (n : ℕ). AreSummed (schema_behind now.session now.number piece) n rest) is.number (subst (λ (s : Schema). AreSummed s next.number rest) is.session all)));
    }

module _ (pieces : List Piece) (done : ℕ) (now : Telling) (past : length pieces ≤ done) (so_far : ToldSoFar pieces done now) where
  end : drop done pieces ≡ []
  end = drop_all done pieces past

  pub all_text : now.told.text ≡ told_pieces empty_schema 1 pieces
  all_text = sym (append-nil now.told.text) ∙ ap (λ (ps : List Piece). now.told.text ++ told_pieces now.session now.number ps) (sym end) ∙ so_far.text

  pub all_refused : now.told.refused ≡ some_refused empty_schema 1 pieces
  all_refused = sym (or_false now.told.refused) ∙ ap (λ (ps : List Piece). now.told.refused || some_refused now.session now.number ps) (sym end) ∙ so_far.refused

  pub all_summed : AreSummed empty_schema 1 pieces
  all_summed = so_far.summed (subst (AreSummed now.session now.number) (sym end) tt)

-- ---- a script has no more pieces than bytes

front_few : (front : List ℕ) (pieces : List (List ℕ)) (rest : List ℕ) → length (joined_split front pieces rest).pieces ≡ length pieces
front_few front [] rest = refl
front_few front (w ∷ ws) rest = refl

few_cut : (cut : Bool) (place : Place) (b : ℕ) (bs : List ℕ) → ((p : Place) → length (split_from p bs).pieces ≤ length bs)
    → length (if cut then after_piece (b ∷ []) (split_from Plain bs) else after_front (b ∷ []) (split_from (behind place b bs) bs)).pieces ≤ length (b ∷ bs)
few_cut true place b bs few = omega (arith, few Plain)
few_cut false place b bs few =
    let s = split_from (behind place b bs) bs in
    omega (arith, few (behind place b bs), front_few (b ∷ []) s.pieces s.rest)

few_split : (place : Place) (bs : List ℕ) → length (split_from place bs).pieces ≤ length bs
unfolding split_from
few_split place [] = omega arith
few_split place (b ∷ bs) = few_cut (is_cut place b) place b bs (λ p. few_split p bs)

few_list : (told : Option Piece) → length (piece_list told) ≤ 1
few_list None = omega arith
few_list (Some piece) = omega arith

few_told : (ws : List (List ℕ)) → length (all_told ws) ≤ length ws
few_told [] = omega arith
few_told (w ∷ ws) = omega (arith, few_told ws, few_list (piece_of w), length-append (piece_list (piece_of w)) (all_told ws))

pub few_pieces : (script : List ℕ) → length (pieces_of script) ≤ length script
unfolding pieces_of
few_pieces script = omega (arith, few_told (split_from Plain script).pieces, few_split Plain script)

-- ---- a script

module _ (script : List ℕ) (pieces : List Piece) (unfinished : Bool) (now : Telling) (pieces_is : pieces ≡ pieces_of script) (rest_is : unfinished ≡ is_unfinished (rest_of script)) where
  pub script_told : now.told.text ≡ told_pieces empty_schema 1 pieces → now.number ≡ length pieces + 1 → (text : List ℕ) → text ≡ now.told.text ++ rest_text unfinished now.number → text ≡ told_script script
  unfolding told_script
  script_told told number text is =
      is ∙ (λ i. (told ∙ ap (told_pieces empty_schema 1) pieces_is) i ++ rest_text (rest_is i) ((number ∙ ap (λ (ps : List Piece). length ps + 1) pieces_is) i))

  pub script_refused : now.told.refused ≡ some_refused empty_schema 1 pieces → (refused : Bool) → refused ≡ (now.told.refused || unfinished) → refused ≡ is_refused script
  unfolding is_refused
  script_refused some refused is = is ∙ (λ i. (some ∙ ap (some_refused empty_schema 1) pieces_is) i || rest_is i)
