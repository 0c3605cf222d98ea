-- Lists that are asked for, written and read part by part.
use Rattle.std.proofs.Common.{◌≡◌, ◌<◌, ℕ, List, [], ◌∷◌, ◌++◌, length, get_or, flat_map, Result, Ok, Err, sym, ap, ◌∙◌, arith}
use Rattle.std.proofs.lemmas.List.{append_assoc, flat_map_more}
use Rattle.std.proofs.lemmas.List.Folds.{length-flat_map-take}

module _ {X Y : Type 0} (f : X → List Y) where
  -- an item's bytes are a part of all
  pub longer_than_one : (xs : List X) (i : ℕ) (x : X) → i < length xs → x ≡ get_or xs i x → (n : ℕ) → n < length (f x) → n < length (flat_map f xs)
  longer_than_one xs i x less is n long =
      let part = length-flat_map-take f xs i x less in
      let same = ap (λ z. length (f z)) is in
      omega (arith, part, same, long)

  -- one item more was read
  pub read_more : (found : List X) (x : X) (body rest behind : List Y) → body ≡ flat_map f found ++ rest → rest ≡ f x ++ behind → body ≡ flat_map f (found ++ x ∷ []) ++ behind
  read_more found x body rest behind before one =
      before ∙ ap (λ l. flat_map f found ++ l) one ∙ sym (append_assoc (flat_map f found) (f x) behind) ∙ ap (λ l. l ++ behind) (flat_map_more f [] found x)

error_or : {A E : Type 0} → E → Result A E → E
error_or e (Ok _) = e
error_or e (Err x) = x

-- a result has one error
pub same_error : {A E : Type 0} (result : Result A E) (x e : E) → result ≡ Err x → result ≡ Err e → x ≡ e
unfolding error_or
same_error result x e is told = ap (error_or e) (sym is ∙ told)
