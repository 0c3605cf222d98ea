-- The scan by bytes keeps the places of bytes: a dash is settled by the byte behind it.
use Rattle.std.proofs.Common.{◌≡◌, ℕ, ◌+◌, Bool, true, false, cond, eqb, ltb, not, ◌||◌, ◌&&◌, List, [], ◌∷◌, length, Some, None, refl, sym, ap, subst, ◌∙◌, zero-add}
use Rattle.std.proofs.lemmas.Bool.{eqb-true}
use Rattle.pq_text.specs.Bytes.{is_white, next_is}
use Rattle.pq_text.specs.Cutting.{next_plain, next, cuts, shows, is_dash, state_behind, is_solid}
use Rattle.pq_text.specs.Pieces.{Place, Plain, Text, Comment, behind, is_cut, is_content, has_content, piece_limit, statement, told_piece}
use Rattle.pq_text.specs.Summaries.{start_summary, grown_summary, told_of}
use Rattle.pq_text.specs.declared.piece.Piece.TheVariants as piece
use Rattle.pq_text.specs.declared.state.State.{State}
use Rattle.pq_text.specs.declared.state.State.TheVariants as state
use Rattle.pq_text.proofs.CutSteps.{or_assoc}

abbrev pub two : List ℕ → Bool
two bs = next_is (λ c. eqb c 45) bs

-- the place of the next byte
abbrev pub place_of : State → List ℕ → Place
place_of state.Plain bs = Plain
place_of state.Dash bs = cond (two bs) Comment Plain
place_of state.Text bs = Text
place_of state.Comment bs = Comment

plain_place : (quote dash : Bool) (bs : List ℕ) → cond quote Text (cond (dash && two bs) Comment Plain) ≡ place_of (cond quote state.Text (cond dash state.Dash state.Plain)) bs
plain_place true dash bs = refl
plain_place false true bs = refl
plain_place false false bs = refl

dash_place : (b : ℕ) (bs : List ℕ) (dash : Bool) → eqb b 45 ≡ dash → behind (cond dash Comment Plain) b bs ≡ place_of (cond dash state.Comment (next_plain b)) bs
dash_place b bs true e = subst (λ (c : ℕ). behind Comment c bs ≡ Comment) (sym (eqb-true b 45 e)) refl
dash_place b bs false e = plain_place (eqb b 39) (eqb b 45) bs

text_place : (quote : Bool) (bs : List ℕ) → cond quote Plain Text ≡ place_of (cond quote state.Plain state.Text) bs
text_place true bs = refl
text_place false bs = refl

comment_place : (line : Bool) (bs : List ℕ) → cond line Plain Comment ≡ place_of (cond line state.Plain state.Comment) bs
comment_place true bs = refl
comment_place false bs = refl

pub place_next : (s : State) (b : ℕ) (bs : List ℕ) → behind (place_of s (b ∷ bs)) b bs ≡ place_of (next s b) bs
place_next state.Plain b bs = plain_place (eqb b 39) (eqb b 45) bs
place_next state.Dash b bs = dash_place b bs (eqb b 45) refl
place_next state.Text b bs = text_place (eqb b 39) bs
place_next state.Comment b bs = comment_place (eqb b 10) bs

dash_cuts : (b : ℕ) (dash : Bool) → eqb b 45 ≡ dash → is_cut (cond dash Comment Plain) b ≡ eqb b 59
dash_cuts b true e = subst (λ (c : ℕ). false ≡ eqb c 59) (sym (eqb-true b 45 e)) refl
dash_cuts b false e = refl

pub place_cuts : (s : State) (b : ℕ) (bs : List ℕ) → is_cut (place_of s (b ∷ bs)) b ≡ cuts s b
place_cuts state.Plain b bs = refl
place_cuts state.Dash b bs = dash_cuts b (eqb b 45) refl
place_cuts state.Text b bs = refl
place_cuts state.Comment b bs = refl

-- a dash stands last that begins no comment
abbrev is_due : State → List ℕ → Bool
is_due s bs = is_dash s && not (two bs)

plain_content_other : (white cut quote : Bool) (bs : List ℕ) → not ((white || cut) || false) ≡ (not ((white || false) || cut) || is_due (cond quote state.Text state.Plain) bs)
plain_content_other true cut true bs = refl
plain_content_other true cut false bs = refl
plain_content_other false true true bs = refl
plain_content_other false true false bs = refl
plain_content_other false false true bs = refl
plain_content_other false false false bs = refl

plain_content : (b : ℕ) (bs : List ℕ) (dash : Bool) → eqb b 45 ≡ dash → is_content Plain b bs ≡ (shows state.Plain b || is_due (next_plain b) bs)
plain_content b bs true e = subst (λ (c : ℕ). is_content Plain c bs ≡ (shows state.Plain c || is_due (next_plain c) bs)) (sym (eqb-true b 45 e)) refl
plain_content b bs false e = rw e (plain_content_other (is_white b) (eqb b 59) (eqb b 39) bs)

dash_content : (b : ℕ) (bs : List ℕ) (dash : Bool) → (not dash || is_content (cond dash Comment Plain) b bs) ≡ (not dash || is_due (cond dash state.Comment (next_plain b)) bs)
dash_content b bs true = refl
dash_content b bs false = refl

comment_content : (line : Bool) (bs : List ℕ) → false ≡ is_due (cond line state.Plain state.Comment) bs
comment_content true bs = refl
comment_content false bs = refl

content_step : (s : State) (b : ℕ) (bs : List ℕ) → (is_due s (b ∷ bs) || is_content (place_of s (b ∷ bs)) b bs) ≡ (shows s b || is_due (next s b) bs)
content_step state.Plain b bs = plain_content b bs (eqb b 45) refl
content_step state.Dash b bs = dash_content b bs (eqb b 45)
content_step state.Text b bs = refl
content_step state.Comment b bs = comment_content (eqb b 10) bs

content_end : (s : State) → (is_due s [] || false) ≡ is_dash s
content_end state.Plain = refl
content_end state.Dash = refl
content_end state.Text = refl
content_end state.Comment = refl

content_from : (s : State) (bs : List ℕ) → (is_due s bs || has_content (place_of s bs) bs) ≡ (is_solid s bs || is_dash (state_behind s bs))
unfolding has_content is_solid state_behind
content_from s [] = content_end s
content_from s (b ∷ bs) =
    let later = has_content (place_of (next s b) bs) bs in
    ap (λ (p : Place). is_due s (b ∷ bs) || (is_content (place_of s (b ∷ bs)) b bs || has_content p bs)) (place_next s b bs)
    ∙ sym (or_assoc (is_due s (b ∷ bs)) (is_content (place_of s (b ∷ bs)) b bs) later)
    ∙ ap (λ (v : Bool). v || later) (content_step s b bs)
    ∙ or_assoc (shows s b) (is_due (next s b) bs) later
    ∙ ap (λ (v : Bool). shows s b || v) (content_from (next s b) bs)
    ∙ sym (or_assoc (shows s b) (is_solid (next s b) bs) (is_dash (state_behind (next s b) bs)))

pub content_is : (w : List ℕ) → has_content Plain w ≡ (is_solid state.Plain w || is_dash (state_behind state.Plain w))
content_is w = content_from state.Plain w

or_none : (a b : Bool) → b ≡ false → (a || b) ≡ a
or_none true b e = refl
or_none false b e = e

told_same : (w : List ℕ) (long solid : Bool) → cond long (Some piece.TooLong) (cond solid (Some (statement (cond long [] w))) None) ≡ cond long (Some piece.TooLong) (cond solid (Some (statement w)) None)
told_same w true solid = refl
told_same w false solid = refl

pub told_is : (w : List ℕ) → is_dash (state_behind state.Plain w) ≡ false → told_of (grown_summary start_summary w) ≡ told_piece w
unfolding grown_summary
told_is w e =
    let content : has_content Plain w ≡ is_solid state.Plain w = content_is w ∙ or_none (is_solid state.Plain w) (is_dash (state_behind state.Plain w)) e in
    told_same w (ltb piece_limit (0 + length w)) (is_solid state.Plain w)
    ∙ ap (λ (n : ℕ). cond (ltb piece_limit n) (Some piece.TooLong) (cond (is_solid state.Plain w) (Some (statement w)) None)) (zero-add (length w))
    ∙ ap (λ (v : Bool). cond (ltb piece_limit (length w)) (Some piece.TooLong) (cond v (Some (statement w)) None)) (sym content)
