-- The reader of queries reads what the grammar says.
use Rattle.std.proofs.Common.{◌≡◌, ℕ, Bool, true, false, List, [], ◌∷◌, ◌++◌, Option, Some, None, ◌⊎◌, inl, inr, refl, sym, ap, subst, ◌∙◌}
use Rattle.std.proofs.lemmas.Bool.{eqb-true}
use Rattle.pq_grammar.specs.Language.{◌⋅◌, nothing, one, optional, separated_by, made_from}
use Rattle.pq_grammar.specs.Reader.{begins, pair_at, skip_at, close_at, option_at, option_items}
use Rattle.pq_grammar.proofs.Steps.{Reads, never, first_of_list, begins-never, wider_reads}
use Rattle.pq_grammar.proofs.Readers.{pair_reads, close_reads, map_reads}
use Rattle.pq_grammar.proofs.Options.{option_reads}
use Rattle.pq_grammar.proofs.Lists.{one_opens, then_opens, one_shuts, then_shuts, skip_free, same_set, separated_reads}
use Rattle.pq_grammar.proofs.Choices.{made_reads, choice_reads, begins_with, any_of, not_first, not_second, one_or_other}
use Rattle.pq_shape.specs.Front.{is_word_shape, is_mark_shape, is_name_shape, word_at, mark_at}
use Rattle.pq_shape.specs.Parts.{word, mark, comma}
use Rattle.pq_shape.proofs.Tokens.{word_reads, mark_reads}
use Rattle.pq_shape.specs.Shape.{Shape}
use Rattle.pq_shape.specs.Shape as shape
use Rattle.pq_shape.specs.Front.{is_between, between_at}
use Rattle.pq_shape.specs.declared.between.Between.TheVariants as between
use Rattle.pq_shape.specs.declared.keyword.TheConstants.{AND, BY, FROM, JOIN, LIMIT, ORDER, PAGINATE, SELECT, WHERE}
use Rattle.pq_shape.specs.declared.mark.TheConstants.{COMMA, POINT, SEMICOLON, STAR}
use Rattle.pq_shape.proofs.Tokens.{word_is, mark_is}
use Rattle.pq_query_read.specs.Grammar.{ref, relation, comma_or_join, pred, item, stop_tokens, selected_tokens, conditions, order_tokens, SpellsSelect}
use Rattle.pq_query_read.specs.Reading.{ref_at, is_alias, relation_clause_at, pred_at, item_at, stop_clause_at, refs_at, relations_at, preds_at, items_at, where_at, order_at, selected_at, select_at}
use Rattle.pq_query_read.specs.declared.select.ItemDef.{ItemDef}
use Rattle.pq_query_read.specs.declared.select.PredDef.{PredDef}
use Rattle.pq_query_read.specs.declared.select.RefDef.{RefDef}
use Rattle.pq_query_read.specs.declared.select.RelationDef.{RelationDef}
use Rattle.pq_query_read.specs.declared.select.Selected.{Selected}
use Rattle.pq_query_read.specs.declared.select.Selected.TheVariants as selected
use Rattle.pq_query_read.specs.declared.select.StopDef.{StopDef}
use Rattle.pq_query_read.specs.declared.select.StopDef.TheVariants as stop
use Rattle.pq_query_read.proofs.Elements.{ref_reads, relation_reads, between_reads, between_opens, is_item_more, item_reads, is_stop, stop_reads}
use Rattle.pq_query_read.proofs.Predicates.{pred_reads}

-- ---- lists

abbrev is_refs_more : Shape → Bool
is_refs_more = any_of (is_mark_shape POINT) (is_mark_shape COMMA)

comma_no_point : (t : Shape) → is_mark_shape COMMA t ≡ true → is_mark_shape POINT t ≡ false
unfolding is_mark_shape
comma_no_point t e = ap (is_mark_shape POINT) (mark_is COMMA t e)

comma_opens : (w : List Shape) → comma w → begins (is_mark_shape COMMA) w ≡ true
unfolding is_mark_shape
comma_opens w h = one_opens (is_mark_shape COMMA) (shape.Mark COMMA) refl w h

refs_reads : Reads (separated_by comma ref) is_refs_more refs_at
unfolding refs_at
refs_reads =
    separated_reads comma ref (is_mark_shape COMMA) (is_mark_shape POINT) is_refs_more (mark_at COMMA) ref_at (mark_reads COMMA) ref_reads
    comma_opens comma_no_point (not_first (is_mark_shape POINT) (is_mark_shape COMMA)) (not_second (is_mark_shape POINT) (is_mark_shape COMMA))

abbrev is_join : Shape → Bool
is_join = is_between between.CommaOrJoin

abbrev is_relations_more : Shape → Bool
is_relations_more = any_of is_alias is_join

join_no_alias : (t : Shape) → is_join t ≡ true → is_alias t ≡ false
unfolding is_mark_shape is_word_shape is_name_shape
join_no_alias (shape.Mark c) e = refl
join_no_alias (shape.Keyword k) e = ap (λ (i : ℕ). is_alias (shape.Keyword i)) (eqb-true k JOIN e)
join_no_alias (shape.Name n) e = absurd cc
join_no_alias (shape.Number z) e = refl
join_no_alias (shape.Text t) e = refl
join_no_alias shape.Other e = refl

relations_reads : Reads (separated_by comma_or_join relation) is_relations_more relations_at
unfolding relations_at
relations_reads =
    separated_reads comma_or_join relation is_join is_alias is_relations_more (between_at between.CommaOrJoin) relation_clause_at between_reads relation_reads
    between_opens join_no_alias (not_first is_alias is_join) (not_second is_alias is_join)

abbrev is_preds_more : Shape → Bool
is_preds_more = any_of (is_mark_shape POINT) (is_word_shape AND)

and_no_point : (t : Shape) → is_word_shape AND t ≡ true → is_mark_shape POINT t ≡ false
unfolding is_mark_shape
and_no_point t e = ap (is_mark_shape POINT) (word_is AND t e)

and_opens : (w : List Shape) → word AND w → begins (is_word_shape AND) w ≡ true
unfolding is_word_shape
and_opens w h = one_opens (is_word_shape AND) (shape.Keyword AND) refl w h

preds_reads : Reads (separated_by (word AND) pred) is_preds_more preds_at
unfolding preds_at
preds_reads =
    separated_reads (word AND) pred (is_word_shape AND) (is_mark_shape POINT) is_preds_more (word_at AND) pred_at (word_reads AND) pred_reads
    and_opens and_no_point (not_first (is_mark_shape POINT) (is_word_shape AND)) (not_second (is_mark_shape POINT) (is_word_shape AND))

abbrev is_items_more : Shape → Bool
is_items_more = any_of is_item_more (is_mark_shape COMMA)

comma_no_item : (t : Shape) → is_mark_shape COMMA t ≡ true → is_item_more t ≡ false
unfolding is_mark_shape is_word_shape
comma_no_item t e = ap is_item_more (mark_is COMMA t e)

items_reads : Reads (separated_by comma item) is_items_more items_at
unfolding items_at
items_reads =
    separated_reads comma item (is_mark_shape COMMA) is_item_more is_items_more (mark_at COMMA) item_at (mark_reads COMMA) item_reads
    comma_opens comma_no_item (not_first is_item_more (is_mark_shape COMMA)) (not_second is_item_more (is_mark_shape COMMA))

-- ---- parts that may be left out

maybe_to : {X : Type 0} (S : List X → List Shape → Type 0) (x : Option (List X)) (w : List Shape) → optional S x w → ((option_items x ≡ []) × nothing w) ⊎ S (option_items x) w
maybe_to S None w h = inl (refl, h)
maybe_to S (Some xs) w h = inr h

maybe_from : {X : Type 0} (S : List X → List Shape → Type 0) (y : List X) (w : List Shape) → ((y ≡ []) × nothing w) ⊎ S y w → (x : Option (List X)) × (option_items x ≡ y) × optional S x w
maybe_from S y w (inl h) = (None, sym h.0, h.1)
maybe_from S y w (inr h) = (Some y, refl, h)

abbrev wheres : List PredDef → List Shape → Type 0
wheres ps = word WHERE ⋅ separated_by (word AND) pred ps

abbrev is_where_more : Shape → Bool
is_where_more = any_of (is_word_shape WHERE) is_preds_more

where_reads : Reads conditions is_where_more where_at
unfolding where_at is_word_shape
where_reads =
    map_reads (optional wheres) conditions is_where_more option_items (option_at (is_word_shape WHERE) (skip_at (word_at WHERE) preds_at))
    (option_reads wheres (is_word_shape WHERE) is_where_more (skip_at (word_at WHERE) preds_at)
    (wider_reads wheres is_preds_more is_where_more _ (not_second (is_word_shape WHERE) is_preds_more) (skip_free (word WHERE) (separated_by (word AND) pred) is_preds_more (word_at WHERE) preds_at (word_reads WHERE) preds_reads))
    (λ ps w h. then_opens (is_word_shape WHERE) (shape.Keyword WHERE) (separated_by (word AND) pred ps) refl w h) (not_first (is_word_shape WHERE) is_preds_more))
    (maybe_to wheres) (maybe_from wheres)

abbrev orders : List ItemDef → List Shape → Type 0
orders is = word ORDER ⋅ word BY ⋅ separated_by comma item is

abbrev is_order_more : Shape → Bool
is_order_more = any_of (is_word_shape ORDER) is_items_more

order_reads : Reads order_tokens is_order_more order_at
unfolding order_at is_word_shape
order_reads =
    map_reads (optional orders) order_tokens is_order_more option_items (option_at (is_word_shape ORDER) (skip_at (word_at ORDER) (skip_at (word_at BY) items_at)))
    (option_reads orders (is_word_shape ORDER) is_order_more (skip_at (word_at ORDER) (skip_at (word_at BY) items_at))
    (wider_reads orders is_items_more is_order_more _ (not_second (is_word_shape ORDER) is_items_more)
    (skip_free (word ORDER) (λ is. word BY ⋅ separated_by comma item is) is_items_more (word_at ORDER) (skip_at (word_at BY) items_at) (word_reads ORDER)
    (skip_free (word BY) (separated_by comma item) is_items_more (word_at BY) items_at (word_reads BY) items_reads)))
    (λ is w h. then_opens (is_word_shape ORDER) (shape.Keyword ORDER) (word BY ⋅ separated_by comma item is) refl w h) (not_first (is_word_shape ORDER) is_items_more))
    (maybe_to orders) (maybe_from orders)

-- ---- what stands behind a part does not go on with it

maybe_shuts : (p : Shape → Bool) (t : Shape) (N : Type 0) (B C : List Shape → Type 0) → p t ≡ false → ((v rest : List Shape) → C v → begins p (v ++ rest) ≡ false)
    → (w rest front back : List Shape) → w ≡ front ++ back → (N × nothing front) ⊎ (one t ⋅ B) front → C back → begins p (w ++ rest) ≡ false
maybe_shuts p t N B C e shuts w rest front back parts (inl h) c = ap (λ (v : List Shape). begins p (v ++ rest)) (parts ∙ ap (λ (u : List Shape). u ++ back) h.1) ∙ shuts back rest c
maybe_shuts p t N B C e shuts w rest front back parts (inr h) c = begins_with p t w rest (ap first_of_list (parts ∙ ap (λ (u : List Shape). u ++ back) (h.parts ∙ ap (λ (u : List Shape). u ++ h.back) h.fits_front))) ∙ e

abbrev stop_tail : StopDef → List Shape → Type 0
stop_tail s = stop_tokens s ⋅ mark SEMICOLON

stop_tail_shuts : (p : Shape → Bool) → p (shape.Keyword LIMIT) ≡ false → p (shape.Keyword PAGINATE) ≡ false → p (shape.Mark SEMICOLON) ≡ false → (s : StopDef) (w rest : List Shape) → stop_tail s w → begins p (w ++ rest) ≡ false
stop_tail_shuts p a b d stop.All w rest h = begins_with p (shape.Mark SEMICOLON) w rest (ap first_of_list (h.parts ∙ ap (λ (u : List Shape). u ++ h.back) h.fits_front) ∙ ap first_of_list h.fits_back) ∙ d
stop_tail_shuts p a b d (stop.Limit z) w rest h =
    let k = h.fits_front in
    begins_with p (shape.Keyword LIMIT) w rest (ap first_of_list (h.parts ∙ ap (λ (u : List Shape). u ++ h.back) (k.parts ∙ ap (λ (u : List Shape). u ++ k.back) k.fits_front))) ∙ a
stop_tail_shuts p a b d (stop.Paginate z) w rest h =
    let k = h.fits_front in
    begins_with p (shape.Keyword PAGINATE) w rest (ap first_of_list (h.parts ∙ ap (λ (u : List Shape). u ++ h.back) (k.parts ∙ ap (λ (u : List Shape). u ++ k.back) k.fits_front))) ∙ b

abbrev order_tail : List ItemDef × StopDef → List Shape → Type 0
order_tail y = order_tokens y.0 ⋅ stop_tail y.1

order_tail_shuts : (p : Shape → Bool) → p (shape.Keyword ORDER) ≡ false → p (shape.Keyword LIMIT) ≡ false → p (shape.Keyword PAGINATE) ≡ false → p (shape.Mark SEMICOLON) ≡ false
    → (y : List ItemDef × StopDef) (w rest : List Shape) → order_tail y w → begins p (w ++ rest) ≡ false
order_tail_shuts p o a b d y w rest h =
    maybe_shuts p (shape.Keyword ORDER) (y.0 ≡ []) (word BY ⋅ separated_by comma item y.0) (stop_tail y.1) o (stop_tail_shuts p a b d y.1) w rest h.front h.back h.parts h.fits_front h.fits_back

abbrev where_tail : List PredDef × (List ItemDef × StopDef) → List Shape → Type 0
where_tail y = conditions y.0 ⋅ order_tail y.1

where_tail_shuts : (p : Shape → Bool) → p (shape.Keyword WHERE) ≡ false → p (shape.Keyword ORDER) ≡ false → p (shape.Keyword LIMIT) ≡ false → p (shape.Keyword PAGINATE) ≡ false → p (shape.Mark SEMICOLON) ≡ false
    → (y : List PredDef × (List ItemDef × StopDef)) (w rest : List Shape) → where_tail y w → begins p (w ++ rest) ≡ false
where_tail_shuts p q o a b d y w rest h =
    maybe_shuts p (shape.Keyword WHERE) (y.0 ≡ []) (separated_by (word AND) pred y.0) (order_tail y.1) q (order_tail_shuts p o a b d y.1) w rest h.front h.back h.parts h.fits_front h.fits_back

stop_tail_reads : Reads stop_tail never (close_at stop_clause_at (mark_at SEMICOLON))
unfolding is_word_shape
stop_tail_reads = close_reads stop_tokens (mark SEMICOLON) is_stop never stop_clause_at (mark_at SEMICOLON) stop_reads (mark_reads SEMICOLON) (λ v rest h e. one_shuts is_stop (shape.Mark SEMICOLON) refl v rest h)

order_tail_reads : Reads order_tail never (pair_at order_at (close_at stop_clause_at (mark_at SEMICOLON)))
unfolding is_word_shape is_mark_shape
order_tail_reads =
    pair_reads order_tokens stop_tail is_order_more never order_at (close_at stop_clause_at (mark_at SEMICOLON)) order_reads stop_tail_reads (λ s v rest h e. stop_tail_shuts is_order_more refl refl refl s v rest h)

where_tail_reads : Reads where_tail never (pair_at where_at (pair_at order_at (close_at stop_clause_at (mark_at SEMICOLON))))
unfolding is_word_shape is_mark_shape
where_tail_reads =
    pair_reads conditions order_tail is_where_more never where_at (pair_at order_at (close_at stop_clause_at (mark_at SEMICOLON))) where_reads order_tail_reads (λ y v rest h e. order_tail_shuts is_where_more refl refl refl refl y v rest h)

abbrev Sources : Type 0
Sources = List RelationDef × (List PredDef × (List ItemDef × StopDef))

abbrev sources : Sources → List Shape → Type 0
sources y = separated_by comma_or_join relation y.0 ⋅ where_tail y.1

sources_reads : Reads sources never (pair_at relations_at (pair_at where_at (pair_at order_at (close_at stop_clause_at (mark_at SEMICOLON)))))
unfolding is_word_shape is_mark_shape is_name_shape
sources_reads =
    pair_reads (separated_by comma_or_join relation) where_tail is_relations_more never relations_at (pair_at where_at (pair_at order_at (close_at stop_clause_at (mark_at SEMICOLON)))) relations_reads where_tail_reads
    (λ y v rest h e. where_tail_shuts is_relations_more refl refl refl refl refl y v rest h)

-- ---- the query

abbrev star_made : Selected → List Shape → Type 0
star_made = made_from (λ (u : Unit {0}). selected.Star) (λ u. mark STAR)

abbrev refs_made : Selected → List Shape → Type 0
refs_made = made_from (λ rs. selected.Refs rs) (separated_by comma ref)

refs_is : (x y : List RefDef) → selected.Refs x ≡ selected.Refs y → x ≡ y
refs_is x y e = cc

chosen_to : (x : Selected) (w : List Shape) → one_or_other star_made refs_made x w → selected_tokens x w
chosen_to selected.Star w (inl h) = h.2
chosen_to (selected.Refs rs) w (inl h) = absurd cc
chosen_to selected.Star w (inr h) = absurd cc
chosen_to (selected.Refs rs) w (inr h) = subst (λ (x : List RefDef). separated_by comma ref x w) (refs_is h.0 rs h.1) h.2

chosen_from : (x : Selected) (w : List Shape) → selected_tokens x w → one_or_other star_made refs_made x w
chosen_from selected.Star w h = inl (tt, refl, h)
chosen_from (selected.Refs rs) w h = inr (rs, refl, h)

no_star : (rs : List RefDef) (w rest : List Shape) → separated_by comma ref rs w → begins (is_mark_shape STAR) (w ++ rest) ≡ false
unfolding is_mark_shape
no_star [] w rest h = absurd h
no_star (r ∷ rs) w rest h =
    begins_with (is_mark_shape STAR) (shape.Name r.first) w rest
    (ap first_of_list (h.parts ∙ ap (λ (u : List Shape). u ++ h.back) (h.fits_front.parts ∙ ap (λ (u : List Shape). u ++ h.fits_front.back) h.fits_front.fits_front)))

chosen_reads : Reads selected_tokens is_refs_more selected_at
unfolding selected_at is_mark_shape
chosen_reads =
    same_set (one_or_other star_made refs_made) selected_tokens is_refs_more selected_at chosen_to chosen_from
    (choice_reads star_made refs_made (is_mark_shape STAR) _ _ is_refs_more
    (wider_reads star_made never is_refs_more _ (λ rest e. begins-never rest) (made_reads (λ u. selected.Star) (λ u. mark STAR) never (mark_at STAR) (mark_reads STAR)))
    (made_reads (λ rs. selected.Refs rs) (separated_by comma ref) is_refs_more refs_at refs_reads)
    (λ x w h. one_opens (is_mark_shape STAR) (shape.Mark STAR) refl w h.2) (λ x w rest h e. no_star h.0 w rest h.2))

abbrev Selects : Type 0
Selects = Selected × Sources

abbrev selects : Selects → List Shape → Type 0
selects x = word SELECT ⋅ selected_tokens x.0 ⋅ word FROM ⋅ sources x.1

pub select_reads : Reads SpellsSelect never select_at
unfolding select_at is_mark_shape is_word_shape
select_reads =
    map_reads selects SpellsSelect never (λ x. record { selected = x.0; relations = x.1.0; preds = x.1.1.0; order = x.1.1.1.0; stop = x.1.1.1.1 }) _
    (skip_free (word SELECT) (λ (x : Selects). selected_tokens x.0 ⋅ word FROM ⋅ sources x.1) never (word_at SELECT) _ (word_reads SELECT)
    (pair_reads selected_tokens (λ y. word FROM ⋅ sources y) is_refs_more never selected_at _ chosen_reads
    (skip_free (word FROM) sources never (word_at FROM) _ (word_reads FROM) sources_reads)
    (λ y v rest h e. then_shuts is_refs_more (shape.Keyword FROM) (sources y) refl v rest h)))
    (λ x w h. h) (λ s w h. ((s.selected, (s.relations, (s.preds, (s.order, s.stop)))), refl, h))
