-- The readers of a query's columns, relations, order and stop read what the grammar says.
use Rattle.std.proofs.Common.{◌≡◌, ℕ, ℤ, Bool, true, false, cond, List, [], ◌∷◌, ◌++◌, Option, Some, None, inl, inr, refl, ap, subst, ◌∙◌}
use Rattle.pq_base.specs.declared.value.Dir.{Dir}
use Rattle.pq_base.specs.declared.value.Dir.TheVariants as dir
use Rattle.pq_grammar.specs.Language.{◌⋅◌, nothing, optional, made_from}
use Rattle.pq_grammar.specs.Reader.{Reader, begins, picked_token, pair_at, skip_at, choice_at}
use Rattle.pq_grammar.proofs.Steps.{Reads, never, begins-never, wider_reads}
use Rattle.pq_grammar.proofs.Readers.{pair_reads, map_reads}
use Rattle.pq_grammar.proofs.Options.{option_reads}
use Rattle.pq_grammar.proofs.Lists.{one_opens, then_opens, one_shuts, then_shuts, pair_free, skip_free, same_set}
use Rattle.pq_grammar.proofs.Choices.{made_reads, choice_reads, any_of, not_first, not_second, one_or_other}
use Rattle.pq_shape.specs.Front.{is_word_shape, is_mark_shape, is_name_shape, word_at, mark_at, name_at, number_at}
use Rattle.pq_shape.specs.Parts.{word, mark, comma, name, number}
use Rattle.pq_shape.proofs.Tokens.{word_reads, mark_reads, name_reads, number_reads}
use Rattle.pq_shape.specs.Shape.{Shape}
use Rattle.pq_shape.specs.Shape as shape
use Rattle.pq_grammar.specs.Reader.{nothing_at}
use Rattle.pq_grammar.proofs.Readers.{same_reads}
use Rattle.pq_grammar.proofs.Options.{nothing_reads}
use Rattle.pq_shape.specs.Front.{is_between, between_at}
use Rattle.pq_shape.specs.declared.between.Between.TheVariants as between
use Rattle.pq_shape.specs.declared.keyword.TheConstants.{AS, ASC, DESC, JOIN, LIMIT, PAGINATE}
use Rattle.pq_shape.specs.declared.mark.TheConstants.{COMMA, POINT}
use Rattle.pq_query_read.specs.Grammar.{ref, alias, relation, comma_or_join, direction, item, stop_tokens}
use Rattle.pq_query_read.specs.Reading.{part_at, ref_at, is_alias, alias_at, relation_clause_at, dir_at, item_at, stop_clause_at}
use Rattle.pq_query_read.specs.declared.select.RefDef.{RefDef}
use Rattle.pq_query_read.specs.declared.select.StopDef.{StopDef}
use Rattle.pq_query_read.specs.declared.select.StopDef.TheVariants as stop

pub wide : {X : Type 0} (S : X → List Shape → Type 0) (m : Shape → Bool) (r : Reader Shape X) → Reads S never r → Reads S m r
wide S m r h = wider_reads S never m r (λ rest e. begins-never rest) h

-- ---- columns and relations

part_reads : Reads (optional (λ n. mark POINT ⋅ name n)) (is_mark_shape POINT) part_at
unfolding part_at is_mark_shape
part_reads =
    option_reads (λ n. mark POINT ⋅ name n) (is_mark_shape POINT) (is_mark_shape POINT) (skip_at (mark_at POINT) name_at)
    (wide (λ n. mark POINT ⋅ name n) (is_mark_shape POINT) _ (skip_free (mark POINT) name never (mark_at POINT) name_at (mark_reads POINT) name_reads))
    (λ n w h. then_opens (is_mark_shape POINT) (shape.Mark POINT) (name n) refl w h) (λ rest e. e)

pub ref_reads : Reads ref (is_mark_shape POINT) ref_at
unfolding ref_at
ref_reads =
    map_reads (λ (x : List ℕ × Option (List ℕ)). name x.0 ⋅ optional (λ n. mark POINT ⋅ name n) x.1) ref (is_mark_shape POINT) (λ x. record { first = x.0; second = x.1 }) (pair_at name_at part_at)
    (pair_free name (optional (λ n. mark POINT ⋅ name n)) (is_mark_shape POINT) name_at part_at name_reads part_reads) (λ x w h. h) (λ r w h. ((r.first, r.second), refl, h))

-- a column begins with a name
pub ref_opens : (r : RefDef) (w : List Shape) → ref r w → begins is_name_shape w ≡ true
unfolding is_name_shape
ref_opens r w h = then_opens is_name_shape (shape.Name r.first) _ refl w h

alias_opens : (n : List ℕ) (w : List Shape) → alias n w → begins is_alias w ≡ true
unfolding is_word_shape is_name_shape
alias_opens n w (inl h) = then_opens is_alias (shape.Keyword AS) (name n) refl w h
alias_opens n w (inr h) = one_opens is_alias (shape.Name n) refl w h

alias_reads : Reads (optional alias) is_alias alias_at
unfolding alias_at is_word_shape
alias_reads =
    option_reads alias is_alias is_alias _
    (wide alias is_alias _
    (choice_reads (λ n. word AS ⋅ name n) name (is_word_shape AS) (skip_at (word_at AS) name_at) name_at never (skip_free (word AS) name never (word_at AS) name_at (word_reads AS) name_reads) name_reads
    (λ n w h. then_opens (is_word_shape AS) (shape.Keyword AS) (name n) refl w h) (λ n w rest h e. one_shuts (is_word_shape AS) (shape.Name n) refl w rest h)))
    alias_opens (λ rest e. e)

pub relation_reads : Reads relation is_alias relation_clause_at
unfolding relation_clause_at
relation_reads =
    map_reads (λ (x : List ℕ × Option (List ℕ)). name x.0 ⋅ optional alias x.1) relation is_alias (λ x. record { table = x.0; alias = x.1 }) (pair_at name_at alias_at)
    (pair_free name (optional alias) is_alias name_at alias_at name_reads alias_reads) (λ x w h. h) (λ r w h. ((r.table, r.alias), refl, h))

-- a comma or JOIN
between_by : (a b : Bool) (ts : List Shape) → picked_token {X = Unit {0}} (cond (cond a true b) (Some tt) None) ts ≡ cond a (picked_token (cond a (Some tt) None) ts) (picked_token (cond b (Some tt) None) ts)
between_by true b ts = refl
between_by false b ts = refl

between_same : (ts : List Shape) → between_at between.CommaOrJoin ts ≡ choice_at (is_mark_shape COMMA) (mark_at COMMA) (word_at JOIN) ts
between_same [] = refl
between_same (t ∷ ts) = between_by (is_mark_shape COMMA t) (is_word_shape JOIN t) ts

pub between_reads : Reads (λ _. comma_or_join) never (between_at between.CommaOrJoin)
unfolding is_mark_shape
between_reads =
    same_reads (λ _. comma_or_join) never (choice_at (is_mark_shape COMMA) (mark_at COMMA) (word_at JOIN)) (between_at between.CommaOrJoin) between_same
    (choice_reads (λ _. comma) (λ _. word JOIN) (is_mark_shape COMMA) (mark_at COMMA) (word_at JOIN) never (mark_reads COMMA) (word_reads JOIN)
    (λ u w h. one_opens (is_mark_shape COMMA) (shape.Mark COMMA) refl w h) (λ u w rest h e. one_shuts (is_mark_shape COMMA) (shape.Keyword JOIN) refl w rest h))

pub between_opens : (w : List Shape) → comma_or_join w → begins (is_between between.CommaOrJoin) w ≡ true
unfolding is_mark_shape is_word_shape
between_opens w (inl h) = one_opens (is_between between.CommaOrJoin) (shape.Mark COMMA) refl w h
between_opens w (inr h) = one_opens (is_between between.CommaOrJoin) (shape.Keyword JOIN) refl w h

-- ---- the order

abbrev pub is_dir : Shape → Bool
is_dir = any_of (is_word_shape DESC) (is_word_shape ASC)

abbrev desc_made : Dir → List Shape → Type 0
desc_made = made_from (λ (u : Unit {0}). dir.Desc) (λ u. word DESC)

abbrev asc_made : Dir → List Shape → Type 0
asc_made = made_from (λ (u : Unit {0}). dir.Asc) (λ u. word ASC)

abbrev none_made : Dir → List Shape → Type 0
none_made = made_from (λ (u : Unit {0}). dir.Asc) (λ u. nothing)

dir_to : (d : Dir) (w : List Shape) → one_or_other desc_made (one_or_other asc_made none_made) d w → direction d w
dir_to d w (inl h) = subst (λ (x : Dir). direction x w) h.1 h.2
dir_to d w (inr (inl h)) = subst (λ (x : Dir). direction x w) h.1 (inl h.2)
dir_to d w (inr (inr h)) = subst (λ (x : Dir). direction x w) h.1 (inr h.2)

dir_from : (d : Dir) (w : List Shape) → direction d w → one_or_other desc_made (one_or_other asc_made none_made) d w
dir_from dir.Desc w h = inl (tt, refl, h)
dir_from dir.Asc w (inl h) = inr (inl (tt, refl, h))
dir_from dir.Asc w (inr h) = inr (inr (tt, refl, h))

pub nothing_shuts : (p : Shape → Bool) (w rest : List Shape) → w ≡ [] → begins p rest ≡ false → begins p (w ++ rest) ≡ false
nothing_shuts p w rest h e = ap (λ (v : List Shape). begins p (v ++ rest)) h ∙ e

no_desc : (d : Dir) (w rest : List Shape) → one_or_other asc_made none_made d w → begins is_dir rest ≡ false → begins (is_word_shape DESC) (w ++ rest) ≡ false
unfolding is_word_shape
no_desc d w rest (inl h) e = one_shuts (is_word_shape DESC) (shape.Keyword ASC) refl w rest h.2
no_desc d w rest (inr h) e = nothing_shuts (is_word_shape DESC) w rest h.2 (not_first (is_word_shape DESC) (is_word_shape ASC) rest e)

pub dir_reads : Reads direction is_dir dir_at
unfolding dir_at is_word_shape
dir_reads =
    same_set (one_or_other desc_made (one_or_other asc_made none_made)) direction is_dir dir_at dir_to dir_from
    (choice_reads desc_made (one_or_other asc_made none_made) (is_word_shape DESC) _ _ is_dir (wide desc_made is_dir _ (made_reads (λ u. dir.Desc) (λ u. word DESC) never (word_at DESC) (word_reads DESC)))
    (choice_reads asc_made none_made (is_word_shape ASC) _ _ is_dir (wide asc_made is_dir _ (made_reads (λ u. dir.Asc) (λ u. word ASC) never (word_at ASC) (word_reads ASC))) (made_reads (λ u. dir.Asc) (λ u. nothing) is_dir nothing_at (nothing_reads is_dir))
    (λ d w h. one_opens (is_word_shape ASC) (shape.Keyword ASC) refl w h.2) (λ d w rest h e. nothing_shuts (is_word_shape ASC) w rest h.2 (not_second (is_word_shape DESC) (is_word_shape ASC) rest e)))
    (λ d w h. one_opens (is_word_shape DESC) (shape.Keyword DESC) refl w h.2) (λ d w rest h e. no_desc d w rest h e))

-- what may not follow a column of the order
abbrev pub is_item_more : Shape → Bool
is_item_more = any_of (is_mark_shape POINT) is_dir

dir_shuts : (d : Dir) (w rest : List Shape) → direction d w → begins is_item_more rest ≡ false → begins (is_mark_shape POINT) (w ++ rest) ≡ false
unfolding is_mark_shape
dir_shuts dir.Desc w rest h e = one_shuts (is_mark_shape POINT) (shape.Keyword DESC) refl w rest h
dir_shuts dir.Asc w rest (inl h) e = one_shuts (is_mark_shape POINT) (shape.Keyword ASC) refl w rest h
dir_shuts dir.Asc w rest (inr h) e = nothing_shuts (is_mark_shape POINT) w rest h (not_first (is_mark_shape POINT) is_dir rest e)

pub item_reads : Reads item is_item_more item_at
unfolding item_at
item_reads =
    map_reads (λ (x : RefDef × Dir). ref x.0 ⋅ direction x.1) item is_item_more (λ x. record { col = x.0; dir = x.1 }) (pair_at ref_at dir_at)
    (pair_reads ref direction (is_mark_shape POINT) is_item_more ref_at dir_at ref_reads (wider_reads direction is_dir is_item_more dir_at (not_second (is_mark_shape POINT) is_dir) dir_reads) dir_shuts)
    (λ x w h. h) (λ i w h. ((i.col, i.dir), refl, h))

-- ---- the stop

abbrev pub is_stop : Shape → Bool
is_stop = any_of (is_word_shape LIMIT) (is_word_shape PAGINATE)

abbrev limit_made : StopDef → List Shape → Type 0
limit_made = made_from (λ (z : ℤ). stop.Limit z) (λ z. word LIMIT ⋅ number z)

abbrev page_made : StopDef → List Shape → Type 0
page_made = made_from (λ (z : ℤ). stop.Paginate z) (λ z. word PAGINATE ⋅ number z)

abbrev all_made : StopDef → List Shape → Type 0
all_made = made_from (λ (u : Unit {0}). stop.All) (λ u. nothing)

stop_to : (s : StopDef) (w : List Shape) → one_or_other limit_made (one_or_other page_made all_made) s w → stop_tokens s w
stop_to s w (inl h) = subst (λ (x : StopDef). stop_tokens x w) h.1 h.2
stop_to s w (inr (inl h)) = subst (λ (x : StopDef). stop_tokens x w) h.1 h.2
stop_to s w (inr (inr h)) = subst (λ (x : StopDef). stop_tokens x w) h.1 h.2

stop_from : (s : StopDef) (w : List Shape) → stop_tokens s w → one_or_other limit_made (one_or_other page_made all_made) s w
stop_from stop.All w h = inr (inr (tt, refl, h))
stop_from (stop.Limit z) w h = inl (z, refl, h)
stop_from (stop.Paginate z) w h = inr (inl (z, refl, h))

no_limit : (s : StopDef) (w rest : List Shape) → one_or_other page_made all_made s w → begins is_stop rest ≡ false → begins (is_word_shape LIMIT) (w ++ rest) ≡ false
unfolding is_word_shape
no_limit s w rest (inl h) e = then_shuts (is_word_shape LIMIT) (shape.Keyword PAGINATE) (number h.0) refl w rest h.2
no_limit s w rest (inr h) e = nothing_shuts (is_word_shape LIMIT) w rest h.2 (not_first (is_word_shape LIMIT) (is_word_shape PAGINATE) rest e)

pub stop_reads : Reads stop_tokens is_stop stop_clause_at
unfolding stop_clause_at is_word_shape
stop_reads =
    same_set (one_or_other limit_made (one_or_other page_made all_made)) stop_tokens is_stop stop_clause_at stop_to stop_from
    (choice_reads limit_made (one_or_other page_made all_made) (is_word_shape LIMIT) _ _ is_stop
    (wide limit_made is_stop _ (made_reads (λ z. stop.Limit z) (λ z. word LIMIT ⋅ number z) never _ (skip_free (word LIMIT) number never (word_at LIMIT) number_at (word_reads LIMIT) number_reads)))
    (choice_reads page_made all_made (is_word_shape PAGINATE) _ _ is_stop
    (wide page_made is_stop _ (made_reads (λ z. stop.Paginate z) (λ z. word PAGINATE ⋅ number z) never _ (skip_free (word PAGINATE) number never (word_at PAGINATE) number_at (word_reads PAGINATE) number_reads)))
    (made_reads (λ u. stop.All) (λ u. nothing) is_stop nothing_at (nothing_reads is_stop))
    (λ s w h. then_opens (is_word_shape PAGINATE) (shape.Keyword PAGINATE) (number h.0) refl w h.2) (λ s w rest h e. nothing_shuts (is_word_shape PAGINATE) w rest h.2 (not_second (is_word_shape LIMIT) (is_word_shape PAGINATE) rest e)))
    (λ s w h. then_opens (is_word_shape LIMIT) (shape.Keyword LIMIT) (number h.0) refl w h.2) (λ s w rest h e. no_limit s w rest h e))
