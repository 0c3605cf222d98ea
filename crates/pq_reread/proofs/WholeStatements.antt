-- The head and the query together read just what whole statements spell, and stop at the least place.
use Rattle.std.proofs.Common.{◌≡◌, ℕ, zero, suc, ◌+◌, ◌-◌, ◌<◌, ◌≤◌, List, [], ◌∷◌, ◌++◌, length, take, drop, Result, Ok, Err, inl, inr, refl, sym, ap, ◌∙◌, subst, arith}
use Rattle.std.proofs.lemmas.List.{take-append-drop}
use Rattle.pq_grammar.specs.Language.{◌⋅◌, anything, separated_by, IsViable, IsFaultPlace}
use Rattle.pq_grammar.specs.Reader.{◌>>=◌}
use Rattle.pq_grammar.proofs.Options.{always}
use Rattle.pq_grammar.proofs.Steps.{bind_ok, bind_err, ok_is, ok_not_err, never}
use Rattle.pq_grammar.proofs.Whole.{whole_found, whole_again, whole_place}
use Rattle.pq_shape.specs.Parts.{word, name, mark}
use Rattle.pq_shape.specs.declared.mark.TheConstants.{SEMICOLON}
use Rattle.pq_shape.specs.declared.keyword.TheConstants.{AS, EXPLAIN, FROM, PREPARE, SELECT}
use Rattle.pq_shape.specs.Shape.{Shape}
use Rattle.pq_shape.specs.Shape as shape
use Rattle.pq_def_read.specs.Grammar.{Spells}
use Rattle.pq_def_read.specs.Reading.{statement_at, read_at}
use Rattle.pq_def_read.specs.declared.statement.Statement.{Statement}
use Rattle.pq_def_read.specs.declared.statement.Statement.TheVariants as statement
use Rattle.pq_def_read.proofs.Statements.{statement_reads}
use Rattle.pq_query_read.specs.Grammar.{comma_or_join, relation, stop_tokens, selected_tokens, conditions, order_tokens, SpellsSelect}
use Rattle.pq_query_read.specs.Reading.{select_at as one_select_at}
use Rattle.pq_query_read.specs.Reading.{select_read_at as select_at}
use Rattle.pq_query_read.specs.declared.select.SelectDef.{SelectDef}
use Rattle.pq_query_read.proofs.Selects.{select_reads}
use Rattle.pq_reread.specs.WholeStatements.{WholeStatement, Plain, Prepares, Explains, Selects, HasNoQuery, SpellsWhole, with_query_read, whole_of}

-- ---- what the two readers give

head_found : (w : List Shape) (s : Statement) → read_at w ≡ Ok s → Spells s w
unfolding read_at
head_found w s e = whole_found Spells always statement_at statement_reads w s e

head_again : (w : List Shape) (s : Statement) → Spells s w → read_at w ≡ Ok s
unfolding read_at
head_again w s h = whole_again Spells always statement_at statement_reads w s h

head_place : (w : List Shape) (n : ℕ) → read_at w ≡ Err n → (n ≤ length w) × IsFaultPlace Spells w (length w - n)
unfolding read_at
head_place w n e = whole_place Spells always statement_at statement_reads w n e

select_found : (w : List Shape) (s : SelectDef) → select_at w ≡ Ok s → SpellsSelect s w
unfolding select_at
select_found w s e = whole_found SpellsSelect never one_select_at select_reads w s e

select_again : (w : List Shape) (s : SelectDef) → SpellsSelect s w → select_at w ≡ Ok s
unfolding select_at
select_again w s h = whole_again SpellsSelect never one_select_at select_reads w s h

select_place : (w : List Shape) (n : ℕ) → select_at w ≡ Err n → (n ≤ length w) × IsFaultPlace SpellsSelect w (length w - n)
unfolding select_at
select_place w n e = whole_place SpellsSelect never one_select_at select_reads w n e

-- no tokens are two statements
one_head : (w : List Shape) (s u : Statement) → Spells s w → Spells u w → s ≡ u
one_head w s u h k = ok_is s u (sym (head_again w s h) ∙ head_again w u k)

-- ---- the heads

abbrev preparing : List ℕ → List Shape → List Shape
preparing n rest = shape.Keyword PREPARE ∷ shape.Name n ∷ shape.Keyword AS ∷ rest

abbrev explaining : List Shape → List Shape
explaining rest = shape.Keyword EXPLAIN ∷ rest

module _ (A : List Shape → Type 0) where
  prepare_of : (n : List ℕ) (rest : List Shape) → A rest → (word PREPARE ⋅ name n ⋅ word AS ⋅ A) (preparing n rest)
  prepare_of n rest h = record {
    front = shape.Keyword PREPARE ∷ [];
    back = shape.Name n ∷ shape.Keyword AS ∷ rest;
    fits_front = refl;
    fits_back = record {
      front = shape.Name n ∷ [];
      back = shape.Keyword AS ∷ rest;
      fits_front = refl;
      fits_back = record { front = shape.Keyword AS ∷ []; back = rest; fits_front = refl; fits_back = h; parts = refl };
      parts = refl;
    };
    parts = refl;
  }

  explain_of : (rest : List Shape) → A rest → (word EXPLAIN ⋅ A) (explaining rest)
  explain_of rest h = record { front = shape.Keyword EXPLAIN ∷ []; back = rest; fits_front = refl; fits_back = h; parts = refl }

  behind : (t : Shape) (B : List Shape → Type 0) (w : List Shape) (h : ((λ (v : List Shape). v ≡ t ∷ []) ⋅ B) w) → w ≡ t ∷ h.back
  behind t B w h = h.parts ∙ ap (λ v. v ++ h.back) h.fits_front

  prepare_parts : (n : List ℕ) (w : List Shape) → (word PREPARE ⋅ name n ⋅ word AS ⋅ A) w → (rest : List Shape) × A rest × (w ≡ preparing n rest)
  prepare_parts n w h =
      let named = h.fits_back in
      let as_part = named.fits_back in (
        as_part.back,
        as_part.fits_back,
        behind (shape.Keyword PREPARE) (name n ⋅ word AS ⋅ A) w h
            ∙ ap (λ v. shape.Keyword PREPARE ∷ v) (behind (shape.Name n) (word AS ⋅ A) h.back named ∙ ap (λ v. shape.Name n ∷ v) (behind (shape.Keyword AS) A named.back as_part)),
      )

  explain_parts : (w : List Shape) → (word EXPLAIN ⋅ A) w → (rest : List Shape) × A rest × (w ≡ explaining rest)
  explain_parts w h = (h.back, h.fits_back, behind (shape.Keyword EXPLAIN) A w h)

is_preparing : (n : List ℕ) (rest : List Shape) → Spells (statement.Prepare n 3) (preparing n rest)
is_preparing n rest = (refl, prepare_of anything n rest tt)

is_explaining : (rest : List Shape) → Spells (statement.Explain 1) (explaining rest)
is_explaining rest = (refl, explain_of anything rest tt)

-- a query from behind its word on
abbrev select_tail : SelectDef → List Shape → Type 0
select_tail s = selected_tokens s.selected ⋅ word FROM ⋅ separated_by comma_or_join relation s.relations ⋅ conditions s.preds
    ⋅ order_tokens s.order ⋅ stop_tokens s.stop ⋅ mark SEMICOLON

-- what begins with the word of a SELECT
select_of : (A : List Shape → Type 0) (w : List Shape) → (word SELECT ⋅ A) w → Spells statement.Select w
select_of A w h = record { front = h.front; back = h.back; fits_front = h.fits_front; fits_back = tt; parts = h.parts }

-- ---- what is read is spelled

prepare_found : (w : List Shape) (n : List ℕ) (from : ℕ) (def : SelectDef) → Spells (statement.Prepare n from) w → select_at (drop from w) ≡ Ok def → SpellsWhole (Prepares n def) w
prepare_found w n from def h e =
    let parts = prepare_parts anything n w h.1 in
    let rest : select_at parts.0 ≡ Ok def = subst (λ v. select_at (drop 3 v) ≡ Ok def) parts.2 (subst (λ (i : ℕ). select_at (drop i w) ≡ Ok def) (sym h.0) e) in
    subst (λ v. SpellsWhole (Prepares n def) v) (sym parts.2) (prepare_of (SpellsSelect def) n parts.0 (select_found parts.0 def rest))

explain_found : (w : List Shape) (from : ℕ) (def : SelectDef) → Spells (statement.Explain from) w → select_at (drop from w) ≡ Ok def → SpellsWhole (Explains def) w
explain_found w from def h e =
    let parts = explain_parts anything w h.1 in
    let rest : select_at parts.0 ≡ Ok def = subst (λ v. select_at (drop 1 v) ≡ Ok def) parts.2 (subst (λ (i : ℕ). select_at (drop i w) ≡ Ok def) (sym h.0) e) in
    subst (λ v. SpellsWhole (Explains def) v) (sym parts.2) (explain_of (SpellsSelect def) parts.0 (select_found parts.0 def rest))

same_whole : (x y : WholeStatement) (w : List Shape) → ◌≡◌ {A = Result WholeStatement ℕ} (Ok x) (Ok y) → SpellsWhole x w → SpellsWhole y w
same_whole x y w e h = subst (λ z. SpellsWhole z w) (ok_is x y e) h

with_found : (w : List Shape) (s : Statement) (whole : WholeStatement) → Spells s w → with_query_read w s ≡ Ok whole → SpellsWhole whole w
with_found w (statement.Prepare n from) whole h e =
    let def = bind_ok (select_at (drop from w)) (λ def. Ok (Prepares n def)) whole e in
    same_whole (Prepares n def.0) whole w def.2 (prepare_found w n from def.0 h def.1)
with_found w (statement.Explain from) whole h e =
    let def = bind_ok (select_at (drop from w)) (λ def. Ok (Explains def)) whole e in
    same_whole (Explains def.0) whole w def.2 (explain_found w from def.0 h def.1)
with_found w statement.Select whole h e =
    let def = bind_ok (select_at w) (λ def. Ok (Selects def)) whole e in
    same_whole (Selects def.0) whole w def.2 (select_found w def.0 def.1)
with_found w (statement.Create d) whole h e = same_whole (Plain (statement.Create d)) whole w e (tt, h)
with_found w (statement.Write x) whole h e = same_whole (Plain (statement.Write x)) whole w e (tt, h)
with_found w (statement.Batch xs) whole h e = same_whole (Plain (statement.Batch xs)) whole w e (tt, h)
with_found w (statement.Run n v a) whole h e = same_whole (Plain (statement.Run n v a)) whole w e (tt, h)
with_found w (statement.Alter d) whole h e = same_whole (Plain (statement.Alter d)) whole w e (tt, h)
with_found w (statement.Counter d) whole h e = same_whole (Plain (statement.Counter d)) whole w e (tt, h)
with_found w (statement.Read n v) whole h e = same_whole (Plain (statement.Read n v)) whole w e (tt, h)
with_found w statement.Show whole h e = same_whole (Plain statement.Show) whole w e (tt, h)

pub whole_is_spelled : (w : List Shape) (whole : WholeStatement) → whole_of w ≡ Ok whole → SpellsWhole whole w
whole_is_spelled w whole e =
    let s = bind_ok (read_at w) (with_query_read w) whole e in
    with_found w s.0 whole (head_found w s.0 s.1) s.2

-- ---- what is spelled is read

plain_with : (w : List Shape) (s : Statement) → HasNoQuery s → with_query_read w s ≡ Ok (Plain s)
plain_with w (statement.Prepare n from) none = absurd none
plain_with w (statement.Explain from) none = absurd none
plain_with w statement.Select none = absurd none
plain_with w (statement.Create d) none = refl
plain_with w (statement.Write x) none = refl
plain_with w (statement.Batch xs) none = refl
plain_with w (statement.Run n v a) none = refl
plain_with w (statement.Alter d) none = refl
plain_with w (statement.Counter d) none = refl
plain_with w (statement.Read n v) none = refl
plain_with w statement.Show none = refl

pub spelled_is_whole : (w : List Shape) (whole : WholeStatement) → SpellsWhole whole w → whole_of w ≡ Ok whole
spelled_is_whole w (Plain s) h = ap (λ r. r >>= with_query_read w) (head_again w s h.1) ∙ plain_with w s h.0
spelled_is_whole w (Prepares n def) h =
    let parts = prepare_parts (SpellsSelect def) n w h in
    subst (λ v. whole_of v ≡ Ok (Prepares n def)) (sym parts.2)
    (ap (λ r. r >>= with_query_read (preparing n parts.0)) (head_again (preparing n parts.0) (statement.Prepare n 3) (is_preparing n parts.0))
    ∙ ap (λ r. r >>= λ def. Ok (Prepares n def)) (select_again parts.0 def parts.1))
spelled_is_whole w (Explains def) h =
    let parts = explain_parts (SpellsSelect def) w h in
    subst (λ v. whole_of v ≡ Ok (Explains def)) (sym parts.2)
    (ap (λ r. r >>= with_query_read (explaining parts.0)) (head_again (explaining parts.0) (statement.Explain 1) (is_explaining parts.0))
    ∙ ap (λ r. r >>= λ def. Ok (Explains def)) (select_again parts.0 def parts.1))
spelled_is_whole w (Selects def) h =
    ap (λ r. r >>= with_query_read w) (head_again w statement.Select (select_of (select_tail def) w h))
    ∙ ap (λ r. r >>= λ def. Ok (Selects def)) (select_again w def h)

-- ---- where reading stops

-- some query, and how it is spelled
some_select : SelectDef
some_select = select_reads.value

some_tokens : List Shape
some_tokens = select_reads.sample

some_spelled : SpellsSelect some_select some_tokens
unfolding some_select some_tokens
some_spelled = select_reads.sampled

-- a statement begins with what a whole statement begins with
head_viable : (front : List Shape) (x : WholeStatement) (rest : List Shape) → SpellsWhole x (front ++ rest) → IsViable Spells front
head_viable front (Plain s) rest h = (s, rest, h.1)
head_viable front (Prepares n def) rest h =
    let parts = prepare_parts (SpellsSelect def) n (front ++ rest) h in
    (statement.Prepare n 3, rest, subst (λ v. Spells (statement.Prepare n 3) v) (sym parts.2) (is_preparing n parts.0))
head_viable front (Explains def) rest h =
    let parts = explain_parts (SpellsSelect def) (front ++ rest) h in
    (statement.Explain 1, rest, subst (λ v. Spells (statement.Explain 1) v) (sym parts.2) (is_explaining parts.0))
head_viable front (Selects def) rest h = (statement.Select, rest, select_of (select_tail def) (front ++ rest) h)

-- before the end of a head a whole statement goes on
prepare_begins : (front back w : List Shape) (n : List ℕ) (rest more : List Shape) → w ≡ front ++ back → front ++ rest ≡ preparing n more → ((s : Statement) → Spells s w → ⊥) → IsViable SpellsWhole front
prepare_begins [] back w n rest more is e none = (Prepares n some_select, preparing n some_tokens, prepare_of (SpellsSelect some_select) n some_tokens some_spelled)
prepare_begins (a ∷ []) back w n rest more is e none =
    let first : a ≡ shape.Keyword PREPARE = cc in
    (Prepares n some_select, shape.Name n ∷ shape.Keyword AS ∷ some_tokens, subst (λ t. SpellsWhole (Prepares n some_select) (t ∷ shape.Name n ∷ shape.Keyword AS ∷ some_tokens)) (sym first) (prepare_of (SpellsSelect some_select) n some_tokens some_spelled))
prepare_begins (a ∷ b ∷ []) back w n rest more is e none =
    let first : a ≡ shape.Keyword PREPARE = cc in
    let second : b ≡ shape.Name n = cc in (
      Prepares n some_select,
      shape.Keyword AS ∷ some_tokens,
      subst (λ t. SpellsWhole (Prepares n some_select) (t ∷ b ∷ shape.Keyword AS ∷ some_tokens)) (sym first)
          (subst (λ t. SpellsWhole (Prepares n some_select) (shape.Keyword PREPARE ∷ t ∷ shape.Keyword AS ∷ some_tokens)) (sym second) (prepare_of (SpellsSelect some_select) n some_tokens some_spelled)),
    )
prepare_begins (a ∷ b ∷ c ∷ front) back w n rest more is e none =
    let first : a ≡ shape.Keyword PREPARE = cc in
    let second : b ≡ shape.Name n = cc in
    let third : c ≡ shape.Keyword AS = cc in
    let whole : w ≡ preparing n (front ++ back) = is ∙ ap (λ t. t ∷ b ∷ c ∷ (front ++ back)) first ∙ ap (λ t. shape.Keyword PREPARE ∷ t ∷ c ∷ (front ++ back)) second ∙ ap (λ t. shape.Keyword PREPARE ∷ shape.Name n ∷ t ∷ (front ++ back)) third in
    absurd (none (statement.Prepare n 3) (subst (λ v. Spells (statement.Prepare n 3) v) (sym whole) (is_preparing n (front ++ back))))

explain_begins : (front back w rest more : List Shape) → w ≡ front ++ back → front ++ rest ≡ explaining more → ((s : Statement) → Spells s w → ⊥) → IsViable SpellsWhole front
explain_begins [] back w rest more is e none = (Explains some_select, explaining some_tokens, explain_of (SpellsSelect some_select) some_tokens some_spelled)
explain_begins (a ∷ front) back w rest more is e none =
    let first : a ≡ shape.Keyword EXPLAIN = cc in
    let whole : w ≡ explaining (front ++ back) = is ∙ ap (λ t. t ∷ (front ++ back)) first in
    absurd (none (statement.Explain 1) (subst (λ v. Spells (statement.Explain 1) v) (sym whole) (is_explaining (front ++ back))))

-- the empty front begins a query, and any other begins with SELECT, as w does
select_begins : (front back w rest : List Shape) → w ≡ front ++ back → (word SELECT ⋅ anything) (front ++ rest) → ((s : Statement) → Spells s w → ⊥) → IsViable SpellsWhole front
select_begins [] back w rest is h none = (Selects some_select, some_tokens, some_spelled)
select_begins (a ∷ front) back w rest is h none =
    let whole : a ∷ (front ++ rest) ≡ shape.Keyword SELECT ∷ h.back = behind anything (shape.Keyword SELECT) anything (a ∷ (front ++ rest)) h in
    let first : a ≡ shape.Keyword SELECT = cc in
    absurd (none statement.Select (record { front = shape.Keyword SELECT ∷ []; back = front ++ back; fits_front = refl; fits_back = tt; parts = is ∙ ap (λ t. t ∷ (front ++ back)) first }))

begins_whole : (front back w : List Shape) (s : Statement) (rest : List Shape) → w ≡ front ++ back → Spells s (front ++ rest) → ((s : Statement) → Spells s w → ⊥) → IsViable SpellsWhole front
begins_whole front back w (statement.Prepare n from) rest is h none =
    let parts = prepare_parts anything n (front ++ rest) h.1 in
    prepare_begins front back w n rest parts.0 is parts.2 none
begins_whole front back w (statement.Explain from) rest is h none =
    let parts = explain_parts anything (front ++ rest) h.1 in
    explain_begins front back w rest parts.0 is parts.2 none
begins_whole front back w statement.Select rest is h none = select_begins front back w rest is h none
begins_whole front back w (statement.Create d) rest is h none = (Plain (statement.Create d), rest, (tt, h))
begins_whole front back w (statement.Write x) rest is h none = (Plain (statement.Write x), rest, (tt, h))
begins_whole front back w (statement.Batch xs) rest is h none = (Plain (statement.Batch xs), rest, (tt, h))
begins_whole front back w (statement.Run n v a) rest is h none = (Plain (statement.Run n v a), rest, (tt, h))
begins_whole front back w (statement.Alter d) rest is h none = (Plain (statement.Alter d), rest, (tt, h))
begins_whole front back w (statement.Counter d) rest is h none = (Plain (statement.Counter d), rest, (tt, h))
begins_whole front back w (statement.Read n v) rest is h none = (Plain (statement.Read n v), rest, (tt, h))
begins_whole front back w statement.Show rest is h none = (Plain statement.Show, rest, (tt, h))

head_fault : (w : List Shape) (place : ℕ) → IsFaultPlace Spells w place → ((s : Statement) → Spells s w → ⊥) → IsFaultPlace SpellsWhole w place
head_fault w place f none = record {
  within = f.within;
  before = λ j lt. let v = f.before j lt in begins_whole (take (j + 1) w) (drop (j + 1) w) w v.0 v.1 (sym (take-append-drop (j + 1) w)) v.2 none;
  at = λ lt more. f.at lt (head_viable (take (place + 1) w) more.0 more.1 more.2);
}

-- ---- behind a head

no_plain : (s u : Statement) (w : List Shape) → HasNoQuery s → Spells s w → Spells u w → (HasNoQuery u → ⊥) → ⊥
no_plain s u w none h k query = query (subst HasNoQuery (one_head w s u h k) none)

behind_prepare : (n : List ℕ) (v : List Shape) (x : WholeStatement) (rest : List Shape) → SpellsWhole x (preparing n (v ++ rest)) → IsViable SpellsSelect v
behind_prepare n v (Plain s) rest h = absurd (no_plain s (statement.Prepare n 3) (preparing n (v ++ rest)) h.0 h.1 (is_preparing n (v ++ rest)) (λ q. q))
behind_prepare n v (Prepares m def) rest h =
    let parts = prepare_parts (SpellsSelect def) m (preparing n (v ++ rest)) h in
    let same : v ++ rest ≡ parts.0 = ap (drop 3) parts.2 in
    (def, rest, subst (λ u. SpellsSelect def u) (sym same) parts.1)
behind_prepare n v (Explains def) rest h =
    let parts = explain_parts (SpellsSelect def) (preparing n (v ++ rest)) h in
    let same : statement.Explain 1 ≡ statement.Prepare n 3 = one_head (preparing n (v ++ rest)) (statement.Explain 1) (statement.Prepare n 3) (subst (λ u. Spells (statement.Explain 1) u) (sym parts.2) (is_explaining parts.0)) (is_preparing n (v ++ rest)) in
    absurd cc
behind_prepare n v (Selects def) rest h =
    let same : statement.Select ≡ statement.Prepare n 3 = one_head (preparing n (v ++ rest)) statement.Select (statement.Prepare n 3) (select_of (select_tail def) (preparing n (v ++ rest)) h) (is_preparing n (v ++ rest)) in
    absurd cc

behind_explain : (v : List Shape) (x : WholeStatement) (rest : List Shape) → SpellsWhole x (explaining (v ++ rest)) → IsViable SpellsSelect v
behind_explain v (Plain s) rest h = absurd (no_plain s (statement.Explain 1) (explaining (v ++ rest)) h.0 h.1 (is_explaining (v ++ rest)) (λ q. q))
behind_explain v (Prepares n def) rest h =
    let parts = prepare_parts (SpellsSelect def) n (explaining (v ++ rest)) h in
    let same : statement.Prepare n 3 ≡ statement.Explain 1 = one_head (explaining (v ++ rest)) (statement.Prepare n 3) (statement.Explain 1) (subst (λ u. Spells (statement.Prepare n 3) u) (sym parts.2) (is_preparing n parts.0)) (is_explaining (v ++ rest)) in
    absurd cc
behind_explain v (Explains def) rest h =
    let parts = explain_parts (SpellsSelect def) (explaining (v ++ rest)) h in
    let same : v ++ rest ≡ parts.0 = ap (drop 1) parts.2 in
    (def, rest, subst (λ u. SpellsSelect def u) (sym same) parts.1)
behind_explain v (Selects def) rest h =
    let same : statement.Select ≡ statement.Explain 1 = one_head (explaining (v ++ rest)) statement.Select (statement.Explain 1) (select_of (select_tail def) (explaining (v ++ rest)) h) (is_explaining (v ++ rest)) in
    absurd cc

before_prepare : (n : List ℕ) (r : List Shape) (q : ℕ) → IsFaultPlace SpellsSelect r q → (j : ℕ) → j < 3 + q → IsViable SpellsWhole (take (j + 1) (preparing n r))
before_prepare n r q f zero lt = (Prepares n some_select, shape.Name n ∷ shape.Keyword AS ∷ some_tokens, prepare_of (SpellsSelect some_select) n some_tokens some_spelled)
before_prepare n r q f (suc zero) lt = (Prepares n some_select, shape.Keyword AS ∷ some_tokens, prepare_of (SpellsSelect some_select) n some_tokens some_spelled)
before_prepare n r q f (suc (suc zero)) lt = (Prepares n some_select, some_tokens, prepare_of (SpellsSelect some_select) n some_tokens some_spelled)
before_prepare n r q f (suc (suc (suc k))) lt =
    let v = f.before k (omega (arith, lt)) in
    let more : suc (suc (suc k)) + 1 ≡ suc (suc (suc (k + 1))) = omega arith in
    subst (λ m. IsViable SpellsWhole (take m (preparing n r))) (sym more) (Prepares n v.0, v.1, prepare_of (SpellsSelect v.0) n (take (k + 1) r ++ v.1) v.2)

prepare_fault : (n : List ℕ) (r : List Shape) (q : ℕ) → IsFaultPlace SpellsSelect r q → IsFaultPlace SpellsWhole (preparing n r) (3 + q)
prepare_fault n r q f = record {
  within = (let le = f.within in omega (arith, le));
  before = before_prepare n r q f;
  at = λ lt more.
      let next : 3 + q + 1 ≡ suc (suc (suc (q + 1))) = omega arith in
      let v = subst (λ m. IsViable SpellsWhole (take m (preparing n r))) next more in
      f.at (omega (arith, lt)) (behind_prepare n (take (q + 1) r) v.0 v.1 v.2);
}

before_explain : (r : List Shape) (q : ℕ) → IsFaultPlace SpellsSelect r q → (j : ℕ) → j < 1 + q → IsViable SpellsWhole (take (j + 1) (explaining r))
before_explain r q f zero lt = (Explains some_select, some_tokens, explain_of (SpellsSelect some_select) some_tokens some_spelled)
before_explain r q f (suc k) lt =
    let v = f.before k (omega (arith, lt)) in
    let more : suc k + 1 ≡ suc (k + 1) = omega arith in
    subst (λ m. IsViable SpellsWhole (take m (explaining r))) (sym more) (Explains v.0, v.1, explain_of (SpellsSelect v.0) (take (k + 1) r ++ v.1) v.2)

explain_fault : (r : List Shape) (q : ℕ) → IsFaultPlace SpellsSelect r q → IsFaultPlace SpellsWhole (explaining r) (1 + q)
explain_fault r q f = record {
  within = (let le = f.within in omega (arith, le));
  before = before_explain r q f;
  at = λ lt more.
      let next : 1 + q + 1 ≡ suc (q + 1) = omega arith in
      let v = subst (λ m. IsViable SpellsWhole (take m (explaining r))) next more in
      f.at (omega (arith, lt)) (behind_explain (take (q + 1) r) v.0 v.1 v.2);
}

-- ---- the place

IsStop : List Shape → ℕ → Type 0
IsStop w left = (left ≤ length w) × IsFaultPlace SpellsWhole w (length w - left)

select_err : (w : List Shape) (left : ℕ) (make : SelectDef → WholeStatement) → (select_at w >>= λ def. Ok (make def)) ≡ Err left → select_at w ≡ Err left
select_err w left make e = elim (bind_err (select_at w) (λ def. Ok (make def)) left e) [ inl none ↦ none | inr found ↦ absurd (ok_not_err (make found.0) left found.2) ]

prepare_stop : (w : List Shape) (n : List ℕ) (from left : ℕ) → Spells (statement.Prepare n from) w → select_at (drop from w) ≡ Err left → IsStop w left
unfolding IsStop
prepare_stop w n from left h e =
    let parts = prepare_parts anything n w h.1 in
    let rest : select_at parts.0 ≡ Err left = subst (λ v. select_at (drop 3 v) ≡ Err left) parts.2 (subst (λ (i : ℕ). select_at (drop i w) ≡ Err left) (sym h.0) e) in
    let f = select_place parts.0 left rest in
    let place : 3 + (length parts.0 - left) ≡ length (preparing n parts.0) - left = (let le = f.0 in omega (arith, le)) in
    subst (λ v. (left ≤ length v) × IsFaultPlace SpellsWhole v (length v - left)) (sym parts.2)
    ((let le = f.0 in omega (arith, le)), subst (IsFaultPlace SpellsWhole (preparing n parts.0)) place (prepare_fault n parts.0 (length parts.0 - left) f.1))

explain_stop : (w : List Shape) (from left : ℕ) → Spells (statement.Explain from) w → select_at (drop from w) ≡ Err left → IsStop w left
unfolding IsStop
explain_stop w from left h e =
    let parts = explain_parts anything w h.1 in
    let rest : select_at parts.0 ≡ Err left = subst (λ v. select_at (drop 1 v) ≡ Err left) parts.2 (subst (λ (i : ℕ). select_at (drop i w) ≡ Err left) (sym h.0) e) in
    let f = select_place parts.0 left rest in
    let place : 1 + (length parts.0 - left) ≡ length (explaining parts.0) - left = (let le = f.0 in omega (arith, le)) in
    subst (λ v. (left ≤ length v) × IsFaultPlace SpellsWhole v (length v - left)) (sym parts.2)
    ((let le = f.0 in omega (arith, le)), subst (IsFaultPlace SpellsWhole (explaining parts.0)) place (explain_fault parts.0 (length parts.0 - left) f.1))

-- of whole statements only a query begins with SELECT
only_select : (w : List Shape) (x : WholeStatement) → Spells statement.Select w → SpellsWhole x w → (def : SelectDef) × SpellsSelect def w
only_select w (Plain s) head h = absurd (no_plain s statement.Select w h.0 h.1 head (λ q. q))
only_select w (Prepares n def) head h =
    let parts = prepare_parts (SpellsSelect def) n w h in
    let same : statement.Prepare n 3 ≡ statement.Select = one_head w (statement.Prepare n 3) statement.Select (subst (λ v. Spells (statement.Prepare n 3) v) (sym parts.2) (is_preparing n parts.0)) head in
    absurd cc
only_select w (Explains def) head h =
    let parts = explain_parts (SpellsSelect def) w h in
    let same : statement.Explain 1 ≡ statement.Select = one_head w (statement.Explain 1) statement.Select (subst (λ v. Spells (statement.Explain 1) v) (sym parts.2) (is_explaining parts.0)) head in
    absurd cc
only_select w (Selects def) head h = (def, h)

-- a front of one token or more begins with SELECT, as the whole does
select_front : (m : ℕ) (w rest : List Shape) → Spells statement.Select w → m < length w → Spells statement.Select (take (m + 1) w ++ rest)
select_front m [] rest h lt = absurd (omega (arith, lt))
select_front m (t ∷ w) rest h lt =
    let whole : t ∷ w ≡ shape.Keyword SELECT ∷ h.back = behind anything (shape.Keyword SELECT) anything (t ∷ w) h in
    let first : t ≡ shape.Keyword SELECT = cc in
    let next : m + 1 ≡ suc m = omega arith in
    record { front = shape.Keyword SELECT ∷ []; back = take m w ++ rest; fits_front = refl; fits_back = tt; parts = ap (λ (i : ℕ). take i (t ∷ w) ++ rest) next ∙ ap (λ u. u ∷ (take m w ++ rest)) first }

select_stop : (w : List Shape) (left : ℕ) → Spells statement.Select w → select_at w ≡ Err left → IsStop w left
unfolding IsStop
select_stop w left h e =
    let f = select_place w left e in (
      f.0,
      record {
        within = f.1.within;
        before = λ j lt. let v = f.1.before j lt in (Selects v.0, v.1, v.2);
        at = λ lt more.
            let front = take (length w - left + 1) w in
            let v = only_select (front ++ more.1) more.0 (select_front (length w - left) w more.1 h lt) more.2 in
            f.1.at lt (v.0, more.1, v.1);
      },
    )

with_stop : (w : List Shape) (s : Statement) (left : ℕ) → Spells s w → with_query_read w s ≡ Err left → IsStop w left
with_stop w (statement.Prepare n from) left h e = prepare_stop w n from left h (select_err (drop from w) left (Prepares n) e)
with_stop w (statement.Explain from) left h e = explain_stop w from left h (select_err (drop from w) left Explains e)
with_stop w statement.Select left h e = select_stop w left h (select_err w left Selects e)
with_stop w (statement.Create d) left h e = absurd (ok_not_err (Plain (statement.Create d)) left e)
with_stop w (statement.Write x) left h e = absurd (ok_not_err (Plain (statement.Write x)) left e)
with_stop w (statement.Batch xs) left h e = absurd (ok_not_err (Plain (statement.Batch xs)) left e)
with_stop w (statement.Run n v a) left h e = absurd (ok_not_err (Plain (statement.Run n v a)) left e)
with_stop w (statement.Alter d) left h e = absurd (ok_not_err (Plain (statement.Alter d)) left e)
with_stop w (statement.Counter d) left h e = absurd (ok_not_err (Plain (statement.Counter d)) left e)
with_stop w (statement.Read n v) left h e = absurd (ok_not_err (Plain (statement.Read n v)) left e)
with_stop w statement.Show left h e = absurd (ok_not_err (Plain statement.Show) left e)

pub whole_stops : (w : List Shape) (left : ℕ) → whole_of w ≡ Err left → (left ≤ length w) × IsFaultPlace SpellsWhole w (length w - left)
unfolding IsStop
whole_stops w left e = elim (bind_err (read_at w) (with_query_read w) left e) [
  | inl head ↦ let f = head_place w left head in (f.0, head_fault w (length w - left) f.1 (λ s h. ok_not_err s left (sym (head_again w s h) ∙ head)))
  | inr s ↦ with_stop w s.0 left (head_found w s.0 s.1) s.2
]
