-- The names in a statement's tokens are names.
use Rattle.std.proofs.Common.{◌≡◌, ℕ, List, [], ◌∷◌, Ok, sym, ap, subst, inl, inr}
use Rattle.std.specs.List.{All, AllByRecursion}
use Rattle.pq_text.specs.Tokens.{tokens_of}
use Rattle.pq_text.specs.declared.token.Token.{Token}
use Rattle.pq_text.proofs.Spans.{tokens_have_forms}
use Rattle.pq_grammar.specs.Language.{◌⋅◌}
use Rattle.pq_grammar.proofs.Options.{always}
use Rattle.pq_grammar.proofs.Whole.{whole_found, whole_again}
use Rattle.pq_schema.specs.declared.definition.AlterDef.{AlterDef}
use Rattle.pq_schema.specs.declared.definition.CounterDef.{CounterDef}
use Rattle.pq_schema.specs.declared.definition.TableDef.{TableDef}
use Rattle.pq_schema.specs.Names.{IsName, IsKind, IsColumnDef, IsLimitDef, IsForeignDef, IsTableDef, IsAlterDef, IsCounterDef}
use Rattle.pq_shape.specs.Parts.{comma, name as a_name}
use Rattle.pq_shape.specs.Shapes.{shapes_of}
use Rattle.pq_shape.specs.Shape.{Shape}
use Rattle.pq_def_read.specs.Definitions.{limits_of, foreign_of}
use Rattle.pq_def_read.specs.Grammar.{cols, kind as a_kind, column, limit, foreign, a_constraint, constraints, create, alter, counter as a_counter, Spells}
use Rattle.pq_def_read.specs.Reading.{statement_at, read_at, statement_of}
use Rattle.pq_def_read.specs.declared.definition.Constraint.{Constraint}
use Rattle.pq_def_read.specs.declared.definition.Constraint.TheVariants as constraint
use Rattle.pq_def_read.specs.declared.definition.Constraints.{Constraints}
use Rattle.pq_def_read.specs.declared.definition.Kind.{Kind as ColumnKind}
use Rattle.pq_def_read.specs.declared.statement.Statement.{Statement}
use Rattle.pq_def_read.specs.declared.statement.Statement.TheVariants.{Create, Prepare, Alter, Counter}
use Rattle.pq_def_read.proofs.Statements.{statement_reads}
use Rattle.pq_reread.proofs.Alls.{each_place}
use Rattle.pq_query_read.proofs.Named.{IsNamed, AreNamed, named_tokens, name_gives}
use Rattle.pq_query_read.proofs.Within.{GivesWithin, both_within, each_gives, separated_gives}

-- what S spells of named shapes has this
abbrev pub Gives : {X : Type 0} → (X → List Shape → Type 0) → (X → Type 0) → Type 0
Gives S P = GivesWithin IsNamed S P

pub both_named : (A B : List Shape → Type 0) (w : List Shape) (h : (A ⋅ B) w) → AreNamed w → AreNamed h.front × AreNamed h.back
both_named = both_within IsNamed

cols_gives : Gives cols (All IsName)
cols_gives ns w h named =
    let inner = (both_named _ _ w h named).1 in
    each_place IsName ns (separated_gives IsNamed comma a_name IsName name_gives ns h.fits_back.front h.fits_back.fits_front (both_named _ _ h.back h.fits_back inner).0)

kind_gives : (k : ColumnKind) (w : List Shape) → a_kind k w → IsKind k.name k.size
kind_gives k w (inl h) = inr (inr (sym (ap (λ (x : ColumnKind). x.name) h.1)))
kind_gives k w (inr (inl h)) = inl (ap (λ (x : ColumnKind). x.name) h.0, ap (λ (x : ColumnKind). x.size) h.0)
kind_gives k w (inr (inr h)) = inr (inl (ap (λ (x : ColumnKind). x.name) h.0, ap (λ (x : ColumnKind). x.size) h.0))

column_gives : Gives column IsColumnDef
column_gives c w h named = record {
  name = name_gives c.name h.front h.fits_front (both_named _ _ w h named).0;
  kind = kind_gives (record { name = c.kind; size = c.size }) h.fits_back.front h.fits_back.fits_front;
}

limit_gives : Gives limit IsLimitDef
limit_gives l w h named =
    let one = (both_named _ _ w h named).1 in
    let two = (both_named _ _ h.back h.fits_back one).1 in
    let three = (both_named _ _ h.fits_back.back h.fits_back.fits_back two).1 in
    cols_gives l.cols h.fits_back.fits_back.back h.fits_back.fits_back.fits_back three

foreign_gives : Gives foreign IsForeignDef
foreign_gives f w h named =
    let one = (both_named _ _ w h named).1 in
    let two = (both_named _ _ h.back h.fits_back one).1 in
    let three = both_named _ _ h.fits_back.back h.fits_back.fits_back two in
    let four = (both_named _ _ h.fits_back.fits_back.back h.fits_back.fits_back.fits_back three.1).1 in
    record {
      cols = cols_gives f.cols h.fits_back.fits_back.front h.fits_back.fits_back.fits_front three.0;
      table = name_gives f.table h.fits_back.fits_back.fits_back.back h.fits_back.fits_back.fits_back.fits_back four;
    }

abbrev IsConstraint : Constraint → Type 0
IsConstraint (constraint.Limit l) = IsLimitDef l
IsConstraint (constraint.Foreign f) = IsForeignDef f

constraint_gives : Gives a_constraint IsConstraint
constraint_gives (constraint.Limit l) w h named = limit_gives l w h named
constraint_gives (constraint.Foreign f) w h named = foreign_gives f w h named

limits_named : (items : List Constraint) → AllByRecursion IsConstraint items → AllByRecursion IsLimitDef (limits_of items)
limits_named [] all = tt
limits_named (constraint.Limit l ∷ items) all = (all.0, limits_named items all.1)
limits_named (constraint.Foreign f ∷ items) all = limits_named items all.1

foreign_named : (items : List Constraint) → AllByRecursion IsConstraint items → AllByRecursion IsForeignDef (foreign_of items)
foreign_named [] all = tt
foreign_named (constraint.Limit l ∷ items) all = foreign_named items all.1
foreign_named (constraint.Foreign f ∷ items) all = (all.0, foreign_named items all.1)

abbrev AreConstraints : Constraints → Type 0
AreConstraints c = All IsLimitDef c.limits × All IsForeignDef c.foreign

constraints_gives : Gives constraints AreConstraints
constraints_gives c w h named =
    let all = each_gives IsNamed comma a_constraint IsConstraint constraint_gives h.0 w h.2 named in
    subst AreConstraints h.1 (each_place IsLimitDef (limits_of h.0) (limits_named h.0 all), each_place IsForeignDef (foreign_of h.0) (foreign_named h.0 all))

create_gives : Gives create IsTableDef
create_gives d w h named =
    let a = (both_named _ _ w h named).1 in
    let b = (both_named _ _ h.back h.fits_back a).1 in
    let table = h.fits_back.fits_back in
    let c = both_named _ _ h.fits_back.back table b in
    let d1 = (both_named _ _ table.back table.fits_back c.1).1 in
    let columns = table.fits_back.fits_back in
    let e = both_named _ _ table.fits_back.back columns d1 in
    let f = (both_named _ _ columns.back columns.fits_back e.1).1 in
    let g = (both_named _ _ columns.fits_back.back columns.fits_back.fits_back f).1 in
    let i = (both_named _ _ columns.fits_back.fits_back.back columns.fits_back.fits_back.fits_back g).1 in
    let key = columns.fits_back.fits_back.fits_back.fits_back in
    let j = both_named _ _ columns.fits_back.fits_back.fits_back.back key i in
    let k = (both_named _ _ key.back key.fits_back j.1).0 in
    let more = constraints_gives (record { limits = d.limits; foreign = d.foreign }) key.fits_back.front key.fits_back.fits_front k in
    record {
      name = name_gives d.name table.front table.fits_front c.0;
      columns = each_place IsColumnDef d.columns (separated_gives IsNamed comma column IsColumnDef column_gives d.columns columns.front columns.fits_front e.0);
      key = cols_gives d.key key.front key.fits_front j.0;
      limits = more.0;
      foreign = more.1;
    }

alter_gives : Gives alter IsAlterDef
alter_gives d w h named =
    let a = (both_named _ _ w h named).1 in
    let b = (both_named _ _ h.back h.fits_back a).1 in
    let table = h.fits_back.fits_back in
    let c = both_named _ _ h.fits_back.back table b in
    let e = (both_named _ _ table.back table.fits_back c.1).1 in
    let f = (both_named _ _ table.fits_back.back table.fits_back.fits_back e).1 in
    let added = table.fits_back.fits_back.fits_back in
    let g = (both_named _ _ table.fits_back.fits_back.back added f).0 in
    record {
      table = name_gives d.table table.front table.fits_front c.0;
      column = column_gives d.column added.front added.fits_front g;
    }

counter_gives : Gives a_counter IsCounterDef
counter_gives d w h named =
    let a = (both_named _ _ w h named).1 in
    let b = (both_named _ _ h.back h.fits_back a).1 in
    let counter = h.fits_back.fits_back in
    let c = both_named _ _ h.fits_back.back counter b in
    let e = (both_named _ _ counter.back counter.fits_back c.1).1 in
    let table = counter.fits_back.fits_back in
    let f = both_named _ _ counter.fits_back.back table e in
    let g = (both_named _ _ table.back table.fits_back f.1).0 in
    record {
      name = name_gives d.name counter.front counter.fits_front c.0;
      table = name_gives d.table table.front table.fits_front f.0;
      cols = cols_gives d.cols table.fits_back.front table.fits_back.fits_front g;
    }

-- ---- statements

pub spelled : (text : List ℕ) (ts : List Token) (s : Statement) → statement_of text ts ≡ Ok s → Spells s (shapes_of text ts)
unfolding read_at
spelled text ts s e = whole_found Spells always statement_at statement_reads (shapes_of text ts) s e

pub statement_spelled : (text : List ℕ) (ts : List Token) (s : Statement) → Spells s (shapes_of text ts) → statement_of text ts ≡ Ok s
unfolding read_at
statement_spelled text ts s h = whole_again Spells always statement_at statement_reads (shapes_of text ts) s h

pub created_named : (text : List ℕ) (def : TableDef) → statement_of text (tokens_of text) ≡ Ok (Create def) → IsTableDef def
created_named text def e = create_gives def (shapes_of text (tokens_of text)) (spelled text (tokens_of text) (Create def) e) (named_tokens text (tokens_of text) (tokens_have_forms text))

pub altered_named : (text : List ℕ) (def : AlterDef) → statement_of text (tokens_of text) ≡ Ok (Alter def) → IsAlterDef def
altered_named text def e = alter_gives def (shapes_of text (tokens_of text)) (spelled text (tokens_of text) (Alter def) e) (named_tokens text (tokens_of text) (tokens_have_forms text))

pub counted_named : (text : List ℕ) (def : CounterDef) → statement_of text (tokens_of text) ≡ Ok (Counter def) → IsCounterDef def
counted_named text def e = counter_gives def (shapes_of text (tokens_of text)) (spelled text (tokens_of text) (Counter def) e) (named_tokens text (tokens_of text) (tokens_have_forms text))

pub prepared_named : (text name : List ℕ) (from : ℕ) → statement_of text (tokens_of text) ≡ Ok (Prepare name from) → IsName name
prepared_named text name from e =
    let h = (spelled text (tokens_of text) (Prepare name from) e).1 in
    let named = (both_named _ _ (shapes_of text (tokens_of text)) h (named_tokens text (tokens_of text) (tokens_have_forms text))).1 in
    name_gives name h.fits_back.front h.fits_back.fits_front (both_named _ _ h.back h.fits_back named).0
