-- Tables that differ in their indexes alone: the same rows keep them.
use Rattle.std.proofs.Common.{◌≡◌, ℕ, ◌≤◌, ◌==◌, ◌&&◌, false, List, [], ◌∷◌, length, map, Option, sym, ap, subst}
use Rattle.std.specs.Prelude.{IsSome}
use Rattle.std.specs.List as lists
use Rattle.std.specs.List.{AllByRecursion}
use Rattle.pq_base.specs.declared.value.Value.{Value}
use Rattle.pq_base.specs.Values.{AllFit}
use Rattle.pq_schema.specs.declared.table.Column.{Column}
use Rattle.pq_schema.specs.declared.table.Table.{Table}
use Rattle.pq_schema.specs.Tables.{table_at}
use Rattle.pq_content.specs.Tables.{Rows, rows_of, types_of, cells, agrees, row_at, IsTableNumber, AreApart, IsWithinLimit, HasParent, Keeps, stored_code}
use Rattle.pq_base.proofs.Members.{each_weaker}
use Rattle.pq_content.proofs.Codes.{same_fillers_code}

pub record SameShape (a b : Table) : Type 0 where
  pub key : a.key ≡ b.key
  pub columns : a.columns ≡ b.columns
  pub fillers : a.fillers ≡ b.fillers
  pub limits : a.limits ≡ b.limits
  pub foreign : a.foreign ≡ b.foreign

pub record SameShapes (tables tables' : List Table) : Type 0 where
  pub many : length tables ≡ length tables'
  pub each : (t : ℕ) → SameShape (table_at tables t) (table_at tables' t)

module _ (tables tables' : List Table) (same : SameShapes tables tables') where
  pub row_at-shape : (rows : Rows) (t : ℕ) (key : List Value) → row_at tables rows t key ≡ row_at tables' rows t key
  row_at-shape rows t key = ap (λ (cols : List ℕ). lists.find (agrees cols key) (rows_of t rows)) (same.each t).key

  number-shape : (t : ℕ) → IsTableNumber tables t → IsTableNumber tables' t
  number-shape t is = (is.0, subst (λ (n : ℕ). t ≤ n) same.many is.1)

  number-back : (t : ℕ) → IsTableNumber tables' t → IsTableNumber tables t
  number-back t is = (is.0, subst (λ (n : ℕ). t ≤ n) (sym same.many) is.1)

  apart-shape : (rows : Rows) → AreApart tables rows → AreApart tables' rows
  apart-shape [] h = tt
  apart-shape (e ∷ es) h =
      let cols : (table_at tables e.0).key ≡ (table_at tables' e.0).key = (same.each e.0).key in
      (subst (λ (k : List ℕ). AllByRecursion (λ (f : ℕ × List Value). ((f.0 == e.0) && agrees k (cells k e.1) f.1) ≡ false) es) cols h.0, apart-shape es h.1)

  pub keeps-shape : (rows : Rows) → Keeps tables rows → Keeps tables' rows
  keeps-shape rows keeps = record {
    schema = record {
      known = each_weaker (λ (e : ℕ × List Value). IsTableNumber tables e.0) (λ (e : ℕ × List Value). IsTableNumber tables' e.0) (λ e is. number-shape e.0 is) rows keeps.known;
      fit = each_weaker (λ (e : ℕ × List Value). AllFit (types_of (table_at tables e.0)) e.1) (λ (e : ℕ × List Value). AllFit (types_of (table_at tables' e.0)) e.1) (λ e fits. subst (λ (cs : List Column). AllFit (map (λ (c : Column). c.ty) cs) e.1) (same.each e.0).columns fits) rows keeps.fit;
      apart = apart-shape rows keeps.apart;
      limits = λ t is. subst (AllByRecursion (IsWithinLimit t rows)) (same.each t).limits (keeps.limits t (number-back t is));
      foreign = each_weaker (λ (e : ℕ × List Value). AllByRecursion (HasParent tables rows e.1) (table_at tables e.0).foreign) (λ (e : ℕ × List Value). AllByRecursion (HasParent tables' rows e.1) (table_at tables' e.0).foreign) (λ e parents.
          subst (AllByRecursion (HasParent tables' rows e.1)) (same.each e.0).foreign (each_weaker (HasParent tables rows e.1) (HasParent tables' rows e.1) (λ f there plain. subst (λ (o : Option (List Value)). IsSome o) (row_at-shape rows f.table (cells f.cols e.1)) (there plain)) (table_at tables e.0).foreign parents)) rows keeps.foreign;
    };
    short = each_weaker (λ (e : ℕ × List Value). length (stored_code (table_at tables e.0) e.1) ≤ 4096) (λ (e : ℕ × List Value). length (stored_code (table_at tables' e.0) e.1) ≤ 4096) (λ e short. subst (λ (code : List ℕ). length code ≤ 4096) (same_fillers_code (table_at tables e.0) (table_at tables' e.0) e.1 (same.each e.0).fillers) short) rows keeps.short;
  }
