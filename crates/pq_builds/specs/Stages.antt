-- What a build makes of any content that is told, at whichever call it stops, and what it uses.
use Rattle.std.specs.Prelude.{◌≡◌, ◌⊎◌, ℕ, ◌+◌, ◌*◌, ◌/◌, ◌<◌, ◌≤◌, List, ◌∷◌, length, Option, Some, None, Result, OnOk}
use Rattle.std.specs.FinMap.{get, insert}
use Rattle.pq_store.specs.Breaks.{IfDamaged, IsPresent}
use Rattle.pq_store.specs.Content.{Content}
use Rattle.pq_store.specs.Counts.{Counts}
use Rattle.pq_store.specs.declared.damage.Broke.{Broke}
use Rattle.pq_store.specs.declared.damage.Damage.{Damage}
use Rattle.pq_builds.specs.declared.build.Built.{Built}
use Rattle.pq_builds.specs.declared.build.Built.TheVariants as built
use Rattle.pq_builds.specs.declared.mark.TheConstants.{READY, BUILDING}
use Rattle.pq_builds.specs.declared.target.NewQuery.{NewQuery}
use Rattle.pq_builds.specs.declared.target.Target.{Target}
use Rattle.pq_builds.specs.Filling.{Enters, EntersSome, target_shape, row_pairs_in, IsNoRowAmong}

-- the format of a definition, its mark and its text
abbrev pub marked_value : NewQuery → ℕ → List ℕ
marked_value query mark = query.format ∷ mark ∷ query.text

-- it is ready, or its index is being filled
abbrev pub ready_value : NewQuery → List ℕ
ready_value query = marked_value query READY

abbrev pub building_value : NewQuery → List ℕ
building_value query = marked_value query BUILDING

-- ---- from the mark on

-- each row's entry was written, and then the definition as ready
pub record IsReady (target : Target) (query : NewQuery) (old : Content) (now : Option Content) : Type 0 where
  pub filled : Content
  pub enters : Enters target (row_pairs_in target.table old) old (Some filled)
  pub is : now ≡ Some (insert filled query.key (ready_value query))

-- some of the entries were written, or all of them and the definition as ready
abbrev pub StopsFilling : Target → NewQuery → Content → Option Content → Type 0
StopsFilling target query old now =
    EntersSome target (row_pairs_in target.table old) old now ⊎ IsReady target query old now

-- ---- from no definition on

-- the content with the definition's pair, which says that the index is being filled
abbrev pub marked_content : NewQuery → Content → Content
marked_content query old = insert old query.key (building_value query)

-- the definition was not there, and has its mark
pub record IsMarked (query : NewQuery) (old : Content) (now : Option Content) : Type 0 where
  pub absent : get old query.key ≡ None
  pub is : now ≡ Some (marked_content query old)

-- the definition was not there, and all was done
pub record IsBuilt (target : Target) (query : NewQuery) (old : Content) (now : Option Content) : Type 0 where
  pub absent : get old query.key ≡ None
  pub ready : IsReady target query (marked_content query old) now

-- the definition was not there, its table has few enough rows, and from its mark on some was done
pub record IsBegun (target : Target) (query : NewQuery) (old : Content) (now : Option Content) : Type 0 where
  pub absent : get old query.key ≡ None
  pub few : length (row_pairs_in target.table old) ≤ 1000000
  pub stops : StopsFilling target query (marked_content query old) now

-- all was done over so many rows; or nothing, since there are too many
abbrev pub RanBuild : Target → NewQuery → Built → Content → Option Content → Type 0
RanBuild target query (built.Rows count) old now =
    (length (row_pairs_in target.table old) ≡ count) × (count ≤ 1000000) × IsBuilt target query old now
RanBuild target query built.TooMany old now = (1000000 < length (row_pairs_in target.table old)) × (now ≡ Some old)

-- a build is of a million rows at most
abbrev pub IsFew : Built → Type 0
IsFew (built.Rows count) = count ≤ 1000000
IsFew built.TooMany = Unit {0}

-- nothing was done, or from the definition's mark on
abbrev pub StopsBuilding : Target → NewQuery → Content → Option Content → Type 0
StopsBuilding target query old now = (now ≡ Some old) ⊎ IsBegun target query old now

-- ---- what shows damage

-- in a build: the definition's key, which was to be absent, or a pair of the table's rows that is no row's
abbrev pub ShowsBuild : Target → NewQuery → Content → Broke → Type 0
ShowsBuild target query content = IfDamaged (λ damage.
    IsPresent query.key content damage ⊎ IsNoRowAmong (target_shape target) (row_pairs_in target.table content) damage)

-- the definition's key, whose index's table has more rows than an index is filled for
pub record HasTooMany (target : Target) (query : NewQuery) (content : Content) (damage : Damage) : Type 0 where
  pub at : damage.key ≡ query.key
  pub has : damage.value ≡ None
  pub many : 1000000 < length (row_pairs_in target.table content)

-- a pair of the table's rows that is no row's, where these are few enough
pub record HasNoRow (target : Target) (content : Content) (damage : Damage) : Type 0 where
  pub few : length (row_pairs_in target.table content) ≤ 1000000
  pub no_row : IsNoRowAmong (target_shape target) (row_pairs_in target.table content) damage

-- in a build that was left: the definition's key, where there are too many rows; and else a pair that is no row's
abbrev pub ShowsLeft : Target → NewQuery → Content → Broke → Type 0
ShowsLeft target query content = IfDamaged (λ damage.
    HasTooMany target query content damage ⊎ HasNoRow target content damage)

-- ---- numbers

-- more rows than an index is filled for, or this many
abbrev pub IsCounted : ℕ → Option ℕ → Type 0
IsCounted rows None = 1000000 < rows
IsCounted rows (Some count) = rows ≡ count

-- the entries that the count takes
abbrev pub count_entries : Option ℕ → ℕ
count_entries None = 1000001
count_entries (Some count) = count

-- the operations of a build over so many rows, and of one that was left, which has its mark
abbrev pub build_ops : ℕ → ℕ
build_ops count = count + count / 256 + 4

abbrev pub left_ops : ℕ → ℕ
left_ops count = count + count / 256 + 3

-- just so many operations and entries more
pub record Takes (ops entries : ℕ) (before after : Counts) : Type 0 where
  pub ops_are : after.ops ≡ before.ops + ops
  pub entries_are : after.entries ≡ before.entries + entries

-- just so many where all is done; else no more operations, and no more entries than those that a store may give
pub record TakesOrLess (ops entries most : ℕ) (before after : Counts) {A : Type 0} (result : Result A Broke) : Type 0 where
  pub takes : OnOk result (Takes ops entries before after)
  pub few_ops : after.ops ≤ before.ops + ops
  pub few_entries : after.entries ≤ before.entries + most

abbrev pub TakesBuild : Built → Counts → Counts → Type 0
TakesBuild (built.Rows count) before after = Takes (build_ops count) (2 * count) before after
TakesBuild built.TooMany before after = Takes 1 1000001 before after

-- at most so many operations over some number of rows, and their entries with those of one range more
pub record IsWithinBuild (ops_of : ℕ → ℕ) (before after : Counts) : Type 0 where
  pub count : ℕ
  pub few : count ≤ 1000000
  pub ops : after.ops ≤ before.ops + ops_of count
  pub entries : after.entries ≤ before.entries + 2 * count + 256
