-- What a scan finds in any content.
use Rattle.std.specs.Prelude.{◌≡◌, ℕ, ◌+◌, List, [], ◌∷◌, ◌++◌, map, take, Option, None, Some, option_copied}
use Rattle.std.specs.List.{AllByRecursion}
use Rattle.pq_base.specs.Sorting.{sort_by}
use Rattle.pq_base.specs.declared.value.Value.{Value}
use Rattle.pq_schema.specs.declared.query.Query.{Query}
use Rattle.pq_schema.specs.declared.table.Access.{Access}
use Rattle.pq_schema.specs.declared.table.Access.TheVariants.{Primary, Secondary}
use Rattle.pq_schema.specs.declared.table.Table.{Table}
use Rattle.pq_store.specs.Content.{Content, key_cmp}
use Rattle.pq_store.specs.declared.store.Ends.{Ends}
use Rattle.pq_entries.specs.Entries.{AreNamedRows}
use Rattle.pq_scan.specs.declared.prepared.Scan.{Scan}
use Rattle.pq_scan.specs.declared.request.Request.{Request}
use Rattle.pq_scan.specs.Asked.{range_asked, constants_asked}
use Rattle.pq_scan.specs.Candidates.{Candidate, scanned_table, AreHeldWithin, IsHeld, candidate_at, kept_in, place_in, rows_behind}
use Rattle.pq_scan.specs.Merging.{place_of}
use Rattle.pq_scan.specs.Prepared.{IsPrepared, subject_of}

-- what is read of the range with these ends; nothing where none is asked for
abbrev pub AreReadOf : (List ℕ → List ℕ → List (List Value) → Content → Type 0) → Option Ends → List (List Value)
    → Content → Type 0
AreReadOf within None found content = found ≡ []
AreReadOf within (Some ends) found content = within ends.low ends.high found content

-- what is kept of the first pairs of an input's range
pub record AreHeldBehind (scan : Scan) (limit : ℕ) (after : Option (List Value)) (combo held : List (List Value))
    (content : Content) : Type 0 where
  pub fit : AllByRecursion (IsHeld scan (Some content)) held
  pub within : AreReadOf (λ low high. AreHeldWithin scan.number (scanned_table scan) scan.access low high limit)
      (range_asked scan after combo) held content

-- the candidates of inputs from a place on, one input after the other, and of one input in the order of its range
abbrev pub AreGathered : Scan → ℕ → Option (List Value) → ℕ → List (List (List Value)) → List Candidate → Content
    → Type 0
AreGathered scan limit after place [] found content = found ≡ []
AreGathered scan limit after place (combo ∷ inputs) found content =
    (held : List (List Value)) × (rest : List Candidate) × AreHeldBehind scan limit after combo held content
    × (found ≡ map (candidate_at scan (constants_asked scan combo) place) held ++ rest)
    × AreGathered scan limit after (place + 1) inputs rest content

-- the rows of which this was kept: themselves, or those that stand at the keys that the entries with these values name
abbrev pub AreRowsKept : ℕ → Table → Access → List (List Value) → List (List Value) → Content → Type 0
AreRowsKept t table Primary held rows content = rows ≡ held
AreRowsKept t table (Secondary index) held rows content = AreNamedRows t table index held rows content

-- the row of each candidate, behind the candidate's input
pub record AreFetched (scan : Scan) (inputs : List (List (List Value))) (candidates : List Candidate)
    (found : List (List (List Value))) (content : Content) : Type 0 where
  pub rows : List (List Value)
  pub kept : AreRowsKept scan.number (scanned_table scan) scan.access (map kept_in candidates) rows content
  pub is : found ≡ rows_behind inputs (map place_in candidates) rows

-- the first k candidates by position, of one position those of the earlier input first, with their rows
pub record AreScanned (scan : Scan) (after : Option (List Value)) (k : ℕ) (inputs found : List (List (List Value)))
    (content : Content) : Type 0 where
  pub candidates : List Candidate
  pub gathered : AreGathered scan k after 0 inputs candidates content
  pub fetched : AreFetched scan inputs (take k (sort_by key_cmp place_of candidates)) found content

-- what the scan of a relation by an access finds
pub record AreFirstScanned (tables : List Table) (query : Query) (params : List Value) (rel : ℕ) (access : Access)
    (after : Option (List Value)) (k : ℕ) (inputs found : List (List (List Value))) (content : Content) : Type 0 where
  pub scan : Scan
  pub sound : IsPrepared scan
  pub subject : subject_of scan ≡
      record { tables = tables; query = query; params = params; rel = rel; access = access }
  pub scanned : AreScanned scan after k inputs found content

-- the same for what is asked
abbrev pub AreScannedFor : Request → ℕ → Access → ℕ → List (List (List Value)) → List (List (List Value)) → Content
    → Type 0
AreScannedFor request rel access k inputs found content =
    AreFirstScanned request.catalog.now.tables request.query.now request.params.now rel access
    (option_copied request.after) k inputs found content
