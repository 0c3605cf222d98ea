-- A step keeps what a client's view has of its tables, whatever the store holds.
use Rattle.std.proofs.Common.{inl, inr, Result, Ok, Err, ◌≡◌, ℕ, ◌+◌, ◌≤◌, ◌<◌, Bool, true, false, ◌&&◌, ◌==◌, not, List, [], ◌∷◌, ◌++◌, length, Option, Some, None, sym, arith, subst, option_and_then, refl}
use Rattle.std.specs.Prelude.{nat_lt, IfOk, if◌then◌else◌}
use Rattle.std.specs.List.{AllByRecursion}
use Rattle.std.proofs.lemmas.List.Elements.{All-weaker, recursion_from_All}
use Rattle.pq_base.specs.declared.value.Value.{Value}
use Rattle.pq_base.specs.declared.refusal.Refusal.{Refusal}
use Rattle.pq_base.specs.declared.refusal.Refusal.TheVariants as refusal
use Rattle.pq_content.specs.Tables.{stored_code}
use Rattle.pq_schema.specs.declared.table.Foreign.{Foreign}
use Rattle.pq_schema.specs.declared.table.Limit.{Limit}
use Rattle.pq_schema.specs.declared.table.Table.{Table}
use Rattle.pq_schema.specs.Sound.{IsMadeForeign, AreMade}
use Rattle.pq_schema.specs.Tables.{table_at}
use Rattle.pq_content.specs.Tables.{IsTableNumber}
use Rattle.pq_index_keep.specs.Effects.{stays}
use Rattle.pq_index_keep.specs.Sound.{AreWritable, IsWritable}
use Rattle.pq_index_keep.specs.declared.write.Write.{Write}
use Rattle.pq_index_keep.specs.declared.write.Write.TheVariants as write
use Rattle.pq_clients.specs.declared.outcome.Outcome.{Outcome}
use Rattle.pq_clients.specs.declared.outcome.Outcome.TheVariants as outcome
use Rattle.pq_clients.specs.declared.outcome.Step.{Step}
use Rattle.pq_clients.specs.declared.halt.Halt.{Halt}
use Rattle.pq_clients.specs.declared.halt.Halt.TheVariants as halt
use Rattle.pq_clients.specs.declared.stage.Course.{Course}
use Rattle.pq_clients.specs.declared.stage.Phase.{Phase}
use Rattle.pq_clients.specs.declared.stage.Phase.TheVariants as phase
use Rattle.pq_clients.specs.Held.{Cell, Free, Held, cell_of, decoded_row}
use Rattle.pq_clients.specs.Flights.{Flight, Check, Parent, Child, pair_key, row_made, table_of, table_number, key_written, flight_table, is_tested, parent_checks, child_checks_of, child_checks, checks_of, flight_checks, new_row, limit_tests, tests_of, flight_tests, fresh_entries, stale_entries, check_refusal, test_refusal, row_refusal, IsGranted, old_row}
use Rattle.pq_clients.specs.Clients.{Stage, Checking, Adding, Testing, Putting, Clearing, Freeing, Undoing, Releasing, Next, Reading, Taking, Looking, Flying, View}
use Rattle.pq_clients.specs.Fitting.{MayWrite, IsCheck, IsTest, IsLate, FitsStage, FitsNext, FitsThen}
use Rattle.pq_clients.specs.Seen.{seen_next, seen_course}
use Rattle.pq_clients.specs.Steps.{Then, On, Puts, Ends, refused, damaged, is_held_by_other, taking_short, after_row, after_code, after_cell, after_read, testing, adding, checking, clearing, undoing, is_fault, told_view}
use Rattle.pq_clients.specs.Calling.{way, IsWay}
use Rattle.pq_clients.specs.Stepping.{IsClient, Ended, GoesOn, Follows, Concludes, TakesWay, outcome_of, at_hand}
use Rattle.pq_clients.proofs.Fits.{numbered, writable_of}
use Rattle.pq_clients.proofs.Granting.{refused_or, granted_row, granted_none}

kept_if : {A : Type 0} (P : A → Type 0) (b : Bool) (x : A) (xs : List A) → P x → AllByRecursion P xs → AllByRecursion P (if b then x ∷ xs else xs)
kept_if P true x xs p ps = (p, ps)
kept_if P false x xs p ps = ps

all_append : {A : Type 0} (P : A → Type 0) (xs ys : List A) → AllByRecursion P xs → AllByRecursion P ys → AllByRecursion P (xs ++ ys)
all_append P [] ys ps qs = qs
all_append P (x ∷ xs) ys ps qs = (ps.0, all_append P xs ys ps.1 qs)

-- the limits that are tested are limits of the table
within_tests : (w : Write) (old : Option (List Value)) (row : List Value) (n place : ℕ) (limits : List Limit) → place + length limits ≤ n
    → AllByRecursion (λ (p : ℕ). p < n) (limit_tests w old row place limits)
within_tests w old row n place [] le = tt
within_tests w old row n place (limit ∷ rest) le =
    kept_if (λ (p : ℕ). p < n) (is_tested w row limit.cols && not (stays old row limit.cols)) place (limit_tests w old row (place + 1) rest)
    (omega arith) (within_tests w old row n (place + 1) rest (omega arith))

tests_fit : (tables : List Table) (f : Flight) → AllByRecursion (IsTest tables f) (flight_tests tables f)
unfolding flight_tests
tests_fit tables f = by_row (new_row tables f)
  where
    by_row : (new : Option (List Value)) → AllByRecursion (IsTest tables f) (tests_of tables f new)
    by_row None = tt
    by_row (Some row) = within_tests f.write _ row (length (flight_table tables f).limits) 0 (flight_table tables f).limits (omega arith)

-- what is tested of parents and children is of foreign keys of tables
parents_fit : (tables : List Table) (w : Write) (row : List Value) (place : ℕ) (foreign : List Foreign) → place + length foreign ≤ 4
    → AllByRecursion (λ (f : Foreign). IsTableNumber tables f.table) foreign → AllByRecursion (IsCheck tables) (parent_checks w row place foreign)
parents_fit tables w row place [] le number = tt
parents_fit tables w row place (f ∷ rest) le number =
    kept_if (IsCheck tables) (is_tested w row f.cols) _ (parent_checks w row (place + 1) rest) (number.0, omega arith)
    (parents_fit tables w row (place + 1) rest (omega arith) number.1)

-- the tables that foreign keys name
parents_there : (tables : List Table) (t : ℕ) → AreMade tables → IsTableNumber tables t → AllByRecursion (λ (f : Foreign). IsTableNumber tables f.table) (table_at tables t).foreign
parents_there tables t made number =
    let own = made t number.0 number.1 in
    recursion_from_All (λ (f : Foreign). IsTableNumber tables f.table) (table_at tables t).foreign
    (All-weaker (IsMadeForeign tables t (table_at tables t).columns) (λ (f : Foreign). IsTableNumber tables f.table)
    (λ f is. (is.from_one, let before = is.earlier in let last = number.1 in omega arith)) (table_at tables t).foreign own.foreign)

children_of_fit : (tables : List Table) (t : ℕ) (key : List Value) (u : ℕ) (table : Table) (place : ℕ) (foreign : List Foreign) → IsTableNumber tables u
    → place + length foreign ≤ 4 → AllByRecursion (IsCheck tables) (child_checks_of t key u table place foreign)
children_of_fit tables t key u table place [] number le = tt
children_of_fit tables t key u table place (f ∷ rest) number le =
    kept_if (IsCheck tables) (f.table == t) _ (child_checks_of t key u table (place + 1) rest) (number, omega arith)
    (children_of_fit tables t key u table (place + 1) rest number (omega arith))

children_fit : (tables : List Table) (t : ℕ) (key : List Value) (u : ℕ) (rest : List Table) → 1 ≤ u → u + length rest ≤ length tables + 1
    → AllByRecursion (λ (table : Table). length table.foreign ≤ 4) rest → AllByRecursion (IsCheck tables) (child_checks t key u rest)
children_fit tables t key u [] one le few = tt
children_fit tables t key u (table ∷ rest) one le few =
    all_append (IsCheck tables) (child_checks_of t key u table 0 table.foreign) (child_checks t key (u + 1) rest)
    (children_of_fit tables t key u table 0 table.foreign (one, omega arith) (let h : length table.foreign ≤ 4 = few.0 in omega arith))
    (children_fit tables t key (u + 1) rest (omega arith) (omega arith) few.1)

few_foreign : (tables : List Table) → AreWritable tables → AllByRecursion (λ (table : Table). length table.foreign ≤ 4) tables
few_foreign tables sound =
    recursion_from_All (λ (table : Table). length table.foreign ≤ 4) tables
    (All-weaker (IsWritable tables) (λ (table : Table). length table.foreign ≤ 4) (λ table w. w.made.few_foreign) tables sound)

checks_fit : (tables : List Table) (f : Flight) → MayWrite tables f.write → AllByRecursion (IsCheck tables) (flight_checks tables f)
unfolding flight_checks
checks_fit tables f may = by_row (new_row tables f)
  where
    by_row : (new : Option (List Value)) → AllByRecursion (IsCheck tables) (checks_of tables f.write new)
    by_row None = children_fit tables (table_number f.write) (key_written tables f.write) 1 tables (omega arith) (omega arith) (few_foreign tables may.sound)
    by_row (Some row) = parents_fit tables f.write row 0 (table_of tables f.write).foreign
        (let h : length (table_of tables f.write).foreign ≤ 4 = (writable_of tables f.write may).made.few_foreign in omega arith)
        (parents_there tables (table_number f.write) may.made (numbered tables f.write may.write))

-- ---- stages

fits_testing : (tables : List Table) (f : Flight) (places passed : List ℕ) → AllByRecursion (IsTest tables f) places → FitsStage tables f (testing places passed)
fits_testing tables f [] passed fit = tt
fits_testing tables f (place ∷ places) passed fit = fit

fits_adding : (tables : List Table) (f : Flight) (left added : List (List ℕ)) → FitsStage tables f (adding tables f left added)
fits_adding tables f [] added = fits_testing tables f (flight_tests tables f) [] (tests_fit tables f)
fits_adding tables f (entry ∷ left) added = tt

fits_checking : (tables : List Table) (f : Flight) (left : List Check) → AllByRecursion (IsCheck tables) left → FitsStage tables f (checking tables f left)
fits_checking tables f [] fit = fits_adding tables f (fresh_entries tables f) []
fits_checking tables f (check ∷ left) fit = fit

fits_clearing : (tables : List Table) (f : Flight) (left : List (List ℕ)) → FitsStage tables f (clearing left)
fits_clearing tables f [] = tt
fits_clearing tables f (entry ∷ left) = tt

fits_undoing : (tables : List Table) (f : Flight) (left : List (List ℕ)) (why : Refusal) → IsLate why → FitsStage tables f (undoing left why)
fits_undoing tables f [] why late = late
fits_undoing tables f (entry ∷ left) why late = late

late_check : (tables : List Table) (f : Flight) (check : Check) → IsLate (check_refusal tables f check)
late_check tables f (Parent place u at) = tt
late_check tables f (Child u place front) = tt

one_of : (tables : List Table) (b : Bool) (x y : Then) → FitsThen tables x → FitsThen tables y → FitsThen tables (if b then x else y)
one_of tables true x y fx fy = fx
one_of tables false x y fx fy = fy

pub fits_stage : (tables : List Table) (f : Flight) (stage : Stage) (b : Bool) → IsGranted tables f → FitsStage tables f stage → FitsThen tables (way tables f stage b)
fits_stage tables f (Checking check left) b g fit = one_of tables b _ _ (g, fits_checking tables f left fit.1) (g, late_check tables f check)
fits_stage tables f (Adding entry left added) b g fit = (g, fits_adding tables f left _)
fits_stage tables f (Testing place left passed) b g fit =
    one_of tables b _ _ (g, fits_testing tables f left _ fit.1) (g, fits_undoing tables f (fresh_entries tables f) (test_refusal tables f place) tt)
fits_stage tables f Putting b g fit = one_of tables b _ _ (g, fits_clearing tables f (stale_entries tables f)) tt
fits_stage tables f (Clearing entry left) b g fit = (g, fits_clearing tables f left)
fits_stage tables f Freeing b g fit = one_of tables b _ _ tt tt
fits_stage tables f (Undoing entry left why) b g fit = (g, fits_undoing tables f left why fit)
fits_stage tables f (Releasing why) b g fit = one_of tables b _ _ tt tt

-- ---- clients

-- the flight at hand is of a write of these tables
abbrev HasWrite : List Table → Next → Type 0
HasWrite tables Reading = Unit {0}
HasWrite tables (Taking f) = MayWrite tables f.write
HasWrite tables (Looking f) = MayWrite tables f.write
HasWrite tables (Flying f stage) = MayWrite tables f.write

has_write : (tables : List Table) (f : Flight) (next : Phase) → MayWrite tables f.write → HasWrite tables (seen_next f next)
has_write tables f phase.Reading may = tt
has_write tables f phase.Taking may = may
has_write tables f phase.Looking may = may
has_write tables f (phase.Flying stage) may = may

fits_short : (tables : List Table) (f : Flight) (new : Option (List Value)) → IsGranted tables f → FitsThen tables (taking_short tables f new)
fits_short tables f None g = g
fits_short tables f (Some row) g =
    one_of tables (nat_lt 4096 (length (stored_code (flight_table tables f) row)))
    (refused (refusal.RowLong (flight_table tables f).name (length (stored_code (flight_table tables f) row)))) (On (Taking f)) tt g

fits_row : (tables : List Table) (w : Write) (read : Option (List ℕ)) (old : Option (List Value)) → option_and_then (decoded_row (table_of tables w)) read ≡ old
    → FitsThen tables (after_row tables w read old)
unfolding old_row
fits_row tables (write.Insert t row) read None is = granted_none tables (record { write = write.Insert t row; read = read }) is
fits_row tables (write.Insert t row) read (Some old) is = tt
fits_row tables (write.Update t key sets conds) read None is = tt
fits_row tables (write.Update t key sets conds) read (Some old) is =
    let f : Flight = record { write = write.Update t key sets conds; read = read } in
    refused_or (FitsThen tables) _ _ (λ why _. tt) (λ none. fits_short tables f (row_made f.write (Some old)) (granted_row tables f old is none))
fits_row tables (write.Delete t key conds) read None is = tt
fits_row tables (write.Delete t key conds) read (Some old) is =
    let f : Flight = record { write = write.Delete t key conds; read = read } in
    refused_or (FitsThen tables) (row_refusal tables (write.Delete t key conds) old) (On (Taking (record { write = write.Delete t key conds; read = read }))) (λ why _. tt) (λ none. granted_row tables f old is none)

fits_code : (tables : List Table) (w : Write) (code : List ℕ) (row : Option (List Value)) → decoded_row (table_of tables w) code ≡ row → FitsThen tables (after_code tables w code row)
fits_code tables w code None is = tt
fits_code tables w code (Some row) is = fits_row tables w (Some code) (Some row) is

fits_cell : (tables : List Table) (client : ℕ) (w : Write) (value : List ℕ) (cell : Cell) → FitsThen tables (after_cell tables client w value cell)
fits_cell tables client w value (Free code) = fits_code tables w value (decoded_row (table_of tables w) value) refl
fits_cell tables client w value (Held holder number present) =
    one_of tables (is_held_by_other (table_of tables w) client (Held holder number present)) (Ends (outcome.Busy value)) (damaged (pair_key tables w) (Some value)) tt tt

fits_read : (tables : List Table) (client : ℕ) (w : Write) (found : Option (List ℕ)) → FitsThen tables (after_read tables client w found)
fits_read tables client w None = fits_row tables w None None refl
fits_read tables client w (Some value) = fits_cell tables client w value (cell_of value)

-- behind any answer the next step fits
fits_way : (tables : List Table) (client : ℕ) (w : Write) (next : Next) (goes : Then) → HasWrite tables next → FitsNext tables next
    → IsWay tables client w next goes → FitsThen tables goes
fits_way tables client w Reading goes may fit is = subst (FitsThen tables) (sym is.1) (fits_read tables client w is.0)
fits_way tables client w (Taking f) goes may fit is =
    subst (FitsThen tables) (sym is.1) (one_of tables is.0 _ _ (fit, fits_checking tables f _ (checks_fit tables f may)) tt)
fits_way tables client w (Looking f) goes may fit is = subst (FitsThen tables) (sym is.1) tt
fits_way tables client w (Flying f stage) goes may fit is = subst (FitsThen tables) (sym is.1) (fits_stage tables f stage is.0 fit.0 fit.1)

told_client : (tables : List Table) (v : View) (told : Outcome) → IsClient tables v → IsClient tables (told_view v told)
told_client tables v told client = by_fault (is_fault told)
  where
    by_fault : (b : Bool) → IsClient tables (if b then record v { over = Some told } else record v { at = v.at + 1; next = Reading })
    by_fault true = record { writes = client.writes; few = client.few; from_one = client.from_one; next = client.next }
    by_fault false = record { writes = client.writes; few = client.few; from_one = omega arith; next = tt }

ended_client : (tables : List Table) (v left : View) (told : Outcome) (s : Step) → IsClient tables v → Ended v told left s → IsClient tables left
ended_client tables v left told s client ended = subst (IsClient tables) (sym ended.view) (told_client tables v told client)

going_client : (tables : List Table) (v left : View) (next : Next) (said s : Step) → IsClient tables v → FitsNext tables next → GoesOn v next said left s
    → IsClient tables left
going_client tables v left next said s client fit goes =
    subst (IsClient tables) (sym goes.view) (record { writes = client.writes; few = client.few; from_one = client.from_one; next = fit })

followed_client : (tables : List Table) (v left : View) (goes : Then) (s : Step) → IsClient tables v → FitsThen tables goes → Follows v goes left s
    → IsClient tables left
followed_client tables v left (On next) s client fit follows = going_client tables v left next _ s client fit follows
followed_client tables v left (Puts next) s client fit follows = going_client tables v left next _ s client fit follows
followed_client tables v left (Ends outcome.Done) s client fit follows = ended_client tables v left _ s client follows
followed_client tables v left (Ends (outcome.Refused why)) s client fit follows = ended_client tables v left _ s client follows
followed_client tables v left (Ends (outcome.Busy found)) s client fit follows = ended_client tables v left _ s client follows
followed_client tables v left (Ends (outcome.Conflict read found)) s client fit follows = ended_client tables v left _ s client follows
followed_client tables v left (Ends outcome.Failed) s client fit follows = ended_client tables v left _ s client follows
followed_client tables v left (Ends outcome.NoMem) s client fit follows = ended_client tables v left _ s client follows
followed_client tables v left (Ends (outcome.Damaged damage)) s client fit follows = elim follows [
  | inl ended ↦ ended_client tables v left _ s client ended
  | inr ended ↦ ended_client tables v left _ s client ended
]

-- a step leaves a client of the tables, whatever the store holds
pub keeps_client : (tables : List Table) (v left : View) (f : Flight) (next : Phase) (went : Result Course Halt) (s : Step) → v.next ≡ seen_next f next
    → MayWrite tables f.write → IsClient tables v → IfOk went (λ course. IsWay tables v.number f.write v.next (seen_course f course))
    → Concludes v f went left s → IsClient tables left
keeps_client tables v left f next (Err h) s is may client ways concludes = ended_client tables v left (outcome_of h) s client concludes
keeps_client tables v left f next (Ok course) s is may client ways concludes =
    followed_client tables v left (seen_course f course) s client
    (fits_way tables v.number f.write v.next (seen_course f course) (subst (HasWrite tables) (sym is) (has_write tables f next may)) client.next ways) concludes

-- and goes on in the way of some answer
pub takes_way : (tables : List Table) (v left : View) (f : Flight) (went : Result Course Halt) (s : Step)
    → f.write ≡ at_hand v.writes v.at → IfOk went (λ course. IsWay tables v.number f.write v.next (seen_course f course))
    → Concludes v f went left s → TakesWay tables v left s
takes_way tables v left f (Ok course) s is ways concludes =
    inl (seen_course f course, subst (λ (w : Write). IsWay tables v.number w v.next (seen_course f course)) is ways, concludes)
takes_way tables v left f (Err halt.Failed) s is ways concludes = inr (inl concludes)
takes_way tables v left f (Err halt.NoMem) s is ways concludes = inr (inr concludes)
