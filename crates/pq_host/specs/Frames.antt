-- The frames between an engine and its host, as docs/HOST.md tells them.
use Rattle.std.specs.Prelude.{◌≡◌, ℕ, ◌+◌, ◌==◌, is_some, is_none, Bool, true, false, List, [], ◌∷◌, ◌++◌, length, map, flat_map, Option, Some, None}
use Rattle.std.specs.Int.{w32, to_be_bytes}
use Rattle.pq_store.specs.declared.store.Guard.{Guard}
use Rattle.pq_store.specs.declared.store.Guard.TheVariants.{Any, Absent, Is}
use Rattle.pq_store.specs.Content.{entry}
use Rattle.pq_store.specs.Rounds.{one_if_some}
use Rattle.pq_store.specs.declared.store.Ends.{Ends}
use Rattle.pq_store.specs.declared.store.Pair.{Pair}
use Rattle.pq_store.specs.declared.store.Test.{Test}
use Rattle.pq_store.specs.declared.store.Test.TheVariants.{Has, Lacks, Full}
use Rattle.pq_host.specs.declared.request.Op.{Op}
use Rattle.pq_host.specs.declared.request.Op.TheVariants as ops

-- a number in four bytes, the highest first
abbrev pub number : ℕ → List ℕ
number n = to_be_bytes w32 n

-- bytes behind their length
abbrev pub sized : List ℕ → List ℕ
sized bytes = number (length bytes) ++ bytes

abbrev pub op_code : Op → ℕ
op_code ops.Read = 1
op_code ops.Report = 2
op_code ops.Places = 3
op_code ops.Get = 16
op_code ops.Range = 17
op_code ops.Count = 18
op_code ops.Write = 19
op_code ops.Gets = 20
op_code ops.Ranges = 21
op_code ops.FirstHeld = 22

-- a request: its length, the version, what is asked of which node, and the body
unfoldable pub request : Op → ℕ → List ℕ → List ℕ
request op node body = number (3 + length body) ++ (1 ∷ op_code op ∷ node ∷ body)

abbrev pub read_request : ℕ → List ℕ
read_request room = request ops.Read 0 (number room)

abbrev pub report_request : List ℕ → List ℕ
report_request piece = request ops.Report 0 piece

abbrev pub places_request : List ℕ
places_request = request ops.Places 0 []

abbrev pub get_request : ℕ → List ℕ → List ℕ
get_request node key = request ops.Get node key

-- the body of a request for a range, and of one for a count
abbrev pub range_body : List ℕ → List ℕ → ℕ → List ℕ
range_body low high limit = number limit ++ (sized low ++ high)

abbrev pub range_request : ℕ → List ℕ → List ℕ → ℕ → List ℕ
range_request node low high limit = request ops.Range node (range_body low high limit)

abbrev pub count_request : ℕ → List ℕ → List ℕ → ℕ → List ℕ
count_request node low high cap = request ops.Count node (range_body low high cap)

-- what asks whether the host answers several questions at once: how many pairs are in an empty range. A host that does
-- answers 2, and another one 0
abbrev pub rounds_request : List ℕ
rounds_request = count_request 0 (255 ∷ []) (255 ∷ []) 2

abbrev pub guard_mark : Guard → ℕ
guard_mark Any = 0
guard_mark Absent = 1
guard_mark (Is value) = 2

abbrev pub held_value : Guard → List ℕ
held_value Any = []
held_value Absent = []
held_value (Is value) = value.now

abbrev pub put_mark : Option (List ℕ) → ℕ
put_mark None = 0
put_mark (Some value) = 1

abbrev pub put_value : Option (List ℕ) → List ℕ
put_value None = []
put_value (Some value) = value

abbrev pub write_body : List ℕ → Guard → Option (List ℕ) → List ℕ
write_body key guard new =
    (guard_mark guard ∷ put_mark new ∷ []) ++ (sized key ++ (sized (held_value guard) ++ put_value new))

abbrev pub write_request : ℕ → List ℕ → Guard → Option (List ℕ) → List ℕ
write_request node key guard new = request ops.Write node (write_body key guard new)

-- ---- several questions at once

-- a key that is asked for, or a 0 where none is
abbrev pub asked_key : Option (List ℕ) → List ℕ
asked_key None = 0 ∷ []
asked_key (Some key) = 1 ∷ sized key

abbrev pub gets_body : List (Option (List ℕ)) → List ℕ
gets_body keys = number (length keys) ++ flat_map asked_key keys

abbrev pub gets_request : ℕ → List (Option (List ℕ)) → List ℕ
gets_request node keys = request ops.Gets node (gets_body keys)

-- the same of a range
abbrev pub asked_range : Option Ends → List ℕ
asked_range None = 0 ∷ []
asked_range (Some ends) = 1 ∷ (sized ends.low ++ sized ends.high)

abbrev pub ranges_body : List (Option Ends) → ℕ → List ℕ
ranges_body asks limit = number limit ++ (number (length asks) ++ flat_map asked_range asks)

abbrev pub ranges_request : ℕ → List (Option Ends) → ℕ → List ℕ
ranges_request node asks limit = request ops.Ranges node (ranges_body asks limit)

abbrev pub test_bytes : Test → List ℕ
test_bytes (Has key) = 0 ∷ sized key
test_bytes (Lacks key) = 1 ∷ sized key
test_bytes (Full ends n) = 2 ∷ (number n ++ (sized ends.low ++ sized ends.high))

abbrev pub tests_body : List Test → List ℕ
tests_body tests = number (length tests) ++ flat_map test_bytes tests

abbrev pub first_held_request : ℕ → List Test → List ℕ
first_held_request node tests = request ops.FirstHeld node (tests_body tests)

-- a single key is asked for by a get, a single range by a range, and a single test is a get or a count
abbrev pub values_request : ℕ → List (Option (List ℕ)) → List ℕ
values_request node (Some key ∷ []) = get_request node key
values_request node keys = gets_request node keys

abbrev pub parts_request : ℕ → List (Option Ends) → ℕ → List ℕ
parts_request node (Some ends ∷ []) limit = range_request node ends.low ends.high limit
parts_request node asks limit = ranges_request node asks limit

abbrev pub test_request : ℕ → Test → List ℕ
test_request node (Has key) = get_request node key
test_request node (Lacks key) = get_request node key
test_request node (Full ends n) = count_request node ends.low ends.high n

abbrev pub tests_request : ℕ → List Test → List ℕ
tests_request node (test ∷ []) = test_request node test
tests_request node tests = first_held_request node tests

-- ---- answers

-- what stands before the body of an answer: its length, the version, and that what was asked is done
unfoldable pub answer_head : ℕ → List ℕ
answer_head len = number (2 + len) ++ (1 ∷ 1 ∷ [])

-- the answer that has this body
abbrev pub answer : List ℕ → List ℕ
answer body = answer_head (length body) ++ body

-- the answer that what was asked has failed
unfoldable pub failed_answer : List ℕ
failed_answer = number 2 ++ (1 ∷ 0 ∷ [])

-- the bodies of answers: of a get, a range, a question for places and a write
abbrev pub value_body : Option (List ℕ) → List ℕ
value_body None = 0 ∷ []
value_body (Some value) = 1 ∷ value

abbrev pub pair_bytes : List ℕ × List ℕ → List ℕ
pair_bytes pair = sized pair.0 ++ sized pair.1

abbrev pub pairs_body : List (List ℕ × List ℕ) → List ℕ
pairs_body pairs = number (length pairs) ++ flat_map pair_bytes pairs

abbrev pub keys_body : List (List ℕ) → List ℕ
keys_body keys = number (length keys) ++ flat_map sized keys

abbrev pub done_body : Bool → List ℕ
done_body false = 0 ∷ []
done_body true = 1 ∷ []

-- ---- and of several questions at once

abbrev pub value_bytes : Option (List ℕ) → List ℕ
value_bytes None = 0 ∷ []
value_bytes (Some value) = 1 ∷ sized value

abbrev pub part_bytes : List Pair → List ℕ
part_bytes pairs = pairs_body (map entry pairs)

abbrev pub place_body : ℕ → ℕ → List ℕ
place_body place entries = number place ++ number entries

abbrev pub values_body : List (Option (List ℕ)) → List (Option (List ℕ)) → List ℕ
values_body (Some key ∷ []) (value ∷ []) = value_body value
values_body keys found = flat_map value_bytes found

-- the place of the first test that holds, or the number of tests
abbrev pub told_place : List Test → Option ℕ → ℕ
told_place tests None = length tests
told_place tests (Some at) = at

-- what the answer to a test's get or count says: whether it holds, and how many entries it has
abbrev pub TellsTest : Test → List ℕ → Bool → ℕ → Type 0
TellsTest (Has key) body held entries =
    (found : Option (List ℕ)) × (body ≡ value_body found) × (held ≡ is_some found) × (entries ≡ one_if_some found)
TellsTest (Lacks key) body held entries =
    (found : Option (List ℕ)) × (body ≡ value_body found) × (held ≡ is_none found) × (entries ≡ one_if_some found)
TellsTest (Full ends n) body held entries = (body ≡ number entries) × (held ≡ (entries == n))

-- and what the answer to several tests says
abbrev pub TellsTests : List Test → List ℕ → Option ℕ → ℕ → Type 0
TellsTests (test ∷ []) body at entries = TellsTest test body (is_some at) entries
TellsTests tests body at entries = body ≡ place_body (told_place tests at) entries
