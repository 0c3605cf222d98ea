-- The ends of a link, and what one exchange does to them.
use Rattle.std.specs.Prelude.{◌≡◌, ℕ, ◌≤◌, ◌+◌, ◌/◌, min, max, Bool, true, false, List, [], ◌++◌, length, Option, Some, None, Result, IsOk, IfOk, OnErr, sum_by, flat_map, ⊤}
use Rattle.std.specs.Io.KnownBytes.{Appends, Consumes}
use Rattle.pq_store.specs.declared.store.Ends.{Ends}
use Rattle.pq_store.specs.declared.store.Pair.{Pair}
use Rattle.pq_store.specs.declared.store.Test.{Test}
use Rattle.pq_store.specs.Rounds.{one_if_some}
use Rattle.pq_host.specs.Frames.{failed_answer, answer, values_request, parts_request, tests_request, values_body, part_bytes, TellsTests}

-- the bytes that a link's reader has left, and those that its writer holds, where they are known; and whether its last
-- request has no answer. Between two calls this says that what came was none: the link is broken
pub record LinkEnds : Type 0 where
  pub left : Option (List ℕ)
  pub sent : Option (List ℕ)
  pub unanswered : Bool

-- the store of a node: its link, its number, whether its host answers several questions at once, and how often it has
-- failed
pub record HostedNode : Type 0 where
  pub link : LinkEnds
  pub node : ℕ
  pub rounds : Bool
  pub faults : ℕ

-- over a link that wasn't broken just this was sent and just that was read, and so the request stands
pub record Moves (before now : LinkEnds) (request answer : List ℕ) (stands : Bool) : Type 0 where
  pub whole : before.unanswered ≡ false
  pub sent : Appends before.sent now.sent request
  pub heard : Consumes before.left now.left answer
  pub unanswered : now.unanswered ≡ stands

-- just this was sent, and just that, which is its answer, was read
abbrev pub HasExchanged : LinkEnds → LinkEnds → List ℕ → List ℕ → Type 0
HasExchanged before now request answer = Moves before now request answer false

-- just this was sent, and just this front of its answer was read
abbrev pub HasBegun : LinkEnds → LinkEnds → List ℕ → List ℕ → Type 0
HasBegun before now request front = Moves before now request front true

-- how a call fails: nothing was sent or read; or the host answered that what was asked has failed; or what came is no
-- answer, or none that could be kept, and from now on the link is broken
pub data HasFailed (before now : LinkEnds) (request : List ℕ) : Type 0 where
  Unsent : now ≡ before → HasFailed before now request
  ToldFailed : HasExchanged before now request failed_answer → HasFailed before now request
  Lost : before.unanswered ≡ false → now.unanswered ≡ true → HasFailed before now request

-- over a link that is broken nothing is sent or read, and the call fails
abbrev pub StaysBroken : {A E : Type 0} → LinkEnds → LinkEnds → Result A E → Type 0
StaysBroken before now result = before.unanswered ≡ true → (now ≡ before) × ¬ IsOk result

-- how a call fails that asks just this
pub record Fails {A E : Type 0} (before now : LinkEnds) (request : List ℕ) (result : Result A E) : Type 0 where
  pub failed : OnErr result (HasFailed before now request)
  pub broken : StaysBroken before now result

-- a call asks just this, and what it gives is what the body of the answer says
pub record Exchanges {A E : Type 0} (before now : LinkEnds) (request : List ℕ) (body : A → List ℕ) (result : Result A E) : Type 0 where
  pub exchanged : IfOk result (λ x. HasExchanged before now request (answer (body x)))
  pub fails : Fails before now request result

-- the store is that of the same node
pub record IsSameNode (before now : HostedNode) : Type 0 where
  pub node : now.node ≡ before.node
  pub rounds : now.rounds ≡ before.rounds

-- and no failure was counted
pub record IsStill (before now : HostedNode) : Type 0 where
  pub same : IsSameNode before now
  pub faults : now.faults ≡ before.faults

-- ---- several questions

-- whatever is answered for a key
abbrev pub any_answer : List ℕ → Option (List ℕ) → Type 0
any_answer key found = ⊤

-- where nothing is asked nothing is sent or read; else just this was sent, and just that, which is its answer, was read
pub data HasAsked (before now : LinkEnds) (asked : ℕ) (request answer : List ℕ) : Type 0 where
  Unasked : asked ≡ 0 → now ≡ before → HasAsked before now asked request answer
  Asked : 1 ≤ asked → HasExchanged before now request answer → HasAsked before now asked request answer

-- how many questions are asked at once: of a host that knows rounds, and of one that doesn't
abbrev pub most_asked : Bool → ℕ
most_asked true = 128
most_asked false = 1

-- and how many ranges: no more than for 4,096 pairs, unless it is one
abbrev pub most_ranges : Bool → ℕ → ℕ
most_ranges true limit = max (min (4096 / limit) 128) 1
most_ranges false limit = 1

-- a round is asked part by part, one after the other, each of at most so many questions
pub data HasAskedAll {A B : Type 0} (most : ℕ) (AskedPart : LinkEnds → LinkEnds → List A → List B → Type 0)
    (before : LinkEnds) : LinkEnds → List A → List B → Type 0 where
  Begun : HasAskedAll most AskedPart before before [] []
  Then : (mid now : LinkEnds) (front part : List A) (found more : List B)
      → HasAskedAll most AskedPart before mid front found → length part ≤ most → AskedPart mid now part more
      → HasAskedAll most AskedPart before now (front ++ part) (found ++ more)

-- how a part of the values is asked
abbrev pub HasAskedValues : ℕ → LinkEnds → LinkEnds → List (Option (List ℕ)) → List (Option (List ℕ)) → Type 0
HasAskedValues node before now keys found =
    HasAsked before now (sum_by one_if_some keys) (values_request node keys) (answer (values_body keys found))

-- how a part of the ranges is asked
abbrev pub HasAskedParts : ℕ → ℕ → LinkEnds → LinkEnds → List (Option Ends) → List (List Pair) → Type 0
HasAskedParts node limit before now asks found =
    HasAsked before now (sum_by one_if_some asks) (parts_request node asks limit) (answer (flat_map part_bytes found))

-- how a part of the tests is asked, of which this is the first that holds
abbrev pub HasAskedTests : ℕ → LinkEnds → LinkEnds → List Test → Option ℕ → Type 0
HasAskedTests node before now tests at = (body : List ℕ) × (entries : ℕ) × TellsTests tests body at entries
    × HasExchanged before now (tests_request node tests) (answer body)

-- how one of which none holds is asked
abbrev pub HasAskedUnheld : ℕ → LinkEnds → LinkEnds → List Test → List ⊤ → Type 0
HasAskedUnheld node before now tests _ = HasAskedTests node before now tests None

-- how a round fails: some parts were asked, and then a part failed. Nothing behind it was asked
pub record HasFailedAmong {A B : Type 0} (most : ℕ) (AskedPart : LinkEnds → LinkEnds → List A → List B → Type 0)
    (request : List A → List ℕ) (before now : LinkEnds) (asked : List A) : Type 0 where
  pub mid : LinkEnds
  pub front : List A
  pub part : List A
  pub rest : List A
  pub found : List B
  pub whole : asked ≡ front ++ (part ++ rest)
  pub done : HasAskedAll most AskedPart before mid front found
  pub failed : HasFailed mid now (request part)

-- how the first test that holds is found: behind parts of which none holds it is in the next part, or there is none
pub data HasFoundHeld (most node : ℕ) (before now : LinkEnds) (tests : List Test) : Option ℕ → Type 0 where
  NoneHeld : HasAskedAll most (HasAskedUnheld node) before now tests [] → HasFoundHeld most node before now tests None
  OneHeld : (mid : LinkEnds) (front part rest : List Test) (at place : ℕ) → tests ≡ front ++ (part ++ rest)
      → HasAskedAll most (HasAskedUnheld node) before mid front [] → length part ≤ most
      → HasAskedTests node mid now part (Some at) → place ≡ length front + at
      → HasFoundHeld most node before now tests (Some place)
