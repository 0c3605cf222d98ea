-- A merge of lists that rise.
use Rattle.std.specs.Prelude.{◌≡◌, ℕ, ◌+◌, false, List, [], ◌∷◌, ◌++◌, map, Option, IsPermutation}
use Rattle.std.specs.declared.cmp.Ordering.{Ordering}
use Rattle.std.specs.declared.option.Option.TheVariants.{None, Some}
use Rattle.std.specs.BinaryHeap.{IsHeap}
use Rattle.std.specs.Cmp.{IsTotalOrder, then_total, on_total, back_total, nat_cmp_total}
use Rattle.std.specs.Cmp.Lexicographic.{nat_list_cmp_total}
use Rattle.std.specs.List.{AllByRecursion, flat_map}
use Rattle.std.specs.Ordering.{nat_cmp, is_gt, then_cmp, on, flip_args}
use Rattle.pq_base.specs.Members.{Apart}
use Rattle.pq_base.specs.Sorting.{sort_by}
use Rattle.pq_store.specs.Content.{key_cmp}
use Rattle.pq_scan.specs.declared.merge.Numbered.{Numbered}
use Rattle.pq_scan.specs.declared.merge.Placed.{Placed}
use Rattle.pq_scan.specs.declared.merge.Rising.{Rising}

abbrev pub place_of : {T : Type 0} → Placed T → List ℕ
place_of placed = placed.place

abbrev pub item_of : {T : Type 0} → Placed T → T
item_of placed = placed.item

-- when one comes: by the code of its position, and at one position by its number
abbrev pub Turn : Type 0
Turn = List ℕ × ℕ

abbrev pub turn_cmp : Turn → Turn → Ordering
turn_cmp = then_cmp (on (λ t. t.0) key_cmp) (on (λ t. t.1) nat_cmp)

pub turn_total : IsTotalOrder turn_cmp
turn_total = then_total (on_total (λ (t : Turn). t.0) nat_list_cmp_total) (on_total (λ (t : Turn). t.1) nat_cmp_total)

abbrev pub turn_of : {T : Type 0} → Numbered T → Turn
turn_of item = (item.placed.place, item.number)

abbrev pub placed_of : {T : Type 0} → Numbered T → Placed T
placed_of item = item.placed

-- with their numbers, from one on
abbrev pub numbered_from : {T : Type 0} → ℕ → List (Placed T) → List (Numbered T)
numbered_from n [] = []
numbered_from n (c ∷ cs) = record { placed = c; number = n } ∷ numbered_from (n + 1) cs

-- ---- lists

abbrev pub head_turn : {T : Type 0} → Rising T → Turn
head_turn list = turn_of list.head

-- the list whose head comes first is the greatest
abbrev pub head_cmp : {T : Type 0} → Rising T → Rising T → Ordering
head_cmp = flip_args (on head_turn turn_cmp)

pub head_total : {T : Type 0} → IsTotalOrder (head_cmp {T = T})
head_total = back_total (on_total head_turn turn_total)

-- all of a list, and of lists
abbrev pub numbered_items : {T : Type 0} → Rising T → List (Numbered T)
numbered_items list = list.head ∷ list.behind.items

abbrev pub waiting_heads : {T : Type 0} → List (Rising T) → List (Numbered T)
waiting_heads = flat_map numbered_items

-- x doesn't come behind y
abbrev pub IsUpToNumbered : {T : Type 0} → Numbered T → Numbered T → Type 0
IsUpToNumbered x y = is_gt (turn_cmp (turn_of x) (turn_of y)) ≡ false

-- none comes behind one that stands before it
abbrev pub Falls : {T : Type 0} → List (Numbered T) → Type 0
Falls [] = Unit {0}
Falls (x ∷ xs) = AllByRecursion (λ y. IsUpToNumbered y x) xs × Falls xs

pub record IsRisingList {T : Type 0} (list : Rising T) : Type 0 where
  pub head : AllByRecursion (IsUpToNumbered list.head) list.behind.items
  pub behind : Falls list.behind.items

-- ---- the merge

pub record IsMerge {T : Type 0} (lists : List (Rising T)) : Type 0 where
  pub heap : IsHeap head_cmp lists
  pub rise : AllByRecursion IsRisingList lists
  pub apart : Apart turn_cmp turn_of (waiting_heads lists)

-- what the lists have, in order
abbrev pub merged_lists : {T : Type 0} → List (Rising T) → List (Placed T)
merged_lists lists = map placed_of (sort_by turn_cmp turn_of (waiting_heads lists))

-- what is left of a list joins the others
pub record PutsBack {T : Type 0} (list : List (Numbered T)) (before now : List (Rising T)) : Type 0 where
  pub heap : IsHeap head_cmp before → IsHeap head_cmp now
  pub rise : Falls list → AllByRecursion IsRisingList before → AllByRecursion IsRisingList now
  pub same : IsPermutation (list ++ waiting_heads before) (waiting_heads now)

abbrev pub GivesNext : {T : Type 0} → List (Placed T) → List (Placed T) → Option (Placed T) → Type 0
GivesNext before now None = before ≡ []
GivesNext before now (Some placed) = before ≡ placed ∷ now
