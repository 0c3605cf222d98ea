-- From a write that was answered to what it leads to.
use Rattle.std.proofs.Common.{◌≡◌, ℕ, List, Bool, true, false, Option, Ok, Err, refl, ap, ◌∙◌}
use Rattle.std.specs.Prelude.{if◌then◌else◌}
use Rattle.std.specs.FinMap.{get}
use Rattle.pq_store.specs.Content.{Content, written_content}
use Rattle.pq_clients.specs.declared.halt.Halt.{Halt}
use Rattle.pq_clients.specs.declared.stage.Course.{Course}
use Rattle.pq_clients.specs.Flights.{Flight}
use Rattle.pq_clients.specs.Goes.{Spot, Goes}
use Rattle.pq_clients.specs.Seen.{seen_course}
use Rattle.pq_clients.specs.Steps.{Then, is_just}
use Rattle.pq_clients.proofs.Going.{follow, broke}

-- a guarded write
abbrev pub over : List ℕ → Option (List ℕ) → Option (List ℕ) → Content → Content × Bool
over key expected new k = (if is_just expected (get k key) then written_content key new k else k, is_just expected (get k key))

abbrev pub either : List ℕ → Option (List ℕ) → Option (List ℕ) → Then → Then → Content → Content × Then
either key expected new one other k = if is_just expected (get k key) then (written_content key new k, one) else (k, other)

left_of : (b : Bool) (c d : Content) (x y : Then) → (if b then c else d) ≡ (if◌then◌else◌ {A = Content × Then} b (c, x) (d, y)).0
left_of true c d x y = refl
left_of false c d x y = refl

way_of : (b : Bool) (c d : Content) (x y : Then) → (if b then x else y) ≡ (if◌then◌else◌ {A = Content × Then} b (c, x) (d, y)).1
way_of true c d x y = refl
way_of false c d x y = refl

module _ (f : Flight) (key q : List ℕ) (expected new : Option (List ℕ)) (one other : Then) (before after : Spot) where
  same_left : q ≡ key → (k : Content) → (over q expected new k).0 ≡ (either key expected new one other k).0
  same_left same k =
      ap (λ (p : List ℕ). (over p expected new k).0) same ∙ left_of (is_just expected (get k key)) (written_content key new k) k one other

  pub guarded : (b : Bool) (course : Course) → q ≡ key → seen_course f course ≡ (if b then one else other)
      → Goes (λ (x : Bool). x) (over q expected new) before after (Ok b) → Goes (seen_course f) (either key expected new one other) before after (Ok course)
  guarded b course same chosen goes =
      let way : Bool → Then = λ x. if x then one else other in
      follow (λ (x : Bool). x) (over q expected new) (seen_course f) (either key expected new one other) before after b course goes
      (λ k e. (
        chosen ∙ ap way (e ∙ ap (λ (p : List ℕ). is_just expected (get k p)) same)
            ∙ way_of (is_just expected (get k key)) (written_content key new k) k one other,
        same_left same k,
      ))

  pub guarded_err : (h : Halt) → q ≡ key → Goes (λ (x : Bool). x) (over q expected new) before after (Err h)
      → Goes (seen_course f) (either key expected new one other) before after (Err h)
  guarded_err h same goes =
      broke (λ (x : Bool). x) (over q expected new) (seen_course f) (either key expected new one other) before after h goes (same_left same)

-- the same write, where its parts are known by other words
pub either_same : (key q : List ℕ) (expected guard new now : Option (List ℕ)) (one went : Then) (lost : List ℕ → Then) (k : Content)
    → q ≡ key → guard ≡ expected → new ≡ now → one ≡ went → either q guard new one (lost q) k ≡ either key expected now went (lost key) k
either_same key q expected guard new now one went lost k is_key is_guard is_new is_one =
    ap (λ (p : List ℕ). either p guard new one (lost p) k) is_key
    ∙ ap (λ (e : Option (List ℕ)). either key e new one (lost key) k) is_guard
    ∙ ap (λ (n : Option (List ℕ)). either key expected n one (lost key) k) is_new
    ∙ ap (λ (t : Then). either key expected now t (lost key) k) is_one

-- an unguarded write
module _ (f : Flight) (key q : List ℕ) (new : Option (List ℕ)) (pass : Course) (before after : Spot) where
  pub any_ok : (b : Bool) → q ≡ key → Goes (λ (x : Bool). x) (λ (k : Content). (written_content q new k, true)) before after (Ok b)
      → Goes (seen_course f) (λ (k : Content). (written_content key new k, seen_course f pass)) before after (Ok pass)
  any_ok b same goes =
      follow (λ (x : Bool). x) (λ (k : Content). (written_content q new k, true)) (seen_course f) (λ (k : Content). (written_content key new k, seen_course f pass))
      before after b pass goes (λ k e. (refl, ap (λ (p : List ℕ). written_content p new k) same))

  pub any_err : (h : Halt) → q ≡ key → Goes (λ (x : Bool). x) (λ (k : Content). (written_content q new k, true)) before after (Err h)
      → Goes (seen_course f) (λ (k : Content). (written_content key new k, seen_course f pass)) before after (Err h)
  any_err h same goes =
      broke (λ (x : Bool). x) (λ (k : Content). (written_content q new k, true)) (seen_course f) (λ (k : Content). (written_content key new k, seen_course f pass))
      before after h goes (λ k. ap (λ (p : List ℕ). written_content p new k) same)
