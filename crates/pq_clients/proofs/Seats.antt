-- The client at a place of a list, and the list with another one there.
use Rattle.std.proofs.Common.{◌≡◌, ℕ, zero, suc, ◌+◌, ◌^◌, ◌≤◌, ◌<◌, List, [], ◌∷◌, ◌++◌, map, length, Some, length-append, ap, ◌∙◌, sym, arith, subst}
use Rattle.std.specs.Prelude.{All, slice_set, slice_index_or}
use Rattle.std.specs.List.{slice_get, sum_by}
use Rattle.std.proofs.lemmas.List.{map-set}
use Rattle.std.proofs.lemmas.List.Elements.{All-set}
use Rattle.pq_schema.specs.declared.table.Table.{Table}
use Rattle.pq_clients.specs.declared.client.Client.{Client}
use Rattle.pq_clients.specs.declared.outcome.Step.{Step}
use Rattle.pq_clients.specs.declared.outcome.Told.{Told}
use Rattle.pq_clients.specs.declared.outcome.Wrote.{Wrote}
use Rattle.pq_clients.specs.Clients.{View}
use Rattle.pq_clients.specs.Runs.{told_by, put_by}
use Rattle.pq_clients.specs.Running.{views_of, tells_left, puts_left}
use Rattle.pq_clients.specs.Stepping.{view_of, IsClient}
use Rattle.pq_clients.proofs.Left.{LeavesLess, sum_set, sum_map, tells_within, puts_within}

got : {A B : Type 0} (f : A → B) (xs : List A) (k : ℕ) (x : A) → k < length xs → x ≡ slice_index_or xs k x → slice_get (map f xs) k ≡ Some (f x)
got f [] k x less is = absurd (omega arith)
got {A} {B} f (y ∷ ys) zero x less is = ap (λ (z : A). Some (f z)) (sym is)
got f (y ∷ ys) (suc k) x less is = got f ys k x (omega arith) is

pub view_at : (clients : List Client) (place : ℕ) (x : Client) → place < length clients → x ≡ slice_index_or clients place x
    → slice_get (views_of clients) place ≡ Some (view_of x)
view_at clients place x = got view_of clients place x

pub view_set : (clients : List Client) (place : ℕ) (y : Client) → views_of (slice_set clients place y) ≡ slice_set (views_of clients) place (view_of y)
view_set clients place y = map-set view_of clients place y

abbrev pub AreClients : List Table → List Client → Type 0
AreClients tables clients = All (λ (client : Client). IsClient tables (view_of client)) clients

pub client_at : (tables : List Table) (clients : List Client) (place : ℕ) (x : Client) → AreClients tables clients → place < length clients
    → x ≡ slice_index_or clients place x → IsClient tables (view_of x)
client_at tables clients place x all less is = subst (λ (z : Client). IsClient tables (view_of z)) (sym is) (all place x less)

pub clients_set : (tables : List Table) (clients : List Client) (place : ℕ) (y : Client) → AreClients tables clients → IsClient tables (view_of y)
    → AreClients tables (slice_set clients place y)
clients_set tables clients place y all is = All-set (λ (client : Client). IsClient tables (view_of client)) clients place y is all

-- ---- room for what is told and put

module _ (all : List Client) (place : ℕ) (x y : Client) (s : Step) where
  pub told_fit : (told : List Told) (room : ℕ) → place < length all → x ≡ slice_index_or all place x → LeavesLess (view_of x) (view_of y) s
      → length told + sum_by tells_left (views_of all) ≤ room → length told + length (told_by s) ≤ room
  told_fit told room less is leaves fits =
      let sums = sum_set tells_left (views_of all) place (view_of x) (view_of y) (length (told_by s)) (view_at all place x less is) leaves.told in
      omega arith

  pub told_room : (told new : List Told) (room more : ℕ) → place < length all → x ≡ slice_index_or all place x → LeavesLess (view_of x) (view_of y) s
      → length told + sum_by tells_left (views_of all) ≤ room → new ≡ told ++ told_by s → room ≤ more
      → length new + sum_by tells_left (views_of (slice_set all place y)) ≤ more
  told_room told new room more less is leaves fits same grows =
      let sums = sum_set tells_left (views_of all) place (view_of x) (view_of y) (length (told_by s)) (view_at all place x less is) leaves.told in
      let long = ap (λ (l : List Told). length l) same ∙ length-append told (told_by s) in
      let views = ap (λ (l : List View). sum_by tells_left l) (view_set all place y) in
      omega arith

  pub puts_fit : (puts : List Wrote) (room : ℕ) → place < length all → x ≡ slice_index_or all place x → LeavesLess (view_of x) (view_of y) s
      → length puts + sum_by puts_left (views_of all) ≤ room → length puts + length (put_by s) ≤ room
  puts_fit puts room less is leaves fits =
      let sums = sum_set puts_left (views_of all) place (view_of x) (view_of y) (length (put_by s)) (view_at all place x less is) leaves.puts in
      omega arith

  pub puts_room : (puts new : List Wrote) (room more : ℕ) → place < length all → x ≡ slice_index_or all place x → LeavesLess (view_of x) (view_of y) s
      → length puts + sum_by puts_left (views_of all) ≤ room → new ≡ puts ++ put_by s → room ≤ more
      → length new + sum_by puts_left (views_of (slice_set all place y)) ≤ more
  puts_room puts new room more less is leaves fits same grows =
      let sums = sum_set puts_left (views_of all) place (view_of x) (view_of y) (length (put_by s)) (view_at all place x less is) leaves.puts in
      let long = ap (λ (l : List Wrote). length l) same ∙ length-append puts (put_by s) in
      let views = ap (λ (l : List View). sum_by puts_left l) (view_set all place y) in
      omega arith

-- there is room at the beginning
pub told_begin : (clients xs : List Client) (told : List Told) (n room : ℕ) → xs ≡ clients → told ≡ [] → n ≡ sum_by (λ (client : Client). length client.writes) clients → room ≡ n
    → length told + sum_by tells_left (views_of xs) ≤ room
told_begin clients xs told n room same none count is =
    let long = ap (λ (l : List Told). length l) none in
    let views = ap (λ (l : List Client). sum_by tells_left (views_of l)) same in
    let most = tells_within (views_of clients) in
    let all = sum_map (λ (v : View). length v.writes) view_of clients in
    omega arith

pub puts_begin : (clients xs : List Client) (puts : List Wrote) (n room : ℕ) → xs ≡ clients → puts ≡ [] → n ≡ sum_by (λ (client : Client). length client.writes) clients → room ≡ n
    → length puts + sum_by puts_left (views_of xs) ≤ room
puts_begin clients xs puts n room same none count is =
    let long = ap (λ (l : List Wrote). length l) none in
    let views = ap (λ (l : List Client). sum_by puts_left (views_of l)) same in
    let most = puts_within (views_of clients) in
    let all = sum_map (λ (v : View). length v.writes) view_of clients in
    omega arith

pub few_begin : (clients xs : List Client) → xs ≡ clients → sum_by (λ (v : View). length v.writes) (views_of clients) < 2 ^ 32 → sum_by (λ (client : Client). length client.writes) xs < 2 ^ 32
few_begin clients xs same few =
    let all = sum_map (λ (v : View). length v.writes) view_of clients in
    let xs_same = ap (λ (l : List Client). sum_by (λ (client : Client). length client.writes) l) same in
    omega arith
