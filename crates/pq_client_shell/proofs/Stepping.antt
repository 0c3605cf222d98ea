-- Clients to whom writes are dealt, and their steps.
use Rattle.std.proofs.Common.{◌≡◌, ℕ, ◌+◌, ◌^◌, ◌≤◌, ◌<◌, ◌⊎◌, IfSome, List, [], ◌∷◌, map, length, All, Option, Some, refl, sym, ap, ◌∙◌, subst, arith, inl, inr}
use Rattle.std.proofs.lemmas.List.{length-map}
use Rattle.std.specs.FinMap.{get}
use Rattle.std.specs.List.{AllByRecursion, sum_by}
use Rattle.pq_base.specs.Members.{In}
use Rattle.pq_base.proofs.Members.{all_member, each_weaker}
use Rattle.pq_base.specs.declared.value.Value.{Value}
use Rattle.pq_schema.specs.Schema.{Schema}
use Rattle.pq_schema.specs.Valid.{IsValid}
use Rattle.pq_schema.specs.declared.table.Table.{Table}
use Rattle.pq_store.specs.Content.{Content, HasRisen}
use Rattle.pq_store.specs.Counts.{Counts}
use Rattle.pq_content.specs.Pairs.{Pair, AreBeside, content_pairs}
use Rattle.pq_content.specs.Tables.{Rows, AllOfKinds, Keeps}
use Rattle.pq_content.proofs.Keys.{both_beside, counters_beside}
use Rattle.pq_index_keep.specs.Sound.{IsWrite}
use Rattle.pq_index_keep.specs.declared.write.Write.{Write}
use Rattle.pq_index_keep.proofs.Inserting.{each_is}
use Rattle.pq_index_keep.proofs.Narrow.{valid_writable}
use Rattle.pq_tallies.specs.Counters.{AreFewRows, all_pairs, counter_key, stored_count, tally}
use Rattle.pq_tallies.specs.Defined.{IsCounter, NumberedCounter, counters_in, group_types}
use Rattle.pq_tallies.proofs.Defined.{schema_counters}
use Rattle.pq_tallies.proofs.Told.{get_group, of_counters}
use Rattle.pq_clients.specs.Clients.{View}
use Rattle.pq_clients.specs.Goes.{spot}
use Rattle.pq_clients.specs.Promised.{RunsAsPromised, by_turns, calls_of_client}
use Rattle.pq_clients.specs.Present.{present_rows}
use Rattle.pq_clients.specs.Promises.{AreFresh, Begins, IsResting, reached}
use Rattle.pq_clients.specs.Running.{Moment, Turns, MakesCalls, moment, views_of}
use Rattle.pq_clients.specs.Stepping.{IsClient, view_of}
use Rattle.pq_clients.specs.declared.client.Client.{Client}
use Rattle.pq_clients.specs.declared.outcome.Told.{Told}
use Rattle.pq_clients.specs.declared.outcome.Wrote.{Wrote}
use Rattle.pq_catalog.specs.Model.{Model}
use Rattle.pq_catalog.specs.Stands.{Stands, catalog_pairs, content_of, others_of, pairs_counted}
use Rattle.pq_catalog.proofs.Catalogs.{are_beside}
use Rattle.pq_client_shell.specs.Dealing.{hands, seated, dealt}
use Rattle.pq_client_shell.specs.Runs.{HoldsPresent, RanClients, TellsCause}
use Rattle.pq_client_shell.specs.Writes.{IsUncounted}
use Rattle.pq_client_shell.proofs.Counted.{HasSameRows, all_elsewhere, counted_few, counted_same}
use Rattle.pq_client_shell.proofs.Elsewhere.{IsElsewhere, rows_kept}
use Rattle.pq_client_shell.proofs.Dealt.{hands_all, hands_few, hands_small, hands_length, calls, dealt_fresh, dealt_few, dealt_clients, dealt_length, dealt_is}
use Rattle.pq_client_shell.proofs.Orders.{turns_small, HasCalls}

inner_is : (P : Write → Type 0) (hs : List (List Write)) → AllByRecursion (λ (hand : List Write). AllByRecursion P hand) hs → AllByRecursion (λ (hand : List Write). All P hand) hs
inner_is P [] all = tt
inner_is P (h ∷ hs) all = (each_is P h all.0, inner_is P hs all.1)

mapped_is : {A B : Type 0} (P : B → Type 0) (f : A → B) (xs : List A) → AllByRecursion P (map f xs) → AllByRecursion (λ x. P (f x)) xs
mapped_is P f [] all = tt
mapped_is P f (x ∷ xs) all = (all.0, mapped_is P f xs all.1)

model_content : (m : Model) → content_of m ≡ content_pairs m.schema.tables m.rows (others_of m)
unfolding content_of
model_content m = refl

model_beside : (m : Model) → AreBeside (others_of m)
model_beside m = both_beside (pairs_counted m) (catalog_pairs m.schema) (counters_beside (pairs_counted m) (of_counters m.rows (counters_in m.schema))) (are_beside m.schema)

-- the rows of a model over definitions
abbrev over : Schema → Rows → Model
over s rows = record { schema = s; rows = rows }

-- where no write is in flight, and none was made on a table with counters, just what is present is there
rests_again : (s : Schema) (rows : Rows) (clients : List View) (places : List ℕ) (now : Option Content) (left : List View) (told : List Told) (puts : List Wrote) → IsValid s → Keeps s.tables rows → AreFewRows (counters_in s) rows
    → AllByRecursion (λ (v : View). AllByRecursion (IsUncounted s) v.writes) clients → RunsAsPromised s.tables rows (others_of (over s rows)) clients places now left told puts → All IsResting left → IfSome now (HoldsPresent s)
rests_again s rows clients places now left told puts valid keeps few uncounted ran resting =
    let counters = counters_in s in
    let are = schema_counters s valid in
    let c = (reached s.tables rows (others_of (over s rows)) clients ran.events).content in
    let present = present_rows s.tables c in
    let law : (counter : NumberedCounter) (values : List Value) → In counter counters → AllOfKinds (group_types s.tables counter) values → get (all_pairs s.tables counters rows []) (counter_key counter.number values) ≡ stored_count (tally rows counter values) =
    λ counter values i kinds. get_group s.tables counters rows [] counter values keeps are tt i kinds in
    let same : (counter : NumberedCounter) → In counter counters → HasSameRows rows present counter =
    λ counter i.
    rows_kept s.tables rows (others_of (over s rows)) clients ran.events keeps.fit keeps.apart ran.holds counter.table (all_member (IsCounter s.tables) counters are.each counter i).table
    (each_weaker (λ (v : View). AllByRecursion (IsUncounted s) v.writes) (λ (v : View). AllByRecursion (IsElsewhere counter.table) v.writes) (λ v all. all_elsewhere s counter i v.writes all) clients uncounted) in
    let again : c ≡ content_pairs s.tables present (others_of (over s rows)) = ran.holds.rests (subst (λ (vs : List View). All IsResting vs) ran.leaves.views resting) in
    let holds : HoldsPresent s c = record {
      few = counted_few s.tables counters rows [] keeps.fit law present same few;
      is = again ∙ counted_same s.tables counters rows [] keeps.fit law present same present (catalog_pairs s) ∙ sym (model_content (over s present));
    } in
    subst (λ (o : Option Content). IfSome o (HoldsPresent s)) (sym ran.leaves.content) holds

seated_all : (P : Write → Type 0) (n : ℕ) (hs : List (List Write)) → AllByRecursion (λ (hand : List Write). AllByRecursion P hand) hs → AllByRecursion (λ (v : View). AllByRecursion P v.writes) (seated n hs)
seated_all P n [] all = tt
seated_all P n (h ∷ hs) all = (all.0, seated_all P (n + 1) hs all.1)

dealt_all : (P : Write → Type 0) (k : ℕ) (ws : List Write) → AllByRecursion P ws → AllByRecursion (λ (v : View). AllByRecursion P v.writes) (dealt k ws)
dealt_all P k ws all = subst (λ (vs : List View). AllByRecursion (λ (v : View). AllByRecursion P v.writes) vs) (sym (dealt_is k ws)) (seated_all P 1 (hands k ws) (hands_all P k ws all))

module _ (k : ℕ) (ws : List Write) (hs : List (List Write)) (dealt_to : hs ≡ hands k ws) where
  pub hands_writes : (tables : List Table) → AllByRecursion (IsWrite tables) ws → All (λ (hand : List Write). All (IsWrite tables) hand) hs
  hands_writes tables all =
      each_is (λ (hand : List Write). All (IsWrite tables) hand) hs (inner_is (IsWrite tables) hs (subst (AllByRecursion (λ (hand : List Write). AllByRecursion (IsWrite tables) hand)) (sym dealt_to) (hands_all (IsWrite tables) k ws all)))

  pub hands_short : length ws ≤ 2 ^ 24 → All (λ (hand : List Write). length hand ≤ 2 ^ 24) hs
  hands_short short = each_is (λ (hand : List Write). length hand ≤ 2 ^ 24) hs (subst (AllByRecursion (λ (hand : List Write). length hand ≤ 2 ^ 24)) (sym dealt_to) (hands_few k ws (2 ^ 24) short))

  pub hands_tiny : length ws ≤ 2 ^ 24 → AllByRecursion (λ (hand : List Write). length hand < 2 ^ 32) hs
  hands_tiny short = subst (AllByRecursion (λ (hand : List Write). length hand < 2 ^ 32)) (sym dealt_to) (hands_small k ws (2 ^ 32) (omega (arith, short)))

  pub hands_seats : k ≤ 16 → length hs ≤ 16
  hands_seats few = omega (arith, few, ap length dealt_to, hands_length k ws)

  module _ (cs : List Client) (seats : views_of cs ≡ seated 1 hs) where
    as_dealt : views_of cs ≡ dealt k ws
    as_dealt = seats ∙ ap (seated 1) dealt_to ∙ sym (dealt_is k ws)

    as_seated : views_of cs ≡ seated 1 (hands k ws)
    as_seated = seats ∙ ap (seated 1) dealt_to

    pub clients_fit : (tables : List Table) → length ws ≤ 2 ^ 24 → AllByRecursion (IsWrite tables) ws → All (λ (c : Client). IsClient tables (view_of c)) cs
    clients_fit tables short all =
        each_is (λ (c : Client). IsClient tables (view_of c)) cs (mapped_is (IsClient tables) view_of cs (subst (AllByRecursion (IsClient tables)) (sym as_seated) (dealt_clients tables k ws short (each_is (IsWrite tables) ws all))))

    pub clients_few : k ≤ 16 → length ws ≤ 2 ^ 24 → sum_by (λ (v : View). length v.writes) (views_of cs) < 2 ^ 32
    clients_few few short = subst (λ (vs : List View). sum_by (λ (v : View). length v.writes) vs < 2 ^ 32) (sym as_seated) (dealt_few k ws few short)

    clients_long : length cs ≡ k
    clients_long = sym (length-map cs view_of) ∙ ap length as_seated ∙ dealt_length k ws

    pub places_fit : (order : List ℕ) (r : ℕ) → order ≡ by_turns k r → All (λ place. place < length cs) order
    places_fit order r is = subst (λ n. All (λ place. place < n) order) (sym clients_long) (subst (All (λ place. place < k)) (sym is) (each_is (λ place. place < k) (by_turns k r) (turns_small k r)))

    -- what the steps promise, of the clients as they are dealt
    module _ (s : Schema) (order : List ℕ) (r : ℕ) (old now : Option Content) (left : List View) (told : List Told) (puts : List Wrote) (valid : IsValid s) (few : k ≤ 16) (short : length ws ≤ 2 ^ 24)
        (all : AllByRecursion (IsWrite s.tables) ws) (order_is : order ≡ by_turns k r)
        (promises : (rows : Rows) (others : List Pair) → Begins s.tables rows others (views_of cs) → old ≡ Some (content_pairs s.tables rows others) → RunsAsPromised s.tables rows others (views_of cs) order now left told puts) where
      promised_at : (m : Model) → Stands old s m → RunsAsPromised s.tables m.rows (others_of m) (dealt k ws) (by_turns k r) now left told puts
      promised_at m stands =
          let rows_kept : Keeps s.tables m.rows = subst (λ (x : Schema). Keeps x.tables m.rows) (sym stands.known) stands.settled.keeps in
          let content_is : old ≡ Some (content_pairs s.tables m.rows (others_of m)) =
          stands.settled.told ∙ ap (λ (c : Content). Some c) (model_content m ∙ ap (λ (x : Schema). content_pairs x.tables m.rows (others_of m)) (sym stands.known)) in
          let fresh = dealt_fresh s.tables k ws few short (each_is (IsWrite s.tables) ws all) in
          let begins : Begins s.tables m.rows (others_of m) (views_of cs) =
          record { sound = valid_writable valid; keeps = rows_kept; beside = model_beside m; fresh = subst (AreFresh s.tables) (sym as_dealt) fresh } in
          subst (λ (o : List ℕ). RunsAsPromised s.tables m.rows (others_of m) (dealt k ws) o now left told puts) order_is
          (subst (λ (vs : List View). RunsAsPromised s.tables m.rows (others_of m) vs order now left told puts) as_dealt (promises m.rows (others_of m) begins content_is))

      rests_at : AllByRecursion (IsUncounted s) ws → (m : Model) → Stands old s m → All IsResting left → IfSome now (HoldsPresent s)
      rests_at uncounted m stands resting =
          let known : m.schema ≡ s = sym stands.known in
          rests_again s m.rows (dealt k ws) (by_turns k r) now left told puts valid
          (subst (λ (x : Schema). Keeps x.tables m.rows) known stands.settled.keeps)
          (subst (λ (x : Schema). AreFewRows (counters_in x) m.rows) known stands.settled.few)
          (dealt_all (IsUncounted s) k ws uncounted)
          (subst (λ (x : Schema). RunsAsPromised s.tables m.rows (others_of (over x m.rows)) (dealt k ws) (by_turns k r) now left told puts) known (promised_at m stands))
          resting

      pub ran_clients : (before after : Counts) (faults faults_now : ℕ) → AllByRecursion (IsUncounted s) ws → AllByRecursion (HasCalls s.tables r) hs
          → Turns s.tables order (moment (spot old faults before) (views_of cs) [] []) (moment (spot now faults_now after) left told puts) → RanClients k s ws old now before after told
      ran_clients before after faults faults_now uncounted enough turns = record {
        rounds = r;
        enough = subst (AllByRecursion (λ v. calls_of_client s.tables v ≤ r)) (ap (seated 1) dealt_to ∙ sym (dealt_is k ws)) (calls s.tables 1 r hs enough);
        left = left;
        puts = puts;
        faults = faults;
        faults_now = faults_now;
        turns = subst (λ (o : List ℕ). Turns s.tables o (moment (spot old faults before) (dealt k ws) [] []) (moment (spot now faults_now after) left told puts)) order_is
            (subst (λ (vs : List View). Turns s.tables order (moment (spot old faults before) vs [] []) (moment (spot now faults_now after) left told puts)) as_dealt turns);
        promised = promised_at;
        rests = rests_at uncounted;
      }

pub tells_cause : (turns : ℕ) (before after : Moment) → before.told ≡ [] → MakesCalls turns before after → TellsCause before.spot.faults after.spot.faults after.told
tells_cause turns before after none made one is failed = by (made.failed one is failed)
  where
    by : In one before.told ⊎ HasRisen before.spot.faults after.spot.faults → HasRisen before.spot.faults after.spot.faults
    by (inl is) = absurd (subst (In one) none is)
    by (inr risen) = risen
