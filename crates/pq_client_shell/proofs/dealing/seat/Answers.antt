use Rattle.std.proofs.Common.{◌≡◌, ◌+◌, ℕ, List, [], ◌∷◌, ◌++◌, length, rules, ap, sym, ◌∙◌, arith, length-append}
use Rattle.std.proofs.lemmas.List.{map-append}
use Rattle.pq_clients.specs.Clients.{View, new_view}
use Rattle.pq_clients.specs.Running.{views_of}
use Rattle.pq_clients.specs.Stepping.{view_of}
use Rattle.pq_clients.specs.declared.client.Client.{Client}
use Rattle.pq_index_keep.specs.declared.write.Write.{Write}
use Rattle.pq_client_shell.specs.Dealing.{seated}
use Rattle.pq_client_shell.proofs.Dealt.{seated_more}
use Rattle.pq_client_shell.proofs.dealing.seat.Goals as goal

one_more : (clients now : List Client) (made : Client) (hs : List (List Write)) (h : List Write) (n : ℕ) → views_of clients ≡ seated 1 hs → now ≡ clients ++ made ∷ [] → view_of made ≡ new_view n h → n ≡ 1 + length hs → views_of now ≡ seated 1 (hs ++ h ∷ [])
one_more clients now made hs h n so_far more made_is number =
    ap views_of more ∙ map-append view_of clients (made ∷ []) ∙ ap (λ (vs : List View). vs ++ view_of made ∷ []) so_far
    ∙ ap (λ (v : View). seated 1 hs ++ v ∷ []) (made_is ∙ ap (λ m. new_view m h) number) ∙ sym (seated_more 1 hs h)

pub loop-hand-preserved : goal.loop-hand-preserved
loop-hand-preserved c =
    let so_far = c.loop-hand.invariant in
    let long = length-append c.loop-hand.yielded (c.in-Some.hand ∷ []) in
    record {
      number = omega (arith, so_far.number, long);
      clients = one_more c.loop-hand.clients c.push.new.self c.new.result c.loop-hand.yielded c.in-Some.hand c.loop-hand.number so_far.clients c.in_ok-push.ensures.ok c.new.ensures so_far.number;
      left = search rules;
      few = omega (arith, so_far.few, long, ap length c.in-Some.ensures.steps.0);
    }
