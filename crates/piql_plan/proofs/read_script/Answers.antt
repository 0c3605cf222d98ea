use Rattle.std.proofs.Common.{◌≡◌, ℕ, ◌≤◌, List, [], ◌++◌, Option, rules, arith, length, take, drop, length-take, length-append, sym, ap, ◌∙◌}
use Rattle.std.specs.Io.KnownBytes.{prepend_known}
use Rattle.pq_console.proofs.Known.{prepend_known-append, prepend_known-none, room_front, room_long}
use Rattle.piql_plan.proofs.read_script.Goals as goal

none_read : (left : Option (List ℕ)) (bytes : List ℕ) → bytes ≡ [] → left ≡ prepend_known bytes left
none_read left bytes none = sym (ap (λ b. prepend_known b left) none ∙ prepend_known-none left)

read_more : (left mid now : Option (List ℕ)) (bytes part : List ℕ) → left ≡ prepend_known bytes mid → mid ≡ prepend_known part now → left ≡ prepend_known (bytes ++ part) now
read_more left mid now bytes part first next = first ∙ ap (prepend_known bytes) next ∙ sym (prepend_known-append bytes part now)

read_none : (left mid now : Option (List ℕ)) (bytes room : List ℕ) (n : ℕ) → left ≡ prepend_known bytes mid → mid ≡ prepend_known (take n room) now → n ≡ 0 → left ≡ prepend_known bytes now
read_none left mid now bytes room n first next none = first ∙ ap (prepend_known bytes) (next ∙ ap (λ k. prepend_known (take k room) now) none ∙ prepend_known-none now)

pub script-init : goal.script-init
script-init g c = record { long = search rules; read = none_read _ _ (search rules); counted = search rules; within = search rules; later = search rules }

pub returns-then-n-eq0-clause-read : goal.returns-then-n-eq0-clause-read
returns-then-n-eq0-clause-read g c = read_none _ _ _ c.script.script c.read.new.room c.in-Ok.n c.script.invariant.read c.in-Ok.ensures.taken (search rules)

pub script-preserved : goal.script-preserved
script-preserved g c =
    let so_far = c.script.invariant in
    let n = c.in-Ok.n in
    let behind = drop c.min-want.result c.script.room in
    let within : n ≤ length c.read.new.room = omega (arith, c.read.auto.room, c.in-Ok.ensures.within) in
    let next = c.in-Ok.ensures.taken ∙ ap (λ b. prepend_known b (g.I.Source.left c.read.new.self)) (sym (room_front n c.read.new.room behind within)) in
    let part = take n (c.read.new.room ++ behind) in
    let ext : c.extend.new.self ≡ c.script.script ++ part = search rules in
    record {
      long = omega (arith, ap length ext, length-append c.script.script part, room_long n c.read.new.room behind within, so_far.long);
      read = read_more _ _ _ c.script.script part so_far.read next ∙ ap (λ b. prepend_known b (g.I.Source.left c.read.new.self)) (sym ext);
      counted = omega (arith, so_far.counted, c.in-Ok.ensures.counted);
      within = omega (arith, c.in-Ok.ensures.within, length-take c.min-want.result c.script.room, c.min-want.ensures, so_far.within, c.script-test.true);
      later = search rules;
    }
