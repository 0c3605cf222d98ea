use Rattle.std.proofs.Common.{◌≡◌, ℕ, ◌+◌, ◌≤◌, List, [], ◌++◌, rules, arith, length, take, drop, length-take, length-append, Option, sym, ap, ◌∙◌}
use Rattle.std.proofs.lemmas.List.{length-take-le}
use Rattle.std.specs.Io.KnownBytes.{prepend_known}
use Rattle.pq_console.proofs.Known.{prepend_known-append, prepend_known-none, room_front, room_long}
use Rattle.pq_client_shell.proofs.script.read_bytes.Goals as goal

none_read : (left : Option (List ℕ)) (bytes : List ℕ) → bytes ≡ [] → left ≡ prepend_known bytes left
none_read left bytes none = sym (ap (λ b. prepend_known b left) none ∙ prepend_known-none left)

read_more : (left mid now : Option (List ℕ)) (bytes part : List ℕ) → left ≡ prepend_known bytes mid → mid ≡ prepend_known part now → left ≡ prepend_known (bytes ++ part) now
read_more left mid now bytes part first next = first ∙ ap (prepend_known bytes) next ∙ sym (prepend_known-append bytes part now)

read_same : (left mid now : Option (List ℕ)) (bytes : List ℕ) → left ≡ prepend_known bytes mid → now ≡ mid → left ≡ prepend_known bytes now
read_same left mid now bytes first same = first ∙ ap (prepend_known bytes) (sym same)

read_none : (left mid now : Option (List ℕ)) (bytes room : List ℕ) (n : ℕ) → left ≡ prepend_known bytes mid → mid ≡ prepend_known (take n room) now → n ≡ 0 → left ≡ prepend_known bytes now
read_none left mid now bytes room n first next none = first ∙ ap (prepend_known bytes) (next ∙ ap (λ k. prepend_known (take k room) now) none ∙ prepend_known-none now)

pub loop-taken-init : goal.loop-taken-init
loop-taken-init g c = record { within = search rules; long = ap length c.requires; read = none_read _ _ c.requires; counted = search rules; later = search rules }

pub returns-in-Err-clause-took : goal.returns-in-Err-clause-took
returns-in-Err-clause-took g c =
    let so_far = c.loop-taken.invariant in
    (read_same _ _ _ c.loop-taken.bytes.items so_far.read c.in-Err.ensures.kept, omega (arith, so_far.long, so_far.within))

pub returns-in-Err-clause-taken : goal.returns-in-Err-clause-taken
returns-in-Err-clause-taken g c =
    let so_far = c.loop-taken.invariant in
    (c.loop-taken.bytes.items, read_same _ _ _ c.loop-taken.bytes.items so_far.read c.in-Err.ensures.kept, omega (arith, so_far.long, so_far.within))

pub returns-then-n-eq0-clause-took : goal.returns-then-n-eq0-clause-took
returns-then-n-eq0-clause-took g c =
    let so_far = c.loop-taken.invariant in
    (read_none _ _ _ c.loop-taken.bytes.items c.read.new.room c.in-Ok.n so_far.read c.in-Ok.ensures.taken (search rules), search rules, omega (arith, so_far.long, so_far.within))

pub returns-then-n-eq0-clause-taken : goal.returns-then-n-eq0-clause-taken
returns-then-n-eq0-clause-taken g c =
    let so_far = c.loop-taken.invariant in
    (c.loop-taken.bytes.items, read_none _ _ _ c.loop-taken.bytes.items c.read.new.room c.in-Ok.n so_far.read c.in-Ok.ensures.taken (search rules), omega (arith, so_far.long, so_far.within))

pub loop-taken-preserved : goal.loop-taken-preserved
loop-taken-preserved g c =
    let so_far = c.loop-taken.invariant in
    let bytes = c.loop-taken.bytes.items in
    let n = c.in-Ok.n in
    let behind = drop c.min-want.result c.loop-taken.room in
    let within : n ≤ length c.read.new.room = omega (arith, c.read.auto.room, c.in-Ok.ensures.within) in
    let next = c.in-Ok.ensures.taken ∙ ap (λ b. prepend_known b (g.I.Source.left c.read.new.self)) (sym (room_front n c.read.new.room behind within)) in
    let part = take n (c.read.new.room ++ behind) in
    let ext : c.extend_from_slice.new.self.items ≡ bytes ++ part = c.in_ok-extend_from_slice.ensures.items in
    record {
      within = omega (arith, c.in-Ok.ensures.within, length-take c.min-want.result c.loop-taken.room, c.min-want.ensures);
      long = omega (arith, ap length ext, length-append bytes part, room_long n c.read.new.room behind within, so_far.long);
      read = read_more _ _ _ bytes part so_far.read next ∙ ap (λ b. prepend_known b (g.I.Source.left c.read.new.self)) (sym ext);
      counted = omega (arith, c.loop-taken.invariant.counted, c.in-Ok.ensures.counted);
      later = search rules;
    }

pub returns-clause-took : goal.returns-clause-took
returns-clause-took g c =
    let so_far = c.loop-taken.invariant in
    c.read_past_limit.ensures.took c.loop-taken.bytes.items (omega (arith, so_far.long, so_far.within, c.loop-taken-test.false)) _ so_far.read

pub returns-clause-taken : goal.returns-clause-taken
returns-clause-taken g c =
    let last = c.read_past_limit.ensures.taken in
    let bytes = c.loop-taken.bytes.items in
    (bytes ++ last.0, read_more _ _ _ bytes last.0 c.loop-taken.invariant.read last.1, omega (arith, last.2, c.loop-taken.invariant.within, c.loop-taken.invariant.long, length-append bytes last.0))

pub returns-in_err-extend_from_slice-clause-taken : goal.returns-in_err-extend_from_slice-clause-taken
returns-in_err-extend_from_slice-clause-taken g c =
    let so_far = c.loop-taken.invariant in
    let bytes = c.loop-taken.bytes.items in
    let n = c.in-Ok.n in
    let part = take n c.read.new.room in
    let within : n ≤ length c.read.new.room = omega (arith, c.read.auto.room, c.in-Ok.ensures.within) in (
      bytes ++ part,
      read_more _ _ _ bytes part so_far.read c.in-Ok.ensures.taken,
      omega (arith, so_far.long, length-append bytes part, length-take-le n c.read.new.room within, c.in-Ok.ensures.within, length-take c.min-want.result c.loop-taken.room, c.min-want.ensures),
    )
