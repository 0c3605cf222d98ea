use Rattle.std.proofs.Common.{rules, ◌+◌, ◌-◌, take, drop, sym, ap, ◌∙◌}
use Rattle.pq_console.proofs.Known.{given_front}
use Rattle.pq_console.proofs.memory.MemSource.give.Goals as goal

pub returns-clause-taken : goal.returns-clause-taken
returns-clause-taken c =
    let s = c.self.inside in
    let n = c.min-n.result in
    ap (λ v. v.left) (sym c.self.view_is)
    ∙ given_front s.bytes c.args.room.now c.copy_from_slice.new.self s.at n (search rules) (c.copy_from_slice.ensures.after ∙ ap (λ bs. take (s.at + n - s.at) (drop s.at bs)) c.items-bytes.ensures)
