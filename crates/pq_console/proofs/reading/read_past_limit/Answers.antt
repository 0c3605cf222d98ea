use Rattle.std.proofs.Common.{rules}
use Rattle.pq_console.proofs.Taking.{Took-past}
use Rattle.pq_console.proofs.reading.read_past_limit.Goals as goal

pub returns-else-n-eq0-clause-took : goal.returns-else-n-eq0-clause-took
returns-else-n-eq0-clause-took g c = λ bytes long left same. Took-past left _ _ bytes c.read.new.room c.in-Ok.n long same (search rules) (search rules) (search rules)
