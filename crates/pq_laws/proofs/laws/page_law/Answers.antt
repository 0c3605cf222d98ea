use Rattle.pq_laws.proofs.Paging.{pages_all, pages_end}
use Rattle.pq_laws.proofs.RunPages.{runs_all, runs_end}
use Rattle.pq_laws.proofs.laws.page_law.Goals as goal

pub returns-clause-all : goal.returns-clause-all
returns-clause-all c m query params k pages paged are = pages_all m query params k paged pages are

pub returns-clause-ends : goal.returns-clause-ends
returns-clause-ends c = pages_end

pub returns-clause-runs : goal.returns-clause-runs
returns-clause-runs c m name params number k reports found paged are = runs_all m name params number k found paged reports are

pub returns-clause-runs_end : goal.returns-clause-runs_end
returns-clause-runs_end c = runs_end
