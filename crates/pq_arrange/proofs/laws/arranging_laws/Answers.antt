use Rattle.pq_arrange.proofs.Answers.{same_answers}
use Rattle.pq_arrange.proofs.Arranges.{same_rearranged, same_arranged, rearranged_resolved, arranged_resolved, leaves_planned, finds_candidate, arranged_once}
use Rattle.pq_arrange.proofs.laws.arranging_laws.Goals as goal

pub returns : goal.returns
returns c = record { rearranged = same_rearranged; combos = same_arranged; answers = same_answers; rearranged_resolved = rearranged_resolved; resolved = arranged_resolved; leaves = leaves_planned; finds = finds_candidate; once = arranged_once }
