use Rattle.std.proofs.Common.{◌≡◌, ℕ, ◌*◌, Option, Some, None, sym, subst}
use Rattle.std.proofs.lemmas.Option.{none-some, same_Some}
use Rattle.pq_base.specs.declared.number.Bound.{Bound}
use Rattle.pq_store.specs.Content.{Content}
use Rattle.pq_content.specs.Tables.{Rows}
use Rattle.pq_schema.specs.declared.table.NewIndex.{NewIndex}
use Rattle.pq_store.specs.Counts.{Counts}
use Rattle.pq_builds.specs.declared.build.Built.{Built}
use Rattle.pq_builds.specs.declared.build.Built.TheVariants as built
use Rattle.pq_builds.specs.declared.target.NewQuery.{NewQuery}
use Rattle.pq_builds.specs.declared.target.Target.{Target}
use Rattle.pq_builds.specs.Bounds.{build_bound, prepare_bound, fixed_bound}
use Rattle.pq_builds.specs.Standing.{Origin, Makes, rows_in}
use Rattle.pq_builds.specs.Stages.{Takes, TakesBuild, build_ops}
use Rattle.pq_builds.proofs.Own.{few_bound, many_bound}
use Rattle.pq_builds.proofs.laws.bound_law.Goals as goal

fixed_is : (wanted : Option NewIndex) (most : Bound) (rows : Rows) → fixed_bound wanted ≡ Some most → prepare_bound wanted rows ≡ most
fixed_is None most rows is = same_Some _ _ is
fixed_is (Some new) most rows is = absurd (none-some most is)

pub returns-clause-fixed : goal.returns-clause-fixed
returns-clause-fixed c = fixed_is

used_is : (origin : Origin) (target : Target) (query : NewQuery) (b : Built) (now : Option Content) (before after : Counts) → Makes origin target query b now → TakesBuild b before after → Takes (build_bound (rows_in origin target)).ops (build_bound (rows_in origin target)).entries before after
used_is origin target query (built.Rows count) now before after made takes =
    subst (λ (x : Bound). Takes x.ops x.entries before after) (sym (few_bound (rows_in origin target) made.1)) (subst (λ (n : ℕ). Takes (build_ops n) (2 * n) before after) (sym made.0) takes)
used_is origin target query built.TooMany now before after made takes = subst (λ (x : Bound). Takes x.ops x.entries before after) (sym (many_bound (rows_in origin target) made.0)) takes

pub returns-clause-used : goal.returns-clause-used
returns-clause-used c = used_is
