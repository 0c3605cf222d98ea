-- What the tests of a write may read behind writes that remove pairs.
use Rattle.std.proofs.Common.{◌≡◌, ℕ, ◌+◌, ◌*◌, ◌≤◌, ◌==◌, Bool, true, false, cond, List, [], ◌∷◌, length, refl, sym, ap, subst, ◌∙◌, arith}
use Rattle.std.specs.List.{sum_by, count_by}
use Rattle.std.proofs.lemmas.List.Sums.{sum_by-cons, count_by-le-length}
use Rattle.std.proofs.Math.Nat.{mul-le-mul_left}
use Rattle.pq_base.specs.declared.number.Bound.{Bound}
use Rattle.pq_base.specs.declared.value.Value.{Value}
use Rattle.pq_schema.specs.declared.table.Limit.{Limit}
use Rattle.pq_schema.specs.declared.table.Table.{Table}
use Rattle.pq_schema.specs.Tables.{table_at}
use Rattle.pq_store.specs.declared.store.Store.{Ghosts}
use Rattle.pq_pending.specs.Calls.{Uses}
use Rattle.pq_pending.specs.declared.calls.PendingCalls.{PendingCalls}
use Rattle.pq_pending.proofs.Lists.{count-cons}
use Rattle.pq_index_keep.specs.Spending.{Spends}
use Rattle.pq_index_keep.specs.declared.write.Cond.{Cond}
use Rattle.pq_index_keep.specs.declared.write.Scope.{Scope}
use Rattle.pq_index_keep.specs.declared.write.Scope.TheVariants as scope
use Rattle.pq_index_keep.specs.declared.write.SetCol.{SetCol}
use Rattle.pq_index_keep.specs.declared.write.Write.{Write}
use Rattle.pq_index_keep.specs.declared.write.Write.TheVariants as write
use Rattle.pq_index_keep.specs.Bounds.{tested_limits, tested_n, tested_n_behind, tested_behind, tests, with_more, children_behind, refers, refers_behind, referring_count, referring_behind, counted, tests_behind, write_tests}
use Rattle.pq_index_keep.specs.Rounds.{write_rounds, alone_rounds}
use Rattle.pq_index_keep.specs.Sound.{AreWritable, IsWrite}
use Rattle.pq_index_keep.specs.Tested.{touches, scope_of}
use Rattle.pq_index_keep.proofs.Few.{tests_few, referring_few}
use Rattle.pq_index_keep.proofs.Inserting.{writable_at}

spread : (a b removers : ℕ) → (a + b) * removers ≡ a * removers + b * removers
spread a b removers = grind arith

nothing_behind : (removers : ℕ) → 0 ≡ 0 + 0 * removers
nothing_behind removers = omega arith

one_behind : (b : Bool) (n removers whole plain count : ℕ) → whole ≡ plain + count * removers → cond b (n + removers) 0 + whole ≡ cond b n 0 + plain + (cond b 1 0 + count) * removers
one_behind true n removers whole plain count h =
    let one : (1 + count) * removers ≡ 1 * removers + count * removers = spread 1 count removers in
    omega (arith, h, one)
one_behind false n removers whole plain count h = omega (arith, h)

-- each of some that pass a test has its own number, and behind writes that remove pairs so many more
sum_behind : {X : Type 0} (p : X → Bool) (n : X → ℕ) (removers : ℕ) (xs : List X) → sum_by (λ x. cond (p x) (n x + removers) 0) xs ≡ sum_by (λ x. cond (p x) (n x) 0) xs + count_by p xs * removers
sum_behind p n removers [] = nothing_behind removers
sum_behind p n removers (x ∷ xs) =
    let plain = sum_by-cons (λ x. cond (p x) (n x) 0) x xs in
    let count = count-cons p x xs in
    sum_by-cons (λ x. cond (p x) (n x + removers) 0) x xs
    ∙ one_behind (p x) (n x) removers _ (sum_by (λ x. cond (p x) (n x) 0) xs) (count_by p xs) (sum_behind p n removers xs)
    ∙ (λ i. sym plain i + sym count i * removers)

limits_behind : (removers : ℕ) (of : Scope) (limits : List Limit) → sum_by (tested_n_behind removers of) limits ≡ sum_by (tested_n of) limits + tested_limits of limits * removers
limits_behind removers of limits = sum_behind (λ limit. touches of limit.cols) (λ limit. limit.n) removers limits

table_behind : (removers : ℕ) (of : Scope) (table : Table) → (tests of table).entries + tested_limits of table.limits * removers ≡ (tested_behind removers of table).entries
table_behind removers of table =
    let limits = limits_behind removers of table.limits in
    omega (arith, limits)

refers_is : (removers t : ℕ) (table : Table) → refers_behind removers t table ≡ refers t table + refers t table * removers
refers_is removers t table = sum_behind (λ f. f.table == t) (λ f. 1) removers table.foreign

two_behind : (a b removers first rest : ℕ) → first ≡ a + a * removers → rest ≡ b + b * removers → first + rest ≡ a + b + (a + b) * removers
two_behind a b removers first rest h k =
    let both : (a + b) * removers ≡ a * removers + b * removers = spread a b removers in
    omega (arith, h, k, both)

referring_is : (removers t : ℕ) (tables : List Table) → referring_count tables t + referring_count tables t * removers ≡ referring_behind removers tables t
referring_is removers t [] = sym (nothing_behind removers)
referring_is removers t (x ∷ xs) =
    let count = sum_by-cons (refers t) x xs in
    let whole = sum_by-cons (refers_behind removers t) x xs in
    (λ i. count i + count i * removers)
    ∙ sym (two_behind (refers t x) (referring_count xs t) removers (refers_behind removers t x) (referring_behind removers xs t) (refers_is removers t x) (sym (referring_is removers t xs)))
    ∙ sym whole

-- ---- the tests of each write

module _ (removers : ℕ) (tables : List Table) (w : Write) (t : ℕ) where
  pub insert_behind : (row : List Value) → w ≡ write.Insert t row → tests_behind removers tables w ≡ tested_behind removers scope.All (table_at tables t)
  insert_behind row is =
      ap (tests_behind removers tables) is
      ∙ (λ i. record { ops = (tests scope.All (table_at tables t)).ops; entries = table_behind removers scope.All (table_at tables t) i })

  pub update_behind : (key : List Value) (sets : List SetCol) (conds : List Cond) → w ≡ write.Update t key sets conds → tests_behind removers tables w ≡ tested_behind removers (scope_of sets) (table_at tables t)
  update_behind key sets conds is =
      ap (tests_behind removers tables) is
      ∙ (λ i. record { ops = (tests (scope_of sets) (table_at tables t)).ops; entries = table_behind removers (scope_of sets) (table_at tables t) i })

  pub delete_behind : (key : List Value) (conds : List Cond) → w ≡ write.Delete t key conds → tests_behind removers tables w ≡ with_more 1 (children_behind removers tables t)
  delete_behind key conds is =
      let entries : 1 + referring_count tables t + referring_count tables t * removers ≡ 1 + referring_behind removers tables t = omega (arith, referring_is removers t tables) in
      ap (tests_behind removers tables) is ∙ (λ i. record { ops = 1 + referring_count tables t; entries = entries i })

-- what was spent by the bound of this write
pub spent_as : {S L : Type 0} (s : Ghosts S L) (before after : PendingCalls S L) (tables : List Table) (w one : Write) (bound : Bound) → w ≡ one → tests_behind before.pending.now.removers tables w ≡ bound → Spends s before after bound (write_rounds before.pending.now.changes tables one)
    → Spends s before after (tests_behind before.pending.now.removers tables w) (write_rounds before.pending.now.changes tables w)
spent_as s before after tables w one bound is same spent = record {
  uses = subst (λ (b : Bound). Uses s.content s.faults before after b.ops b.entries) (sym same) spent.uses;
  rounds = subst (λ (v : Write). s.rounds after.store.now ≤ s.rounds before.store.now + write_rounds before.pending.now.changes tables v) (sym is) spent.rounds;
}

-- ---- they are few

-- operations and entries of the tests, and what is counted
pub record AreFewTests (tests : Bound) (count : ℕ) : Type 0 where
  pub ops : tests.ops ≤ 300
  pub entries : tests.entries ≤ 40005
  pub counted : count ≤ 256
  pub both : tests.entries + count * 256 ≤ 66000

limits_few : (of : Scope) (table : Table) → length table.limits ≤ 4 → tested_limits of table.limits ≤ 4
limits_few of table few =
    let most = count_by-le-length (λ (limit : Limit). touches of limit.cols) table.limits in
    omega (arith, most, few)

pub few_tests : (tables : List Table) (w : Write) → AreWritable tables → length tables ≤ 64 → IsWrite tables w → AreFewTests (write_tests tables w) (counted tables w)
few_tests tables (write.Insert t row) sound small is =
    let table = writable_at tables t sound is.number in
    let few = tests_few tables (table_at tables t) scope.All table in
    let some = limits_few scope.All (table_at tables t) table.made.few_limits in
    record { ops = omega (arith, few.0); entries = few.1; counted = omega (arith, some); both = omega (arith, some, few.1) }
few_tests tables (write.Update t key sets conds) sound small is =
    let table = writable_at tables t sound is.number in
    let few = tests_few tables (table_at tables t) (scope_of sets) table in
    let some = limits_few (scope_of sets) (table_at tables t) table.made.few_limits in
    record { ops = omega (arith, few.0); entries = few.1; counted = omega (arith, some); both = omega (arith, some, few.1) }
few_tests tables (write.Delete t key conds) sound small is =
    let few = referring_few tables t sound small in
    record { ops = omega (arith, few); entries = omega (arith, few); counted = few; both = omega (arith, few) }

-- the sum is small where few writes remove pairs
pub few_behind : (tests : Bound) (count removers : ℕ) → AreFewTests tests count → removers ≤ 256 → tests.entries + count * removers ≤ 66000
few_behind tests count removers few removed =
    let most : count * removers ≤ count * 256 = mul-le-mul_left count removed in
    omega (arith, few.both, most)

-- how often a write asks the store where nothing is pending
pub alone_is : (tables : List Table) (write : Write) → write_rounds [] tables write ≡ alone_rounds write
alone_is tables (write.Insert t row) = refl
alone_is tables (write.Update t key sets conds) = refl
alone_is tables (write.Delete t key conds) = refl
