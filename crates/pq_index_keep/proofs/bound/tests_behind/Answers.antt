use Rattle.std.proofs.Common.{arith}
use Rattle.pq_schema.proofs.Valid.{valid_small}
use Rattle.pq_index_keep.proofs.Behind.{AreFewTests, few_tests, few_behind}
use Rattle.pq_index_keep.proofs.Narrow.{valid_writable}
use Rattle.pq_index_keep.proofs.bound.tests_behind.Goals as goal

pub write_tests-tests-requires-clause-sound : goal.write_tests-tests-requires-clause-sound
write_tests-tests-requires-clause-sound c = valid_writable c.known.ensures

pub counted-counted-requires-clause-sound : goal.counted-counted-requires-clause-sound
counted-counted-requires-clause-sound c = valid_writable c.known.ensures

pub overflow_add-result : goal.overflow_add-result
overflow_add-result c =
    let few : AreFewTests c.write_tests-tests.result c.counted-counted.result = rw (c.write_tests-tests.ensures.tests, c.counted-counted.ensures.counted) (few_tests c.args.catalog.now.tables c.args.write.now (valid_writable c.known.ensures) (valid_small c.known.ensures).tables c.requires.write) in
    let most = few_behind c.write_tests-tests.result c.counted-counted.result c.args.removers few c.requires.few in
    omega (arith, most)

pub returns-clause-ops : goal.returns-clause-ops
returns-clause-ops c = rw c.write_tests-tests.ensures.tests (few_tests c.args.catalog.now.tables c.args.write.now (valid_writable c.known.ensures) (valid_small c.known.ensures).tables c.requires.write).ops

pub returns-clause-entries : goal.returns-clause-entries
returns-clause-entries c =
    let few : AreFewTests c.write_tests-tests.result c.counted-counted.result = rw (c.write_tests-tests.ensures.tests, c.counted-counted.ensures.counted) (few_tests c.args.catalog.now.tables c.args.write.now (valid_writable c.known.ensures) (valid_small c.known.ensures).tables c.requires.write) in
    few_behind c.write_tests-tests.result c.counted-counted.result c.args.removers few c.requires.few
