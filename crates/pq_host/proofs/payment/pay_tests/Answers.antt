use Rattle.std.proofs.Common.{None, Some}
use Rattle.pq_host.proofs.Testing.{afforded, tests_paid}
use Rattle.pq_host.proofs.payment.pay_tests.Goals as goal

pub pay_all-requires-clause-share : goal.pay_all-requires-clause-share
pay_all-requires-clause-share g c =
    afforded c.args.tests.now None c.args.entries tt c.args.allowance.now (rw c.in-None.is at c.requires.most) c.requires.share

pub pay_all-requires-in-Some-clause-share : goal.pay_all-requires-in-Some-clause-share
pay_all-requires-in-Some-clause-share g c =
    afforded c.args.tests.now (Some c.in-Some.i) c.args.entries (rw c.in-Some.is at c.requires.within) c.args.allowance.now (rw c.in-Some.is at c.requires.most) c.requires.share

pub returns-in-None-clause-paid : goal.returns-in-None-clause-paid
returns-in-None-clause-paid g c =
    tests_paid c.args.tests.now None c.args.entries tt _ _ _ _ (rw c.in-None.is at c.requires.most) c.pay_all.ensures.paid

pub returns-in-Some-clause-paid : goal.returns-in-Some-clause-paid
returns-in-Some-clause-paid g c =
    tests_paid c.args.tests.now (Some c.in-Some.i) c.args.entries (rw c.in-Some.is at c.requires.within) _ _ _ _ (rw c.in-Some.is at c.requires.most) c.pay_all-in-Some.ensures.paid
