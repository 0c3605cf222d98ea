use Rattle.std.proofs.Common.{lit≤, refl, inl, None}
use Rattle.std.proofs.lemmas.Slice.Zip.{AllZip-long}
use Rattle.pq_store.specs.Rounds.{IsValueAnswered, IsValueOf, IsPartAsked, ArePairsOf}
use Rattle.pq_host.specs.Ends.{any_answer}
use Rattle.pq_host.proofs.Untold.{anyway, done_anyway, each_anyway, if_ok, zip_as, parts_answered}
use Rattle.pq_host.proofs.host_store.HostStoreStore.TheImpl.Goals as goal

pub get-tells : goal.get-tells
get-tells g c = record { answer = anyway c.result tt; answered = anyway c.result tt; same = refl; cause = c.ensures.cause; round = lit≤ tt; meter = c.ensures.meter }

pub range-tells : goal.range-tells
range-tells g c = record { answer = anyway c.result tt; part = c.ensures.part; answered = each_anyway c.result; same = refl; cause = c.ensures.cause; round = lit≤ tt; meter = c.ensures.meter }

pub count-tells : goal.count-tells
count-tells g c = record { answer = anyway c.result tt; few = c.ensures.few; same = refl; cause = c.ensures.cause; round = lit≤ tt; meter = c.ensures.meter }

pub write-tells : goal.write-tells
write-tells g c = record {
  answer = anyway c.result tt;
  answered = done_anyway c.result;
  content = anyway c.result refl;
  no_memory = λ _. refl;
  failed = λ _. inl refl;
  cause = c.ensures.cause;
  round = lit≤ tt;
  meter = c.ensures.meter;
}

pub gets-tells : goal.gets-tells
gets-tells g c = record {
  long = if_ok _ _ (λ found h. AllZip-long (IsValueAnswered any_answer) c.args.keys.now found h) c.result c.ensures.answered;
  answer = if_ok _ _ (λ found h. zip_as (IsValueAnswered any_answer) (IsValueOf None) (λ key value one. tt) c.args.keys.now found h) c.result c.ensures.answered;
  answered = c.ensures.answered;
  same = refl;
  cause = c.ensures.cause;
  round = lit≤ tt;
  paid = c.ensures.paid;
  counted = c.ensures.counted;
}

pub ranges-tells : goal.ranges-tells
ranges-tells g c = record {
  long = if_ok _ _ (λ found h. AllZip-long (IsPartAsked c.args.limit) c.args.asks.now found h) c.result c.ensures.parts;
  answer = if_ok _ _ (λ found h. zip_as (IsPartAsked c.args.limit) (ArePairsOf None c.args.limit) (λ ends pairs one. tt) c.args.asks.now found h) c.result c.ensures.parts;
  parts = c.ensures.parts;
  answered = if_ok _ _ (λ found h. parts_answered any_answer (λ key value. tt) found) c.result c.ensures.parts;
  same = refl;
  cause = c.ensures.cause;
  round = lit≤ tt;
  paid = c.ensures.paid;
  counted = c.ensures.counted;
}

pub first_held-tells : goal.first_held-tells
first_held-tells g c = record {
  answer = anyway c.result tt;
  within = c.ensures.within;
  same = refl;
  cause = c.ensures.cause;
  round = lit≤ tt;
  paid = c.ensures.paid;
  counted = c.ensures.counted;
}
