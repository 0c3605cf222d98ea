use Rattle.std.proofs.Common.{drop, map, ℕ, ◌≤◌, length, subst, sym}
use Rattle.std.specs.Prelude.{All, IfSome}
use Rattle.std.specs.List.{AllByRecursion}
use Rattle.std.proofs.lemmas.Result.{IfErr-weaker}
use Rattle.pq_key_code.specs.KeyCode.{code_of}
use Rattle.pq_schema.specs.Tables.{table_at}
use Rattle.pq_calls.specs.World.{where_told}
use Rattle.pq_nodes.specs.Operators.{ShowsRead}
use Rattle.pq_store.specs.Content.{entry}
use Rattle.pq_store.specs.declared.store.Pair.{Pair}
use Rattle.pq_entries.specs.Entries.{IsUnread, IsNoKeyPair, AreKeysWithin, AreFirstValues, IsKeyThere}
use Rattle.pq_entries.proofs.Answered.{unread_tells}
use Rattle.pq_entries.proofs.Told.{keys_unread, keys_keyed, keys_answered, keys_are_there, ok_each, err_each, long_read, fit_as}
use Rattle.pq_entries.proofs.ranges.values_read.Goals as goal

pub returns-clause-cause : goal.returns-clause-cause
returns-clause-cause c =
    let tables = c.args.catalog.now.tables in
    let types = c.requires.types in
    let dirs = c.requires.dirs in
    err_each c.args.number c.args.access c.args.pairs.now c.decoded_keys.result (λ told low high limit. IsUnread (where_told (ShowsRead tables) told))
    (λ told low high limit of. keys_unread tables c.args.number c.requires.sequence.number low high limit c.args.pairs.now of.part told of.are
    c.args.access c.requires.sequence.is_access c.args.types.now c.args.dirs.now c.front_len.result types dirs c.front_len.ensures of.ends c.decoded_keys.result c.decoded_keys.ensures.cause)

pub returns-clause-tells : goal.returns-clause-tells
returns-clause-tells c =
    IfErr-weaker c.decoded_keys.result _ _
    (unread_tells (IsNoKeyPair c.args.types.now c.args.dirs.now c.front_len.result) (λ pair damage shown. shown.tells) (map entry c.args.pairs.now)) c.decoded_keys.ensures.cause

pub returns-clause-long : goal.returns-clause-long
returns-clause-long c = long_read (code_of c.args.dirs.now) (λ (pair : Pair). drop c.front_len.result pair.key) c.args.pairs.now c.decoded_keys.result c.decoded_keys.ensures.codes

pub returns-clause-fit : goal.returns-clause-fit
returns-clause-fit c =
    let types = c.requires.types in
    fit_as c.args.types.now _ types c.decoded_keys.result c.decoded_keys.ensures.fit

pub returns-clause-there : goal.returns-clause-there
returns-clause-there c =
    let tables = c.args.catalog.now.tables in
    let types = c.requires.types in
    let dirs = c.requires.dirs in
    ok_each c.args.number c.args.access c.args.pairs.now c.decoded_keys.result (λ told low high limit found. AllByRecursion (IsKeyThere c.args.number (table_at tables c.args.number) c.args.access told) found)
    (λ told low high limit of. keys_are_there tables c.args.number c.requires.sequence.number low high limit c.args.pairs.now of.part told of.are
    c.args.access of.ends c.args.types.now c.args.dirs.now c.front_len.result types dirs c.front_len.ensures c.decoded_keys.result c.decoded_keys.ensures.codes c.decoded_keys.ensures.fit)

pub returns-clause-keys : goal.returns-clause-keys
returns-clause-keys c =
    let tables = c.args.catalog.now.tables in
    let types = c.requires.types in
    let dirs = c.requires.dirs in
    ok_each c.args.number c.args.access c.args.pairs.now c.decoded_keys.result (λ told low high limit found. IfSome told (AreKeysWithin c.args.number (table_at tables c.args.number) c.args.access low high limit found))
    (λ told low high limit of. keys_keyed tables c.args.number c.requires.sequence.number low high limit c.args.pairs.now of.part told of.are
    c.args.access of.ends c.args.types.now c.args.dirs.now c.front_len.result types dirs c.front_len.ensures c.decoded_keys.result c.decoded_keys.ensures.codes c.decoded_keys.ensures.fit)

pub returns-clause-answer : goal.returns-clause-answer
returns-clause-answer c =
    let tables = c.args.catalog.now.tables in
    let types = c.requires.types in
    let dirs = c.requires.dirs in
    ok_each c.args.number c.args.access c.args.pairs.now c.decoded_keys.result (λ told low high limit found. IfSome told (AreFirstValues c.args.number (table_at tables c.args.number) c.args.access low high limit found))
    (λ told low high limit of. keys_answered tables c.args.number c.requires.sequence.number low high limit c.args.pairs.now of.part told of.are
    c.args.access c.args.types.now c.args.dirs.now c.front_len.result types dirs c.front_len.ensures c.decoded_keys.result c.decoded_keys.ensures.codes c.decoded_keys.ensures.fit)

pub decoded_keys-requires-clause-long : goal.decoded_keys-requires-clause-long
decoded_keys-requires-clause-long c = subst (λ (n : ℕ). All (λ (pair : Pair). n ≤ length pair.key) c.args.pairs.now) (sym c.front_len.ensures) c.requires.front
