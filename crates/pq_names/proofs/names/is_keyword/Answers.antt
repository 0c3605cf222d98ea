use Rattle.std.proofs.Common.{map, ap, ◌∙◌}
use Rattle.std.specs.List.{list_any}
use Rattle.std.specs.Str.{bytes_eq}
use Rattle.pq_base.specs.Words.{uppercase_byte}
use Rattle.pq_names.proofs.Keywords.{found_among}
use Rattle.pq_names.proofs.names.is_keyword.Goals as goal

pub returns : goal.returns
returns c =
    let word = map uppercase_byte c.args.bytes.now in
    c.is_some.ensures ∙ found_among word c.keyword_table.result c.lookup.result c.lookup.ensures.found c.lookup.ensures.none
    ∙ ap (list_any (bytes_eq word)) c.keyword_table.ensures
