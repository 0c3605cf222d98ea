use Rattle.std.specs.Prelude.{Some}
use Rattle.std.specs.String.{string_bytes}
use Rattle.std.proofs.lemmas.Map.Text.{hash_map_updates_text}
use Rattle.pq_schema.proofs.catalog.put_number.Goals as goal

pub returns : goal.returns
returns g c = hash_map_updates_text (string_bytes c.args.name) c.args.numbers.now c.insert.new.self (Some c.args.number) c.in-Ok.ensures.updates
