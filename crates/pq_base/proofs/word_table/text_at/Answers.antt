use Rattle.std.proofs.Common.{◌<◌, [], length, refl}
use Rattle.std.proofs.lemmas.List.{get_or-map}
use Rattle.std.proofs.lemmas.Option.{slice_get-get_or, slice_get-map}
use Rattle.pq_base.proofs.word_table.text_at.Goals as goal

pub returns-clause-text : goal.returns-clause-text
returns-clause-text c = get_or-map _ c.args.words.now c.args.place _ _ c.requires

pub returns-clause-get : goal.returns-clause-get
returns-clause-get c = let lt : c.args.place < length c.args.words.now = c.requires in rw (slice_get-map, slice_get-get_or _ c.args.place (record { ref_ptr = (0, 0); now = [] }) lt) refl
