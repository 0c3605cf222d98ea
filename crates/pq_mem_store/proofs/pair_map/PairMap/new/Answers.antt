use Rattle.std.proofs.Common.{◌∙◌, ap}
use Rattle.pq_store.proofs.Views.{seen, seen_none}
use Rattle.pq_mem_store.proofs.PairMaps.{bytes_of, pairs_bytes}
use Rattle.pq_mem_store.proofs.pair_map.PairMap.new.Goals as goal

pub returns : goal.returns
returns c = ap (λ pairs. seen (pairs_bytes bytes_of bytes_of pairs)) c.new.ensures.empty ∙ seen_none
