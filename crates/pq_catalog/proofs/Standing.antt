-- A settled content opens to what it stands for, and an empty one to nothing.
use Rattle.std.proofs.Common.{◌≡◌, [], None, Some, Option, refl, arith, inl}
use Rattle.std.specs.FinMap.{get, empty as no_pairs}
use Rattle.pq_key_code.specs.KeyCode.{intent_key}
use Rattle.pq_schema.specs.Schema.{empty_schema}
use Rattle.pq_schema.specs.Valid.IsValid.{empty}
use Rattle.pq_content.specs.Pairs.{content_pairs}
use Rattle.pq_content.specs.Tables.{Keeps}
use Rattle.pq_content.proofs.Others.{no_intent}
use Rattle.pq_content.proofs.Settling.{settles_to_itself}
use Rattle.pq_store.specs.Content.{Content}
use Rattle.pq_catalog.specs.Model.{Model}
use Rattle.pq_catalog.specs.Stands.{HoldsModel, Opens, content_of, catalog_pairs, pairs_counted}
use Rattle.pq_catalog.proofs.Catalogs.{are_catalog}
use Rattle.pq_catalog.proofs.Counted.{counted_space}

-- the content of a model has no intent
pub no_intent_in : (m : Model) → get (content_of m) intent_key ≡ None
unfolding content_of
no_intent_in m = no_intent m.schema.tables m.rows (pairs_counted m) (catalog_pairs m.schema) (counted_space m) (are_catalog m.schema)

pub settled_opens : {content : Option Content} {m : Model} → HoldsModel content m → Opens content m
settled_opens {m = m} s = record {
  valid = s.valid;
  keeps = s.keeps;
  few = s.few;
  pairs = content_of m;
  settles = record { pairs = content_of m; told = s.told; settles = settles_to_itself (content_of m) (no_intent_in m) };
  holds = inl refl;
}

no_rows_keep : Keeps [] []
no_rows_keep = record {
  schema = record { known = tt; fit = tt; apart = tt; limits = λ t number. absurd (let low = number.0 in let high = number.1 in omega arith); foreign = tt };
  short = tt;
}

-- an empty content has no definitions and no rows
pub empty_opens : Opens (Some no_pairs) (record { schema = empty_schema; rows = [] })
unfolding content_of content_pairs
empty_opens = settled_opens (record { valid = empty; keeps = no_rows_keep; few = tt; told = refl })
