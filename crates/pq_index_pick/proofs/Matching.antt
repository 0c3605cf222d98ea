-- One more part of two lists that match.
use Rattle.std.proofs.Common.{◌≡◌, ℕ, ◌+◌, true, ◌&&◌, ◌==◌, List, drop, Some, refl}
use Rattle.std.specs.Prelude.{slice_get}
use Rattle.pq_schema.specs.declared.table.KeyPart.{KeyPart}
use Rattle.pq_schema.specs.Sequences.{same_parts, same_dir}
use Rattle.pq_schema.proofs.Places.{drop_some}

pub one_more : (xs ys : List KeyPart) (i j : ℕ) (a b : KeyPart) → slice_get xs i ≡ Some a → slice_get ys j ≡ Some b → (a.col == b.col && same_dir a.dir b.dir) ≡ true → same_parts (drop i xs) (drop j ys) ≡ same_parts (drop (i + 1) xs) (drop (j + 1) ys)
one_more xs ys i j a b at_a at_b same = rw (drop_some xs i a at_a, drop_some ys j b at_b, same) refl
