-- A store that stands still.
use Rattle.std.specs.Prelude.{ℕ, ◌+◌, min, refl}
use Rattle.std.specs.Coded.{Coded, code_by, coded×, coded_ℕ}
use Rattle.pq_store.specs.Content.{Content, content_code}

-- what it holds, and how many writes were refused, up to the last number
pub record Stilled : Type 0 where
  pub held : Content
  pub refused : ℕ

abbrev pub stilled_code : Coded Stilled
stilled_code =
    code_by (Content × ℕ) (coded× content_code coded_ℕ)
    (λ f. (f.held, f.refused)) (λ p. record { held = p.0; refused = p.1 }) (λ _. refl)

-- one write more was refused
abbrev pub refused_once : Stilled → Stilled
refused_once store = record store { refused = min (store.refused + 1) 18446744073709551615 }
