-- A store that has another content from a call on.
use Rattle.std.specs.Prelude.{ℕ, zero, suc, Bool, true, false, refl}
use Rattle.std.specs.Coded.{Coded, code_by, coded×, coded_ℕ}
use Rattle.pq_store.specs.Content.{Content, content_code}

-- what both stores hold, and how many calls still go to the first
pub record Switching : Type 0 where
  pub first : Content
  pub second : Content
  pub calls : ℕ

abbrev pub switching_code : Coded Switching
switching_code =
    code_by (Content × (Content × ℕ))
    (coded× content_code (coded× content_code coded_ℕ))
    (λ s. (s.first, (s.second, s.calls)))
    (λ p. record { first = p.0; second = p.1.0; calls = p.1.1 }) (λ _. refl)

-- whether the next call goes to the first
abbrev pub is_any_left : ℕ → Bool
is_any_left zero = false
is_any_left (suc n) = true

abbrev pub is_first : Switching → Bool
is_first store = is_any_left store.calls

-- what the next call asks, with so many left
abbrev pub content_at : ℕ → Content → Content → Content
content_at zero first second = second
content_at (suc n) first second = first

abbrev pub asked : Switching → Content
asked store = content_at store.calls store.first store.second

-- one call more, after which the store that it went to holds this content
abbrev pub switched_at : ℕ → Content → Content → Content → Switching
switched_at zero first second held = record { first = first; second = held; calls = 0 }
switched_at (suc n) first second held = record { first = held; second = second; calls = n }

abbrev pub switched_after : Switching → Content → Switching
switched_after store held = switched_at store.calls store.first store.second held
