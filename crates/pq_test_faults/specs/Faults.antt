-- A store whose calls fail as listed.
use Rattle.std.specs.Prelude.{ℕ, ◌+◌, min, Bool, List, [], ◌∷◌, Option, Some, None, is_some, IsTrue, eqb, if◌then◌else◌, refl}
use Rattle.std.specs.Coded.{Coded, code_by, coded×, coded_ℕ, coded_bool, coded_list}
use Rattle.pq_store.specs.Content.{Content, content_code}
use Rattle.pq_test_faults.specs.declared.failing.Fail.{Fail}

-- what it holds, how many calls were made up to the last number, how many of them were listed, and the list
pub record Failing : Type 0 where
  pub held : Content
  pub calls : ℕ
  pub faults : ℕ
  pub fails : List Fail

abbrev pub fail_code : Coded Fail
fail_code = code_by (ℕ × Bool) (coded× coded_ℕ coded_bool) (λ f. (f.call, f.done))
    (λ p. record { call = p.0; done = p.1 }) (λ _. refl)

abbrev pub failing_code : Coded Failing
failing_code =
    code_by (Content × (ℕ × (ℕ × List Fail)))
    (coded× content_code (coded× coded_ℕ (coded× coded_ℕ (coded_list fail_code))))
    (λ f. (f.held, (f.calls, (f.faults, f.fails))))
    (λ p. record { held = p.0; calls = p.1.0; faults = p.1.1.0; fails = p.1.1.1 }) (λ _. refl)

-- what the list says of the call with this number: whether it is done, None where it doesn't fail
abbrev pub listed_fail : ℕ → List Fail → Option Bool
listed_fail number [] = None
listed_fail number (fail ∷ fails) = if eqb fail.call number then Some fail.done else listed_fail number fails

-- what the list says of the next call; calls are numbered from 1
abbrev pub fate : Failing → Option Bool
fate store = listed_fail (store.calls + 1) store.fails

-- the next call is listed
abbrev pub IsListed : Failing → Type 0
IsListed store = IsTrue (is_some (fate store))

-- one call more, after which it holds this content
abbrev pub failing_after : Failing → Content → Failing
failing_after store held = record {
  held = held;
  calls = min (store.calls + 1) 18446744073709551615;
  faults = store.faults + (if is_some (fate store) then 1 else 0);
  fails = store.fails;
}
