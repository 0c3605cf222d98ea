-- Values that are intents.
use Rattle.std.proofs.Common.{◌≡◌, ℕ, Bool, true, false, ◌&&◌, List, [], ◌∷◌, map, refl, sym, ap, ◌∙◌}
use Rattle.std.specs.List.{list_all}
use Rattle.std.proofs.lemmas.Bool.{false≢true}
use Rattle.pq_row_code.specs.declared.changes.Change.{Change as Coded}
use Rattle.pq_row_code.specs.Changes.{changes_code, AreChanges}
use Rattle.pq_row_code.proofs.ChangeLists.{changes_code_injective}
use Rattle.pq_content.specs.Standing.{change_of, AreIntended, may_intend}
use Rattle.pq_intent.specs.Settling.{IsIntentOf, IsNoIntent}

both : (a b : Bool) → (a && b) ≡ true → (a ≡ true) × (b ≡ true)
both true b h = (refl, h)
both false b h = absurd (false≢true h)

abbrev pub all_intended : List Coded → Bool
all_intended cs = list_all (λ change. may_intend change.key) cs

pub intended : (cs : List Coded) → all_intended cs ≡ true → AreIntended (map change_of cs)
intended [] h = tt
intended (c ∷ cs) h = let p = both (may_intend c.key) (all_intended cs) h in (p.0, intended cs p.1)

pub are_intended : (cs : List Coded) → AreIntended (map change_of cs) → all_intended cs ≡ true
are_intended [] h = refl
are_intended (c ∷ cs) h = ap (λ b. b && all_intended cs) h.0 ∙ are_intended cs h.1

-- no other changes have the code of these
pub not_intended : (cs : List Coded) (value : List ℕ) → AreChanges cs → changes_code cs ≡ value → all_intended cs ≡ false → IsNoIntent value
not_intended cs value coded code fails ds intent =
    let same : ds ≡ cs = changes_code_injective ds cs intent.coded coded (intent.code ∙ sym code) in
    absurd (false≢true (sym fails ∙ ap all_intended (sym same) ∙ are_intended ds intent.intended))

pub is_intent_of : (cs : List Coded) (value : List ℕ) → AreChanges cs → changes_code cs ≡ value → all_intended cs ≡ true → IsIntentOf cs value
is_intent_of cs value coded code all = record { code = code; coded = coded; intended = intended cs all }
