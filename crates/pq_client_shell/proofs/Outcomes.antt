-- What is told, and the first fault of it.
use Rattle.std.proofs.Common.{◌≡◌, ℕ, ◌+◌, ◌≤◌, ◌<◌, List, [], ◌∷◌, ◌++◌, length, take, get_or, Bool, Result, IsErrOf, Option, Some, None, inl, inr, refl, sym, ap, ◌∙◌, subst, append_assoc, append-nil}
use Rattle.std.proofs.lemmas.Grind.{flat_map-append}
use Rattle.std.proofs.lemmas.List.{take_more, take_all}
use Rattle.pq_base.specs.Members.{In}
use Rattle.pq_store.specs.Content.{HasRisen}
use Rattle.pq_clients.specs.declared.outcome.Outcome.{Outcome}
use Rattle.pq_clients.specs.declared.outcome.Outcome.TheVariants as outcome
use Rattle.pq_clients.specs.declared.outcome.Told.{Told}
use Rattle.pq_console.specs.Stops.{Causes}
use Rattle.pq_console.specs.declared.stop.Stop.{Stop}
use Rattle.pq_console.specs.declared.stop.Stop.TheVariants as stops
use Rattle.pq_client_shell.specs.Lines.{told_part, told_text}
use Rattle.pq_client_shell.specs.Runs.{TellsCause}
use Rattle.pq_client_shell.specs.Telling.{fault_of, first_of, first_fault}

-- one more is told, and its line is out
pub told_more : (told : List Told) (i : ℕ) (one : Told) (old now out : List ℕ) → i < length told → one ≡ get_or told i one → now ≡ old ++ told_text (take i told) → out ≡ now ++ told_part one → out ≡ old ++ told_text (take (i + 1) told)
told_more told i one old now out short is so_far more =
    let cut : take (i + 1) told ≡ take i told ++ one ∷ [] = take_more told i one short ∙ ap (λ x. take i told ++ x ∷ []) (sym is) in
    more ∙ ap (λ t. t ++ told_part one) so_far ∙ append_assoc old (told_text (take i told)) (told_part one)
    ∙ ap (λ t. old ++ t) (ap (λ t. told_text (take i told) ++ t) (sym (append-nil (told_part one))) ∙ sym (flat_map-append told_part (take i told) (one ∷ [])) ∙ ap told_text (sym cut))

pub told_all : (told : List Told) (i : ℕ) (old now : List ℕ) → length told ≤ i → now ≡ old ++ told_text (take i told) → now ≡ old ++ told_text told
told_all told i old now long so_far = so_far ∙ ap (λ t. old ++ told_text t) (take_all i told long)

first_none : (a : Option Stop) → first_of a None ≡ first_of None a
first_none None = refl
first_none (Some stop) = refl

first_assoc : (a b c : Option Stop) → first_of a (first_of b c) ≡ first_of (first_of a b) c
first_assoc None b c = refl
first_assoc (Some stop) b c = refl

-- the first fault, where one more is told
pub first_more : (told : List Told) (one : Told) → first_fault (told ++ one ∷ []) ≡ first_of (first_fault told) (fault_of one.outcome)
first_more [] one = first_none (fault_of one.outcome)
first_more (t ∷ ts) one = ap (first_of (fault_of t.outcome)) (first_more ts one) ∙ first_assoc (fault_of t.outcome) (first_fault ts) (fault_of one.outcome)

abbrev IsTold : Option Stop → Type 0
IsTold None = Unit {0}
IsTold (Some stops.WriteFailed) = ⊥
IsTold (Some stops.StoreFailed) = Unit {0}
IsTold (Some stops.NoMem) = Unit {0}
IsTold (Some (stops.Damaged damage)) = Unit {0}

fault_told : (o : Outcome) → IsTold (fault_of o)
fault_told outcome.Done = tt
fault_told (outcome.Refused why) = tt
fault_told (outcome.Busy found) = tt
fault_told (outcome.Conflict read found) = tt
fault_told outcome.Failed = tt
fault_told outcome.NoMem = tt
fault_told (outcome.Damaged damage) = tt

of_told : (a b : Option Stop) → IsTold a → IsTold b → IsTold (first_of a b)
of_told None b p q = q
of_told (Some stop) b p q = p

first_told : (told : List Told) → IsTold (first_fault told)
first_told [] = tt
first_told (t ∷ ts) = of_told (fault_of t.outcome) (first_fault ts) (fault_told t.outcome) (first_told ts)

-- no client fails at the sink
pub never_written : (told : List Told) → first_fault told ≡ Some stops.WriteFailed → ⊥
never_written told is = subst IsTold is (first_told told)

-- the told outcome that is the first fault
pub record HasFault (told : List Told) (stop : Stop) : Type 0 where
  pub one : Told
  pub is_in : In one told
  pub is : fault_of one.outcome ≡ Some stop

pub fault_in : (told : List Told) (stop : Stop) → first_fault told ≡ Some stop → HasFault told stop
fault_in [] stop e = let wrong : ◌≡◌ {A = Option Stop} None (Some stop) = e in absurd (cc)
fault_in (t ∷ ts) stop e = by (fault_of t.outcome) refl (fault_in ts stop)
  where
    by : (o : Option Stop) → fault_of t.outcome ≡ o → (first_fault ts ≡ Some stop → HasFault ts stop) → HasFault (t ∷ ts) stop
    by None is later = let rest = later (sym (ap (λ o. first_of o (first_fault ts)) is) ∙ e) in record { one = rest.one; is_in = inr rest.is_in; is = rest.is }
    by (Some s) is later = record { one = t; is_in = inl refl; is = is ∙ (sym (ap (λ o. first_of o (first_fault ts)) is) ∙ e) }

pub none_some : (stop : Stop) → ◌≡◌ {A = Option Stop} None (Some stop) → ⊥
none_some stop e = absurd (cc)

pub same_stop : (a b : Stop) → ◌≡◌ {A = Option Stop} (Some a) (Some b) → a ≡ b
same_stop a b e = cc

abbrev pub IsSoundStop : Stop → Type 0
IsSoundStop stops.StoreFailed = Unit {0}
IsSoundStop stops.WriteFailed = Unit {0}
IsSoundStop stops.NoMem = Unit {0}
IsSoundStop (stops.Damaged damage) = ⊥

abbrev IsStoreStop : Stop → Type 0
IsStoreStop stops.StoreFailed = Unit {0}
IsStoreStop stops.WriteFailed = ⊥
IsStoreStop stops.NoMem = ⊥
IsStoreStop (stops.Damaged damage) = ⊥

failed_is : (o : Outcome) → fault_of o ≡ Some stops.StoreFailed → o ≡ outcome.Failed
failed_is outcome.Done is = absurd (none_some stops.StoreFailed is)
failed_is (outcome.Refused why) is = absurd (none_some stops.StoreFailed is)
failed_is (outcome.Busy found) is = absurd (none_some stops.StoreFailed is)
failed_is (outcome.Conflict read found) is = absurd (none_some stops.StoreFailed is)
failed_is outcome.Failed is = refl
failed_is outcome.NoMem is = absurd (subst IsStoreStop (sym (same_stop stops.NoMem stops.StoreFailed is)) tt)
failed_is (outcome.Damaged damage) is = absurd (subst IsStoreStop (sym (same_stop (stops.Damaged damage) stops.StoreFailed is)) tt)

-- the causes of how it is told
pub causes_of : (told : List Told) (store store' sink sink' : ℕ) (r : Result Bool Stop) → store ≤ store' → sink ≤ sink' → TellsCause store store' told → (IsErrOf r stops.WriteFailed → HasRisen sink sink')
    → (IsErrOf r stops.StoreFailed → first_fault told ≡ Some stops.StoreFailed) → Causes store store' sink sink' r
causes_of told store store' sink sink' r later sink_later cause write_failed store_failed = record {
  store_later = later;
  sink_later = sink_later;
  store_failed = λ e. let fault = fault_in told stops.StoreFailed (store_failed e) in cause fault.one fault.is_in (failed_is fault.one.outcome fault.is);
  write_failed = write_failed;
}
