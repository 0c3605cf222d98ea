-- From a call of the store to a step that is made of it.
use Rattle.std.proofs.Common.{◌≡◌, Option, Some, None, Result, Ok, Err, refl, ap, ◌∙◌, inl, inr, ◌⊎◌}
use Rattle.std.specs.Prelude.{IfOk, IfSome, option_map}
use Rattle.pq_store.specs.Content.{Content}
use Rattle.pq_clients.specs.declared.halt.Halt.{Halt}
use Rattle.pq_clients.specs.declared.halt.Halt.TheVariants as halt
use Rattle.pq_clients.specs.Goes.{Spot, Goes}

pub map_same : (f g : Content → Content) (told : Option Content) → ((c : Content) → f c ≡ g c) → option_map f told ≡ option_map g told
map_same f g None p = refl
map_same f g (Some c) p = ap Some (p c)

pub map_kept : (f : Content → Content) (told : Option Content) → ((c : Content) → f c ≡ c) → option_map f told ≡ told
map_kept f None p = refl
map_kept f (Some c) p = ap Some (p c)

module _ {R T S U : Type 0} (see : R → T) (gone : Content → Content × T) (show : S → U) (went : Content → Content × U) where
  follow_told : (r : R) (s : S) (told left : Option Content) → IfSome told (λ c. see r ≡ (gone c).1) → left ≡ option_map (λ c. (gone c).0) told
      → ((c : Content) → see r ≡ (gone c).1 → (show s ≡ (went c).1) × ((gone c).0 ≡ (went c).0))
      → IfSome told (λ c. show s ≡ (went c).1) × (left ≡ option_map (λ c. (went c).0) told)
  follow_told r s None left answer is p = (tt, is)
  follow_told r s (Some c) left answer is p = let q = p c answer in (q.0, is ∙ ap Some q.1)

  -- the call answered, and so does the step
  pub follow : (before after : Spot) (r : R) (s : S) → Goes see gone before after (Ok r)
      → ((c : Content) → see r ≡ (gone c).1 → (show s ≡ (went c).1) × ((gone c).0 ≡ (went c).0))
      → Goes show went before after (Ok s)
  follow before after r s goes p =
      let q = follow_told r s before.told after.told goes.0 goes.1.told p in
      (q.0, record { told = q.1; later = goes.1.later; once = goes.1.once })

  broke_told : (told left : Option Content) → (left ≡ told) ⊎ (left ≡ option_map (λ c. (gone c).0) told)
      → ((c : Content) → (gone c).0 ≡ (went c).0) → (left ≡ told) ⊎ (left ≡ option_map (λ c. (went c).0) told)
  broke_told told left is p = elim is [ inl e ↦ inl e | inr e ↦ inr (e ∙ map_same (λ c. (gone c).0) (λ c. (went c).0) told p) ]

  -- the call failed
  pub broke : (before after : Spot) (h : Halt) → Goes see gone before after (Err h)
      → ((c : Content) → (gone c).0 ≡ (went c).0) → Goes show went before after (Err h)
  broke before after halt.Failed goes p = record {
    told = broke_told before.told after.told goes.told p;
    later = goes.later;
    risen = goes.risen;
    once = goes.once;
  }
  broke before after halt.NoMem goes p = goes

  -- the call answered, and then there was no memory
  pub starved : (before after : Spot) (r : R) → Goes see gone before after (Ok r)
      → ((c : Content) → (gone c).0 ≡ c) → Goes show went before after (Err halt.NoMem)
  starved before after r goes p = record {
    told = goes.1.told ∙ map_kept (λ c. (gone c).0) before.told p;
    later = goes.1.later;
    once = inr goes.1.once;
  }

-- two functions that leave and answer the same
pub regone : {R T : Type 0} (see : R → T) (gone went : Content → Content × T) (before after : Spot) (r : Result R Halt) → Goes see gone before after r
    → ((c : Content) → gone c ≡ went c) → Goes see went before after r
regone {R} {T} see gone went before after (Ok r) goes same =
    follow see gone see went before after r r goes
    (λ c e. (e ∙ ap (λ (p : Content × T). p.1) (same c), ap (λ (p : Content × T). p.0) (same c)))
regone {R} {T} see gone went before after (Err h) goes same =
    broke see gone see went before after h goes (λ c. ap (λ (p : Content × T). p.0) (same c))

-- of what a call answered without an error
pub ok_weaker : {A E : Type 0} (r : Result A E) {P Q : A → Type 0} → ((x : A) → P x → Q x) → IfOk r P → IfOk r Q
ok_weaker (Ok x) f is = f x is
ok_weaker (Err e) f is = tt
