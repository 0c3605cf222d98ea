use Rattle.std.proofs.Common.{◌≡◌, ap, subst, IsUtf8, List, ℕ}
use Rattle.std.proofs.lemmas.Str.{IsUtf8-string_bytes}
use Rattle.pq_base.proofs.text.PText.from_vec.Goals as goal

pub returns-in-Ok : goal.returns-in-Ok
returns-in-Ok c =
    let same : c.in-Ok.text.bytes.items ≡ c.args.bytes.items = ap (λ v. v.items) c.in-Ok.ensures.ok in
    (subst (λ (bs : List ℕ). IsUtf8 bs) same (IsUtf8-string_bytes c.in-Ok.text), same)
