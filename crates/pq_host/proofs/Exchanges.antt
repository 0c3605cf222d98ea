-- A request that is sent in pieces.
use Rattle.std.proofs.Common.{◌≡◌, ℕ, ◌+◌, List, [], ◌∷◌, ◌++◌, length, Option, subst}
use Rattle.std.proofs.KnownBytes.{Appends-trans, Appends-kept}
use Rattle.std.specs.Io.KnownBytes.{Appends, Keeps}
use Rattle.pq_host.specs.declared.request.Op.{Op}
use Rattle.pq_host.specs.Frames.{number, op_code, request}

-- a head, a body, and then nothing more
pub request_sent : (op : Op) (node : ℕ) (body head : List ℕ) (a b c d : Option (List ℕ))
    → head ≡ number (3 + length body) ++ (1 ∷ op_code op ∷ node ∷ []) → Appends a b head → Appends b c body → Keeps c d
    → Appends a d (request op node body)
unfolding request
request_sent op node body head a b c d is first then kept =
    Appends-kept a c d _ (subst (λ (bytes : List ℕ). Appends a c (bytes ++ body)) is (Appends-trans a b c head body first then)) kept
