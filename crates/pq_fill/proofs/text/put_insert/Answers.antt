use Rattle.std.proofs.Common.{◌≡◌, ◌∙◌, ap, List, ◌++◌, ℕ, Result, Ok, Err, OnOk, append_assoc, codes, string_bytes}
use Rattle.pq_fill.specs.Script.{insert_into, quoted_name}
use Rattle.pq_fill.proofs.text.put_insert.Goals as goal

joined : {V E : Type 0} (r : Result V E) (a b1 b2 b3 b4 x1 x2 x3 x4 : List ℕ) → b1 ≡ a ++ x1 → b2 ≡ b1 ++ x2 → b3 ≡ b2 ++ x3 → OnOk r (b4 ≡ b3 ++ x4) → OnOk r (b4 ≡ a ++ (x1 ++ x2 ++ x3 ++ x4))
joined (Ok v) a b1 b2 b3 b4 x1 x2 x3 x4 e1 e2 e3 e4 =
    e4 ∙ ap (λ b. b ++ x4) (e3 ∙ ap (λ b. b ++ x3) (e2 ∙ ap (λ b. b ++ x2) e1)) ∙ simp append_assoc
joined (Err v) a b1 b2 b3 b4 x1 x2 x3 x4 e1 e2 e3 e4 = tt

pub returns : goal.returns
unfolding insert_into
returns c =
    joined c.put_name.result (string_bytes c.args.out.now) (string_bytes c.push_str.new.self) (string_bytes c.push_str-2.new.self) (string_bytes c.push_str-3.new.self) (string_bytes c.put_name.new.out)
    (codes "INSERT INTO ") c.args.table.now (codes " VALUES (") (quoted_name c.args.user)
    c.in_ok-push_str.ensures.bytes c.in_ok-push_str-2.ensures.bytes c.in_ok-push_str-3.ensures.bytes c.put_name.ensures
