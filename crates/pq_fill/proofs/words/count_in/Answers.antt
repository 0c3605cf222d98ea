use Rattle.std.proofs.Common.{rules, ◌≡◌, ℕ, ◌≤◌, ◌<◌, ◌^◌, sym, ◌∙◌, List, Result, Ok, Bool, true, not, ap, arith}
use Rattle.std.specs.Fmt.{decimal}
use Rattle.std.specs.Str.Parse.{ParsesUnsigned}
use Rattle.std.proofs.lemmas.Fmt.{parse-decimal}
use Rattle.std.proofs.lemmas.Slice.Eq.{bytes_eq-Decides}
use Rattle.pq_fill.proofs.words.count_in.Goals as goal
use Rattle.pq_fill.proofs.words.count_in.Goals.{then-count-eq0-via-then-count-eq0, then-count-eq0-via-else-count-eq0+then-count-most, then-count-eq0-via-else-count-eq0+else-count-most+then-ne}

read_again : {E : Type 0} (n most : ℕ) (word : List ℕ) (r : Result ℕ E) → n ≤ most → most < 2 ^ 32 → word ≡ decimal n → ParsesUnsigned 32 10 word r → r ≡ Ok n
read_again n most word r few small e parses = parse-decimal 32 n word r (omega arith) (omega (arith, few, small)) e parses

same_ok : {E : Type 0} {m n : ℕ} → ◌≡◌ {A = Result ℕ E} (Ok m) (Ok n) → m ≡ n
same_ok e = cc

told_apart : {b : Bool} → b ≡ true → not b ≡ true → ⊥
told_apart e f = cc (ap not e)

pub returns-in_default-clause-all : goal.returns-in_default-clause-all
returns-in_default-clause-all c = λ n some few e.
    absurd (c.in_default.not-Ok n (read_again n c.args.most c.args.word.now c.parse.result few (search rules) e c.parse.ensures.value.0))

pub returns-then-count-eq0-clause-all : goal.returns-then-count-eq0-clause-all
returns-then-count-eq0-clause-all c = λ n some few e.
    let again = read_again n c.args.most c.args.word.now c.parse.result few (search rules) e c.parse.ensures.value.0 in
    let same : c.in-Ok.count ≡ n = same_ok (sym c.in-Ok.is ∙ again) in
    elim c.then-count-eq0.branch [
      | then-count-eq0-via-then-count-eq0 w ↦ absurd (omega arith)
      | then-count-eq0-via-else-count-eq0+then-count-most w ↦ absurd (omega arith)
      | then-count-eq0-via-else-count-eq0+else-count-most+then-ne w ↦
          let alike = (bytes_eq-Decides w.format.result.now c.args.word.now).1 (w.format.ensures.text ∙ ap decimal same ∙ sym e) in
          let differ = sym w.ne.ensures ∙ w.if-ne.true in
          absurd (told_apart alike differ)
    ]

pub returns-clause-all : goal.returns-clause-all
returns-clause-all c = λ n some few e.
    let again = read_again n c.args.most c.args.word.now c.parse.result few (search rules) e c.parse.ensures.value.0 in
    let is = c.in-Ok.is in
    cc
