use Rattle.std.proofs.Common.{◌∙◌, ◌==◌, ap, sym}
use Rattle.std.specs.List.{list_any}
use Rattle.pq_print.proofs.Quotes.{doubled_plain}
use Rattle.pq_print.proofs.value.plain.Goals as goal

pub returns : goal.returns
returns c = sym (doubled_plain c.args.text.now (ap (λ bytes. list_any (λ b. b == 39) bytes) (sym c.as_bytes.ensures.value) ∙ (sym c.contains.ensures.value ∙ c.if-contains.false)))
