use Rattle.std.proofs.Common.{◌≡◌, Some, None, ap, sym, ◌∙◌}
use Rattle.pq_text.specs.Cutting.{first_cut}
use Rattle.pq_text.specs.Summaries.{Summary}
use Rattle.pq_text.proofs.Growing.{fed_cut_pieces, fed_cut_rest, fed_all_pieces, fed_all_rest}
use Rattle.pq_text.proofs.splitter.Splitter.feed.Goals as goal

pub returns-then-stop-clause-pieces : goal.returns-then-stop-clause-pieces
returns-then-stop-clause-pieces c = λ more.
    let cut : first_cut c.args.self.now.state c.args.bytes.now ≡ Some c.scan-stop.result.len = ap (λ (s : Summary). first_cut s.state c.args.bytes.now) (sym c.self.view_is) ∙ c.scan-stop.ensures.cut c.if-stop.true in
    fed_cut_pieces _ _ _ c.front-part.result.now _ _ (record { cut = cut; part_is = c.front-part.ensures; told = c.in_ok-piece.ensures.told; new_is = c.in_ok-piece.ensures.new }) more

pub returns-then-stop-clause-rest : goal.returns-then-stop-clause-rest
returns-then-stop-clause-rest c = λ more.
    let cut : first_cut c.args.self.now.state c.args.bytes.now ≡ Some c.scan-stop.result.len = ap (λ (s : Summary). first_cut s.state c.args.bytes.now) (sym c.self.view_is) ∙ c.scan-stop.ensures.cut c.if-stop.true in
    fed_cut_rest _ _ _ c.front-part.result.now _ c.in_ok-piece.piece (record { cut = cut; part_is = c.front-part.ensures; told = c.in_ok-piece.ensures.told; new_is = c.in_ok-piece.ensures.new }) more

pub returns-clause-pieces : goal.returns-clause-pieces
returns-clause-pieces c = λ more.
    let none : first_cut c.args.self.now.state c.args.bytes.now ≡ None = ap (λ (s : Summary). first_cut s.state c.args.bytes.now) (sym c.self.view_is) ∙ (c.scan-stop.ensures.uncut c.if-stop.false).0 in
    fed_all_pieces _ _ _ c.front-part.result.now _ (record { some = c.requires; none = none; all = (c.scan-stop.ensures.uncut c.if-stop.false).1; part_is = c.front-part.ensures; new_is = c.in_ok-grow.ensures.ok }) more

pub returns-clause-rest : goal.returns-clause-rest
returns-clause-rest c = λ more.
    let none : first_cut c.args.self.now.state c.args.bytes.now ≡ None = ap (λ (s : Summary). first_cut s.state c.args.bytes.now) (sym c.self.view_is) ∙ (c.scan-stop.ensures.uncut c.if-stop.false).0 in
    fed_all_rest _ _ _ c.front-part.result.now _ (record { some = c.requires; none = none; all = (c.scan-stop.ensures.uncut c.if-stop.false).1; part_is = c.front-part.ensures; new_is = c.in_ok-grow.ensures.ok }) more
