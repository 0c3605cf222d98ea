use Rattle.std.proofs.Common.{◌≡◌, sym, ap, subst, ◌∙◌}
use Rattle.pq_shape.specs.Cursors.{shape_seen, IsNamed}
use Rattle.pq_shape.specs.Front.{name_of}
use Rattle.pq_shape.specs.Shape as shape
use Rattle.pq_shape.specs.Shapes.{lowercase_bytes, utf8_text}
use Rattle.pq_shape.proofs.Made.{known_name}
use Rattle.pq_shape.proofs.next.Next.name.Goals as goal

pub returns-in_ok-low-in-Name : goal.returns-in_ok-low-in-Name
unfolding name_of
returns-in_ok-low-in-Name c =
    let bytes = c.self.inside.bytes.now in
    let now : c.args.self.now ≡ shape.Name (lowercase_bytes bytes) = sym c.self.view_is ∙ ap (λ s. shape_seen s bytes) c.in-Name.is in
    c.gathered.ensures ∙ ap utf8_text c.in_ok-low-in-Name.ensures
    ∙ known_name (lowercase_bytes bytes) (subst (λ s. IsNamed s bytes) c.in-Name.is c.self.invariant)
    ∙ sym (ap name_of now)
