use Rattle.std.proofs.Common.{not, sym, ap, ◌∙◌}
use Rattle.scen_text.specs.Known.{same_object_kind}
use Rattle.scen_text.proofs.Seen.{passes, other_kind}
use Rattle.scen_text.proofs.objects.Objects.is_other.Goals as goal

pub returns-in-Some : goal.returns-in-Some
returns-in-Some c =
    rw (← c.self.view_is) (ap not c.same_kind.ensures
    ∙ (ap (passes (λ known. not (same_object_kind known c.args.kind))) c.in-Some.ensures.value
    ∙ sym (other_kind c.self.inside.kinds.entries c.args.key.now c.args.kind c.self.invariant)))

pub returns-in-None : goal.returns-in-None
returns-in-None c =
    rw (← c.self.view_is) (ap (passes (λ known. not (same_object_kind known c.args.kind))) c.in-None.ensures.value
    ∙ sym (other_kind c.self.inside.kinds.entries c.args.key.now c.args.kind c.self.invariant))
