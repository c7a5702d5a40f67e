use Rattle.std.proofs.Common.{ap, length, ◌∙◌}
use Rattle.part_model.specs.Links.{Inbox}
use Rattle.link_memory.proofs.LinkLaws.{keys_emptied, one_emptied}
use Rattle.link_memory.proofs.inbox.Inbox.empty_each.Goals as goal

pub loop-place-preserved : goal.loop-place-preserved
loop-place-preserved c =
    let links = c.as_slice.ensures.value ∙ ap (λ (i : Inbox). i.links) c.self-in-loop-place.view_is in
    let within = rw (c.len-place-end.ensures ∙ ap (λ (i : Inbox). length i.links) c.self.view_is) at c.loop-place-test.true in
    let emptied_one = one_emptied c.args.self.now c.loop-place.self c.loop-place.place c.index-as_slice-place.result
    c.loop-place.invariant.0 within in (
      rw c.drop_node.ensures (keys_emptied c.loop-place.self _ ∙ c.loop-place.invariant.0),
      rw (c.drop_node.ensures, links) (emptied_one ∙ c.loop-place.invariant.1),
    )
