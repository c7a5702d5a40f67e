use Rattle.std.proofs.Common.{ap, ◌∙◌, [], false}
use Rattle.part_model.specs.Links.{Inbox, Link}
use Rattle.link_memory.proofs.LinkLaws.{node_put_there}
use Rattle.link_memory.proofs.inbox.Inbox.drop_node.Goals as goal

pub replace-vacant-requires : goal.replace-vacant-requires
replace-vacant-requires c =
    let vacant : Link = record { held = false; messages = [] } in
    rw (ap (λ (i : Inbox). i.links) (c.self.view_is ∙ c.in-Some.ensures.vacant))
    (node_put_there c.args.self.now.links c.args.from vacant)
