-- What it means that a link was taken out of an inbox to be changed: a vacant one stands in its place.
use Rattle.std.specs.Prelude.{◌≡◌, false, [], Some, None}
use Rattle.ignite_types.specs.declared.names.NodeId.{NodeId}
use Rattle.part_model.specs.Links.{Inbox, Link, link_of, with_link}

pub record TakesLink (old new : Inbox) (from : NodeId) (link : Link) : Type 0 where
  pub was : link_of old from ≡ Some link
  pub vacant : new ≡ with_link old from (record { held = false; messages = [] })

pub record TakesNoLink (old new : Inbox) (from : NodeId) : Type 0 where
  pub was : link_of old from ≡ None
  pub same : new ≡ old
