use Rattle.link_laws.proofs.Runs.{links_hold}
use Rattle.link_laws.proofs.links_in_order.Goals as goal

pub returns : goal.returns
returns c = record { law = links_hold }
