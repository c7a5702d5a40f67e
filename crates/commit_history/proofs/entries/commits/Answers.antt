use Rattle.std.proofs.Common.{List, [], ap, refl, ◌∙◌}
use Rattle.tx_model.specs.Opening.{session_nodes_from}
use Rattle.commit_history.specs.Firsts.{firsts}
use Rattle.commit_history.specs.Steps.{opening_walks}
use Rattle.ignite_types.specs.declared.journal.Group.{Group}
use Rattle.ignite_types.specs.declared.scenario.Session.{Session}
use Rattle.tx_model.specs.History.{records}
use Rattle.commit_history.proofs.Histories.{found_are}
use Rattle.commit_history.proofs.Results.{if_ok}
use Rattle.commit_history.proofs.entries.commits.Goals as goal

pub returns : goal.returns
returns c =
    let groups = c.args.journal.now.groups in
    let sessions = c.args.journal.now.scenario.sessions in
    let in_order = c.as_slice.ensures ∙ c.in_ok-txs.ensures
    ∙ ap (λ (gs : List Group). firsts [] (records gs)) c.as_slice-groups.ensures in
    let by_number = c.in_ok-nodes.ensures ∙ ap (λ (ss : List Session). session_nodes_from 1 [] ss) c.as_slice-sessions.ensures
    in
    let opened = c.in_ok-walks.ensures ∙ ap opening_walks c.as_slice-sessions.ensures in
    let walked = c.in_ok-walk.ensures ∙ rw (opened, c.as_slice-groups.ensures) refl in
    let found = found_are sessions groups c.in_ok-nodes.nodes c.walk.new.self c.as_slice.result.now in_order by_number walked in
    if_ok c.entries_of.result c.entries_of.ensures (λ list is. is ∙ found)
