use Rattle.std.proofs.Common.{ap, ◌∙◌}
use Rattle.act_rows.specs.Acts.{act_result}
use Rattle.node_state.specs.Node.{NodeState}
use Rattle.node_core.proofs.ActLemmas.{delivered}
use Rattle.node_core.proofs.acts.take_message.Goals as goal

pub returns-clause-state : goal.returns-clause-state
returns-clause-state c = c.take_notes-notes.ensures.rest ∙ ap (λ (s : NodeState). (act_result s).state) c.in_ok-act_on.ensures

pub returns-clause-recs : goal.returns-clause-recs
returns-clause-recs c =
    delivered _ _ _ _ _ _ c.in_ok-recs.ensures c.in_ok-push.ensures.ok c.in_ok-append.ensures.ok
    (c.take_notes-notes.ensures.notes ∙ ap (λ (s : NodeState). s.noted) c.in_ok-act_on.ensures)
