use Rattle.std.proofs.Common.{ap, ◌∙◌}
use Rattle.act_rows.specs.Acts.{act_result}
use Rattle.node_state.specs.Node.{NodeState}
use Rattle.node_core.proofs.acts.see.Goals as goal

pub returns-clause-state : goal.returns-clause-state
returns-clause-state c = c.take_notes.ensures.rest ∙ ap (λ (s : NodeState). (act_result s).state) c.in_ok-see_on.ensures

pub returns-clause-recs : goal.returns-clause-recs
returns-clause-recs c = c.take_notes.ensures.notes ∙ ap (λ (s : NodeState). s.noted) c.in_ok-see_on.ensures
