use Rattle.std.proofs.Common.{ap, subst, ◌≡◌, ◌∙◌}
use Rattle.std.specs.Prelude.{OnOk}
use Rattle.act_rows.specs.Acts.{after_see}
use Rattle.act_rows.specs.Closing.{after_closing_rules}
use Rattle.node_state.specs.Node.{NodeState}
use Rattle.node_core.proofs.acts.see_on.Goals as goal

pub returns : goal.returns
returns c =
    subst (λ (s : NodeState). OnOk c.close.result (c.close.new.node ≡ after_closing_rules s))
    (c.in_ok-see_event.ensures ∙ ap (λ (s : NodeState). after_see s s.read c.args.event.now) c.begin_act.ensures)
    c.close.ensures
