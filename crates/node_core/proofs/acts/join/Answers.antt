use Rattle.std.proofs.Common.{subst, IfOk, OnOk, ◌≡◌}
use Rattle.act_rows.specs.Acts.{see_act}
use Rattle.node_state.specs.Node.{NodeState}
use Rattle.node_core.proofs.acts.join.Goals as goal

pub returns-clause-state : goal.returns-clause-state
returns-clause-state c =
    subst (λ (s : NodeState). OnOk c.see.result (c.see.new.node ≡ (see_act s c.args.own.now).state)) c.in_ok-learn_all.ensures
    c.see.ensures.state

pub returns-clause-recs : goal.returns-clause-recs
returns-clause-recs c =
    subst (λ (s : NodeState). IfOk c.see.result (λ recs. recs ≡ (see_act s c.args.own.now).recs)) c.in_ok-learn_all.ensures
    c.see.ensures.recs
