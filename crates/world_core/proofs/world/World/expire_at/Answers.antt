use Rattle.std.proofs.Common.{◌≡◌, ◌<◌, ap, arith, length, rules, slice_set, subst, ◌∙◌}
use Rattle.act_rows.specs.Acts.{expire_act}
use Rattle.node_state.specs.Node.{NodeState}
use Rattle.tx_model.specs.World.{Outcome, Part, expire_outcome, part_on}
use Rattle.world_core.specs.Run.{Run}
use Rattle.world_core.specs.contracts.world.World.{the_view}
use Rattle.world_core.proofs.ActsLaws.{acts_recs, acts_world, expires_as}
use Rattle.world_core.proofs.world.World.expire_at.Goals as goal

inside : (c : goal.In_ok-recs) → c.in-Some.place < length c.self.inside.parts.items
inside c = search rules

pub returns-clause-world : goal.returns-clause-world
returns-clause-world c =
    let r : Run = the_view c.self.inside in
    let q : Part = record { node = c.behind-self.inside.node; life = c.behind-self.inside.life } in
    let done = acts_world (λ (s : NodeState). expire_act s c.args.tx) r c.in-Some.place q c.index_mut.result.now
    c.expire.new.node c.args.place c.in-Some.is
    (inside c) c.behind-self.view_is c.index_mut.ensures.value c.in_ok-recs.ensures.state in
    let left : Run = record r {
      now =
          record r.now { parts = slice_set r.now.parts c.in-Some.place (record { node = c.expire.new.node; life = q.life }) };
    } in
    subst (λ (s : Run). left ≡ record s {
      now =
          (expire_outcome s.now c.args.tx c.args.place (part_on s.now c.args.place)).world;
    }) c.self.view_is
    (done ∙ ap (λ (o : Outcome). record r { now = o.world })
    (expires_as r.now c.args.tx c.args.place (part_on r.now c.args.place)))

pub returns-clause-recs : goal.returns-clause-recs
returns-clause-recs c =
    let r : Run = the_view c.self.inside in
    let q : Part = record { node = c.behind-self.inside.node; life = c.behind-self.inside.life } in
    let done = acts_recs (λ (s : NodeState). expire_act s c.args.tx) r c.in-Some.place q c.index_mut.result.now
    c.in_ok-recs.recs c.args.place c.in-Some.is
    (inside c) c.behind-self.view_is c.index_mut.ensures.value c.in_ok-recs.ensures.recs in
    subst (λ (s : Run). c.in_ok-recs.recs ≡ (expire_outcome s.now c.args.tx c.args.place (part_on s.now c.args.place)).recs)
    c.self.view_is
    (done ∙ ap (λ (o : Outcome). o.recs) (expires_as r.now c.args.tx c.args.place (part_on r.now c.args.place)))
