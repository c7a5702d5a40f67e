use Rattle.std.proofs.Common.{◌≡◌, ◌<◌, ap, length, rules, slice_set, subst, sym, ◌∙◌, Some, None, Option}
use Rattle.part_model.specs.Links.{oldest_in}
use Rattle.tx_model.specs.World.{Part, act_outcome, inbox_on, part_on}
use Rattle.world_core.specs.Run.{Run}
use Rattle.world_core.specs.contracts.world.World.{the_view}
use Rattle.world_core.proofs.ActsLaws.{inbox_is, takes_recs, takes_world, there_is}
use Rattle.world_core.proofs.world.World.take_at.Goals as goal

in_parts : (c : goal.In_ok-recs-in-Some-pop) → c.in-Some.place < length c.self.inside.parts.items
in_parts c = search rules

in_inboxes : (c : goal.In_ok-recs-in-Some-pop) → c.in-Some.place < length c.self.inside.inboxes.items
in_inboxes c = search rules

first : (c : goal.In_ok-recs-in-Some-pop) → oldest_in c.index_mut-inbox.result.now c.args.from ≡ Some c.in-Some-pop.message
first c = sym c.pop.ensures.message ∙ c.in-Some-pop.is

pub returns-in_ok-recs-in-Some-pop-clause-world : goal.returns-in_ok-recs-in-Some-pop-clause-world
returns-in_ok-recs-in-Some-pop-clause-world c =
    let r : Run = the_view c.self.inside in
    let q : Part = record { node = c.behind-self.inside.node; life = c.behind-self.inside.life } in
    let there : part_on r.now (Some c.in-Some.place) ≡ Some q = there_is r.now c.in-Some.place q c.index_mut.result.now
    (in_parts c) c.behind-self.view_is c.index_mut.ensures.value in
    let kept : inbox_on r.now (Some c.in-Some.place) ≡ Some c.index_mut-inbox.result.now =
    inbox_is r.now c.in-Some.place c.index_mut-inbox.result.now (in_inboxes c) c.index_mut-inbox.ensures.value in
    let left : Run = record r {
      now =
          record r.now {
            parts = slice_set r.now.parts c.in-Some.place (record {
              node = c.take_message.new.node;
              life =
                  q.life;
            });
            inboxes = slice_set r.now.inboxes c.in-Some.place c.pop.new.self;
          };
    } in
    subst (λ (s : Run). left ≡ record s {
      now =
          (act_outcome s.now c.args.from c.args.place (part_on s.now c.args.place) (inbox_on s.now c.args.place)).world;
    })
    c.self.view_is
    (takes_world r c.args.from c.in-Some.place q c.index_mut-inbox.result.now c.pop.new.self c.in-Some-pop.message
    c.take_message.new.node c.args.place c.in-Some.is there kept (first c) c.pop.ensures.rest
    c.in_ok-recs-in-Some-pop.ensures.state)

pub returns-in_ok-recs-in-Some-pop-clause-recs : goal.returns-in_ok-recs-in-Some-pop-clause-recs
returns-in_ok-recs-in-Some-pop-clause-recs c =
    let r : Run = the_view c.self.inside in
    let q : Part = record { node = c.behind-self.inside.node; life = c.behind-self.inside.life } in
    let there : part_on r.now (Some c.in-Some.place) ≡ Some q = there_is r.now c.in-Some.place q c.index_mut.result.now
    (in_parts c) c.behind-self.view_is c.index_mut.ensures.value in
    let kept : inbox_on r.now (Some c.in-Some.place) ≡ Some c.index_mut-inbox.result.now =
    inbox_is r.now c.in-Some.place c.index_mut-inbox.result.now (in_inboxes c) c.index_mut-inbox.ensures.value in
    subst (λ (s : Run). c.in_ok-recs-in-Some-pop.recs
    ≡ (act_outcome s.now c.args.from c.args.place (part_on s.now c.args.place) (inbox_on s.now c.args.place)).recs)
    c.self.view_is
    (takes_recs r c.args.from c.in-Some.place q c.index_mut-inbox.result.now c.in-Some-pop.message
    c.in_ok-recs-in-Some-pop.recs c.args.place c.in-Some.is there kept (first c) c.in_ok-recs-in-Some-pop.ensures.recs)
