use Rattle.std.proofs.Common.{◌≡◌, ◌<◌, Option, Some, ap, length, rules, slice_set, subst, sym, ◌∙◌}
use Rattle.part_model.specs.Directory.{event_at}
use Rattle.tx_model.specs.World.{Part, part_on, see_outcome}
use Rattle.world_core.specs.Run.{Run, next_for}
use Rattle.world_core.specs.contracts.world.World.{the_view}
use Rattle.world_core.proofs.ActsLaws.{sees_recs, sees_world, there_is}
use Rattle.world_core.proofs.world.World.see_at.Goals as goal

in_parts : (c : goal.In_ok-recs) → c.in-Some-place.place < length c.self.inside.parts.items
in_parts c = search rules

abbrev run : goal.In_ok-recs → Run
run c = the_view c.self.inside

abbrev there_part : goal.In_ok-recs → Part
there_part c = record { node = c.behind-self.inside.node; life = c.behind-self.inside.life }

there : (c : goal.In_ok-recs) → part_on (run c).now (Some c.in-Some-place.place) ≡ Some (there_part c)
there c = there_is (run c).now c.in-Some-place.place (there_part c) c.index_mut.result.now (in_parts c) c.behind-self.view_is
    c.index_mut.ensures.value

next : (c : goal.In_ok-recs) → event_at (run c).now.directory (there_part c).node.read ≡ Some c.in-Some.event
next c =
    let told : next_for (run c).now (part_on (run c).now c.args.place) ≡ Some c.in-Some.event =
    subst (λ (s : Run). next_for s.now (part_on s.now c.args.place) ≡ Some c.in-Some.event) (sym c.self.view_is)
    (sym c.next_for.ensures ∙ c.in-Some.is) in
    sym (ap (λ (p : Option Part). next_for (run c).now p) (ap (part_on (run c).now) c.in-Some-place.is ∙ there c)) ∙ told

pub returns-clause-world : goal.returns-clause-world
returns-clause-world c =
    let r : Run = run c in
    let left : Run = record r {
      now =
          record r.now {
            parts = slice_set r.now.parts c.in-Some-place.place
                (record { node = c.see.new.node; life = (there_part c).life });
          };
    } in
    subst (λ (s : Run). left ≡ record s { now = (see_outcome s.now c.args.place (part_on s.now c.args.place)).world })
    c.self.view_is
    (sees_world r c.in-Some-place.place (there_part c) c.in-Some.event c.see.new.node c.args.place c.in-Some-place.is
    (there c) (next c) c.in_ok-recs.ensures.state)

pub returns-clause-recs : goal.returns-clause-recs
returns-clause-recs c =
    let r : Run = run c in
    subst (λ (s : Run). c.in_ok-recs.recs ≡ (see_outcome s.now c.args.place (part_on s.now c.args.place)).recs) c.self.view_is
    (sees_recs r c.in-Some-place.place (there_part c) c.in-Some.event c.in_ok-recs.recs c.args.place c.in-Some-place.is
    (there c) (next c) c.in_ok-recs.ensures.recs)
