use Rattle.std.proofs.Common.{◌≡◌, ℕ, ◌<◌, None, OnOk, IfOk, Some, ap, length, refl, rules, subst, sym, ◌∙◌, List}
use Rattle.ignite_types.specs.declared.journal.Rec.{Rec}
use Rattle.ignite_types.specs.declared.journal.TopoEvent.{TopoEvent}
use Rattle.ignite_types.specs.declared.journal.TopoEvent.TheVariants as topo
use Rattle.act_rows.specs.Acts.{Acted, join_act}
use Rattle.node_state.specs.declared.life.Life.TheVariants as life
use Rattle.tx_model.specs.World.{join_outcome, part_on, plan_outcome_with}
use Rattle.world_core.specs.Run.{Run}
use Rattle.world_core.specs.contracts.world.World.{the_view}
use Rattle.world_core.proofs.ActsLaws.{entered, joins_recs, joins_world, own_join, there_is}
use Rattle.world_core.proofs.world.World.joins.Goals as goal

in_parts : (c : goal.After-pass-2) → c.in-Some.place < length c.self.inside.parts.items
in_parts c = search rules

abbrev run : goal.After-pass-2 → Run
run c = the_view c.self.inside

there : (c : goal.After-pass-2) → part_on (run c).now (Some c.in-Some.place) ≡ Some c.index_mut.result.now
there c = there_is (run c).now c.in-Some.place c.index_mut.result.now c.index_mut.result.now
    (in_parts c) refl c.index_mut.ensures.value

same_act : (c : goal.After-pass-2) → join_act c.index_mut.result.now.node c.events.result.now c.clock-clock.result
    (topo.Join c.args.member) ≡ own_join (run c).now c.args.member c.index_mut.result.now
same_act c =
    ap (λ (events : List TopoEvent). join_act c.index_mut.result.now.node events c.clock-clock.result
    (topo.Join c.args.member)) c.events.ensures
    ∙ ap (λ (now : ℕ). join_act c.index_mut.result.now.node c.self.inside.directory.events now (topo.Join c.args.member))
    c.clock-clock.ensures

world : (c : goal.After-pass-2) → (recs : List Rec) →
    record (entered (run c) c.in-Some.place c.join.new.self c.append_join.new.self) {
      now =
          (plan_outcome_with (entered (run c) c.in-Some.place c.join.new.self c.append_join.new.self).now c.append_join.new.self
          None recs).world;
    } ≡ record c.args.self.now {
      now =
          (join_outcome c.args.self.now.now c.args.member c.args.self.now.now.directory c.args.place
          (part_on c.args.self.now.now c.args.place)).world;
    }
world c recs =
    let r : Run = run c in
    let left : Run = record (entered r c.in-Some.place c.join.new.self c.append_join.new.self) {
      now =
          (plan_outcome_with (entered r c.in-Some.place c.join.new.self c.append_join.new.self).now c.append_join.new.self None
          recs).world;
    } in
    subst (λ (s : Run). left ≡ record s {
      now =
          (join_outcome s.now c.args.member s.now.directory c.args.place (part_on s.now c.args.place)).world;
    }) c.self.view_is
    (joins_world r c.args.member c.in-Some.place c.index_mut.result.now c.join.new.self c.append_join.new.self recs
    c.args.place c.in-Some.is (there c)
    (c.in_ok-recs.ensures.part ∙ ap (λ (a : Acted). record { node = a.state; life = life.Alive }) (same_act c))
    c.in_ok-append_join.ensures.ok)

recs_of : (c : goal.After-pass-2) →
    (plan_outcome_with (entered (run c) c.in-Some.place c.join.new.self c.append_join.new.self).now c.append_join.new.self
    None c.in_ok-recs.recs).recs ≡ (join_outcome c.args.self.now.now c.args.member c.args.self.now.now.directory c.args.place
    (part_on c.args.self.now.now c.args.place)).recs
recs_of c =
    let r : Run = run c in
    subst (λ (s : Run). (plan_outcome_with (entered r c.in-Some.place c.join.new.self c.append_join.new.self).now
    c.append_join.new.self None c.in_ok-recs.recs).recs ≡ (join_outcome s.now c.args.member s.now.directory c.args.place
    (part_on s.now c.args.place)).recs) c.self.view_is
    (joins_recs r c.args.member c.in-Some.place c.index_mut.result.now c.join.new.self c.append_join.new.self
    c.in_ok-recs.recs c.args.place c.in-Some.is (there c)
    (c.in_ok-recs.ensures.recs ∙ ap (λ (a : Acted). a.recs) (same_act c)) c.in_ok-append_join.ensures.ok)

pub returns-clause-world : goal.returns-clause-world
returns-clause-world c = subst (λ (x : Run). OnOk c.pass-2.result (c.pass-2.new.self ≡ x)) (world c c.in_ok-recs.recs)
    c.pass-2.ensures.world

pub returns-clause-recs : goal.returns-clause-recs
returns-clause-recs c =
    subst (λ (list : List Rec). IfOk c.pass-2.result (λ all. all ≡ list)) (recs_of c)
    c.pass-2.ensures.recs
