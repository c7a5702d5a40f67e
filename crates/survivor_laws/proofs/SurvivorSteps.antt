-- The steps of a node that acts keep what is known of living owners.
use Rattle.std.proofs.Common.{◌≡◌, ◌++◌, List, [], Option, Some, Bool, true, false, refl, ap, sym, subst, ◌∙◌}
use Rattle.frame_laws.proofs.Extending.{append_none}
use Rattle.ignite_types.proofs.NameLaws.{same_node_itself, same_node_true}
use Rattle.ignite_types.specs.Names.{same_node}
use Rattle.ignite_types.specs.declared.journal.Rec.{Rec}
use Rattle.ignite_types.specs.declared.names.NodeId.{NodeId}
use Rattle.ignite_types.specs.declared.placement.PartMap.{PartMap}
use Rattle.journal_statements.specs.Noted.{Noted, noted_by}
use Rattle.map_laws.proofs.MapFrames.{silent_by}
use Rattle.map_laws.proofs.MapSteps.{recs_grow}
use Rattle.map_laws.specs.LeavesMaps.{LeavesMaps}
use Rattle.node_state.specs.Node.{NodeState}
use Rattle.scenes.specs.Scenes.{Scene, either_state, scene_in_act, state_at_rest, states_with}
use Rattle.survivor_laws.proofs.SurvivorFrames.{AreAside, aside_fit, fit_parts, noted_at_more, owners_records, silent_aside}
use Rattle.survivor_laws.specs.SurvivorFacts.{HasLiveOwners, IsNotedAt, NotedSurvivorsFit}
use Rattle.survivor_laws.specs.SurvivorInvariant.{SurvivorInvariant, SurvivorsInAct}

-- the map of each node, by that of the acting one and those of the others
act_noted : (sc : Scene) (n : NodeId) (s : NodeState) (recs : List Noted) → IsNotedAt sc.scenario recs n s.installed →
    ((k : NodeId) → same_node n k ≡ false → IsNotedAt sc.scenario recs k (sc.state k).installed)
    → (k : NodeId) → IsNotedAt sc.scenario recs k (states_with n (state_at_rest s) sc.state k).installed
act_noted sc n s recs own others k = by (same_node n k) refl
  where
    by : (c : Bool) → same_node n k ≡ c → IsNotedAt sc.scenario recs k (either_state c (state_at_rest s) (sc.state k)).installed
    by true same = subst (λ (x : NodeId). IsNotedAt sc.scenario recs x s.installed) (same_node_true n k same) own
    by false other = others k other

pub own_noted : (sc : Scene) (n : NodeId) (s : NodeState) → SurvivorsInAct sc n s →
    IsNotedAt sc.scenario (scene_in_act sc n s).recs n s.installed
own_noted sc n s i = subst (λ (c : Bool). IsNotedAt sc.scenario (scene_in_act sc n s).recs n
    (either_state c (state_at_rest s) (sc.state n)).installed) (same_node_itself n) (i.noted n)

pub other_noted : (sc : Scene) (n : NodeId) (s : NodeState) → SurvivorsInAct sc n s → (k : NodeId) → same_node n k ≡ false →
    IsNotedAt sc.scenario (scene_in_act sc n s).recs k (sc.state k).installed
other_noted sc n s i k other =
    subst (λ (c : Bool). IsNotedAt sc.scenario (scene_in_act sc n s).recs k
    (either_state c (state_at_rest s) (sc.state k)).installed) other (i.noted k)

-- An act begins: nothing is noted yet.
pub begins_survivors : (sc : Scene) (n : NodeId) (s : NodeState) → s.noted ≡ [] → s.installed ≡ (sc.state n).installed →
    SurvivorInvariant sc → SurvivorsInAct sc n s
begins_survivors sc n s none map_is i =
    let same : (scene_in_act sc n s).recs ≡ sc.recs = ap (λ (rs : List Rec). sc.recs ++ noted_by (Some n) rs) none
    ∙ append_none sc.recs in
    let here : SurvivorInvariant (record (scene_in_act sc n s) { recs = sc.recs }) = record {
      noted = act_noted sc n s sc.recs (subst (λ (o : Option PartMap). IsNotedAt sc.scenario sc.recs n o) (sym map_is)
          (i.noted n)) (λ k other. i.noted k);
      owners = i.owners;
      fit = i.fit;
    } in
    subst (λ (rs : List Noted). SurvivorInvariant (record (scene_in_act sc n s) { recs = rs })) (sym same) here

-- The assembly: the acting node has noted more.
pub step_survivors : (sc : Scene) (n : NodeId) (a b : NodeState) (more : List Rec) → b.noted ≡ a.noted ++ more →
    SurvivorsInAct sc n a
    → IsNotedAt sc.scenario ((scene_in_act sc n a).recs ++ noted_by (Some n) more) n b.installed
    → HasLiveOwners sc.scenario sc.directory.events ((scene_in_act sc n a).recs ++ noted_by (Some n) more)
    → NotedSurvivorsFit sc.scenario sc.directory.events (scene_in_act sc n a).recs (noted_by (Some n) more) →
    SurvivorsInAct sc n b
step_survivors sc n a b more noted i own owners fit =
    let recs = (scene_in_act sc n a).recs in
    let ms = noted_by (Some n) more in
    let here : SurvivorInvariant (record (scene_in_act sc n b) { recs = recs ++ ms }) = record {
      noted = act_noted sc n b (recs ++ ms) own (λ k other. noted_at_more sc.scenario recs ms k (sc.state k).installed
          (other_noted sc n a i k other));
      owners = owners;
      fit = fit_parts sc.scenario sc.directory.events [] recs ms i.fit fit;
    } in
    subst (λ (rs : List Noted). SurvivorInvariant (record (scene_in_act sc n b) { recs = rs }))
    (sym (recs_grow sc n a b more noted)) here

-- A row that leaves maps alone.
pub leaves_survivors : (sc : Scene) (n : NodeId) (a b : NodeState) → LeavesMaps a b → SurvivorsInAct sc n a →
    SurvivorsInAct sc n b
leaves_survivors sc n a b l i =
    let recs = (scene_in_act sc n a).recs in
    let ms = noted_by (Some n) l.more in
    let aside : AreAside ms = silent_aside ms (silent_by (Some n) l.more l.silent) in
    step_survivors sc n a b l.more l.noted_is i
    (subst (λ (o : Option PartMap). IsNotedAt sc.scenario (recs ++ ms) n o) (sym l.same_map)
    (noted_at_more sc.scenario recs ms n a.installed (own_noted sc n a i)))
    (owners_records sc.scenario sc.directory.events recs ms aside i.owners)
    (aside_fit sc.scenario sc.directory.events recs ms aside)
