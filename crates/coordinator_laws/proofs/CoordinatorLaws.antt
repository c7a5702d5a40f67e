-- The map of a version is handed out, and its opening told, by its oldest member alone, in every run.
use Rattle.std.proofs.Common.{◌≡◌, ◌≤◌, ◌<◌, ◌^◌, ◌++◌, ◌&&◌, List, [], ◌∷◌, Option, Some, None, Bool, true, false, length, ℕ, refl, ap, sym, subst, ◌∙◌}
use Rattle.std.specs.List.{list_all, list_any}
use Rattle.std.specs.Prelude.{drop, slice_get}
use Rattle.std.specs.Prelude.{option_to_list}
use Rattle.frame_laws.proofs.Extending.{append_none, append_twice}
use Rattle.act_rows.specs.Acts.{after_message, after_see, with_act_begun}
use Rattle.act_rows.specs.Closing.{after_closing_rules}
use Rattle.act_rows.specs.Commands.{after_answer, after_call}
use Rattle.act_rows.specs.Searches.{after_expire}
use Rattle.coordinator_laws.proofs.ActRecords.{answer_silent, call_silent, expire_silent, message_silent, says_no_sent, see_silent}
use Rattle.coordinator_laws.specs.SentFacts.{IsByOldest, NotedSentsFit, SentFits, TopologyAndSents}
use Rattle.ignite_types.proofs.NameLaws.{same_node_itself}
use Rattle.ignite_types.specs.declared.journal.Journal.{Journal}
use Rattle.ignite_types.specs.declared.journal.Rec.{Rec}
use Rattle.ignite_types.specs.declared.journal.TopoEvent.{TopoEvent}
use Rattle.ignite_types.specs.declared.message.Message.{Message}
use Rattle.ignite_types.specs.declared.message.Out.{Out}
use Rattle.ignite_types.specs.declared.names.NodeId.{NodeId}
use Rattle.ignite_types.specs.declared.names.TopVer.{TopVer}
use Rattle.ignite_types.specs.declared.placement.PartMap.{PartMap}
use Rattle.ignite_types.specs.declared.scenario.Scenario.{Scenario}
use Rattle.journal_statements.specs.MapLaws.{is_known_map, is_oldest_of, one_coordinator, sent_by_coordinator}
use Rattle.journal_statements.specs.Noted.{Noted, each_from, map_of_version, maps_installed, noted, noted_by}
use Rattle.journal_statements.specs.SameMessages.{same_map}
use Rattle.journal_statements.specs.Topologies.{Topology, first_topology, topologies, topologies_from, topology_of}
use Rattle.link_laws.proofs.Journals.{first_rest}
use Rattle.link_laws.proofs.SameMessages.{same_map_itself}
use Rattle.map_laws.specs.MapFacts.{topology_after_events}
use Rattle.node_state.specs.Node.{NodeState}
use Rattle.part_model.specs.Directory.{oldest_member, with_answer_given, with_event}
use Rattle.part_model.specs.Orders.{is_node}
use Rattle.scenes.proofs.EachRun.{few}
use Rattle.scenes.proofs.Runs.{legal_holds}
use Rattle.scenes.specs.EachRun.{IsRunOf, is_short_run, last_scene}
use Rattle.scenes.specs.Events.{EachEventKeeps, IsReady, joiner_end, joiner_start}
use Rattle.scenes.specs.Scenes.{Scene, one_record, plan_records, scene_after_send, scene_in_act}
use Rattle.topology_laws.proofs.Frames.{longer}
use Rattle.topology_laws.proofs.KeptAll.{opening_kept, topologies_kept}
use Rattle.topology_laws.proofs.Laws.{find_first, versions_are}
use Rattle.topology_laws.proofs.Lists.{each_first}
use Rattle.topology_laws.proofs.Steps.{alive_fits}
use Rattle.topology_laws.proofs.Tops.{more_events, one_place}
use Rattle.topology_laws.specs.TopologyFacts.{HoldsOfEach, IsOldestMember, MessageTells, NodeFits}
use Rattle.topology_laws.specs.TopologyInvariant.{TopologyInvariant}
use Rattle.topology_laws.specs.TopologyScenes.{TopologyPart, TopologyScene, topology_scene, topology_state}
use Rattle.ignite_types.specs.declared.journal.Rec.TheVariants as note
use Rattle.ignite_types.specs.declared.journal.TopoEvent.TheVariants as topo
use Rattle.ignite_types.specs.declared.message.Message.TheVariants as msg
use Rattle.node_state.specs.declared.life.Life.TheVariants as life

-- Further records and events.

sents_parts : (s : Scenario) (es : List TopoEvent) (before ns ms : List Noted) → NotedSentsFit s es before ns →
    NotedSentsFit s es (before ++ ns) ms → NotedSentsFit s es before (ns ++ ms)
sents_parts s es before [] ms first second = subst (λ (rs : List Noted). NotedSentsFit s es rs ms) (append_none before) second
sents_parts s es before (n ∷ ns) ms first second = (
  first.0,
  sents_parts s es (before ++ n ∷ []) ns ms first.1 (subst (λ (rs : List Noted). NotedSentsFit s es rs ms)
      (sym (append_twice before (n ∷ []) ns)) second),
)

oldest_events : (s : Scenario) (es events : List TopoEvent) (top : TopVer) (who : Option NodeId) → IsByOldest s es top who →
    IsByOldest s (es ++ events) top who
oldest_events s es events top who o =
    let same : topology_after_events s (es ++ events) o.place ≡ topology_after_events s es o.place =
    more_events s es events o.place o.within in
    record {
      node = o.node;
      by = o.by;
      place = o.place;
      within = longer es events o.place o.within;
      is_top = ap (λ (t : Topology). t.top) same ∙ o.is_top;
      oldest = ap (λ (t : Topology). oldest_member t.members) same ∙ o.oldest;
    }

message_events : (s : Scenario) (es events : List TopoEvent) (before : List Noted) (who : Option NodeId) (to : NodeId)
    (m : Message) → SentFits s es before who (note.Sent to m) → SentFits s (es ++ events) before who (note.Sent to m)
message_events s es events before who to (msg.Full m) fits = (oldest_events s es events m.top who fits.0, fits.1)
message_events s es events before who to (msg.Opens top) fits = oldest_events s es events top who fits
message_events s es events before who to _ fits = tt

sent_events : (s : Scenario) (es events : List TopoEvent) (before : List Noted) (who : Option NodeId) (r : Rec) →
    SentFits s es before who r → SentFits s (es ++ events) before who r
sent_events s es events before who (note.Sent to m) fits = message_events s es events before who to m fits
sent_events s es events before who _ fits = tt

sents_events : (s : Scenario) (es events : List TopoEvent) (before ns : List Noted) → NotedSentsFit s es before ns →
    NotedSentsFit s (es ++ events) before ns
sents_events s es events before [] fits = tt
sents_events s es events before (n ∷ ns) fits = (
  sent_events s es events before n.node n.rec fits.0,
  sents_events s es events (before ++ n ∷ []) ns fits.1,
)

silent_fits : (s : Scenario) (es : List TopoEvent) (before : List Noted) (who : Option NodeId) (r : Rec) →
    says_no_sent r ≡ true → SentFits s es before who r
silent_fits s es before who (note.Sent to m) silent = absurd (cc (silent))
silent_fits s es before who _ silent = tt

silent_sents : (s : Scenario) (es : List TopoEvent) (before : List Noted) (who : Option NodeId) (rs : List Rec) →
    list_all says_no_sent rs ≡ true → NotedSentsFit s es before (noted_by who rs)
silent_sents s es before who [] silent = tt
silent_sents s es before who (r ∷ rs) silent =
    let both = first_rest (says_no_sent r) (list_all says_no_sent rs) silent in
    (silent_fits s es before who r both.0, silent_sents s es (before ++ record { node = who; rec = r } ∷ []) who rs both.1)

abbrev Sents : Scene → Type 0
Sents sc = NotedSentsFit sc.scenario sc.directory.events [] sc.recs

-- a node acts
acts_sents : (sc : Scene) (n : NodeId) (b : NodeState) → list_all says_no_sent b.noted ≡ true → Sents sc →
    Sents (scene_in_act sc n b)
acts_sents sc n b silent i = sents_parts sc.scenario sc.directory.events [] sc.recs (noted_by (Some n) b.noted) i
    (silent_sents sc.scenario sc.directory.events sc.recs (Some n) b.noted silent)

-- one more record, of nothing that was sent
notes_sents : (s : Scenario) (es : List TopoEvent) (recs : List Noted) (who : Option NodeId) (r : Rec) →
    says_no_sent r ≡ true → NotedSentsFit s es [] recs → NotedSentsFit s es [] (recs ++ one_record who r)
notes_sents s es recs who r silent i = sents_parts s es [] recs (one_record who r) i (silent_fits s es recs who r silent, tt)

-- A message is sent: its sender knows what it tells.

by_oldest : (sc : Scene) (top : TopVer) (n : NodeId) → IsOldestMember (topology_scene sc) top n →
    IsByOldest sc.scenario sc.directory.events top (Some n)
by_oldest sc top n o = record { node = n; by = refl; place = o.place; within = o.within; is_top = o.is_top; oldest = o.oldest }

message_fits : (sc : Scene) (n to : NodeId) (m : Message) → MessageTells (topology_scene sc) n to m →
    SentFits sc.scenario sc.directory.events sc.recs (Some n) (note.Sent to m)
message_fits sc n to (msg.Full m) tells = (by_oldest sc m.top n tells.2, tells.1)
message_fits sc n to (msg.Opens top) tells = by_oldest sc top n tells.1
message_fits sc n to _ tells = tt

sent_tells : (sc : Scene) (n : NodeId) (s : NodeState) (out : Out) → IsReady sc n s → s.outbox ≡ out ∷ drop 1 s.outbox →
    TopologyInvariant (topology_scene sc) → MessageTells (topology_scene sc) n out.to out.msg
sent_tells sc n s out r first i =
    let here : TopologyPart = record { life = life.Alive; state = topology_state s } in
    let there : (topology_scene sc).seat n ≡ Some here =
    λ j. Some (record { life = r.alive j; state = topology_state (r.state_is j) }) in
    let fits : NodeFits (topology_scene sc) n (topology_state s) =
    alive_fits (topology_scene sc) n here refl (i.seats n here there) in
    each_first (λ (x : Out). MessageTells (topology_scene sc) n x.to x.msg) s.outbox out
    (ap (λ (os : List Out). slice_get os 0) first) fits.outbox_tells

sends_sents : (sc : Scene) (n : NodeId) (s : NodeState) (out : Out) → IsReady sc n s → s.outbox ≡ out ∷ drop 1 s.outbox →
    TopologyAndSents sc → NotedSentsFit sc.scenario sc.directory.events []
    ((sc.recs ++ one_record (Some n) (note.Sent out.to out.msg)) ++ noted_by (Some n) s.noted)
sends_sents sc n s out r first i =
    let sent = one_record (Some n) (note.Sent out.to out.msg) in
    let one = sents_parts sc.scenario sc.directory.events [] sc.recs sent i.sents
    (message_fits sc n out.to out.msg (sent_tells sc n s out r first i.topology), tt) in
    sents_parts sc.scenario sc.directory.events [] (sc.recs ++ sent) (noted_by (Some n) s.noted) one
    (subst (λ (rs : List Rec). NotedSentsFit sc.scenario sc.directory.events (sc.recs ++ sent) (noted_by (Some n) rs))
    (sym r.none_noted) tt)

-- Each event.

pub sents_kept : EachEventKeeps TopologyAndSents
sents_kept = record {
  answers = λ sc n s session sound r may i. record {
    topology = topologies_kept.answers sc n s session sound r may i.topology;
    sents = acts_sents sc n (after_answer s session) (answer_silent s session r.none_noted) i.sents;
  };
  calls = λ sc n s session sound r may i. record {
    topology = topologies_kept.calls sc n s session sound r may i.topology;
    sents = acts_sents sc n (after_closing_rules (after_call s session)) (call_silent s session r.none_noted) i.sents;
  };
  takes = λ sc n s from m sound r first i. record {
    topology = topologies_kept.takes sc n s from m sound r first i.topology;
    sents =
        let taken = notes_sents sc.scenario sc.directory.events sc.recs (Some n) (note.Deliver from m) refl i.sents in
        sents_parts sc.scenario sc.directory.events [] (sc.recs ++ one_record (Some n) (note.Deliver from m))
        (noted_by (Some n) (after_closing_rules (after_message s from m)).noted) taken
        (silent_sents sc.scenario sc.directory.events (sc.recs ++ one_record (Some n) (note.Deliver from m)) (Some n)
        (after_closing_rules (after_message s from m)).noted (message_silent s from m r.none_noted));
  };
  expires = λ sc n s tx sound r own may i. record {
    topology = topologies_kept.expires sc n s tx sound r own may i.topology;
    sents = acts_sents sc n (after_closing_rules (after_expire s tx)) (expire_silent s tx r.none_noted) i.sents;
  };
  sees = λ sc n s e sound r there i. record {
    topology = topologies_kept.sees sc n s e sound r there i.topology;
    sents =
        acts_sents sc n (after_closing_rules (after_see s s.read e)) (see_silent s s.read e r.none_noted) i.sents;
  };
  switches = λ sc n s sound r may same i. record {
    topology = topologies_kept.switches sc n s sound r may same i.topology;
    sents = sents_events sc.scenario sc.directory.events (topo.Minor ∷ []) [] sc.recs i.sents;
  };
  moves = λ sc n s out sound r first i. record {
    topology = topologies_kept.moves sc n s out sound r first i.topology;
    sents =
        sends_sents sc n s out r first i;
  };
  drops = λ sc n s out sound r first away i.
      record {
        topology = topologies_kept.drops sc n s out sound r first away i.topology;
        sents =
            sends_sents sc n s out r first i;
      };
  joins = λ sc m s sound absent new is i. record {
    topology = topologies_kept.joins sc m s sound absent new is i.topology;
    sents =
        let start : NodeState = joiner_start sc s in
        let grown = sents_events sc.scenario sc.directory.events (topo.Join m ∷ []) [] (sc.recs ++ plan_records sc None)
        (notes_sents sc.scenario sc.directory.events sc.recs None (note.Planned sc.directory.done None) refl i.sents) in
        sents_parts sc.scenario (sc.directory.events ++ topo.Join m ∷ []) [] (sc.recs ++ plan_records sc None)
        (noted_by (Some m.node) (joiner_end sc m s).noted) grown
        (silent_sents sc.scenario (sc.directory.events ++ topo.Join m ∷ []) (sc.recs ++ plan_records sc None) (Some m.node)
        (joiner_end sc m s).noted (see_silent start start.read (topo.Join m) refl));
  };
  loses = λ sc n sound may i. record {
    topology = topologies_kept.loses sc n sound may i.topology;
    sents = sents_events sc.scenario sc.directory.events (topo.Left n ∷ []) []
        (sc.recs ++ (plan_records sc None ++ one_record None (note.Lost n)))
        (sents_parts sc.scenario sc.directory.events [] sc.recs (plan_records sc None ++ one_record None (note.Lost n))
        i.sents (tt, (tt, tt)));
  };
  plans = λ sc refused sound i. record {
    topology = topologies_kept.plans sc refused sound i.topology;
    sents =
        notes_sents sc.scenario sc.directory.events sc.recs None (note.Planned sc.directory.done refused) refl i.sents;
  };
  starts = λ sc e sound is i. record {
    topology = topologies_kept.starts sc e sound is i.topology;
    sents =
        sents_events sc.scenario sc.directory.events (e ∷ []) [] (sc.recs ++ plan_records sc None)
        (notes_sents sc.scenario sc.directory.events sc.recs None (note.Planned sc.directory.done None) refl i.sents);
  };
  ticks = λ sc to sound i. record {
    topology = topologies_kept.ticks sc to sound i.topology;
    sents =
        notes_sents sc.scenario sc.directory.events sc.recs None (note.Tick to) refl i.sents;
  };
  breaks = λ sc n sound i. record {
    topology = topologies_kept.breaks sc n sound i.topology;
    sents =
        notes_sents sc.scenario sc.directory.events sc.recs (Some n) note.Memory refl i.sents;
  };
}

-- From what fits to the test.

module _ (s : Scenario) (es : List TopoEvent) (short : length es < 2 ^ 63) where
  abbrev versions : List Topology
  versions = topologies_from (first_topology s) es

  oldest_passes : (top : TopVer) (who : Option NodeId) → IsByOldest s es top who → is_oldest_of who (topology_of versions top)
      ≡ true
  oldest_passes top who o =
      let found = find_first (first_topology s) es o.place top o.within o.is_top in
      let same : found.place ≡ o.place = one_place s es found.place o.place short found.within o.within (found.is_top
      ∙ sym o.is_top) in
      ap (is_oldest_of who) (found.found ∙ ap (λ (k : ℕ). Some (topology_after_events s es k)) same)
      ∙ ap (λ (x : Option NodeId). list_any (λ (y : NodeId). is_node y who) (option_to_list x)) o.oldest
      ∙ ap (λ (x : Option NodeId). list_any (λ (y : NodeId). is_node y x) (o.node ∷ [])) o.by
      ∙ (rw (same_node_itself o.node) refl)

  message_passes : (before : List Noted) (who : Option NodeId) (to : NodeId) (m : Message) →
      SentFits s es before who (note.Sent to m) → sent_by_coordinator s versions before who (note.Sent to m) ≡ true
  message_passes before who to (msg.Full m) fits = rw (oldest_passes m.top who fits.0) (ap (is_known_map m) fits.1
      ∙ same_map_itself m)
  message_passes before who to (msg.Opens top) fits = oldest_passes top who fits
  message_passes before who to _ fits = refl

  sent_passes : (before : List Noted) (who : Option NodeId) (r : Rec) → SentFits s es before who r →
      sent_by_coordinator s versions before who r ≡ true
  sent_passes before who (note.Sent to m) fits = message_passes before who to m fits
  sent_passes before who _ fits = refl

  each_passes : (before ns : List Noted) → NotedSentsFit s es before ns →
      each_from (λ (xs : List Noted) (n : Noted). sent_by_coordinator s versions xs n.node n.rec) before ns ≡ true
  each_passes before [] fits = refl
  each_passes before (n ∷ ns) fits = rw (sent_passes before n.node n.rec fits.0) (each_passes (before ++ n ∷ []) ns fits.1)

module _ (events : ℕ) (short : is_short_run events ≡ true) (j : Journal) (run : IsRunOf events j) where
  holds : TopologyAndSents (last_scene j)
  holds = legal_holds TopologyAndSents sents_kept (λ s is. record { topology = opening_kept s; sents = tt }) j run.is_good
      (few events short j run) run.is_legal

  pub one_coordinator_holds : one_coordinator j ≡ true
  one_coordinator_holds =
      subst (λ (ts : List Topology). each_from (λ (before : List Noted) (n : Noted).
      sent_by_coordinator j.scenario ts before n.node n.rec) [] (noted j.scenario j.groups) ≡ true)
      (versions_are events short j run)
      (each_passes j.scenario (last_scene j).directory.events holds.topology.few [] (noted j.scenario j.groups) holds.sents)
