-- The invariant of owners is kept by each event.
use Rattle.std.proofs.Common.{◌≡◌, ◌<◌, ◌^◌, ◌++◌, ◌&&◌, ℕ, List, [], ◌∷◌, Bool, true, false, Option, Some, refl, ap, subst, ◌∙◌}
use Rattle.std.specs.List.{list_any}
use Rattle.std.specs.Option.{option_map}
use Rattle.std.specs.Prelude.{drop, slice_get, suc, unwrap_or, zero, ◌+◌, ◌==◌}
use Rattle.std.proofs.lemmas.List.Concat.{flat_map-append}
use Rattle.act_rows.specs.Acts.{after_message}
use Rattle.act_rows.specs.Closing.{after_closing_rules}
use Rattle.act_rows.specs.Commands.{after_answer, after_call}
use Rattle.act_rows.specs.Filling.{all_claimed, may_switch, movers_in}
use Rattle.act_rows.specs.NewNodes.{opening_map_of, opening_node}
use Rattle.act_rows.specs.Searches.{after_expire, is_overdue}
use Rattle.act_rows.specs.Steps.{is_installed, is_oldest, is_open, rows_of, session_state_of}
use Rattle.ignite_types.proofs.NameLaws.{same_top_itself}
use Rattle.ignite_types.specs.Affinity.{bare_rows, ideal_rows, opening_rows, rows_of_cache}
use Rattle.ignite_types.specs.declared.journal.TopoEvent.{TopoEvent}
use Rattle.ignite_types.specs.declared.message.Message.{Message}
use Rattle.ignite_types.specs.declared.names.NodeId.{NodeId}
use Rattle.ignite_types.specs.declared.names.TxId.{TxId}
use Rattle.ignite_types.specs.declared.scenario.Cache.{Cache}
use Rattle.ignite_types.specs.declared.placement.PartMap.{PartMap}
use Rattle.ignite_types.specs.declared.placement.Row.{Row}
use Rattle.ignite_types.specs.declared.scenario.Scenario.{Scenario}
use Rattle.journal_statements.specs.Noted.{is_lost, recs_of}
use Rattle.link_laws.proofs.Journals.{first_rest}
use Rattle.map_laws.proofs.MapFrames.{lost_same}
use Rattle.node_state.specs.Node.{NodeState}
use Rattle.node_state.specs.declared.session.SessionState.{SessionState}
use Rattle.owner_laws.proofs.LockActs.{answer_act_both, call_act_both, expire_act_both}
use Rattle.owner_laws.proofs.OwnerScenes.{acts_fit, around, drops_fit, map_of, moves_fit, takes_fit}
use Rattle.owner_laws.specs.OwnerInvariant.{NodeStands, OwnerInvariant, OwnersFit, is_minor, stands_still}
use Rattle.part_model.specs.Directory.{first_top, running_from, with_answer_given}
use Rattle.part_model.specs.NextMap.{is_member, servers}
use Rattle.scenes.specs.Events.{EachEventLeads, IsReady, IsSound, is_cache_switch}
use Rattle.scenes.specs.Scenes.{Scene, one_record, opening_life, opening_scene, scene_after_take, scene_in_act, scene_with_directory, state_at_rest}
use Rattle.transaction_laws.proofs.StarterActs as acts
use Rattle.transaction_laws.proofs.StarterActs.{Held}
use Rattle.transaction_laws.proofs.StarterEvents.{call_room, more_counted, past_of, ready, ready_next, starters_lead, starters_open, taken}
use Rattle.transaction_laws.proofs.StarterNotes.{message_later}
use Rattle.transaction_laws.specs.StarterInvariant.{StarterInvariant}
use Rattle.transaction_laws.specs.StarterNotes.{MessageNamesLost}
use Rattle.topology_laws.specs.TopologyFacts.{HoldsOfEach}
use Rattle.tx_model.specs.World.{is_alive}
use Rattle.ignite_types.specs.declared.journal.Rec.TheVariants as note
use Rattle.ignite_types.specs.declared.journal.TopoEvent.TheVariants as topo
use Rattle.node_state.specs.declared.life.Life.TheVariants as life

-- An event that is no late switch.

not_still : (es : List TopoEvent) (e : TopoEvent) → is_minor e ≡ false → stands_still (es ++ e ∷ []) ≡ false
not_still [] e other = rw other refl
not_still (x ∷ es) e other = by (is_minor x) (not_still es e other)
  where
    by : (c : Bool) → stands_still (es ++ e ∷ []) ≡ false → (c && stands_still (es ++ e ∷ [])) ≡ false
    by true rest = rest
    by false rest = refl

-- after such an event topology stands still no more
pub moves_on : (es : List TopoEvent) (e : TopoEvent) → is_minor e ≡ false → stands_still (es ++ e ∷ []) ≡ true → ⊥
moves_on es e other still = let moved = not_still es e other in cc (moved, still)

pub switch_minor : (e : TopoEvent) → is_cache_switch e ≡ true → is_minor e ≡ false
switch_minor (topo.Start cache) is = refl
switch_minor (topo.Stop cache) is = refl
switch_minor topo.Minor is = absurd (cc (is))
switch_minor (topo.Join m) is = absurd (cc (is))
switch_minor (topo.Left n) is = absurd (cc (is))

-- the opening map has no movers, so that no late switch begins
module _ (s : NodeState) (m : PartMap) (here : s.installed ≡ Some m) (none : movers_in m.rows ≡ []) where
  no_movers : movers_in (rows_of s) ≡ []
  no_movers = ap (λ (o : Option PartMap). movers_in (unwrap_or (option_map (λ (x : PartMap). x.rows) o) [])) here ∙ none

  never_switches : may_switch s ≡ true → ⊥
  never_switches may =
      let all : (is_oldest s && is_installed s s.seen && is_open s s.opened && all_claimed s []) ≡ true =
      subst (λ (ns : List NodeId). (is_oldest s && is_installed s s.seen && is_open s s.opened && all_claimed s ns)
      ≡ true) no_movers may in
      let last = (first_rest (is_oldest s && is_installed s s.seen && is_open s s.opened) (all_claimed s []) all).1 in
      cc (last)

ideal_moves : (servers : List NodeId) (backups part count : ℕ) → movers_in (ideal_rows servers backups part count) ≡ []
ideal_moves servers backups part zero = refl
ideal_moves servers backups part (suc more) = ideal_moves servers backups (part + 1) more

bare_moves : (count : ℕ) → movers_in (bare_rows count) ≡ []
bare_moves zero = refl
bare_moves (suc more) = bare_moves more

movers_parts : (xs ys : List Row) → movers_in (xs ++ ys) ≡ movers_in xs ++ movers_in ys
movers_parts xs ys = flat_map-append (λ (row : Row). row.movers) xs ys

opening_moves : (servers : List NodeId) (running : List ℕ) (number : ℕ) (caches : List Cache) →
    movers_in (opening_rows servers running number caches) ≡ []
opening_moves servers running number [] = refl
opening_moves servers running number (cache ∷ caches) =
    movers_parts (rows_of_cache servers (list_any (λ (r : ℕ). r == number) running) cache)
    (opening_rows servers running (number + 1) caches)
    ∙ ap (λ (ns : List NodeId). ns ++ movers_in (opening_rows servers running (number + 1) caches))
    (by (list_any (λ (r : ℕ). r == number) running))
    ∙ opening_moves servers running (number + 1) caches
  where
    by : (runs : Bool) → movers_in (rows_of_cache servers runs cache) ≡ []
    by true = ideal_moves servers cache.backups 0 cache.parts
    by false = bare_moves cache.parts

map_moves : (s : Scenario) → movers_in (opening_map_of s).rows ≡ []
map_moves s = opening_moves (servers s.nodes) (running_from 0 s.caches) 0 s.caches

-- Each event.

module _ (k : ℕ) (few : k < 2 ^ 62) where
  pub lead : EachEventLeads (StarterInvariant k) (StarterInvariant (suc k))
  lead = starters_lead k few

  pub own_lives : (sc : Scene) (n : NodeId) (s : NodeState) → IsSound sc → IsReady sc n s → is_lost sc.recs n ≡ false
  own_lives sc n s sound r = sound.alive_kept n (ap is_alive r.alive)

  -- what the starters' part knows when an act begins
  pub held : (sc : Scene) (n : NodeId) (s : NodeState) (sound : IsSound sc) (r : IsReady sc n s) → StarterInvariant k sc →
      Held (past_of k sc n) (own_lives sc n s sound r) s
  held sc n s sound r i = ready k sc n s (own_lives sc n s sound r) r i

  answers_lead : (sc : Scene) (n : NodeId) (s : NodeState) (session : ℕ) → IsSound sc → IsReady sc n s → OwnerInvariant k sc →
      (let next = scene_with_directory sc (with_answer_given sc.directory) in stands_still next.directory.events ≡ true →
      OwnersFit (scene_in_act next n (after_answer s session)))
  answers_lead sc n s session sound r i still =
      let f = i.owners still in
      let next = scene_with_directory sc (with_answer_given sc.directory) in
      let h = held sc n s sound r i.starters in
      let me = (acts.answers (past_of k sc n) (own_lives sc n s sound r) s session h).face.me_is in
      acts_fit k next n s (after_answer s session) (ready_next sc next n s refl refl r) me h.starter
      (answer_act_both (recs_of n sc.recs) k (map_of sc) (around sc) s session)
      (record { no_event = f.no_event; locks = f.locks; nodes = f.nodes })

  calls_lead : (sc : Scene) (n : NodeId) (s : NodeState) (session : ℕ) → IsSound sc → IsReady sc n s → OwnerInvariant k sc →
      stands_still sc.directory.events ≡ true → OwnersFit (scene_in_act sc n (after_closing_rules (after_call s session)))
  calls_lead sc n s session sound r i still =
      let more = more_counted k sc i.starters in
      let lives = own_lives sc n s sound r in
      let h = ready (suc k) sc n s lives r more in
      let p = past_of (suc k) sc n in
      let room = λ (d : SessionState) (here : session_state_of s session ≡ Some d).
      call_room k few sc n s r i.starters session d here in
      let me = (acts.closes p lives (after_call s session) (acts.calls p lives s session room h)).face.me_is in
      acts_fit (suc k) sc n s (after_closing_rules (after_call s session)) r me h.starter
      (call_act_both (recs_of n sc.recs) (suc k) (map_of sc) (around sc) s session room) (i.owners still)

  takes_lead : (sc : Scene) (n : NodeId) (s : NodeState) (from : NodeId) (m : Message) → IsSound sc → IsReady sc n s →
      sc.link from n ≡ m ∷ drop 1 (sc.link from n) → OwnerInvariant k sc → stands_still sc.directory.events ≡ true →
      OwnersFit (scene_in_act (scene_after_take sc from n m) n (after_closing_rules (after_message s from m)))
  takes_lead sc n s from m sound r first i still =
      let next = scene_after_take sc from n m in
      let one = one_record (Some n) (note.Deliver from m) in
      let lives : is_lost next.recs n ≡ false = lost_same sc.recs one n (λ x. refl) ∙ own_lives sc n s sound r in
      let p = past_of k next n in
      let named : MessageNamesLost next.recs m =
      message_later sc.recs one m (subst (λ (ms : List Message). HoldsOfEach (MessageNamesLost sc.recs) ms) first
      (i.starters.links from n)).0 in
      let h = ready k next n s lives (ready_next sc next n s refl refl r) (taken k sc from n m i.starters) in
      let me = (acts.closes p lives (after_message s from m) (acts.messages p lives s from m named h)).face.me_is in
      takes_fit k sc n s from m r first me h.starter (i.owners still)

  expires_lead : (sc : Scene) (n : NodeId) (s : NodeState) (tx : TxId) → IsSound sc → IsReady sc n s →
      is_overdue s tx ≡ true → OwnerInvariant k sc → stands_still sc.directory.events ≡ true →
      OwnersFit (scene_in_act sc n (after_closing_rules (after_expire s tx)))
  expires_lead sc n s tx sound r due i still =
      let lives = own_lives sc n s sound r in
      let p = past_of k sc n in
      let h = held sc n s sound r i.starters in
      let me = (acts.closes p lives (after_expire s tx) (acts.expires p lives s tx due h)).face.me_is in
      acts_fit k sc n s (after_closing_rules (after_expire s tx)) r me h.starter
      (expire_act_both (recs_of n sc.recs) k (map_of sc) (around sc) s tx due) (i.owners still)

  -- no event is there to be seen
  pub none_seen : (sc : Scene) (place : ℕ) (e : TopoEvent) → slice_get sc.directory.events place ≡ Some e → OwnersFit sc → ⊥
  none_seen sc place e there f = let none = ap (λ (es : List TopoEvent). slice_get es place) f.no_event in cc (there, none)

  pub no_switch : (sc : Scene) (n : NodeId) (s : NodeState) → IsReady sc n s → may_switch s ≡ true → OwnersFit sc → ⊥
  no_switch sc n s r may f =
      let stands : NodeStands (map_of sc) (state_at_rest s) = subst (NodeStands (map_of sc)) r.state_is (f.nodes n r.alive) in
      never_switches s (map_of sc) stands.installed (map_moves sc.scenario) may

  pub still_before : (es : List TopoEvent) (e : TopoEvent) → stands_still (es ++ e ∷ []) ≡ true → stands_still es ≡ true
  still_before [] e all = refl
  still_before (x ∷ es) e all = let both = first_rest (is_minor x) (stands_still (es ++ e ∷ [])) all in
      rw both.0 (still_before es e both.1)

  pub owners_lead : EachEventLeads (OwnerInvariant k) (OwnerInvariant (suc k))
  owners_lead = record {
    answers = λ sc n s session sound r may i. record {
      starters = lead.answers sc n s session sound r may i.starters;
      owners =
          answers_lead sc n s session sound r i;
    };
    calls = λ sc n s session sound r may i. record {
      starters = lead.calls sc n s session sound r may i.starters;
      owners =
          calls_lead sc n s session sound r i;
    };
    takes = λ sc n s from m sound r first i. record {
      starters = lead.takes sc n s from m sound r first i.starters;
      owners =
          takes_lead sc n s from m sound r first i;
    };
    expires = λ sc n s tx sound r own due i. record {
      starters = lead.expires sc n s tx sound r own due i.starters;
      owners =
          expires_lead sc n s tx sound r due i;
    };
    sees = λ sc n s e sound r there i. record {
      starters = lead.sees sc n s e sound r there i.starters;
      owners =
          λ still. absurd (none_seen sc s.read e there (i.owners still));
    };
    switches = λ sc n s sound r may same i. record {
      starters = lead.switches sc n s sound r may same i.starters;
      owners =
          λ still. absurd (no_switch sc n s r may (i.owners (still_before sc.directory.events topo.Minor still)));
    };
    moves = λ sc n s out sound r first i. record {
      starters = lead.moves sc n s out sound r first i.starters;
      owners =
          λ still. moves_fit sc n s out r first (i.owners still);
    };
    drops = λ sc n s out sound r first away i. record {
      starters = lead.drops sc n s out sound r first away i.starters;
      owners = λ still. drops_fit sc n s out r first (i.owners still);
    };
    joins = λ sc m s sound absent new is i. record {
      starters = lead.joins sc m s sound absent new is i.starters;
      owners =
          λ still. absurd (moves_on sc.directory.events (topo.Join m) refl still);
    };
    loses = λ sc n sound lives i. record {
      starters = lead.loses sc n sound lives i.starters;
      owners =
          λ still. absurd (moves_on sc.directory.events (topo.Left n) refl still);
    };
    plans = λ sc refused sound i. record {
      starters = lead.plans sc refused sound i.starters;
      owners = λ still. let f =
          i.owners still in record { no_event = f.no_event; locks = f.locks; nodes = f.nodes };
    };
    starts = λ sc e sound is i. record {
      starters = lead.starts sc e sound is i.starters;
      owners =
          λ still. absurd (moves_on sc.directory.events e (switch_minor e is) still);
    };
    ticks = λ sc to sound i. record {
      starters = lead.ticks sc to sound i.starters;
      owners = λ still. let f =
          i.owners still in record {
            no_event = f.no_event;
            locks = f.locks;
            nodes = λ n alive. let stands = f.nodes n alive in
                record { up = stands.up; installed = stands.installed; seen = stands.seen; shares_up = stands.shares_up };
          };
    };
    breaks = λ sc n sound i. record {
      starters = lead.breaks sc n sound i.starters;
      owners = λ still. let f =
          i.owners still in record { no_event = f.no_event; locks = f.locks; nodes = f.nodes };
    };
  }

-- The opening: there is no transaction, no place and no message.

pub owners_open : (s : Scenario) → OwnerInvariant 0 (opening_scene s)
owners_open s = record {
  starters = starters_open s;
  owners = λ still. record {
    no_event = refl;
    locks = record {
      facts = λ a b y there. absurd there;
      apart = λ a b. tt;
      places = λ n k t there. absurd there;
      shares = λ n t. tt;
      keys = λ t e there. absurd (cc (there));
    };
    nodes = λ n alive. stands n (is_member s.nodes n) alive;
  };
}
  where
    stands : (n : NodeId) (initial : Bool) → opening_life initial ≡ life.Alive →
        NodeStands (opening_map_of s) (opening_node s (opening_map_of s) n initial)
    stands n true alive = record { up = tt; installed = refl; seen = same_top_itself first_top; shares_up = tt }
    stands n false alive = absurd (cc (alive))
