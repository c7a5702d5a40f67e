-- The rows that install a map or bring a Single.
use Rattle.std.proofs.Common.{◌≡◌, ◌⊎◌, inl, inr, ◌++◌, ◌&&◌, List, [], ◌∷◌, Option, Some, None, Bool, true, false, if◌then◌else◌, not, filter, ℕ, refl, ap, sym, subst, ◌∙◌, arith}
use Rattle.std.specs.List.{flat_map}
use Rattle.std.proofs.lemmas.Bool.Decides.{nat_tests}
use Rattle.std.proofs.lemmas.List.Elements.{filter-append}
use Rattle.frame_laws.proofs.Extending.{append_none}
use Rattle.act_rows.specs.Exchange.{after_compute, after_compute_if_all, after_full, after_install, all_sent, is_newer_map, may_compute, next_map_seen, others_seen, singles_under, without_singles}
use Rattle.act_rows.specs.Steps.{is_installed, is_oldest, outs_to, with_out, with_outs}
use Rattle.part_model.specs.Directory.{first_top, oldest_member}
use Rattle.part_model.specs.NextMap.{newest_map_from, next_map}
use Rattle.ignite_types.proofs.NameLaws.{same_node_itself, same_node_true}
use Rattle.ignite_types.specs.Names.{same_node, same_top}
use Rattle.ignite_types.specs.declared.journal.Rec.{Rec}
use Rattle.ignite_types.specs.declared.message.Message.{Message}
use Rattle.ignite_types.specs.declared.message.Single.{Single}
use Rattle.ignite_types.specs.declared.names.NodeId.{NodeId}
use Rattle.ignite_types.specs.declared.names.TopVer.{TopVer}
use Rattle.ignite_types.specs.declared.placement.PartMap.{PartMap}
use Rattle.journal_statements.specs.Maps.{single_in, singles_at}
use Rattle.journal_statements.specs.Noted.{Noted, is_lost, map_in, map_of_version, maps_installed, noted_by, recs_of}
use Rattle.journal_statements.specs.Topologies.{Topology}
use Rattle.link_laws.proofs.Journals.{first_rest}
use Rattle.map_laws.proofs.LeavesMaps.{aside, andthen, counts_leaves}
use Rattle.map_laws.proofs.MapFrames.{filter_same, lost_same, node_other, noted_parts, of_parts}
use Rattle.map_laws.proofs.MapSteps.{act_nodes, each_to, installs_maps, leaves_good, other_maps, own_maps, still_above}
use Rattle.map_laws.specs.MapFacts.{topology_after_events, HasNoneAbove, IsAbove, IsComputedMap, NodeMaps, maps_by, singles_of_version}
use Rattle.map_laws.specs.MapInvariant.{MapInvariant, MapsHoldInAct}
use Rattle.node_state.specs.declared.life.Life.{Life}
use Rattle.ignite_types.specs.declared.scenario.Cache.{Cache}
use Rattle.node_state.specs.Node.{NodeState}
use Rattle.scenes.specs.Events.{IsReady}
use Rattle.scenes.specs.Scenes.{Scene, one_record, scene_after_take, scene_in_act}
use Rattle.topology_laws.proofs.Bases.{base_is_best_of_all}
use Rattle.topology_laws.proofs.Rows.{node_shown}
use Rattle.topology_laws.proofs.Steps.{own_fits}
use Rattle.topology_laws.proofs.Tops.{lower_below, up_below, up_twice}
use Rattle.topology_laws.specs.TopologyFacts.{HasAtLeast, HoldsOfEach, IsBelow, IsNoHigherMap, IsUpTo, MapFits}
use Rattle.topology_laws.specs.TopologyInvariant.{HoldsInTopologyAct}
use Rattle.topology_laws.specs.TopologyScenes.{TopologyState, topology_in_act, topology_scene, topology_state}
use Rattle.ignite_types.specs.declared.journal.Rec.TheVariants as note
use Rattle.ignite_types.specs.declared.message.Message.TheVariants as msg
use Rattle.node_state.specs.declared.life.Life.TheVariants as life

-- Versions.

not_true : (b : Bool) → not b ≡ true → b ≡ false
not_true true e = absurd (cc (e))
not_true false e = refl

apart_below : (a b : TopVer) → IsUpTo a b → same_top a b ≡ false → IsBelow a b
apart_below a b (inl less) other = inl less
apart_below a b (inr up) other = inr (up.0, grind (arith, nat_tests, up.0, up.1, other))

above_newer : (v : TopVer) (o : Option PartMap) → IsAbove v o → (top : TopVer) → HasAtLeast top o → IsBelow top v
above_newer v None above top has = absurd has
above_newer v (Some m) above top has = up_below top m.top v has above

up_to_base : (o base : Option PartMap) → IsNoHigherMap o base → (top : TopVer) → HasAtLeast top o → HasAtLeast top base
up_to_base None base low top has = absurd has
up_to_base (Some m) None low top has = absurd low
up_to_base (Some m) (Some b) low top has = up_twice top m.top b.top has low

-- Full.

newer_below : (m : PartMap) (o : Option PartMap) → is_newer_map m o ≡ true → (top : TopVer) → HasAtLeast top o →
    IsBelow top m.top
newer_below m None newer top has = absurd has
newer_below m (Some there) newer top has = up_below top there.top m.top has (lower_below there.top m.top newer)

pub full_row_maps : (sc : Scene) (n : NodeId) (s : NodeState) (from : NodeId) (m : PartMap) →
    is_lost (scene_in_act sc n s).recs n ≡ false →
    map_of_version (maps_installed sc.scenario (scene_in_act sc n s).recs) m.top ≡ Some m
    → MapsHoldInAct sc n s → MapsHoldInAct sc n (after_full s from m)
full_row_maps sc n s from m lives known i = by (is_newer_map m s.installed) refl
  where
    by : (c : Bool) → is_newer_map m s.installed ≡ c →
        MapsHoldInAct sc n (if c then with_out (after_install s m) from (msg.Installed m.top) else s)
    by true newer =
        leaves_good sc n (after_install s m) (with_out (after_install s m) from (msg.Installed m.top))
        (aside (after_install s m) (with_out (after_install s m) from (msg.Installed m.top)) refl refl refl refl)
        (installs_maps sc n s (after_install s m) m lives refl refl refl (λ v above. refl) (newer_below m s.installed newer)
        (inl (record { is_map = known })) i)
    by false old = i

-- The coordinator computes the next map.

-- one that is not lost is alive, or has no map
abbrev pub AliveOrMapless : Scene → Type 0
AliveOrMapless sc = (x : NodeId) → is_lost sc.recs x ≡ false → (sc.life x ≡ life.Alive) ⊎ ((sc.state x).installed ≡ None)

module _ (sc : Scene) (n : NodeId) (s : NodeState) (good : HoldsInTopologyAct (topology_scene sc) n s)
    (may : may_compute s ≡ true) (known : AliveOrMapless sc) (none_lost : (x : NodeId) →
    is_lost (noted_by (Some n) s.noted) x ≡ false) (lives : is_lost (scene_in_act sc n s).recs n ≡ false)
    (i : MapsHoldInAct sc n s) where
  abbrev pub recs : List Noted
  recs = (scene_in_act sc n s).recs

  abbrev pub m : PartMap
  m = next_map_seen s

  parts : ((is_oldest s && not (is_installed s s.seen)) ≡ true) × (all_sent s.members (singles_under s s.seen) ≡ true)
  parts = first_rest (is_oldest s && not (is_installed s s.seen)) (all_sent s.members (singles_under s s.seen)) may

  pub above : IsAbove s.seen s.installed
  above = by s.installed (own_fits (topology_scene sc) n s good).map_fits
      (not_true (is_installed s s.seen) (first_rest (is_oldest s) (not (is_installed s s.seen)) parts.0).1)
    where
      by : (o : Option PartMap) → MapFits (topology_in_act (topology_scene sc) n s) (topology_state s).known o →
          is_installed (record s { installed = o }) s.seen ≡ false → IsAbove s.seen o
      by None fits none = tt
      by (Some x) fits none = apart_below x.top s.seen fits.1 none

  pub brought : singles_under s s.seen ≡ singles_at recs n s.seen
  brought = (own_maps sc n s i lives).singles_are s.seen above

  -- the last version seen
  abbrev pub seen : Topology
  seen = (topology_state s).known

  abbrev pub seen_at : Topology
  seen_at = topology_after_events sc.scenario sc.directory.events s.read

  pub known_is : seen ≡ seen_at
  known_is = (own_fits (topology_scene sc) n s good).known_is

  caches_are : s.caches ≡ sc.scenario.caches
  caches_are = (own_maps sc n s i lives).caches_are

  not_lost_before : (x : NodeId) → is_lost recs x ≡ false → is_lost sc.recs x ≡ false
  not_lost_before x l = sym (lost_same sc.recs (noted_by (Some n) s.noted) x none_lost) ∙ l

  abbrev pub base : Option PartMap
  base = newest_map_from None (singles_under s s.seen)

  pub none_above : (x : NodeId) → is_lost recs x ≡ false → HasNoneAbove sc.scenario recs base x
  none_above x l = by (same_node n x) refl
    where
      best : (f : TopologyState) → (topology_in_act (topology_scene sc) n s).seat x
          ≡ Some (record { life = life.Alive; state = f }) → IsNoHigherMap f.installed base
      best f at = base_is_best_of_all (topology_scene sc) n s good may x f at

      none_by : (caches : List Cache) (o : Option PartMap) (singles : List Single) →
          NodeMaps sc.scenario recs x caches o singles → IsNoHigherMap o base → HasNoneAbove sc.scenario recs base x
      none_by caches o singles k low = record {
        of_each = each_to (λ (y : PartMap). HasAtLeast y.top o) (λ (y : PartMap). HasAtLeast y.top base) (maps_by x recs)
            (λ y has. up_to_base o base low y.top has) k.has_last;
        of_first = λ is. up_to_base o base low first_top (k.has_first is);
      }

      other_low : same_node n x ≡ false → (sc.life x ≡ life.Alive) ⊎ ((sc.state x).installed ≡ None) →
          IsNoHigherMap (sc.state x).installed base
      other_low other (inl alive) =
          best (topology_state (sc.state x))
          (rw other (ap (λ (at : Life). Some (record { life = at; state = topology_state (sc.state x) })) alive))
      other_low other (inr none) = subst (λ (o : Option PartMap). IsNoHigherMap o base) (sym none) tt

      by : (c : Bool) → same_node n x ≡ c → HasNoneAbove sc.scenario recs base x
      by true same =
          let me = same_node_true n x same in
          let mine : NodeMaps sc.scenario recs x s.caches s.installed s.singles =
          subst (λ (y : NodeId). NodeMaps sc.scenario recs y s.caches s.installed s.singles) me (own_maps sc n s i lives) in
          none_by s.caches s.installed s.singles mine (best (topology_state s) (rw same refl))
      by false other =
          none_by (sc.state x).caches (sc.state x).installed (sc.state x).singles (other_maps sc n s i x other l)
          (other_low other (known x (not_lost_before x l)))

  pub computed : IsComputedMap sc.scenario sc.directory.events recs m
  computed = record {
    place = s.read;
    within = (own_fits (topology_scene sc) n s good).within;
    is_top = sym (ap (λ (t : Topology). t.top) known_is);
    by = n;
    is_oldest = sym (ap (λ (t : Topology). oldest_member t.members) known_is)
        ∙ node_shown n s.me (oldest_member s.members) (own_fits (topology_scene sc) n s good).me_is
        (first_rest (is_oldest s) (not (is_installed s s.seen)) parts.0).0;
    sent = sym (ap (λ (t : Topology). all_sent t.members (singles_at recs n s.seen)) known_is)
        ∙ ap (all_sent s.members) (sym brought) ∙ parts.1;
    is_next =
        ap (λ (t : Topology). next_map s.seen t.members s.caches t.running (singles_under s s.seen)) known_is
        ∙ ap (λ cs. next_map s.seen seen_at.members cs seen_at.running (singles_under s s.seen)) caches_are
        ∙ ap (next_map s.seen seen_at.members sc.scenario.caches seen_at.running) brought;
    has_highest = λ x l. subst (λ (xs : List Single). HasNoneAbove sc.scenario recs (newest_map_from None xs) x) brought
        (none_above x l);
  }

  pub computes_maps : MapsHoldInAct sc n (after_compute s m)
  computes_maps =
      let there : NodeState = after_install (without_singles s m.top) m in
      let told : NodeState = with_outs there (outs_to (others_seen s) (msg.Full m)) in
      let first = installs_maps sc n s there m lives refl refl refl (λ v over. still_above m.top v s.singles over)
      (above_newer s.seen s.installed above) (inr computed) i in
      leaves_good sc n there (after_compute s m)
      (andthen there told (after_compute s m) (aside there told refl refl refl refl)
      (counts_leaves told (record { top = m.top; installed = s.me ∷ [] })))
      first

pub computes_if_all_maps : (sc : Scene) (n : NodeId) (s : NodeState) → HoldsInTopologyAct (topology_scene sc) n s →
    AliveOrMapless sc → ((x : NodeId) → is_lost (noted_by (Some n) s.noted) x ≡ false) →
    is_lost (scene_in_act sc n s).recs n ≡ false
    → MapsHoldInAct sc n s → MapsHoldInAct sc n (after_compute_if_all s)
computes_if_all_maps sc n s good known none_lost lives i = by (may_compute s) refl
  where
    by : (c : Bool) → may_compute s ≡ c → MapsHoldInAct sc n (if c then after_compute s (next_map_seen s) else s)
    by true may = computes_maps sc n s good may known none_lost lives i
    by false not_yet = i

-- A Single is brought: it is kept behind the others.
module _ (sc : Scene) (n : NodeId) (s : NodeState) (from : NodeId) (top : TopVer) (o : Option PartMap) (complete : List ℕ)
    (r : IsReady sc n s) (sender_lives : is_lost sc.recs from ≡ false) (inv : MapInvariant sc) where
  abbrev brings : Message
  brings = msg.Single top o complete

  abbrev kept : Single
  kept = record { from = from; top = top; map = o; complete = complete }

  abbrev pub with_single : NodeState
  with_single = record s { singles = s.singles ++ kept ∷ [] }

  abbrev after : List Noted
  after = sc.recs ++ one_record (Some n) (note.Deliver from brings)

  brought_now : (v : TopVer) → flat_map (single_in v) (recs_of n (one_record (Some n) (note.Deliver from brings)))
      ≡ (if same_top top v then kept ∷ [] else [])
  brought_now v = ap (λ (c : Bool). flat_map (single_in v) ((if c then note.Deliver from brings ∷ [] else []) ++ []))
      (same_node_itself n) ∙ append_none (if same_top top v then kept ∷ [] else [])

  stays_lost : (x : NodeId) → is_lost after x ≡ is_lost sc.recs x
  stays_lost x = lost_same sc.recs (one_record (Some n) (note.Deliver from brings)) x (λ y. refl)

  one_more : (v : TopVer) → singles_at after n v ≡ singles_at sc.recs n v ++ (if same_top top v then kept ∷ [] else [])
  one_more v =
      let test = λ (x : Single). not (is_lost sc.recs x.from) in
      ap (filter (λ (x : Single). not (is_lost after x.from)))
      (of_parts (single_in v) n sc.recs (one_record (Some n) (note.Deliver from brings))
      ∙ ap (λ xs. flat_map (single_in v) (recs_of n sc.recs) ++ xs) (brought_now v))
      ∙ filter_same (λ (x : Single). not (is_lost after x.from)) test (flat_map (single_in v) (recs_of n sc.recs)
      ++ (if same_top top v then kept ∷ [] else [])) (λ x. ap not (stays_lost x.from))
      ∙ filter-append test (flat_map (single_in v) (recs_of n sc.recs)) (if same_top top v then kept ∷ [] else [])
      ∙ ap (λ xs. singles_at sc.recs n v ++ xs) (by (same_top top v))
    where
      by : (c : Bool) → filter (λ (x : Single). not (is_lost sc.recs x.from)) (if c then kept ∷ [] else [])
          ≡ (if c then kept ∷ [] else [])
      by true = ap (λ (c : Bool). if not c then kept ∷ [] else []) sender_lives
      by false = refl

  kept_more : (v : TopVer) → singles_of_version v (s.singles ++ kept ∷ []) ≡ singles_of_version v s.singles
      ++ (if same_top top v then kept ∷ [] else [])
  kept_more v = filter-append (λ (x : Single). same_top x.top v) s.singles (kept ∷ [])

  same_maps : maps_by n after ≡ maps_by n sc.recs
  same_maps = of_parts map_in n sc.recs (one_record (Some n) (note.Deliver from brings))
      ∙ ap (λ (c : Bool). maps_by n sc.recs ++ flat_map map_in ((if c then note.Deliver from brings ∷ [] else []) ++ []))
      (same_node_itself n) ∙ append_none (maps_by n sc.recs)

  own_before : is_lost sc.recs n ≡ false → NodeMaps sc.scenario sc.recs n s.caches s.installed s.singles
  own_before l = subst (λ (x : NodeState). NodeMaps sc.scenario sc.recs n x.caches x.installed x.singles) r.state_is
      (inv.nodes n l)

  own_now : is_lost sc.recs n ≡ false → NodeMaps sc.scenario after n s.caches s.installed (s.singles ++ kept ∷ [])
  own_now l =
      let before = own_before l in
      record {
        caches_are = before.caches_are;
        singles_are = λ v above. kept_more v ∙ ap (λ xs. xs ++ (if same_top top v then kept ∷ [] else []))
            (before.singles_are v above) ∙ sym (one_more v);
        has_last = subst (λ (ms : List PartMap). HoldsOfEach (λ (x : PartMap). HasAtLeast x.top s.installed) ms)
            (sym same_maps) before.has_last;
        has_first = before.has_first;
      }

  pub single_maps : MapsHoldInAct (scene_after_take sc from n brings) n with_single
  single_maps =
      let same : after ++ noted_by (Some n) s.noted ≡ after =
      ap (λ (rs : List Rec). after ++ noted_by (Some n) rs) r.none_noted ∙ append_none after in
      let next : Scene = scene_after_take sc from n brings in
      let here : MapInvariant (record (scene_in_act next n with_single) { recs = after }) = record {
        nodes = act_nodes next n with_single after (λ l. own_now (sym (stays_lost n) ∙ l))
            (λ k other l. node_other sc.scenario sc.recs n (note.Deliver from brings ∷ []) k other (λ x. refl)
            (sc.state k).caches (sc.state k).installed (sc.state k).singles (inv.nodes k (sym (stays_lost k) ∙ l)));
        maps = noted_parts sc.scenario sc.directory.events [] sc.recs (one_record (Some n) (note.Deliver from brings))
            inv.maps (tt, tt);
      } in
      subst (λ (rs : List Noted). MapInvariant (record (scene_in_act next n with_single) { recs = rs })) (sym same) here
