-- The steps of a node that acts, each of which keeps what is known of maps.
use Rattle.std.proofs.Common.{◌≡◌, ◌⊎◌, ◌++◌, List, [], ◌∷◌, Option, Some, None, Bool, true, false, if◌then◌else◌, not, filter, refl, ap, sym, subst, ◌∙◌}
use Rattle.std.specs.List.{flat_map}
use Rattle.frame_laws.proofs.Extending.{append_none, append_twice}
use Rattle.part_model.specs.Directory.{first_top}
use Rattle.part_model.specs.Orders.{is_lower_top}
use Rattle.ignite_types.proofs.NameLaws.{same_top_true}
use Rattle.ignite_types.proofs.NameLaws.{same_node_itself, same_node_true}
use Rattle.ignite_types.specs.Names.{same_node, same_top}
use Rattle.ignite_types.specs.declared.journal.Rec.{Rec}
use Rattle.ignite_types.specs.declared.message.Single.{Single}
use Rattle.ignite_types.specs.declared.names.NodeId.{NodeId}
use Rattle.ignite_types.specs.declared.names.TopVer.{TopVer}
use Rattle.ignite_types.specs.declared.placement.PartMap.{PartMap}
use Rattle.journal_statements.specs.Maps.{single_in, singles_at}
use Rattle.journal_statements.specs.Noted.{Noted, is_lost, map_in, noted_by, recs_of}
use Rattle.map_laws.proofs.MapFrames.{filter_same, lost_same, node_other, node_silent, none_lost, noted_parts, noted_silent, of_parts, silent_by}
use Rattle.map_laws.specs.LeavesMaps.{LeavesMaps}
use Rattle.map_laws.specs.MapFacts.{IsAbove, IsAboveEarlier, IsComputedMap, IsKnownMap, NodeMaps, NotedMapsFit, maps_by, singles_of_version}
use Rattle.map_laws.specs.MapInvariant.{MapInvariant, MapsHoldInAct}
use Rattle.node_state.specs.Node.{NodeState}
use Rattle.scenes.specs.Scenes.{Scene, either_state, scene_in_act, state_at_rest, states_with}
use Rattle.topology_laws.proofs.Steps.{map_parts}
use Rattle.topology_laws.proofs.Tops.{below_lower, below_up, up_below, up_itself}
use Rattle.topology_laws.specs.TopologyFacts.{HasAtLeast, HoldsOfEach, IsBelow}
use Rattle.ignite_types.specs.declared.journal.Rec.TheVariants as note

-- what is known of each node, by that of the acting one and that of the others
pub act_nodes : (sc : Scene) (n : NodeId) (s : NodeState) (recs : List Noted) →
    (is_lost recs n ≡ false → NodeMaps sc.scenario recs n s.caches s.installed s.singles)
    → ((k : NodeId) → same_node n k ≡ false → is_lost recs k ≡ false → NodeMaps sc.scenario recs k (sc.state k).caches
    (sc.state k).installed (sc.state k).singles)
    → (k : NodeId) → is_lost recs k ≡ false → NodeMaps sc.scenario recs k (states_with n (state_at_rest s) sc.state k).caches
    (states_with n (state_at_rest s) sc.state k).installed (states_with n (state_at_rest s) sc.state k).singles
act_nodes sc n s recs own others k lives = by (same_node n k) refl
  where
    by : (c : Bool) → same_node n k ≡ c → let st : NodeState = either_state c (state_at_rest s) (sc.state k) in
        NodeMaps sc.scenario recs k st.caches st.installed st.singles
    by true same =
        let me = same_node_true n k same in
        subst (λ (x : NodeId). NodeMaps sc.scenario recs x s.caches s.installed s.singles) me
        (own (ap (λ (x : NodeId). is_lost recs x) me ∙ lives))
    by false other = others k other lives

pub own_maps : (sc : Scene) (n : NodeId) (s : NodeState) → MapsHoldInAct sc n s →
    is_lost (scene_in_act sc n s).recs n ≡ false →
    NodeMaps sc.scenario (scene_in_act sc n s).recs n s.caches s.installed s.singles
own_maps sc n s i lives =
    subst (λ (c : Bool). let st : NodeState = either_state c (state_at_rest s) (sc.state n) in
    NodeMaps sc.scenario (scene_in_act sc n s).recs n st.caches st.installed st.singles) (same_node_itself n)
    (i.nodes n lives)

pub other_maps : (sc : Scene) (n : NodeId) (s : NodeState) → MapsHoldInAct sc n s → (k : NodeId) → same_node n k ≡ false →
    is_lost (scene_in_act sc n s).recs k ≡ false
    → NodeMaps sc.scenario (scene_in_act sc n s).recs k (sc.state k).caches (sc.state k).installed (sc.state k).singles
other_maps sc n s i k other lives =
    subst (λ (c : Bool). let st : NodeState = either_state c (state_at_rest s) (sc.state k) in
    NodeMaps sc.scenario (scene_in_act sc n s).recs k st.caches st.installed st.singles) other (i.nodes k lives)

-- An act begins: nothing is noted yet.
pub begins_maps : (sc : Scene) (n : NodeId) (s : NodeState) → s.noted ≡ [] → s.caches ≡ (sc.state n).caches →
    s.installed ≡ (sc.state n).installed → s.singles ≡ (sc.state n).singles → MapInvariant sc → MapsHoldInAct sc n s
begins_maps sc n s none caches map_is singles i =
    let same : (scene_in_act sc n s).recs ≡ sc.recs = ap (λ (rs : List Rec). sc.recs ++ noted_by (Some n) rs) none
    ∙ append_none sc.recs in
    let here : MapInvariant (record (scene_in_act sc n s) { recs = sc.recs }) = record {
      nodes = act_nodes sc n s sc.recs
          (λ lives. subst (λ c. NodeMaps sc.scenario sc.recs n c s.installed s.singles) (sym caches)
          (subst (λ (m : Option PartMap). NodeMaps sc.scenario sc.recs n (sc.state n).caches m s.singles) (sym map_is)
          (subst (λ (xs : List Single). NodeMaps sc.scenario sc.recs n (sc.state n).caches (sc.state n).installed xs)
          (sym singles) (i.nodes n lives))))
          (λ k other lives. i.nodes k lives);
      maps = i.maps;
    } in
    subst (λ (rs : List Noted). MapInvariant (record (scene_in_act sc n s) { recs = rs })) (sym same) here

module _ (sc : Scene) (n : NodeId) (a b : NodeState) (more : List Rec) (noted : b.noted ≡ a.noted ++ more) where
  pub recs_grow : (scene_in_act sc n b).recs ≡ (scene_in_act sc n a).recs ++ noted_by (Some n) more
  recs_grow =
      ap (λ (rs : List Rec). sc.recs ++ noted_by (Some n) rs) noted
      ∙ ap (λ (ns : List Noted). sc.recs ++ ns) (map_parts (λ (r : Rec). record { node = Some n; rec = r }) a.noted more)
      ∙ sym (append_twice sc.recs (noted_by (Some n) a.noted) (noted_by (Some n) more))

  -- the assembly: the acting node has noted more
  step_maps : ((x : NodeId) → is_lost (noted_by (Some n) more) x ≡ false) → MapsHoldInAct sc n a
      → (is_lost (scene_in_act sc n a).recs n ≡ false →
      NodeMaps sc.scenario ((scene_in_act sc n a).recs ++ noted_by (Some n) more) n b.caches b.installed b.singles)
      → NotedMapsFit sc.scenario sc.directory.events (scene_in_act sc n a).recs (noted_by (Some n) more) → MapsHoldInAct sc n b
  step_maps no_loss i own fit =
      let recs = (scene_in_act sc n a).recs in
      let ms = noted_by (Some n) more in
      let lives_before : (k : NodeId) → is_lost (recs ++ ms) k ≡ false → is_lost recs k ≡ false =
      λ k lives. sym (lost_same recs ms k no_loss) ∙ lives in
      let here : MapInvariant (record (scene_in_act sc n b) { recs = recs ++ ms }) = record {
        nodes = act_nodes sc n b (recs ++ ms) (λ lives. own (lives_before n lives))
            (λ k other lives. node_other sc.scenario recs n more k other no_loss (sc.state k).caches (sc.state k).installed
            (sc.state k).singles (other_maps sc n a i k other (lives_before k lives)));
        maps = noted_parts sc.scenario sc.directory.events [] recs ms i.maps fit;
      } in
      subst (λ (rs : List Noted). MapInvariant (record (scene_in_act sc n b) { recs = rs })) (sym recs_grow) here

-- A row that leaves maps alone.
pub leaves_good : (sc : Scene) (n : NodeId) (a b : NodeState) → LeavesMaps a b → MapsHoldInAct sc n a → MapsHoldInAct sc n b
leaves_good sc n a b l i =
    let recs = (scene_in_act sc n a).recs in
    let ms = noted_by (Some n) l.more in
    let silent = silent_by (Some n) l.more l.silent in
    step_maps sc n a b l.more l.noted_is (λ x. none_lost ms x silent) i
    (λ lives. node_silent sc.scenario recs ms n silent b.caches b.installed b.singles
    (subst (λ c. NodeMaps sc.scenario recs n c b.installed b.singles) (sym l.same_caches)
    (subst (λ (m : Option PartMap). NodeMaps sc.scenario recs n a.caches m b.singles) (sym l.same_map)
    (subst (λ (xs : List Single). NodeMaps sc.scenario recs n a.caches a.installed xs) (sym l.same_singles)
    (own_maps sc n a i lives)))))
    (noted_silent sc.scenario sc.directory.events recs ms silent)

-- A map is installed.

pub each_push : {A : Type 0} (P : A → Type 0) (xs : List A) (x : A) → HoldsOfEach P xs → P x → HoldsOfEach P (xs ++ x ∷ [])
each_push P [] x all one = (one, tt)
each_push P (y ∷ ys) x all one = (all.0, each_push P ys x all.1 one)

pub each_to : {A : Type 0} (P Q : A → Type 0) (xs : List A) → ((x : A) → P x → Q x) → HoldsOfEach P xs → HoldsOfEach Q xs
each_to P Q [] goes all = tt
each_to P Q (x ∷ xs) goes all = (goes x all.0, each_to P Q xs goes all.1)

-- Singles above a version are kept where those up to it are of no more use
pub still_above : (top v : TopVer) (xs : List Single) → IsBelow top v →
    singles_of_version v (filter (λ (x : Single). is_lower_top top x.top) xs) ≡ singles_of_version v xs
still_above top v [] above = refl
still_above top v (x ∷ xs) above = by (still_above top v xs above) (is_lower_top top x.top) refl (same_top x.top v) refl
  where
    by : singles_of_version v (filter (λ (y : Single). is_lower_top top y.top) xs) ≡ singles_of_version v xs → (c : Bool) →
        is_lower_top top x.top ≡ c → (d : Bool) → same_top x.top v ≡ d
        → singles_of_version v (if c then x ∷ filter (λ (y : Single). is_lower_top top y.top) xs else filter
        (λ (y : Single). is_lower_top top y.top) xs) ≡ (if d then x ∷ singles_of_version v xs else singles_of_version v xs)
    by rest true low true same = rw same (ap (λ ys. x ∷ ys) rest)
    by rest true low false other = rw other rest
    by rest false high true same =
        let here : is_lower_top top v ≡ false = subst (λ (t : TopVer). is_lower_top top t ≡ false)
        (same_top_true x.top v same) high in
        let low = below_lower top v above in
        absurd (cc (here, low))
    by rest false high false other = rest

-- who was not up to a version below is not up to one above
still_higher : (v : TopVer) (m : PartMap) (o : Option PartMap) → ((top : TopVer) → HasAtLeast top o → IsBelow top m.top) →
    IsBelow m.top v → IsAbove v o
still_higher v m None newer above = tt
still_higher v m (Some x) newer above = up_below x.top m.top v (below_up x.top m.top (newer x.top (up_itself x.top))) above

maps_now : (n : NodeId) (recs : List Noted) (m : PartMap) → maps_by n (recs ++ noted_by (Some n) (note.Install m ∷ []))
    ≡ maps_by n recs ++ m ∷ []
maps_now n recs m = of_parts map_in n recs (noted_by (Some n) (note.Install m ∷ []))
    ∙ ap (λ (c : Bool). maps_by n recs ++ flat_map map_in ((if c then note.Install m ∷ [] else []) ++ [])) (same_node_itself n)

singles_now : (n : NodeId) (recs : List Noted) (m : PartMap) (v : TopVer) →
    singles_at (recs ++ noted_by (Some n) (note.Install m ∷ [])) n v ≡ singles_at recs n v
singles_now n recs m v =
    ap (filter (λ (x : Single). not (is_lost (recs ++ noted_by (Some n) (note.Install m ∷ [])) x.from)))
    (of_parts (single_in v) n recs (noted_by (Some n) (note.Install m ∷ []))
    ∙ ap (λ (c : Bool). flat_map (single_in v) (recs_of n recs) ++ flat_map (single_in v)
    ((if c then note.Install m ∷ [] else []) ++ [])) (same_node_itself n)
    ∙ append_none (flat_map (single_in v) (recs_of n recs)))
    ∙ filter_same (λ (x : Single). not (is_lost (recs ++ noted_by (Some n) (note.Install m ∷ [])) x.from))
    (λ (x : Single). not (is_lost recs x.from)) (flat_map (single_in v) (recs_of n recs))
    (λ x. ap not (lost_same recs (noted_by (Some n) (note.Install m ∷ [])) x.from (λ y. refl)))

-- the acting node has noted a map, and has it now; it keeps its Singles, or those above the map
pub installs_maps : (sc : Scene) (n : NodeId) (a b : NodeState) (m : PartMap) → is_lost (scene_in_act sc n a).recs n ≡ false →
    b.noted ≡ a.noted ++ note.Install m ∷ [] → b.caches ≡ a.caches → b.installed ≡ Some m
    → ((v : TopVer) → IsBelow m.top v → singles_of_version v b.singles ≡ singles_of_version v a.singles)
    → ((top : TopVer) → HasAtLeast top a.installed → IsBelow top m.top)
    → IsKnownMap sc.scenario (scene_in_act sc n a).recs m ⊎ IsComputedMap sc.scenario sc.directory.events
    (scene_in_act sc n a).recs m
    → MapsHoldInAct sc n a → MapsHoldInAct sc n b
installs_maps sc n a b m lives noted caches map_is singles newer may i =
    let recs = (scene_in_act sc n a).recs in
    let own = own_maps sc n a i lives in
    let up : (top : TopVer) → HasAtLeast top a.installed → HasAtLeast top b.installed =
    λ top has. subst (λ (o : Option PartMap). HasAtLeast top o) (sym map_is) (below_up top m.top (newer top has)) in
    step_maps sc n a b (note.Install m ∷ []) noted (λ x. refl) i
    (λ l. record {
      caches_are = caches ∙ own.caches_are;
      singles_are = λ v above.
          let over : IsBelow m.top v = subst (λ (o : Option PartMap). IsAbove v o) map_is above in
          singles v over ∙ own.singles_are v (still_higher v m a.installed newer over) ∙ sym (singles_now n recs m v);
      has_last = subst (λ (ms : List PartMap). HoldsOfEach (λ (x : PartMap). HasAtLeast x.top b.installed) ms)
          (sym (maps_now n recs m))
          (each_push (λ (x : PartMap). HasAtLeast x.top b.installed) (maps_by n recs) m
          (each_to (λ (x : PartMap). HasAtLeast x.top a.installed) (λ (x : PartMap). HasAtLeast x.top b.installed)
          (maps_by n recs) (λ x has. up x.top has) own.has_last)
          (subst (λ (o : Option PartMap). HasAtLeast m.top o) (sym map_is) (up_itself m.top)));
      has_first = λ is. up first_top (own.has_first is);
    }) (
      record {
        known_or_next = may;
        rises = λ k is.
            let me : n ≡ k = node_is n k is in
            subst (λ (x : NodeId). IsAboveEarlier sc.scenario recs m x) me (record {
              of_each = each_to (λ (x : PartMap). HasAtLeast x.top a.installed) (λ (x : PartMap). IsBelow x.top m.top)
                  (maps_by n recs) (λ x has. newer x.top has) own.has_last;
              of_first = λ first. newer first_top (own.has_first first);
            });
      },
      tt,
    )
  where
    node_is : (x y : NodeId) → Some x ≡ Some y → x ≡ y
    node_is x y is = cc (is)
