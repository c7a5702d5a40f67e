-- The rows of the exchange keep the invariant.
use Rattle.std.proofs.Common.{◌≡◌, ◌≢◌, ◌≤◌, ◌+◌, ◌⊎◌, inl, inr, ◌++◌, ◌&&◌, List, [], ◌∷◌, Option, Some, None, Bool, true, false, if◌then◌else◌, not, is_some, filter, ℕ, refl, ap, sym, subst, ◌∙◌, arith}
use Rattle.std.specs.List.{list_all}
use Rattle.frame_laws.proofs.Closing.{near_on_kept}
use Rattle.frame_laws.proofs.Extending.{append_none}
use Rattle.frame_laws.proofs.Plain.{demands_plain}
use Rattle.frame_laws.proofs.Primary.{shares_on_kept}
use Rattle.frame_laws.proofs.Starts.{starts_all_kept}
use Rattle.act_rows.specs.Closing.{after_advance_starter, after_closing_rules, after_send_single, after_single_if_drained, owes_single}
use Rattle.act_rows.specs.Exchange.{after_compute, after_compute_if_all, after_count, after_count_installed, after_full, after_install, after_installed, after_open_for_all, after_opens, after_send_demands, after_single, all_installed, all_sent, demand_outs, is_newer_map, may_compute, next_map_seen, others_seen, singles_under, without_singles}
use Rattle.act_rows.specs.Primary.{after_advance_shares, own_txs}
use Rattle.act_rows.specs.Starts.{after_start_all}
use Rattle.act_rows.specs.Steps.{installed_top, is_installed, is_oldest, oldest_seen, outs_to, rows_of, with_note, with_out, with_out_to_oldest, with_outs}
use Rattle.part_model.specs.Directory.{node_set, oldest_member}
use Rattle.part_model.specs.NextMap.{is_member, single_of}
use Rattle.part_model.specs.Orders.{is_lower_top, is_node}
use Rattle.ignite_types.proofs.NameLaws.{same_top_itself, same_top_true}
use Rattle.ignite_types.proofs.NameLaws.{same_node_itself, same_node_true}
use Rattle.ignite_types.specs.Names.{node_cmp, same_node, same_top}
use Rattle.ignite_types.specs.declared.message.Message.{Message}
use Rattle.ignite_types.specs.declared.message.Out.{Out}
use Rattle.ignite_types.specs.declared.message.Single.{Single}
use Rattle.ignite_types.specs.declared.names.NodeId.{NodeId}
use Rattle.ignite_types.specs.declared.names.TopVer.{TopVer}
use Rattle.ignite_types.specs.declared.placement.PartMap.{PartMap}
use Rattle.ignite_types.specs.declared.scenario.Member.{Member}
use Rattle.journal_statements.specs.Noted.{is_lost}
use Rattle.journal_statements.specs.Topologies.{Topology}
use Rattle.link_laws.proofs.Frames.{all_change}
use Rattle.link_laws.proofs.Journals.{first_rest}
use Rattle.link_laws.proofs.Places.{some_is}
use Rattle.node_state.specs.Node.{NodeState}
use Rattle.node_state.specs.declared.topology.Exchange.{Exchange}
use Rattle.ordered_set.specs.Members.{has, with_member}
use Rattle.topology_laws.specs.TopologyFacts.{AllHaveInstalled, HoldsOfEach, ExchangeFits, HasAtLeast, HasMapItself, HasSomeMap, HasSeen, IsMemberOf, IsMapOfVersion, IsOldestMember, IsUpTo, IsAliveWith, IsLostOr, MapFits, OldestFits, SingleTells, MessageTells, opens_at, opens_in_exchange, is_opens_of, is_lost_or_has_installed, openings_to_come, openings_by, opens_on_link, opens_in_outbox}
use Rattle.topology_laws.specs.TopologyInvariant.{HoldsInTopologyAct}
use Rattle.topology_laws.specs.LeavesTopology.{LeavesTopology}
use Rattle.topology_laws.specs.TopologyScenes.{TopologyPart, TopologyScene, TopologyState, has_noted_map, map_of, topology_at, topology_in_act, topology_state}
use Rattle.topology_laws.proofs.Counts.{count_parts, each_out_times, install_opened, other_out, times}
use Rattle.topology_laws.proofs.Idle.{idle_other, none_in, none_out}
use Rattle.topology_laws.proofs.Sets.{others_not_me, others_once}
use Rattle.topology_laws.proofs.Later.{Later, later_twice}
use Rattle.topology_laws.proofs.Lists.{all_each, each_all, each_both, each_change, each_filter, each_node, each_out, each_with, each_without, found_there, has_passes}
use Rattle.topology_laws.proofs.Quiet.{andthen, quiet_good, quieting}
use Rattle.topology_laws.proofs.Records.{installs_now, or_second}
use Rattle.topology_laws.proofs.Sounds.{oldest_is_member, compute_sound, exact_node, full_sound}
use Rattle.topology_laws.proofs.Steps.{IsExactAfter, OwnOnce, Step, no_more, no_openings, other_good, own_once, exact_here, exchange_good, install_step, installs_good, opened_good, own_fits, put_same, recs_grow, sent_good, singles_good, step_later}
use Rattle.topology_laws.proofs.Tops.{below_not_up, lower_below, lower_up, one_place, up_both, up_itself, up_twice}
use Rattle.ignite_types.specs.declared.message.Message.TheVariants as msg
use Rattle.ignite_types.specs.declared.journal.Rec.TheVariants as note
use Rattle.node_state.specs.declared.life.Life.TheVariants as life

-- What is said of the acting node is said of its state.
pub own_holds : (sc : TopologyScene) (n : NodeId) (s : NodeState) (P : TopologyState → Type 0) → HoldsInTopologyAct sc n s →
    IsLostOr (topology_in_act sc n s) n P → P (topology_state s)
own_holds sc n s P good (inl lost) = let lives = (own_fits sc n s good).not_lost in absurd (cc (lost, lives))
own_holds sc n s P good (inr l) =
    let same = some_is (record { life = life.Alive; state = l.state })
    (record { life = life.Alive; state = topology_state s }) (sym l.there
    ∙ put_same n (record { life = life.Alive; state = topology_state s }) sc.seat) in
    subst P (ap (λ (x : TopologyPart). x.state) same) l.holds

pub own_lives : (sc : TopologyScene) (n : NodeId) (s : NodeState) (P : TopologyState → Type 0) → P (topology_state s) →
    IsLostOr (topology_in_act sc n s) n P
own_lives sc n s P holds =
    inr (record {
      state = topology_state s;
      there =
          put_same n (record { life = life.Alive; state = topology_state s }) sc.seat;
      holds = holds;
    })

-- the oldest member of the version seen
own_oldest_is : (sc : TopologyScene) (n : NodeId) (s : NodeState) (x : NodeId) → HoldsInTopologyAct sc n s →
    oldest_member s.members ≡ Some x → IsOldestMember (topology_in_act sc n s) s.seen x
own_oldest_is sc n s x good is =
    let k = own_fits sc n s good in
    record {
      place = s.read;
      within = k.within;
      is_top = sym (ap (λ (t : Topology). t.top) k.known_is);
      oldest = sym (ap (λ (t : Topology). oldest_member t.members) k.known_is) ∙ is;
    }

own_oldest : (sc : TopologyScene) (n : NodeId) (s : NodeState) (top : TopVer) → HoldsInTopologyAct sc n s → s.seen ≡ top →
    oldest_member s.members ≡ Some n → IsOldestMember (topology_in_act sc n s) top n
own_oldest sc n s top good seen is = subst (λ (t : TopVer). IsOldestMember (topology_in_act sc n s) t n) seen
    (own_oldest_is sc n s n good is)

own_in : (sc : TopologyScene) (n : NodeId) (s : NodeState) (x : NodeId) → HoldsInTopologyAct sc n s →
    is_member s.members x ≡ true → IsMemberOf (topology_in_act sc n s) s.seen x
own_in sc n s x good is =
    let k = own_fits sc n s good in
    record {
      place = s.read;
      within = k.within;
      is_top = sym (ap (λ (t : Topology). t.top) k.known_is);
      member = sym (ap (λ (t : Topology). is_member t.members x) k.known_is) ∙ is;
    }

-- of members something holds, and that they are members
each_and : (P : Member → Type 0) (all ms : List Member) → HoldsOfEach P ms →
    ((y : NodeId) → is_member ms y ≡ true → is_member all y ≡ true) →
    HoldsOfEach (λ (y : Member). P y × (is_member all y.node ≡ true)) ms
each_and P all [] each among = tt
each_and P all (m ∷ ms) each among = (
  (each.0, among m.node (rw (same_node_itself m.node) refl)),
  each_and P all ms each.1 (λ y is. among y (or_second (same_node y m.node) (is_member ms y) is)),
)

-- Opening.

pub demands_quiet : (s : NodeState) → LeavesTopology s (after_send_demands s)
demands_quiet s = quieting.sent_all s (demand_outs s.me (installed_top s) 0 (rows_of s))
    (demands_plain s.me (installed_top s) 0 (rows_of s))

pub opens_row_good : (sc : TopologyScene) (n : NodeId) (s : NodeState) (top : TopVer) →
    AllHaveInstalled (topology_in_act sc n s) top → HasSomeMap (topology_in_act sc n s) top →
    ((from : NodeId) → openings_to_come (topology_in_act sc n s) top from n + openings_by top n (topology_in_act sc n s).recs
    ≡ 0) → HoldsInTopologyAct sc n s → HoldsInTopologyAct sc n (after_opens s top)
opens_row_good sc n s top all one none good =
    let noted : NodeState = with_note (record s { opened = Some top }) (note.Opened top) in
    quiet_good sc n noted (after_opens s top)
    (andthen noted (after_start_all noted) (after_opens s top) (starts_all_kept LeavesTopology quieting noted)
    (demands_quiet (after_start_all noted)))
    (opened_good sc n s top all one none good)

-- The coordinator.

all_there : (sc : TopologyScene) (n : NodeId) (s : NodeState) (x : Exchange) →
    ExchangeFits (topology_in_act sc n s) (topology_state s).known (Some x) → all_installed s.members x.installed ≡ true →
    HoldsInTopologyAct sc n s → AllHaveInstalled (topology_in_act sc n s) x.top
all_there sc n s x fits all good =
    let k = own_fits sc n s good in
    record {
      place = s.read;
      within = k.within;
      is_top = sym (ap (λ (t : Topology). t.top) k.known_is) ∙ sym fits.0;
      all = subst (λ (t : Topology). list_all (is_lost_or_has_installed (topology_in_act sc n s).recs x.top) t.members ≡ true)
          k.known_is
          (all_change (λ (m : Member). has node_cmp x.installed m.node)
          (is_lost_or_has_installed (topology_in_act sc n s).recs x.top) s.members
          (λ m is. or_second (is_lost (topology_in_act sc n s).recs m.node)
          (has_noted_map (topology_in_act sc n s).recs x.top m.node)
          (has_passes (has_noted_map (topology_in_act sc n s).recs x.top) x.installed m.node exact_node fits.1 is))
          all);
    }

-- nothing of this version is on its way from here, and no node has opened it
abbrev IsFree : TopologyScene → NodeId → NodeState → TopVer → Type 0
IsFree sc n s top = (to : NodeId) → opens_on_link top (sc.link n to) + opens_in_outbox top to s.outbox + openings_by top to
    (topology_in_act sc n s).recs ≡ 0

opens_for_all_good : (sc : TopologyScene) (n : NodeId) (s : NodeState) (top : TopVer) →
    AllHaveInstalled (topology_in_act sc n (record s { exchange = None })) top →
    IsOldestMember (topology_in_act sc n (record s { exchange = None })) top n →
    HasSomeMap (topology_in_act sc n (record s { exchange = None })) top
    → IsFree sc n s top → HoldsInTopologyAct sc n s → HoldsInTopologyAct sc n (after_open_for_all s top)
opens_for_all_good sc n s top all oldest one free good =
    let over : NodeState = record s { exchange = None } in
    let outs : List Out = outs_to (others_seen s) (msg.Opens top) in
    let told : NodeState = with_outs over outs in
    let good_over : HoldsInTopologyAct sc n over =
    exchange_good sc n s None tt tt
    (no_more sc n s over good (λ to v. fewer_held (opens_in_outbox v to s.outbox) (opens_in_exchange v s.exchange))) good in
    let parts = λ (to : NodeId) (v : TopVer). count_parts (λ (o : Out). same_node o.to to && is_opens_of v o.msg) s.outbox
    outs in
    let once_told : OwnOnce sc n over told = λ to v. told_once to v (same_top top v) refl good_over in
    let good_told : HoldsInTopologyAct sc n told =
    sent_good sc n over outs (each_out (λ (o : Out). MessageTells (topology_in_act sc n over) n o.to o.msg)
    (others_seen s) (msg.Opens top)
    (each_of (others_seen s) (AllHaveInstalled (topology_in_act sc n over) top
    × IsOldestMember (topology_in_act sc n over) top n × HasSomeMap (topology_in_act sc n over) top) (all, oldest, one)))
    once_told good_over in
    let all_told : AllHaveInstalled (topology_in_act sc n told) top = record {
      place = all.place;
      within = all.within;
      is_top = all.is_top;
      all = all.all;
    } in
    let one_told : HasSomeMap (topology_in_act sc n told) top = record { one = one.one; is_map = one.is_map } in
    let oldest_told : IsOldestMember (topology_in_act sc n told) top n =
    record { place = oldest.place; within = oldest.within; is_top = oldest.is_top; oldest = oldest.oldest } in
    opens_row_good sc n told top all_told one_told (λ from. told_none from (same_node n from) refl good_told oldest_told)
    good_told
  where
    each_of : (xs : List NodeId) (P : Type 0) → P → HoldsOfEach (λ (x : NodeId). P) xs
    each_of [] P p = tt
    each_of (x ∷ xs) P p = (p, each_of xs P p)

    fewer_held : (x y : ℕ) → x + 0 ≤ x + y
    fewer_held x y = omega arith

    over2 : NodeState
    over2 = record s { exchange = None }

    outs2 : List Out
    outs2 = outs_to (others_seen s) (msg.Opens top)

    told2 : NodeState
    told2 = with_outs over2 outs2

    sum : (to : NodeId) (v : TopVer) → opens_in_outbox v to (s.outbox ++ outs2) ≡ opens_in_outbox v to s.outbox
        + opens_in_outbox v to outs2
    sum to v = count_parts (λ (o : Out). same_node o.to to && is_opens_of v o.msg) s.outbox outs2

    told_once : (to : NodeId) (v : TopVer) (c : Bool) → same_top top v ≡ c → HoldsInTopologyAct sc n over2 →
        opens_on_link v (sc.link n to) + (opens_in_outbox v to told2.outbox + opens_in_exchange v told2.exchange)
        + openings_by v to (topology_in_act sc n over2).recs ≤ 1
    told_once to v true is good2 =
        let nothing = subst (λ (t : TopVer). opens_on_link t (sc.link n to) + opens_in_outbox t to s.outbox + openings_by t to
        (topology_in_act sc n s).recs ≡ 0) (same_top_true top v is) (free to) in
        let parts = sum to v in
        let times_out = each_out_times v to (others_seen s) (msg.Opens top) in
        let once = others_once s.members s.me to in
        omega (arith, nothing, parts, times_out, once)
    told_once to v false is good2 =
        let parts = sum to v in
        let none = other_out v to (others_seen s) (msg.Opens top) is in
        let once = own_once sc n over2 good2 to v in
        omega (arith, parts, none, once)

    told_none : (from : NodeId) (c : Bool) → same_node n from ≡ c → HoldsInTopologyAct sc n told2 →
        IsOldestMember (topology_in_act sc n told2) top n → openings_to_come (topology_in_act sc n told2) top from n
        + openings_by top n (topology_in_act sc n told2).recs ≡ 0
    told_none from true is good2 oldest2 =
        subst (λ (x : NodeId). openings_to_come (topology_in_act sc n told2) top x n + openings_by top n
        (topology_in_act sc n told2).recs ≡ 0) (same_node_true n from is)
        (subst (λ (x : Option TopologyPart). opens_on_link top (sc.link n n) + opens_at top n x + openings_by top n
        (topology_in_act sc n told2).recs ≡ 0)
        (sym (put_same n (record { life = life.Alive; state = topology_state told2 }) sc.seat))
        (let nothing = free n in
        let parts = sum n top in
        let times_out = each_out_times top n (others_seen s) (msg.Opens top) in
        let me = (own_fits sc n s good).me_is in
        let none = subst (λ (x : NodeId). times x (others_seen s) ≡ 0) me (others_not_me s.members s.me) in
        omega (arith, nothing, parts, times_out, none)))
    told_none from false is good2 oldest2 =
        let others = idle_other (topology_in_act sc n told2) top n from n good2 oldest2 is in
        let nothing = free n in
        omega (arith, others, nothing)

abbrev flag : Bool → ℕ
flag b = if b then 1 else 0

pub counts_good : (sc : TopologyScene) (n : NodeId) (s : NodeState) (x : Exchange) →
    ExchangeFits (topology_in_act sc n s) (topology_state s).known (Some x) → OldestFits (topology_in_act sc n s) n (Some x) →
    OwnOnce sc n s (record s { exchange = Some x }) → HoldsInTopologyAct sc n s → HoldsInTopologyAct sc n (after_count s x)
counts_good sc n s x fits oldest once good =
    let here : NodeState = record s { exchange = Some x } in
    let counted = exchange_good sc n s (Some x) fits oldest once good in
    let free : IsFree sc n here x.top = λ to. let own = once to x.top in let same = same_top_itself x.top in
    free_by to (same_top x.top x.top) same own in
    (elim (all_installed s.members x.installed) as (λ b. all_installed s.members x.installed ≡ b →
    HoldsInTopologyAct sc n (if b then after_open_for_all here x.top else here)) [
      | true ↦ λ t.
          let all = all_there sc n s x fits t good in
          let o = oldest.0 in
          opens_for_all_good sc n here x.top (record {
            place = all.place;
            within = all.within;
            is_top = all.is_top;
            all =
                all.all;
          })
          (record { place = o.place; within = o.within; is_top = o.is_top; oldest = o.oldest })
          (record { one = oldest.1.one; is_map = oldest.1.is_map }) free counted
      | false ↦ λ f. counted
    ]) refl
  where
    free_by : (to : NodeId) (c : Bool) → c ≡ true →
        opens_on_link x.top (sc.link n to) + (opens_in_outbox x.top to s.outbox + flag c) + openings_by x.top to
        (topology_in_act sc n s).recs ≤ 1 → opens_on_link x.top (sc.link n to) + opens_in_outbox x.top to s.outbox
        + openings_by x.top to (topology_in_act sc n s).recs ≡ 0
    free_by to true is own = omega (arith, own)
    free_by to false is own = absurd (cc (is))

-- a map that no version of is installed, seen by its oldest member
pub no_map_yet : (sc : TopologyScene) (n : NodeId) (s : NodeState) → HoldsInTopologyAct sc n s →
    oldest_member s.members ≡ Some n → is_installed s s.seen ≡ false → (there : PartMap) →
    map_of (topology_in_act sc n s) s.seen ≢ Some there
no_map_yet sc n s good oldest none there is =
    let k = own_fits sc n s good in
    let c = good.computed s.seen there is in
    let place : c.place ≡ s.read = one_place sc.scenario sc.events c.place s.read good.few c.within k.within (c.is_top
    ∙ ap (λ (t : Topology). t.top) k.known_is) in
    let by : oldest_member (topology_at sc c.place).members ≡ Some n =
    ap (λ (i : ℕ). oldest_member (topology_at sc i).members) place
    ∙ sym (ap (λ (t : Topology). oldest_member t.members) k.known_is) ∙ oldest in
    let has_it : HasAtLeast s.seen s.installed = own_holds sc n s (λ (f : TopologyState). HasAtLeast s.seen f.installed) good
    (c.by_oldest n by) in
    let shown = shows s.installed k.map_fits has_it in
    absurd (cc (none, shown))
  where
    shows : (o : Option PartMap) → MapFits (topology_in_act sc n s) (topology_state s).known o → HasAtLeast s.seen o →
        is_installed (record s { installed = o }) s.seen ≡ true
    shows None fits has_it = absurd has_it
    shows (Some m) fits has_it = rw (up_both m.top s.seen fits.1 has_it) (same_top_itself s.seen)

pub below_seen : (sc : TopologyScene) (n : NodeId) (s : NodeState) (o : Option PartMap) →
    MapFits (topology_in_act sc n s) (topology_state s).known o → (top : TopVer) → HasAtLeast top o → IsUpTo top s.seen
below_seen sc n s None fits top has_it = absurd has_it
below_seen sc n s (Some m) fits top has_it = up_twice top m.top s.seen has_it fits.1

-- who has sent its Single has seen the version
sent_seen : (sc : TopologyScene) (n : NodeId) (s : NodeState) (ms : List Member) →
    HoldsOfEach (λ (x : Single). HasSeen (topology_in_act sc n s) x.top x.from × (x.top ≡ s.seen)) (singles_under s s.seen) →
    all_sent ms (singles_under s s.seen) ≡ true
    → HoldsOfEach (λ (m : Member). HasSeen (topology_in_act sc n s) s.seen m.node) ms
sent_seen sc n s ms singles all =
    each_change (λ (m : Member). is_some (single_of (singles_under s s.seen) m.node) ≡ true)
    (λ (m : Member). HasSeen (topology_in_act sc n s) s.seen m.node) ms
    (λ m there. by_single m (single_of (singles_under s s.seen) m.node) refl there)
    (all_each (λ (m : Member). is_some (single_of (singles_under s s.seen) m.node)) ms all)
  where
    by_single : (m : Member) (o : Option Single) → single_of (singles_under s s.seen) m.node ≡ o → is_some o ≡ true →
        HasSeen (topology_in_act sc n s) s.seen m.node
    by_single m None is there = absurd (cc (there))
    by_single m (Some x) is there =
        let found = found_there (λ (y : Single). HasSeen (topology_in_act sc n s) y.top y.from × (y.top ≡ s.seen))
        (λ (y : Single). same_node m.node y.from) (singles_under s s.seen) x is singles in
        subst (λ (k : NodeId). HasSeen (topology_in_act sc n s) s.seen k) (sym (same_node_true m.node x.from found.1))
        (subst (λ (t : TopVer). HasSeen (topology_in_act sc n s) t x.from) found.0.1 found.0.0)

abbrev pub filter_top : TopVer → List Single → List Single
filter_top top xs = filter (λ (x : Single). same_top x.top top) xs

pub kept_under : (P : Single → Type 0) (top : TopVer) (xs : List Single) → HoldsOfEach P xs →
    HoldsOfEach (λ (x : Single). P x × (x.top ≡ top)) (filter_top top xs)
kept_under P top [] all = tt
kept_under P top (x ∷ xs) all =
    elim (same_top x.top top) as (λ b. same_top x.top top ≡ b → HoldsOfEach (λ (y : Single). P y × (y.top ≡ top))
    (if b then x ∷ filter_top top xs else filter_top top xs)) [
      | true ↦ λ t. ((all.0, same_top_true x.top top t), kept_under P top xs all.1)
      | false ↦ λ f. kept_under P top xs all.1
    ] refl

pub node_shown : (n : NodeId) (me : NodeId) (o : Option NodeId) → me ≡ n → is_node me o ≡ true → o ≡ Some n
node_shown n me None same is = absurd (cc (is))
node_shown n me (Some other) same is = ap (λ (x : NodeId). Some x) (sym (same_node_true me other is) ∙ same)

-- of a version that has no map nothing is on its way
free_yet : (sc : TopologyScene) (n : NodeId) (s : NodeState) (top : TopVer) → map_of (topology_in_act sc n s) top ≡ None →
    HoldsInTopologyAct sc n s → IsFree sc n s top
free_yet sc n s top none good to =
    let never : HasSomeMap (topology_in_act sc n s) top → ⊥ = λ one. no_one one in
    let links = none_in (topology_in_act sc n s) top n (λ oldest one. never one) to (sc.link n to) (good.links n to) in
    let outs = none_out (topology_in_act sc n s) top n (λ oldest one. never one) to s.outbox
    (own_fits sc n s good).outbox_tells in
    let opened = by_case (good.known to top) in
    omega (arith, links, outs, opened)
  where
    no_one : HasSomeMap (topology_in_act sc n s) top → ⊥
    no_one one = let is = one.is_map in absurd (cc (is, none))

    by_case : (openings_by top to (topology_in_act sc n s).recs ≡ 0) ⊎ HasSomeMap (topology_in_act sc n s) top →
        openings_by top to (topology_in_act sc n s).recs ≡ 0
    by_case (inl is) = is
    by_case (inr one) = absurd (no_one one)

computes_good : (sc : TopologyScene) (n : NodeId) (s : NodeState) → may_compute s ≡ true → HoldsInTopologyAct sc n s →
    HoldsInTopologyAct sc n (after_compute s (next_map_seen s))
computes_good sc n s may good =
    let m : PartMap = next_map_seen s in
    let k = own_fits sc n s good in
    let second = first_rest (is_oldest s && not (is_installed s s.seen)) (all_sent s.members (singles_under s s.seen)) may in
    let first = first_rest (is_oldest s) (not (is_installed s s.seen)) second.0 in
    let oldest : oldest_member s.members ≡ Some n = node_shown n s.me (oldest_member s.members) k.me_is first.0 in
    let fewer : NodeState = without_singles s m.top in
    let there : NodeState = after_install fewer m in
    let good_fewer : HoldsInTopologyAct sc n fewer = singles_good sc n s (without_singles s m.top).singles
    (each_filter (λ (x : Single). SingleTells (topology_in_act sc n s) x.from n x.top x.map)
    (λ (x : Single). is_lower_top m.top x.top) s.singles k.singles_tell) good in
    let new : map_of (topology_in_act sc n fewer) m.top ≡ None = nothing_there (map_of (topology_in_act sc n fewer) m.top)
    (λ x. no_map_yet sc n s good oldest (not_true (is_installed s s.seen) first.1) x) in
    let newer = below_seen sc n s s.installed k.map_fits in
    let sound : IsExactAfter sc n fewer m =
    compute_sound sc n fewer m good_fewer refl (own_oldest sc n fewer m.top good_fewer refl oldest) newer in
    let good_there : HoldsInTopologyAct sc n there =
    installs_good sc n fewer m (inr (record { none = new; is_seen = refl; oldest = oldest })) (up_itself s.seen) newer
    sound (own_in sc n fewer n good_fewer (oldest_is_member s.members n oldest)) good_fewer in
    let st : Step sc n fewer there = install_step sc n fewer m newer sound in
    let st0 : Step sc n s fewer = record {
      exact = exact_here sc n s fewer refl;
      more = [];
      noted_is =
          sym (append_none s.noted);
      lost_none = λ x. refl;
      seen_up = λ top up. up;
      map_up = λ top h. h;
    } in
    let later : Later (topology_in_act sc n s) (topology_in_act sc n there) =
    later_twice (topology_in_act sc n s) (topology_in_act sc n fewer) (topology_in_act sc n there)
    (step_later sc n s fewer st0) (step_later sc n fewer there st) in
    let seen = sent_seen sc n s s.members (kept_under (λ (x : Single). HasSeen (topology_in_act sc n s) x.top x.from) s.seen
    s.singles (each_change (λ (x : Single). SingleTells (topology_in_act sc n s) x.from n x.top x.map)
    (λ (x : Single). HasSeen (topology_in_act sc n s) x.top x.from) s.singles (λ x t. t.0) k.singles_tell)) second.1 in
    let others = each_without (λ (x : NodeId). HasSeen (topology_in_act sc n s) m.top x × (is_member s.members x ≡ true))
    (node_set [] s.members) s.me (each_node (λ (x : NodeId). HasSeen (topology_in_act sc n s) m.top x
    × (is_member s.members x ≡ true)) [] s.members tt
    (each_and (λ (y : Member). HasSeen (topology_in_act sc n s) s.seen y.node) s.members s.members seen
    (λ y there. there))) in
    let is_map : map_of (topology_in_act sc n there) m.top ≡ Some m = (own_fits sc n there good_there).map_fits.0 in
    let mine_oldest : IsOldestMember (topology_in_act sc n there) m.top n =
    own_oldest sc n there m.top good_there refl oldest in
    let outs : List Out = outs_to (others_seen s) (msg.Full m) in
    let told : NodeState = with_outs there outs in
    let good_told : HoldsInTopologyAct sc n told =
    other_good sc n there outs (λ to v. other_out v to (others_seen s) (msg.Full m) refl)
    (each_out (λ (o : Out). MessageTells (topology_in_act sc n there) n o.to o.msg) (others_seen s) (msg.Full m)
    (each_change (λ (x : NodeId). HasSeen (topology_in_act sc n s) m.top x × (is_member s.members x ≡ true))
    (λ (x : NodeId). MessageTells (topology_in_act sc n there) n x (msg.Full m)) (others_seen s)
    (λ x h. (
      later.seen m.top x h.0,
      is_map,
      mine_oldest,
      own_lives sc n there (λ (f : TopologyState). HasAtLeast m.top f.installed) (up_itself m.top),
      own_in sc n there x good_there h.1,
    )) others)) good_there in
    let mine : has_noted_map (topology_in_act sc n told).recs m.top s.me ≡ true =
    subst (λ (x : NodeId). has_noted_map (topology_in_act sc n told).recs m.top x ≡ true) (sym k.me_is)
    (ap (λ rs. has_noted_map rs m.top n) (recs_grow sc n fewer there st) ∙ installs_now (topology_in_act sc n fewer).recs m n)
    in
    let x0 : Exchange = record { top = m.top; installed = s.me ∷ [] } in
    let one_told : HasSomeMap (topology_in_act sc n told) m.top = record { one = m; is_map = is_map } in
    let told_oldest : IsOldestMember (topology_in_act sc n told) m.top n = own_oldest sc n told m.top good_told refl oldest in
    counts_good sc n told x0 (refl, (rw mine refl)) (told_oldest, one_told)
    (λ to v. told_once to v (same_top m.top v) refl good_told (free_yet sc n fewer m.top new good_fewer to)
    (no_openings sc n fewer there st (λ to2 v2. install_opened v2 to2 (Some n) m) to m.top)) good_told
  where
    fulls : List Out
    fulls = outs_to (others_seen s) (msg.Full (next_map_seen s))

    told_once : let m : PartMap = next_map_seen s in let fewer : NodeState = without_singles s m.top in
        let there : NodeState = after_install fewer m in let told : NodeState = with_outs there fulls in
        (to : NodeId) (v : TopVer) (c : Bool) → same_top m.top v ≡ c → HoldsInTopologyAct sc n told
        → opens_on_link m.top (sc.link n to) + opens_in_outbox m.top to s.outbox + openings_by m.top to
        (topology_in_act sc n fewer).recs ≡ 0 → openings_by m.top to (topology_in_act sc n told).recs
        ≡ openings_by m.top to (topology_in_act sc n fewer).recs
        → opens_on_link v (sc.link n to) + (opens_in_outbox v to told.outbox + flag c) + openings_by v to
        (topology_in_act sc n told).recs ≤ 1
    told_once to v true is good_told free same =
        let m : PartMap = next_map_seen s in
        let parts : opens_in_outbox m.top to (s.outbox ++ fulls) ≡ opens_in_outbox m.top to s.outbox
        + opens_in_outbox m.top to fulls = count_parts (λ (o : Out). same_node o.to to && is_opens_of m.top o.msg)
        s.outbox fulls in
        let none = other_out m.top to (others_seen s) (msg.Full m) refl in
        subst (λ (t : TopVer). opens_on_link t (sc.link n to) + (opens_in_outbox t to (s.outbox ++ fulls) + 1)
        + openings_by t to (topology_in_act sc n (with_outs (after_install (without_singles s m.top) m) fulls)).recs ≤ 1)
        (same_top_true m.top v is)
        (omega (arith, free, same, parts, none))
    told_once to v false is good_told free same =
        let once = own_once sc n (with_outs (after_install (without_singles s (next_map_seen s).top) (next_map_seen s)) fulls)
        good_told to v in
        omega (arith, once)

    nothing_there : (o : Option PartMap) → ((x : PartMap) → o ≢ Some x) → o ≡ None
    nothing_there None none = refl
    nothing_there (Some x) none = absurd (none x refl)

    not_true : (b : Bool) → not b ≡ true → b ≡ false
    not_true true e = absurd (cc (e))
    not_true false e = refl

computes_if_all_good : (sc : TopologyScene) (n : NodeId) (s : NodeState) → HoldsInTopologyAct sc n s →
    HoldsInTopologyAct sc n (after_compute_if_all s)
computes_if_all_good sc n s good =
    (elim (may_compute s) as (λ b. may_compute s ≡ b →
    HoldsInTopologyAct sc n (if b then after_compute s (next_map_seen s) else s)) [
      | true ↦ λ t. computes_good sc n s t good
      | false ↦ λ f. good
    ]) refl

-- a Single that was brought is kept behind the others
pub single_kept_good : (sc : TopologyScene) (n : NodeId) (s : NodeState) (from : NodeId) (top : TopVer) (m : Option PartMap)
    (complete : List ℕ) → SingleTells (topology_in_act sc n s) from n top m → HoldsInTopologyAct sc n s
    → HoldsInTopologyAct sc n
    (record s { singles = s.singles ++ record { from = from; top = top; map = m; complete = complete } ∷ [] })
single_kept_good sc n s from top m complete tells good =
    let xs : List Single = s.singles ++ record { from = from; top = top; map = m; complete = complete } ∷ [] in
    singles_good sc n s xs (each_both (λ (x : Single). SingleTells (topology_in_act sc n s) x.from n x.top x.map) s.singles
    (record { from = from; top = top; map = m; complete = complete } ∷ []) (own_fits sc n s good).singles_tell (
      tells,
      tt,
    )) good

pub single_row_good : (sc : TopologyScene) (n : NodeId) (s : NodeState) (from : NodeId) (top : TopVer) (m : Option PartMap)
    (complete : List ℕ) → SingleTells (topology_in_act sc n s) from n top m → HoldsInTopologyAct sc n s →
    HoldsInTopologyAct sc n (after_single s from top m complete)
single_row_good sc n s from top m complete tells good =
    computes_if_all_good sc n
    (record s { singles = s.singles ++ record { from = from; top = top; map = m; complete = complete } ∷ [] })
    (single_kept_good sc n s from top m complete tells good)

-- Full.

newer_up : (m : PartMap) (o : Option PartMap) → is_newer_map m o ≡ true → (top : TopVer) → HasAtLeast top o → IsUpTo top m.top
newer_up m None newer top has_it = absurd has_it
newer_up m (Some there) newer top has_it = up_twice top there.top m.top has_it (lower_up there.top m.top newer)

newer_not : (m : PartMap) (o : Option PartMap) → is_newer_map m o ≡ true → HasAtLeast m.top o → ⊥
newer_not m None newer has_it = has_it
newer_not m (Some there) newer has_it = below_not_up there.top m.top (lower_below there.top m.top newer) has_it

pub full_row_good : (sc : TopologyScene) (n : NodeId) (s : NodeState) (from : NodeId) (m : PartMap) →
    is_lost (topology_in_act sc n s).recs from ≡ false → MessageTells (topology_in_act sc n s) from n (msg.Full m) →
    HoldsInTopologyAct sc n s → HoldsInTopologyAct sc n (after_full s from m)
full_row_good sc n s from m lives tells good =
    (elim (is_newer_map m s.installed) as (λ b. is_newer_map m s.installed ≡ b →
    HoldsInTopologyAct sc n (if b then with_out (after_install s m) from (msg.Installed m.top) else s)) [
      | true ↦ λ t.
          let newer = newer_up m s.installed t in
          let sound : IsExactAfter sc n s m = full_sound sc n s m good from (newer_not m s.installed t) tells.2
          (sender_has tells.3) in
          let st : Step sc n s (after_install s m) = install_step sc n s m newer sound in
          other_good sc n (after_install s m) (record { to = from; msg = msg.Installed m.top } ∷ [])
          (λ to v. plain_none to v from) (
            ap (λ rs. has_noted_map rs m.top n) (recs_grow sc n s (after_install s m) st)
                ∙ installs_now (topology_in_act sc n s).recs m n,
            tt,
          )
          (installs_good sc n s m (inl tells.1) (own_holds sc n s (λ (f : TopologyState). IsUpTo m.top f.known.top) good
          tells.0) newer sound tells.4 good)
      | false ↦ λ f. good
    ]) refl
  where
    plain_none : (to : NodeId) (v : TopVer) (x : NodeId) →
        opens_in_outbox v to (record { to = x; msg = msg.Installed m.top } ∷ []) ≡ 0
    plain_none to v x = other_out v to (x ∷ []) (msg.Installed m.top) refl

    sender_has : IsLostOr (topology_in_act sc n s) from (λ (f : TopologyState). HasAtLeast m.top f.installed) →
        IsAliveWith (topology_in_act sc n s) from (λ (f : TopologyState). HasAtLeast m.top f.installed)
    sender_has (inl lost) = absurd (cc (lost, lives))
    sender_has (inr l) = l

-- Installed.

counts_installed_good : (sc : TopologyScene) (n : NodeId) (s : NodeState) (from : NodeId) (top : TopVer)
    (found : Option Exchange) → ExchangeFits (topology_in_act sc n s) (topology_state s).known found →
    OldestFits (topology_in_act sc n s) n found → OwnOnce sc n s (record s { exchange = found }) →
    has_noted_map (topology_in_act sc n s).recs top from ≡ true → HoldsInTopologyAct sc n s
    → HoldsInTopologyAct sc n (after_count_installed s from top found)
counts_installed_good sc n s from top None fits oldest once tells good = good
counts_installed_good sc n s from top (Some x) fits oldest once tells good =
    let more : Exchange = record x { installed = with_member node_cmp x.installed from } in
    (elim (same_top x.top top) as (λ b. same_top x.top top ≡ b →
    HoldsInTopologyAct sc n (if b then after_count s more else s)) [
      | true ↦ λ t.
          let test = has_noted_map (topology_in_act sc n s).recs x.top in
          let his : test from ≡ true = subst (λ (v : TopVer). has_noted_map (topology_in_act sc n s).recs v from ≡ true)
          (sym (same_top_true x.top top t)) tells in
          counts_good sc n s more (
            fits.0,
            each_all test more.installed (each_with (λ (y : NodeId). test y ≡ true) x.installed from his
                (all_each test x.installed fits.1)),
          ) oldest once good
      | false ↦ λ f. good
    ]) refl

pub installed_row_good : (sc : TopologyScene) (n : NodeId) (s : NodeState) (from : NodeId) (top : TopVer) →
    has_noted_map (topology_in_act sc n s).recs top from ≡ true → HoldsInTopologyAct sc n s →
    HoldsInTopologyAct sc n (after_installed s from top)
installed_row_good sc n s from top tells good = counts_installed_good sc n s from top s.exchange
    (own_fits sc n s good).exchange_fits (own_fits sc n s good).exchange_oldest (own_once sc n s good) tells good

-- Closing.

to_oldest_good : (sc : TopologyScene) (n : NodeId) (s : NodeState) (m : Message) (to : Option NodeId) →
    ((v : TopVer) → is_opens_of v m ≡ false) → ((x : NodeId) → to ≡ Some x → MessageTells (topology_in_act sc n s) n x m) →
    HoldsInTopologyAct sc n s → HoldsInTopologyAct sc n (with_out_to_oldest s m to)
to_oldest_good sc n s m None other tells good = good
to_oldest_good sc n s m (Some oldest) other tells good = other_good sc n s (record { to = oldest; msg = m } ∷ [])
    (λ to v. other_out v to (oldest ∷ []) m (other v)) (tells oldest refl, tt) good

single_if_drained_good : (sc : TopologyScene) (n : NodeId) (s : NodeState) → HoldsInTopologyAct sc n s →
    HoldsInTopologyAct sc n (after_single_if_drained s)
single_if_drained_good sc n s good =
    elim (owes_single s) as (λ b. HoldsInTopologyAct sc n (if b then after_send_single s else s)) [
      | true ↦ to_oldest_good sc n marked (msg.Single s.seen s.installed s.complete) (oldest_seen s) (λ v. refl)
          (λ x is. (
            own_lives sc n marked (λ (f : TopologyState). IsUpTo s.seen f.known.top) (up_itself s.seen),
            own_oldest_is sc n marked x good_marked is,
            own_map (topology_in_act sc n marked) s.installed
                (own_fits sc n marked good_marked).map_fits,
            (λ a c at_a at_c. inl (own_installed a at_a)),
            has_own s.installed refl,
          ))
          good_marked
      | false ↦ good
    ]
  where
    marked : NodeState
    marked = record s { single_sent = Some s.seen }

    good_marked : HoldsInTopologyAct sc n marked
    good_marked = (quiet_good sc n s marked (record {
      more = [];
      noted_is = sym (append_none s.noted);
      quiet = refl;
      sent =
          [];
      plain = refl;
      face_is = ap (λ outs. record (topology_state s) { outbox = outs }) (sym (append_none s.outbox));
    })
        good)

    own_installed : (a : TopologyState) →
        (topology_in_act sc n marked).seat n ≡ Some (record { life = life.Alive; state = a }) → s.installed ≡ a.installed
    own_installed a at_a = ap (λ (x : TopologyPart). x.state.installed)
        (some_is (record { life = life.Alive; state = topology_state marked }) (record { life = life.Alive; state = a })
        (sym (put_same n (record { life = life.Alive; state = topology_state marked }) sc.seat) ∙ at_a))

    has_own : (o : Option PartMap) → s.installed ≡ o → HasMapItself (topology_in_act sc n marked) n o
    has_own None is = tt
    has_own (Some m) is = own_lives sc n marked (λ (f : TopologyState). HasAtLeast m.top f.installed)
        (subst (λ (o : Option PartMap). HasAtLeast m.top o) (sym is) (up_itself m.top))

    own_map : (b : TopologyScene) (o : Option PartMap) → MapFits b (topology_state s).known o → IsMapOfVersion b o
    own_map b None fits = tt
    own_map b (Some m) fits = fits.0

pub closed_good : (sc : TopologyScene) (n : NodeId) (s : NodeState) → HoldsInTopologyAct sc n s →
    HoldsInTopologyAct sc n (after_closing_rules s)
closed_good sc n s good =
    let shared = after_advance_shares s (own_txs s) in
    let first = after_advance_starter shared in
    let started = after_start_all first in
    let second = after_advance_starter started in
    single_if_drained_good sc n second
    (quiet_good sc n s second
    (andthen s shared second (shares_on_kept LeavesTopology quieting s (own_txs s))
    (andthen shared first second (near_on_kept LeavesTopology quieting shared)
    (andthen first started second (starts_all_kept LeavesTopology quieting first)
    (near_on_kept LeavesTopology quieting started))))
    good)
