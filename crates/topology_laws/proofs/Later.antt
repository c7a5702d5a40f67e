-- What a scene says, a later one says still.
use Rattle.std.proofs.Common.{◌≡◌, ◌≤◌, ◌++◌, ◌||◌, List, [], ◌∷◌, Option, Some, None, Bool, true, false, length, ℕ, refl, ap, sym, subst, ◌∙◌, arith}
use Rattle.std.specs.List.{list_all}
use Rattle.part_model.specs.Directory.{oldest_member}
use Rattle.part_model.specs.NextMap.{is_member}
use Rattle.ignite_types.specs.declared.journal.Rec.{Rec}
use Rattle.ignite_types.specs.declared.message.Message.{Message}
use Rattle.ignite_types.specs.declared.message.Out.{Out}
use Rattle.ignite_types.specs.declared.message.Single.{Single}
use Rattle.ignite_types.specs.declared.names.NodeId.{NodeId}
use Rattle.ignite_types.specs.declared.names.TopVer.{TopVer}
use Rattle.ignite_types.specs.declared.placement.PartMap.{PartMap}
use Rattle.ignite_types.specs.declared.scenario.Member.{Member}
use Rattle.ignite_types.specs.declared.scenario.Scenario.{Scenario}
use Rattle.journal_statements.specs.Noted.{Noted, is_lost, map_of_version, maps_installed}
use Rattle.journal_statements.specs.Topologies.{Topology}
use Rattle.link_laws.proofs.Frames.{all_change}
use Rattle.node_state.specs.declared.life.Life.{Life}
use Rattle.node_state.specs.declared.topology.Exchange.{Exchange}
use Rattle.topology_laws.specs.TopologyFacts.{AllHaveInstalled, OldestHasMap, HoldsOfEach, ExchangeFits, RecordsFitFrom, RecordFits, HasMap, HasMapItself, HasSomeMap, HasSeen, IsExact, IsUnjoined, IsMemberOf, IsMapOfVersion, IsOldestMember, MapFits, MemberFits, NodeFits, OldestFits, PartFits, SingleTells, MessageTells, is_lost_or_has_installed, last_members}
use Rattle.topology_laws.specs.TopologyScenes.{TopologyScene, TopologyState, has_noted_map, map_of, topology_at}
use Rattle.topology_laws.proofs.Lists.{each_change}
use Rattle.topology_laws.proofs.Records.{or_first, or_second}
use Rattle.ignite_types.specs.declared.message.Message.TheVariants as msg
use Rattle.ignite_types.specs.declared.journal.Rec.TheVariants as note
use Rattle.node_state.specs.declared.life.Life.TheVariants as life

pub record Later (a b : TopologyScene) : Type 0 where
  pub same_scenario : b.scenario ≡ a.scenario
  pub events : (k : ℕ) → k ≤ length a.events → (k ≤ length b.events) × (topology_at b k ≡ topology_at a k)
  pub lost : (n : NodeId) → is_lost a.recs n ≡ true → is_lost b.recs n ≡ true
  pub installed : (top : TopVer) (n : NodeId) → has_noted_map a.recs top n ≡ true → has_noted_map b.recs top n ≡ true
  pub maps : (top : TopVer) (m : PartMap) → map_of a top ≡ Some m → map_of b top ≡ Some m
  pub seen : (top : TopVer) (n : NodeId) → HasSeen a top n → HasSeen b top n
  pub has_map : (top : TopVer) (n : NodeId) → HasMap a top n → HasMap b top n
  pub exact : (from to : NodeId) (top : TopVer) (m : Option PartMap) → SingleTells a from to top m → IsExact b from to top m

module _ (a b : TopologyScene) (l : Later a b) where
  either_later : (top : TopVer) (x y : Bool) (m : Member) → is_lost a.recs m.node ≡ x → has_noted_map a.recs top m.node ≡ y →
      (x || y) ≡ true → is_lost_or_has_installed b.recs top m ≡ true
  either_later top true y m x_is y_is e = or_first (is_lost b.recs m.node) (has_noted_map b.recs top m.node)
      (l.lost m.node x_is)
  either_later top false true m x_is y_is e = or_second (is_lost b.recs m.node) (has_noted_map b.recs top m.node)
      (l.installed top m.node y_is)
  either_later top false false m x_is y_is e = absurd (cc (e))

  pub all_installed_later : (top : TopVer) → AllHaveInstalled a top → AllHaveInstalled b top
  all_installed_later top i =
      let at = l.events i.place i.within in
      record {
        place = i.place;
        within = at.0;
        is_top = ap (λ (t : Topology). t.top) at.1 ∙ i.is_top;
        all = subst (λ (t : Topology). list_all (is_lost_or_has_installed b.recs top) t.members ≡ true) (sym at.1)
            (all_change (is_lost_or_has_installed a.recs top) (is_lost_or_has_installed b.recs top)
            (topology_at a i.place).members
            (λ m e. either_later top (is_lost a.recs m.node) (has_noted_map a.recs top m.node) m refl refl e) i.all);
      }

  pub computed_later : (top : TopVer) → OldestHasMap a top → OldestHasMap b top
  computed_later top c =
      let at = l.events c.place c.within in
      record {
        place = c.place;
        within = at.0;
        is_top = ap (λ (t : Topology). t.top) at.1 ∙ c.is_top;
        by_oldest = λ n is. l.has_map top n
            (c.by_oldest n (subst (λ (t : Topology). oldest_member t.members ≡ Some n) at.1 is));
      }

  pub oldest_later : (top : TopVer) (n : NodeId) → IsOldestMember a top n → IsOldestMember b top n
  oldest_later top n o =
      let at = l.events o.place o.within in
      record {
        place = o.place;
        within = at.0;
        is_top = ap (λ (t : Topology). t.top) at.1 ∙ o.is_top;
        oldest =
            ap (λ (t : Topology). oldest_member t.members) at.1 ∙ o.oldest;
      }

  pub in_later : (top : TopVer) (n : NodeId) → IsMemberOf a top n → IsMemberOf b top n
  in_later top n o =
      let at = l.events o.place o.within in
      record {
        place = o.place;
        within = at.0;
        is_top = ap (λ (t : Topology). t.top) at.1 ∙ o.is_top;
        member =
            ap (λ (t : Topology). is_member t.members n) at.1 ∙ o.member;
      }

  pub member_later : (n : NodeId) (m : Option PartMap) → MemberFits a n m → MemberFits b n m
  member_later n None fits = tt
  member_later n (Some m) fits = in_later m.top n fits

  pub is_map_later : (m : Option PartMap) → IsMapOfVersion a m → IsMapOfVersion b m
  is_map_later None is = tt
  is_map_later (Some m) is = l.maps m.top m is

  pub has_it_later : (n : NodeId) (m : Option PartMap) → HasMapItself a n m → HasMapItself b n m
  has_it_later n None has = tt
  has_it_later n (Some m) has = l.has_map m.top n has

  pub single_later : (from to : NodeId) (top : TopVer) (m : Option PartMap) → SingleTells a from to top m →
      SingleTells b from to top m
  single_later from to top m t = (
    l.seen top from t.0,
    oldest_later top to t.1,
    is_map_later m t.2,
    l.exact from to top m t,
    has_it_later from m t.4,
  )

  pub one_later : (top : TopVer) → HasSomeMap a top → HasSomeMap b top
  one_later top o = record { one = o.one; is_map = l.maps top o.one o.is_map }

  pub oldest_fits_later : (n : NodeId) (x : Option Exchange) → OldestFits a n x → OldestFits b n x
  oldest_fits_later n None fits = tt
  oldest_fits_later n (Some x) fits = (oldest_later x.top n fits.0, one_later x.top fits.1)

  pub tells_later : (from to : NodeId) (m : Message) → MessageTells a from to m → MessageTells b from to m
  tells_later from to (msg.Single top m complete) t = single_later from to top m t
  tells_later from to (msg.Full m) t = (
    l.seen m.top to t.0,
    l.maps m.top m t.1,
    oldest_later m.top from t.2,
    l.has_map m.top from t.3,
    in_later m.top to t.4,
  )
  tells_later from to (msg.Installed top) t = l.installed top from t
  tells_later from to (msg.Opens top) t = (all_installed_later top t.0, oldest_later top from t.1, one_later top t.2)
  tells_later from to _ t = t

  pub link_later : (from to : NodeId) (ms : List Message) → HoldsOfEach (MessageTells a from to) ms →
      HoldsOfEach (MessageTells b from to) ms
  link_later from to ms all = each_change (MessageTells a from to) (MessageTells b from to) ms
      (λ m t. tells_later from to m t) all

  pub outbox_later : (n : NodeId) (outs : List Out) → HoldsOfEach (λ (o : Out). MessageTells a n o.to o.msg) outs →
      HoldsOfEach (λ (o : Out). MessageTells b n o.to o.msg) outs
  outbox_later n outs all = each_change (λ (o : Out). MessageTells a n o.to o.msg) (λ (o : Out). MessageTells b n o.to o.msg)
      outs (λ o t. tells_later n o.to o.msg t) all

  pub singles_later : (n : NodeId) (xs : List Single) → HoldsOfEach (λ (x : Single). SingleTells a x.from n x.top x.map) xs →
      HoldsOfEach (λ (x : Single). SingleTells b x.from n x.top x.map) xs
  singles_later n xs all = each_change (λ (x : Single). SingleTells a x.from n x.top x.map)
      (λ (x : Single). SingleTells b x.from n x.top x.map) xs (λ x t. single_later x.from n x.top x.map t) all

  pub map_later : (t : Topology) (m : Option PartMap) → MapFits a t m → MapFits b t m
  map_later t None fits = tt
  map_later t (Some m) fits = (l.maps m.top m fits.0, fits.1)

  pub exchange_later : (t : Topology) (x : Option Exchange) → ExchangeFits a t x → ExchangeFits b t x
  exchange_later t None fits = tt
  exchange_later t (Some x) fits = (
    fits.0,
    all_change (has_noted_map a.recs x.top) (has_noted_map b.recs x.top) x.installed (λ n e. l.installed x.top n e)
        fits.1,
  )

  pub node_later : (n : NodeId) (f : TopologyState) → is_lost b.recs n ≡ false → is_member (last_members b) n ≡ true →
      NodeFits a n f → NodeFits b n f
  node_later n f lives member fits =
      let at = l.events f.read fits.within in
      record {
        me_is = fits.me_is;
        not_lost = lives;
        member = member;
        within = at.0;
        known_is = fits.known_is ∙ sym at.1;
        map_fits = map_later f.known f.installed fits.map_fits;
        map_member = member_later n f.installed fits.map_member;
        exchange_fits = exchange_later f.known f.exchange fits.exchange_fits;
        exchange_oldest = oldest_fits_later n f.exchange fits.exchange_oldest;
        singles_tell = singles_later n f.singles fits.singles_tell;
        outbox_tells = outbox_later n f.outbox fits.outbox_tells;
      }

  fresh_later : (n : NodeId) (f : TopologyState) → IsUnjoined a n f → IsUnjoined b n f
  fresh_later n f fits = record {
    me_is = fits.me_is;
    none_read = fits.none_read;
    known_is = fits.known_is ∙ sym (l.events 0 (omega arith)).1;
    no_map = fits.no_map;
    no_exchange = fits.no_exchange;
    no_singles = fits.no_singles;
    no_outbox = fits.no_outbox;
  }

  pub seat_later : (n : NodeId) (at : Life) (f : TopologyState) →
      (at ≡ life.Alive → (is_lost b.recs n ≡ false) × (is_member (last_members b) n ≡ true)) → PartFits a n at f →
      PartFits b n at f
  seat_later n life.Alive f lives fits = (let both = lives refl in node_later n f both.0 both.1 fits)
  seat_later n life.Absent f lives fits = fresh_later n f fits
  seat_later n life.Gone f lives fits = tt

  opened_later : (before : List Noted) (top : TopVer) → AllHaveInstalled (record a { recs = before }) top →
      AllHaveInstalled (record b { recs = before }) top
  opened_later before top i =
      let at = l.events i.place i.within in
      record {
        place = i.place;
        within = at.0;
        is_top = ap (λ (t : Topology). t.top) at.1 ∙ i.is_top;
        all = subst (λ (t : Topology). list_all (is_lost_or_has_installed before top) t.members ≡ true) (sym at.1) i.all;
      }

  fits_later : (before : List Noted) (r : Rec) → RecordFits a before r → RecordFits b before r
  fits_later before (note.Install m) fits =
      λ there is. fits there (subst (λ (s : Scenario). map_of_version (maps_installed s before) m.top ≡ Some there)
      l.same_scenario is)
  fits_later before (note.Opened top) fits = opened_later before top fits
  fits_later before _ fits = fits

  pub fit_later : (before ns : List Noted) → RecordsFitFrom a before ns → RecordsFitFrom b before ns
  fit_later before [] fits = tt
  fit_later before (n ∷ ns) fits = (fits_later before n.rec fits.0, fit_later (before ++ n ∷ []) ns fits.1)

pub later_itself : (a : TopologyScene) → Later a a
later_itself a = record {
  same_scenario = refl;
  events = λ k within. (within, refl);
  lost = λ n e. e;
  installed = λ top n e. e;
  maps = λ top m e. e;
  seen = λ top n e. e;
  has_map = λ top n e. e;
  exact = λ from to top m t. t.3;
}

pub later_twice : (a b c : TopologyScene) → Later a b → Later b c → Later a c
later_twice a b c x y = record {
  same_scenario = y.same_scenario ∙ x.same_scenario;
  events = λ k within. let first = x.events k within in let second = y.events k first.0 in (second.0, second.1 ∙ first.1);
  lost = λ n e. y.lost n (x.lost n e);
  installed = λ top n e. y.installed top n (x.installed top n e);
  maps = λ top m e. y.maps top m (x.maps top m e);
  seen = λ top n e. y.seen top n (x.seen top n e);
  has_map = λ top n e. y.has_map top n (x.has_map top n e);
  exact = λ from to top m t. y.exact from to top m (single_later a b x from to top m t);
}
